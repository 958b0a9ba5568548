-- Idle cycles leave nothing pending, one record more in each.
use Rattle.laws.specs.Prelude.{Element, Idle, List, Request, ◌+◌, ◌<◌, ◌∙◌, ◌≡◌, ◌≤◌, ap, arith, length, length-set, refl, replicate, suc, zero, ℕ, ℕ_discrete}
use Rattle.bucket_model.specs.declared.Lay.{Lay}
use Rattle.bucket_model.specs.Prelude.{Laid, Store, Storey, storey}
use Rattle.promise.specs.Prelude.{leaves}
use Rattle.std.specs.Prelude.{Option}
use Rattle.bucket_clock_model.specs.declared.Waiting.{Waiting}
use Rattle.bucket_clock_model.specs.Desk.{Desk, handed, no_work, stage_done, stages, cycled, cycling, CycleOutcome, cycle_run, waiting, work_at}
use Rattle.bucket_clock_model.specs.Lists.{takes}
use Rattle.bucket_clock_model.specs.Words.{way_below, way_if}
use Rattle.bucket_clock_model.proofs.Kept.{Kept}
use Rattle.bucket_clock_model.proofs.Runs.{goes_on, cycle-is}
use Rattle.bucket_clock_model.proofs.Worked.{work-other, work-same}

-- the records above storey e stand
keeps-above : (k : Lay) (d e : ℕ) (g : Waiting) (m : Desk) (n : ℕ) → n < e → work_at (stages k e d g m).next.records n ≡ work_at m.records n
unfolding stages
keeps-above k zero e g m n h = refl
keeps-above k (suc d) e g m n h =
    keeps-above k d (suc e) (work_at m.records e) (stage_done k e d g m) n (omega arith) ∙ work-other m.records e n (handed (storey k.bits e) g m.bits) (λ q. omega arith)

-- nothing is handed on of nothing
idle-handed : (p : Storey) (g : Waiting) (b : List ℕ) → g.does ≡ Idle → handed p g b ≡ no_work
idle-handed p g b e = ap (λ (q : Request). waiting q (way_if (takes q) (way_below p b g.way))) e

own : (k : Lay) (d e : ℕ) (g : Waiting) (m : Desk) → e + suc d ≤ length m.records → g.does ≡ Idle → (i : ℕ) → i ≡ e → work_at (stages k (suc e) d (work_at m.records e) (stage_done k e d g m)).next.records i ≡ no_work
own k d e g m long idle i q =
    ap (work_at (stages k (suc e) d (work_at m.records e) (stage_done k e d g m)).next.records) q ∙ keeps-above k d (suc e) (work_at m.records e) (stage_done k e d g m) e (omega arith)
    ∙ work-same m.records e (handed (storey k.bits e) g m.bits) (omega arith) ∙ idle-handed (storey k.bits e) g m.bits idle

-- where the first n records from storey e on wait with nothing, and nothing comes in, n + 1 do after the cycle
pub quiet-stages : (k : Lay) (d e : ℕ) (g : Waiting) (m : Desk) → e + d ≤ length m.records → g.does ≡ Idle → (n : ℕ)
    → ((i : ℕ) → e ≤ i → i < e + n → i < e + d → (work_at m.records i).does ≡ Idle) → (i : ℕ) → e ≤ i → i < suc (e + n) → i < e + d → work_at (stages k e d g m).next.records i ≡ no_work
unfolding stages
quiet-stages k zero e g m long idle n quiet i a b c = absurd (omega arith)
quiet-stages k (suc d) e g m long idle zero quiet i a b c = own k d e g m long idle i (omega arith)
quiet-stages k (suc d) e g m long idle (suc n) quiet i a b c = elim (ℕ_discrete i e) [
  | yes q ↦ own k d e g m long idle i q
  | no q ↦ quiet-stages k d (suc e) (work_at m.records e) (stage_done k e d g m) (omega (arith, length-set m.records e (handed (storey k.bits e) g m.bits))) (quiet e (omega arith) (omega arith) (omega arith)) n
      (λ j x y z. ap (λ (u : Waiting). u.does) (work-other m.records e j (handed (storey k.bits e) g m.bits) (λ q. omega arith)) ∙ quiet j (omega arith) (omega arith) (omega arith)) i (omega arith) (omega arith) (omega arith)
]

module _ (k : Lay) (laid : Laid k) where
  -- the first n records wait with nothing
  abbrev pub Quiet : ℕ → Desk → Type 0
  Quiet n m = (i : ℕ) → i < n → i < k.storeys → work_at m.records i ≡ no_work

  idle-quiet : (n : ℕ) (m : Desk) (was : ℕ → Store) (ago : ℕ → List Element) (v : List (Option Element)) → Kept k laid m was ago v → Quiet n m → Quiet (suc n) (cycled k Idle m).desk
  unfolding cycle_run
  idle-quiet n m was ago v x q i a b =
      ap (λ (o : CycleOutcome). work_at o.desk.records i) (cycle-is k laid Idle m was ago v x)
      ∙ quiet-stages k k.storeys 0 (waiting Idle 0) m (omega (arith, x.long)) refl n (λ j c d e. ap (λ (u : Waiting). u.does) (q j (omega arith) (omega arith))) i (omega arith) (omega arith) (omega arith)

  pub idles-quiet : (n j : ℕ) (m : Desk) (was : ℕ → Store) (ago : ℕ → List Element) (v : List (Option Element)) → Kept k laid m was ago v → Quiet j m → Quiet (j + n) (leaves (cycling k) (replicate n Idle) m)
  unfolding leaves
  idles-quiet zero j m was ago v x q i a b = q i (omega arith) b
  idles-quiet (suc n) j m was ago v x q i a b =
      idles-quiet n (suc j) (cycled k Idle m).desk _ _ _ (goes_on k laid Idle m was ago v x).kept (idle-quiet j m was ago v x q) i (omega arith) b
