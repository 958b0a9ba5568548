-- What lawful calls keep from a reset on: no waiting rank is below the clock, each flow's waiting strips are a chain up to its last finish that
-- starts at the clock or before, and no number is above the largest rank.
use Rattle.laws.specs.Prelude.{All, Any, List, [], ◌*◌, ◌++◌, ◌+◌, ◌<◌, ◌∙◌, ◌∷◌, ◌≡◌, ◌≤◌, all-at, all_map, all_snoc, arith, is-upd, length, mul-le-mul_right, refl, subst, suc, sym, take, upd, zero, ℕ, ℕ_discrete, ⊎_elim}
use Rattle.fair_model.proofs.Finish.{finish-is}
use native.Mathlib.Nat.{le-div_iff_mul-le, mul-pos}
use Rattle.fair_model.specs.Ranks.{cell_limit, cells, finish, Good, heaviest, latest, longest, step}
use Rattle.fair_model.specs.Ledger.{AllLawful, anew, bytes, comes, cost, entry, found, fresh, goes, Lawful, Move, moved, no_strip, rank, run, stays, Strip, without, World}
use Rattle.fair_model.proofs.Chain.{Chain, chain-any, chain-comes, chain_first, chain-goes, chain-none, chain-other, chain-passes, chain-some, some_or_none}

-- ---- the numbers of a strip within the limits
pub cells-some : (n : ℕ) → 1 ≤ n → 1 ≤ cells n
unfolding cells
cells-some n h = omega arith

pub cells-most : (n : ℕ) → n ≤ longest → cells n ≤ cell_limit
unfolding cells
cells-most n h = omega arith

pub step-some : (w : ℕ) → 1 ≤ w → w ≤ heaviest → 64 ≤ step w
unfolding step
step-some w lo hi = (le-div_iff_mul-le lo).1 (omega arith)

pub cost-some : (f w n : ℕ) → Good f w n → 0 < cells n * step w
cost-some f w n h = mul-pos (cells-some n h.long) (omega (arith, step-some w h.some h.light))

pub cost-most : (f w n : ℕ) → Good f w n → cells n * step w ≤ cell_limit * step w
cost-most f w n h = mul-le-mul_right (step w) (cells-most n h.short)

-- ---- a ledger in order
-- a strip is within the limits, and its rank too
pub record Right (x : Strip) : Type 0 where
  pub good : Good x.flow x.weight (bytes x)
  pub top : rank x ≤ latest

pub record Line (i p : ℕ) (s : World) : Type 0 where
  pub early : p ≤ s.clock
  pub chain : Chain i p s.waiting (s.last i)

pub record Lined (i : ℕ) (s : World) : Type 0 where
  pub start : ℕ
  pub line : Line i start s

pub record Orderly (s : World) : Type 0 where
  pub ahead : All (λ x. s.clock ≤ rank x) s.waiting
  pub right : All Right s.waiting
  pub time : s.clock ≤ latest
  pub spent : (i : ℕ) → s.last i ≤ latest
  pub line : (i : ℕ) → Lined i s

pub all_without : {A : Type 0} (P : A → Type 0) (n : ℕ) (l : List A) → All P l → All P (without n l)
unfolding without
all_without P n [] h = h
all_without P zero (x ∷ l) h = h.1
all_without P (suc n) (x ∷ l) h = (h.0, all_without P n l h.1)

positive : (l : List Strip) → All Right l → All (λ x. 0 < cost x) l
positive l h = all_map Right (λ x. 0 < cost x) (λ x r. cost-some x.flow x.weight (bytes x) r.good) l h

pub fresh-orderly : Orderly fresh
fresh-orderly = record { ahead = tt; right = tt; time = omega arith; spent = λ i. omega arith; line = λ i. record { start = 0; line = record { early = omega arith; chain = refl } } }

-- a strip comes in
module _ (s : World) (o : Orderly s) (f w n t : ℕ) (good : Good f w n) (fits : finish s.clock (s.last f) w n ≤ latest) where
  abbrev y : Strip
  y = entry s f w n t

  rank-y : rank y ≡ finish s.clock (s.last f) w n
  rank-y = refl

  abbrev after : World
  after = moved (comes f w n t) s

  comes-ahead : All (λ x. s.clock ≤ rank x) (s.waiting ++ y ∷ [])
  comes-ahead = all_snoc (λ x. s.clock ≤ rank x) s.waiting y o.ahead (omega (arith, rank-y, finish-is s.clock (s.last f) w n))

  comes-right : All Right (s.waiting ++ y ∷ [])
  comes-right = all_snoc Right s.waiting y o.right (record { good = good; top = omega (arith, rank-y) })

  last-y : rank y ≡ upd s.last f (finish s.clock (s.last f) w n) f
  last-y = rank-y ∙ sym (is-upd s.last f (finish s.clock (s.last f) w n)).here

  -- the chain of the strip's own flow grows where something of it waits, from the same start
  pub comes-own : (p : ℕ) → Any (λ x. x.flow ≡ f) s.waiting → Line f p s → Line f p after
  unfolding moved
  comes-own p a l =
      let le = chain-some f s.clock p s.waiting (s.last f) a o.ahead l.chain in
      let e : rank y ≡ s.last f + cost y = omega (arith, rank-y, finish-is s.clock (s.last f) w n) in
      record { early = l.early; chain = subst (λ (v : ℕ). Chain f p (s.waiting ++ y ∷ []) v) last-y (chain-comes f p s.waiting (s.last f) y refl e l.chain) }

  -- .. where nothing of it waits it starts at the clock
  comes-first : (p : ℕ) → All (λ x. x.flow ≡ f → ⊥) s.waiting → Line f p s → Line f s.clock after
  unfolding moved
  comes-first p a l =
      let q = chain-none f p s.waiting (s.last f) a l.chain in
      let e : rank y ≡ s.clock + cost y = omega (arith, rank-y, finish-is s.clock (s.last f) w n, l.early) in
      record {
        early = omega arith;
        chain = subst (λ (v : ℕ). Chain f s.clock (s.waiting ++ y ∷ []) v) last-y (chain-comes f s.clock s.waiting s.clock y refl e (chain-any f s.clock s.waiting a));
      }

  -- every other flow's stands
  pub comes-other : (i p : ℕ) → (i ≡ f → ⊥) → Line i p s → Line i p after
  unfolding moved
  comes-other i p ne l =
      record {
        early = l.early;
        chain = subst (λ (v : ℕ). Chain i p (s.waiting ++ y ∷ []) v) (sym ((is-upd s.last f (finish s.clock (s.last f) w n)).else i ne))
            (chain-passes i p s.waiting (s.last i) y (λ e. ne (sym e)) l.chain);
      }

  comes-line : (i : ℕ) → Lined i after
  comes-line i = elim (ℕ_discrete i f) [
    | yes e ↦ subst (λ (j : ℕ). Lined j after) (sym e) (⊎_elim (λ a. record { start = (o.line f).start; line = comes-own (o.line f).start a (o.line f).line })
        (λ a. record { start = s.clock; line = comes-first (o.line f).start a (o.line f).line }) (some_or_none f s.waiting))
    | no ne ↦ record { start = (o.line i).start; line = comes-other i (o.line i).start ne (o.line i).line }
  ]

  comes-spent : (i : ℕ) → upd s.last f (finish s.clock (s.last f) w n) i ≤ latest
  comes-spent i = elim (ℕ_discrete i f) [
    | yes e ↦ subst (λ (j : ℕ). upd s.last f (finish s.clock (s.last f) w n) j ≤ latest) (sym e) (subst (λ (v : ℕ). v ≤ latest) (sym (is-upd s.last f (finish s.clock (s.last f) w n)).here) fits)
    | no ne ↦ subst (λ (v : ℕ). v ≤ latest) (sym ((is-upd s.last f (finish s.clock (s.last f) w n)).else i ne)) (o.spent i)
  ]

  comes-orderly : Orderly after
  unfolding moved
  comes-orderly = record { ahead = comes-ahead; right = comes-right; time = o.time; spent = comes-spent; line = comes-line }

-- a strip goes out
module _ (s : World) (o : Orderly s) (q : ℕ) (here : q < length s.waiting) (least : All (λ x. rank (found s q) ≤ rank x) s.waiting) where
  abbrev x : Strip
  x = found s q

  abbrev left : World
  left = moved (goes q) s

  pub goes_later : s.clock ≤ rank x
  goes_later = all-at (λ x. s.clock ≤ rank x) s.waiting q no_strip o.ahead here

  -- the chain of the strip's own flow starts at its rank
  pub goes-own : (i p : ℕ) → x.flow ≡ i → Line i p s → (rank x ≡ p + cost x) × Line i (rank x) left
  unfolding moved
  goes-own i p e l =
      let d = chain-goes i q p s.waiting (s.last i) e here (positive s.waiting o.right) least l.chain in
      (d.0, record { early = omega arith; chain = d.1 })

  -- .. and none of its flow came before it
  pub goes_first : All (λ z. z.flow ≡ x.flow → ⊥) (take q s.waiting)
  goes_first = let l = o.line x.flow in chain_first x.flow q l.start s.waiting (s.last x.flow) refl here (positive s.waiting o.right) least l.line.chain

  -- every other flow's stands
  pub goes_other : (i p : ℕ) → (x.flow ≡ i → ⊥) → Line i p s → Line i p left
  unfolding moved
  goes_other i p ne l = record { early = omega (arith, l.early, goes_later); chain = chain-other i q p s.waiting (s.last i) ne here l.chain }

  goes-line : (i : ℕ) → Lined i left
  goes-line i = elim (ℕ_discrete x.flow i) [
    | yes e ↦ record { start = rank x; line = (goes-own i (o.line i).start e (o.line i).line).1 }
    | no ne ↦ record { start = (o.line i).start; line = goes_other i (o.line i).start ne (o.line i).line }
  ]

  goes-orderly : Orderly left
  unfolding moved
  goes-orderly =
      record {
        ahead = all_without (λ z. rank x ≤ rank z) q s.waiting least;
        right = all_without Right q s.waiting o.right;
        time = (all-at Right s.waiting q no_strip o.right here).top;
        spent = o.spent;
        line = goes-line;
      }

-- KEPT: every lawful call keeps the ledger in order
pub moved-orderly : (v : Move) (s : World) → Lawful v s → Orderly s → Orderly (moved v s)
unfolding moved
moved-orderly stays s h o = o
moved-orderly (comes f w n t) s h o = comes-orderly s o f w n t h.0 h.1
moved-orderly (goes q) s h o = goes-orderly s o q h.0 h.1
moved-orderly anew s h o = fresh-orderly

pub run-orderly : (vs : List Move) (s : World) → AllLawful vs s → Orderly s → Orderly (run vs s)
unfolding run
run-orderly [] s h o = o
run-orderly (v ∷ vs) s h o = run-orderly vs (moved v s) h.1 (moved-orderly v s h.0 o)
