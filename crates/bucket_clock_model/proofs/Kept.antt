-- What every cycle keeps, on the words; and what a cycle then does.
use Rattle.laws.specs.Prelude.{All, BadPort, BadRank, BadShape, Damaged, Element, Empty, Full, Idle, List, NoHeap, NoTag, Pop, Push, Refusal, Replace, Request, TooSoon, ◌<◌, ◌∙◌, ◌≡◌, ◌≤◌, ap, arith, length, number_of, refl, refusal_number, subst, suc, sym, zero, ℕ, Ok, None, Err}
use Rattle.bucket_model.proofs.Laws.{Holds, calls, other, same, shaped-after}
use Rattle.bucket_model.specs.declared.Lay.{Lay}
use Rattle.bucket_model.specs.Prelude.{Laid, Store, ask, called, plain, said_number, word}
use Rattle.promise.specs.Prelude.{Ruling, decided-either, each-any, ruling}
use Rattle.bucket_clock_model.specs.Clock.{clocked, held_after, late_table, Machine, number_at, out_of, sent}
use Rattle.bucket_clock_model.specs.Damage.{BucketFit, DeskShaped, HeldFit, StagesFit, CycleFit}
use Rattle.std.specs.Prelude.{Option}
use Rattle.bucket_clock_model.specs.declared.Waiting.{Waiting}
use Rattle.bucket_clock_model.specs.Desk.{Desk, held_words, rule_now, stages, cycle_run, waiting}
use Rattle.bucket_clock_model.specs.Links.{bucket_leaves, bucket_stage}
use Rattle.bucket_clock_model.specs.Lists.{arrives, done, heeded, left, moved, newcomer, takes}
use Rattle.bucket_clock_model.specs.Pipe.{after, Pipe, piped, Shows}
use Rattle.bucket_clock_model.proofs.Clock.{cycles, left-all, placed-all, Same, same_at}
use Rattle.bucket_clock_model.proofs.Fine.{fits}
use Rattle.bucket_clock_model.proofs.Last.{after_store, last_fit, last-leaves, last_of, Linked}
use Rattle.bucket_clock_model.proofs.Links.{But, stage-held, stage-long}
use Rattle.bucket_clock_model.proofs.Vault.{Vaulted, vaults}
use Rattle.bucket_clock_model.proofs.Worked.{Does, Stands, stands-off, Within, works}
use Rattle.bucket_clock_model.proofs.Long.{cycle-long, held-long}
use Rattle.bucket_clock_model.proofs.Ruled.{rule-number}

-- ---- held

held-but : (k : Lay) (q : Request) (w v : List ℕ) → But k w v → But k (held_words k q w) v
held-but k q w v c = record { long = held-long k q w ∙ c.long; words = λ a n. at q a n ∙ c.words a n }
  where
    at : (q : Request) (a : ℕ) → (a ≡ k.held → ⊥) → word (held_words k q w) a ≡ word w a
    at Idle a n = refl
    at (Push x) a n = other w k.held _ a n
    at Pop a n = other w k.held _ a n
    at (Replace x) a n = refl

held-is : (k : Lay) (q : Request) (w : List ℕ) → k.held < length w → word (held_words k q w) k.held ≡ held_after q (word w k.held)
held-is k Idle w h = refl
held-is k (Push x) w h = same w k.held _ h
held-is k Pop w h = same w k.held _ h
held-is k (Replace x) w h = refl

-- ---- what a request comes to

idle-by : (q : Request) (n : Refusal) → Idle ≡ heeded (refusal_number n) q
idle-by q BadShape = refl
idle-by q Damaged = refl
idle-by q TooSoon = refl
idle-by q BadRank = refl
idle-by q Full = refl
idle-by q Empty = refl
idle-by q NoTag = refl
idle-by q BadPort = refl
idle-by q NoHeap = refl

module _ (k : Lay) (q : Request) (m : Desk) (h : ℕ) (e : word m.words k.held ≡ h) where
  pub rule-sent : (rule_now k q m).op ≡ sent k q h
  rule-sent =
      decided-either (λ n. ruling (Err n) Idle) (λ (g : Ruling Request). g.op ≡ heeded (number_of g.answer) q) (late_table k.ranks k.nodes q (word m.words k.held)) (ruling (Ok None) q)
      (each-any _ (idle-by q) (late_table k.ranks k.nodes q (word m.words k.held))) (λ c. refl)
      ∙ ap (λ (n : ℕ). heeded n q) (rule-number k q m h e)

-- ---- what every cycle keeps: `was i`, `ago i` are store and list of one at a time, i cycles ago; `later` what leaves in the cycles to come

module _ (k : Lay) (laid : Laid k) where
  pub record Kept (m : Desk) (was : ℕ → Store) (ago : ℕ → List Element) (later : List (Option Element)) : Type 0 where
    pub machine : Machine k.storeys
    pub held : word m.words k.held ≡ machine.held
    pub stands : Stands k 0 k.storeys m machine.pipe
    pub shaped : DeskShaped k m
    pub long : k.storeys ≤ length m.records
    pub vault : Vaulted k laid machine m.words was ago later
    pub near : (i : ℕ) → Within k.storeys (ago i)

  pub within : (l : List Element) → All (λ x. x.rank.0 < k.ranks) l → Within k.storeys l
  within l a = subst (λ (n : ℕ). All (λ x. x.rank.0 < n) l) laid.ranks a

  holds-few : (b w : List ℕ) (l : List Element) → Holds k laid b w l → length l ≤ k.nodes
  holds-few b w l h = omega (arith, h.room)

  last_fits : (S : ℕ) (g : Waiting) (P : Pipe S) (was : ℕ → Store) (ago : ℕ → List Element) (v : List (Option Element)) (w : List ℕ) → 1 ≤ S → Linked k laid S P was ago → Shows S P ago v
      → ((i : ℕ) → Holds k laid (was i).bits (was i).words (ago i)) → But k w (was S).words → BucketFit k (last_of S g P).does (last_of S g P).way w
  last_fits zero g P was ago v w s l h o c = absurd (omega arith)
  last_fits (suc d) g P was ago v w s l h o c = last_fit k laid d g P was ago v w l h o c

  last-gives : (S : ℕ) (g : Waiting) (P : Pipe S) (was : ℕ → Store) (ago : ℕ → List Element) (v : List (Option Element)) (w : List ℕ) (q : Request) (r : ℕ) → 1 ≤ S → Shows S P ago v
      → ((i : ℕ) → Holds k laid (was i).bits (was i).words (ago i)) → But k w (was S).words
      → bucket_leaves k (takes (last_of S g P).does) (last_of S g P).way w ≡ (piped S q r P).said
  last-gives zero g P was ago v w q r s h o c = absurd (omega arith)
  last-gives (suc d) g P was ago v w q r s h o c = last-leaves k laid d g P was ago v w q r h o c

  -- ---- one cycle

  module _ (q : Request) (m : Desk) (was : ℕ → Store) (ago : ℕ → List Element) (later : List (Option Element)) (x : Kept m was ago later) where
    abbrev S : ℕ
    S = k.storeys

    abbrev M : Machine k.storeys
    M = x.machine

    -- what is sent into the stages
    abbrev u : Request
    u = sent k q x.machine.held

    abbrev g : Waiting
    g = waiting u 0

    abbrev last : Waiting
    last = last_of k.storeys g x.machine.pipe

    fit_at : Same k.storeys k.ranks laid.ranks q (number_at k.ranks k.nodes q x.machine.held) (ago 0) (plain k (ask q) (ago 0))
    fit_at = same_at k laid q M ago later x.vault.runs

    new-within : Within S (done u (ago 0))
    new-within =
        within (done u (ago 0)) (placed-all k.ranks (newcomer u) (left (takes u) (ago 0)) fit_at.ranked (left-all k.ranks (takes u) (ago 0) x.vault.runs.ranked))

    new-few : length (done u (ago 0)) ≤ k.nodes
    new-few = subst (λ (l : List Element). length l ≤ k.nodes) (sym fit_at.next) (holds-few _ _ _ (calls k laid (was 0) (ago 0) (x.vault.holds 0) (ask q)).holds)

    last-good : BucketFit k last.does last.way m.words
    last-good = last_fits S g M.pipe was ago later m.words laid.deep x.vault.linked x.vault.runs.shows x.vault.holds x.vault.but

    does : Does k 0 S (stages k 0 S g m) g m M.pipe
    does = works k S S 0 (omega arith) g m M.pipe ago later x.vault.runs.sorted fit_at.fit x.vault.runs.shows x.near new-within x.long x.stands

    stages-good : StagesFit k 0 S g m
    stages-good =
        fits k S laid.ranks S 0 (omega arith) g m M.pipe ago later x.vault.runs.sorted fit_at.fit x.vault.runs.shows x.near new-within
        (λ i. holds-few (was i).bits (was i).words (ago i) (x.vault.holds i)) new-few x.stands last-good

    held-good : (q : Request) → HeldFit k q m.words
    held-good Idle = tt
    held-good (Push y) = omega (arith, x.held, x.vault.runs.held, holds-few (was 0).bits (was 0).words (ago 0) (x.vault.holds 0))
    held-good Pop = omega (arith, x.held, x.vault.runs.held, holds-few (was 0).bits (was 0).words (ago 0) (x.vault.holds 0))
    held-good (Replace y) = omega (arith, x.held, x.vault.runs.held, holds-few (was 0).bits (was 0).words (ago 0) (x.vault.holds 0))

    -- UNDAMAGED: all tests hold
    pub cycle-good : CycleFit k q m
    cycle-good = (held-good q, subst (λ (v : Request). StagesFit k 0 S (waiting v 0) m) (sym (rule-sent k q m M.held x.held)) stages-good)

    -- NUMBERS: that of one at a time
    pub cycle-number : number_of (rule_now k q m).answer ≡ said_number (plain k (ask q) (ago 0)).said
    cycle-number = rule-number k q m M.held x.held ∙ fit_at.number

    -- LEAVES: what the list of one at a time gives out, when it has come through all stages
    run-leaves : (cycle_run k u m).said ≡ arrives later (out_of (plain k (ask q) (ago 0)).said)
    unfolding cycle_run clocked
    run-leaves = does.leaves ∙ last-gives S g M.pipe was ago later m.words u 0 laid.deep x.vault.runs.shows x.vault.holds x.vault.but ∙ (cycles k laid q M ago later x.vault.runs).leaves

    abbrev now : Store
    now = (called k (ask q) (was 0)).next

    abbrev w1 : List ℕ
    w1 = bucket_stage k last.does last.way m.words

    words-held : word (held_words k u w1) k.held ≡ held_after u M.held
    words-held =
        held-is k u w1 (omega (arith, stage-long k last.does last.way m.words, x.shaped.store.words)) ∙ ap (held_after u) (stage-held k laid last.does last.way m.words last-good ∙ x.held)

    run-kept : Kept (cycle_run k u m).next (after_store (called k (ask q) (was 0)).next was) (after (plain k (ask q) (ago 0)).next ago) (moved later (out_of (plain k (ask q) (ago 0)).said))
    unfolding cycle_run clocked
    run-kept =
        let r = stages k 0 S g m in
        let v = vaults k laid q g M m.words was ago later x.vault in
        let long = cycle-long k u m in
        record {
          machine = (clocked k q M).next;
          held = ap (λ (w : List ℕ). word (held_words k u w) k.held) does.words ∙ words-held;
          stands = stands-off k 0 S r.next (cycle_run k u m).next (piped S u 0 M.pipe).next (λ n f l t. t) (λ n l. refl) does.stands;
          shaped = record { store = shaped-after k m.bits m.words _ _ long.bits long.words x.shaped.store; counts = omega (arith, long.counts, x.shaped.counts) };
          long = omega (arith, long.records, x.long);
          vault = record {
            runs = v.runs;
            linked = v.linked;
            holds = v.holds;
            but = held-but k u r.next.words (after_store (called k (ask q) (was 0)).next was k.storeys).words (subst (λ (w : List ℕ). But k w (after_store (called k (ask q) (was 0)).next was k.storeys).words) (sym does.words) v.but);
          };
          near = near_next;
        }
      where
        near_next : (i : ℕ) → Within k.storeys (after (plain k (ask q) (ago 0)).next ago i)
        near_next zero = subst (Within k.storeys) fit_at.next new-within
        near_next (suc i) = x.near i

    -- the same of what the cycle rules
    pub cycle-leaves : (cycle_run k (rule_now k q m).op m).said ≡ arrives later (out_of (plain k (ask q) (ago 0)).said)
    cycle-leaves = subst (λ (v : Request). (cycle_run k v m).said ≡ arrives later (out_of (plain k (ask q) (ago 0)).said)) (sym (rule-sent k q m M.held x.held)) run-leaves

    pub cycle-kept : Kept (cycle_run k (rule_now k q m).op m).next (after_store (called k (ask q) (was 0)).next was) (after (plain k (ask q) (ago 0)).next ago) (moved later (out_of (plain k (ask q) (ago 0)).said))
    cycle-kept =
        subst (λ (v : Request). Kept (cycle_run k v m).next (after_store (called k (ask q) (was 0)).next was) (after (plain k (ask q) (ago 0)).next ago) (moved later (out_of (plain k (ask q) (ago 0)).said))) (sym (rule-sent k q m M.held x.held)) run-kept
