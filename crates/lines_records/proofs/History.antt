-- A list of lent calls is the list of by-value calls: the host's memory holds the machine that they leave.
use Rattle.laws.specs.Prelude.{BadShape, Bool, Element, Idle, List, Pop, Push, Replace, Request, [], ◌∙◌, ◌≡◌, ◌≤◌, and_left, and-true, ap, arith, cond, false, get_or-set_same, has_run, le-leb, leb, leb-true, length, length-set, ltb, ltb-false, refl, set, subst, sym, true, true≢false, ℕ, Ok, None, Err}
use Rattle.lines_model.proofs.Clocked.{ticks}
use Rattle.lines_model.specs.Calls.{wipe}
use Rattle.lines_model.specs.Clock.{clock, clock_cleared, drains, fresh, fronts, Machine, machine, cycled, ticking}
use Rattle.lines_model.specs.Layout.{shape_ok, store_words, word}
use Rattle.lines_model.specs.Rules.{ask_table, giver, late_table}
use Rattle.lines_model.specs.declared.Due.TheVariants.{Rest}
use Rattle.lines_model.specs.declared.Rows.{Rows}
use Rattle.lines_records.proofs.Records.{kind-back, read_back}
use Rattle.lines_records.specs.History.{cleared_memory, Holds, lent_calls, Memory, memory}
use Rattle.lines_records.specs.Lent.{drain_of, first_of, kind_in, LentDrain, lent_cleared, lent_cycled, lent_drains, lent_of, lent_outcome, LentOutcome, LineRecord, no_record, pending_of, readable, record_of, records_back}
use Rattle.promise.proofs.Clock.{either}
use Rattle.promise.proofs.Drains.{drain-state}
use Rattle.promise.specs.Prelude.{Each, Outcome, SoleCall, answers, answers-same, calls, cycle, drain, grants, idled, leaves, leaves-in-step, left, outcome}

-- ---- a cycle that did not run left everything
runs-granted : (q : Request) (e : Element) → has_run (grants q e) ≡ true
runs-granted Idle e = refl
runs-granted (Push x) e = refl
runs-granted Pop e = refl
runs-granted (Replace x) e = refl

module _ (k : Rows) where
  left-all : (q : Request) (m : Machine) → has_run (cycled k q m).answer ≡ false → (cycled k q m).words ≡ m
  unfolding cycled
  left-all q m =
      either (ticks k) q m (λ o. has_run o.answer ≡ false → o.words ≡ m) (λ e. refl) (λ e. refl) (λ s f. late q)
      (λ s f t e. absurd (true≢false (sym (runs-granted q (fronts k m (giver k (word m.words) (fronts k m)))) ∙ e)))
    where
      no : {A : Type 0} → true ≡ false → A
      no e = absurd (true≢false e)

      late : (r : Request) → Each (λ n. has_run (Err n) ≡ false → (clock k).moves Idle m ≡ m) (ask_table k r (late_table k (word m.words) (fronts k m) r))
      late Idle = (no, (no, tt))
      late (Push x) = (no, (no, (no, tt)))
      late Pop = (no, (no, (no, tt)))
      late (Replace x) = (no, (no, (no, (no, tt))))

  -- ---- one call
  module _ (rs : List LineRecord) (ws : List ℕ) (m : Machine) (h : Holds (memory rs ws) m) where
    is : machine ws (pending_of (first_of rs)) ≡ m
    is = λ i. machine (h.words i) (h.due i)

    long : 1 ≤ length rs
    unfolding readable
    long = leb-true 1 (length rs) (and_left (leb 1 (length rs)) (leb (kind_in (first_of rs)) 3) h.read)

    -- a record written where a cycle ran, or standing where nothing has changed
    back : (b : Bool) (next : Machine) → (b ≡ false → next ≡ m) → Holds (memory (records_back b next.due rs) next.words) next
    unfolding readable
    back true next g =
        let first : first_of (set rs 0 (record_of next.due)) ≡ record_of next.due = get_or-set_same rs 0 (record_of next.due) [] long in
        record {
          read = and-true (leb 1 (length (set rs 0 (record_of next.due)))) (leb (kind_in (first_of (set rs 0 (record_of next.due)))) 3)
              (le-leb 1 (length (set rs 0 (record_of next.due))) (omega (arith, long, length-set rs 0 (record_of next.due))))
              (ap (λ (r : LineRecord). leb (kind_in r) 3) first ∙ kind-back next.due);
          due = ap pending_of first ∙ read_back next.due;
          words = refl;
        }
    back false next g = record { read = h.read; due = h.due ∙ ap (λ (z : Machine). z.due) (sym (g refl)); words = refl }

    cycle-is : (q : Request) → lent_cycled k rs ws q ≡ lent_of rs (cycled k q m)
    unfolding lent_cycled
    cycle-is q = rw h.read (ap (λ (z : Machine). lent_of rs (cycled k q z)) is)

    drain-is : (b : ℕ) → lent_drains k rs ws b ≡ drain_of rs (drains k b m)
    unfolding lent_drains
    drain-is b = rw h.read (ap (λ (z : Machine). drain_of rs (drains k b z)) is)

    drain-stood : (b : ℕ) → ltb 0 (drains k b m).cycles ≡ false → (drains k b m).state ≡ m
    unfolding drains leaves
    drain-stood b e =
        let z : (drains k b m).cycles ≡ 0 = omega (arith, ltb-false 0 (drains k b m).cycles e) in
        drain-state (ticks k) b m ∙ ap (λ (n : ℕ). idled (ticking k) n m) z

    -- SAME: the answer is the by-value call's ..
    pub one-said : (c : SoleCall) → (lent_calls k c (memory rs ws)).said ≡ (calls (clock k) (ticking k) c m).said
    unfolding cycled drains
    one-said (cycle q) = ap (λ (o : LentOutcome). o.answer) (cycle-is q)
    one-said (drain b) = ap (λ (o : LentDrain). o.answer) (drain-is b)

    -- .. and the memory holds what that leaves
    pub one-next : (c : SoleCall) → Holds (lent_calls k c (memory rs ws)).next (calls (clock k) (ticking k) c m).next
    unfolding cycled drains
    one-next (cycle q) =
        subst (λ (o : LentOutcome). Holds (memory o.records o.words) (cycled k q m).words) (sym (cycle-is q))
        (back (has_run (cycled k q m).answer) (cycled k q m).words (left-all q m))
    one-next (drain b) =
        subst (λ (o : LentDrain). Holds (memory o.records o.words) (drains k b m).state) (sym (drain-is b))
        (back (ltb 0 (drains k b m).cycles) (drains k b m).state (drain-stood b))

  -- ---- any list of cycles and drains
  module _ (cs : List SoleCall) (x : Memory) (m : Machine) (h : Holds x m) where
    said : (c : SoleCall) (x : Memory) (m : Machine) → Holds x m → (lent_calls k c x).said ≡ (calls (clock k) (ticking k) c m).said
    said c x m h = one-said x.records x.words m h c

    next : (c : SoleCall) (x : Memory) (m : Machine) → Holds x m → Holds (lent_calls k c x).next (calls (clock k) (ticking k) c m).next
    next c x m h = one-next x.records x.words m h c

    -- LENT: what they are answered is what the by-value calls are answered, and the memory holds the machine that those leave
    pub lent-answers : answers (lent_calls k) cs x ≡ answers (calls (clock k) (ticking k)) cs m
    lent-answers = answers-same (lent_calls k) (calls (clock k) (ticking k)) Holds said next cs x m h

    pub lent-leaves : Holds (leaves (lent_calls k) cs x) (leaves (calls (clock k) (ticking k)) cs m)
    lent-leaves = leaves-in-step (lent_calls k) (calls (clock k) (ticking k)) Holds said next cs x m h

  -- a cleared memory holds the cleared machine, whatever it was
  module _ (rs : List LineRecord) (ws : List ℕ) (h : 1 ≤ length rs) (s : shape_ok k (length ws) ≡ true) where
    cleared-is : lent_cleared k rs ws ≡ lent_outcome (Ok None) (wipe (store_words k) ws) (set rs 0 no_record)
    unfolding lent_cleared clock_cleared
    cleared-is = rw (le-leb 1 (length rs) h, s) refl

    fresh-is : fresh k (machine ws Rest) ≡ machine (wipe (store_words k) ws) Rest
    unfolding clock_cleared
    fresh-is = ap (λ (b : Bool). (cond {A = Outcome Machine} b (outcome (Ok None) (machine (wipe (store_words k) ws) Rest)) (left (machine ws Rest) BadShape)).words) s

    pub lent-cleared : Holds (cleared_memory k (memory rs ws)) (fresh k (machine ws Rest))
    unfolding readable
    lent-cleared =
        let first : first_of (set rs 0 no_record) ≡ no_record = get_or-set_same rs 0 no_record [] h in
        subst (λ (z : Machine). Holds (cleared_memory k (memory rs ws)) z) (sym fresh-is)
        (subst (λ (o : LentOutcome). Holds (memory o.records o.words) (machine (wipe (store_words k) ws) Rest)) (sym cleared-is)
        (record {
          read = and-true (leb 1 (length (set rs 0 no_record))) (leb (kind_in (first_of (set rs 0 no_record))) 3)
              (le-leb 1 (length (set rs 0 no_record)) (omega (arith, h, length-set rs 0 no_record))) (ap (λ (r : LineRecord). leb (kind_in r) 3) first);
          due = ap pending_of first ∙ read_back Rest;
          words = refl;
        }))
