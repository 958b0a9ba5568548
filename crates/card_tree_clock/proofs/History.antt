-- A list of clocked calls through the boundary is the list of by-value calls on the machine that store, records and mark hold.
use Rattle.laws.specs.Prelude.{Answer, Bool, Idle, List, Pop, Push, Replace, Request, ◌-◌, ◌∙◌, ◌≡◌, ◌≤◌, and_left, and-true, ap, arith, cond, eqb, false, get_or, get_or-set_same, le-leb, leb, leb-true, length, length-set, number_of, refl, subst, sym, true, ℕ}
use Rattle.card_tree_clock.specs.Clocked.{clocked_after, ClockedAfter, clocked_clear, clocked_cycle, clocked_drain, cycle_of, drain_of}
use Rattle.card_words.specs.Asked.{asked, marked, mark_in, mark_out, request_of}
use Rattle.card_words.specs.Out.{drain_out, answer_out, answer_words, count_after, drain_words}
use Rattle.card_tree_clock.specs.History.{asks, brought_by, Call, call_c, call_m, clear_c, code_of, drain, Holds, Kept, kept}
use Rattle.tree_clock_model.specs.Prelude.{Machine}
use Rattle.tree_clock_model.specs.Promise.{cleared_machine}
use Rattle.tree_records.proofs.History as lent
use Rattle.tree_records.specs.History.{memory}
use Rattle.tree_records.specs.History as held
use Rattle.tree_records.specs.Lent.{lent_cleared, lent_cycled, LentDrain, lent_drains, LentOutcome}
use Rattle.tree_records.specs.declared.Record.{Record}
use Rattle.promise.specs.Prelude.{answers, answers-same, leaves, leaves-in-step}
use Rattle.tree_model.specs.Prelude.{Shape}

-- ---- a request handed over
request-handed : (r : Request) → request_of (code_of r) (brought_by r).rank.0 (brought_by r).tag.0 (brought_by r).length.0 ≡ r
unfolding request_of code_of brought_by
request-handed Idle = refl
request-handed (Push x) = refl
request-handed Pop = refl
request-handed (Replace x) = refl

code-low : (r : Request) → leb (code_of r) 3 ≡ true
unfolding code_of
code-low Idle = refl
code-low (Push x) = refl
code-low Pop = refl
code-low (Replace x) = refl

-- ---- a mark written is read again
mark-some : (mark : List ℕ) → marked mark ≡ true → 1 ≤ length mark
unfolding marked
mark-some mark e = leb-true 1 (length mark) (and_left (leb 1 (length mark)) (leb (get_or mark 0 0) 1) e)

module _ (mark : List ℕ) (some : 1 ≤ length mark) (on : Bool) where
  mark-read : mark_in (mark_out on mark) ≡ on
  mark-read = ap (λ (n : ℕ). eqb n 1) (get_or-set_same mark 0 (cond on 1 0) 0 some) ∙ go on
    where
      go : (b : Bool) → eqb (cond b 1 0) 1 ≡ b
      go true = refl
      go false = refl

  mark-there : marked (mark_out on mark) ≡ true
  unfolding marked
  mark-there =
      and-true (leb 1 (length (mark_out on mark))) (leb (get_or (mark_out on mark) 0 0) 1) (le-leb 1 (length (mark_out on mark)) (omega (arith, some, length-set mark 0 (cond on 1 0))))
      (ap (λ (n : ℕ). leb n 1) (get_or-set_same mark 0 (cond on 1 0) 0 some) ∙ go on)
    where
      go : (b : Bool) → leb (cond b 1 0) 1 ≡ true
      go true = refl
      go false = refl

  -- .. so that what a memory holds, it holds with the mark in its word
  holds-marked : (m levels : ℕ) (rs : List Record) (ws : List ℕ) (y : Machine) → held.Holds m levels (memory rs on ws) y → Holds m levels (kept ws rs (mark_out on mark)) y
  holds-marked m levels rs ws y h = record { there = mark-there; memory = subst (λ (b : Bool). held.Holds m levels (memory rs b ws) y) (sym mark-read) h }

-- ---- one call
module _ (m levels : ℕ) (out : List ℕ) (room : answer_words ≤ length out) (x : Kept) (y : Machine) (q : Holds m levels x y) where
  abbrev on : Bool
  on = mark_in x.mark

  some : 1 ≤ length x.mark
  some = mark-some x.mark q.there

  -- a cycle
  module _ (r : Request) where
    abbrev o : LentOutcome
    o = lent_cycled m levels on x.records x.store r

    cycle-is : clocked_cycle m levels x.store x.records x.mark (code_of r) (brought_by r).rank.0 (brought_by r).tag.0 (brought_by r).length.0 out ≡ cycle_of x.mark o out
    unfolding clocked_cycle asked
    cycle-is = rw (le-leb answer_words (length out) room, code-low r, q.there, request-handed r)

    cycle-goes : ((call_c m levels out (asks r) x).said ≡ (call_m m levels out (asks r) y).said) × Holds m levels (call_c m levels out (asks r) x).next (call_m m levels out (asks r) y).next
    unfolding call_c call_m
    cycle-goes =
        let h = lent.history-cycle m levels r (memory x.records on x.store) y q.memory in
        rw cycle-is (ap (λ (a : Answer). count_after (number_of a) (answer_out a out)) h.0, holds-marked x.mark some o.mark m levels o.records o.words _ h.1)

  -- a drain
  module _ (budget : ℕ) where
    abbrev d : LentDrain
    d = lent_drains m levels on x.records x.store budget

    drain-is : clocked_drain m levels x.store x.records x.mark budget out ≡ drain_of x.mark d out
    unfolding clocked_drain
    drain-is = rw (le-leb drain_words (length out) (omega (arith, room)), q.there)

    drain-goes : ((call_c m levels out (drain budget) x).said ≡ (call_m m levels out (drain budget) y).said) × Holds m levels (call_c m levels out (drain budget) x).next (call_m m levels out (drain budget) y).next
    unfolding call_c call_m
    drain-goes =
        let h = lent.history-drain m levels (memory x.records on x.store) y q.memory budget in
        rw drain-is (λ i. count_after (number_of (h.0 i)) (drain_out (h.1 i) (h.2 i) out), holds-marked x.mark some d.mark m levels d.records d.words _ h.3)

  call-goes : (c : Call) → ((call_c m levels out c x).said ≡ (call_m m levels out c y).said) × Holds m levels (call_c m levels out c x).next (call_m m levels out c y).next
  call-goes (asks r) = cycle-goes r
  call-goes (drain budget) = drain-goes budget

-- ---- a list of calls
module _ (m levels : ℕ) (out : List ℕ) (room : answer_words ≤ length out) where
  -- HISTORY: from store, records and mark that hold a machine, a list of calls is answered as the by-value calls are, and they hold what those leave
  module _ (cs : List Call) (x : Kept) (y : Machine) (q : Holds m levels x y) where
    pub history : answers (call_c m levels out) cs x ≡ answers (call_m m levels out) cs y
    history = answers-same (call_c m levels out) (call_m m levels out) (Holds m levels) (λ c x y q. (call-goes m levels out room x y q c).0) (λ c x y q. (call-goes m levels out room x y q c).1) cs x y q

    pub history-holds : Holds m levels (leaves (call_c m levels out) cs x) (leaves (call_m m levels out) cs y)
    history-holds = leaves-in-step (call_c m levels out) (call_m m levels out) (Holds m levels) (λ c x y q. (call-goes m levels out room x y q c).0) (λ c x y q. (call-goes m levels out room x y q c).1) cs x y q

-- ---- from a clear
module _ (m levels : ℕ) (x : Kept) (sh : Shape m levels (length x.store)) (long : levels - 1 ≤ length x.records) (some : 1 ≤ length x.mark) where
  abbrev c : LentOutcome
  c = lent_cleared m levels (mark_in x.mark) x.records x.store

  clear-is : clocked_clear m levels x.store x.records x.mark ≡ clocked_after 0 c.words c.records (mark_out false x.mark)
  unfolding clocked_clear
  clear-is =
      rw (le-leb 1 (length x.mark) some)
      (ap (λ (a : Answer). clocked_after (number_of a) c.words c.records (cond (eqb (number_of a) 0) (mark_out false x.mark) x.mark)) (lent.clear-answer m levels x.records (mark_in x.mark) x.store sh long))

  -- CLEARED: a clear through the boundary, with a shape, a record for each level from 2 and a word of mark, is not refused, whatever they hold, and leaves a cleared machine
  pub clear-number : (clocked_clear m levels x.store x.records x.mark).number ≡ 0
  clear-number = ap (λ (r : ClockedAfter). r.number) clear-is

  pub clear-holds : Holds m levels (clear_c m levels x) (cleared_machine m levels x.store)
  clear-holds =
      subst (λ (r : ClockedAfter). Holds m levels (kept r.store r.records r.mark) (cleared_machine m levels x.store)) (sym clear-is)
      (holds-marked x.mark some false m levels c.records c.words (cleared_machine m levels x.store)
      (subst (λ (b : Bool). held.Holds m levels (memory c.records b c.words) (cleared_machine m levels x.store)) (lent.clear-mark m levels x.records (mark_in x.mark) x.store sh long)
      (lent.clear-holds m levels x.records (mark_in x.mark) x.store sh long)))

  -- .. and from there a list of calls is answered and leaves what the by-value calls do from their own clear
  pub history-cleared : (out : List ℕ) → answer_words ≤ length out → (cs : List Call)
      → (answers (call_c m levels out) cs (clear_c m levels x) ≡ answers (call_m m levels out) cs (cleared_machine m levels x.store))
      × Holds m levels (leaves (call_c m levels out) cs (clear_c m levels x)) (leaves (call_m m levels out) cs (cleared_machine m levels x.store))
  history-cleared out room cs = (history m levels out room cs (clear_c m levels x) (cleared_machine m levels x.store) clear-holds, history-holds m levels out room cs (clear_c m levels x) (cleared_machine m levels x.store) clear-holds)
