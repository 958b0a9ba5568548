-- The calls over the lent record, from what their steps have read, made and written.
use Rattle.laws.specs.Prelude.{Answer, BadShape, Bool, List, Request, ◌<◌, ◌∙◌, ◌≡◌, ◌≤◌, ap, arith, cond, false, has_run, le-leb, le-ltb, length, lt-leb, lt-ltb, not, not-false, not-true, refl, set, subst, sym, true, ℕ, Ok, None, Err}
use Rattle.lines_model.specs.Calls.{wipe}
use Rattle.lines_model.specs.Clock.{clock_cleared, drains, Machine, machine, cycled}
use Rattle.lines_model.specs.Layout.{shape_ok, store_words}
use Rattle.lines_model.specs.declared.Due.{Due}
use Rattle.lines_model.specs.declared.Due.TheVariants.{Rest}
use Rattle.lines_model.specs.declared.Rows.{Rows}
use Rattle.lines_records.proofs.Fits.{cycle-fits, drain-rests, Fit}
use Rattle.lines_records.specs.Lent.{drain_of, first_of, lent_cleared, lent_cycled, lent_drain, lent_drains, lent_of, lent_outcome, LineRecord, no_record, pending_of, readable, record_of, records_back}
use Rattle.promise.specs.Prelude.{Drained, Outcome, drained, left, outcome}

-- a clear leaves nothing pending, where nothing was
clear-rests : (k : Rows) (ws : List ℕ) → (clock_cleared k (machine ws Rest)).words.due ≡ Rest
unfolding clock_cleared
clear-rests k ws = go (shape_ok k (length ws))
  where
    go : (b : Bool) → (cond {A = Outcome Machine} b (outcome (Ok None) (machine (wipe (store_words k) ws) Rest)) (left (machine ws Rest) BadShape)).words.due ≡ Rest
    go true = refl
    go false = refl

module _ (k : Rows) (rs : List LineRecord) (ws : List ℕ) where
  -- ---- a cycle and a drain, where the record can be read or not
  module _ (b : Bool) (e : b ≡ readable rs) where
    pub cycle-unread : (q : Request) → not b ≡ true → lent_outcome (Err BadShape) ws rs ≡ lent_cycled k rs ws q
    unfolding lent_cycled
    cycle-unread q n = rw (sym e ∙ not-true b n) refl

    pub drain-unread : (budget : ℕ) → not b ≡ true → lent_drain (Err BadShape) 0 false ws rs ≡ lent_drains k rs ws budget
    unfolding lent_drains
    drain-unread budget n = rw (sym e ∙ not-true b n) refl

    module _ (n : not b ≡ false) (d : Due) (p : d ≡ pending_of (first_of rs)) (a : Answer) (v : List ℕ) (next : Due) where
      module _ (q : Request) (o : outcome a (machine v next) ≡ cycled k q (machine ws d)) (ran : Bool) (g : ran ≡ has_run a) where
        whole : outcome a (machine v next) ≡ cycled k q (machine ws (pending_of (first_of rs)))
        whole = o ∙ ap (λ (d : Due). cycled k q (machine ws d)) p

        lent_is : lent_of rs (outcome a (machine v next)) ≡ lent_cycled k rs ws q
        unfolding lent_cycled
        lent_is = rw (sym e ∙ not-false b n) (ap (lent_of rs) whole)

        pub cycle-stood : not ran ≡ true → lent_outcome a v rs ≡ lent_cycled k rs ws q
        cycle-stood m = ap (λ (i : Bool). lent_outcome a v (records_back i next rs)) (sym (not-true ran m) ∙ g) ∙ lent_is

        pub cycle-wrote : not ran ≡ false → (r : LineRecord) → r ≡ record_of next → lent_outcome a v (set rs 0 r) ≡ lent_cycled k rs ws q
        cycle-wrote m r f =
            ap (λ (r : LineRecord). lent_outcome a v (set rs 0 r)) f ∙ ap (λ (i : Bool). lent_outcome a v (records_back i next rs)) (sym (not-false ran m) ∙ g) ∙ lent_is

        pub cycle-fit : not ran ≡ false → Fit next
        cycle-fit m =
            subst (λ (o : Outcome Machine). Fit o.words.due) (sym o)
            (cycle-fits k q (machine ws d) (ap (λ (o : Outcome Machine). has_run o.answer) (sym o) ∙ sym g ∙ not-false ran m))

      module _ (budget c : ℕ) (left : Bool) (o : drained a c left (machine v next) ≡ drains k budget (machine ws d)) where
        drain-is : drain_of rs (drained a c left (machine v next)) ≡ lent_drains k rs ws budget
        unfolding lent_drains
        drain-is = rw (sym e ∙ not-false b n) (ap (drain_of rs) (o ∙ ap (λ (d : Due). drains k budget (machine ws d)) p))

        pub drain-stood : c ≡ 0 → lent_drain a c left v rs ≡ lent_drains k rs ws budget
        drain-stood z = ap (λ (i : Bool). lent_drain a c left v (records_back i next rs)) (sym (le-ltb 0 c (omega (arith, z)))) ∙ drain-is

        pub drain-wrote : (c ≡ 0 → ⊥) → (r : LineRecord) → r ≡ record_of next → lent_drain a c left v (set rs 0 r) ≡ lent_drains k rs ws budget
        drain-wrote z r f =
            ap (λ (r : LineRecord). lent_drain a c left v (set rs 0 r)) f ∙ ap (λ (i : Bool). lent_drain a c left v (records_back i next rs)) (sym (lt-ltb 0 c (omega (arith, z)))) ∙ drain-is

        pub drain-fit : (c ≡ 0 → ⊥) → Fit next
        drain-fit z =
            let some : 0 < (drains k budget (machine ws d)).cycles = subst (λ (i : ℕ). 0 < i) (ap (λ (o : Drained Machine). o.cycles) o) (omega (arith, z)) in
            let rest : next ≡ Rest = ap (λ (o : Drained Machine). o.state.due) o ∙ drain-rests k budget (machine ws d) some in
            subst Fit (sym rest) (omega arith)

  -- ---- clear
  pub clear-short : length rs < 1 → lent_outcome (Err BadShape) ws rs ≡ lent_cleared k rs ws
  unfolding lent_cleared
  clear-short h = rw (lt-leb 1 (length rs) h) refl

  module _ (h : 1 ≤ length rs) (a : Answer) (v : List ℕ) (next : Due) (o : outcome a (machine v next) ≡ clock_cleared k (machine ws Rest)) (ran : Bool) (g : ran ≡ has_run a) where
    clear-is : lent_of rs (outcome a (machine v next)) ≡ lent_cleared k rs ws
    unfolding lent_cleared
    clear-is = rw (le-leb 1 (length rs) h) (ap (lent_of rs) o)

    pub clear-stood : not ran ≡ true → lent_outcome a v rs ≡ lent_cleared k rs ws
    clear-stood m = ap (λ (i : Bool). lent_outcome a v (records_back i next rs)) (sym (not-true ran m) ∙ g) ∙ clear-is

    pub clear-wrote : not ran ≡ false → (r : LineRecord) → r ≡ no_record → lent_outcome a v (set rs 0 r) ≡ lent_cleared k rs ws
    clear-wrote m r f =
        ap (λ (r : LineRecord). lent_outcome a v (set rs 0 r)) (f ∙ ap record_of (sym rests)) ∙ ap (λ (i : Bool). lent_outcome a v (records_back i next rs)) (sym (not-false ran m) ∙ g) ∙ clear-is
      where
        rests : next ≡ Rest
        rests = ap (λ (o : Outcome Machine). o.words.due) o ∙ clear-rests k ws
