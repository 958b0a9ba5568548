-- Clear, held and drain. After an idle cycle nothing is pending, so that one is enough.
use Rattle.laws.specs.Prelude.{Answer, BadShape, Bool, Idle, List, ◌∙◌, ◌≡◌, ap, cond, false, false≢true, is_refused, length, number_of, refl, suc, sym, true, zero, ℕ, Ok, None, Some, Err}
use Rattle.lines_model.proofs.Clocked.{ticks}
use Rattle.lines_model.specs.Calls.{cleared, held_count, wipe}
use Rattle.lines_model.specs.Clock.{clock, clock_cleared, clock_held, drains, due_at, is_pending, Machine, machine, written, cycled, ticking}
use Rattle.lines_model.specs.Layout.{shape_ok, store_words}
use Rattle.lines_model.specs.Rules.{due_of}
use Rattle.lines_model.specs.declared.Due.{Due}
use Rattle.lines_model.specs.declared.Due.TheVariants.{Rest}
use Rattle.lines_model.specs.declared.Rows.{Rows}
use Rattle.promise.proofs.Clock.{idle-ran}
use Rattle.promise.specs.Prelude.{Drained, Outcome, Step, asking, cycling, drain_by, drained, left, outcome}

-- what is handed back says what it is
pub drain-answered : (w : List ℕ) (a b : Answer) (n m : ℕ) (l k : Bool) (d e : Due) (o : Drained Machine) → (a ≡ b) × (n ≡ m) × (l ≡ k) × (d ≡ e)
    → drained b m k (machine w e) ≡ o → drained a n l (machine w d) ≡ o
drain-answered w a b n m l k d e o p q = rw (p.0, p.1, p.2, p.3) q

module _ (k : Rows) (w : List ℕ) (due : Due) where
  abbrev m : Machine
  m = machine w due

  -- clear is the lines', and where it is done nothing is pending
  module _ (a : Answer) (v : List ℕ) (e : outcome a v ≡ cleared k w) where
    pub clear-no : is_refused a ≡ true → outcome a (machine v due) ≡ clock_cleared k (machine w due)
    unfolding cleared clock_cleared is_refused
    clear-no n = go (shape_ok k (length w)) e
      where
        go : (b : Bool) → outcome a v ≡ cond {A = Outcome (List ℕ)} b (outcome (Ok None) (wipe (store_words k) w)) (left w BadShape)
            → outcome a (machine v due) ≡ cond {A = Outcome Machine} b (outcome (Ok None) (machine (wipe (store_words k) w) Rest)) (left (machine w due) BadShape)
        go true p = absurd (false≢true (sym (ap (λ (o : Outcome (List ℕ)). is_refused o.answer) p) ∙ n))
        go false p = ap (λ (o : Outcome (List ℕ)). outcome o.answer (machine o.words due)) p

    pub clear-yes : is_refused a ≡ false → outcome a (machine v Rest) ≡ clock_cleared k (machine w due)
    unfolding cleared clock_cleared is_refused
    clear-yes n = go (shape_ok k (length w)) e
      where
        go : (b : Bool) → outcome a v ≡ cond {A = Outcome (List ℕ)} b (outcome (Ok None) (wipe (store_words k) w)) (left w BadShape)
            → outcome a (machine v Rest) ≡ cond {A = Outcome Machine} b (outcome (Ok None) (machine (wipe (store_words k) w) Rest)) (left (machine w due) BadShape)
        go true p = ap (λ (o : Outcome (List ℕ)). outcome o.answer (machine o.words Rest)) p
        go false p = absurd (false≢true (sym n ∙ ap (λ (o : Outcome (List ℕ)). is_refused o.answer) p))

  -- held is the lines', whatever is pending
  pub held-as : held_count k w ≡ clock_held k (machine w due)
  unfolding held_count clock_held
  held-as = refl

  module _ (b : ℕ) where
    pub drain-shape : shape_ok k (length w) ≡ false → drained (Err BadShape) 0 false (machine w due) ≡ drains k b (machine w due)
    unfolding drains
    drain-shape e = rw e refl

    module _ (s : shape_ok k (length w) ≡ true) where
      pub drain-still : is_pending due ≡ false → drained (Ok None) 0 false (machine w due) ≡ drains k b (machine w due)
      unfolding drains drain_by
      drain-still e = rw s (go b)
        where
          go : (b : ℕ) → drained (Ok None) 0 false (machine w due) ≡ drain_by (asking (clock k) (cycling (clock k))) (λ (z : Machine). is_pending z.due) b 0 (machine w due)
          go zero = rw e refl
          go (suc b) = rw e refl

      module _ (on : is_pending due ≡ true) where
        pub drain-none : b ≡ 0 → drained (Ok None) 0 true (machine w due) ≡ drains k b (machine w due)
        unfolding drains drain_by
        drain-none e = rw (s, e, on) refl

        -- a cycle is run
        module _ (more : b ≡ 0 → ⊥) (v : List ℕ) (a : Answer) (next : Due) (o : outcome a (machine v next) ≡ cycled k Idle (machine w due)) where
          said-is : (ticking k Idle (machine w due)).said ≡ a
          unfolding cycled
          said-is = ap (λ (o : Outcome Machine). o.answer) (sym o)

          next-is : (ticking k Idle (machine w due)).next ≡ machine v next
          unfolding cycled
          next-is = ap (λ (o : Outcome Machine). o.words) (sym o)

          calm : (a : Answer) → is_refused a ≡ false → number_of a ≡ 0
          unfolding is_refused
          calm (Ok None) n = refl
          calm (Ok (Some e)) n = refl
          calm (Err r) n = absurd (false≢true (sym n))

          one_more : (n : ℕ) → (n ≡ 0 → ⊥) → (i : ℕ) × (n ≡ suc i)
          one_more zero h = absurd (h refl)
          one_more (suc i) h = (i, refl)

          pub drain-torn : is_refused a ≡ true → drained a 0 true (machine v next) ≡ drains k b (machine w due)
          unfolding drains drain_by
          drain-torn n =
              let i = one_more b more in
              rw (s, i.1, on, said-is, n, next-is) refl

          pub drain-one : is_refused a ≡ false → drained (Ok None) 1 false (machine v next) ≡ drains k b (machine w due)
          unfolding drains drain_by
          drain-one n =
              let i = one_more b more in
              rw (s, i.1, on, said-is, n, next-is) (rest i.0)
            where
              quiet : is_pending next ≡ false
              quiet = ap (λ (z : Machine). is_pending z.due) (sym next-is ∙ ap (λ (y : Step Answer Machine). y.next) (idle-ran (ticks k) (machine w due) (ap number_of said-is ∙ calm a n)) ∙ still)
                where
                  still : written k (due_at k Idle (machine w due)) (machine w due) ≡ written k Rest (machine w due)
                  still = unfold due_of in refl

              rest : (i : ℕ) → drained (Ok None) 1 false (machine v next) ≡ drain_by (asking (clock k) (cycling (clock k))) (λ (z : Machine). is_pending z.due) i 1 (machine v next)
              rest zero = unfold drain_by in rw quiet refl
              rest (suc i) = unfold drain_by in rw quiet refl
