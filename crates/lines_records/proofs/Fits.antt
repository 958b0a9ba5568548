-- What a cycle that ran leaves pending is at one of the lines, so that its number fits a word; and after a drain that ran a cycle nothing is pending.
use Rattle.laws.specs.Prelude.{Answer, Element, Idle, Pop, Push, Replace, Request, ◌<◌, ◌∙◌, ◌≡◌, and_left, ap, arith, eqb-false, false≢true, has_run, length, ltb, ltb-true, number_of, refl, suc, true, zero, ℕ, Err}
use Rattle.lines_model.proofs.Acts.{giver-fits}
use Rattle.lines_model.proofs.Clocked.{ticks}
use Rattle.lines_model.proofs.Shaped.{shape-means}
use Rattle.lines_model.specs.Clock.{drains, due_at, fronts, Machine, cycled, ticking}
use Rattle.lines_model.specs.Layout.{shape_ok, word}
use Rattle.lines_model.specs.Rules.{ask_table, due_of, late_table, taker, total}
use Rattle.lines_model.specs.declared.Due.{Due}
use Rattle.lines_model.specs.declared.Due.TheVariants.{Rest}
use Rattle.lines_model.specs.declared.Rows.{Rows}
use Rattle.lines_records.specs.Lent.{line_in, record_of, word_limit}
use Rattle.lines_work.proofs.Finds.{small}
use Rattle.promise.proofs.Clock.{either, idle-ran}
use Rattle.promise.proofs.Drains.{drain-ran, drain-state}
use Rattle.promise.specs.Prelude.{Clear, Step, each-any, idled, leaves}

-- the number of what is pending fits a word
abbrev pub Fit : Due → Type 0
Fit d = line_in (record_of d) < word_limit

module _ (k : Rows) (n : ℕ) (s : shape_ok k n ≡ true) (c : ℕ → ℕ) (h : ℕ → Element) where
  due-fits : (q : Request) → Clear (ask_table k q (late_table k c h q)) → Fit (due_of k c h q)
  unfolding due_of
  due-fits Idle t = omega arith
  due-fits (Push x) t =
      let l = taker k c x in
      omega (arith, (small k n s).lines, ltb-true l k.lines (and_left (ltb l k.lines) (ltb (c l) k.places) t.1.1.0))
  due-fits Pop t = omega (arith, (small k n s).lines, (giver-fits k n ((shape-means k n).says s) c h (eqb-false (total c k.lines) 0 t.1.1.0)).0)
  due-fits (Replace x) t = omega (arith, (small k n s).lines, (giver-fits k n ((shape-means k n).says s) c h (eqb-false (total c k.lines) 0 t.1.1.0)).0)

module _ (k : Rows) where
  pub cycle-fits : (q : Request) (m : Machine) → has_run (cycled k q m).answer ≡ true → Fit (cycled k q m).words.due
  unfolding cycled
  cycle-fits q m =
      either (ticks k) q m (λ o. has_run o.answer ≡ true → Fit o.words.due) (λ e. absurd (false≢true e)) (λ e. absurd (false≢true e)) (λ s f. each-any (λ n. has_run (Err n) ≡ true → Fit (due_at k Idle m)) (λ n e. still) (ask_table k q (late_table k (word m.words) (fronts k m) q)))
      (λ s f t e. due-fits k (length m.words) s (word m.words) (fronts k m) q t)
    where
      still : Fit (due_at k Idle m)
      still = unfold due_of in omega arith

  -- so many idle cycles that all ran leave nothing pending
  idles-rest : (n : ℕ) (m : Machine) → ((j : ℕ) → j < suc n → number_of (ticking k Idle (idled (ticking k) j m)).said ≡ 0) → (idled (ticking k) (suc n) m).due ≡ Rest
  unfolding leaves
  idles-rest zero m r = ap (λ (s : Step Answer Machine). s.next.due) (idle-ran (ticks k) m (r 0 (omega arith))) ∙ still
    where
      still : due_at k Idle m ≡ Rest
      still = unfold due_of in refl
  idles-rest (suc n) m r = idles-rest n (ticking k Idle m).next (λ j h. r (suc j) (omega arith))

  pub drain-rests : (b : ℕ) (m : Machine) → 0 < (drains k b m).cycles → (drains k b m).state.due ≡ Rest
  unfolding drains
  drain-rests b m h = go (drains k b m).cycles refl
    where
      go : (n : ℕ) → (drains k b m).cycles ≡ n → (drains k b m).state.due ≡ Rest
      go zero e = absurd (omega (arith, e))
      go (suc n) e =
          ap (λ (z : Machine). z.due) (drain-state (ticks k) b m) ∙ ap (λ (i : ℕ). (idled (ticking k) i m).due) e ∙ idles-rest n m (λ j l. drain-ran (ticks k) b m j (omega (arith, e)))
