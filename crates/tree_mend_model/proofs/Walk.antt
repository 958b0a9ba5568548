-- The walk names the first broken slot, and says yes exactly where there is none.
use Rattle.std.specs.Prelude.{None, Ok, Option, Some, Err}
use Rattle.laws.specs.Prelude.{BadShape, Bool, Iff, List, ◌+◌, ◌<◌, ◌∙◌, ◌≡◌, ◌≤◌, ap, arith, cond, eq-or-lt_of_le, false, length, refl, subst, suc, sym, true, true≢false, zero, ℕ, ⊎_elim}
use Rattle.tree_model.specs.Prelude.{Shape, room, shape_ok}
use Rattle.tree_model.proofs.Laws.{is-shape}
use Rattle.tree_mend_model.specs.Check.{walk, checked}
use Rattle.tree_mend_model.specs.Promise.{broken_slot, FirstBroken, NoneBroken}

-- none of slot p and the n - 1 after it passes the test
abbrev pub NonePasses : (ℕ → Bool) → ℕ → ℕ → Type 0
NonePasses t p n = (i : ℕ) → p ≤ i → i < p + n → t i ≡ false

pub none_more : (t : ℕ → Bool) (p n : ℕ) → t p ≡ false → NonePasses t (suc p) n → NonePasses t p (suc n)
none_more t p n e h i le lt = ⊎_elim (λ q. subst (λ (j : ℕ). t j ≡ false) q e) (λ l. h i l (omega arith)) (eq-or-lt_of_le le)

pub walk_none : (t : ℕ → Bool) (p n : ℕ) → NonePasses t p n → walk t p n ≡ None
unfolding walk
walk_none t p zero h = refl
walk_none t p (suc n) h = rw (h p (omega arith) (omega arith)) (walk_none t (suc p) n (λ i le lt. h i (omega arith) (omega arith)))

pub walk-whole : (t : ℕ → Bool) (p n : ℕ) → walk t p n ≡ None → NonePasses t p n
unfolding walk
walk-whole t p zero e = λ i le lt. absurd (omega arith)
walk-whole t p (suc n) e = go (t p) refl e (λ e. walk-whole t (suc p) n e)
  where
    go : (b : Bool) → t p ≡ b → cond b (Some p) (walk t (suc p) n) ≡ None → (walk t (suc p) n ≡ None → NonePasses t (suc p) n) → NonePasses t p (suc n)
    go true q e ih = cc
    go false q e ih = none_more t p n q (ih e)

-- what it names
pub record First (t : ℕ → Bool) (p n i : ℕ) : Type 0 where
  pub here : t i ≡ true
  pub from : p ≤ i
  pub inside : i < p + n
  pub none : (j : ℕ) → p ≤ j → j < i → t j ≡ false

pub walk-broken : (t : ℕ → Bool) (p n i : ℕ) → walk t p n ≡ Some i → First t p n i
unfolding walk
walk-broken t p zero i e = cc
walk-broken t p (suc n) i e = go (t p) refl e (λ e. walk-broken t (suc p) n i e)
  where
    go : (b : Bool) → t p ≡ b → cond b (Some p) (walk t (suc p) n) ≡ Some i → (walk t (suc p) n ≡ Some i → First t (suc p) n i) → First t p (suc n) i
    go true q e ih =
        let s : p ≡ i = cc in
        record { here = subst (λ (j : ℕ). t j ≡ true) s q; from = omega arith; inside = omega arith; none = λ j le lt. absurd (omega arith) }
    go false q e ih =
        let f : First t (suc p) n i = ih e in
        record {
          here = f.here;
          from = omega (arith, f.from);
          inside = omega (arith, f.inside);
          none = λ j le lt. ⊎_elim (λ s. subst (λ (j : ℕ). t j ≡ false) s q) (λ l. f.none j l lt) (eq-or-lt_of_le le);
        }

-- .. and nothing but the first is named
pub walk_first : (t : ℕ → Bool) (p n i : ℕ) → First t p n i → walk t p n ≡ Some i
unfolding walk
walk_first t p zero i f = absurd (omega (arith, f.from, f.inside))
walk_first t p (suc n) i f = go (t p) refl (λ f. walk_first t (suc p) n i f)
  where
    go : (b : Bool) → t p ≡ b → (First t (suc p) n i → walk t (suc p) n ≡ Some i) → cond b (Some p) (walk t (suc p) n) ≡ Some i
    go true q ih =
        ⊎_elim (λ s. ap Some s) (λ l. absurd (true≢false (sym q ∙ f.none p (omega arith) l))) (eq-or-lt_of_le f.from)
    go false q ih =
        ⊎_elim (λ s. absurd (true≢false (sym f.here ∙ subst (λ (j : ℕ). t j ≡ false) s q)))
        (λ l. ih (record { here = f.here; from = l; inside = omega (arith, f.inside); none = λ j le lt. f.none j (omega arith) lt }))
        (eq-or-lt_of_le f.from)

-- ---- the check of a store
module _ (m levels : ℕ) (ws : List ℕ) (sh : Shape m levels (length ws)) where
  checked-is : checked m levels ws ≡ Ok (walk (broken_slot m levels ws) 0 (room m levels))
  unfolding checked
  checked-is = rw (is-shape m levels (length ws) sh)

  walk-is : (o : Option ℕ) → checked m levels ws ≡ Ok o → walk (broken_slot m levels ws) 0 (room m levels) ≡ o
  walk-is o e = let s = sym checked-is ∙ e in cc

  -- "A checker says yes exactly if no slot of the tree store is broken"
  pub says-yes : NoneBroken m levels ws → checked m levels ws ≡ Ok None
  says-yes h = checked-is ∙ ap Ok (walk_none (broken_slot m levels ws) 0 (room m levels) (λ i le lt. h i (omega arith)))

  pub yes-only : checked m levels ws ≡ Ok None → NoneBroken m levels ws
  yes-only e p lt = walk-whole (broken_slot m levels ws) 0 (room m levels) (walk-is None e) p (omega arith) (omega arith)

  -- "Else it names the first broken slot in slice order"
  pub names-first : (p : ℕ) → checked m levels ws ≡ Ok (Some p) → FirstBroken m levels ws p
  names-first p e =
      let f : First (broken_slot m levels ws) 0 (room m levels) p = walk-broken (broken_slot m levels ws) 0 (room m levels) p (walk-is (Some p) e) in
      record { inside = omega (arith, f.inside); here = f.here; none = λ q lt. f.none q (omega arith) lt }

  pub first-named : (p : ℕ) → FirstBroken m levels ws p → checked m levels ws ≡ Ok (Some p)
  first-named p f =
      checked-is ∙ ap Ok (walk_first (broken_slot m levels ws) 0 (room m levels) p (record { here = f.here; from = omega arith; inside = omega (arith, f.inside); none = λ q le lt. f.none q lt }))

  -- YES exactly if no slot is broken, and the slot named is the FIRST broken one
  pub yes-exactly : Iff (checked m levels ws ≡ Ok None) (NoneBroken m levels ws)
  yes-exactly = record { to = yes-only; from = says-yes }

  pub names-exactly : (p : ℕ) → Iff (checked m levels ws ≡ Ok (Some p)) (FirstBroken m levels ws p)
  names-exactly p = record { to = names-first p; from = first-named p }

-- refusal 1
pub check-refused : (m levels : ℕ) (ws : List ℕ) → shape_ok m levels (length ws) ≡ false → checked m levels ws ≡ Err BadShape
unfolding checked
check-refused m levels ws e = rw e
