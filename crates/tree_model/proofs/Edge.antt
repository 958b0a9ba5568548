-- 01's worked case 9, at the limits of 02 [7]: "case 9's refused 7, 12 and 5 levels become 9, 16 and 6". The words are any that are long enough, so that
-- the capacity decides.
use Rattle.laws.specs.Prelude.{BadShape, Bool, List, ◌<◌, ◌≡◌, arith, cond, false, inl, inr, length, number_of, refl, true, ℕ, ⊎_elim, Ok, None, Err}
use Rattle.tree_model.proofs.Exactly.{is-shape, shape_is}
use Rattle.tree_model.specs.Prelude.{Edge, Shape, cleared, outcome, room, shape_ok, slot_limit, wipe}

-- a shape is taken, and what is none is refused
taken : (m levels : ℕ) (ws : List ℕ) → Shape m levels (length ws) → number_of (cleared m levels ws).answer ≡ 0
unfolding cleared
taken m levels ws sh = rw (is-shape m levels (length ws) sh)

refused : (m levels : ℕ) (ws : List ℕ) → (Shape m levels (length ws) → ⊥) → number_of (cleared m levels ws).answer ≡ 1
unfolding cleared
refused m levels ws bad = go (shape_ok m levels (length ws)) refl
  where
    go : (b : Bool) → shape_ok m levels (length ws) ≡ b → number_of (cond b (outcome (Ok None) (wipe (room m levels) ws)) (outcome (Err BadShape) ws)).answer ≡ 1
    go true e = absurd (bad (shape_is m levels (length ws) e))
    go false e = refl

-- a capacity above the limit is refused, however long the slice
past : (m levels slots : ℕ) → room m levels ≡ slots → slot_limit < slots → Edge m levels slots 1
past m levels slots e h = record { capacity = e; says = λ ws l. refused m levels ws (λ sh. omega (arith, sh.capacity)) }

-- "Order 4: .. taken, .. refused 1"
pub four-taken : Edge 4 8 87380 0
unfolding room
four-taken = record { capacity = refl; says = λ ws l. taken 4 8 ws (record { order = inr (inl refl); some = omega arith; capacity = omega arith; slice = l }) }

pub four-past : Edge 4 9 349524 1
unfolding room
four-past = past 4 9 349524 refl (omega arith)

-- .. "Order 4: 6 levels taken", 01's own
pub four-six : Edge 4 6 5460 0
unfolding room
four-six = record { capacity = refl; says = λ ws l. taken 4 6 ws (record { order = inr (inl refl); some = omega arith; capacity = omega arith; slice = l }) }

-- "Order 2: .. taken, .. refused"
pub two-taken : Edge 2 15 65534 0
unfolding room
two-taken = record { capacity = refl; says = λ ws l. taken 2 15 ws (record { order = inl refl; some = omega arith; capacity = omega arith; slice = l }) }

pub two_past : Edge 2 16 131070 1
unfolding room
two_past = past 2 16 131070 refl (omega arith)

pub two-eleven : Edge 2 11 4094 0
unfolding room
two-eleven = record { capacity = refl; says = λ ws l. taken 2 11 ws (record { order = inl refl; some = omega arith; capacity = omega arith; slice = l }) }

-- "Order 8: .. taken, .. refused"
pub eight-taken : Edge 8 5 37448 0
unfolding room
eight-taken = record { capacity = refl; says = λ ws l. taken 8 5 ws (record { order = inr (inr refl); some = omega arith; capacity = omega arith; slice = l }) }

pub eight-past : Edge 8 6 299592 1
unfolding room
eight-past = past 8 6 299592 refl (omega arith)

pub eight-four : Edge 8 4 4680 0
unfolding room
eight-four = record { capacity = refl; says = λ ws l. taken 8 4 ws (record { order = inr (inr refl); some = omega arith; capacity = omega arith; slice = l }) }

-- "Order 3, levels 0 ..: refused 1"
pub three-refused : Edge 3 2 12 1
unfolding room
three-refused = record { capacity = refl; says = λ ws l. refused 3 2 ws (λ sh. ⊎_elim (λ e. omega arith) (λ d. ⊎_elim (λ e. omega arith) (λ e. omega arith) d) sh.order) }

pub none-refused : Edge 2 0 0 1
unfolding room
none-refused = record { capacity = refl; says = λ ws l. refused 2 0 ws (λ sh. omega (arith, sh.some)) }
