-- What a tested shape says of the store: where its words, nodes and slots lie.
use Rattle.std.specs.Prelude.{Err}
use Rattle.laws.specs.Prelude.{BadShape, Bool, List, ◌*◌, ◌+◌, ◌<◌, ◌∙◌, ◌≡◌, ◌≤◌, ap, arith, false, length, not, not-false, not-true, sub-one, subst, sym, true, ℕ, ⊎_elim}
use Rattle.tree_node.proofs.Shapes.{shaped-below, shaped-slots}
use Rattle.tree_node.specs.Shaping.{Shaped}
use Rattle.tree_node.specs.declared.shape.Shape as shape
use Rattle.tree_model.proofs.Laws.{shape_is}
use Rattle.tree_model.specs.Prelude.{Shape, room, shape_ok, slot_limit, slot_words}
use Rattle.tree_mend_model.specs.Check.{checked}
use Rattle.tree_mend.specs.Lie.{NodeLies, SlotsLie, StoreLies}

pub few : (m levels len : ℕ) → Shape m levels len → (0 < m) × (m ≤ 8)
few m levels len sh = ⊎_elim (λ e. (omega arith, omega arith)) (λ d. ⊎_elim (λ e. (omega arith, omega arith)) (λ e. (omega arith, omega arith)) d) sh.order

pub shape-lies : (m levels : ℕ) (ws : List ℕ) → Shape m levels (length ws) → NodeLies m levels 0 ws
shape-lies m levels ws sh =
    let z : levels ≡ 0 + levels = omega arith in
    record {
      order = (few m levels (length ws) sh).0;
      few = (few m levels (length ws) sh).1;
      depth = 0;
      node = omega arith;
      limit = subst (λ (n : ℕ). room m n ≤ slot_limit) z sh.capacity;
      words = subst (λ (n : ℕ). slot_words * room m n ≤ length ws) z sh.slice;
    }

module _ (m levels : ℕ) (ws : List ℕ) (s : shape.Shape) (shaped : Shaped m levels s) (t : Bool) (tested : t ≡ shape_ok m levels (length ws)) where
  pub check-shape : not t ≡ true → Err BadShape ≡ checked m levels ws
  unfolding checked
  check-shape p = rw (← tested, not-true t p)

  module _ (yes : not t ≡ false) where
    ok : shape_ok m levels (length ws) ≡ true
    ok = sym tested ∙ not-false t yes

    sh : Shape m levels (length ws)
    sh = shape_is m levels (length ws) ok

    pub store-lies : StoreLies m levels s.room ws
    store-lies = record { shaped = ok; above = shaped.fits ∙ ap (room m) (shaped-below m levels (length ws) s shaped ok ∙ sub-one levels) }

    pub root-lies : NodeLies m levels 0 ws
    root-lies = shape-lies m levels ws sh

    pub slots-are : s.slots ≡ room m levels
    slots-are = shaped-slots m levels (length ws) s shaped ok

    pub slots-lie : SlotsLie s.slots ws
    slots-lie = record { limit = omega (arith, slots-are, sh.capacity); words = omega (arith, slots-are, sh.slice) }
