-- A store passes the check exactly where the tree's promises speak of it: every store that the tree's own calls leave passes, and from a store that passes
-- on, whatever wrote it, the promises hold.
use Rattle.std.specs.Prelude.{None, Ok}
use Rattle.laws.specs.Prelude.{Bool, Element, Iff, List, Request, ◌*◌, ◌+◌, ◌∙◌, ◌≡◌, all_any, arith, false, length, not-suc-le-zero, refl, suc, sum-zero, sym, true, untagged, zero, ℕ}
use Rattle.promise.specs.Prelude.{lower, none-all}
use Rattle.tree_model.specs.Prelude.{Shape, Shaped, Sound, Tree, after, level_of, levels_of, many, node_of, own_by, shape_ok, start, tree_of, tree_queue}
use Rattle.tree_model.proofs.Laws.{Kept, all-tab, barred, kept-held, kept-least, kept-numbers, kept-replaces, kept-sums, kept-undamaged, leaves_kept, level-length, node-length, not_lower, order-pos, shape_is, start-kept}
use Rattle.tree_mend_model.specs.Check.{checked}
use Rattle.tree_mend_model.specs.Promise.{Onward, then}
use Rattle.tree_mend_model.proofs.Descent.{none-whole, whole-none}
use Rattle.tree_mend_model.proofs.Sound.{root-here, sound-whole, whole-sound}
use Rattle.tree_mend_model.proofs.Walk.{check-refused, says-yes, yes-only}

-- ---- levels of words have the shape
shaped-words : (m k : ℕ) (ws : List ℕ) (b c : ℕ) → Shaped m k c (levels_of m k ws b c)
unfolding levels_of level_of
shaped-words m zero ws b c = tt
shaped-words m (suc k) ws b c =
    (level-length m ws b c, all-tab (λ nd. length nd ≡ m) c (λ n. node_of m ws (b + n * m)) (λ n. node-length m ws (b + n * m)), shaped-words m k ws (b + c * m) (c * m))

-- no rank is below 0
own-none : (c : ℕ) (e : Element) → own_by c (lower 0) e ≡ 0
own-none zero e = refl
own-none (suc c) e = not_lower 0 e (omega arith)

none-lower : (k : ℕ) (t : Tree k) → many (lower 0) k t ≡ 0
unfolding many
none-lower zero t = refl
none-lower (suc k) t = sum-zero _ t (all_any _ (λ z. omega (arith, own-none z.0.count z.0.element, none-lower k z.1)) t)

-- ---- a store that passes has the shape
pub whole-shape : (m levels : ℕ) (ws : List ℕ) → checked m levels ws ≡ Ok None → Shape m levels (length ws)
whole-shape m levels ws e = go (shape_ok m levels (length ws)) refl
  where
    go : (b : Bool) → shape_ok m levels (length ws) ≡ b → Shape m levels (length ws)
    go true s = shape_is m levels (length ws) s
    go false s = let z = sym (check-refused m levels ws s) ∙ e in cc

-- ---- passing is what the tree keeps between calls
pub passes_kept : (m k : ℕ) (ws : List ℕ) → checked m (suc k) ws ≡ Ok None → Kept m k ws
passes_kept m k ws e =
    let sh : Shape m (suc k) (length ws) = whole-shape m (suc k) ws e in
    let w = none-whole m (order-pos sh) ws k (yes-only m (suc k) ws sh e) in
    record { shape = sh; store = record { shaped = shaped-words m (suc k) ws 0 1; sound = (whole-sound m ws (suc k) 0 1 0 0 0 (root-here m) w).0 } }

pub kept-passes : (m k : ℕ) (ws : List ℕ) → Kept m k ws → checked m (suc k) ws ≡ Ok None
kept-passes m k ws kept =
    says-yes m (suc k) ws kept.shape
    (whole-none m (order-pos kept.shape) ws k (sound-whole m ws (suc k) 0 1 0 0 0 (root-here m) kept.store.sound (none-lower (suc k) (tree_of m (suc k) (levels_of m (suc k) ws 0 1) 0))))

-- SOUND: a store of a good shape passes exactly if it is sound
pub passes-sound : (m levels : ℕ) (ws : List ℕ) → Shape m levels (length ws) → Iff (checked m levels ws ≡ Ok None) (Sound m levels (tree_of m levels (levels_of m levels ws 0 1) 0))
passes-sound m zero ws sh = absurd (not-suc-le-zero sh.some)
passes-sound m (suc k) ws sh = record {
  to = λ e. (passes_kept m k ws e).store.sound;
  from = λ s. kept-passes m k ws (record { shape = sh; store = record { shaped = shaped-words m (suc k) ws 0 1; sound = s } });
}

-- REACHED: every store that the tree's own calls leave from a cleared one passes
pub reached-passes : (m levels : ℕ) (ws : List ℕ) (rs : List Request) → Shape m levels (length ws) → checked m levels (after m levels rs ws) ≡ Ok None
reached-passes m zero ws rs sh = absurd (not-suc-le-zero sh.some)
reached-passes m (suc k) ws rs sh = kept-passes m k (after m (suc k) rs ws) (leaves_kept m k rs (start m (suc k) ws) (start-kept m k ws sh))

-- ONWARD: from a store that passes on every promise of demand 2 holds, as from a cleared one
pub onward : (m levels : ℕ) (ws : List ℕ) (rs : List Request) → checked m levels ws ≡ Ok None → Onward m levels ws rs
onward m zero ws rs e = absurd (not-suc-le-zero (whole-shape m 0 ws e).some)
onward m (suc k) ws rs e =
    let from : Kept m k ws = passes_kept m k ws e in
    let now : List ℕ = then m (suc k) ws rs in
    let kept : Kept m k now = leaves_kept m k rs ws from in
    record {
      passes = kept-passes m k now kept;
      sound = kept.store.sound;
      undamaged = kept-undamaged m k now kept;
      numbers = kept-numbers m k now kept;
      holds = kept-sums m k ws from rs;
      least = kept-least m k now kept;
      replaces = kept-replaces m k now kept;
      held = kept-held m k now kept;
      tagged = λ z.
          let sum = kept-sums m k ws from rs untagged in
          let none = none-all (tree_queue m (suc k)) (barred m (suc k)) rs ws in
          record { kept = omega (arith, sum, none, z); out = omega (arith, sum, none, z) };
    }
