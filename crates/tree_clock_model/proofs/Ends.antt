-- The last level leaves nothing: its step in a cycle that meets no damage has no rest.
use Rattle.laws.specs.Prelude.{All, Bool, Element, List, [], ◌&&◌, ◌*◌, ◌+◌, ◌<◌, ◌||◌, ◌∙◌, ◌≡◌, ◌≤◌, all-map-both, and_left, and_right, ap, arith, false, get_or, length, lt-leb, ltb, not-suc-le-zero, refl, sym, true, true≢false, ℕ}
use Rattle.tree_model.proofs.Laws.{above-one, every-all, is_none, none-empty, op-work, put-rule, room-fails, slot-limit, swap-rule, take-rule, work_none}
use Rattle.tree_model.specs.Prelude.{Level, Puts, Swaps, Takes, clears, ends, exchanges, first_empty, goes, has_room, has_some, is_nothing, level_move, lowest, node_ok, op_move, passes, read_ok, receives, room, slot_at, slot_ok, stays, step_ok, step_work, work_ok}
use Rattle.tree_model.specs.declared.Move.{Move}
use Rattle.tree_model.specs.declared.Op.{Op}
use Rattle.tree_model.specs.declared.Op.TheVariants.{Nothing, Put, Swap, Take}
use Rattle.tree_model.specs.declared.Slot.{Slot}
use Rattle.tree_model.specs.declared.Work.{Work}

slots-ok : (nd : List Slot) → node_ok 0 nd ≡ true → All (λ u. slot_ok 0 u ≡ true) nd
unfolding node_ok
slots-ok nd e = every-all (slot_ok 0) nd e

none_above : (nd : List Slot) → node_ok 0 nd ≡ true → 1 < (slot_at nd (lowest nd)).count → ⊥
unfolding room
none_above nd ok h = not-suc-le-zero (above-one 0 0 nd ok (lt-leb (slot_at nd (lowest nd)).count 1 h)).0

rest-last : (o : Op) (nd : List Slot) (b : ℕ → Element) → read_ok o 0 nd ≡ true → (op_move o nd b).rest ≡ Nothing
unfolding op_move read_ok room
rest-last Nothing nd b ok = refl
rest-last (Put x) nd b ok = go _ (put-rule x nd)
  where
    full : length nd ≤ first_empty nd → ⊥
    full h =
        true≢false (sym (and_right (node_ok 0 nd) (has_room 0 nd) ok)
        ∙ (room-fails 0 nd).shown (all-map-both (λ u. slot_ok 0 u ≡ true) (λ u. 0 < u.count) _ (λ u p q. omega (arith, slot-limit 0 u p)) nd (slots-ok nd (and_left (node_ok 0 nd) (has_room 0 nd) ok)) (none-empty nd h)))

    go : (v : Move) → Puts x nd v → v.rest ≡ Nothing
    go v (ends h) = refl
    go v (exchanges h l) = absurd (full h)
    go v (passes h l) = absurd (full h)
rest-last Take nd b ok = go _ (take-rule nd b)
  where
    go : (v : Move) → Takes nd b v → v.rest ≡ Nothing
    go v (clears h) = refl
    go v (receives h) = absurd (none_above nd (and_left (node_ok 0 nd) (has_some nd) ok) h)
rest-last (Swap x) nd b ok = go _ (swap-rule x nd b)
  where
    go : (v : Move) → Swaps x nd b v → v.rest ≡ Nothing
    go v (stays h) = refl
    go v (goes h l) = absurd (none_above nd (and_left (node_ok 0 nd) (has_some nd) ok) h)

pub last-ends : (m : ℕ) (w : Work) (l below : Level) → work_ok m 0 w l below ≡ true → (step_work m w l below).op ≡ Nothing
unfolding work_ok step_ok room step_work level_move
last-ends m w l below f = go (is_nothing w.op) refl f
  where
    go : (t : Bool) → is_nothing w.op ≡ t → (t || (ltb w.node (length l) && step_ok m 0 w.op (get_or l w.node []) (λ j. get_or below (w.node * m + j) []))) ≡ true
        → (step_work m w l below).op ≡ Nothing
    go true e f = ap (λ (v : Work). v.op) (work_none m w l below (is_none w.op e))
    go false e f =
        op-work _ _ ∙ rest-last w.op (get_or l w.node []) _
        (and_left (read_ok w.op 0 (get_or l w.node [])) _ (and_right (ltb w.node (length l)) _ f))
