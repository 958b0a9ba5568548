-- Slots and what is written in them: writes of different slots change places, and a slot written with its own element stands.
use Rattle.laws.specs.Prelude.{Element, List, ◌<◌, ◌≡◌, arith, inl, is_blank, not, refl, untagged, ℕ}
use Rattle.strip.proofs.Words.{write-comm as element-comm, write-own as element-own}
use Rattle.packed_model.specs.Words.{slot_in, spot, tagged, write_slot, zero_slot}

module _ (H : ℕ) where
  pub zero_is : (ws : List ℕ) (m : ℕ) → zero_slot H ws m ≡ is_blank (slot_in H ws m)
  unfolding zero_slot is_blank slot_in
  zero_is ws m = refl

  pub tagged_is : (ws : List ℕ) (m : ℕ) → tagged H ws m ≡ not (untagged (slot_in H ws m))
  unfolding tagged untagged slot_in
  tagged_is ws m = refl

  pub write-comm : (ws : List ℕ) (m p : ℕ) (a b : Element) → m < p → write_slot H (write_slot H ws m a) p b ≡ write_slot H (write_slot H ws p b) m a
  unfolding write_slot
  write-comm ws m p a b l = element-comm ws (spot H m) (spot H p) a b (inl (omega (arith, l)))

  pub write-own : (ws : List ℕ) (m : ℕ) → write_slot H ws m (slot_in H ws m) ≡ ws
  unfolding write_slot slot_in
  write-own ws m = element-own ws (spot H m) (slot_in H ws m) refl
