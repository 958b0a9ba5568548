-- A put's way by itself, as the code walks it: read from its end up, written from the first exchange down.
use Rattle.std.specs.Prelude.{◌&&◌, ◌*◌, ◌+◌, ◌<◌, ◌≡◌, ◌≤◌, None, Option, Some}
use Rattle.laws.specs.Prelude.{Bool, Element, List, false, keep, pass, suc, true, zero, ℕ}
use Rattle.packed_model.specs.Node.{rest_of, size, turn_of}
use Rattle.packed_model.specs.Words.{child, slot_at, slot_in, tagged, write_slot, zero_slot}

module _ (H : ℕ) where
  -- towards the position d levels deeper and r further, from slot m: every slot above it has an element, and it is empty
  unfoldable pub put_ok : ℕ → ℕ → ℕ → List ℕ → Bool
  put_ok zero r m ws = zero_slot H ws m
  put_ok (suc e) r m ws = tagged H ws m && put_ok e (rest_of e r) (child H m (turn_of e r)) ws

  -- of the element put and the element met one stays, and the other goes on
  unfoldable pub put_run : ℕ → ℕ → ℕ → Element → List ℕ → List ℕ
  put_run zero r m x ws = write_slot H ws m x
  put_run (suc e) r m x ws = write_slot H (put_run e (rest_of e r) (child H m (turn_of e r)) (pass x (slot_in H ws m)) ws) m (keep x (slot_in H ws m))

module _ (H d r m : ℕ) where
  -- the put's way from slot m: with so many levels to go and so much of r left it comes to a slot
  pub data Comes : ℕ → ℕ → ℕ → Type 0 where
    start : Comes d r m
    down : (e j p : ℕ) → Comes (suc e) j p → Comes e (rest_of e j) (child H p (turn_of e j))

  -- with k levels to go x has met nothing that it is exchanged with
  pub record Starts (x : Element) (ws : List ℕ) (k : ℕ) : Type 0 where
    pub rest : ℕ
    pub at : ℕ
    pub comes : Comes k rest at
    pub same : put_run H d r m x ws ≡ put_run H k rest at x ws

  -- what is found: nothing where the way is damaged, else the levels to go from such a slot
  abbrev pub PutFound : Element → List ℕ → Option ℕ → Type 0
  PutFound x ws None = put_ok H d r m ws ≡ false
  PutFound x ws (Some k) = (put_ok H d r m ws ≡ true) × Starts x ws k

-- what the walk up from slot `end` comes to, from whichever heap's top the way begins
abbrev pub PutSought : ℕ → ℕ → Element → List ℕ → Option ℕ → Type 0
PutSought H end x ws f = (d r m : ℕ) → m < H → end ≡ slot_at H m d r → PutFound H d r m x ws f

-- a way with so many levels to go to slot `end`: that is in a slice of this many words, and no deeper than the largest heap
pub record PutReady (H end k len : ℕ) : Type 0 where
  pub one : 0 < H
  pub few : k ≤ 16
  pub room : H + end * 3 + 3 ≤ len
  pub below : H * size k ≤ end + H

-- the put is done, from whichever slot k levels above `end`
abbrev pub PutDone : ℕ → ℕ → ℕ → Element → List ℕ → List ℕ → Type 0
PutDone H end k x ws vs = (r m : ℕ) → r < size k → end ≡ slot_at H m k r → vs ≡ put_run H k r m x ws
