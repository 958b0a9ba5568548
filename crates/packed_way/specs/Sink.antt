-- A sink's way, as the code walks it: down to where x comes to rest, and back up with what is lifted.
use Rattle.std.specs.Prelude.{◌&&◌, ◌*◌, ◌+◌, ◌<◌, ◌≡◌, ◌≤◌, ◌⊎◌, None, Option, Some}
use Rattle.laws.specs.Prelude.{Bool, Element, List, blank, cond, eqb, false, is_blank, length, not, suc, true, untagged, ℕ}
use Rattle.packed_model.specs.Node.{lhs, lifts, lower_side, none, pick, rhs, Side, sink, size, stepped}
use Rattle.packed_model.specs.Words.{child, Lies, run_words, slot_in, step_in, way_ok}
use Rattle.packed_way.specs.declared.Goes.{Goes}
use Rattle.packed_way.specs.declared.Goes.TheVariants.{Left, Nowhere, Right}

-- ---- one step
-- a child that is held has a tag, one that is not is three zeros
unfoldable pub fine : Bool → Element → Bool
fine true e = not (untagged e)
fine false e = is_blank e

abbrev pub towards : Side → Goes
towards lhs = Left
towards rhs = Right

-- where x goes from a position with the children a and b; nothing where a child is damaged. p, q: a, b are held
unfoldable pub sink_to : Bool → Bool → Element → Element → Element → Option Goes
sink_to p q x a b = cond (fine p a && fine q b) (Some (cond (lifts x (pick (lower_side a b) a b)) (towards (lower_side a b)) Nowhere)) None

module _ (H : ℕ) where
  -- the slot m as it is read: slot p, from which the last entry is taken away, counts as empty
  unfoldable pub slot_but : ℕ → List ℕ → ℕ → Element
  slot_but p ws m = cond (eqb m p) blank (slot_in H ws m)

  -- us are the words as they are read, below the tops
  abbrev pub Reads : ℕ → List ℕ → List ℕ → Type 0
  Reads p ws us = (m : ℕ) → H ≤ m → slot_in H us m ≡ slot_but p ws m

-- ---- the way down
-- slot m is position i of heap h
pub record Seat (H h i m : ℕ) : Type 0 where
  pub e : ℕ
  pub j : ℕ
  pub place : i ≡ size e + j
  pub within : j < size e
  pub slot : m + H ≡ h * size e + H * size e + j

module _ (H left : ℕ) (x : Element) (h : ℕ) (ws : List ℕ) where
  -- x, sunk from the top of heap h with so many levels below it, gets to slot m, with k levels below
  pub data Gets : ℕ → ℕ → Type 0 where
    top : Gets left h
    on : (k m : ℕ) (s : Side) → Gets (suc k) m → step_in H (suc k) (sink x) m ws ≡ stepped (slot_in H ws (child H m s)) s (sink x) → Gets k (child H m s)

  -- .. and comes to rest there
  pub record Ends (m : ℕ) : Type 0 where
    pub k : ℕ
    pub gets : Gets k m
    pub rests : step_in H k (sink x) m ws ≡ stepped x lhs none

  -- where n are held, the walk down has come to slot m, with k levels below it
  pub record Walk (n k m : ℕ) : Type 0 where
    pub i : ℕ
    pub seat : Seat H h i m
    pub gets : Gets k m
    pub way : way_ok H (suc left) n (sink x) 1 h ws ≡ way_ok H (suc k) n (sink x) i m ws

  -- what is found where n are held: nothing where the way is damaged, else the slot where x comes to rest
  abbrev pub Found : ℕ → Option ℕ → Type 0
  Found n None = way_ok H (suc left) n (sink x) 1 h ws ≡ false
  Found n (Some m) = (way_ok H (suc left) n (sink x) 1 h ws ≡ true) × Ends m

-- `last` is the last slot of heap h that is held where n are
abbrev pub HeldTo : ℕ → ℕ → ℕ → ℕ → Type 0
HeldTo H h n last = (i m : ℕ) → Seat H h i m → (i ≤ n → m ≤ last) × (m ≤ last → i ≤ n)

-- a way down heap h: p is the hole, past the last slot that is held; or none, and then it is a top
pub record SinkReady (H left last p h : ℕ) (ws : List ℕ) : Type 0 where
  pub one : 0 < H
  pub there : h < H
  pub lies : Lies H (suc left) h (length ws)
  pub ends : H + last * 3 + 3 ≤ length ws
  pub hole : (last < p) ⊎ (p < H)

-- the end of a way, from slot m on with k levels below it, where the right child is not held
pub record EdgeReady (H k last m : ℕ) (ws : List ℕ) : Type 0 where
  pub one : 0 < H
  pub lies : Lies H (suc k) m (length ws)
  pub edge : last ≤ m + m + H

-- what the walk down comes to, for whatever count the last slot stands for and whatever words are read so
abbrev pub Sought : ℕ → ℕ → ℕ → ℕ → ℕ → Element → List ℕ → Option ℕ → Type 0
Sought H left last p h x ws r = (n : ℕ) → HeldTo H h n last → (us : List ℕ) → Reads H p ws us → Found H left x h us n r

-- .. and the walk of its end, for whatever walk has come to slot m
abbrev pub EdgeSought : ℕ → ℕ → ℕ → ℕ → ℕ → Element → List ℕ → Option ℕ → Type 0
EdgeSought H k last p m x ws r =
    (left h n : ℕ) → HeldTo H h n last → (us : List ℕ) → Reads H p ws us → Walk H left x h us n k m → Found H left x h us n r

-- ---- the way back
-- the sink is done, from whichever heap's top it got to this slot
abbrev pub Climbed : ℕ → ℕ → Element → List ℕ → List ℕ → Type 0
Climbed H end x ws vs = (left h : ℕ) → h < H → Ends H left x h ws end → vs ≡ run_words H (suc left) (sink x) h ws
