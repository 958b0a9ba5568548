-- A call past the tests that every call makes.
use Rattle.std.specs.Prelude.{◌<◌, ◌≡◌}
use Rattle.laws.specs.Prelude.{List, length, true, ℕ}
use Rattle.packed_model.specs.Words.{word}
use Rattle.packed_model.specs.Calls.{shape_ok, root_ok}

-- the shape is good, heap h is one of them, and its held word n and its top are in order
pub record Opened (H levels h n : ℕ) (ws : List ℕ) : Type 0 where
  pub shape : shape_ok H levels (length ws) ≡ true
  pub heap : h < H
  pub held : n ≡ word ws h
  pub root : root_ok H levels h ws ≡ true

-- .. and so the words that the leaves read are there
pub record Around (H levels h : ℕ) (ws : List ℕ) : Type 0 where
  pub shape : shape_ok H levels (length ws) ≡ true
  pub heap : h < H
