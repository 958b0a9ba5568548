-- What the mender leaves and answers (02 [11]): it is a list of pushes on a cleared store.
use Rattle.std.specs.Prelude.{◌&&◌, ◌+◌, ◌∷◌, Err, Ok, Result}
use Rattle.laws.specs.Prelude.{BadShape, Bool, List, Push, Refusal, Request, [], cond, length, not, refusal_number, suc, untagged, zero, ℕ}
use Rattle.promise.specs.Prelude.{hit}
use Rattle.tree_model.specs.declared.Slot.{Slot}
use Rattle.tree_model.specs.Prelude.{after, called, is_empty, room, shape_ok, slot_of}

-- "every slot with a count not 0", but "A slot with tag 0 is skipped"
unfoldable pub keeps : Slot → Bool
keeps s = not (is_empty s) && not (untagged s.element)

-- "the number of such slots": those with a count not 0 and tag 0
unfoldable pub skips : Slot → Bool
skips s = not (is_empty s) && untagged s.element

-- "pushes into it, in slice order": the pushes of slot i and the n - 1 after it
unfoldable pub pushes : List ℕ → ℕ → ℕ → List Request
pushes ws i zero = []
pushes ws i (suc n) = cond (keeps (slot_of ws i)) (Push (slot_of ws i).element ∷ pushes ws (suc i) n) (pushes ws (suc i) n)

-- .. and how many are skipped
unfoldable pub skipped : List ℕ → ℕ → ℕ → ℕ
skipped ws i zero = 0
skipped ws i (suc n) = hit (skips (slot_of ws i)) + skipped ws (suc i) n

-- one slot's part: the second store's words after it
unfoldable pub mend_slot : ℕ → ℕ → Slot → List ℕ → List ℕ
mend_slot m levels s to = cond (keeps s) (called m levels (Push s.element) to).words to

-- the answer, how many were skipped or a refusal, and the second store's words afterwards
pub record Mended : Type 0 where
  pub answer : Result ℕ Refusal
  pub words : List ℕ

abbrev pub mended_as : Result ℕ Refusal → List ℕ → Mended
mended_as a ws = record { answer = a; words = ws }

-- "The mender clears a second store of equal shape and pushes into it, in slice order, every slot with a count not 0; the first is left alone. .. Refusal 1
-- holds for either store, before anything is written"
unfoldable pub mended : ℕ → ℕ → List ℕ → List ℕ → Mended
mended m levels ws to =
    cond (shape_ok m levels (length ws) && shape_ok m levels (length to))
    (mended_as (Ok (skipped ws 0 (room m levels))) (after m levels (pushes ws 0 (room m levels)) to))
    (mended_as (Err BadShape) to)

-- ---- 01's numbers: the refusal's, 0 where nothing is refused; and how many were skipped, 0 where it is refused
abbrev pub mend_number : Result ℕ Refusal → ℕ
mend_number (Ok n) = 0
mend_number (Err r) = refusal_number r

abbrev pub mend_skipped : Result ℕ Refusal → ℕ
mend_skipped (Ok n) = n
mend_skipped (Err r) = 0
