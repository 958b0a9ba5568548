-- What is promised of the packed heap is said in these words: the table of refusals, when a heap is packed, and what a list of calls leaves and is answered.
use Rattle.std.specs.Prelude.{◌+◌, ◌<◌, ◌≡◌, ◌≤◌, ◌⊎◌}
use Rattle.laws.specs.Prelude.{Answer, BadShape, Bool, Damaged, Element, Ladder, List, NoHeap, NoTag, Refusal, Request, fine, length, rung, stop, ℕ}
use Rattle.packed_model.specs.Calls.{called, cleared, rule_at}
use Rattle.packed_model.specs.Causes.{RootDamaged, Shape, WayDamaged}
use Rattle.packed_model.specs.Heap.{many, Sound}
use Rattle.packed_model.specs.Node.{size}
use Rattle.packed_model.specs.Words.{capacity, heap_in, word}
use Rattle.promise.specs.Calls as calls
use Rattle.promise.specs.Forest.{At}
use Rattle.promise.specs.Prelude.{Step, Untagged, answers, leaves, limits}

-- the table, in order: 1, 12, 2, 7, then 5 or 6. "A call that 7, 5 or 6 refuses" tests no way
abbrev pub refusals : ℕ → ℕ → ℕ → Request → List ℕ → Ladder Refusal
refusals H levels h r ws =
    rung BadShape (Shape H levels (length ws))
    (rung NoHeap (h < H)
    (stop Damaged (RootDamaged H levels h ws ⊎ WayDamaged H levels h (rule_at H levels h r ws).op ws)
    (stop NoTag (Untagged r)
    (limits r (word ws h) (capacity levels) fine))))

-- .. of clear, and of held: "1, 12, 2"
abbrev pub clear_refusals : ℕ → ℕ → List ℕ → Ladder Refusal
clear_refusals H levels ws = rung BadShape (Shape H levels (length ws)) fine

abbrev pub held_refusals : ℕ → ℕ → ℕ → List ℕ → Ladder Refusal
held_refusals H levels h ws = rung BadShape (Shape H levels (length ws)) (rung NoHeap (h < H) (stop Damaged (RootDamaged H levels h ws) fine))

-- PACKED: heap h has what its held word says, d full levels and the first r slots of the next, and is in order
pub record Packed (H levels : ℕ) (ws : List ℕ) (h : ℕ) : Type 0 where
  pub d : ℕ
  pub r : ℕ
  pub fits : r ≤ size d
  pub held : word ws h + 1 ≡ size d + r
  pub sound : Sound levels d r (heap_in H levels ws h)

-- what heap h holds
abbrev pub stored : ℕ → ℕ → ℕ → List ℕ → (Element → Bool) → ℕ
stored H levels h ws f = many f levels (heap_in H levels ws h)

-- all that heap h is: two stores of one length with the same held word and the same slots of h
pub record Like (H levels h : ℕ) (ws vs : List ℕ) : Type 0 where
  pub size : length ws ≡ length vs
  pub held : word ws h ≡ word vs h
  pub slots : heap_in H levels ws h ≡ heap_in H levels vs h

-- ---- the forest: each call names a heap
abbrev pub packed_queue : ℕ → ℕ → At → List ℕ → Step Answer (List ℕ)
packed_queue H levels c = calls.stepping (called H levels c.queue) c.asks

-- .. and one of the heaps as a queue
abbrev pub heap_queue : ℕ → ℕ → ℕ → Request → List ℕ → Step Answer (List ℕ)
heap_queue H levels h = calls.stepping (called H levels h)

-- a cleared store to begin with, whatever the words were; the words that a list of calls leaves from there, and what it is answered
abbrev pub start : ℕ → ℕ → List ℕ → List ℕ
start H levels ws = (cleared H levels ws).words

abbrev pub after : ℕ → ℕ → List At → List ℕ → List ℕ
after H levels cs ws = leaves (packed_queue H levels) cs (start H levels ws)

abbrev pub said : ℕ → ℕ → List At → List ℕ → List Answer
said H levels cs ws = answers (packed_queue H levels) cs (start H levels ws)
