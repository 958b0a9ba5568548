-- The five calls of the packed heap, each a total function of H, levels, the heap's number and the words to an answer and the words afterwards: what a heap
-- brings, to the calls that every queue has (`promise/specs/Calls.antt`).
use Rattle.std.specs.Prelude.{◌&&◌, ◌*◌, ◌++◌, ◌+◌, ◌-◌, ◌<◌, ◌||◌}
use Rattle.laws.specs.Prelude.{Answer, BadShape, Bool, Idle, List, NoHeap, Pop, Push, Replace, Request, cond, drop, eqb, leb, length, ltb, replicate, set, true, ℕ, Result, Refusal}
use Rattle.packed_model.specs.Causes.{RootDamaged, Shape, WayDamaged}
use Rattle.packed_model.specs.Heap.{many}
use Rattle.packed_model.specs.Node.{sink}
use Rattle.packed_model.specs.Words.{capacity, cut_last, extent, heap_in, last_in, last_slot, run_words, slot_in, tagged, towards, way_ok, word, zero_slot}
use Rattle.promise.specs.Calls as calls
use Rattle.promise.specs.Prelude.{Queue, ends, last_table, needs}

-- "1 to 256; L at least 1; H(2^L − 1) is at most 131,071", and a slice that holds it
unfoldable pub shape_ok : ℕ → ℕ → ℕ → Bool
shape_ok H levels len = leb 1 H && (leb H 256 && (leb 1 levels && (leb (H * capacity levels) 131071 && leb (extent H levels) len)))

abbrev pub Outcome : Type 0
Outcome = calls.Outcome (List ℕ)

abbrev pub outcome : Answer → List ℕ → Outcome
outcome a ws = calls.outcome a ws

-- "Clear writes zeros to all these words": the first n
unfoldable pub wipe : ℕ → List ℕ → List ℕ
wipe n ws = replicate n 0 ++ drop n ws

module _ (H levels h : ℕ) where
  -- "the held word is above 2^L − 1; or held is 0 and a word of position 1's slot is not 0; or held is not 0 and that slot's tag is 0"
  unfoldable pub root_ok : List ℕ → Bool
  root_ok ws = leb (word ws h) (capacity levels) && cond (eqb (word ws h) 0) (zero_slot H ws h) (tagged H ws h)

  -- what a request that is let in reads beside: the way of its put or sink; a pop first the last entry, and its sink goes by the heap without it
  unfoldable pub reads_ok : Request → List ℕ → Bool
  reads_ok Idle ws = true
  reads_ok (Push x) ws = way_ok H levels (word ws h) (towards levels (word ws h + 1) x) 1 h ws
  reads_ok Pop ws = tagged H ws (last_slot H levels h ws) && (eqb (word ws h) 1 || way_ok H levels (word ws h - 1) (sink (last_in H levels h ws)) 1 h (cut_last H levels h ws))
  reads_ok (Replace x) ws = way_ok H levels (word ws h) (sink x) 1 h ws

  -- what it does. "Push x: put x towards held + 1, from position 1; held + 1". "The last entry .. is taken away: its slot becomes 0, 0, 0, held − 1; if the heap
  -- still holds something, what was taken away is sunk from position 1". "Replace x ..: x is sunk from position 1; held stands"
  unfoldable pub does : Request → List ℕ → List ℕ
  does Idle ws = ws
  does (Push x) ws = set (run_words H levels (towards levels (word ws h + 1) x) h ws) h (word ws h + 1)
  does Pop ws = set (cond (eqb (word ws h) 1) (cut_last H levels h ws) (run_words H levels (sink (last_in H levels h ws)) h (cut_last H levels h ws))) h (word ws h - 1)
  does (Replace x) ws = run_words H levels (sink x) h ws

  -- heap h as a queue that does one operation at a time: 1, 12, 2, 7, then 5 or 6
  abbrev pub heap : Queue (List ℕ)
  heap =
      record {
        opening = λ ws. needs BadShape (shape_ok H levels (length ws)) (Shape H levels (length ws)) (needs NoHeap (ltb h H) (h < H) ends);
        clearing = λ ws. needs BadShape (shape_ok H levels (length ws)) (Shape H levels (length ws)) ends;
        asked = λ r ws. ends;
        root_ok = root_ok;
        RootDamaged = RootDamaged H levels h;
        held = λ ws. word ws h;
        low = λ ws. slot_in H ws h;
        late = λ r ws. last_table r (word ws h) (capacity levels);
        Op = Request;
        op = λ r. r;
        way_ok = reads_ok;
        WayDamaged = WayDamaged H levels h;
        run = does;
        wipe = λ ws. wipe (extent H levels) ws;
        stored = λ ws f. many f levels (heap_in H levels ws h);
      }

  -- what a request comes to at a top that is in order, and that done
  abbrev pub rule_at : Request → List ℕ → calls.Ruling Request
  rule_at r ws = calls.rule_at heap r ws

  unfoldable pub served : Request → List ℕ → Outcome
  served r ws = calls.carried_out heap (rule_at r ws) ws

  -- push, pop and replace
  unfoldable pub called : Request → List ℕ → Outcome
  called r ws = calls.called heap r ws

  -- "Held: 1, 12, 2"
  unfoldable pub held_count : List ℕ → Result ℕ Refusal
  held_count ws = calls.held_count heap ws

unfoldable pub cleared : ℕ → ℕ → List ℕ → Outcome
cleared H levels ws = calls.cleared (heap H levels 0) ws
