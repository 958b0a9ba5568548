-- The five calls of the cluster heap, each a total function of K, levels and words to an answer and the words afterwards: what the heap brings, to the calls that every queue has (`promise/specs/Calls.antt`).
use Rattle.std.specs.Prelude.{◌&&◌, ◌++◌, ◌+◌}
use Rattle.laws.specs.Prelude.{Answer, BadShape, Bool, Element, Idle, List, Pop, Push, Replace, Request, drop, leb, length, pred, replicate, ℕ, Result, Refusal}
use Rattle.promise.specs.Calls as calls
use Rattle.promise.specs.Prelude.{Queue, always, ends, last_table, needs}
use Rattle.cluster_model.specs.Causes.{NodeDamaged, PathDamaged, Shape, stored_count}
use Rattle.cluster_model.specs.Node.{inside, low_elem, Node, Op, none, put, take, swap}
use Rattle.cluster_model.specs.Heap.{room}
use Rattle.cluster_model.specs.Way.{extent, node_in, node_ok, way_ok, run_words}

-- ---- the shape
-- "capacity K times (2^L − 1), at most 5,460"
abbrev pub place_limit : ℕ
place_limit = 5460

-- "K from 2 to 16; levels at least 1", the capacity within the limit, and a slice that holds it: "A shorter slice is refused"
unfoldable pub shape_ok : ℕ → ℕ → ℕ → Bool
shape_ok K levels len = leb 2 K && (leb K 16 && (leb 1 levels && (leb (room K levels) place_limit && leb (extent K levels 1) len)))

-- held, by the root alone: its flagged places and its two counts
unfoldable pub root_held : Node → ℕ
root_held n = inside always n.places + (n.left + n.right)

-- ---- what a request comes to at a root that is in order: its answer, and the work at node 0
abbrev pub Ruling : Type 0
Ruling = calls.Ruling Op

abbrev pub ruling : Answer → Op → Ruling
ruling a o = calls.ruling a o

-- Push puts at the root, pop takes there; replace is a pop and then a push (02 [4]): the new one is swapped in
abbrev pub op_of : Request → Op
op_of Idle = none
op_of (Push x) = put x
op_of Pop = take
op_of (Replace x) = swap x

-- 7, then 5 or 6; else the root's lowest is answered, and the operation done. c is the capacity, h is what is held, e the root's lowest
unfoldable pub rule : ℕ → Request → ℕ → Element → Ruling
rule c r h e = calls.ruled op_of (last_table r h c) r e

-- ---- the calls
abbrev pub Outcome : Type 0
Outcome = calls.Outcome (List ℕ)

abbrev pub outcome : Answer → List ℕ → Outcome
outcome a ws = calls.outcome a ws

-- "Clear writes zeros": the first n words
unfoldable pub wipe : ℕ → List ℕ → List ℕ
wipe n ws = replicate n 0 ++ drop n ws

module _ (K levels : ℕ) where
  abbrev pub root_ok : List ℕ → Bool
  root_ok ws = node_ok K (room K (pred levels)) ws 0

  -- what the root holds in all
  abbrev pub held_in : List ℕ → ℕ
  held_in ws = root_held (node_in K ws 0)

  abbrev pub rule_at : Request → List ℕ → Ruling
  rule_at r ws = rule (room K levels) r (held_in ws) (low_elem (node_in K ws 0).places)

  -- the heap as a queue that does one operation at a time: 1, 2, 7, then 5 or 6
  abbrev pub heap : Queue (List ℕ)
  heap =
      record {
        opening = λ ws. needs BadShape (shape_ok K levels (length ws)) (Shape K levels (length ws)) ends;
        clearing = λ ws. needs BadShape (shape_ok K levels (length ws)) (Shape K levels (length ws)) ends;
        asked = λ r ws. ends;
        root_ok = root_ok;
        RootDamaged = λ ws. NodeDamaged K (room K (pred levels)) ws 0;
        held = held_in;
        low = λ ws. low_elem (node_in K ws 0).places;
        late = λ r ws. last_table r (held_in ws) (room K levels);
        Op = Op;
        op = op_of;
        way_ok = λ o ws. way_ok K levels o 0 ws;
        WayDamaged = λ o ws. PathDamaged K levels o 0 ws;
        run = λ o ws. run_words K levels o 0 ws;
        wipe = λ ws. wipe (extent K levels 1) ws;
        stored = λ ws. stored_count K levels ws;
      }

  -- push, pop and replace
  unfoldable pub called : Request → List ℕ → Outcome
  called r ws = calls.called heap r ws

  unfoldable pub cleared : List ℕ → Outcome
  cleared ws = calls.cleared heap ws

  -- held reads the root alone, once it passes the test of a node
  unfoldable pub held_count : List ℕ → Result ℕ Refusal
  held_count ws = calls.held_count heap ws
