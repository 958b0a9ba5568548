-- A list of calls through C at any heaps, each on what the one before left, `out` lent to each: what a call answers is the number returned and `out`. These are definitions.
use Rattle.laws.specs.Prelude.{Answer, List, map, ℕ}
use Rattle.card_packed.specs.Packed.{packed_clear, packed_pop, packed_push, packed_replace}
use Rattle.card_words.specs.Heard.{Ask, heard, heard_all, pop, push, replace, wanted}
use Rattle.card_words.specs.Out.{count_after, CountAfter}
use Rattle.packed_model.specs.Promise.{stored}
use Rattle.promise.specs.Forest.{At, seen_by}
use Rattle.promise.specs.Prelude.{Holds, Least, Step, answers, leaves, step}

pub record HeapAsk : Type 0 where
  pub heap : ℕ
  pub asks : Ask

abbrev pub at : ℕ → Ask → HeapAsk
at h c = record { heap = h; asks = c }

module _ (H levels : ℕ) (out : List ℕ) where
  abbrev pub heap_by : ℕ → Ask → List ℕ → Step CountAfter (List ℕ)
  heap_by h (push x) ws = let b = packed_push H levels h ws x.rank.0 x.tag.0 x.length.0 in step (count_after b.number out) b.store
  heap_by h pop ws = let b = packed_pop H levels h ws out in step (count_after b.number b.out) b.store
  heap_by h (replace x) ws = let b = packed_replace H levels h ws x.rank.0 x.tag.0 x.length.0 out in step (count_after b.number b.out) b.store

  abbrev pub packed_c : HeapAsk → List ℕ → Step CountAfter (List ℕ)
  packed_c c ws = heap_by c.heap c.asks ws

-- what is heard of a call, and which call of the model it is
abbrev pub heap_hears : HeapAsk → CountAfter → Answer
heap_hears c a = heard (wanted c.asks) a

abbrev pub at_of : HeapAsk → At
at_of c = record { queue = c.heap; asks = wanted c.asks }

-- what a list of calls leaves and what is heard of it, from any words, cleared first
module _ (H levels : ℕ) (out : List ℕ) (cs : List HeapAsk) (ws : List ℕ) where
  abbrev pub left_c : List ℕ
  left_c = leaves (packed_c H levels out) cs (packed_clear H levels ws).store

  abbrev pub heard_c : List Answer
  heard_c = heard_all heap_hears cs (answers (packed_c H levels out) cs (packed_clear H levels ws).store)

  -- HEARD at heap h: it holds exactly what went into it and has not come out of it, by the numbers returned and the words of `out`; and what comes out has the lowest rank that it holds
  pub record HeardAt (h : ℕ) : Type 0 where
    pub holds : Holds (stored H levels h left_c) (map (seen_by h) (map at_of cs)) heard_c
    pub least : (c : Ask) → Least (stored H levels h left_c) (wanted c) (heard (wanted c) (heap_by H levels out h c left_c).said)
