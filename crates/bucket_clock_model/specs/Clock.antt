-- The bucket queue by clock cycles, over its pipeline: what a request is answered, and what leaves. These are definitions.
use Rattle.std.specs.Prelude.{◌<◌, ◌∷◌, ◌≡◌}
use Rattle.laws.specs.Prelude.{All, Answer, BadRank, Element, Idle, List, Pop, Push, Replace, Request, [], length, ltb, number_of, pred, suc, ℕ, Ok, None, Some, Err}
use Rattle.bucket_model.specs.declared.Lay.{Lay}
use Rattle.bucket_model.specs.Prelude.{Said, Sorted, answered, ask, counted, plain}
use Rattle.promise.specs.Prelude.{Step, Table, decided, last_table, needs, step}
use Rattle.std.specs.Prelude.{Option}
use Rattle.std.specs.Prelude.{None, Some}
use Rattle.bucket_clock_model.specs.Lists.{heeded}
use Rattle.bucket_clock_model.specs.Pipe.{after, fresh_pipe, Pipe, piped, Shows}

-- "Held is the held word, exact in the middle of any work"
pub record Machine (d : ℕ) : Type 0 where
  pub held : ℕ
  pub pipe : Pipe d

-- "Refusals in this order: .. 4, 7, then 5 (push, held is N) or 6 (pop and replace, held is 0)": of so many ranks and nodes, where h are held
abbrev pub rank_table : ℕ → Request → Table → Table
rank_table ranks Idle a = a
rank_table ranks (Push x) a = needs BadRank (ltb x.rank.0 ranks) (x.rank.0 < ranks) a
rank_table ranks Pop a = a
rank_table ranks (Replace x) a = needs BadRank (ltb x.rank.0 ranks) (x.rank.0 < ranks) a

abbrev pub late_table : ℕ → ℕ → Request → ℕ → Table
late_table ranks n q h = rank_table ranks q (last_table q h n)

abbrev pub number_at : ℕ → ℕ → Request → ℕ → ℕ
number_at ranks n q h = number_of (decided Err (late_table ranks n q h) (Ok None))

-- "Held changes in the request's own cycle (push + 1, pop - 1, replace not)"
abbrev pub held_after : Request → ℕ → ℕ
held_after Idle h = h
held_after (Push x) h = suc h
held_after Pop h = pred h
held_after (Replace x) h = h

-- "An answer has two parts: the number of this cycle's request, and what leaves in this cycle, if anything"
pub record Heard : Type 0 where
  pub number : ℕ
  pub leaves : Option Element

-- the request that goes into stage 1: "After 4, 5, 6 and 7 the cycle runs as an idle one"
abbrev pub sent : (k : Lay) → Request → ℕ → Request
sent k q h = heeded (number_at k.ranks k.nodes q h) q

unfoldable pub clocked : (k : Lay) → Request → Machine k.storeys → Step Heard (Machine k.storeys)
clocked k q m =
    let u = sent k q m.held in
    let r = piped k.storeys u 0 m.pipe in
    step (record { number = number_at k.ranks k.nodes q m.held; leaves = r.said }) (record { held = held_after u m.held; pipe = r.next })

abbrev pub fresh_machine : (d : ℕ) → Machine d
fresh_machine d = record { held = 0; pipe = fresh_pipe d }

-- what a call of one at a time gives out
abbrev pub out_answer : Answer → Option Element
out_answer (Ok None) = None
out_answer (Ok (Some x)) = Some x
out_answer (Err r) = None

abbrev pub out_of : Said → Option Element
out_of (answered a) = out_answer a
out_of (counted c) = None

-- ---- what every cycle keeps: `ago i` is the list of one at a time, i cycles ago; `later` what leaves in the cycles to come

pub record Runs (k : Lay) (m : Machine k.storeys) (ago : ℕ → List Element) (later : List (Option Element)) : Type 0 where
  pub held : m.held ≡ length (ago 0)
  pub sorted : Sorted (ago 0)
  pub ranked : All (λ x. x.rank.0 < k.ranks) (ago 0)
  pub shows : Shows k.storeys m.pipe ago later

-- the lists of one at a time through a list of requests
unfoldable pub history : Lay → List Request → (ℕ → List Element) → ℕ → List Element
history k [] ago = ago
history k (q ∷ qs) ago = history k qs (after (plain k (ask q) (ago 0)).next ago)
