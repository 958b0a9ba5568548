-- What the functions ask of their callers, and what they promise: the sums over the ports as far as they have been added up, and the tests made with them. These are definitions.
use Rattle.std.specs.Prelude.{◌&&◌, ◌*◌, ◌+◌, ◌≡◌, ◌≤◌}
use Rattle.laws.specs.Prelude.{Bool, List, leb, max, sum_to, ℕ}
use Rattle.bucket_model.specs.declared.Lay.{Lay}
use Rattle.bucket_model.specs.Prelude.{depth_ok, least_storeys, most_storeys, pool, word}
use Rattle.ports_model.specs.declared.Shape.{Shape}
use Rattle.ports_model.specs.Prelude.{all_to, floor_of, most_ports, port_words, room_ok, whole_ok}
use Rattle.ports_step.specs.declared.Totals.{Totals}

-- ---- the numbers of a pool

abbrev pub numbers_ok : Shape → Bool
numbers_ok s = depth_ok s.storeys && leb 1 s.nodes && leb s.nodes pool && leb 1 s.ports && leb s.ports most_ports

pub record Numbers (s : Shape) : Type 0 where
  pub two : least_storeys ≤ s.storeys
  pub three : s.storeys ≤ most_storeys
  pub low : 1 ≤ s.nodes
  pub high : s.nodes ≤ pool
  pub some : 1 ≤ s.ports
  pub few : s.ports ≤ most_ports

-- ---- sums

-- of the first p ports, whose words stand behind the free link: held, floor, ceiling. No sum wraps, whatever the words are
pub record Summed (w : List ℕ) (free p : ℕ) (t : Totals) : Type 0 where
  pub used : t.used ≡ sum_to p (λ q. word w (free + (1 + port_words * q)))
  pub claimed : t.claimed ≡ sum_to p (λ q. max (word w (free + (1 + port_words * q))) (word w (free + (2 + port_words * q))))
  pub kept : t.kept ≡ all_to p (λ q. leb (word w (free + (2 + port_words * q))) (word w (free + (3 + port_words * q))) && leb (word w (free + (1 + port_words * q))) (word w (free + (3 + port_words * q))))
  pub used≤ : t.used ≤ p * 4294967295
  pub claimed≤ : t.claimed ≤ p * 4294967295

-- the floors that clear is handed
pub record Floors (lim : List ℕ) (p sum : ℕ) : Type 0 where
  pub is : sum ≡ sum_to p (floor_of lim)
  pub small : sum ≤ p * 4294967295

-- ---- the tests made with them

abbrev pub whole_by : Lay → Totals → List ℕ → List ℕ → Bool
whole_by k t b w = whole_ok t.kept t.claimed t.used (word w k.free) (word b k.bits) (word w k.held) k.nodes

-- floor and ceiling stand behind held
abbrev pub room_by : Lay → Totals → List ℕ → Bool
room_by k t w = room_ok (word w k.held) (word w (k.held + 1)) (word w (k.held + 2)) t.claimed k.nodes
