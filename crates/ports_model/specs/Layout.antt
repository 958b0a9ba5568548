-- Where the words of several ports on one pool stand: each port is a bucket queue laid out of its own, and all have the nodes and the free link together. These are definitions.
use Rattle.std.specs.Prelude.{◌*◌, ◌+◌, ◌-◌, ◌^◌}
use Rattle.laws.specs.Prelude.{List, ℕ}
use Rattle.bucket_model.specs.declared.Lay.{Lay}
use Rattle.bucket_model.specs.Prelude.{node_words, word, words_of}
pub use Rattle.ports_model.specs.declared.Shape.{Shape}

-- "Up to 16 ports"
abbrev pub most_ports : ℕ
most_ports = 16

-- "Five halls will share one bucket pool, each with its own ranks": how many a port has, 4,096 or 262,144
abbrev pub ranks_of : Shape → ℕ
ranks_of s = 64 ^ s.storeys

-- ---- words of 64 bits: port after port, each as in a queue of its own

abbrev pub bit_words : Shape → ℕ
bit_words s = s.ports * words_of s.storeys

-- ---- words of 32 bits: for each port its heads and then its tails; the nodes; the free link; for each port held, floor, ceiling

abbrev pub nodes_at : Shape → ℕ
nodes_at s = s.ports * (2 * ranks_of s)

abbrev pub free_at : Shape → ℕ
free_at s = nodes_at s + node_words * s.nodes

-- how many words a port has behind the free link
abbrev pub port_words : ℕ
port_words = 3

abbrev pub held_at : Shape → ℕ → ℕ
held_at s p = free_at s + (1 + port_words * p)

abbrev pub floor_at : Shape → ℕ → ℕ
floor_at s p = free_at s + (2 + port_words * p)

abbrev pub ceiling_at : Shape → ℕ → ℕ
ceiling_at s p = free_at s + (3 + port_words * p)

abbrev pub store_words : Shape → ℕ
store_words s = free_at s + (1 + port_words * s.ports)

-- ---- a port as a bucket queue

abbrev pub seat : Shape → ℕ → Lay
seat s p =
    record {
      storeys = s.storeys;
      tower = words_of s.storeys;
      bits = p * words_of s.storeys;
      ranks = ranks_of s;
      heads = p * (2 * ranks_of s);
      stem = nodes_at s - node_words;
      nodes = s.nodes;
      free = free_at s;
      held = held_at s p;
    }

-- ---- what clear is handed: for each port its floor and its ceiling

abbrev pub limit_words : Shape → ℕ
limit_words s = 2 * s.ports

abbrev pub floor_of : List ℕ → ℕ → ℕ
floor_of lim p = word lim (2 * p)

abbrev pub ceiling_of : List ℕ → ℕ → ℕ
ceiling_of lim p = word lim (2 * p + 1)
