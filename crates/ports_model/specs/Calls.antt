-- The five calls as functions of every word that they are lent, to their answer and every word that they leave. What is done at a port is the bucket queue's rule over the port's seat. These are definitions, and the contracts cite them.
use Rattle.std.specs.Prelude.{◌%◌, ◌&&◌, ◌+◌, ◌-◌, ◌/◌}
use Rattle.laws.specs.Prelude.{BadPort, BadShape, Damaged, Element, Empty, Full, List, cond, eqb, ltb, not, ℕ, Result, Refusal, Ok, Err, None}
use Rattle.bucket_model.specs.Calls.{Lowest}
use Rattle.bucket_model.specs.Calls.{Room}
use Rattle.bucket_model.specs.Prelude.{Outcome, fill, lowest_of, outcome, pop_found, push_found, refused, replace_joined, room_with, taken_bits, taken_words, taking, word}
use Rattle.bucket_model.specs.Calls as bucket
use Rattle.ports_model.specs.Layout.{Shape, port_words, bit_words, store_words, free_at, held_at, seat, floor_of, ceiling_of}
use Rattle.ports_model.specs.Checks.{is_shaped, limits_ok, used_in, is_whole, has_room}

-- ---- clear

-- word i of the ports' words: held 0, floor, ceiling
abbrev pub blank_port : List ℕ → ℕ → ℕ
blank_port lim i = cond (eqb (i % port_words) 0) 0 (cond (eqb (i % port_words) 1) (floor_of lim (i / port_words)) (ceiling_of lim (i / port_words)))

-- word j of a cleared store: heads, tails, nodes and free link as the bucket queue's, and behind them the ports' words
unfoldable pub blank_word : Shape → List ℕ → ℕ → ℕ
blank_word s lim j = cond (ltb (free_at s) j) (blank_port lim (j - (free_at s + 1))) (bucket.blank_word (seat s 0) j)

unfoldable pub cleared : Shape → List ℕ → List ℕ → List ℕ → Outcome
cleared s lim b w =
    cond (is_shaped s b w && limits_ok s lim)
    (outcome (Ok None) (fill (λ j. 0) (bit_words s) b) (fill (blank_word s lim) (store_words s) w))
    (refused BadShape b w)

-- ---- at a port

-- "An unknown port is refusal 8, first after shape"
abbrev pub known : Shape → ℕ → List ℕ → List ℕ → Outcome → Outcome
known s p b w o = cond (is_shaped s b w) (cond (ltb p s.ports) o (refused BadPort b w)) (refused BadShape b w)

-- "Held is asked of one port"
unfoldable pub held_count : Shape → ℕ → List ℕ → List ℕ → Result ℕ Refusal
held_count s p b w =
    cond (is_shaped s b w)
    (cond (ltb p s.ports) (cond (is_whole s p b w) (Ok (word w (held_at s p))) (Err Damaged)) (Err BadPort))
    (Err BadShape)

-- what gives the lowest asks for whole words, 2, and then for something held at the port, 6
abbrev pub giving : Shape → ℕ → List ℕ → List ℕ → Outcome → Outcome
giving s p b w o = cond (is_whole s p b w) (cond (not (eqb (word w (held_at s p)) 0)) o (refused Empty b w)) (refused Damaged b w)

unfoldable pub popped : Shape → ℕ → List ℕ → List ℕ → Outcome
popped s p b w = known s p b w (giving s p b w (pop_found (seat s p) b w (lowest_of (seat s p) b w)))

-- the bucket that a push joins: of the pool so many nodes are in use as all ports hold
abbrev pub room_of : Shape → ℕ → List ℕ → List ℕ → ℕ → Room
room_of s p b w r = room_with (seat s p) (used_in s w) b w r

-- "Otherwise it is "full""
unfoldable pub pushed : Shape → ℕ → List ℕ → List ℕ → Element → Outcome
pushed s p b w e =
    known s p b w
    (taking (seat s p) b w e
    (cond (is_whole s p b w)
    (cond (has_room s p w) (push_found (seat s p) b w e (room_of s p b w e.rank.0)) (refused Full b w))
    (refused Damaged b w)))

-- ---- "Replace is a pop and a push at one port and needs no room"

-- all the push's tests on the store as after the pop, those of every call once more too; not the rule of room
unfoldable pub room_after : Shape → ℕ → List ℕ → List ℕ → ℕ → Room
room_after s p b w r =
    record {
      good = is_whole s p b w && (room_of s p b w r).good;
      tail = (room_of s p b w r).tail;
      next = (room_of s p b w r).next;
    }

unfoldable pub replace_found : Shape → ℕ → List ℕ → List ℕ → Element → Lowest → Outcome
replace_found s p b w e low =
    cond low.good (replace_joined (seat s p) b w e low (room_after s p (taken_bits (seat s p) b low) (taken_words (seat s p) w low) e.rank.0)) (refused Damaged b w)

unfoldable pub replaced : Shape → ℕ → List ℕ → List ℕ → Element → Outcome
replaced s p b w e = known s p b w (taking (seat s p) b w e (giving s p b w (replace_found s p b w e (lowest_of (seat s p) b w))))
