-- What a call at a port tests, as computed yes or no; a bucket's tests are the bucket queue's own. Causes.antt says the same in facts. These are definitions.
use Rattle.std.specs.Prelude.{◌&&◌, ◌-◌, ◌||◌}
use Rattle.laws.specs.Prelude.{Bool, Bool·beq, List, eqb, leb, length, ltb, max, suc, sum_to, true, zero, ℕ}
use Rattle.bucket_model.specs.Prelude.{depth_ok, pool, word}
use Rattle.ports_model.specs.Layout.{Shape, most_ports, bit_words, store_words, free_at, held_at, floor_at, ceiling_at, seat, limit_words, floor_of, ceiling_of}

-- yes of every number below n
unfoldable pub all_to : ℕ → (ℕ → Bool) → Bool
all_to zero f = true
all_to (suc n) f = all_to n f && f n

-- ---- 1

-- storeys and N as in the bucket queue, 1 to 16 ports, and both slices long enough
unfoldable pub shape_ok : Shape → ℕ → ℕ → Bool
shape_ok s bits words =
    depth_ok s.storeys && leb 1 s.nodes && leb s.nodes pool && leb 1 s.ports && leb s.ports most_ports
    && leb (bit_words s) bits && leb (store_words s) words

abbrev pub is_shaped : Shape → List ℕ → List ℕ → Bool
is_shaped s b w = shape_ok s (length b) (length w)

-- "floor at most ceiling, floors adding up to N at most, fixed when clearing (refusal 1 if not so)"
unfoldable pub limits_ok : Shape → List ℕ → Bool
limits_ok s lim =
    leb (limit_words s) (length lim) && all_to s.ports (λ p. leb (floor_of lim p) (ceiling_of lim p)) && leb (sum_to s.ports (floor_of lim)) s.nodes

-- ---- 2

-- all that is held, at all ports
abbrev pub used_in : Shape → List ℕ → ℕ
used_in s w = sum_to s.ports (λ p. word w (held_at s p))

-- "the sum, over all ports, of the larger of held and floor"
abbrev pub claimed_in : Shape → List ℕ → ℕ
claimed_in s w = sum_to s.ports (λ p. max (word w (held_at s p)) (word w (floor_at s p)))

-- of a port: neither its floor nor what it holds is above its ceiling
abbrev pub kept_at : Shape → List ℕ → ℕ → Bool
kept_at s w p = leb (word w (floor_at s p)) (word w (ceiling_at s p)) && leb (word w (held_at s p)) (word w (ceiling_at s p))

abbrev pub limits_kept : Shape → List ℕ → Bool
limits_kept s w = all_to s.ports (kept_at s w)

-- what every call but clear tests: every port keeps its limits; what is claimed and the free link are at most N; free link 0 exactly if all ports together hold N; the port's top word 0 exactly if it holds nothing
unfoldable pub whole_ok : Bool → ℕ → ℕ → ℕ → ℕ → ℕ → ℕ → Bool
whole_ok kept claimed used free top mine n =
    kept && leb claimed n && leb free n && Bool·beq (eqb free 0) (eqb used n) && Bool·beq (eqb top 0) (eqb mine 0)

abbrev pub is_whole : Shape → ℕ → List ℕ → List ℕ → Bool
is_whole s p b w =
    whole_ok (limits_kept s w) (claimed_in s w) (used_in s w) (word w (free_at s)) (word b (seat s p).bits) (word w (held_at s p)) s.nodes

-- ---- 5: "accepted exactly if p holds less than its floor, or less than its ceiling while N minus the sum, over all ports, of the larger of held and floor is above zero"

unfoldable pub room_ok : ℕ → ℕ → ℕ → ℕ → ℕ → Bool
room_ok mine floor ceiling claimed n = ltb mine floor || (ltb mine ceiling && ltb 0 (n - claimed))

abbrev pub has_room : Shape → ℕ → List ℕ → Bool
has_room s p w = room_ok (word w (held_at s p)) (word w (floor_at s p)) (word w (ceiling_at s p)) (claimed_in s w) s.nodes
