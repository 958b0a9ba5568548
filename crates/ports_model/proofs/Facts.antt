-- Each test of a call and the facts that it stands for.
use Rattle.laws.specs.Prelude.{Bool, List, Means, ◌-◌, ◌<◌, ◌||◌, ◌≤◌, ◌⊎◌, arith, false, false≢true, inl, inr, length, means-and, means-beq, means-by, means-eqb, means-leb, means-ltb, not-suc-le-zero, refl, suc, sum_to, true, zero, ℕ, ℕ_discrete, ⊎_elim}
use Rattle.bucket_model.specs.Prelude.{JoinFit, least_storeys, most_storeys, pool, word}
use Rattle.bucket_model.proofs.Laws.{join-means}
use Rattle.ports_model.specs.Prelude.{Fair, Room, Shape, Shaped, Whole, all_to, bit_words, ceiling_at, ceiling_of, claimed_in, floor_at, floor_of, free_at, has_room, held_at, is_shaped, is_whole, kept_at, limit_words, limits_kept, limits_ok, most_ports, room_after, room_ok, seat, shape_ok, store_words, used_in, whole_ok}

-- yes of every number below n
pub means-all : (n : ℕ) (f : ℕ → Bool) (P : ℕ → Type 0) → ((i : ℕ) → Means (f i) (P i)) → Means (all_to n f) ((i : ℕ) → i < n → P i)
unfolding all_to
means-all zero f P m = record { says = λ e i h. absurd (not-suc-le-zero h); holds = λ h. refl }
means-all (suc n) f P m =
    means-by (means-and (means-all n f P m) (m n))
    (λ x i h. elim (ℕ_discrete i n) [ yes e ↦ rw e x.1 | no e ↦ x.0 i (omega arith) ])
    (λ h. ((λ i l. h i (omega arith)), h n (omega arith)))

either-test : (a b : Bool) {A B : Type 0} → Means a A → Means b B → Means (a || b) (A ⊎ B)
either-test true b p q = record { says = λ e. inl (p.says refl); holds = λ x. refl }
either-test false b p q = record { says = λ e. inr (q.says e); holds = λ x. ⊎_elim (λ y. absurd (false≢true (p.holds y))) (λ y. q.holds y) x }

-- one test or the other
pub means-or : {a b : Bool} {A B : Type 0} → Means a A → Means b B → Means (a || b) (A ⊎ B)
means-or {a} {b} p q = either-test a b p q

module _ (s : Shape) (b w : List ℕ) where
  pub shape-means : Means (is_shaped s b w) (Shaped s b w)
  unfolding shape_ok
  shape-means =
      means-by
      (means-and (means-and (means-and (means-and (means-and (means-and (means-and (means-leb least_storeys s.storeys) (means-leb s.storeys most_storeys)) (means-leb 1 s.nodes)) (means-leb s.nodes pool)) (means-leb 1 s.ports)) (means-leb s.ports most_ports)) (means-leb (bit_words s) (length b))) (means-leb (store_words s) (length w)))
      (λ x. record { two = x.0.0.0.0.0.0.0; three = x.0.0.0.0.0.0.1; low = x.0.0.0.0.0.1; high = x.0.0.0.0.1; some = x.0.0.0.1; few = x.0.0.1; bits = x.0.1; words = x.1 })
      (λ h. (((((((h.two, h.three), h.low), h.high), h.some), h.few), h.bits), h.words))

pub limits-mean : (s : Shape) (lim : List ℕ) → Means (limits_ok s lim) (Fair s lim)
unfolding limits_ok
limits-mean s lim =
    means-by
    (means-and (means-and (means-leb (limit_words s) (length lim)) (means-all s.ports _ (λ p. floor_of lim p ≤ ceiling_of lim p) (λ p. means-leb (floor_of lim p) (ceiling_of lim p)))) (means-leb (sum_to s.ports (floor_of lim)) s.nodes))
    (λ x. record { long = x.0.0; orderly = x.0.1; fits = x.1 })
    (λ h. ((h.long, h.orderly), h.fits))

pub kept-means : (s : Shape) (w : List ℕ) → Means (limits_kept s w) ((q : ℕ) → q < s.ports → (word w (floor_at s q) ≤ word w (ceiling_at s q)) × (word w (held_at s q) ≤ word w (ceiling_at s q)))
kept-means s w =
    means-all s.ports (kept_at s w) (λ q. (word w (floor_at s q) ≤ word w (ceiling_at s q)) × (word w (held_at s q) ≤ word w (ceiling_at s q)))
    (λ q. means-and (means-leb (word w (floor_at s q)) (word w (ceiling_at s q))) (means-leb (word w (held_at s q)) (word w (ceiling_at s q))))

module _ (s : Shape) (p : ℕ) (b w : List ℕ) where
  pub whole-means : Means (is_whole s p b w) (Whole s p b w)
  unfolding whole_ok
  whole-means =
      let free = word w (free_at s) in
      means-by
      (means-and (means-and (means-and (means-and (kept-means s w) (means-leb (claimed_in s w) s.nodes)) (means-leb free s.nodes)) (means-beq (means-eqb free 0) (means-eqb (used_in s w) s.nodes))) (means-beq (means-eqb (word b (seat s p).bits) 0) (means-eqb (word w (held_at s p)) 0)))
      (λ x. record { floors = λ q h. (x.0.0.0.0 q h).0; ceilings = λ q h. (x.0.0.0.0 q h).1; claims = x.0.0.0.1; free≤ = x.0.0.1; full = x.0.1; empty = x.1 })
      (λ h. (((((λ q l. (h.floors q l, h.ceilings q l)), h.claims), h.free≤), h.full), h.empty))

  pub after-means : (r : ℕ) → Means (room_after s p b w r).good (Whole s p b w × JoinFit (seat s p) (used_in s w) b w r)
  unfolding room_after
  after-means r = means-and whole-means (join-means (seat s p) b w r (used_in s w))

pub room-means : (s : Shape) (p : ℕ) (w : List ℕ) → Means (has_room s p w) (Room s p w)
unfolding room_ok
room-means s p w =
    means-or (means-ltb (word w (held_at s p)) (word w (floor_at s p))) (means-and (means-ltb (word w (held_at s p)) (word w (ceiling_at s p))) (means-ltb 0 (s.nodes - claimed_in s w)))
