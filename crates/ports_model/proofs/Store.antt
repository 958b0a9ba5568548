-- A store whose ports hold lists in leaving order, that it passes the tests of every call, and what it holds once one port's list has changed.
use Rattle.laws.specs.Prelude.{Element, List, ◌+◌, ◌-◌, ◌<◌, ◌∙◌, ◌≡◌, ◌≤◌, ◌⊎◌, ap, arith, is-upd, length, max, subst, sym, to-ext, upd, ℕ, ℕ_discrete}
use Rattle.bucket_model.specs.Layout as bucket
use Rattle.bucket_model.specs.Prelude.{head_at, in_order, stored, word}
use Rattle.bucket_model.proofs.Laws.{Foreign, HoldsIn, Linked, NoLoads, Node, Ranks, area, flag, free-le, free-none, loads, order-else, ranks-ext, ranks-keep, stored_is, top-held}
use Rattle.ports_model.specs.Prelude.{Fair, Lists, Shape, Shaped, Whole, accepts, ceiling_at, ceiling_of, claim, claimed, claimed_in, floor_at, floor_of, free_at, has_room, held_at, held_in_all, ranks_of, room_ok, seat, used_in}
use Rattle.ports_model.proofs.Sums.{to-upd, to_part}
use Rattle.ports_model.proofs.Room.{Sound}
use Rattle.ports_model.proofs.Places.{laid, Head, seating, other-head, foreign-held, foreign-floor, foreign-ceiling, bits-apart, shaped-at, relinked}

module _ (s : Shape) (deep : 1 ≤ s.storeys) (some : 1 ≤ s.ports) (lim : List ℕ) where
  -- every port p holds the list st p, under the limits of the clearing
  pub record Holds (b w : List ℕ) (st : Lists) : Type 0 where
    pub q : ℕ → List Node
    pub own : ℕ → ℕ
    pub shaped : Shaped s b w
    pub linked : Linked (area (seat s 0) (seating s deep 0 some)) w q own
    pub bits : (p : ℕ) → p < s.ports → Ranks (seat s p) b (λ r. flag (q (head_at (seat s p) r)))
    pub is : (p : ℕ) → p < s.ports → st p ≡ in_order (λ r. loads (q (head_at (seat s p) r))) 0 (ranks_of s)
    pub held : (p : ℕ) → p < s.ports → word w (held_at s p) ≡ length (st p)
    pub floor : (p : ℕ) → p < s.ports → word w (floor_at s p) ≡ floor_of lim p
    pub ceiling : (p : ℕ) → p < s.ports → word w (ceiling_at s p) ≡ ceiling_of lim p
    pub room : held_in_all s st + length (q (free_at s)) ≡ s.nodes
    pub blank : NoLoads (q (free_at s))
    pub fair : Fair s lim
    pub sound : Sound s lim st

  module _ (b w : List ℕ) (st : Lists) (h : Holds b w st) where
    pub used-is : used_in s w ≡ held_in_all s st
    used-is = to-ext s.ports (λ p. word w (held_at s p)) (λ p. length (st p)) h.held

    pub claimed-is : claimed_in s w ≡ claimed s lim st
    claimed-is =
        to-ext s.ports (λ p. max (word w (held_at s p)) (word w (floor_at s p))) (claim s lim st)
        (λ p l. ap (λ (x : ℕ). max x (word w (floor_at s p))) (h.held p l) ∙ ap (λ (x : ℕ). max (length (st p)) x) (h.floor p l))

    -- the words' rule of room is the lists'
    pub room-is : (p : ℕ) → p < s.ports → has_room s p w ≡ accepts s lim st p
    room-is p l = λ i. room_ok (h.held p l i) (h.floor p l i) (h.ceiling p l i) (claimed-is i) s.nodes

    module _ (p : ℕ) (p< : p < s.ports) where
      -- what the others hold
      abbrev pub others : ℕ
      others = held_in_all s st - length (st p)

      pub others-are : held_in_all s st - length (st p) + length (st p) ≡ held_in_all s st
      others-are = omega (arith, to_part s.ports (λ q. length (st q)) p p<)

      -- port p is a bucket queue that holds its list
      unfoldable pub port-holds : HoldsIn (seat s p) (seating s deep p p<) (held_in_all s st - length (st p)) b w (st p)
      port-holds =
          record {
            q = h.q;
            own = h.own;
            shaped = shaped-at s deep p p< b w h.shaped;
            linked = relinked s deep 0 p some p< w h.q h.own h.linked;
            bits = h.bits p p<;
            is = h.is p p<;
            held = h.held p p<;
            room = omega (arith, others-are, h.room);
            blank = h.blank;
          }

      -- what it holds is read off its words
      pub stored-at : stored (seat s p) w ≡ st p
      stored-at = stored_is (seat s p) (seating s deep p p<) others b w (st p) port-holds

      -- the tests of every call
      pub whole : Whole s p b w
      whole =
          let f = free-none (seat s p) (seating s deep p p<) others b w (st p) port-holds in
          record {
            floors = λ q l. omega (arith, h.floor q l, h.ceiling q l, h.fair.orderly q l);
            ceilings = λ q l. omega (arith, h.held q l, h.ceiling q l, h.sound.ceilings q l);
            claims = omega (arith, claimed-is, h.sound.room);
            free≤ = free-le (seat s p) (seating s deep p p<) others b w (st p) port-holds;
            full = record { to = λ e. omega (arith, f.to e, used-is, others-are, h.held p p<); from = λ e. f.from (omega (arith, used-is, others-are, h.held p p<)) };
            empty = top-held (seat s p) (seating s deep p p<) others b w (st p) port-holds;
          }

      -- port p's list is now l, and no word of another port has changed
      pub record Change (b' w' : List ℕ) (l : List Element) : Type 0 where
        pub port : HoldsIn (seat s p) (seating s deep p p<) (held_in_all s st - length (st p)) b' w' l
        pub else : (c : ℕ) → Head s deep c → ((r : ℕ) → r < ranks_of s → c ≡ head_at (seat s p) r → ⊥) → port.q c ≡ h.q c
        pub bits-long : length b' ≡ length b
        pub words_long : length w' ≡ length w
        pub bits-off : (i : ℕ) → (i < (seat s p).bits) ⊎ (bucket.bit_words (seat s p) ≤ i) → word b' i ≡ word b i
        pub words-off : (i : ℕ) → Foreign (seat s p) i → word w' i ≡ word w i
        pub sound : Sound s lim (upd st p l)

      pub changed : (b' w' : List ℕ) (l : List Element) → Change b' w' l → Holds b' w' (upd st p l)
      changed b' w' l c =
          record {
            q = y.q;
            own = y.own;
            shaped = record { two = H.two; three = H.three; low = H.low; high = H.high; some = H.some; few = H.few; bits = omega (arith, H.bits, c.bits-long); words = omega (arith, H.words, c.words_long) };
            linked = relinked s deep p 0 p< some w' y.q y.own y.linked;
            bits = λ j j<. by j (λ j. Ranks (seat s j) b' (λ r. flag (y.q (head_at (seat s j) r)))) y.bits (λ n. bits-else j j< n);
            is = λ j j<. by j (λ j. upd st p l j ≡ in_order (λ r. loads (y.q (head_at (seat s j) r))) 0 (ranks_of s)) ((is-upd st p l).here ∙ y.is) (λ n. (is-upd st p l).else j n ∙ h.is j j< ∙ sym (order-else (λ r. loads (h.q (head_at (seat s j) r))) (λ r. loads (y.q (head_at (seat s j) r))) 0 (ranks_of s) (λ r a d. ap loads (list-else j j< n r (omega arith)))));
            held = λ j j<. by j (λ j. word w' (held_at s j) ≡ length (upd st p l j)) (y.held ∙ sym (ap length (is-upd st p l).here)) (λ n. c.words-off (held_at s j) (foreign-held s deep p p< j n) ∙ h.held j j< ∙ sym (ap length ((is-upd st p l).else j n)));
            floor = λ j j<. c.words-off (floor_at s j) (foreign-floor s deep p p< j) ∙ h.floor j j<;
            ceiling = λ j j<. c.words-off (ceiling_at s j) (foreign-ceiling s deep p p< j) ∙ h.ceiling j j<;
            room = omega (arith, sum, y.room, others-are);
            blank = y.blank;
            fair = h.fair;
            sound = c.sound;
          }
        where
          y : HoldsIn (seat s p) (seating s deep p p<) (held_in_all s st - length (st p)) b' w' l
          y = c.port

          H : Shaped s b w
          H = h.shaped

          by : (j : ℕ) (P : ℕ → Type 0) → P p → ((j ≡ p → ⊥) → P j) → P j
          by j P here there = elim (ℕ_discrete j p) [ yes e ↦ subst P (sym e) here | no e ↦ there e ]

          list-else : (j : ℕ) → j < s.ports → (j ≡ p → ⊥) → (r : ℕ) → r < ranks_of s → c.port.q (head_at (seat s j) r) ≡ h.q (head_at (seat s j) r)
          list-else j j< n r r< = c.else (head_at (seat s j) r) (j, j<, omega arith, omega arith) (λ t t< e. other-head s deep j p r t n r< t< e)

          bits-else : (j : ℕ) → j < s.ports → (j ≡ p → ⊥) → Ranks (seat s j) b' (λ r. flag (c.port.q (head_at (seat s j) r)))
          bits-else j j< n =
              ranks-keep (seat s j) (laid s deep j j<) b b' (λ r. flag (c.port.q (head_at (seat s j) r))) c.bits-long (λ a x z. c.bits-off a (bits-apart s deep p p< j a j< n x z))
              (ranks-ext (seat s j) (laid s deep j j<) b (λ r. flag (h.q (head_at (seat s j) r))) (λ r. flag (c.port.q (head_at (seat s j) r))) (λ r r<. ap flag (list-else j j< n r r<)) (h.bits j j<))

          sum : held_in_all s (upd st p l) + length (st p) ≡ held_in_all s st + length l
          sum =
              to-upd s.ports (λ q. length (st q)) (λ q. length (upd st p l q)) p (length l)
              (record { here = ap length (is-upd st p l).here; else = λ j d. ap length ((is-upd st p l).else j d) }) p<
