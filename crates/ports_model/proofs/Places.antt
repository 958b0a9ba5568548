-- Each port is a bucket queue among the others: where its words stand, and that no two ports' words are the same. The only file that multiplies.
use Rattle.laws.specs.Prelude.{List, ◌*◌, ◌+◌, ◌<◌, ◌^◌, ◌≡◌, ◌≤◌, ◌⊎◌, arith, dec_lt, inl, inr, mul-le-mul_right, pow-suc, refl, suc, suc-mul, zero, ℕ}
use Rattle.bucket_model.specs.Layout as bucket
use Rattle.bucket_model.specs.Prelude.{Laid, head_at, node_words, words_of}
use Rattle.bucket_model.specs.Causes as causes
use Rattle.bucket_model.proofs.Laws.{Foreign, Linked, Node, Seat, area, pow-pos64}
use Rattle.ports_model.specs.Prelude.{Shape, Shaped, bit_words, ceiling_at, floor_at, held_at, nodes_at, ranks_of, seat, store_words}

-- rows of m words: one ends where the next may begin
rows : (p q m : ℕ) → p < q → p * m + m ≤ q * m
rows p q m h = omega (arith, mul-le-mul_right m h, suc-mul p m)

module _ (s : Shape) (deep : 1 ≤ s.storeys) where
  abbrev M : ℕ
  M = 2 * ranks_of s

  ranks> : 64 ≤ ranks_of s
  ranks> = go s.storeys deep
    where
      go : (d : ℕ) → 1 ≤ d → 64 ≤ 64 ^ d
      go zero h = absurd (omega arith)
      go (suc d) h = omega (arith, pow-suc 64 d, pow-pos64 d)

  -- the pool begins behind all lists
  lists : (p : ℕ) → p < s.ports → p * (2 * ranks_of s) + 2 * ranks_of s ≤ nodes_at s
  lists p h = rows p s.ports M h

  pub laid : (p : ℕ) → p < s.ports → Laid (seat s p)
  laid p h =
      record {
        deep = deep;
        tower = refl;
        ranks = refl;
        lists = omega (arith, lists p h, ranks>);
        pool = omega (arith, lists p h, ranks>);
        held = omega arith;
      }

  -- the head of a list of some port
  abbrev pub Head : ℕ → Type 0
  Head c = (p : ℕ) × (p < s.ports) × (p * (2 * ranks_of s) ≤ c) × (c < p * (2 * ranks_of s) + ranks_of s)

  pub low : (c : ℕ) → Head c → c + ranks_of s < (seat s 0).stem + node_words
  low c h = omega (arith, h.3, lists h.0 h.1, ranks>)

  pub apart : (c d : ℕ) → Head c → Head d → c ≡ d + ranks_of s → ⊥
  apart c d h g e = elim (dec_lt h.0 g.0) [
    | yes l ↦ omega (arith, rows h.0 g.0 M l, h.3, g.2)
    | no l ↦ elim (dec_lt g.0 h.0) [ yes m ↦ omega (arith, rows g.0 h.0 M m, h.2, g.3) | no m ↦ same (omega arith) ]
  ]
    where
      same : h.0 ≡ g.0 → ⊥
      same i = let k : h.0 * M ≡ g.0 * M = rw i refl in omega (arith, h.3, g.2)

  abbrev pub seating : (p : ℕ) → p < s.ports → Seat (seat s p)
  seating p h = record { laid = laid p h; Head = Head; head = λ r l. (p, h, omega arith, omega arith); low = low; apart = apart }

  -- a head of one port is none of another's
  pub other-head : (p q r t : ℕ) → (p ≡ q → ⊥) → r < ranks_of s → t < ranks_of s → head_at (seat s p) r ≡ head_at (seat s q) t → ⊥
  other-head p q r t n a b e = elim (dec_lt p q) [
    | yes l ↦ omega (arith, rows p q M l)
    | no l ↦ omega (arith, rows q p M (omega arith))
  ]

  -- ---- words that are none of port p's

  module _ (p : ℕ) (p< : p < s.ports) where
    pub foreign-held : (q : ℕ) → (q ≡ p → ⊥) → Foreign (seat s p) (held_at s q)
    foreign-held q n = inr (omega arith, λ e. n (omega arith))

    pub foreign-floor : (q : ℕ) → Foreign (seat s p) (floor_at s q)
    foreign-floor q = inr (omega arith, λ e. omega arith)

    pub foreign-ceiling : (q : ℕ) → Foreign (seat s p) (ceiling_at s q)
    foreign-ceiling q = inr (omega arith, λ e. omega arith)

    -- .. another port's heads and tails
    pub foreign-list : (q i : ℕ) → q < s.ports → (q ≡ p → ⊥) → q * (2 * ranks_of s) ≤ i → i < q * (2 * ranks_of s) + 2 * ranks_of s → Foreign (seat s p) i
    foreign-list q i q< n a b = elim (dec_lt q p) [
      | yes l ↦ inl (inl (omega (arith, rows q p M l)))
      | no l ↦ inl (inr (omega (arith, rows p q M (omega arith)), omega (arith, lists q q<, ranks>)))
    ]

    -- .. and what stands behind the store
    pub foreign-rest : (i : ℕ) → store_words s ≤ i → Foreign (seat s p) i
    foreign-rest i l = inr (omega arith, λ e. omega (arith, p<))

    -- another port's bits, and those behind all
    pub bits-apart : (q i : ℕ) → q < s.ports → (q ≡ p → ⊥) → q * words_of s.storeys ≤ i → i < q * words_of s.storeys + words_of s.storeys → (i < (seat s p).bits) ⊎ (bucket.bit_words (seat s p) ≤ i)
    bits-apart q i q< n a b = elim (dec_lt q p) [
      | yes l ↦ inl (omega (arith, rows q p (words_of s.storeys) l))
      | no l ↦ inr (omega (arith, rows p q (words_of s.storeys) (omega arith)))
    ]

    pub bits-rest : (i : ℕ) → bit_words s ≤ i → (i < (seat s p).bits) ⊎ (bucket.bit_words (seat s p) ≤ i)
    bits-rest i l = inr (omega (arith, rows p s.ports (words_of s.storeys) p<))

    -- every port's bits stand within all
    pub blank-bits : (i : ℕ) → i < p * words_of s.storeys + words_of s.storeys → i < bit_words s
    blank-bits i l = omega (arith, rows p s.ports (words_of s.storeys) p<)

    -- slices long enough for all are long enough for one
    pub shaped-at : (b w : List ℕ) → Shaped s b w → causes.Shaped (seat s p) b w
    shaped-at b w h =
        record { two = h.two; three = h.three; low = h.low; high = h.high; bits = omega (arith, h.bits, rows p s.ports (words_of s.storeys) p<); words = omega (arith, h.words, p<) }

  -- the chains are those of all ports, whichever port is looked at
  pub relinked : (p q : ℕ) (p< : p < s.ports) (q< : q < s.ports) (w : List ℕ) (f : ℕ → List Node) (own : ℕ → ℕ) → Linked (area (seat s p) (seating p p<)) w f own → Linked (area (seat s q) (seating q q<)) w f own
  relinked p q p< q< w f own z = record { long = z.long; chains = z.chains; tails = z.tails }
