-- What a call at a port does not read: the other ports' bits, heads and tails, and what stands behind the shape. Two stores that agree on the rest are answered the same and left the same there. Clear reads the limits alone.
use Rattle.laws.specs.Prelude.{Answer, Bool, Element, Idle, List, Pop, Push, Replace, Request, ◌%◌, ◌&&◌, ◌*◌, ◌+◌, ◌-◌, ◌/◌, ◌<◌, ◌^◌, ◌∙◌, ◌≡◌, ◌≤◌, ap, arith, cond, dec_lt, eqb, inl, inr, le-ltb, leb, ltb, ltb-true, max, not, refl, suc, sym, to-ext, untagged, zero, ℕ, Ok, None, Some}
use Rattle.bucket_model.specs.Calls.{Lowest}
use Rattle.bucket_model.specs.Prelude.{Agree, AgreeOn, AlikeOn, Laid, Outcome, given, lowest_of, outcome, push_found, replace_joined, room_with, store, taken_bits, taken_words, taking, word}
use Rattle.bucket_model.specs.Calls as queue
use Rattle.bucket_model.proofs.Laws.{Covers, Has, after-agrees, alike-cond, fill-at, given-same, has-taken, has-taken-bits, join-same, low_same, pop-found-same, push-found-same, room-same, standing, top-same}
use Rattle.ports_model.specs.Prelude.{Fair, ReadBits, ReadWords, Shape, Shaped, all_to, asked, bit_words, blank_port, blank_word, ceiling_at, claimed_in, cleared, floor_at, free_at, giving, has_room, held_at, held_count, is_shaped, is_whole, kept_at, known, limit_words, limits_kept, popped, pushed, ranks_of, replace_found, replaced, room_after, room_of, room_ok, seat, store_words, used_in, whole_ok}
use Rattle.ports_model.proofs.Clear.{word-is, clear-done}
use Rattle.ports_model.proofs.Facts.{shape-means}
use Rattle.ports_model.proofs.Places.{laid, shaped-at}

all-ext : (n : ℕ) (f g : ℕ → Bool) → ((i : ℕ) → i < n → f i ≡ g i) → all_to n f ≡ all_to n g
unfolding all_to
all-ext zero f g h = refl
all-ext (suc n) f g h = rw (all-ext n f g (λ i l. h i (omega arith)), h n (omega arith)) refl

module _ (s : Shape) (p : ℕ) (p< : p < s.ports) where
  abbrev B : ℕ → Type 0
  B = ReadBits s p

  abbrev W : ℕ → Type 0
  W = ReadWords s p

  own : Covers (seat s p) (ReadBits s p) (ReadWords s p)
  own = record { bits = λ i a l. (a, l); lists = λ i a l. inl (a, l); pool = λ i a l. inr (omega arith, omega arith); held = inr (omega arith, omega (arith, p<)) }

  module _ (w v : List ℕ) (h : AgreeOn (ReadWords s p) w v) where
    -- the ports' three words
    held_same : (q : ℕ) → q < s.ports → word w (held_at s q) ≡ word v (held_at s q)
    held_same q q< = h (held_at s q) (inr (omega arith, omega arith))

    floor-same : (q : ℕ) → q < s.ports → word w (floor_at s q) ≡ word v (floor_at s q)
    floor-same q q< = h (floor_at s q) (inr (omega arith, omega arith))

    ceiling-same : (q : ℕ) → q < s.ports → word w (ceiling_at s q) ≡ word v (ceiling_at s q)
    ceiling-same q q< = h (ceiling_at s q) (inr (omega arith, omega arith))

    used-same : used_in s w ≡ used_in s v
    used-same = to-ext s.ports (λ q. word w (held_at s q)) (λ q. word v (held_at s q)) held_same

    claimed-same : claimed_in s w ≡ claimed_in s v
    claimed-same = to-ext s.ports (λ q. max (word w (held_at s q)) (word w (floor_at s q))) (λ q. max (word v (held_at s q)) (word v (floor_at s q))) (λ q l i. max (held_same q l i) (floor-same q l i))

    kept_same : limits_kept s w ≡ limits_kept s v
    kept_same = all-ext s.ports (kept_at s w) (kept_at s v) (λ q l i. leb (floor-same q l i) (ceiling-same q l i) && leb (held_same q l i) (ceiling-same q l i))

    has-room-same : has_room s p w ≡ has_room s p v
    has-room-same = λ i. room_ok (held_same p p< i) (floor-same p p< i) (ceiling-same p p< i) (claimed-same i) s.nodes

    some_same : not (eqb (word w (held_at s p)) 0) ≡ not (eqb (word v (held_at s p)) 0)
    some_same = ap (λ (x : ℕ). not (eqb x 0)) (held_same p p<)

  module _ (deep : 1 ≤ s.storeys) where
    L : Laid (seat s p)
    L = laid s deep p p<

    module _ (b c w v : List ℕ) (g : AgreeOn (ReadBits s p) b c) (h : AgreeOn (ReadWords s p) w v) where
      whole_same : is_whole s p b w ≡ is_whole s p c v
      whole_same =
          λ i. whole_ok (kept_same w v h i) (claimed-same w v h i) (used-same w v h i) (h (free_at s) (inr (omega arith, omega arith)) i) (top-same (seat s p) L B W own b c g i) (held_same w v h p p< i) s.nodes

      own_room : (r : ℕ) → r < ranks_of s → room_of s p b w r ≡ room_of s p c v r
      own_room r l = ap (λ (u : ℕ). room_with (seat s p) u b w r) (used-same w v h) ∙ room-same (seat s p) L B W own b c w v g h (used_in s v) r l

      after_same : (r : ℕ) → r < ranks_of s → room_after s p b w r ≡ room_after s p c v r
      unfolding room_after
      after_same r l = rw (whole_same, own_room r l) refl

  module _ (b c w v : List ℕ) (g : AgreeOn (ReadBits s p) b c) (h : AgreeOn (ReadWords s p) w v) (z : Shaped s b w) (y : Shaped s c v) where
    deep : 1 ≤ s.storeys
    deep = omega (arith, z.two)

    long-bits : (d e : List ℕ) → Shaped s d e → Has (ReadBits s p) d
    long-bits d e x i l = omega (arith, l.1, (shaped-at s deep p p< d e x).bits)

    long-words : (d e : List ℕ) → Shaped s d e → Has (ReadWords s p) e
    long-words d e x i (inl l) = omega (arith, l.1, (L deep).lists, (L deep).pool, x.words)
    long-words d e x i (inr l) = omega (arith, l.1, x.words)

    stay : (a : Answer) → AlikeOn (ReadBits s p) (ReadWords s p) (outcome a b w) (outcome a c v)
    stay = standing (seat s p) (L deep) B W own b c w v g h

    shape_same : is_shaped s b w ≡ is_shaped s c v
    shape_same = (shape-means s b w).holds z ∙ sym ((shape-means s c v).holds y)

    -- 1 and 8
    at-port : (o q : Outcome) → AlikeOn (ReadBits s p) (ReadWords s p) o q → AlikeOn (ReadBits s p) (ReadWords s p) (known s p b w o) (known s p c v q)
    at-port o q a =
        alike-cond B W (is_shaped s b w) (is_shaped s c v) _ _ _ _ shape_same
        (λ _. alike-cond B W (ltb p s.ports) (ltb p s.ports) _ _ _ _ refl (λ _. a) (stay _)) (stay _)

    -- 4 and 7
    newcomer : (e : Element) (o q : Outcome) → (e.rank.0 < ranks_of s → AlikeOn (ReadBits s p) (ReadWords s p) o q)
        → AlikeOn (ReadBits s p) (ReadWords s p) (taking (seat s p) b w e o) (taking (seat s p) c v e q)
    newcomer e o q a =
        alike-cond B W (ltb e.rank.0 (ranks_of s)) (ltb e.rank.0 (ranks_of s)) _ _ _ _ refl
        (λ l. alike-cond B W (not (untagged e)) (not (untagged e)) _ _ _ _ refl (λ _. a (ltb-true e.rank.0 (ranks_of s) l)) (stay _)) (stay _)

    -- 2 and 6
    gives : (o q : Outcome) → AlikeOn (ReadBits s p) (ReadWords s p) o q → AlikeOn (ReadBits s p) (ReadWords s p) (giving s p b w o) (giving s p c v q)
    gives o q a =
        alike-cond B W (is_whole s p b w) (is_whole s p c v) _ _ _ _ (whole_same deep b c w v g h)
        (λ _. alike-cond B W (not (eqb (word w (held_at s p)) 0)) (not (eqb (word v (held_at s p)) 0)) _ _ _ _ (some_same w v h) (λ _. a) (stay _)) (stay _)

    pub unread-held : held_count s p b w ≡ held_count s p c v
    unfolding held_count
    unread-held = rw (shape_same, whole_same deep b c w v g h, held_same w v h p p<) refl

    unread-push : (e : Element) → AlikeOn (ReadBits s p) (ReadWords s p) (pushed s p b w e) (pushed s p c v e)
    unfolding pushed
    unread-push e =
        at-port _ _
        (newcomer e _ _
        (λ l. alike-cond B W (is_whole s p b w) (is_whole s p c v) _ _ _ _ (whole_same deep b c w v g h)
        (λ _. alike-cond B W (has_room s p w) (has_room s p v) _ _ _ _ (has-room-same w v h)
        (λ _. found l) (stay _)) (stay _)))
      where
        found : e.rank.0 < ranks_of s → AlikeOn (ReadBits s p) (ReadWords s p) (push_found (seat s p) b w e (room_of s p b w e.rank.0)) (push_found (seat s p) c v e (room_of s p c v e.rank.0))
        found l =
            rw (used-same w v h)
            (push-found-same (seat s p) (L deep) B W own b c w v g h (long-bits b w z) (long-bits c v y) (long-words b w z) (long-words c v y) (used_in s v) e l)

    module _ (fits : (i : ℕ) → word b i < 2 ^ 64) where
      unread-pop : AlikeOn (ReadBits s p) (ReadWords s p) (popped s p b w) (popped s p c v)
      unfolding popped
      unread-pop =
          at-port _ _ (gives _ _ (pop-found-same (seat s p) (L deep) B W own b c w v g h (long-bits b w z) (long-bits c v y) (long-words b w z) (long-words c v y) fits))

      abbrev low : Lowest
      low = lowest_of (seat s p) b w

      module _ (e : Element) (l : e.rank.0 < ranks_of s) where
        abbrev b1 : List ℕ
        b1 = taken_bits (seat s p) b (lowest_of (seat s p) b w)

        abbrev c1 : List ℕ
        c1 = taken_bits (seat s p) c (lowest_of (seat s p) b w)

        abbrev w1 : List ℕ
        w1 = taken_words (seat s p) w (lowest_of (seat s p) b w)

        abbrev v1 : List ℕ
        v1 = taken_words (seat s p) v (lowest_of (seat s p) b w)

        replace-found : AlikeOn (ReadBits s p) (ReadWords s p) (replace_found s p b w e (lowest_of (seat s p) b w)) (replace_found s p c v e (lowest_of (seat s p) c v))
        unfolding replace_found replace_joined
        replace-found =
            rw (← low_same (seat s p) (L deep) B W own b c w v g h (long-bits b w z) (long-bits c v y) (long-words b w z) (long-words c v y) fits)
            (alike-cond B W low.good low.good _ _ _ _ refl
            (λ u. let t = after-agrees (seat s p) (L deep) B W own b c w v g h (long-bits b w z) (long-bits c v y) (long-words b w z) (long-words c v y) fits u in
            rw (after_same deep b1 c1 w1 v1 t.0 t.1 e.rank.0 l, given-same (seat s p) (L deep) B W own b c w v g h (long-bits b w z) (long-bits c v y) (long-words b w z) (long-words c v y) fits u)
            (alike-cond B W (room_after s p c1 v1 e.rank.0).good (room_after s p c1 v1 e.rank.0).good _ _ _ _ refl
            (λ x. join-same (seat s p) (L deep) B W own b1 c1 w1 v1 t.0 t.1 (has-taken-bits B (seat s p) b low (long-bits b w z)) (has-taken-bits B (seat s p) c low (long-bits c v y)) (has-taken W (seat s p) w low (long-words b w z)) (has-taken W (seat s p) v low (long-words c v y)) e (room_after s p c1 v1 e.rank.0) (Ok (Some (given (seat s p) v low))) l)
            (stay _))) (stay _))

      unread-replace : (e : Element) → AlikeOn (ReadBits s p) (ReadWords s p) (replaced s p b w e) (replaced s p c v e)
      unfolding replaced
      unread-replace e = at-port _ _ (newcomer e _ _ (λ l. gives _ _ (replace-found e l)))

      -- UNREAD: every request at port p
      pub unread : (q : Request) → AlikeOn (ReadBits s p) (ReadWords s p) (asked s p q (store b w)) (asked s p q (store c v))
      unfolding asked
      unread Idle = stay (Ok None)
      unread (Push e) = unread-push e
      unread Pop = unread-pop
      unread (Replace e) = unread-replace e

-- ---- clear reads the limits of its ports alone: not what stood in the slices, and no word behind the limits

module _ (s : Shape) (lim lim' : List ℕ) (h : Agree (limit_words s) lim lim') where
  port-same : (i : ℕ) → i < 3 * s.ports → blank_port lim i ≡ blank_port lim' i
  port-same i l = λ k. cond (eqb (i % 3) 0) 0 (cond (eqb (i % 3) 1) (h (2 * (i / 3)) (omega arith) k) (h (2 * (i / 3) + 1) (omega arith) k))

  blank-same : (j : ℕ) → j < store_words s → blank_word s lim j ≡ blank_word s lim' j
  unfolding blank_word
  blank-same j l = elim (dec_lt (free_at s) j) [
    | yes f ↦ ap (λ (x : ℕ). cond (ltb (free_at s) j) x (queue.blank_word (seat s 0) j)) (port-same (j - (free_at s + 1)) (omega arith))
    | no f ↦ rw (le-ltb (free_at s) j (omega arith)) refl
  ]

  pub unread-clear : (b c w v : List ℕ) → Shaped s b w → Shaped s c v → Fair s lim → Fair s lim' → AlikeOn (λ i. i < bit_words s) (λ i. i < store_words s) (cleared s lim b w) (cleared s lim' c v)
  unread-clear b c w v z y f g =
      rw (clear-done s lim b w z f, clear-done s lim' c v y g)
      (record {
        answer = refl;
        bits = λ i l. fill-at (λ j. 0) (bit_words s) b i l z.bits ∙ sym (fill-at (λ j. 0) (bit_words s) c i l y.bits);
        words = λ i l. word-is s lim b w z f i l ∙ blank-same i l ∙ sym (word-is s lim' c v y g i l);
      })
