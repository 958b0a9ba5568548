-- What a call at a port leaves alone, on any words whatever.
use Rattle.laws.specs.Prelude.{Answer, Element, Idle, List, Pop, Push, Replace, Request, ◌+◌, ◌<◌, ◌^◌, ◌∙◌, ◌≡◌, ◌≤◌, ◌⊎◌, arith, inl, inr, length, max, refl, true, ℕ}
use Rattle.promise.proofs.Tabled.{Passed, either}
use Rattle.bucket_model.specs.Calls.{Lowest}
use Rattle.bucket_model.specs.Layout as bucket
use Rattle.bucket_model.specs.Prelude.{Laid, Outcome, PopFit, Store, head_at, lowest_of, lowest_rank, outcome, room_with, tail_at, word}
use Rattle.bucket_model.proofs.Laws.{Foreign, fill-length, fill-past, free-after, joined-bits-away, joined-bits-length, joined-foreign, joined_length, low-head, low-lt, pop-means, taken-bits-away, taken-bits-length, taken-foreign, taken-length}
use Rattle.ports_model.specs.Prelude.{Framed, Room, Shape, Shaped, Untouched, Whole, asked, bit_words, bits_after, blank_word, call_table, ceiling_at, cleared, done, floor_at, free_at, held_at, ranks_of, room_after, room_of, seat, store_words, used_in, words_after}
use Rattle.ports_model.proofs.Exactly.{goes, goes-clear}
use Rattle.ports_model.proofs.Places.{laid, foreign-held, foreign-floor, foreign-ceiling, foreign-list, foreign-rest, bits-apart, bits-rest, shaped-at}
use Rattle.ports_model.proofs.Sums.{to_le, to-lt}

-- clear leaves what stands behind the shape
pub rest-clear : (s : Shape) (lim b w : List ℕ) → Untouched s b w (cleared s lim b w)
rest-clear s lim b w =
    either (goes-clear s lim b w) (Untouched s b w) (λ x. record { bits-long = refl; words_long = refl; bits-rest = λ i l. refl; words-rest = λ i l. refl }) (λ p. record {
      bits-long = fill-length (λ j. 0) (bit_words s) b;
      words_long = fill-length (blank_word s lim) (store_words s) w;
      bits-rest = fill-past (λ j. 0) (bit_words s) b;
      words-rest = fill-past (blank_word s lim) (store_words s) w;
    })

-- ---- a node is free where there is room

pub room-used : (s : Shape) (p : ℕ) (b w : List ℕ) → p < s.ports → Whole s p b w → Room s p w → used_in s w < s.nodes
room-used s p b w p< h (inl l) =
    omega (arith, h.claims, to-lt s.ports (λ q. word w (held_at s q)) (λ q. max (word w (held_at s q)) (word w (floor_at s q))) p (λ q i. omega arith) p< (omega arith))
room-used s p b w p< h (inr l) =
    omega (arith, h.claims, l.1, to_le s.ports (λ q. word w (held_at s q)) (λ q. max (word w (held_at s q)) (word w (floor_at s q))) (λ q i. omega arith))

pub free-some : (s : Shape) (p : ℕ) (b w : List ℕ) → p < s.ports → Whole s p b w → Room s p w → 1 ≤ word w (free_at s)
free-some s p b w p< h r = let z : word w (free_at s) ≡ 0 → ⊥ = λ e. let u = h.full.to e in omega (arith, room-used s p b w p< h r) in omega arith

module _ (s : Shape) (p : ℕ) (b w : List ℕ) where
  -- a call that leaves everything
  still : (a : Answer) → Framed s p b w (outcome a b w)
  still a =
      record {
        bits-long = refl;
        words_long = refl;
        bits = λ q l n i m. refl;
        heads = λ q l n r m. refl;
        tails = λ q l n r m. refl;
        held = λ q l n. refl;
        floors = λ q l. refl;
        ceilings = λ q l. refl;
        bits-rest = λ i l. refl;
        words-rest = λ i l. refl;
      }

  -- a call that writes port p's words alone
  module _ (shaped : Shaped s b w) (p< : p < s.ports) where
    deep : 1 ≤ s.storeys
    deep = omega (arith, shaped.two)

    L : Laid (seat s p)
    L = laid s deep p p<

    own-only : (o : Outcome) → length o.bits ≡ length b → length o.words ≡ length w
        → ((i : ℕ) → (i < (seat s p).bits) ⊎ (bucket.bit_words (seat s p) ≤ i) → word o.bits i ≡ word b i) → ((i : ℕ) → Foreign (seat s p) i → word o.words i ≡ word w i) → Framed s p b w o
    own-only o bl wl bo wo =
        record {
          bits-long = bl;
          words_long = wl;
          bits = λ q q< n i l. bo ((seat s q).bits + i) (bits-apart s deep p p< q ((seat s q).bits + i) q< n (omega arith) (omega arith));
          heads = λ q q< n r l. wo (head_at (seat s q) r) (foreign-list s deep p p< q (head_at (seat s q) r) q< n (omega arith) (omega arith));
          tails = λ q q< n r l. wo (tail_at (seat s q) r) (foreign-list s deep p p< q (tail_at (seat s q) r) q< n (omega arith) (omega arith));
          held = λ q q< n. wo (held_at s q) (foreign-held s deep p p< q n);
          floors = λ q q<. wo (floor_at s q) (foreign-floor s deep p p< q);
          ceilings = λ q q<. wo (ceiling_at s q) (foreign-ceiling s deep p p< q);
          bits-rest = λ i l. bo i (bits-rest s deep p p< i l);
          words-rest = λ i l. wo i (foreign-rest s deep p p< i l);
        }

    long : bucket.store_words (seat s p) ≤ length w
    long = (shaped-at s deep p p< b w shaped).words

    -- the lowest bucket that has passed its tests, of words of 64 bits
    module _ (fits : (i : ℕ) → word b i < 2 ^ 64) (f : PopFit (seat s p) b w (lowest_rank (seat s p) b)) where
      abbrev low : Lowest
      low = lowest_of (seat s p) b w

      good : (lowest_of (seat s p) b w).good ≡ true
      good = (pop-means (seat s p) b w).holds f

      rank< : (lowest_of (seat s p) b w).rank < ranks_of s
      rank< = low-lt (seat s p) L b w fits good

      node : (1 ≤ (lowest_of (seat s p) b w).head) × ((lowest_of (seat s p) b w).head ≤ s.nodes)
      node = low-head (seat s p) L b w fits good

      taken-off : (i : ℕ) → Foreign (seat s p) i → word (words_after s p b w) i ≡ word w i
      taken-off i g = taken-foreign (seat s p) L w low long rank< node.0 node.1 i g

      bits-off : (i : ℕ) → (i < (seat s p).bits) ⊎ (bucket.bit_words (seat s p) ≤ i) → word (bits_after s p b w) i ≡ word b i
      bits-off i l = taken-bits-away (seat s p) L b low i rank< l

      -- the freed node is the free link now
      freed : (1 ≤ word (words_after s p b w) (free_at s)) × (word (words_after s p b w) (free_at s) ≤ s.nodes)
      freed = rw (free-after (seat s p) L w low long) node

  -- ---- what is done

  pub push-framed : (e : Element) → Passed (call_table s p b w (Push e)) → Framed s p b w (done s p b w (Push e))
  unfolding room_with
  push-framed e t =
      let to = room_of s p b w e.rank.0 in
      let h = t.0 in
      let p< = t.1.0 in
      let r< = t.1.1.0 in
      let u = t.1.1.1.1 in
      own-only h p< _ (joined-bits-length (seat s p) b e to) (joined_length (seat s p) w e to)
      (λ i l. joined-bits-away (seat s p) (L h p<) b e to i r< l)
      (λ i f. joined-foreign (seat s p) (L h p<) w e to r< (free-some s p b w p< u.0 u.1.0) u.0.free≤ u.1.1.0.tail≤ i f)

  module _ (fits : (i : ℕ) → word b i < 2 ^ 64) where
    pub pop-framed : Passed (call_table s p b w Pop) → Framed s p b w (done s p b w Pop)
    pop-framed t =
        let f = t.1.1.1.1.0 in
        own-only t.0 t.1.0 _ (taken-bits-length (seat s p) b (lowest_of (seat s p) b w)) (taken-length (seat s p) w (lowest_of (seat s p) b w)) (bits-off t.0 t.1.0 fits f) (taken-off t.0 t.1.0 fits f)

    pub replace-framed : (e : Element) → Passed (call_table s p b w (Replace e)) → Framed s p b w (done s p b w (Replace e))
    unfolding room_after room_with
    replace-framed e t =
        let B = bits_after s p b w in
        let W = words_after s p b w in
        let to = room_after s p B W e.rank.0 in
        let h = t.0 in
        let p< = t.1.0 in
        let r< = t.1.1.0 in
        let f = t.1.1.1.1.1.1 in
        let v = freed h p< fits f.0 in
        own-only h p< _
        (joined-bits-length (seat s p) B e to ∙ taken-bits-length (seat s p) b (lowest_of (seat s p) b w)) (joined_length (seat s p) W e to ∙ taken-length (seat s p) w (lowest_of (seat s p) b w))
        (λ i l. joined-bits-away (seat s p) (L h p<) B e to i r< l ∙ bits-off h p< fits f.0 i l)
        (λ i g. joined-foreign (seat s p) (L h p<) W e to r< v.0 v.1 f.1.0.1.tail≤ i g ∙ taken-off h p< fits f.0 i g)

-- FRAMED: every request at port p, on any words; a push on bits of any size
pub framed-push : (s : Shape) (p : ℕ) (x : Store) (e : Element) → Framed s p x.bits x.words (asked s p (Push e) x)
framed-push s p x e = either (goes s p x.bits x.words (Push e)) (Framed s p x.bits x.words) (λ r. still s p x.bits x.words _) (push-framed s p x.bits x.words e)

pub framed : (s : Shape) (p : ℕ) (x : Store) → ((i : ℕ) → word x.bits i < 2 ^ 64) → (q : Request) → Framed s p x.bits x.words (asked s p q x)
framed s p x fits Idle = unfold asked in still s p x.bits x.words _
framed s p x fits (Push e) = framed-push s p x e
framed s p x fits Pop = either (goes s p x.bits x.words Pop) (Framed s p x.bits x.words) (λ r. still s p x.bits x.words _) (pop-framed s p x.bits x.words fits)
framed s p x fits (Replace e) = either (goes s p x.bits x.words (Replace e)) (Framed s p x.bits x.words) (λ r. still s p x.bits x.words _) (replace-framed s p x.bits x.words fits e)
