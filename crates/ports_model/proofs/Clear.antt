-- A cleared store: every port holds nothing, and its floor and its ceiling are those that were handed over.
use Rattle.laws.specs.Prelude.{List, [], ◌%◌, ◌*◌, ◌+◌, ◌-◌, ◌/◌, ◌<◌, ◌∙◌, ◌≡◌, ◌≤◌, ap, arith, eq-eqb, le-ltb, lt-ltb, means-and, refl, sym, to-zero, ℕ, Ok, None}
use Rattle.bucket_model.specs.Prelude.{fill, head_at, outcome, word}
use Rattle.bucket_model.specs.Calls as bucket
use Rattle.bucket_model.proofs.Laws.{blank-from, fill-at, fill-length, flag, fresh-blank, fresh-free, fresh-linked, fresh-list, fresh_own, fresh_q, loads, order-none}
use Rattle.ports_model.specs.Prelude.{Fair, Shape, Shaped, bit_words, blank_port, blank_word, ceiling_at, ceiling_of, cleared, floor_at, floor_of, free_at, held_at, none, port_words, ranks_of, seat, store_words}
use Rattle.ports_model.proofs.Facts.{shape-means, limits-mean}
use Rattle.ports_model.proofs.Places.{seating, shaped-at, blank-bits}
use Rattle.ports_model.proofs.Returns as told
use Rattle.ports_model.proofs.Room.{none-sound}
use Rattle.ports_model.proofs.Store.{Holds}

module _ (s : Shape) (lim : List ℕ) where
  -- ---- the words of a cleared store

  pub blank-low : (j : ℕ) → j ≤ free_at s → blank_word s lim j ≡ bucket.blank_word (seat s 0) j
  unfolding blank_word
  blank-low j l = rw (le-ltb (free_at s) j l) refl

  -- word i of port p's
  blank-port : (p i : ℕ) → i < port_words → blank_word s lim (free_at s + (1 + i + port_words * p)) ≡ blank_port lim (port_words * p + i)
  unfolding blank_word
  blank-port p i h =
      let e : free_at s + (1 + i + port_words * p) - (free_at s + 1) ≡ port_words * p + i = omega arith in
      rw (lt-ltb (free_at s) (free_at s + (1 + i + port_words * p)) (omega arith), e) refl

  pub blank-held : (p : ℕ) → blank_word s lim (held_at s p) ≡ 0
  blank-held p =
      let m : (port_words * p + 0) % port_words ≡ 0 = omega arith in
      ap (blank_word s lim) (omega arith) ∙ blank-port p 0 (omega arith) ∙ (rw (eq-eqb ((port_words * p + 0) % port_words) 0 m) refl)

  pub blank-floor : (p : ℕ) → blank_word s lim (floor_at s p) ≡ floor_of lim p
  blank-floor p =
      let m : (port_words * p + 1) % port_words ≡ 1 = omega arith in
      let d : (port_words * p + 1) / port_words ≡ p = omega arith in
      ap (blank_word s lim) (omega arith) ∙ blank-port p 1 (omega arith) ∙ (rw (m, d) refl)

  pub blank-ceiling : (p : ℕ) → blank_word s lim (ceiling_at s p) ≡ ceiling_of lim p
  blank-ceiling p =
      let m : (port_words * p + 2) % port_words ≡ 2 = omega arith in
      let d : (port_words * p + 2) / port_words ≡ p = omega arith in
      ap (blank_word s lim) (omega arith) ∙ blank-port p 2 (omega arith) ∙ (rw (m, d) refl)

  module _ (b w : List ℕ) (H : Shaped s b w) (f : Fair s lim) where
    abbrev B : List ℕ
    B = fill (λ j. 0) (bit_words s) b

    abbrev W : List ℕ
    W = fill (blank_word s lim) (store_words s) w

    pub word-is : (j : ℕ) → j < store_words s → word W j ≡ blank_word s lim j
    word-is j h = fill-at (blank_word s lim) (store_words s) w j h H.words

    pub deep : 1 ≤ s.storeys
    deep = omega (arith, H.two)

    pub clear-holds : Holds s deep H.some lim (fill (λ j. 0) (bit_words s) b) (fill (blank_word s lim) (store_words s) w) none
    clear-holds =
        let nil : (p : ℕ) → p < s.ports → (r : ℕ) → r < ranks_of s → fresh_q (seat s 0) (head_at (seat s p) r) ≡ [] = λ p p< r r<. fresh-list (seat s 0) (seating s deep 0 H.some) (head_at (seat s p) r) (p, p<, omega arith, omega arith) in
        record {
          q = fresh_q (seat s 0);
          own = fresh_own (seat s 0);
          shaped = record { two = H.two; three = H.three; low = H.low; high = H.high; some = H.some; few = H.few; bits = omega (arith, H.bits, fill-length (λ j. 0) (bit_words s) b); words = omega (arith, H.words, fill-length (blank_word s lim) (store_words s) w) };
          linked = fresh-linked (seat s 0) (seating s deep 0 H.some) W (λ j l. word-is j (omega arith) ∙ blank-low j l) (omega (arith, H.words, fill-length (blank_word s lim) (store_words s) w)) H.low;
          bits = λ p p<. record { tower = blank-from B (seat s p).bits s.storeys (omega (arith, (shaped-at s deep p p< b w H).bits, fill-length (λ j. 0) (bit_words s) b)) (λ a l m. fill-at (λ j. 0) (bit_words s) b a (omega (arith, blank-bits s deep p p< a m)) H.bits) (λ r. flag (fresh_q (seat s 0) (head_at (seat s p) r))) (λ r r<. ap flag (nil p p< r r<)) };
          is = λ p p<. sym (order-none (λ r. loads (fresh_q (seat s 0) (head_at (seat s p) r))) 0 (ranks_of s) (λ r a l. ap loads (nil p p< r (omega arith))));
          held = λ p p<. word-is (held_at s p) (omega (arith, p<)) ∙ blank-held p;
          floor = λ p p<. word-is (floor_at s p) (omega (arith, p<)) ∙ blank-floor p;
          ceiling = λ p p<. word-is (ceiling_at s p) (omega (arith, p<)) ∙ blank-ceiling p;
          room = omega (arith, fresh-free (seat s 0), to-zero s.ports);
          blank = fresh-blank (seat s 0);
          fair = f;
          sound = none-sound s lim f;
        }

    pub clear-done : cleared s lim b w ≡ outcome (Ok None) (fill (λ j. 0) (bit_words s) b) (fill (blank_word s lim) (store_words s) w)
    clear-done = sym (told.clear-done s lim b w _ _ ((means-and (shape-means s b w) (limits-mean s lim)).holds (H, f)) refl refl)
