-- The layout and clear in numbers, at two storeys and at three, by one proof.
use Rattle.laws.specs.Prelude.{Iff, List, ◌*◌, ◌+◌, ◌<◌, ◌^◌, ◌∙◌, ◌≡◌, ◌≤◌, ap, arith, eq-eqb, length, ne_eqb, refl, sym, ℕ}
use Rattle.bucket_model.specs.Prelude.{Depth, Laid, Outcome, blank_cell, cell, fill, load_words, storeys_from, three_storeys, two_storeys, word, words_of}
use Rattle.bucket_model.specs.Calls as bucket
use Rattle.bucket_model.proofs.Clear as cleared-queue
use Rattle.bucket_model.proofs.Laws.{Right, fill-at, right-three, right-two}
use Rattle.ports_model.specs.Prelude.{Blank, Fair, Lies, Shape, Shaped, Sized, bit_words, blank_word, ceiling_at, cleared, floor_at, free_at, held_at, nodes_at, ranks_of, seat, store_words}
use Rattle.ports_model.proofs.Clear.{blank-low, blank-held, blank-floor, blank-ceiling, word-is, clear-done}
use Rattle.ports_model.proofs.Frame.{rest-clear}
use Rattle.ports_model.proofs.Places.{laid}

module _ (d : Depth) (ok : Right d) (s : Shape) (e : s.storeys ≡ d.storeys) where
  ranks-are : ranks_of s ≡ d.ranks
  ranks-are = ap (λ (x : ℕ). 64 ^ x) e ∙ sym ok.ranks

  bits_are : words_of s.storeys ≡ d.bits
  bits_are = ap words_of e ∙ sym ok.bits

  -- the pool begins at word 2RP
  pool-is : nodes_at s ≡ s.ports * (2 * d.ranks)
  pool-is = ap (λ (r : ℕ). s.ports * (2 * r)) ranks-are

  all-bits : bit_words s ≡ s.ports * d.bits
  all-bits = ap (λ (t : ℕ). s.ports * t) bits_are

  deep : 1 ≤ s.storeys
  deep = omega (arith, ok.two)

  shape-says : (b w : List ℕ) → Iff (Shaped s b w) (Sized d s (length b) (length w))
  shape-says b w =
      record {
        to = λ h. record { low = h.low; high = h.high; some = h.some; few = h.few; bits = omega (arith, h.bits, all-bits); words = omega (arith, h.words, pool-is) };
        from = λ h. record { two = omega (arith, ok.two); three = omega (arith, ok.three); low = h.low; high = h.high; some = h.some; few = h.few; bits = omega (arith, h.bits, all-bits); words = omega (arith, h.words, pool-is) };
      }

  -- LIES: each place
  lies : Lies d s
  lies =
      record {
        ranks = λ p. ranks-are;
        storeys = λ p i. storeys_from (p * bits_are i) (e i);
        head = λ p r. ap (λ (x : ℕ). p * (2 * x) + r) ranks-are;
        tail = λ p r. let a : p * (2 * ranks_of s) ≡ p * (2 * d.ranks) = ap (λ (x : ℕ). p * (2 * x)) ranks-are in omega (arith, ranks-are);
        tag = λ p p< w i. ap (word w) (omega (arith, pool-is, (laid s deep p p<).pool));
        lengths = λ p p< w i. ap (word w) (omega (arith, pool-is, (laid s deep p p<).pool));
        next = λ p p< i. omega (arith, pool-is, (laid s deep p p<).pool);
        free = λ p. omega (arith, pool-is);
        held = λ p. omega (arith, pool-is);
        floor = λ p. omega (arith, pool-is);
        ceiling = λ p. omega (arith, pool-is);
        shaped = shape-says;
      }

  module _ (lim b w : List ℕ) (size : Sized d s (length b) (length w)) (fair : Fair s lim) where
    H : Shaped s b w
    H = (shape-says b w).from size

    L : Laid (seat s 0)
    L = laid s deep 0 size.some

    abbrev W : List ℕ
    W = fill (blank_word s lim) (store_words s) w

    at : (j : ℕ) → j ≤ free_at s → word W j ≡ bucket.blank_word (seat s 0) j
    at j h = word-is s lim b w H fair j (omega arith) ∙ blank-low s lim j h

    node : (i c : ℕ) → i < s.nodes → c < 3 → word W (s.ports * (2 * d.ranks) + 3 * i + c) ≡ blank_cell s.nodes (i + 1) c
    node i c h l =
        let f : s.ports * (2 * d.ranks) + 3 * i + c ≡ cell (seat s 0).stem (i + 1) c = omega (arith, pool-is, L.pool) in
        ap (word W) f ∙ at (cell (seat s 0).stem (i + 1) c) (omega (arith, L.pool)) ∙ cleared-queue.blank-node (seat s 0) L (i + 1) c (omega arith) (omega arith) l

    more : (i : ℕ) → i + 1 < s.nodes → blank_cell s.nodes (i + 1) load_words ≡ i + 2
    more i h = rw (ne_eqb (i + 1) s.nodes (λ e. omega arith)) (omega arith)

    none : (i : ℕ) → i + 1 ≡ s.nodes → blank_cell s.nodes (i + 1) load_words ≡ 0
    none i e = rw (eq-eqb (i + 1) s.nodes e) refl

    is : (j : ℕ) → word (cleared s lim b w).words j ≡ word W j
    is j = ap (λ (o : Outcome). word o.words j) (clear-done s lim b w H fair)

    port : (j k v : ℕ) → j ≡ k → k < store_words s → blank_word s lim k ≡ v → word (cleared s lim b w).words j ≡ v
    port j k v p l q = ap (λ (x : ℕ). word (cleared s lim b w).words x) p ∙ is k ∙ word-is s lim b w H fair k l ∙ q

    -- BLANK: clear, word by word
    clear-blanks : Blank d s lim b w (cleared s lim b w)
    clear-blanks =
        record {
          answer = ap (λ (o : Outcome). o.answer) (clear-done s lim b w H fair);
          bits = λ i h. ap (λ (o : Outcome). word o.bits i) (clear-done s lim b w H fair) ∙ fill-at (λ j. 0) (bit_words s) b i (omega (arith, all-bits)) H.bits;
          lists = λ i h. is i ∙ at i (omega (arith, pool-is)) ∙ cleared-queue.blank-low (seat s 0) L i (omega (arith, pool-is, L.pool));
          tag = λ i h. is (s.ports * (2 * d.ranks) + 3 * i) ∙ ap (word W) (omega arith) ∙ node i 0 h (omega arith);
          lengths = λ i h. is (s.ports * (2 * d.ranks) + 3 * i + 1) ∙ node i 1 h (omega arith);
          next = λ i h. is (s.ports * (2 * d.ranks) + 3 * i + 2) ∙ node i 2 (omega arith) (omega arith) ∙ more i h;
          last = λ i h. is (s.ports * (2 * d.ranks) + 3 * i + 2) ∙ node i 2 (omega arith) (omega arith) ∙ none i h;
          free = is (s.ports * (2 * d.ranks) + 3 * s.nodes) ∙ ap (word W) (omega (arith, pool-is)) ∙ at (free_at s) (omega arith) ∙ cleared-queue.blank-free (seat s 0) L;
          held = λ p h. port _ (held_at s p) 0 (omega (arith, pool-is)) (omega arith) (blank-held s lim p);
          floor = λ p h. port _ (floor_at s p) (word lim (2 * p)) (omega (arith, pool-is)) (omega arith) (blank-floor s lim p);
          ceiling = λ p h. port _ (ceiling_at s p) (word lim (2 * p + 1)) (omega (arith, pool-is)) (omega arith) (blank-ceiling s lim p);
          rest = rest-clear s lim b w;
        }

-- .. at two storeys and at three, of n nodes and m ports
abbrev pub shape_of : ℕ → ℕ → ℕ → Shape
shape_of k n m = record { storeys = k; nodes = n; ports = m }

pub lies-two : (n m : ℕ) → Lies two_storeys (shape_of 2 n m)
lies-two n m = lies two_storeys right-two (shape_of 2 n m) refl

pub lies-three : (n m : ℕ) → Lies three_storeys (shape_of 3 n m)
lies-three n m = lies three_storeys right-three (shape_of 3 n m) refl

pub clear-blanks-two : (n m : ℕ) (lim b w : List ℕ) → Sized two_storeys (shape_of 2 n m) (length b) (length w) → Fair (shape_of 2 n m) lim → Blank two_storeys (shape_of 2 n m) lim b w (cleared (shape_of 2 n m) lim b w)
clear-blanks-two n m lim b w h f = clear-blanks two_storeys right-two (shape_of 2 n m) refl lim b w h f

pub clear-blanks-three : (n m : ℕ) (lim b w : List ℕ) → Sized three_storeys (shape_of 3 n m) (length b) (length w) → Fair (shape_of 3 n m) lim → Blank three_storeys (shape_of 3 n m) lim b w (cleared (shape_of 3 n m) lim b w)
clear-blanks-three n m lim b w h f = clear-blanks three_storeys right-three (shape_of 3 n m) refl lim b w h f
