-- Where a queue of its own store has its words, in 01's and 02's own numbers, and what clear writes there, word by word: once for either depth.
use Rattle.laws.specs.Prelude.{Iff, List, ◌*◌, ◌+◌, ◌<◌, ◌^◌, ◌∙◌, ◌≡◌, ◌≤◌, ◌⊎◌, ap, arith, eq-eqb, inl, inr, length, ne_eqb, refl, sym, ℕ, ℕ_discrete}
use lib.Dec.{lit≤}
use Rattle.bucket_model.specs.Prelude.{Blank, Depth, Laid, Lies, Outcome, Shape, Shaped, bit_words, blank_cell, blank_word, cleared, fill, least_storeys, load_words, most_storeys, queue, store_words, storeys_from, three_storeys, two_storeys, word, words_of}
use Rattle.bucket_model.specs.Layout.{Lay}
use Rattle.bucket_model.proofs.Clear.{blank-low, blank-node, blank-free, blank-held, clear-done}
use Rattle.bucket_model.proofs.Fill.{fill-at}
use Rattle.bucket_model.proofs.Queue.{laid_of}
use Rattle.bucket_model.proofs.Untouched.{rest-clear}

-- what makes the numbers of a depth those of the queue
pub record Right (d : Depth) : Type 0 where
  pub two : least_storeys ≤ d.storeys
  pub three : d.storeys ≤ most_storeys
  pub ranks : d.ranks ≡ 64 ^ d.storeys
  pub some : 2 ≤ d.ranks
  pub places : d.places ≡ storeys_from 0 d.storeys
  pub bits : d.bits ≡ words_of d.storeys

pub right-two : Right two_storeys
right-two = record { two = lit≤ tt; three = lit≤ tt; ranks = refl; some = lit≤ tt; places = refl; bits = refl }

pub right-three : Right three_storeys
right-three = record { two = lit≤ tt; three = lit≤ tt; ranks = refl; some = lit≤ tt; places = refl; bits = refl }

module _ (d : Depth) (ok : Right d) (n : ℕ) where
  abbrev k : Lay
  k = queue d.storeys n

  laid : Laid k
  laid = laid_of d.storeys n (omega (arith, ok.two))

  shape-says : (b w : List ℕ) → Iff (Shaped k b w) (Shape d n (length b) (length w))
  shape-says b w =
      record {
        to = λ h. record { low = h.low; high = h.high; bits = omega (arith, h.bits, ok.bits); words = omega (arith, h.words, ok.ranks) };
        from = λ h. record { two = ok.two; three = ok.three; low = h.low; high = h.high; bits = omega (arith, h.bits, ok.bits); words = omega (arith, h.words, ok.ranks) };
      }

  -- LIES: each place
  lies : Lies d n
  lies =
      record {
        ranks = sym ok.ranks;
        nodes = refl;
        storeys = sym ok.places;
        bits = omega (arith, ok.bits);
        head = λ r. omega arith;
        tail = λ r. omega (arith, ok.ranks);
        tag = λ w i. ap (word w) (omega (arith, ok.ranks, ok.some));
        lengths = λ w i. ap (word w) (omega (arith, ok.ranks, ok.some));
        next = λ i. omega (arith, ok.ranks, ok.some);
        free = omega (arith, ok.ranks);
        held = omega (arith, ok.ranks);
        words = omega (arith, ok.ranks);
        shaped = shape-says;
      }

  module _ (b w : List ℕ) (shape : Shape d n (length b) (length w)) where
    is-shaped : Shaped k b w
    is-shaped = (shape-says b w).from shape

    abbrev W : List ℕ
    W = fill (blank_word k) (store_words k) w

    at : (j : ℕ) → j < 2 * d.ranks + 3 * n + 2 → word W j ≡ blank_word k j
    at j h = fill-at (blank_word k) (store_words k) w j (omega (arith, ok.ranks)) is-shaped.words

    low : (j : ℕ) → j < 2 * d.ranks → word W j ≡ 0
    low j h = at j (omega arith) ∙ blank-low k laid j (omega (arith, ok.ranks, ok.some))

    node : (i c : ℕ) → i < n → c < 3 → word W (2 * d.ranks + 3 * i + c) ≡ blank_cell n (i + 1) c
    node i c h l =
        at (2 * d.ranks + 3 * i + c) (omega arith) ∙ ap (blank_word k) (omega (arith, ok.ranks, ok.some)) ∙ blank-node k laid (i + 1) c (omega arith) (omega arith) l

    more : (i : ℕ) → i + 1 < n → blank_cell n (i + 1) load_words ≡ i + 2
    more i h = rw (ne_eqb (i + 1) n (λ e. omega arith)) (omega arith)

    none : (i : ℕ) → i + 1 ≡ n → blank_cell n (i + 1) load_words ≡ 0
    none i e = rw (eq-eqb (i + 1) n e) refl

    -- CLEAR, word by word
    clear-blanks : Blank d n b w (cleared k b w)
    clear-blanks =
        let rest = rest-clear k b w in
        let is = clear-done k laid b w is-shaped in
        record {
          answer = ap (λ (o : Outcome). o.answer) is;
          bits = λ i h. ap (λ (o : Outcome). word o.bits i) is ∙ fill-at (λ j. 0) (bit_words k) b i (omega (arith, ok.bits)) is-shaped.bits;
          head = λ r h. ap (λ (o : Outcome). word o.words r) is ∙ low r (omega arith);
          tail = λ r h. ap (λ (o : Outcome). word o.words (d.ranks + r)) is ∙ low (d.ranks + r) (omega arith);
          tag = λ i h. ap (λ (o : Outcome). word o.words (2 * d.ranks + 3 * i)) is ∙ ap (word W) (omega arith) ∙ node i 0 h (omega arith);
          lengths = λ i h. ap (λ (o : Outcome). word o.words (2 * d.ranks + 3 * i + 1)) is ∙ node i 1 h (omega arith);
          next = λ i h. ap (λ (o : Outcome). word o.words (2 * d.ranks + 3 * i + 2)) is ∙ node i 2 (omega arith) (omega arith) ∙ more i h;
          last = λ i h. ap (λ (o : Outcome). word o.words (2 * d.ranks + 3 * i + 2)) is ∙ node i 2 (omega arith) (omega arith) ∙ none i h;
          free = ap (λ (o : Outcome). word o.words (2 * d.ranks + 3 * n)) is ∙ at (2 * d.ranks + 3 * n) (omega arith) ∙ ap (blank_word k) (omega (arith, ok.ranks)) ∙ blank-free k laid;
          held = ap (λ (o : Outcome). word o.words (2 * d.ranks + 3 * n + 1)) is ∙ at (2 * d.ranks + 3 * n + 1) (omega arith) ∙ ap (blank_word k) (omega (arith, ok.ranks)) ∙ blank-held k laid;
          bits-rest = λ i h. rest.bits-rest i (omega (arith, ok.bits));
          words-rest = λ i h. rest.words-rest i (omega (arith, ok.ranks));
          bits-long = rest.bits-long;
          words_long = rest.words_long;
        }

-- .. at two storeys and at three, by the same proof
pub lies-two : (n : ℕ) → Lies two_storeys n
lies-two n = lies two_storeys right-two n

pub lies-three : (n : ℕ) → Lies three_storeys n
lies-three n = lies three_storeys right-three n

pub clear-blanks-two : (n : ℕ) (b w : List ℕ) → Shape two_storeys n (length b) (length w) → Blank two_storeys n b w (cleared (queue 2 n) b w)
clear-blanks-two n b w h = clear-blanks two_storeys right-two n b w h

pub clear-blanks-three : (n : ℕ) (b w : List ℕ) → Shape three_storeys n (length b) (length w) → Blank three_storeys n b w (cleared (queue 3 n) b w)
clear-blanks-three n b w h = clear-blanks three_storeys right-three n b w h

-- "Both depths stay available", and no other does
pub either-depth : (d n : ℕ) (b w : List ℕ) → Shaped (queue d n) b w → (d ≡ 2) ⊎ (d ≡ 3)
either-depth d n b w h = elim (ℕ_discrete d 2) [ yes e ↦ inl e | no e ↦ inr (omega (arith, h.two, h.three)) ]
