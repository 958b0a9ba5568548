-- A cleared store holds nothing.
use Rattle.laws.specs.Prelude.{All, List, [], ◌%◌, ◌+◌, ◌-◌, ◌/◌, ◌<◌, ◌^◌, ◌∙◌, ◌∷◌, ◌≡◌, ◌≤◌, ap, arith, eq-eqb, is-upd, le-ltb, length, lt-ltb, ne_eqb, pow-suc, refl, subst, suc, sym, upd, zero, ℕ, ⊎_elim, Ok, None}
use lib.Dec.{lit<}
use Rattle.bitmap.specs.Bits.{bit_at}
use Rattle.bucket_model.specs.Prelude.{Laid, Shaped, bit_words, blank_cell, blank_word, cell, cleared, fill, head_at, load_words, next_at, no_load, node_words, outcome, store_words, storeys_from, word, words_of}
use Rattle.bucket_model.specs.Layout.{Lay}
use Rattle.bucket_model.proofs.Facts.{shape-means}
use Rattle.bucket_model.proofs.Fill.{fill-at, fill-length}
use Rattle.bucket_model.proofs.Load.{load-blank}
use Rattle.bucket_model.proofs.Tells.{zero_bit, nz, up}
use Rattle.bucket_model.proofs.Tower.{Tower}
use Rattle.bucket_model.proofs.Chain.{Node, node, Seg, Distinct, Mine, Chain, Chains}
use Rattle.bucket_model.proofs.Linked.{Id, Linked, last_link}
use Rattle.bucket_model.proofs.Order.{order-none}
use Rattle.bucket_model.proofs.Queue.{flag, NoLoads, loads, Seat, alone, area, Holds, shaped-after}

-- ---- the free chain: the nodes i, i + 1, .., j of them, each without a load

abbrev row : ℕ → ℕ → List Node
row i zero = []
row i (suc j) = node i no_load ∷ row (suc i) j

row-length : (i j : ℕ) → length (row i j) ≡ j
row-length i zero = refl
row-length i (suc j) = ap suc (row-length (suc i) j)

row-all : (P : Node → Type 0) (i j : ℕ) → ((l : ℕ) → i ≤ l → l < i + j → P (node l no_load)) → All P (row i j)
row-all P i zero h = tt
row-all P i (suc j) h = (h i (omega arith) (omega arith), row-all P (suc i) j (λ l a b. h l (omega arith) (omega arith)))

row-once : (i j : ℕ) → Distinct (row i j)
row-once i zero = tt
row-once i (suc j) = (row-all _ (suc i) j (λ l a b e. omega arith), row-once (suc i) j)

-- the first link of j nodes from i on
abbrev first_of : ℕ → ℕ → ℕ
first_of zero i = 0
first_of (suc j) i = i

-- ---- the words of a cleared store

module _ (k : Lay) (laid : Laid k) where
  pub blank-low : (j : ℕ) → j < k.stem + node_words → blank_word k j ≡ 0
  unfolding blank_word
  blank-low j h = simp (lt-ltb j (k.stem + node_words) h)

  pub blank-free : blank_word k k.free ≡ 1
  unfolding blank_word
  blank-free = rw (le-ltb k.free (k.stem + node_words) (omega (arith, laid.pool)), le-ltb k.free k.free (omega arith), eq-eqb k.free k.free refl) refl

  pub blank-held : blank_word k k.held ≡ 0
  unfolding blank_word
  blank-held =
      rw (le-ltb k.held (k.stem + node_words) (omega (arith, laid.pool, laid.held)), le-ltb k.held k.free (omega (arith, laid.held)), ne_eqb k.held k.free (λ e. omega (arith, laid.held))) refl

  pub blank-node : (l i : ℕ) → 1 ≤ l → l ≤ k.nodes → i < node_words → blank_word k (cell k.stem l i) ≡ blank_cell k.nodes l i
  unfolding blank_word
  blank-node l i a b h =
      let j = cell k.stem l i in
      let d : (cell k.stem l i - k.stem) / node_words ≡ l = omega arith in
      let m : (cell k.stem l i - k.stem) % node_words ≡ i = omega arith in
      rw (le-ltb j (k.stem + node_words) (omega arith), lt-ltb j k.free (omega (arith, laid.pool)), d, m) refl

  module _ (w : List ℕ) (is : (j : ℕ) → j ≤ k.free → word w j ≡ blank_word k j) where
    -- the free chain from node i on: j nodes, up to the last
    row-seg : (p i j : ℕ) → 1 ≤ i → i + j ≡ suc k.nodes → word w p ≡ first_of j i → Seg k.stem w p (row i j)
    row-seg p i zero a b e = e
    row-seg p i (suc j) a b e = (
      e,
      load-blank k.stem w i (λ c c<. is (cell k.stem i c) (omega (arith, laid.pool)) ∙ blank-node i c a (omega arith) (omega arith) ∙ no-load c c<),
      row-seg (next_at k i) (suc i) j (omega arith) (omega arith) (is (next_at k i) (omega (arith, laid.pool)) ∙ blank-node i load_words a (omega arith) (omega arith) ∙ next j b),
    )
      where
        no-load : (c : ℕ) → c < load_words → blank_cell k.nodes i c ≡ 0
        no-load c h = rw (ne_eqb c load_words (λ e. omega arith)) refl

        next : (j : ℕ) → i + suc j ≡ suc k.nodes → blank_cell k.nodes i load_words ≡ first_of j (suc i)
        next zero b = rw (eq-eqb i k.nodes (omega arith)) refl
        next (suc j) b = rw (ne_eqb i k.nodes (λ e. omega arith)) (omega arith)

-- ---- the chains of a cleared store, of any queues over one pool: every list is empty, and the free chain has all nodes

module _ (k : Lay) where
  abbrev none : ℕ → List Node
  none r = []

  abbrev pub fresh_q : ℕ → List Node
  fresh_q = upd none k.free (row 1 k.nodes)

  abbrev pub fresh_own : ℕ → ℕ
  fresh_own l = k.free

  fresh-is : fresh_q k.free ≡ row 1 k.nodes
  fresh-is = (is-upd none k.free (row 1 k.nodes)).here

  pub fresh-free : length (fresh_q k.free) ≡ k.nodes
  fresh-free = ap length fresh-is ∙ row-length 1 k.nodes

  pub fresh-blank : NoLoads (fresh_q k.free)
  fresh-blank = rw fresh-is (row-all (λ (x : Node). x.load ≡ no_load) 1 k.nodes (λ l a b. refl))

  module _ (S : Seat k) where
    abbrev laid : Laid k
    laid = S.laid

    pub fresh-list : (c : ℕ) → S.Head c → fresh_q c ≡ []
    fresh-list c h = (is-upd none k.free (row 1 k.nodes)).else c (λ e. omega (arith, S.low c h, laid.pool))

    module _ (W : List ℕ) (is : (j : ℕ) → j ≤ k.free → word W j ≡ blank_word k j) (long : k.free < length W) (some : 1 ≤ k.nodes) where
      one : (n : ℕ) → 1 ≤ n → 1 ≡ first_of n 1
      one zero h = absurd (omega arith)
      one (suc n) h = refl

      chains0 : Chains k.stem W (Id (area k S)) k.nodes fresh_own fresh_q
      chains0 c i = ⊎_elim list free i
        where
          list : S.Head c → Chain k.stem W k.nodes fresh_own c (fresh_q c)
          list h =
              subst (Chain k.stem W k.nodes fresh_own c) (sym (fresh-list c h))
              (record { seg = is c (omega (arith, S.low c h, laid.pool)) ∙ blank-low k laid c (omega (arith, S.low c h)); mine = tt; once = tt })

          free : c ≡ k.free → Chain k.stem W k.nodes fresh_own c (fresh_q c)
          free e =
              subst (λ (c : ℕ). Chain k.stem W k.nodes fresh_own c (fresh_q c)) (sym e)
              (subst (Chain k.stem W k.nodes fresh_own k.free) (sym fresh-is)
              (record {
                seg = row-seg k laid W is k.free 1 k.nodes (omega arith) (omega arith) (is k.free (omega arith) ∙ blank-free k laid ∙ one k.nodes some);
                mine = row-all (Mine fresh_own k.nodes k.free) 1 k.nodes (λ l a b. record { owner = refl; low = a; high = omega arith });
                once = row-once 1 k.nodes;
              }))

      pub fresh-linked : Linked (area k S) W fresh_q fresh_own
      fresh-linked =
          record {
            long = long;
            chains = chains0;
            tails = λ c h. is (c + k.ranks) (omega (arith, S.low c h, laid.pool)) ∙ blank-low k laid (c + k.ranks) (S.low c h) ∙ ap last_link (sym (fresh-list c h));
          }

-- ---- bits that are all 0, at any depth

pub blank-from : (b : List ℕ) (o d : ℕ) → o + words_of d ≤ length b → ((a : ℕ) → o ≤ a → a < o + words_of d → word b a ≡ 0) → (f : ℕ → ℕ) → ((j : ℕ) → j < 64 ^ d → f j ≡ 0) → Tower b (storeys_from o d) f
blank-from b o zero l h f z = tt
blank-from b o (suc d) l h f z = (
  record {
    long = omega arith;
    fits = λ i k. rw (h (o + words_of d + i) (omega arith) (omega arith)) (lit< tt);
    bit = λ j k. ap (λ (w : ℕ). bit_at w (j % 64)) (h (o + words_of d + j / 64) (omega arith) (omega arith)) ∙ zero_bit (j % 64) ∙ sym (z j (omega (arith, pow-suc 64 d)));
  },
  blank-from b o d (omega arith) (λ a k m. h a k (omega arith)) (up b (o + words_of d)) (λ j k. ap nz (h (o + words_of d + j) (omega arith) (omega arith))),
)

module _ (k : Lay) (laid : Laid k) (b w : List ℕ) (H : Shaped k b w) where
  abbrev B : List ℕ
  B = fill (λ j. 0) (bit_words k) b

  abbrev W : List ℕ
  W = fill (blank_word k) (store_words k) w

  word-is : (j : ℕ) → j < store_words k → word W j ≡ blank_word k j
  word-is j h = fill-at (blank_word k) (store_words k) w j h H.words

  pub clear-holds : Holds k laid B W []
  clear-holds =
      record {
        q = fresh_q k;
        own = fresh_own k;
        shaped = shaped-after k b w B W (fill-length (λ j. 0) (bit_words k) b) (fill-length (blank_word k) (store_words k) w) H;
        linked = fresh-linked k (alone k laid) W (λ j l. word-is j (omega (arith, laid.held))) (omega (arith, H.words, fill-length (blank_word k) (store_words k) w, laid.held)) H.low;
        bits = record { tower = blank-from B k.bits k.storeys (omega (arith, H.bits, laid.tower, fill-length (λ j. 0) (bit_words k) b)) (λ a l m. fill-at (λ j. 0) (bit_words k) b a (omega (arith, laid.tower)) H.bits) (λ r. flag (fresh_q k (head_at k r))) (λ j l. ap flag (fresh-list k (alone k laid) (head_at k j) (omega arith, omega (arith, laid.ranks)))) };
        is = sym (order-none (λ r. loads (fresh_q k (head_at k r))) 0 k.ranks (λ j a l. ap loads (fresh-list k (alone k laid) (head_at k j) (omega arith, omega arith))));
        held = word-is k.held (omega arith) ∙ blank-held k laid;
        room = omega (arith, fresh-free k);
        blank = fresh-blank k;
      }

  pub clear-done : cleared k b w ≡ outcome (Ok None) B W
  unfolding cleared
  clear-done = simp ((shape-means k b w).holds H)
