-- The words that a pop leaves, one by one.
use Rattle.laws.specs.Prelude.{List, [], ◌+◌, ◌-◌, ◌<◌, ◌∙◌, ◌∷◌, ◌≡◌, ◌≤◌, ◌⊎◌, arith, dec_lt, eq-eqb, inl, inr, le-ltb, length, length-set, lt-ltb, ne_eqb, refl, set, ℕ, ℕ_discrete}
use Rattle.bucket_model.specs.Prelude.{Laid, cell, head_at, load_words, load_writes, next_at, next_of, no_load, node_words, store_words, tail_at, tail_left, taken_words, word, write}
use Rattle.bucket_model.specs.Layout.{Lay}
use Rattle.bucket_model.specs.Calls.{Lowest}
use Rattle.bucket_model.proofs.Load.{load-misses}
use Rattle.bucket_model.proofs.Writes.{same, other, write-other, write-length, write-here}
use Rattle.bucket_model.proofs.Pop.{next-in}

-- a word that is none of a queue's own: no head or tail of it, no node, not the free link and not its held
abbrev pub Foreign : Lay → ℕ → Type 0
Foreign k i = ((i < k.heads) ⊎ ((k.heads + k.ranks + k.ranks ≤ i) × (i < k.stem + node_words))) ⊎ ((k.free < i) × (i ≡ k.held → ⊥))

module _ (k : Lay) (laid : Laid k) (w : List ℕ) (low : Lowest) (long : store_words k ≤ length w) where
  -- the first two writes
  abbrev ends : List (ℕ × ℕ)
  ends = (head_at k low.rank, low.next) ∷ (tail_at k low.rank, tail_left low.next low.tail) ∷ []

  abbrev w2 : List ℕ
  w2 = write w ends

  abbrev w3 : List ℕ
  w3 = write w2 (load_writes k.stem low.head no_load)

  abbrev w4 : List ℕ
  w4 = set w3 (next_at k low.head) (word w k.free)

  long2 : length w2 ≡ length w
  long2 = simp length-set

  long3 : length w3 ≡ length w
  long3 = write-length w2 (load_writes k.stem low.head no_load) ∙ long2

  long4 : length w4 ≡ length w
  long4 = length-set w3 _ _ ∙ long3

  pub held_after : word (taken_words k w low) k.held ≡ word w k.held - 1
  unfolding taken_words
  held_after = same (set w4 k.free low.head) k.held _ (omega (arith, long4, length-set w4 k.free low.head))

  pub free-after : word (taken_words k w low) k.free ≡ low.head
  unfolding taken_words
  free-after = write-here w4 k.free low.head ((k.held, word w k.held - 1) ∷ []) (omega (arith, long4, laid.held)) ((λ e. omega (arith, laid.held)), tt)

  -- a word that is none of the node's, and neither free link nor held
  before-node : (a : ℕ) → ((i : ℕ) → i < node_words → a ≡ cell k.stem low.head i → ⊥) → (a ≡ k.free → ⊥) → (a ≡ k.held → ⊥) → word (taken_words k w low) a ≡ word w2 a
  unfolding taken_words
  before-node a h f g =
      write-other w4 ((k.free, low.head) ∷ (k.held, word w k.held - 1) ∷ []) a (f, (g, tt)) ∙ other w3 _ _ a (h load_words (omega arith))
      ∙ write-other w2 (load_writes k.stem low.head no_load) a (load-misses k.stem low.head no_load a (λ i l. h i (omega arith)))

  module _ (r< : low.rank < k.ranks) (h> : 1 ≤ low.head) (h≤ : low.head ≤ k.nodes) where
    -- heads and tails stand before the nodes
    low-words : (j : ℕ) → j < k.stem + node_words → word (taken_words k w low) j ≡ word w2 j
    low-words j l = before-node j (λ i i< e. omega arith) (λ e. omega (arith, laid.pool)) (λ e. omega (arith, laid.pool, laid.held))

    pub head-own : word (taken_words k w low) (head_at k low.rank) ≡ low.next
    head-own = low-words (head_at k low.rank) (omega (arith, laid.lists)) ∙ write-here w (head_at k low.rank) low.next ((tail_at k low.rank, _) ∷ []) (omega (arith, laid.lists, laid.pool, laid.held)) ((λ e. omega arith), tt)

    pub head-else : (r : ℕ) → r < k.ranks → (r ≡ low.rank → ⊥) → word (taken_words k w low) (head_at k r) ≡ word w (head_at k r)
    head-else r l e = low-words (head_at k r) (omega (arith, laid.lists)) ∙ write-other w ends (head_at k r) ((λ p. e (omega arith)), ((λ p. omega arith), tt))

    pub tail-own : word (taken_words k w low) (tail_at k low.rank) ≡ tail_left low.next low.tail
    tail-own = low-words (tail_at k low.rank) (omega (arith, laid.lists)) ∙ same (set w (head_at k low.rank) low.next) (tail_at k low.rank) _ (simp length-set (omega (arith, laid.lists, laid.pool, laid.held)))

    pub tail-else : (r : ℕ) → r < k.ranks → (r ≡ low.rank → ⊥) → word (taken_words k w low) (tail_at k r) ≡ word w (tail_at k r)
    tail-else r l e = low-words (tail_at k r) (omega (arith, laid.lists)) ∙ write-other w ends (tail_at k r) ((λ p. omega arith), ((λ p. e (omega arith)), tt))

    next_word : (l : ℕ) → (l ≡ low.head → ⊥) → 1 ≤ l → l ≤ k.nodes → word (taken_words k w low) (next_at k l) ≡ word w (next_at k l)
    next_word l h a c =
        before-node (next_at k l) (λ i i< e. h (omega arith)) (λ e. omega (arith, laid.pool)) (λ e. omega (arith, laid.pool, laid.held))
        ∙ write-other w ends (next_at k l) ((λ e. omega (arith, laid.lists)), ((λ e. omega (arith, laid.lists)), tt))

    pub next-own : next_of k (taken_words k w low) low.head ≡ word w k.free
    unfolding taken_words
    next-own =
        next-in k (taken_words k w low) low.head h> h≤
        ∙ write-here w3 (next_at k low.head) (word w k.free) ((k.free, low.head) ∷ (k.held, word w k.held - 1) ∷ []) (omega (arith, long3, laid.pool, laid.held)) ((λ e. omega (arith, laid.pool)), ((λ e. omega (arith, laid.pool, laid.held)), tt))

    pub next-else : (l : ℕ) → (l ≡ low.head → ⊥) → next_of k (taken_words k w low) l ≡ next_of k w l
    unfolding next_of
    next-else l e = elim (ℕ_discrete l 0) [ yes p ↦ rw (eq-eqb l 0 p) refl | no p ↦ rw (ne_eqb l 0 p) (elim (dec_lt k.nodes l) [ yes q ↦ rw (lt-ltb k.nodes l q) refl | no q ↦ rw (le-ltb k.nodes l (omega arith)) (next_word l e (omega arith) (omega arith)) ]) ]

    -- a word that is none of the queue's stands, before its lists, between them and the nodes, or behind the free link
    pub taken-foreign : (i : ℕ) → Foreign k i → word (taken_words k w low) i ≡ word w i
    taken-foreign i (inl (inl l)) = low-words i (omega (arith, laid.lists)) ∙ write-other w ends i ((λ e. omega arith), ((λ e. omega arith), tt))
    taken-foreign i (inl (inr l)) = low-words i l.1 ∙ write-other w ends i ((λ e. omega (arith, l.0)), ((λ e. omega (arith, l.0)), tt))
    taken-foreign i (inr l) =
        before-node i (λ j j< e. omega (arith, laid.pool, l.0)) (λ e. omega (arith, l.0)) l.1
        ∙ write-other w ends i ((λ e. omega (arith, laid.lists, laid.pool, l.0)), ((λ e. omega (arith, laid.lists, laid.pool, l.0)), tt))

    -- .. so one past the store
    pub taken-past : (i : ℕ) → store_words k ≤ i → word (taken_words k w low) i ≡ word w i
    taken-past i l = taken-foreign i (inr (omega (arith, laid.held), λ e. omega arith))
