-- Words that a push leaves.
use Rattle.laws.specs.Prelude.{Element, List, [], ◌+◌, ◌<◌, ◌∙◌, ◌∷◌, ◌≡◌, ◌≤◌, ◌⊎◌, arith, eq-eqb, inl, inr, length, length-set, ne_eqb, refl, set, ℕ, ℕ_discrete, ⊎_elim}
use Rattle.bucket_model.specs.Prelude.{Laid, cell, head_at, joined_words, link_at, load_of, load_writes, next_at, node_words, store_words, tail_at, word, write}
use Rattle.bucket_model.specs.Layout.{Lay}
use Rattle.bucket_model.specs.Calls.{Room}
use Rattle.bucket_model.proofs.Load.{load-misses}
use Rattle.bucket_model.proofs.Taken.{Foreign}
use Rattle.bucket_model.proofs.Writes.{other, write-other, write-length, write-here}

-- the link to a newcomer stands below the free link
pub link< : (k : Lay) (laid : Laid k) (r tail : ℕ) → r < k.ranks → tail ≤ k.nodes → link_at k r tail < k.free
unfolding link_at
link< k laid r tail h l = elim (ℕ_discrete tail 0) [ yes e ↦ rw (eq-eqb tail 0 e) (omega (arith, laid.lists, laid.pool)) | no e ↦ rw (ne_eqb tail 0 e) (omega (arith, laid.pool)) ]

-- it is the head, or stands among the nodes
link-in : (k : Lay) (laid : Laid k) (r tail : ℕ) → tail ≤ k.nodes → (link_at k r tail ≡ head_at k r) ⊎ ((k.stem + node_words ≤ link_at k r tail) × (link_at k r tail < k.free))
unfolding link_at
link-in k laid r tail l = elim (ℕ_discrete tail 0) [ yes e ↦ inl (rw (eq-eqb tail 0 e) refl) | no e ↦ inr (rw (ne_eqb tail 0 e) (omega arith, omega (arith, laid.pool))) ]

module _ (k : Lay) (laid : Laid k) (w : List ℕ) (e : Element) (to : Room) (r< : e.rank.0 < k.ranks) where
  abbrev free : ℕ
  free = word w k.free

  abbrev w1 : List ℕ
  w1 = set w k.free to.next

  abbrev w2 : List ℕ
  w2 = write w1 (load_writes k.stem free (load_of e))

  abbrev links : List (ℕ × ℕ)
  links = (next_at k free, 0) ∷ (link_at k e.rank.0 to.tail, free) ∷ []

  abbrev w4 : List ℕ
  w4 = write w2 links

  -- the node taken is the tail
  pub joined-tail : store_words k ≤ length w → word (joined_words k w e to) (tail_at k e.rank.0) ≡ word w k.free
  unfolding joined_words
  joined-tail h =
      let n : length w4 ≡ length w = write-length w2 links ∙ write-length w1 (load_writes k.stem free (load_of e)) ∙ length-set w _ _ in
      write-here w4 (tail_at k e.rank.0) free ((k.held, _) ∷ []) (omega (arith, laid.lists, laid.pool, laid.held)) ((λ p. omega (arith, laid.lists, laid.pool, laid.held)), tt)

  -- a word that is none of the queue's stands, where the free link and the tail name nodes
  pub joined-foreign : 1 ≤ word w k.free → word w k.free ≤ k.nodes → to.tail ≤ k.nodes → (i : ℕ) → Foreign k i → word (joined_words k w e to) i ≡ word w i
  unfolding joined_words
  joined-foreign f> f≤ t≤ i h =
      write-other w4 ((tail_at k e.rank.0, free) ∷ (k.held, word w k.held + 1) ∷ []) i (off (tail_at k e.rank.0) (inl (omega arith, omega arith)), (held-off h, tt))
      ∙ write-other w2 links i (off (next_at k free) (inr (omega arith, omega (arith, laid.pool))), (link-off, tt))
      ∙ write-other w1 (load_writes k.stem free (load_of e)) i (load-misses k.stem free (load_of e) i (λ j j<. off (cell k.stem free j) (inr (omega arith, omega (arith, laid.pool)))))
      ∙ other w _ _ i (off k.free (inr (omega (arith, laid.pool), omega arith)))
    where
      -- apart from the queue's lists, and from what stands from the nodes to the free link
      off : (a : ℕ) → ((k.heads ≤ a) × (a < k.heads + k.ranks + k.ranks)) ⊎ ((k.stem + node_words ≤ a) × (a ≤ k.free)) → i ≡ a → ⊥
      off a (inl x) p = ⊎_elim (λ y. ⊎_elim (λ z. omega (arith, x.0)) (λ z. omega (arith, x.1, z.0)) y) (λ y. omega (arith, x.1, y.0, laid.lists, laid.pool)) h
      off a (inr x) p = ⊎_elim (λ y. ⊎_elim (λ z. omega (arith, x.0, laid.lists)) (λ z. omega (arith, x.0, z.1)) y) (λ y. omega (arith, x.1, y.0)) h

      held-off : Foreign k i → i ≡ k.held → ⊥
      held-off (inl (inl x)) p = omega (arith, laid.lists, laid.pool, laid.held)
      held-off (inl (inr x)) p = omega (arith, x.1, laid.pool, laid.held)
      held-off (inr x) p = x.1 p

      link-off : i ≡ link_at k e.rank.0 to.tail → ⊥
      link-off p = ⊎_elim (λ x. off (head_at k e.rank.0) (inl (omega arith, omega arith)) (p ∙ x)) (λ x. off (link_at k e.rank.0 to.tail) (inr (x.0, omega (arith, x.1))) p) (link-in k laid e.rank.0 to.tail t≤)

  -- past the store nothing is written
  pub joined-past : word w k.free ≤ k.nodes → to.tail ≤ k.nodes → (i : ℕ) → store_words k ≤ i → word (joined_words k w e to) i ≡ word w i
  unfolding joined_words
  joined-past f≤ t≤ i l =
      let b = link< k laid e.rank.0 to.tail r< t≤ in
      write-other w4 ((tail_at k e.rank.0, free) ∷ (k.held, word w k.held + 1) ∷ []) i ((λ p. omega (arith, laid.lists, laid.pool, laid.held)), ((λ p. omega arith), tt))
      ∙ write-other w2 links i ((λ p. omega (arith, laid.pool, laid.held)), ((λ p. omega (arith, laid.held)), tt))
      ∙ write-other w1 (load_writes k.stem free (load_of e)) i (load-misses k.stem free (load_of e) i (λ j j< p. omega (arith, laid.pool, laid.held)))
      ∙ other w _ _ i (λ p. omega (arith, laid.held))
