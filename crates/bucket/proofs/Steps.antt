-- From what a call has tested to what its next step asks for.
use Rattle.laws.specs.Prelude.{Bool, List, ◌&&◌, ◌<◌, ◌≡◌, ◌≤◌, and_left, and_right, arith, eqb, false, means-eqb, means-not, not, subst, sym, true, ℕ}
use lib.Dec.{lit≤}
use Rattle.bucket_model.specs.declared.Lay.{Lay}
use Rattle.bucket_model.specs.Calls.{Lowest}
use Rattle.bucket_model.specs.Calls.{Room}
use Rattle.bucket_model.specs.Prelude.{bit_words, is_shaped, is_whole, least_storeys, most_storeys, queue, room_after, room_of, taken_bits, taken_words, word, words_of}
use Rattle.bucket_model.proofs.Laws.{laid_of, shape-means, whole-means}
use Rattle.bucket_bits.proofs.Numbers.{words-le}
use Rattle.bucket_step.specs.Tested.{FoundRoom, Freeing, Roomy, Stands, links_in, room_freed}
use Rattle.bucket_step.proofs.Read.{after_is, freed-none}
use Rattle.bucket_step.specs.Stores.{Joining}
use Rattle.bucket_step.proofs.Steps as steps
use Rattle.bucket.specs.Stores.{Placed}

-- a queue of either depth: few words of bits
few_bits : (d n : ℕ) → least_storeys ≤ d → d ≤ most_storeys → bit_words (queue d n) ≤ 4294967296
few_bits d n l h = let a = words-le d most_storeys h in let b : words_of most_storeys ≤ 4161 = lit≤ tt in omega arith

pub queue-placed : (d n : ℕ) (k : Lay) → least_storeys ≤ d → d ≤ most_storeys → k ≡ queue d n → Placed k
queue-placed d n k l h e = subst Placed (sym e) (record { laid = laid_of d n (omega arith); small = few_bits d n l h })

module _ (k : Lay) (b w : List ℕ) where
  pub stands : Placed k → is_shaped k b w ≡ true → Stands k b w
  stands p e = record { laid = p.laid; shaped = (shape-means k b w).says e }

  -- whole, with something held
  pub whole_of : (t : Bool) → (is_whole k b w && t) ≡ true → is_whole k b w ≡ true
  whole_of t e = and_left (is_whole k b w) t e

  pub some_of : (is_whole k b w && not (eqb (word w k.held) 0)) ≡ true → word w k.held ≡ 0 → ⊥
  some_of e = (means-not (means-eqb (word w k.held) 0)).says (and_right (is_whole k b w) (not (eqb (word w k.held) 0)) e)

  -- whole, with a node that is free
  pub room_of_lem : (is_whole k b w && not (eqb (word w k.held) k.nodes)) ≡ true → word w k.held ≡ k.nodes → ⊥
  room_of_lem e = (means-not (means-eqb (word w k.held) k.nodes)).says (and_right (is_whole k b w) (not (eqb (word w k.held) k.nodes)) e)

  pub roomy : (is_whole k b w && not (eqb (word w k.held) k.nodes)) ≡ true → Roomy k (word w k.held) w
  roomy e =
      let h = (whole-means k b w).says (whole_of (not (eqb (word w k.held) k.nodes)) e) in
      let n : word w k.held ≡ k.nodes → ⊥ = room_of_lem e in
      let f : word w k.free ≡ 0 → ⊥ = λ z. n (h.full.to z) in
      record { used< = omega (arith, h.held≤); free> = omega arith }

  pub joining : Stands k b w → (r : ℕ) (good? : Bool) (to : Room) → (is_whole k b w && not (eqb (word w k.held) k.nodes)) ≡ true → r < k.ranks → FoundRoom good? to (room_of k b w r) → good? ≡ true → Joining k b w r to.tail
  joining s r good? to e l f g =
      let h = (whole-means k b w).says (whole_of (not (eqb (word w k.held) k.nodes)) e) in
      let m = roomy e in
      steps.joining k b w s (word w k.held) r good? to m.free> h.free≤ m.used< l f g

-- the tests as after the pop are those of the rules
pub after : (k : Lay) (b w : List ℕ) (low : Lowest) (r : ℕ) (good? : Bool) (to : Room) → Freeing k b w low → is_whole k b w ≡ true → FoundRoom good? to (room_freed k (taken_bits k b low) (taken_words k w low) r) → FoundRoom good? to (room_after k (taken_bits k b low) (taken_words k w low) r)
after k b w low r good? to f h e = subst (λ (x : Room). FoundRoom good? to x) (after_is k b w low f r ((whole-means k b w).says h)) e

-- .. and where they fail, none is found
pub after-none : (k : Lay) (b w : List ℕ) (low : Lowest) (r : ℕ) → Freeing k b w low → is_whole k b w ≡ true → links_in k (taken_words k w low) r ≡ false → (room_after k (taken_bits k b low) (taken_words k w low) r).good ≡ false
after-none k b w low r f h e = subst (λ (x : Room). x.good ≡ false) (after_is k b w low f r ((whole-means k b w).says h)) (freed-none k b w low f.takable r e)
