-- The free chain of a store that the queue's own calls lead to: all that is not held, with tag 0 and length 0.
use Rattle.laws.specs.Prelude.{All, Element, List, [], ◌+◌, ◌∙◌, ◌∷◌, ◌≡◌, ap, arith, length, refl, subst, sym, ℕ}
use Rattle.bucket_model.specs.Prelude.{Laid, Load, Reached, Spare, Store, no_load, walk, word}
use Rattle.bucket_model.specs.Layout.{Lay}
use Rattle.bucket_model.proofs.Chain.{Node}
use Rattle.bucket_model.proofs.Queue.{Seat, alone, HoldsIn, NoLoads, loads, loads-length, free_chain}
use Rattle.bucket_model.proofs.Runs.{walks}
use Rattle.bucket_model.proofs.Promises.{reached-holds}

-- any number of a load that is 0 where there is none
all_none : (of : Load → ℕ) → of no_load ≡ 0 → (xs : List Node) → NoLoads xs → All (λ (t : Load). of t ≡ 0) (loads xs)
all_none of e [] a = tt
all_none of e (x ∷ xs) a = (ap of a.0 ∙ e, all_none of e xs a.1)

-- the free chain of a queue among others, read off the words: as many nodes as nobody holds, each with tag 0 and length 0
module _ (k : Lay) (S : Seat k) (others : ℕ) (b w : List ℕ) (l : List Element) (h : HoldsIn k S others b w l) where
  free-is : walk k.stem w k.nodes (word w k.free) ≡ loads (h.q k.free)
  free-is =
      let c = free_chain k S others b w l h in
      walks k.stem w k.nodes h.own k.free k.free k.nodes (h.q k.free) c.seg c.mine (omega (arith, h.room))

  pub free-many : length (walk k.stem w k.nodes (word w k.free)) + (others + length l) ≡ k.nodes
  free-many = omega (arith, ap length free-is, loads-length (h.q k.free), h.room)

  pub free-tags : All (λ (t : Load). t.tag ≡ 0) (walk k.stem w k.nodes (word w k.free))
  free-tags = subst (All (λ (t : Load). t.tag ≡ 0)) (sym free-is) (all_none (λ (t : Load). t.tag) refl (h.q k.free) h.blank)

  pub free-lengths : All (λ (t : Load). t.length ≡ 0) (walk k.stem w k.nodes (word w k.free))
  free-lengths = subst (All (λ (t : Load). t.length ≡ 0)) (sym free-is) (all_none (λ (t : Load). t.length) refl (h.q k.free) h.blank)

-- SPARE
pub spare : (k : Lay) (laid : Laid k) (s : Store) → Reached k s → Spare k s
spare k laid s r =
    let y = reached-holds k laid s r in
    let S = alone k laid in
    record {
      many = omega (arith, free-many k S 0 s.bits s.words y.0 y.2, y.2.held);
      tags = free-tags k S 0 s.bits s.words y.0 y.2;
      lengths = free-lengths k S 0 s.bits s.words y.0 y.2;
    }
