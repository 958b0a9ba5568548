-- What the functions have read is what the rules read. Each law takes what a function has read as equations.
use Rattle.std.specs.Prelude.{None, Option, Some}
use Rattle.std.specs.Option.{is_some}
use Rattle.laws.specs.Prelude.{Bool, Bool·beq, Iff, List, Means, ◌&&◌, ◌+◌, ◌-◌, ◌<◌, ◌∙◌, ◌≡◌, ◌≤◌, and_assoc, and_left, and_right, and-true, ap, arith, eq-eqb, eqb, false, false≢true, le-leb, leb, length, ltb, means-and, means-beq, means-by, means-eqb, means-leb, means-ltb, means-not, ne_eqb, not, refl, subst, sym, true, ℕ, ℕ_discrete}
use Rattle.bucket_model.specs.declared.Lay.{Lay}
use Rattle.bucket_model.specs.Calls.{Lowest}
use Rattle.bucket_model.specs.declared.Reads.{Reads}
use Rattle.bucket_model.specs.declared.Spot.{Spot}
use Rattle.bucket_model.specs.Calls.{Room}
use Rattle.bucket_model.specs.Prelude.{Agrees, Laid, Whole, found_room, head_at, is_whole, lowest_in, lowest_of, lowest_open, lowest_rank, signalled, next_of, pop_ok, push_ok, rank_agrees, reads_of, room_after, room_with, store_words, storeys_at, tail_at, tail_left, taken_bits, taken_words, whole_ok, word}
use Rattle.bucket_model.proofs.Laws.{agree-means, free-after, head-else, head-own, held_after, low-is, next-else, next-own, pop-means, pop-way, tail-else, tail-own}
use Rattle.bucket_bits.specs.Climbs.{Agreed, Leads, LeadsTo, Tall}
use Rattle.bucket_bits.proofs.Numbers.{words-le}
use Rattle.bucket_node.specs.Places.{Fits, Takable}
use Rattle.bucket_step.specs.Tested.{Stands, FoundLow, FoundLinks, FoundRoom, Freeing, ends_ok, node_ok, links_ok, links_in, join_ok, room_freed}

pub tall : (k : Lay) (b w : List ℕ) → Stands k b w → k.ranks ≤ 4294967296 → Tall b k.bits k.storeys k.tower
tall k b w s h = let l = s.laid in record { words = l.tower; long = omega (arith, s.shaped.bits, l.tower); some = l.deep; few = omega (arith, l.ranks) }

pub fits : (k : Lay) (b w : List ℕ) → Stands k b w → Fits k w
fits k b w s = record { laid = s.laid; words = s.shaped.words }

-- the top word is there
pub top_in : (k : Lay) (b w : List ℕ) → Stands k b w → k.bits < length b
top_in k b w s = omega (arith, s.shaped.bits, s.laid.tower, words-le 1 k.storeys s.laid.deep)

pub whole_is : (k : Lay) (b w : List ℕ) (free held : ℕ) (r : Bool) → free ≡ word w k.free → held ≡ word w k.held → r ≡ whole_ok (word b k.bits) free held k.nodes → r ≡ is_whole k b w
whole_is k b w free held r p q g = g ∙ (λ i. whole_ok (word b k.bits) (p i) (q i) k.nodes)

-- two tests of one fact
alike : (s t : Bool) {P : Type 0} → Means s P → Means t P → s ≡ t
alike true t m n = sym (n.holds (m.says refl))
alike false true m n = m.holds (n.says refl)
alike false false m n = refl

off : (t : Bool) → (t ≡ true → ⊥) → t ≡ false
off true h = absurd (h refl)
off false h = refl

-- whole with something held, and with a node that is free
module _ (top free held n : ℕ) where
  abbrev whole_means : Means (leb free n && leb held n && Bool·beq (eqb free 0) (eqb held n) && Bool·beq (eqb top 0) (eqb held 0)) ((((free ≤ n) × (held ≤ n)) × Iff (free ≡ 0) (held ≡ n)) × Iff (top ≡ 0) (held ≡ 0))
  whole_means = means-and (means-and (means-and (means-leb free n) (means-leb held n)) (means-beq (means-eqb free 0) (means-eqb held n))) (means-beq (means-eqb top 0) (means-eqb held 0))

  pub some-whole : (not (eqb held 0) && leb held n && not (eqb top 0) && leb free n && Bool·beq (eqb free 0) (eqb held n)) ≡ (whole_ok top free held n && not (eqb held 0))
  unfolding whole_ok
  some-whole =
      alike _ _ (means-and (means-and (means-and (means-and (means-not (means-eqb held 0)) (means-leb held n)) (means-not (means-eqb top 0))) (means-leb free n)) (means-beq (means-eqb free 0) (means-eqb held n)))
      (means-by (means-and whole_means (means-not (means-eqb held 0)))
      (λ y. ((((y.1, y.0.0.0.1), λ z. y.1 (y.0.1.to z)), y.0.0.0.0), y.0.0.1))
      (λ x. ((((x.0.1, x.0.0.0.1), x.1), record { to = λ z. absurd (x.0.0.1 z); from = λ z. absurd (x.0.0.0.0 z) }), x.0.0.0.0)))

  pub room_whole : (ltb held n && not (eqb free 0) && leb free n && Bool·beq (eqb top 0) (eqb held 0)) ≡ (whole_ok top free held n && not (eqb held n))
  unfolding whole_ok
  room_whole =
      alike _ _ (means-and (means-and (means-and (means-ltb held n) (means-not (means-eqb free 0))) (means-leb free n)) (means-beq (means-eqb top 0) (means-eqb held 0)))
      (means-by (means-and whole_means (means-not (means-eqb held n)))
      (λ y. (((let m = y.0.0.0.1 in let e : held ≡ n → ⊥ = y.1 in omega arith, λ z. y.1 (y.0.0.1.to z)), y.0.0.0.0), y.0.1))
      (λ x. let l = x.0.0.0 in ((((x.0.1, omega arith), record { to = λ z. absurd (x.0.0.1 z); from = λ z. absurd (omega arith) }), x.1), λ z. omega arith)))

-- .. of the words read
pub some_is : (k : Lay) (b w : List ℕ) (free held : ℕ) (r : Bool) → free ≡ word w k.free → held ≡ word w k.held → r ≡ (whole_ok (word b k.bits) free held k.nodes && not (eqb held 0)) → r ≡ (is_whole k b w && not (eqb (word w k.held) 0))
some_is k b w free held r p q g = g ∙ (λ i. whole_ok (word b k.bits) (p i) (q i) k.nodes && not (eqb (q i) 0))

pub room-left-is : (k : Lay) (b w : List ℕ) (free held : ℕ) (r : Bool) → free ≡ word w k.free → held ≡ word w k.held → r ≡ (whole_ok (word b k.bits) free held k.nodes && not (eqb held k.nodes)) → r ≡ (is_whole k b w && not (eqb (word w k.held) k.nodes))
room-left-is k b w free held r p q g = g ∙ (λ i. whole_ok (word b k.bits) (p i) (q i) k.nodes && not (eqb (q i) k.nodes))

-- ---- the lowest bucket

-- a link names a node
pub node-means : (n l : ℕ) → Means (not (eqb l 0) && leb l n) ((l ≡ 0 → ⊥) × (l ≤ n))
node-means n l = means-and (means-not (means-eqb l 0)) (means-leb l n)

module _ (n head tail next behind : ℕ) where
  -- where head and tail do, the rest of a pop's test is that of the ends
  ends-pop : (not (eqb head 0) && leb head n) ≡ true → (not (eqb tail 0) && leb tail n) ≡ true → ends_ok n head tail next behind ≡ pop_ok n head tail next behind
  unfolding pop_ok
  ends-pop h t = simp (and_left (not (eqb head 0)) (leb head n) h, and_right (not (eqb head 0)) (leb head n) h, and_left (not (eqb tail 0)) (leb tail n) t, and_right (not (eqb tail 0)) (leb tail n) t)

module _ (k : Lay) (b w : List ℕ) (h : Stands k b w) where
  -- none is found where the way down is shut
  pub found-shut : Leads b k.bits k.storeys None → (lowest_of k b w).good ≡ false
  unfolding lowest_open
  found-shut l = off (lowest_of k b w).good (λ g. false≢true (sym l ∙ pop-way k b w g))

  module _ (r : ℕ) (l : LeadsTo b k.bits k.storeys r) where
    way-is : lowest_open k b ≡ true
    unfolding lowest_open
    way-is = l.way

    to_is : r ≡ lowest_rank k b
    unfolding lowest_rank
    to_is = l.to

    pub found-rank : r < k.ranks
    found-rank = omega (arith, l.within, h.laid.ranks)

    module _ (head tail : ℕ) (s u : Bool) (p : head ≡ word w (head_at k r)) (q : tail ≡ word w (tail_at k r)) (hs : s ≡ (not (eqb head 0) && leb head k.nodes)) (hu : u ≡ (not (eqb tail 0) && leb tail k.nodes)) where
      -- .. nor where head or tail names no node
      pub found-nodeless : (s && u) ≡ false → (lowest_of k b w).good ≡ false
      found-nodeless n = off (lowest_of k b w).good (λ g.
          let f = (pop-means k b w).says g in
          let at : word w (head_at k (lowest_rank k b)) ≡ head = ap (λ (i : ℕ). word w (head_at k i)) (sym to_is) ∙ sym p in
          let behind : word w (tail_at k (lowest_rank k b)) ≡ tail = ap (λ (i : ℕ). word w (tail_at k i)) (sym to_is) ∙ sym q in
          let x : s ≡ true = hs ∙ (node-means k.nodes head).holds (subst (λ (x : ℕ). (x ≡ 0 → ⊥) × (x ≤ k.nodes)) at (f.head≢, f.head≤)) in
          let y : u ≡ true = hu ∙ (node-means k.nodes tail).holds (subst (λ (x : ℕ). (x ≡ 0 → ⊥) × (x ≤ k.nodes)) behind (f.tail≢, f.tail≤)) in
          false≢true (sym n ∙ and-true s u x y))

      module _ (some : (s && u) ≡ true) (next : ℕ) (good : Bool) (v : next ≡ next_of k w head) (g : good ≡ ends_ok k.nodes head tail next (next_of k w tail)) where
        open-is : ◌≡◌ {A = Lowest} (record { good = good; rank = r; head = head; tail = tail; next = next }) (lowest_of k b w)
        open-is =
            let n : next ≡ next_of k w (word w (head_at k r)) = v ∙ ap (next_of k w) p in
            let m : next_of k w tail ≡ next_of k w (word w (tail_at k r)) = ap (next_of k w) q in
            let f : good ≡ (lowest_in k w r).good = g ∙ ends-pop k.nodes head tail next (next_of k w tail) (sym hs ∙ and_left s u some) (sym hu ∙ and_right s u some) ∙ (λ i. pop_ok k.nodes (p i) (q i) (n i) (m i)) in
            let same : ◌≡◌ {A = Lowest} (record { good = good; rank = r; head = head; tail = tail; next = next }) (lowest_in k w r) = λ i. record { good = f i; rank = r; head = p i; tail = q i; next = n i } in
            same ∙ ap (lowest_in k w) to_is ∙ sym (low-is k b w way-is)

        -- .. nor where the ends do not fit
        pub found-unfit : good ≡ false → (lowest_of k b w).good ≡ false
        found-unfit e = sym (ap (λ (x : Lowest). x.good) open-is) ∙ e

        pub found-fit : good ≡ true → FoundLow k b w (Some (record { rank = r; head = head; tail = tail; next = next }))
        found-fit e = record { is = (λ i. record { good = sym e i; rank = r; head = head; tail = tail; next = next }) ∙ open-is; rank< = found-rank; set = l.set }

-- ---- the words after a pop

module _ (k : Lay) (w : List ℕ) (low : Lowest) (f : Takable k w low) where
  pub head-is : (r : ℕ) → r ≡ low.rank → low.next ≡ word (taken_words k w low) (head_at k r)
  head-is r e = sym (ap (λ (i : ℕ). word (taken_words k w low) (head_at k i)) e ∙ head-own k f.node.fits.laid w low f.node.fits.words f.rank< f.node.some f.node.high)

  pub head-stays : (x r : ℕ) → r < k.ranks → (r ≡ low.rank → ⊥) → x ≡ word w (head_at k r) → x ≡ word (taken_words k w low) (head_at k r)
  head-stays x r l e p = p ∙ sym (head-else k f.node.fits.laid w low f.node.fits.words f.rank< f.node.some f.node.high r l e)

  pub tail-is : (x r : ℕ) → r ≡ low.rank → x ≡ tail_left low.next low.tail → x ≡ word (taken_words k w low) (tail_at k r)
  tail-is x r e p = p ∙ sym (ap (λ (i : ℕ). word (taken_words k w low) (tail_at k i)) e ∙ tail-own k f.node.fits.laid w low f.node.fits.words f.rank< f.node.some f.node.high)

  pub tail-stays : (x r : ℕ) → r < k.ranks → (r ≡ low.rank → ⊥) → x ≡ word w (tail_at k r) → x ≡ word (taken_words k w low) (tail_at k r)
  tail-stays x r l e p = p ∙ sym (tail-else k f.node.fits.laid w low f.node.fits.words f.rank< f.node.some f.node.high r l e)

-- ---- the bucket that a push joins

-- a link that names no node has no next
pub next-none : (k : Lay) (w : List ℕ) (l : ℕ) → l ≡ 0 → next_of k w l ≡ 0
unfolding next_of
next-none k w l e = rw (eq-eqb l 0 e) refl

-- its links, one test after the other
module _ (n head tail behind free : ℕ) where
  links-mean : Means (links_ok n head tail behind free) ((((Iff (head ≡ 0) (tail ≡ 0) × (head ≤ n)) × (tail ≤ n)) × (behind ≡ 0)) × (free ≡ tail → ⊥))
  links-mean = means-and (means-and (means-and (means-and (means-beq (means-eqb head 0) (means-eqb tail 0)) (means-leb head n)) (means-leb tail n)) (means-eqb behind 0)) (means-not (means-eqb free tail))

  pub links-empty : 1 ≤ free → behind ≡ 0 → tail ≡ 0 → eqb head 0 ≡ links_ok n head tail behind free
  links-empty f b z = elim (ℕ_discrete head 0) [
    | yes e ↦ simp (eq-eqb head 0 e, eq-eqb tail 0 z, le-leb head n (omega arith), le-leb tail n (omega arith), eq-eqb behind 0 b, ne_eqb free tail (λ p. omega arith))
    | no e ↦ simp (ne_eqb head 0 e, eq-eqb tail 0 z)
  ]

  pub links-some : (tail ≡ 0 → ⊥) → ((((not (eqb head 0) && leb head n) && (not (eqb tail 0) && leb tail n)) && not (eqb tail free)) && eqb behind 0) ≡ links_ok n head tail behind free
  links-some t =
      alike _ _ (means-and (means-and (means-and (node-means n head) (node-means n tail)) (means-not (means-eqb tail free))) (means-eqb behind 0))
      (means-by links-mean
      (λ f. ((((λ p. t (f.0.0.0.0.to p), f.0.0.0.1), (t, f.0.0.1)), λ e. f.1 (sym e)), f.0.1))
      (λ y. ((((record { to = λ p. absurd (y.0.0.0.0 p); from = λ p. absurd (t p) }, y.0.0.0.1), y.0.0.1.1), y.1), λ e. y.0.1 (sym e))))

-- all a push's tests in their parts
meant : (t : Bool) → Means t (t ≡ true)
meant t = record { says = λ e. e; holds = λ e. e }

push-parts : (n : ℕ) (x : Reads) → push_ok n x ≡ ((node_ok n x.held x.next && links_ok n x.head x.tail x.behind x.free) && x.agrees)
unfolding push_ok
push-parts n x =
    let same = meant (Bool·beq (eqb x.head 0) (eqb x.tail 0)) in
    let bits = meant x.agrees in
    let head = meant (leb x.head n) in
    let tail = meant (leb x.tail n) in
    let next = meant (leb x.next n) in
    let behind = meant (eqb x.behind 0) in
    let free = meant (not (eqb x.free x.tail)) in
    let last = meant (Bool·beq (eqb x.next 0) (eqb (x.held + 1) n)) in
    alike _ _ (means-and (means-and (means-and (means-and (means-and (means-and (means-and same bits) head) tail) next) behind) free) last)
    (means-by (means-and (means-and (means-and next last) (means-and (means-and (means-and (means-and same head) tail) behind) free)) bits)
    (λ y. (((((((y.0.1.0.0.0.0, y.1), y.0.1.0.0.0.1), y.0.1.0.0.1), y.0.0.0), y.0.1.0.1), y.0.1.1), y.0.0.1))
    (λ z. (((z.0.0.0.1, z.1), ((((z.0.0.0.0.0.0.0, z.0.0.0.0.0.1), z.0.0.0.0.1), z.0.0.1), z.0.1)), z.0.0.0.0.0.0.1)))

-- .. of a store: its node that is taken, a rank's links, and its bits
abbrev of_node : Lay → ℕ → List ℕ → Bool
of_node k used w = node_ok k.nodes used (next_of k w (word w k.free))

abbrev of_bits : Lay → List ℕ → List ℕ → ℕ → Bool
of_bits k b w r = rank_agrees k b r (eqb (word w (head_at k r)) 0)

room-parts : (k : Lay) (used : ℕ) (b w : List ℕ) (r : ℕ) → (room_with k used b w r).good ≡ ((of_node k used w && links_in k w r) && of_bits k b w r)
unfolding room_with
room-parts k used b w r = push-parts k.nodes (reads_of k used b w r)

-- one part that does not hold
last-no : (s t : Bool) → t ≡ false → (s && t) ≡ false
last-no true t e = e
last-no false t e = refl

part_no : (s t u : Bool) → t ≡ false → ((s && t) && u) ≡ false
part_no s t u e = ap (λ (x : Bool). x && u) (last-no s t e)

-- what the bits say, read without a pop
pub agreed-now : (k : Lay) (b : List ℕ) (gone : ℕ) (empty : Bool) (r : ℕ) (top : Option ℕ) → Agreed b k.bits k.storeys false gone empty r top → is_some top ≡ rank_agrees k b r empty
unfolding rank_agrees
agreed-now k b gone empty r None a = sym a
agreed-now k b gone empty r (Some top) a = sym a.0

module _ (k : Lay) (used : ℕ) (w : List ℕ) (r free next : ℕ) (ef : free ≡ word w k.free) (en : next ≡ next_of k w free) where
  next-is : next ≡ next_of k w (word w k.free)
  next-is = en ∙ ap (next_of k w) ef

  -- of the node that is taken
  node-is : node_ok k.nodes used next ≡ of_node k used w
  node-is = λ i. node_ok k.nodes used (next-is i)

  pub room-nodeless : (s : Bool) → s ≡ node_ok k.nodes used next → s ≡ false → join_ok k used w r ≡ false
  room-nodeless s p z = ap (λ (t : Bool). t && links_in k w r) (sym node-is ∙ sym p ∙ z)

  module _ (s : Bool) (p : s ≡ node_ok k.nodes used next) (z : s ≡ true) (head tail : ℕ) (ed : head ≡ word w (head_at k r)) (et : tail ≡ word w (tail_at k r)) (u : Bool) (q : u ≡ links_ok k.nodes head tail (next_of k w tail) free) where
    joins-is : join_ok k used w r ≡ u
    joins-is = ap (λ (t : Bool). t && links_in k w r) (sym node-is ∙ sym p ∙ z) ∙ sym (q ∙ (λ i. links_ok k.nodes (ed i) (et i) (next_of k w (et i)) (ef i)))

    pub room-unlinked : u ≡ false → join_ok k used w r ≡ false
    room-unlinked e = joins-is ∙ e

    pub room-linked : u ≡ true → FoundLinks k w r (join_ok k used w r) (Some (record { tail = tail; next = next }))
    room-linked e = (joins-is ∙ e, record { tail = et; next = next-is })

-- a bucket is empty where its tail is none
empty-is : (k : Lay) (w : List ℕ) (r : ℕ) → links_in k w r ≡ true → eqb (word w (tail_at k r)) 0 ≡ eqb (word w (head_at k r)) 0
empty-is k w r e =
    let f = ((links-mean k.nodes (word w (head_at k r)) (word w (tail_at k r)) (next_of k w (word w (tail_at k r))) (word w k.free)).says e).0.0.0.0 in
    alike _ _ (means-eqb (word w (tail_at k r)) 0) (means-by (means-eqb (word w (head_at k r)) 0) f.to f.from)

-- no bucket is found where the links fail their tests
pub room-none : (k : Lay) (b w : List ℕ) (r used : ℕ) → join_ok k used w r ≡ false → (room_with k used b w r).good ≡ false
room-none k b w r used e = room-parts k used b w r ∙ ap (λ (t : Bool). t && of_bits k b w r) e

-- links and bits together
module _ (k : Lay) (b w : List ℕ) (r : ℕ) (to : Spot) where
  -- where the links are good, the bits are looked at for the same emptiness
  bits-too : to.tail ≡ word w (tail_at k r) → links_in k w r ≡ true → rank_agrees k b r (eqb to.tail 0) ≡ rank_agrees k b r (eqb (word w (head_at k r)) 0)
  bits-too e l = ap (λ (t : Bool). rank_agrees k b r t) (ap (λ (x : ℕ). eqb x 0) e ∙ empty-is k w r l)

  pub room-found : (used : ℕ) → FoundLinks k w r (join_ok k used w r) (Some to) → (a : Bool) → a ≡ rank_agrees k b r (eqb to.tail 0) → FoundRoom a (found_room to) (room_with k used b w r)
  unfolding room_with
  room-found used f a e = record { good = same; is = λ x. (λ i. record { good = (sym x ∙ same) i; tail = f.1.tail i; next = f.1.next i }) }
    where
      same : a ≡ (room_with k used b w r).good
      same = (λ i. sym f.0 i && (e ∙ bits-too f.1.tail (and_right (of_node k used w) (links_in k w r) f.0)) i) ∙ sym (room-parts k used b w r)

-- one is held, and after a pop none
one_left : (h : ℕ) → 1 ≤ h → eqb (h - 1) 0 ≡ eqb h 1
one_left h l = elim (ℕ_discrete h 1) [ yes e ↦ rw (eq-eqb h 1 e, eq-eqb (h - 1) 0 (omega arith)) refl | no e ↦ rw (ne_eqb h 1 e, ne_eqb (h - 1) 0 (λ p. omega arith)) refl ]

-- what the tests of a bucket to join stand for, as after a pop
pub freed-means : (k : Lay) (b w : List ℕ) (r : ℕ) → Means (room_freed k b w r).good
    ((Iff (word b k.bits ≡ 0) (word w k.held ≡ 0)
    × ((((Iff (word w (head_at k r) ≡ 0) (word w (tail_at k r) ≡ 0) × (word w (head_at k r) ≤ k.nodes)) × (word w (tail_at k r) ≤ k.nodes)) × (next_of k w (word w (tail_at k r)) ≡ 0)) × (word w k.free ≡ word w (tail_at k r) → ⊥)))
    × Agrees b (storeys_at k) r (word w (head_at k r) ≡ 0))
unfolding room_freed rank_agrees
freed-means k b w r =
    means-and
    (means-and (means-beq (means-eqb (word b k.bits) 0) (means-eqb (word w k.held) 0)) (links-mean k.nodes (word w (head_at k r)) (word w (tail_at k r)) (next_of k w (word w (tail_at k r))) (word w k.free)))
    (agree-means b (storeys_at k) r (eqb (word w (head_at k r)) 0) (word w (head_at k r) ≡ 0) (means-eqb (word w (head_at k r)) 0))

-- a bucket to join on a store whose whole tests come down to the top word's, and where the node to be taken passes its own
pub freed-is : (k : Lay) (used : ℕ) (b w : List ℕ) (r : ℕ) (whole : Bool) → whole ≡ Bool·beq (eqb (word b k.bits) 0) (eqb (word w k.held) 0) → node_ok k.nodes used (next_of k w (word w k.free)) ≡ true
    → ◌≡◌ {A = Room} (room_freed k b w r) (record { good = whole && (room_with k used b w r).good; tail = (room_with k used b w r).tail; next = (room_with k used b w r).next })
unfolding room_freed room_with
freed-is k used b w r whole t n =
    let all : (whole && (room_with k used b w r).good) ≡ (whole && (links_in k w r && of_bits k b w r)) = ap (λ (x : Bool). whole && x) (room-parts k used b w r ∙ (λ i. (n i && links_in k w r) && of_bits k b w r)) in
    let g : (room_freed k b w r).good ≡ (whole && (room_with k used b w r).good) = and_assoc (Bool·beq (eqb (word b k.bits) 0) (eqb (word w k.held) 0)) (links_in k w r) (of_bits k b w r) ∙ (λ i. sym t i && (links_in k w r && of_bits k b w r)) ∙ sym all in
    λ i. record { good = g i; tail = word w (tail_at k r); next = next_of k w (word w k.free) }

-- .. on the store as after a pop
module _ (k : Lay) (w : List ℕ) (low : Lowest) (t : Takable k w low) where
  lay : Laid k
  lay = t.node.fits.laid

  abbrev long : store_words k ≤ length w
  long = t.node.fits.words

  free-is : word (taken_words k w low) k.free ≡ low.head
  free-is = free-after k lay w low long

  held-is : word (taken_words k w low) k.held ≡ word w k.held - 1
  held-is = held_after k lay w low long

  freed-next : next_of k (taken_words k w low) low.head ≡ word w k.free
  freed-next = next-own k lay w low long t.rank< t.node.some t.node.high

  -- the freed node passes its tests, where as many nodes are in use as the free link says
  pub node-after : (used : ℕ) → 1 ≤ used → word w k.free ≤ k.nodes → Iff (word w k.free ≡ 0) (used ≡ k.nodes) → node_ok k.nodes (used - 1) (next_of k (taken_words k w low) (word (taken_words k w low) k.free)) ≡ true
  node-after used some free≤ full =
      let e : used - 1 + 1 ≡ used = omega arith in
      rw (free-is, freed-next, e) ((means-and (means-leb (word w k.free) k.nodes) (means-beq (means-eqb (word w k.free) 0) (means-eqb used k.nodes))).holds (free≤, full))

  module _ (r head tail : ℕ) (ed : head ≡ word (taken_words k w low) (head_at k r)) (et : tail ≡ word (taken_words k w low) (tail_at k r)) where
    -- the tail's next is today's, where the tail is not the freed node
    links-after : links_ok k.nodes head tail (next_of k w tail) low.head ≡ links_ok k.nodes head tail (next_of k (taken_words k w low) tail) low.head
    links-after = elim (ℕ_discrete tail low.head) [ yes e ↦ freed e | no e ↦ ap (λ (x : ℕ). links_ok k.nodes head tail x low.head) (sym (next-else k lay w low long t.rank< t.node.some t.node.high tail e)) ]
      where
        taken : tail ≡ low.head → not (eqb low.head tail) ≡ false
        taken e = ap not (eq-eqb low.head tail (sym e))

        freed : tail ≡ low.head → links_ok k.nodes head tail (next_of k w tail) low.head ≡ links_ok k.nodes head tail (next_of k (taken_words k w low) tail) low.head
        freed e =
            let rest : ℕ → Bool = λ x. Bool·beq (eqb head 0) (eqb tail 0) && leb head k.nodes && leb tail k.nodes && eqb x 0 in
            last-no (rest (next_of k w tail)) (not (eqb low.head tail)) (taken e) ∙ sym (last-no (rest (next_of k (taken_words k w low) tail)) (not (eqb low.head tail)) (taken e))

    module _ (u : Bool) (next : ℕ) (q : u ≡ links_ok k.nodes head tail (next_of k w tail) low.head) where
      links-then : links_in k (taken_words k w low) r ≡ u
      links-then = sym (q ∙ links-after ∙ (λ i. links_ok k.nodes (ed i) (et i) (next_of k (taken_words k w low) (et i)) (sym free-is i)))

      pub room-after-shut : u ≡ false → links_in k (taken_words k w low) r ≡ false
      room-after-shut e = links-then ∙ e

      pub room-after-is : u ≡ true → next ≡ word w k.free → FoundLinks k (taken_words k w low) r (links_in k (taken_words k w low) r) (Some (record { tail = tail; next = next }))
      room-after-is e en = (links-then ∙ e, record { tail = et; next = en ∙ sym freed-next ∙ ap (next_of k (taken_words k w low)) (sym free-is) })

-- what the bits say, once a pop has cleared its own
module _ (k : Lay) (b : List ℕ) (low : Lowest) (r : ℕ) (empty : Bool) (held : ℕ) where
  abbrev says : Bool
  says = rank_agrees k (taken_bits k b low) r empty && Bool·beq (eqb (word (taken_bits k b low) k.bits) 0) (eqb held 1)

  pub agreed-not : Agreed b k.bits k.storeys (eqb low.next 0) low.rank empty r None → false ≡ says
  unfolding rank_agrees taken_bits signalled
  agreed-not a = rw a refl

  pub agreed-then : (top : ℕ) → Agreed b k.bits k.storeys (eqb low.next 0) low.rank empty r (Some top) → Bool·beq (eqb top 0) (eqb held 1) ≡ says
  unfolding rank_agrees taken_bits signalled
  agreed-then top a = λ i. sym a.0 i && Bool·beq (eqb (a.1 i) 0) (eqb held 1)

-- links and bits together, and the top word
module _ (k : Lay) (b w : List ℕ) (low : Lowest) (t : Takable k w low) (r : ℕ) where
  abbrev B : List ℕ
  B = taken_bits k b low

  abbrev W : List ℕ
  W = taken_words k w low

  pub freed-none : links_in k W r ≡ false → (room_freed k B W r).good ≡ false
  unfolding room_freed
  freed-none e = part_no (Bool·beq (eqb (word B k.bits) 0) (eqb (word W k.held) 0)) (links_in k W r) (rank_agrees k B r (eqb (word W (head_at k r)) 0)) e

  pub freed-unfound : links_in k W r ≡ false → FoundRoom false (room_freed k B W r) (room_freed k B W r)
  freed-unfound e = record { good = sym (freed-none e); is = λ x. absurd (false≢true x) }

  pub freed-found : (to : Spot) → FoundLinks k W r (links_in k W r) (Some to) → (a : Bool) (held : ℕ) → held ≡ word w k.held
      → a ≡ (rank_agrees k B r (eqb to.tail 0) && Bool·beq (eqb (word B k.bits) 0) (eqb held 1)) → FoundRoom a (found_room to) (room_freed k B W r)
  unfolding room_freed
  freed-found to f a held eh e = record { good = same; is = λ x. (λ i. record { good = (sym x ∙ same) i; tail = f.1.tail i; next = f.1.next i }) }
    where
      top-after : Bool·beq (eqb (word B k.bits) 0) (eqb held 1) ≡ Bool·beq (eqb (word B k.bits) 0) (eqb (word W k.held) 0)
      top-after = ap (λ (x : Bool). Bool·beq (eqb (word B k.bits) 0) x) (ap (λ (x : ℕ). eqb x 1) eh ∙ sym (ap (λ (x : ℕ). eqb x 0) (held-is k w low t) ∙ one_left (word w k.held) t.held>))

      turn : (x y : Bool) → (y && x) ≡ ((x && true) && y)
      turn true true = refl
      turn true false = refl
      turn false true = refl
      turn false false = refl

      same : a ≡ ((Bool·beq (eqb (word B k.bits) 0) (eqb (word W k.held) 0) && links_in k W r) && rank_agrees k B r (eqb (word W (head_at k r)) 0))
      same =
          e
          ∙ (λ i. bits-too k B W r to f.1.tail f.0 i && top-after i)
          ∙ turn (Bool·beq (eqb (word B k.bits) 0) (eqb (word W k.held) 0)) (rank_agrees k B r (eqb (word W (head_at k r)) 0))
          ∙ ap (λ (x : Bool). (Bool·beq (eqb (word B k.bits) 0) (eqb (word W k.held) 0) && x) && rank_agrees k B r (eqb (word W (head_at k r)) 0)) (sym f.0)

-- a queue that has the pool to itself: of its tests only the top word's can fail
module _ (k : Lay) (b w : List ℕ) (low : Lowest) (f : Freeing k b w low) (r : ℕ) (h : Whole k b w) where
  whole-after : is_whole k (taken_bits k b low) (taken_words k w low) ≡ Bool·beq (eqb (word (taken_bits k b low) k.bits) 0) (eqb (word (taken_words k w low) k.held) 0)
  unfolding whole_ok
  whole-after =
      let t = f.takable in
      let n = k.nodes in
      let held = word w k.held in
      rw (free-is k w low t, held-is k w low t)
      (simp (le-leb low.head n t.node.high, le-leb (held - 1) n (omega (arith, h.held≤)), ne_eqb low.head 0 (λ p. omega (arith, t.node.some)), ne_eqb (held - 1) n (λ p. omega (arith, h.held≤, t.held>))))

  pub after_is : room_freed k (taken_bits k b low) (taken_words k w low) r ≡ room_after k (taken_bits k b low) (taken_words k w low) r
  unfolding room_after
  after_is =
      freed-is k (word (taken_words k w low) k.held) (taken_bits k b low) (taken_words k w low) r (is_whole k (taken_bits k b low) (taken_words k w low)) whole-after
      (ap (λ (x : ℕ). of_node k x (taken_words k w low)) (held-is k w low f.takable) ∙ node-after k w low f.takable (word w k.held) f.takable.held> h.free≤ h.full)
