-- From what a call has tested to what its writes ask for.
use Rattle.std.specs.Prelude.{Some}
use Rattle.laws.specs.Prelude.{Bool, Element, Iff, List, ◌<◌, ◌^◌, ◌∙◌, ◌≡◌, ◌≤◌, ap, arith, cond, dec_lt, eqb, eqb-false, eqb-true, false, length, subst, sym, true, ℕ}
use Rattle.bucket_model.specs.declared.Bucket.{Bucket}
use Rattle.bucket_model.specs.declared.Lay.{Lay}
use Rattle.bucket_model.specs.Calls.{Lowest}
use Rattle.bucket_model.specs.Calls.{Room}
use Rattle.bucket_model.specs.Prelude.{Agrees, edit, found_low, head_at, joined_bits, lowest_of, lowest_rank, signalled, most_storeys, next_of, room_with, storeys_at, tail_at, taken_bits, taken_words, word}
use Rattle.bucket_model.proofs.Laws.{free-after, join-means, low-is, next-own, pop-means, pop-way, taken-bits-length}
use Rattle.bucket_bits.specs.Climbs.{Tall, Switchable, Signalling}
use Rattle.bucket_bits.proofs.Up.{agreed-switchable, agreed-stays, switchable-stays}
use Rattle.bucket_step.specs.Tested.{Stands, FoundLow, FoundRoom, Freeing, room_freed}
use Rattle.bucket_step.proofs.Read.{tall, fits, freed-means}
use Rattle.bucket_step.specs.Stores.{Joining, Swapping, Showing}

-- no depth that there is has more ranks than a rank has room for
pub few : (k : Lay) (b w : List ℕ) → Stands k b w → k.ranks ≤ 4294967296
few k b w s = elim (dec_lt k.storeys most_storeys) [
  | yes m ↦ (let e : k.storeys ≡ 2 = omega (arith, s.shaped.two) in let r : k.ranks ≡ 4096 = s.laid.ranks ∙ ap (λ (d : ℕ). 64 ^ d) e in omega arith)
  | no m ↦ (let e : k.storeys ≡ 3 = omega (arith, s.shaped.three) in let r : k.ranks ≡ 262144 = s.laid.ranks ∙ ap (λ (d : ℕ). 64 ^ d) e in omega arith)
]

-- all storeys are there
pub all-tall : (k : Lay) (b w : List ℕ) → Stands k b w → Tall b k.bits k.storeys k.tower
all-tall k b w s = tall k b w s (few k b w s)

pub within : (k : Lay) (b w : List ℕ) (r : ℕ) → Stands k b w → r < k.ranks → r < 64 ^ k.storeys
within k b w r s l = omega (arith, s.laid.ranks)

module _ (k : Lay) (b w : List ℕ) where
  -- the lowest bucket can be taken from
  pub freeing : Stands k b w → (low : Bucket) → (word w k.held ≡ 0 → ⊥) → FoundLow k b w (Some low) → Freeing k b w (found_low low)
  freeing s low some f =
      let g : (lowest_of k b w).good ≡ true = sym (ap (λ (l : Lowest). l.good) f.is) in
      let t = (pop-means k b w).says g in
      let h : low.head ≡ word w (head_at k (lowest_rank k b)) = ap (λ (l : Lowest). l.head) (f.is ∙ low-is k b w (pop-way k b w g)) in
      record {
        stands = s;
        takable = record { node = record { fits = fits k b w s; some = omega (arith, t.head≢); high = omega (arith, t.head≤) }; rank< = f.rank<; held> = omega arith };
        set = f.set;
      }

  -- the bits of a bucket that passes its tests
  pub signals-of : (r tail : ℕ) → tail ≡ word w (tail_at k r) → Iff (word w (head_at k r) ≡ 0) (word w (tail_at k r) ≡ 0) → Agrees b (storeys_at k) r (word w (head_at k r) ≡ 0) → Signalling true (eqb tail 0) b (storeys_at k) r
  signals-of r tail e both bits =
      record {
        turns = λ z. agreed-switchable b (storeys_at k) r (word w (head_at k r) ≡ 0) bits (both.from (sym e ∙ eqb-true tail 0 z));
        stays = λ z. agreed-stays b (storeys_at k) r (word w (head_at k r) ≡ 0) bits (λ h. eqb-false tail 0 z (e ∙ both.to h));
      }

  -- a bucket that passes its tests can be joined, where a node is free
  pub joining : Stands k b w → (used r : ℕ) (good? : Bool) (to : Room) → 1 ≤ word w k.free → word w k.free ≤ k.nodes → word w k.held < k.nodes → r < k.ranks → FoundRoom good? to (room_with k used b w r) → good? ≡ true → Joining k b w r to.tail
  unfolding room_with
  joining s used r good? to some free≤ held< l f g =
      let p = (join-means k b w r used).says (sym f.good ∙ g) in
      let e : to.tail ≡ word w (tail_at k r) = ap (λ (x : Room). x.tail) (f.is g) in
      record {
        stands = s;
        joinable = record { node = record { fits = fits k b w s; some = some; high = free≤ }; rank< = l; tail≤ = omega (arith, p.tail≤); held< = held< };
        signals = signals-of r to.tail e p.both p.bits;
      }

-- .. and on the store as after the pop the freed node can join it
pub swapping : (k : Lay) (b w : List ℕ) (low : Lowest) (r : ℕ) (good? : Bool) (to : Room) → Freeing k b w low → r < k.ranks → FoundRoom good? to (room_freed k (taken_bits k b low) (taken_words k w low) r) → good? ≡ true → Swapping k b w low r to
unfolding room_freed
swapping k b w low r good? to f l e g =
    let B = taken_bits k b low in
    let W = taken_words k w low in
    let t = f.takable in
    let lay = f.stands.laid in
    let long = f.stands.shaped.words in
    let p = (freed-means k B W r).says (sym e.good ∙ g) in
    let tail : to.tail ≡ word W (tail_at k r) = ap (λ (x : Room). x.tail) (e.is g) in
    let next : to.next ≡ next_of k W (word W k.free) = ap (λ (x : Room). x.next) (e.is g) in
    record {
      frees = f;
      swappable =
          record {
            node = t.node;
            from< = t.rank<;
            held> = t.held>;
            rank< = l;
            tail≤ = omega (arith, p.0.1.0.0.1);
            next = next ∙ ap (next_of k W) (free-after k lay w low long) ∙ next-own k lay w low long t.rank< t.node.some t.node.high;
          };
      signals = signals-of k B W r to.tail tail p.0.1.0.0.0.0 p.1;
    }

-- the bits of the lowest bucket, where it is emptied
pub clears : (k : Lay) (b : List ℕ) (low : Lowest) → Switchable false b (storeys_at k) low.rank → Signalling false (eqb low.next 0) b (storeys_at k) low.rank
clears k b low t = record { turns = λ z. t; stays = λ z. switchable-stays b (storeys_at k) low.rank t }

-- the bits written
pub taken_is : (k : Lay) (b b' : List ℕ) (low : Lowest) → b' ≡ cond (eqb low.next 0) (edit false b (storeys_at k) low.rank) b → b' ≡ taken_bits k b low
unfolding taken_bits signalled
taken_is k b b' low e = e

pub joined_is : (k : Lay) (b b' : List ℕ) (e : Element) (to : Room) → b' ≡ cond (eqb to.tail 0) (edit true b (storeys_at k) e.rank.0) b → b' ≡ joined_bits k b e to
unfolding joined_bits signalled
joined_is k b b' e to p = p

-- .. and its bits can be set on those that the pop leaves
pub showing : (k : Lay) (b w : List ℕ) (low : Lowest) (r : ℕ) (to : Room) → Swapping k b w low r to → (b' : List ℕ) → b' ≡ taken_bits k b low → Showing k b' r to.tail
showing k b w low r to h b' e =
    let t = all-tall k b w h.frees.stands in
    let l : length b' ≡ length b = ap length e ∙ taken-bits-length k b low in
    record {
      tall = record { words = t.words; long = omega (arith, t.long); some = t.some; few = t.few };
      rank< = omega (arith, h.swappable.rank<, h.frees.stands.laid.ranks);
      signals = subst (λ (x : List ℕ). Signalling true (eqb to.tail 0) x (storeys_at k) r) (sym e) h.signals;
    }
