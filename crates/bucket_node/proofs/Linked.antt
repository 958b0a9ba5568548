-- What each function writes, from what it has read.
use Rattle.laws.specs.Prelude.{Element, List, [], ◌++◌, ◌+◌, ◌-◌, ◌∷◌, ◌≡◌, refl, sym, ℕ}
use Rattle.bucket_model.specs.declared.Lay.{Lay}
use Rattle.bucket_model.specs.Calls.{Lowest}
use Rattle.bucket_model.specs.Calls.{Room}
use Rattle.bucket_model.specs.Prelude.{head_at, joined_words, link_at, load_of, load_writes, next_at, no_load, tail_at, tail_left, taken_words, word, write}
use Rattle.bucket_model.proofs.Laws.{swapped}
use Rattle.bucket_node.specs.Places.{Swappable}

-- the words written are those of the rule
pub taken_is : (k : Lay) (w : List ℕ) (low : Lowest) (tail : ℕ) → tail ≡ tail_left low.next low.tail
    → write w ((head_at k low.rank, low.next) ∷ (tail_at k low.rank, tail) ∷ (load_writes k.stem low.head no_load ++ (next_at k low.head, word w k.free) ∷ (k.free, low.head) ∷ (k.held, word w k.held - 1) ∷ [])) ≡ taken_words k w low
unfolding taken_words
taken_is k w low tail e = rw e refl

pub swapped-is : (k : Lay) (w : List ℕ) (low : Lowest) (e : Element) (to : Room) (left link : ℕ) → Swappable k w low e.rank.0 to → left ≡ tail_left low.next low.tail → link ≡ link_at k e.rank.0 to.tail
    → write w ((head_at k low.rank, low.next) ∷ (tail_at k low.rank, left) ∷ (load_writes k.stem low.head (load_of e) ++ (next_at k low.head, 0) ∷ (link, low.head) ∷ (tail_at k e.rank.0, low.head) ∷ []))
    ≡ joined_words k (taken_words k w low) e to
swapped-is k w low e to left link s p q =
    let f = s.node.fits in
    rw (p, q) (sym (swapped k f.laid w low e to f.words s.held> s.node.high s.from< s.rank< s.tail≤ s.next))

pub joined_is : (k : Lay) (w : List ℕ) (e : Element) (to : Room) (link : ℕ) → link ≡ link_at k e.rank.0 to.tail
    → write w ((k.free, to.next) ∷ (load_writes k.stem (word w k.free) (load_of e) ++ (next_at k (word w k.free), 0) ∷ (link, word w k.free) ∷ (tail_at k e.rank.0, word w k.free) ∷ (k.held, word w k.held + 1) ∷ [])) ≡ joined_words k w e to
unfolding joined_words
joined_is k w e to link p = rw p refl
