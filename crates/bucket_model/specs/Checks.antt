-- What a call tests, as computed yes or no. Causes.antt says the same in facts. These are definitions.
use Rattle.std.specs.Prelude.{◌&&◌, ◌+◌}
use Rattle.laws.specs.Prelude.{Bool, Bool·beq, List, cond, eqb, leb, ltb, not, ℕ}
use Rattle.bucket_model.specs.Layout.{Lay, pool, least_storeys, most_storeys, bit_words, word, next_at}
pub use Rattle.bucket_model.specs.declared.Reads.{Reads}

-- two storeys, or three
abbrev pub depth_ok : ℕ → Bool
depth_ok d = leb least_storeys d && leb d most_storeys

-- "N or a slice length outside the above", or another depth
unfoldable pub shape_ok : Lay → ℕ → ℕ → Bool
shape_ok k bits words = depth_ok k.storeys && leb 1 k.nodes && leb k.nodes pool && leb (bit_words k) bits && ltb k.held words

-- "held or the free link exceeds N, or one of a pair holds without the other: free link 0 and held = N; top word 0 and held 0"
unfoldable pub whole_ok : ℕ → ℕ → ℕ → ℕ → Bool
whole_ok top free held n =
    leb free n && leb held n && Bool·beq (eqb free 0) (eqb held n) && Bool·beq (eqb top 0) (eqb held 0)

-- the next of the node that link l names; 0 where l names none of the nodes
unfoldable pub next_of : Lay → List ℕ → ℕ → ℕ
next_of k w l = cond (eqb l 0) 0 (cond (ltb k.nodes l) 0 (word w (next_at k l)))

-- "head, tail and the rank's bit must agree on emptiness; .. no link read may exceed N; a tail's next must be 0; on a pop, the head's next is 0 exactly if head equals tail". The rank's bit is set: the pop has found it. next is the head's, behind the tail's
unfoldable pub pop_ok : ℕ → ℕ → ℕ → ℕ → ℕ → Bool
pop_ok n head tail next behind =
    not (eqb head 0) && not (eqb tail 0) && leb head n && leb tail n && leb next n && eqb behind 0
    && Bool·beq (eqb next 0) (eqb head tail)

-- .. and the bits on the way up; ".. on a push, the taken node is not the tail and its next is 0 exactly at held = N−1"
unfoldable pub push_ok : ℕ → Reads → Bool
push_ok n x =
    Bool·beq (eqb x.head 0) (eqb x.tail 0) && x.agrees
    && leb x.head n && leb x.tail n && leb x.next n && eqb x.behind 0 && not (eqb x.free x.tail)
    && Bool·beq (eqb x.next 0) (eqb (x.held + 1) n)
