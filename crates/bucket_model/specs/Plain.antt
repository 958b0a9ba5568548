-- The plain queue, one list in leaving order, and lists of calls on it and on the words. These are definitions.
use Rattle.std.specs.Prelude.{◌++◌, ◌+◌, ◌∷◌, ◌≡◌, ◌≤◌}
use Rattle.laws.specs.Prelude.{All, Answer, BadRank, Bool, Element, Empty, Full, Idle, List, NoTag, Pop, Push, Replace, Request, [], cond, count_number, element_of, eqb, length, ltb, not, number_of, replicate, suc, untagged, zero, ℕ, Result, Refusal, Ok, None, Some, Err}
use Rattle.bucket_model.specs.Layout.{Lay, bit_words, store_words, word, head_at, tail_at, next_in, Load, load_in, loaded}
use Rattle.bucket_model.specs.Calls.{Outcome, outcome, cleared, pushed, popped, replaced, held_count}
use Rattle.bucket_model.specs.Causes.{Shaped}

-- ---- calls, and what they say

pub data Call : Type 0 where
  ask : Request → Call
  held : Call

pub data Said : Type 0 where
  answered : Answer → Said
  counted : Result ℕ Refusal → Said

-- what a call says, and the state after it
pub record Step (A : Type 0) : Type 0 where
  pub said : Said
  pub next : A

abbrev pub step : {A : Type 0} → Said → A → Step A
step s x = record { said = s; next = x }

-- ---- on the words

pub record Store : Type 0 where
  pub bits : List ℕ
  pub words : List ℕ

abbrev pub store : List ℕ → List ℕ → Store
store b w = record { bits = b; words = w }

-- asking for nothing leaves everything
unfoldable pub asked : Lay → Request → Store → Outcome
asked k Idle s = outcome (Ok None) s.bits s.words
asked k (Push e) s = pushed k s.bits s.words e
asked k Pop s = popped k s.bits s.words
asked k (Replace e) s = replaced k s.bits s.words e

unfoldable pub called : Lay → Call → Store → Step Store
called k (ask q) s = let o = asked k q s in step (answered o.answer) (store o.bits o.words)
called k held s = step (counted (held_count k s.bits s.words)) s

-- what a list of calls says, and what it leaves
unfoldable pub says : Lay → List Call → Store → List Said
says k [] s = []
says k (c ∷ cs) s = let x = called k c s in x.said ∷ says k cs x.next

unfoldable pub after : Lay → List Call → Store → Store
after k [] s = s
after k (c ∷ cs) s = after k cs (called k c s).next

-- the store that clear leaves
abbrev pub start : Lay → List ℕ → List ℕ → Store
start k b w = store (cleared k b w).bits (cleared k b w).words

-- a store that a queue's own calls lead to: cleared on slices long enough, whatever was in them, and then any calls
pub record Reached (k : Lay) (s : Store) : Type 0 where
  pub bits : List ℕ
  pub words : List ℕ
  pub shaped : Shaped k bits words
  pub calls : List Call
  pub is : s ≡ after k calls (start k bits words)

-- ---- on the plain list

-- "Lower rank leaves first", and of equal ranks the one that came first: a newcomer stands behind all of its rank or a lower one
abbrev pub insert : Element → List Element → List Element
insert e [] = e ∷ []
insert e (x ∷ xs) = cond (ltb e.rank.0 x.rank.0) (e ∷ x ∷ xs) (x ∷ insert e xs)

abbrev pub plain_pop : List Element → Step (List Element)
plain_pop [] = step (answered (Err Empty)) []
plain_pop (x ∷ l) = step (answered (Ok (Some x))) l

-- "a replace is a pop and then a push": the first is answered, "even if the new rank is lower", and then the newcomer goes in
abbrev pub plain_replace : Element → List Element → Step (List Element)
plain_replace e [] = step (answered (Err Empty)) []
plain_replace e (x ∷ l) = step (answered (Ok (Some x))) (insert e l)

-- only ranks that there are
abbrev pub ranked : ℕ → Element → List Element → Step (List Element) → Step (List Element)
ranked ranks e l x = cond (ltb e.rank.0 ranks) x (step (answered (Err BadRank)) l)

-- only elements that have a tag
abbrev pub tagged : Element → List Element → Step (List Element) → Step (List Element)
tagged e l x = cond (not (untagged e)) x (step (answered (Err NoTag)) l)

-- only while there is room
abbrev pub roomy : Bool → List Element → Step (List Element) → Step (List Element)
roomy room l x = cond room x (step (answered (Err Full)) l)

-- so many ranks, and whether there is room for one more
unfoldable pub plain_with : ℕ → Bool → Call → List Element → Step (List Element)
plain_with ranks room (ask Idle) l = step (answered (Ok None)) l
plain_with ranks room (ask (Push e)) l = ranked ranks e l (tagged e l (roomy room l (step (answered (Ok None)) (insert e l))))
plain_with ranks room (ask Pop) l = plain_pop l
plain_with ranks room (ask (Replace e)) l = ranked ranks e l (tagged e l (plain_replace e l))
plain_with ranks room held l = step (counted (Ok (length l))) l

-- .. while fewer are held than there are nodes
abbrev pub plain : Lay → Call → List Element → Step (List Element)
plain k c l = plain_with k.ranks (ltb (length l) k.nodes) c l

unfoldable pub plain_says : Lay → List Call → List Element → List Said
plain_says k [] l = []
plain_says k (c ∷ cs) l = let x = plain k c l in x.said ∷ plain_says k cs x.next

unfoldable pub plain_after : Lay → List Call → List Element → List Element
plain_after k [] l = l
plain_after k (c ∷ cs) l = plain_after k cs (plain k c l).next

-- ---- what a store holds

-- the loads of the chain from link l on, at most i of them
unfoldable pub walk : ℕ → List ℕ → ℕ → ℕ → List Load
walk stem w zero l = []
walk stem w (suc i) zero = []
walk stem w (suc i) (suc l) = load_in stem w (suc l) ∷ walk stem w i (word w (next_in stem (suc l)))

-- a rank's loads, from its head
abbrev pub lane : Lay → List ℕ → ℕ → List Load
lane k w r = walk k.stem w k.nodes (word w (head_at k r))

-- loads as elements of rank r
abbrev pub elements : ℕ → List Load → List Element
elements r [] = []
elements r (t ∷ ts) = loaded r t ∷ elements r ts

-- n ranks from i on, one behind the other
unfoldable pub in_order : (ℕ → List Load) → ℕ → ℕ → List Element
in_order m i zero = []
in_order m i (suc n) = elements i (m i) ++ in_order m (suc i) n

-- all that the store holds, by ascending rank, each rank from its head
unfoldable pub stored : Lay → List ℕ → List Element
stored k w = in_order (lane k w) 0 k.ranks

-- ---- what goes in and out, by the number of an answer: 0 is no refusal

abbrev pub if_done : ℕ → Element → List Element
if_done zero e = e ∷ []
if_done (suc n) e = []

-- what a request has brought in
abbrev pub brings : Request → Answer → List Element
brings Idle a = []
brings (Push e) a = if_done (number_of a) e
brings Pop a = []
brings (Replace e) a = if_done (number_of a) e

-- .. and what it has given out: a pop and a replace the answer's rank, tag and length
abbrev pub gives : Request → Answer → List Element
gives Idle a = []
gives (Push e) a = []
gives Pop a = if_done (number_of a) (element_of a)
gives (Replace e) a = if_done (number_of a) (element_of a)

abbrev pub came : Call → Said → List Element
came (ask q) (answered a) = brings q a
came (ask q) (counted c) = []
came held s = []

abbrev pub went : Call → Said → List Element
went (ask q) (answered a) = gives q a
went (ask q) (counted c) = []
went held s = []

-- .. over a list of calls, by what was said to them
unfoldable pub brought : List Call → List Said → List Element
brought [] ss = []
brought (c ∷ cs) [] = []
brought (c ∷ cs) (s ∷ ss) = came c s ++ brought cs ss

unfoldable pub gone : List Call → List Said → List Element
gone [] ss = []
gone (c ∷ cs) [] = []
gone (c ∷ cs) (s ∷ ss) = went c s ++ gone cs ss

-- the elements of a rank, in their order
unfoldable pub of_rank : ℕ → List Element → List Element
of_rank r [] = []
of_rank r (x ∷ xs) = cond (eqb x.rank.0 r) (x ∷ of_rank r xs) (of_rank r xs)

-- how many of a list pass a test
unfoldable pub times : (Element → Bool) → List Element → ℕ
times f [] = 0
times f (x ∷ xs) = cond (f x) 1 0 + times f xs

-- in leaving order: no rank is below an earlier one
abbrev pub Sorted : List Element → Type 0
Sorted [] = Unit {0}
Sorted (x ∷ l) = All (λ y. x.rank.0 ≤ y.rank.0) l × Sorted l

-- ---- what a pop gives, and what becomes of its room

-- what a pop gives is the first of all that is held, and nothing held has a lower rank
pub record FirstOut (k : Lay) (s : Store) (x : Element) : Type 0 where
  pub first : stored k s.words ≡ x ∷ stored k (asked k Pop s).words
  pub lowest : All (λ y. x.rank.0 ≤ y.rank.0) (stored k s.words)

-- "The freed node .. becomes first in the free chain, so freed room is used at once": after a pop that gives x, the free link names the node that held x; a push of any rank that there is is taken then, even where the pool was full, and that node is the tail of its bucket
pub record Reused (k : Lay) (s t : Store) (x e : Element) : Type 0 where
  pub free : word t.words k.free ≡ word s.words (head_at k x.rank.0)
  pub taken : (asked k (Push e) t).answer ≡ Ok None
  pub node : word (asked k (Push e) t).words (tail_at k e.rank.0) ≡ word s.words (head_at k x.rank.0)

-- ---- a run to read off

-- the paper's number of what was said
abbrev pub said_number : Said → ℕ
said_number (answered a) = number_of a
said_number (counted c) = count_number c

unfoldable pub answers_from : Lay → List Request → Store → List Answer
answers_from k [] s = []
answers_from k (q ∷ qs) s = let o = asked k q s in o.answer ∷ answers_from k qs (store o.bits o.words)

-- what a list of requests is answered from a cleared queue
unfoldable pub bucket_answers : Lay → List Request → List Answer
bucket_answers k qs = answers_from k qs (start k (replicate (bit_words k) 0) (replicate (store_words k) 0))
