-- The calls of a queue that does one operation at a time, once for every such queue: what it has to bring (`Queue`), and from that push, pop and replace
-- (`called`), clear (`cleared`), held (`held_count`), their tables of refusals, and what is said of a list of requests.
use Rattle.std.specs.Prelude.{◌+◌, ◌<◌, ◌∷◌, ◌≡◌, ◌≤◌, ◌⊎◌}
use Rattle.laws.specs.Prelude.{Answer, Bool, Damaged, Element, Empty, Full, Idle, Ladder, NoTag, Pop, Push, Refusal, Replace, Request, [], cond, eqb, false, fine, ltb, number_of, stop, untagged, ℕ, Result, Ok, Err, None, Some}
use Rattle.promise.specs.Queue.{leaves, step, Step}
use Rattle.promise.specs.Refused.{Untagged}
use Rattle.promise.specs.Served.{hit}
use Rattle.promise.specs.Table.{bars, decided, ends, ladder, stops, Table}

-- ---- what a request comes to where nothing is damaged: its answer, and the work that is to be done
pub record Ruling (W : Type 0) : Type 0 where
  pub answer : Answer
  pub op : W

abbrev pub ruling : {W : Type 0} → Answer → W → Ruling W
ruling a o = record { answer = a; op = o }

-- the answer of a request that is not refused, where e is the lowest held
abbrev pub grants : Request → Element → Answer
grants Idle e = Ok None
grants (Push x) e = Ok None
grants Pop e = Ok (Some e)
grants (Replace x) e = Ok (Some e)

-- ---- the last rungs of most tables: 7, then 5 or 6
-- "Push and replace with tag 0 are to be refused with a new number 7" (02 [1])
abbrev pub lacks_tag : Request → Bool
lacks_tag Idle = false
lacks_tag (Push x) = untagged x
lacks_tag Pop = false
lacks_tag (Replace x) = untagged x

-- "full: push, held = capacity"; "empty: pop, held = 0", and "an empty queue refuses replace with 6" (02 [4]). h are held, and there is room for c
abbrev pub limit_table : Request → ℕ → ℕ → Table
limit_table Idle h c = ends
limit_table (Push x) h c = bars Full (ltb h c) (h ≡ c) ends
limit_table Pop h c = stops Empty (eqb h 0) (h ≡ 0) ends
limit_table (Replace x) h c = stops Empty (eqb h 0) (h ≡ 0) ends

abbrev pub last_table : Request → ℕ → ℕ → Table
last_table r h c = stops NoTag (lacks_tag r) (Untagged r) (limit_table r h c)

-- what is so where they do not refuse
abbrev pub Fits : Request → ℕ → ℕ → Type 0
Fits Idle h c = Unit {0}
Fits (Push x) h c = h < c
Fits Pop h c = 0 < h
Fits (Replace x) h c = 0 < h

-- what a request comes to by a table
abbrev pub ruled : {W : Type 0} → (Request → W) → Table → Request → Element → Ruling W
ruled op a r e = decided (λ x. ruling (Err x) (op Idle)) a (ruling (grants r e) (op r))

-- what a request comes to, in the law's words, where c is the capacity, h are held and e is the lowest, and these are the four kinds of work: "Push puts at the
-- root, pop takes there". Replace: "an empty queue refuses replace with 6 .., and otherwise the lowest held element is answered, even if the new rank is lower,
-- and the new one is swapped in by the same swap rule": x's rank is not looked at. "Push and replace with tag 0 are to be refused", whatever is held
pub data Comes {W : Type 0} (none : W) (put : Element → W) (take : W) (swap : Element → W) (c h : ℕ) (e : Element) : Request → Ruling W → Type 0 where
  idles : Comes none put take swap c h e Idle (ruling (Ok None) none)
  no-tag : (r : Request) → Untagged r → Comes none put take swap c h e r (ruling (Err NoTag) none)
  puts : (x : Element) → (Untagged (Push x) → ⊥) → h < c → Comes none put take swap c h e (Push x) (ruling (Ok None) (put x))
  full : (x : Element) → (Untagged (Push x) → ⊥) → c ≤ h → Comes none put take swap c h e (Push x) (ruling (Err Full) none)
  takes : 0 < h → Comes none put take swap c h e Pop (ruling (Ok (Some e)) take)
  empty : h ≡ 0 → Comes none put take swap c h e Pop (ruling (Err Empty) none)
  swaps : (x : Element) → (Untagged (Replace x) → ⊥) → 0 < h → Comes none put take swap c h e (Replace x) (ruling (Ok (Some e)) (swap x))
  lacks : (x : Element) → (Untagged (Replace x) → ⊥) → h ≡ 0 → Comes none put take swap c h e (Replace x) (ruling (Err Empty) none)

-- ---- what a call answers, and the words afterwards
pub record Outcome (S : Type 0) : Type 0 where
  pub answer : Answer
  pub words : S

abbrev pub outcome : {S : Type 0} → Answer → S → Outcome S
outcome a s = record { answer = a; words = s }

-- a refused call leaves every word
abbrev pub left : {S : Type 0} → S → Refusal → Outcome S
left s x = outcome (Err x) s

-- ---- what a queue brings. S is what it is lent
pub record Queue (S : Type 0) : Type 1 where
  -- what every call asks first: the shape, and whether there is such a queue; clear may ask something else
  pub opening : S → Table
  pub clearing : S → Table
  -- what a request is asked before a word is read
  pub asked : Request → S → Table
  -- what every request reads, and the cause for which its test fails
  pub root_ok : S → Bool
  pub RootDamaged : S → Type 0
  -- from there: how many are held, the lowest, and what a request is asked then
  pub held : S → ℕ
  pub low : S → Element
  pub late : Request → S → Table
  -- the work of a request, what it reads, and what it writes
  pub Op : Type 0
  pub op : Request → Op
  pub way_ok : Op → S → Bool
  pub WayDamaged : Op → S → Type 0
  pub run : Op → S → S
  -- what clear writes
  pub wipe : S → S
  -- how many elements that pass the test stand in the store
  pub stored : S → (Element → Bool) → ℕ

module _ {S : Type 0} (q : Queue S) where
  -- ---- the calls
  abbrev pub rule_at : Request → S → Ruling q.Op
  rule_at r s = ruled q.op (q.late r s) r (q.low s)

  -- what a ruling does
  abbrev pub does : Ruling q.Op → S → Outcome S
  does g s = outcome g.answer (q.run g.op s)

  -- an operation tested whole, and done where nothing that it reads is damaged
  abbrev pub carried_out : Ruling q.Op → S → Outcome S
  carried_out g s = cond (q.way_ok g.op s) (does g s) (left s Damaged)

  -- push, pop and replace
  abbrev pub called : Request → S → Outcome S
  called r s = decided (left s) (q.opening s) (decided (left s) (q.asked r s) (cond (q.root_ok s) (carried_out (rule_at r s) s) (left s Damaged)))

  abbrev pub cleared : S → Outcome S
  cleared s = decided (left s) (q.clearing s) (outcome (Ok None) (q.wipe s))

  abbrev pub held_count : S → Result ℕ Refusal
  held_count s = decided Err (q.opening s) (cond (q.root_ok s) (Ok (q.held s)) (Err Damaged))

  -- ---- the tables of refusals
  -- the root, or the way of what the request comes to
  abbrev pub Damage : Request → S → Type 0
  Damage r s = q.RootDamaged s ⊎ q.WayDamaged (rule_at r s).op s

  abbrev pub refusals : Request → S → Ladder Refusal
  refusals r s = ladder (q.opening s) (ladder (q.asked r s) (stop Damaged (Damage r s) (ladder (q.late r s) fine)))

  abbrev pub clear_refusals : S → Ladder Refusal
  clear_refusals s = ladder (q.clearing s) fine

  abbrev pub held_refusals : S → Ladder Refusal
  held_refusals s = ladder (q.opening s) (stop Damaged (q.RootDamaged s) fine)

-- ---- the queue as a step function
abbrev pub stepping : {S : Type 0} → (Request → S → Outcome S) → Request → S → Step Answer S
stepping calls r s = step (calls r s).answer (calls r s).words

-- ---- REPLACE: "a replace is a pop and then a push" (02 [4]), of an x that has a tag, on the words s: of the pair the words may lie elsewhere, but what is answered
-- and what is held is the same.
-- calls are the queue's push, pop and replace, stored is what stands in the store
module _ {S : Type 0} (calls : Request → S → Outcome S) (stored : S → (Element → Bool) → ℕ) where
  pub record PopThenPush (x : Element) (s : S) : Type 0 where
    -- it is answered as a pop is there, refusals too ..
    pub answer : (calls (Replace x) s).answer ≡ (calls Pop s).answer
    -- .. and refused it leaves what the refused pop leaves
    pub refused : (number_of (calls (Replace x) s).answer ≡ 0 → ⊥) → calls (Replace x) s ≡ calls Pop s
    -- not refused, the push on what the pop leaves is taken ..
    pub taken : number_of (calls (Replace x) s).answer ≡ 0 → (calls (Push x) (calls Pop s).words).answer ≡ Ok None
    -- .. and of every kind of element as many are stored as after the pop and the push
    pub stores : number_of (calls (Replace x) s).answer ≡ 0 → (f : Element → Bool)
        → stored (calls (Replace x) s).words f ≡ stored (leaves (stepping calls) (Pop ∷ Push x ∷ []) s) f
    -- that is what was stored, less what is answered, and the newcomer
    pub swapped : (e : Element) → (calls (Replace x) s).answer ≡ Ok (Some e) → (f : Element → Bool) → stored (calls (Replace x) s).words f + hit (f e) ≡ stored s f + hit (f x)
