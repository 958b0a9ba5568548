-- What a request brings in and gives out, in 01's numbers; what a queue then holds; which kind of answer it is, and that it has the lowest rank.
use Rattle.std.specs.Prelude.{◌&&◌, ◌+◌, ◌∷◌, ◌≡◌}
use Rattle.laws.specs.Prelude.{Answer, Bool, Element, Idle, List, Pop, Push, Replace, Request, [], arith, element_of, eqb, false, ltb, number_of, rank_of, refl, suc, sym, true, zero, ℕ, ◌∙◌, Ok, None, Some, Err}
use Rattle.promise.specs.Queue.{answers, leaves, Step}

-- ---- tests on elements. What a queue holds is said by how many of its elements pass, for every test
abbrev pub hit : Bool → ℕ
hit true = 1
hit false = 0

abbrev pub always : Element → Bool
always e = true

-- the test for one pair of rank and tag
abbrev pub same : Element → Element → Bool
same e x = eqb e.rank.0 x.rank.0 && eqb e.tag.0 x.tag.0

-- .. for one triple: "Demand 2's pairs become triples" (02 [9])
abbrev pub triple : Element → Element → Bool
triple e x = same e x && eqb e.length.0 x.length.0

-- .. and for the ranks below r
abbrev pub lower : ℕ → Element → Bool
lower r e = ltb e.rank.0 r

-- ---- what goes in and out, by the answer's number: 0 is no refusal
abbrev pub unrefused : ℕ → ℕ → ℕ
unrefused zero n = n
unrefused (suc k) n = 0

-- how many of the elements that a request brings in pass the test
abbrev pub brought : Request → Answer → (Element → Bool) → ℕ
brought Idle a f = 0
brought (Push x) a f = unrefused (number_of a) (hit (f x))
brought Pop a f = 0
brought (Replace x) a f = unrefused (number_of a) (hit (f x))

-- .. and of those that it gives out: a pop and a replace that are not refused give the answer's rank, tag and length
abbrev pub given : Request → Answer → (Element → Bool) → ℕ
given Idle a f = 0
given (Push x) a f = 0
given Pop a f = unrefused (number_of a) (hit (f (element_of a)))
given (Replace x) a f = unrefused (number_of a) (hit (f (element_of a)))

-- over a list of requests and what they are answered
unfoldable pub all_brought : List Request → List Answer → (Element → Bool) → ℕ
all_brought [] said f = 0
all_brought (r ∷ rs) [] f = 0
all_brought (r ∷ rs) (a ∷ said) f = brought r a f + all_brought rs said f

unfoldable pub all_given : List Request → List Answer → (Element → Bool) → ℕ
all_given [] said f = 0
all_given (r ∷ rs) [] f = 0
all_given (r ∷ rs) (a ∷ said) f = given r a f + all_given rs said f

-- HOLDS: "each queue holds exactly what went in and has not come out": of every kind of element as many are held
abbrev pub Holds : ((Element → Bool) → ℕ) → List Request → List Answer → Type 0
Holds held rs said = (f : Element → Bool) → held f + all_given rs said f ≡ all_brought rs said f

-- what is so of every request is so of a list of them: `Kept` is what the queue keeps, `held` what a state holds
module _ {S : Type 0} (queue : Request → S → Step Answer S) (Kept : S → Type 0) (keep : (r : Request) (s : S) → Kept s → Kept (queue r s).next)
    (held : S → (Element → Bool) → ℕ)
    (sum : (r : Request) (s : S) → Kept s → (f : Element → Bool) → held (queue r s).next f + given r (queue r s).said f ≡ held s f + brought r (queue r s).said f) where
  pub all-sum : (rs : List Request) (s : S) → Kept s → (f : Element → Bool)
      → held (leaves queue rs s) f + all_given rs (answers queue rs s) f ≡ held s f + all_brought rs (answers queue rs s) f
  unfolding leaves answers all_given all_brought
  all-sum [] s kept f = refl
  all-sum (r ∷ rs) s kept f = omega (arith, sum r s kept f, all-sum rs (queue r s).next (keep r s kept) f)

-- ---- the answer of a request that is not refused
-- KIND: a pop and a replace answer an element, a push and an idle cycle that they are done
abbrev pub IsOut : Answer → Type 0
IsOut (Ok None) = ⊥
IsOut (Ok (Some e)) = Unit {0}
IsOut (Err r) = ⊥

abbrev pub Kind : Request → Answer → Type 0
Kind Idle a = a ≡ Ok None
Kind (Push x) a = a ≡ Ok None
Kind Pop a = IsOut a
Kind (Replace x) a = IsOut a

-- LEAST: "what comes out has the lowest rank held", in a replace too: the newcomer is not yet in
abbrev pub Least : ((Element → Bool) → ℕ) → Request → Answer → Type 0
Least held Idle a = Unit {0}
Least held (Push x) a = Unit {0}
Least held Pop a = number_of a ≡ 0 → held (lower (rank_of a)) ≡ 0
Least held (Replace x) a = number_of a ≡ 0 → held (lower (rank_of a)) ≡ 0

pub least-same : (g h : (Element → Bool) → ℕ) → ((f : Element → Bool) → g f ≡ h f) → (r : Request) (a : Answer) → Least g r a → Least h r a
least-same g h p Idle a l = tt
least-same g h p (Push x) a l = tt
least-same g h p Pop a l = λ e. sym (p (lower (rank_of a))) ∙ l e
least-same g h p (Replace x) a l = λ e. sym (p (lower (rank_of a))) ∙ l e
