-- All that is promised of a queue, as two records: of its calls whatever the words (`Answers`), and from a cleared store over any list of requests
-- (`Promised`). A queue that shows `Tested` and `IsQueue` has both (`promise/proofs/Promised.antt`).
use Rattle.std.specs.Prelude.{◌+◌, ◌≡◌, ◌⊎◌}
use Rattle.laws.specs.Prelude.{Answer, Element, Exactly, List, Replace, Request, count_number, count_of, number_of, refusal_number, ℕ, Err}
use Rattle.promise.specs.Calls.{called, cleared, clear_refusals, Damage, held_count, held_refusals, left, Outcome, PopThenPush, Queue, refusals, stepping}
use Rattle.promise.specs.Queue.{answers, leaves}
use Rattle.promise.specs.Refused.{Untagged}
use Rattle.promise.specs.Served.{all_brought, all_given, always, Holds, Kind, Least, triple}
use Rattle.promise.specs.Table.{bars, Clear, ends, needs, stops, Table}
use Rattle.promise.specs.Tagged.{Barred, Tagged}

-- the number n is that of a refusal of the table
abbrev pub OneOf : Table → ℕ → Type 0
OneOf ends n = ⊥
OneOf (needs x t P l) n = (n ≡ refusal_number x) ⊎ OneOf l n
OneOf (stops x t D l) n = (n ≡ refusal_number x) ⊎ OneOf l n
OneOf (bars x t D l) n = (n ≡ refusal_number x) ⊎ OneOf l n

module _ {S : Type 0} (q : Queue S) where
  -- whatever the words: each refusal for its cause and for that alone, and what it leaves; the kind of an answer; no element without a tag; one outcome
  pub record Answers : Type 0 where
    pub exactly : (r : Request) (s : S) → Exactly (λ (o : Outcome S). number_of o.answer) (left s) (called q r s) (refusals q r s)
    pub exactly-clear : (s : S) → Exactly (λ (o : Outcome S). number_of o.answer) (left s) (cleared q s) (clear_refusals q s)
    pub exactly-held : (s : S) → Exactly count_number Err (held_count q s) (held_refusals q s)
    pub kind : (r : Request) (s : S) → number_of (called q r s).answer ≡ 0 → Kind r (called q r s).answer
    pub barred : (r : Request) (s : S) → Barred r (called q r s).answer

  -- the words that a list of requests leaves from a cleared store, whatever the words s were, and what it is answered
  abbrev pub after : List Request → S → S
  after rs s = leaves (stepping (called q)) rs (cleared q s).words

  abbrev pub spoken : List Request → S → List Answer
  spoken rs s = answers (stepping (called q)) rs (cleared q s).words

  pub record Promised (rs : List Request) (s : S) : Type 0 where
    -- it holds exactly what went in and has not come out, triple by triple, and nothing without a tag
    pub holds : Holds (q.stored (after rs s)) rs (spoken rs s)
    pub triples : (e : Element) → q.stored (after rs s) (triple e) + all_given rs (spoken rs s) (triple e) ≡ all_brought rs (spoken rs s) (triple e)
    pub tagged : Tagged (q.stored (after rs s)) rs (spoken rs s)
    -- what comes out has the lowest rank held
    pub least : (r : Request) → Least (q.stored (after rs s)) r (called q r (after rs s)).answer
    -- the shape is kept, nothing is damaged, and only the numbers of the other rungs are answered
    pub shape-kept : Clear (q.opening (after rs s))
    pub undamaged : (r : Request) → Clear (q.asked r (after rs s)) → Damage q r (after rs s) → ⊥
    pub numbers : (r : Request) → let n = number_of (called q r (after rs s)).answer in (n ≡ 0) ⊎ OneOf (q.asked r (after rs s)) n ⊎ OneOf (q.late r (after rs s)) n
    -- the call held counts
    pub held-says : (count_number (held_count q (after rs s)) ≡ 0) × (count_of (held_count q (after rs s)) ≡ q.stored (after rs s) always)

  -- "a replace is a pop and then a push", where no rung of its own refuses the replace
  abbrev pub Replaces : List Request → S → Type 0
  Replaces rs s = (x : Element) → (Untagged (Replace x) → ⊥) → Clear (q.asked (Replace x) (after rs s)) → PopThenPush (called q) q.stored x (after rs s)
