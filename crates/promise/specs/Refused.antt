-- What the tables of refusals share: 01's numbers tell the refusals apart; 7, and 5 and 6. A table is a ladder, `Exactly` of `laws` says that a call
-- goes by it: by the number that it says, and with all that is left behind.
use Rattle.std.specs.Prelude.{◌∷◌, ◌≡◌}
use Rattle.laws.specs.Prelude.{Answer, BadPort, BadRank, BadShape, Bool, Damaged, Element, Empty, Fails, Full, Idle, Ladder, Means, NoHeap, NoTag, Pop, Push, Refusal, Replace, Request, TooSoon, Zeros, [], ap, arith, asks, fails-true, false, false≢true, get_or, has_run, is_blank, means-eqb, not, number_of, pred, refl, refusal_number, stop, sym, true, untagged, ℕ, ◌∙◌, Ok, None, Some, Err}
use Rattle.strip.proofs.Words.{blank-holds, blank-says}

-- the refusal of a number; 9 to 11 are those of ranks from weights, and no queue's
abbrev pub refusal_of : ℕ → Refusal
refusal_of n = get_or (BadShape ∷ Damaged ∷ TooSoon ∷ BadRank ∷ Full ∷ Empty ∷ NoTag ∷ BadPort ∷ BadShape ∷ BadShape ∷ BadShape ∷ NoHeap ∷ []) (pred n) BadShape

numbered : (r : Refusal) → refusal_of (refusal_number r) ≡ r
numbered BadShape = refl
numbered Damaged = refl
numbered TooSoon = refl
numbered BadRank = refl
numbered Full = refl
numbered Empty = refl
numbered NoTag = refl
numbered BadPort = refl
numbered NoHeap = refl

-- no two refusals have one number, and none has 0
pub refusal-told : (x y : Refusal) → refusal_number x ≡ refusal_number y → x ≡ y
refusal-told x y e = sym (numbered x) ∙ ap refusal_of e ∙ numbered y

pub zero-told : (r : Refusal) → 0 ≡ refusal_number r → ⊥
zero-told BadShape e = omega arith
zero-told Damaged e = omega arith
zero-told TooSoon e = omega arith
zero-told BadRank e = omega arith
zero-told Full e = omega arith
zero-told Empty e = omega arith
zero-told NoTag e = omega arith
zero-told BadPort e = omega arith
zero-told NoHeap e = omega arith

-- a cycle that is not refused has run
pub zero-ran : (a : Answer) → number_of a ≡ 0 → has_run a ≡ true
zero-ran (Ok None) e = refl
zero-ran (Ok (Some x)) e = refl
zero-ran (Err n) e = absurd (zero-told n (sym e))

-- an operation is asked for
abbrev pub Asks : Request → Type 0
Asks Idle = ⊥
Asks (Push x) = Unit {0}
Asks Pop = Unit {0}
Asks (Replace x) = Unit {0}

pub asks-fails : (r : Request) → Fails (not (asks r)) (Asks r)
unfolding asks
asks-fails Idle = fails-true
asks-fails (Push x) = record { found = λ e. tt; shown = λ d. refl }
asks-fails Pop = record { found = λ e. tt; shown = λ d. refl }
asks-fails (Replace x) = record { found = λ e. tt; shown = λ d. refl }

-- 2, of what is empty: "another word not 0"
pub blank-fails : (x : Element) → Fails (is_blank x) (Zeros x → ⊥)
blank-fails x = record { found = λ e z. false≢true (sym e ∙ blank-holds x z); shown = λ h. go (is_blank x) refl h }
  where
    go : (b : Bool) → is_blank x ≡ b → (Zeros x → ⊥) → b ≡ false
    go true e h = absurd (h (blank-says x e))
    go false e h = refl

-- 7: "Push and replace with tag 0 are to be refused with a new number 7, "no tag", in every queue" (02 [1]), whatever the rank and whatever is held
abbrev pub Untagged : Request → Type 0
Untagged Idle = ⊥
Untagged (Push x) = x.tag.0 ≡ 0
Untagged Pop = ⊥
Untagged (Replace x) = x.tag.0 ≡ 0

pub untagged-means : (x : Element) → Means (untagged x) (x.tag.0 ≡ 0)
unfolding untagged
untagged-means x = means-eqb x.tag.0 0

-- 5 and 6, of a queue that holds n and has room for c: "full: push, held = capacity or N"; "empty: pop, held = 0", and "an empty queue refuses
-- replace with 6". What is asked after is l
abbrev pub limits : Request → ℕ → ℕ → Ladder Refusal → Ladder Refusal
limits Idle n c l = l
limits (Push x) n c l = stop Full (n ≡ c) l
limits Pop n c l = stop Empty (n ≡ 0) l
limits (Replace x) n c l = stop Empty (n ≡ 0) l

abbrev pub IsPush : Request → Type 0
IsPush Idle = ⊥
IsPush (Push x) = Unit {0}
IsPush Pop = ⊥
IsPush (Replace x) = ⊥
