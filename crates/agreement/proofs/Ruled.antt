-- What a request comes to by the table of refusals refuses as a plain list does.
use Rattle.laws.specs.Prelude.{Bool, Element, Empty, Full, Idle, NoTag, Pop, Push, Replace, Request, ◌≡◌, cond, eqb, false, ltb, number_of, refl, true, untagged, ℕ, Ok, None, Some, Err}
use Rattle.agreement.specs.Plain.{number_for}
use Rattle.promise.specs.Prelude.{Ruling, last_table, ruled, ruling}

-- what a request comes to refuses as the list does: any queue that asks its tag and its limits
pub ruled-number : {W : Type 0} (op : Request → W) (c : ℕ) (r : Request) (h : ℕ) (e : Element) → number_of (ruled op (last_table r h c) r e).answer ≡ number_for c r h
ruled-number op c Idle h e = refl
ruled-number {W} op c (Push x) h e = go (untagged x) (ltb h c)
  where
    go : (t f : Bool) → number_of (cond {A = Ruling W} t (ruling (Err NoTag) (op Idle)) (cond {A = Ruling W} f (ruling (Ok None) (op (Push x))) (ruling (Err Full) (op Idle)))).answer ≡ cond t 7 (cond f 0 5)
    go true f = refl
    go false true = refl
    go false false = refl
ruled-number {W} op c Pop h e = go (eqb h 0)
  where
    go : (b : Bool) → number_of (cond {A = Ruling W} b (ruling (Err Empty) (op Idle)) (ruling (Ok (Some e)) (op Pop))).answer ≡ cond b 6 0
    go true = refl
    go false = refl
ruled-number {W} op c (Replace x) h e = go (untagged x) (eqb h 0)
  where
    go : (t b : Bool) → number_of (cond {A = Ruling W} t (ruling (Err NoTag) (op Idle)) (cond {A = Ruling W} b (ruling (Err Empty) (op Idle)) (ruling (Ok (Some e)) (op (Replace x))))).answer ≡ cond t 7 (cond b 6 0)
    go true b = refl
    go false true = refl
    go false false = refl
