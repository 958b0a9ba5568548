-- What follows of 7: where no queue takes in an element without a tag, none holds one and none gives one out. Said once for every queue.
use Rattle.std.specs.Prelude.{◌∷◌, ◌≡◌}
use Rattle.laws.specs.Prelude.{Answer, Bool, Element, Idle, List, Pop, Push, Replace, Request, [], arith, false, number_of, refl, suc, true, untagged, zero, ℕ}
use Rattle.promise.specs.Queue.{answers, Step}
use Rattle.promise.specs.Refused.{Untagged, untagged-means}
use Rattle.promise.specs.Served.{all_brought, all_given, brought, hit, Holds, unrefused}

-- TAGGED: no element of tag 0 is held, and none has come out
pub record Tagged (held : (Element → Bool) → ℕ) (rs : List Request) (said : List Answer) : Type 0 where
  pub kept : held untagged ≡ 0
  pub out : all_given rs said untagged ≡ 0

-- a request is refused where it brings an element without a tag
abbrev pub Barred : Request → Answer → Type 0
Barred r a = Untagged r → number_of a ≡ 0 → ⊥

none_in : (x : Element) (n : ℕ) → (x.tag.0 ≡ 0 → n ≡ 0 → ⊥) → unrefused n (hit (untagged x)) ≡ 0
none_in x zero h = go (untagged x) refl
  where
    go : (t : Bool) → untagged x ≡ t → hit t ≡ 0
    go true e = absurd (h ((untagged-means x).says e) refl)
    go false e = refl
none_in x (suc n) h = refl

-- .. and so brings none
pub none-brought : (r : Request) (a : Answer) → Barred r a → brought r a untagged ≡ 0
none-brought Idle a h = refl
none-brought (Push x) a h = none_in x (number_of a) h
none-brought Pop a h = refl
none-brought (Replace x) a h = none_in x (number_of a) h

-- a queue that refuses every such request, over any list of them
module _ {S : Type 0} (queue : Request → S → Step Answer S) (barred : (r : Request) (s : S) → Barred r (queue r s).said) where
  pub none-all : (rs : List Request) (s : S) → all_brought rs (answers queue rs s) untagged ≡ 0
  unfolding answers all_brought
  none-all [] s = refl
  none-all (r ∷ rs) s = omega (arith, none-brought r (queue r s).said (barred r s), none-all rs (queue r s).next)

  pub tagged-by : (held : (Element → Bool) → ℕ) (rs : List Request) (s : S) → Holds held rs (answers queue rs s) → Tagged held rs (answers queue rs s)
  tagged-by held rs s h =
      record {
        kept = omega (arith, h untagged, none-all rs s);
        out = omega (arith, h untagged, none-all rs s);
      }
