-- What the front asks and hands on, and what is on the way, by the records.
use Rattle.laws.specs.Prelude.{Bool, Element, List, Request, [], ◌++◌, ◌+◌, ◌<◌, ◌∙◌, ◌∷◌, ◌≡◌, ◌≤◌, ap, arith, false, length, lt-ltb, ne_eqb, pred, refl, suc, true, untagged, zero, ℕ}
use Rattle.bucket_clock_model.proofs.Counts.{coming-end, hit-le}
use Rattle.bucket_clock_model.proofs.Pipe.{moved-end}
use Rattle.bucket_clock_model.proofs.Worked.{Stands}
use Rattle.bucket_clock_model.specs.Clock.{number_at}
use Rattle.std.specs.Prelude.{Option}
use Rattle.std.specs.Prelude.{None, Some}
use Rattle.bucket_clock_model.specs.declared.Waiting.{Waiting}
use Rattle.bucket_clock_model.specs.Desk.{Desk}
use Rattle.bucket_clock_model.specs.Lists.{arrives, at, coming, left, many, moved, newcomer, taken, takes}
use Rattle.bucket_clock_model.specs.Pipe.{Fit, Pipe, Shows}
use Rattle.bucket_model.specs.declared.Lay.{Lay}
use Rattle.promise.specs.Prelude.{always, hit}
use Rattle.front_model.specs.Desk.{on_way}
use Rattle.front_model.specs.Handed.{asks, handed}

-- ---- asking

pub many-le : (f : Element → Bool) (l : List Element) → many f l ≤ many always l
unfolding many
many-le f [] = omega arith
many-le f (x ∷ l) = omega (arith, hit-le (f x), many-le f l)

pub coming-le : (f : Element → Bool) (w : List (Option Element)) → coming f w ≤ coming always w
unfolding coming
coming-le f [] = omega arith
coming-le f (None ∷ w) = omega (arith, coming-le f w)
coming-le f (Some x ∷ w) = omega (arith, hit-le (f x), coming-le f w)

pub asks-taken : (t : Bool) (l : List Element) → taken (asks t (length l)) l ≡ taken t l
asks-taken false l = refl
asks-taken true [] = refl
asks-taken true (x ∷ l) = rw (ne_eqb (suc (length l)) 0 (λ e. omega arith))

pub asks-left : (t : Bool) (l : List Element) → left (asks t (length l)) l ≡ left t l
asks-left false l = refl
asks-left true [] = refl
asks-left true (x ∷ l) = rw (ne_eqb (suc (length l)) 0 (λ e. omega arith))

pub asks-hit : (t : Bool) (l : List Element) → hit (asks t (length l)) ≡ at always (taken t l)
asks-hit false l = refl
asks-hit true [] = refl
asks-hit true (x ∷ l) = rw (ne_eqb (suc (length l)) 0 (λ e. omega arith))

-- ---- what is handed

pub takes-handed : (a : Bool) (x : Option Element) → takes (handed a x) ≡ a
takes-handed true None = refl
takes-handed true (Some x) = refl
takes-handed false None = refl
takes-handed false (Some x) = refl

pub newcomer-handed : (a : Bool) (x : Option Element) → newcomer (handed a x) ≡ x
newcomer-handed true None = refl
newcomer-handed true (Some x) = refl
newcomer-handed false None = refl
newcomer-handed false (Some x) = refl

-- a rank that there is, where there is one
abbrev pub RankedOne : ℕ → Option Element → Type 0
RankedOne R None = Unit {0}
RankedOne R (Some x) = x.rank.0 < R

hit-off : (b : Bool) → hit b ≡ 0 → b ≡ false
hit-off true e = absurd (omega arith)
hit-off false e = refl

-- room for one more, where there is one
abbrev pub RoomFor : Option Element → ℕ → ℕ → Type 0
RoomFor None h n = Unit {0}
RoomFor (Some x) h n = h < n

-- what is handed on is refused by no test of a request
pub handed-fine : (R n h : ℕ) (a : Bool) (x : Option Element) → (a ≡ true → h ≡ 0 → ⊥) → RankedOne R x → at untagged x ≡ 0 → (a ≡ false → RoomFor x h n) → number_at R n (handed a x) h ≡ 0
handed-fine R n h true None some r t room = rw (ne_eqb h 0 (some refl)) refl
handed-fine R n h true (Some x) some r t room = rw (lt-ltb x.rank.0 R r, hit-off (untagged x) t, ne_eqb h 0 (some refl)) refl
handed-fine R n h false None some r t room = refl
handed-fine R n h false (Some x) some r t room = rw (lt-ltb x.rank.0 R r, hit-off (untagged x) t, lt-ltb h n (room refl)) refl

-- ---- on the way

pub arrives-any : (v : List (Option Element)) (a b : Option Element) → 1 ≤ length v → arrives v a ≡ arrives v b
arrives-any [] a b h = absurd (omega arith)
arrives-any (y ∷ v) a b h = refl

fit-some : (d w : ℕ) (t : Bool) (l : List Element) → Fit d t w l → at always (taken t l) ≡ hit t
fit-some d w false l f = refl
fit-some d w true [] f = absurd f
fit-some d w true (x ∷ l) f = refl

module _ (k : Lay) where
  -- as many are on the way as records take
  pub coming-is : (e d : ℕ) (m : Desk) (P : Pipe d) (ago : ℕ → List Element) (v : List (Option Element)) → Stands k e d m P → Shows d P ago v → coming always v ≡ on_way d m.records e
  unfolding coming on_way
  coming-is e zero m P ago v st h = ap (coming always) h.1
  coming-is e (suc d) m P ago v st h =
      ap (coming always) h.way ∙ coming-end always h.older (taken (takes P.0.does) (ago 1))
      ∙ omega (
        arith,
        coming-is (suc e) d m P.1 (λ i. ago (suc i)) h.older st.2 h.rest,
        fit-some d P.0.way (takes P.0.does) (ago 1) h.fit,
        ap (λ (u : Waiting). hit (takes u.does)) st.1,
      )

  -- .. and after the cycle, but for what is asked for in it, as all but the last take
  ahead-is : (e d : ℕ) (m : Desk) (P : Pipe (suc d)) (ago : ℕ → List Element) (v : List (Option Element)) (z : Option Element) → Stands k e (suc d) m P → Shows (suc d) P ago v → coming always (moved v z) ≡ at always z + on_way d m.records e
  unfolding coming on_way
  ahead-is e zero m P ago v z st h =
      ap (λ (w : List (Option Element)). coming always (moved w z)) h.way ∙ ap (coming always) (moved-end h.older (taken (takes P.0.does) (ago 1)) z)
      ∙ ap (λ (w : List (Option Element)). coming always (moved w (taken (takes P.0.does) (ago 1)) ++ z ∷ [])) h.rest.1 ∙ omega arith
  ahead-is e (suc d) m P ago v z st h =
      let a : Option Element = taken (takes P.0.does) (ago 1) in
      ap (λ (w : List (Option Element)). coming always (moved w z)) h.way ∙ ap (coming always) (moved-end h.older a z) ∙ coming-end always (moved h.older a) z
      ∙ omega (
        arith,
        ahead-is (suc e) d m P.1 (λ i. ago (suc i)) h.older a st.2 h.rest,
        fit-some (suc d) P.0.way (takes P.0.does) (ago 1) h.fit,
        ap (λ (u : Waiting). hit (takes u.does)) st.1,
      )

  pub ahead-at : (S : ℕ) (m : Desk) (P : Pipe S) (ago : ℕ → List Element) (v : List (Option Element)) (z : Option Element) → 1 ≤ S → Stands k 0 S m P → Shows S P ago v → coming always (moved v z) ≡ at always z + on_way (pred S) m.records 0
  ahead-at zero m P ago v z h st s = absurd (omega arith)
  ahead-at (suc d) m P ago v z h st s = ahead-is 0 d m P ago v z st s
