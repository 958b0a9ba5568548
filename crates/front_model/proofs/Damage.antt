-- Each test of the front stands for its fact; an idle cycle hands nothing on.
use Rattle.laws.specs.Prelude.{All, Bool, Element, Idle, List, Means, Request, Zeros, [], ◌+◌, ◌<◌, ◌∙◌, ◌∷◌, ◌≡◌, ◌≤◌, ap, arith, false, is_blank, le-ltb, length, ltb, means-and, means-by, means-eqb, means-leb, means-ltb, means-not, pred, refl, subst, suc, sym, true, true≢false, zero, ℕ}
use Rattle.strip.proofs.Words.{blank-holds, blank-says}
use Rattle.bucket_clock_model.proofs.Damage.{desk-means, stages-means}
use Rattle.bucket_clock_model.specs.Damage.{StagesFit}
use Rattle.std.specs.Prelude.{Option}
use Rattle.std.specs.Prelude.{None, Some}
use Rattle.bucket_clock_model.specs.declared.Waiting.{Waiting}
use Rattle.bucket_clock_model.specs.Desk.{waiting, work_at}
use Rattle.bucket_clock_model.specs.Links.{bucket_leaves}
use Rattle.bucket_clock_model.specs.Lists.{at, placed, takes}
use Rattle.bucket_model.proofs.Laws.{insert-length}
use Rattle.bucket_model.specs.declared.Lay.{Lay}
use Rattle.bucket_model.specs.Prelude.{word}
use Rattle.promise.specs.Prelude.{always, hit}
use Rattle.front_model.specs.Damage.{Ascends, FrontFit, FrontShaped, PlacesFit, SomeFit}
use Rattle.front_model.specs.Desk.{all_held, ascends, blank_ok, faced, FrontDesk, front_in, front_ok, front_rule, front_shape_ok, front_words, leaving_now, on_way, place_at, place_count, places_ok, some_ok, within}
use Rattle.front_model.specs.Handed.{handed, leaked}
use Rattle.front_model.proofs.Places.{places-length}

order-means : (l : List Element) → Means (ascends l) (Ascends l)
order-means [] = record { says = λ e. tt; holds = λ u. refl }
order-means (x ∷ []) = record { says = λ e. tt; holds = λ u. refl }
order-means (x ∷ y ∷ l) = means-and (means-leb x.rank.0 y.rank.0) (order-means (y ∷ l))

within-means : (r : ℕ) (l : List Element) → Means (within r l) (All (λ x. x.rank.0 < r) l)
within-means r [] = record { says = λ e. tt; holds = λ u. refl }
within-means r (x ∷ l) = means-and (means-ltb x.rank.0 r) (within-means r l)

blank-means : (f k : ℕ) (e : Element) → Means (blank_ok (ltb f k) e) (f < k → Zeros e)
blank-means f k e = go (ltb f k) (means-ltb f k)
  where
    go : (b : Bool) → Means b (f < k) → Means (blank_ok b e) (f < k → Zeros e)
    go true m = record { says = λ p h. blank-says e p; holds = λ g. blank-holds e (g (m.says refl)) }
    go false m = record { says = λ e h. absurd (true≢false (sym (m.holds h))); holds = λ g. refl }

some-means : (b : Bool) (f : ℕ) → Means (some_ok b f) (SomeFit b f)
some-means true f = means-not (means-eqb f 0)
some-means false f = record { says = λ e. tt; holds = λ u. refl }

module _ (k : Lay) where
  pub shape-means : (m : FrontDesk) → Means (front_shape_ok k m) (FrontShaped k m)
  unfolding front_shape_ok
  shape-means m = means-by (means-and (desk-means k m.behind) (means-leb (front_words k) (length m.front))) (λ x. record { desk = x.0; front = x.1 }) (λ h. (h.desk, h.front))

  pub places-means : (m : FrontDesk) → Means (places_ok k m) (PlacesFit k m)
  unfolding places_ok
  places-means m =
      let f = word m.front 0 in
      means-by
      (means-and (means-and (means-and (means-and (means-leb (f + on_way k.storeys m.behind.records 0) (place_count k)) (means-leb (all_held k m) k.nodes)) (order-means (front_in m.front))) (within-means k.ranks (front_in m.front)))
      (blank-means f (place_count k) (place_at m.front f)))
      (λ x. record { places = x.0.0.0.0; room = x.0.0.0.1; order = x.0.0.1; ranks = x.0.1; blank = x.1 })
      (λ h. ((((h.places, h.room), h.order), h.ranks), h.blank))

  pub front-means : (q : Request) (m : FrontDesk) → Means (front_ok k q m) (FrontFit k q m)
  unfolding front_ok
  front-means q m =
      let u = (front_rule k q m).op in
      means-by (means-and (means-and (places-means m) (some-means (takes u) (word m.front 0))) (stages-means k 0 k.storeys (waiting (faced k u m).hands 0) m.behind))
      (λ x. (x.0.0, x.0.1, x.1)) (λ h. ((h.0, h.1), h.2))

  -- ---- an idle cycle hands nothing on: what arrives has its place

  way-split : (d i : ℕ) (rs : List Waiting) → on_way (suc d) rs i ≡ on_way d rs i + hit (takes (work_at rs (i + d)).does)
  unfolding on_way
  way-split zero i rs = let e : i + 0 ≡ i = omega arith in rw e (omega arith)
  way-split (suc d) i rs = let e : i + suc d ≡ suc i + d = omega arith in rw e (omega (arith, way-split d (suc i) rs))

  way-last : (S : ℕ) (rs : List Waiting) → 1 ≤ S → on_way S rs 0 ≡ on_way (pred S) rs 0 + hit (takes (work_at rs (pred S)).does)
  way-last zero rs h = absurd (omega arith)
  way-last (suc d) rs h = let e : 0 + d ≡ d = omega arith in way-split d 0 rs ∙ ap (λ (i : ℕ). on_way d rs 0 + hit (takes (work_at rs i).does)) e

  leaving-hit : (t : Bool) (r : ℕ) (w : List ℕ) → at always (bucket_leaves k t r w) ≡ hit t
  leaving-hit true r w = refl
  leaving-hit false r w = refl

  placed-length : (y : Option Element) (l : List Element) → length (placed y l) ≡ at always y + length l
  placed-length None l = omega arith
  placed-length (Some y) l = insert-length y l ∙ omega arith

  pub idle-hands : (m : FrontDesk) → 1 ≤ k.storeys → word m.front 0 + on_way k.storeys m.behind.records 0 ≤ place_count k → (faced k Idle m).hands ≡ Idle
  unfolding faced leaving_now
  idle-hands m deep h =
      let rs = m.behind.records in
      let y = leaving_now k m.behind in
      let F = front_in m.front in
      let few : length (placed (leaving_now k m.behind) (front_in m.front)) + (0 + on_way (pred k.storeys) m.behind.records 0) ≤ place_count k =
      omega (
        arith,
        placed-length (leaving_now k m.behind) (front_in m.front),
        leaving-hit (takes (work_at m.behind.records (pred k.storeys)).does) (work_at m.behind.records (pred k.storeys)).way m.behind.words,
        places-length m.front 0 (word m.front 0),
        way-last k.storeys m.behind.records deep,
      ) in
      ap (λ (b : Bool). handed false (leaked b (placed (leaving_now k m.behind) (front_in m.front)))) (le-ltb (place_count k) (length (placed (leaving_now k m.behind) (front_in m.front)) + (0 + on_way (pred k.storeys) m.behind.records 0)) few)

  -- an idle cycle tests no more than any other
  idle-stages : (d : ℕ) (q : Request) (m : FrontDesk) → StagesFit k 0 d (waiting q 0) m.behind → StagesFit k 0 d (waiting Idle 0) m.behind
  idle-stages zero q m f = (tt, tt)
  idle-stages (suc d) q m f = ((tt, tt), f.1)

  pub calm : (q : Request) (m : FrontDesk) → 1 ≤ k.storeys → FrontFit k q m → FrontFit k Idle m
  calm q m deep f =
      (f.0, tt, subst (λ (u : Request). StagesFit k 0 k.storeys (waiting u 0) m.behind) (sym (idle-hands m deep f.0.places)) (idle-stages k.storeys (faced k (front_rule k q m).op m).hands m f.2))
