-- What a request comes to can be counted, tested and worked at, on words whose counts are in order. And the work by the lines' numbers of elements is the work.
use Rattle.laws.specs.Prelude.{Idle, List, Pop, Push, Replace, Request, ◌+◌, ◌-◌, ◌<◌, ◌∙◌, ◌≡◌, ◌≤◌, and_left, and_right, ap, ap₂, arith, eq-eqb, eqb, eqb-false, eqb-true, length, length-set, ltb, ltb-true, ne_eqb, refl, set, sym, true, ℕ, ℕ_discrete, ⊎_elim}
use Rattle.lines_model.proofs.Acts.{giver-fits, goal-lt}
use Rattle.lines_model.proofs.Row.{other, row-past, same}
use Rattle.lines_model.proofs.Shaped.{shape-means}
use Rattle.lines_model.proofs.Tests.{below-means, range-means}
use Rattle.lines_model.proofs.Which.{or_cases}
use Rattle.lines_model.specs.Calls.{counts_ok, heads}
use Rattle.lines_model.specs.Causes.{CountsFit, Shaped}
use Rattle.lines_model.specs.Clock.{DueFit, had}
use Rattle.lines_model.specs.Layout.{put_in, row_at, shape_ok, without, word}
use Rattle.lines_model.specs.Rules.{come_to, counted, denied, due_of, giver, goal, late_table, let_in, line_ok, lines_ok, rank_fit, taker, total, worked}
use Rattle.lines_model.specs.declared.Choice.{Choice}
use Rattle.lines_model.specs.declared.Due.{Due}
use Rattle.lines_model.specs.declared.Due.TheVariants.{Put, Rest, Swap, Take}
use Rattle.lines_model.specs.declared.Rows.{Rows}
use Rattle.lines_work.proofs.Finds.{room, small}
use Rattle.lines_work.specs.Sizes.{sizes_by, Standing}
use Rattle.lines_work.specs.Work.{both, Countable, Fits, lined, Look, looked, seen, Sizes, worked_by}
use Rattle.promise.specs.Prelude.{Clear, decided-either, each-any}

pub record Ready (k : Rows) (w : List ℕ) (d : Due) : Type 0 where
  pub fits : Fits k (sizes_by k (word w) d) d
  pub countable : Countable k w d
  pub standing : Standing k k.lines d

rest-ready : (k : Rows) (w : List ℕ) → Ready k w Rest
rest-ready k w = record { fits = tt; countable = tt; standing = tt }

module _ (k : Rows) (w : List ℕ) (s : shape_ok k (length w) ≡ true) (ok : counts_ok k w ≡ true) where
  few : (l : ℕ) → l < k.lines → word w l ≤ k.places
  few = (below-means k.places (word w) k.lines).says ok

  long : k.lines ≤ length w
  long = omega (arith, room k (length w) s)

  let-ready : (q : Request) → rank_fit k q ≡ true → Clear (late_table k (word w) (heads k w) q) → Ready k w (due_of k (word w) (heads k w) q)
  unfolding due_of sizes_by
  let-ready Idle f c = rest-ready k w
  let-ready (Push x) f c =
      let l = taker k (word w) x in
      let h = ltb-true l k.lines (and_left (ltb l k.lines) (ltb (word w l) k.places) c.0) in
      let r = ltb-true (word w l) k.places (and_right (ltb l k.lines) (ltb (word w l) k.places) c.0) in
      record { fits = (h, r); countable = (omega (arith, h, long), omega (arith, r, (small k (length w) s).high)); standing = h }
  let-ready Pop f c =
      let l = giver k (word w) (heads k w) in
      let y = giver-fits k (length w) ((shape-means k (length w)).says s) (word w) (heads k w) (eqb-false (total (word w) k.lines) 0 c.0) in
      record { fits = (y.0, y.1, few l y.0); countable = (omega (arith, y.0, long), y.1); standing = y.0 }
  let-ready (Replace x) f c =
      let l = giver k (word w) (heads k w) in
      let g = goal k l x in
      let y = giver-fits k (length w) ((shape-means k (length w)).says s) (word w) (heads k w) (eqb-false (total (word w) k.lines) 0 c.0) in
      let b = goal-lt k x f (length w) ((shape-means k (length w)).says s) l y.0 in
      let r = or_cases (eqb l g) (ltb (word w g) k.places) c.1.0 in
      record {
        fits = (y.0, y.1, few l y.0, b, few g b, (λ e. ap (word w) (sym e)), λ n. ⊎_elim (λ z. absurd (n (eqb-true l g z))) (λ z. ltb-true (word w g) k.places z) r);
        countable = (omega (arith, y.0, long), y.1, omega (arith, b, long), omega (arith, few g b, (small k (length w) s).high));
        standing = (y.0, b);
      }

  pub come-ready : (q : Request) → rank_fit k q ≡ true → Ready k w (come_to k (word w) (heads k w) q).due
  unfolding come_to
  come-ready q f =
      let a = late_table k (word w) (heads k w) q in
      decided-either denied (λ (z : Choice). Ready k w z.due) a (let_in k (word w) (heads k w) q) (each-any _ (λ n. rest-ready k w) a) (λ c. let-ready q f c)

-- ---- a count changed leaves what is read of the lines

seen-past : (k : Rows) (w : List ℕ) (i v l c r : ℕ) → i < k.lines → seen k (set w i v) l c r ≡ seen k w l c r
unfolding seen line_ok
seen-past k w i v l c r h =
    let b = row_at k l + (c + c + c) in
    rw (row-past w i v (row_at k l) c (omega arith), other w i v b (λ e. omega arith), other w i v (b + 1) (λ e. omega arith), other w i v (b + 2) (λ e. omega arith)) refl

pub looked-past : (k : Rows) (w : List ℕ) (n : Sizes) (d : Due) → Standing k k.lines d → looked k (counted k d w) n d ≡ looked k w n d
unfolding looked counted
looked-past k w n Rest h = refl
looked-past k w n (Put l x) h = seen-past k w l (word w l + 1) l n.takes x.rank.0 h
looked-past k w n (Take l) h = seen-past k w l (word w l - 1) l n.gives 0 h
looked-past k w n (Swap l x) h =
    let g = goal k l x in
    let u = set w l (word w l - 1) in
    ap₂ (λ (a b : Look). both a b)
    (seen-past k u g (word u g + 1) l n.gives 0 h.1 ∙ seen-past k w l (word w l - 1) l n.gives 0 h.0)
    (seen-past k u g (word u g + 1) g n.takes x.rank.0 h.1 ∙ seen-past k w l (word w l - 1) g n.takes x.rank.0 h.0)

-- the look is the test
pub looked-ok : (k : Rows) (w : List ℕ) (had : ℕ → ℕ) (d : Due) → (looked k w (sizes_by k had d) d).ok ≡ lines_ok k w had d
unfolding looked lines_ok sizes_by seen
looked-ok k w had Rest = refl
looked-ok k w had (Put l x) = refl
looked-ok k w had (Take l) = refl
looked-ok k w had (Swap l x) = refl

-- ---- the work is that of the rules: where the counts have changed since the lines were counted ..

pub worked-now : (k : Rows) (w : List ℕ) (d : Due) → Ready k w d → worked_by k (sizes_by k (word w) d) d (counted k d w) ≡ worked k d (counted k d w)
unfolding worked_by worked sizes_by counted lined
worked-now k w Rest r = refl
worked-now k w (Put l x) r =
    let z : word (set w l (word w l + 1)) l - 1 ≡ word w l = omega (arith, same w l (word w l + 1) r.countable.0) in rw z refl
worked-now k w (Take l) r =
    let z : word (set w l (word w l - 1)) l + 1 ≡ word w l = omega (arith, same w l (word w l - 1) r.countable.0, r.countable.1) in rw z refl
worked-now k w (Swap l x) r =
    let g = goal k l x in
    let u = set w l (word w l - 1) in
    let v = set u g (word u g + 1) in
    let ul : word u l ≡ word w l - 1 = same w l (word w l - 1) r.countable.0 in
    let vg : word v g ≡ word u g + 1 = same u g (word u g + 1) (omega (arith, r.countable.2, length-set w l (word w l - 1))) in
    elim (ℕ_discrete l g) [
      | yes e ↦ (let vl : word v l ≡ word w l = omega (arith, ap (word v) e, ap (word u) e, ul, vg, r.countable.1) in
          let c : word v g - 1 ≡ word w l - 1 = omega (arith, ap (word u) e, ul, vg, r.countable.1) in
          rw (eq-eqb l g e, c, vl) (ap (λ (j : ℕ). put_in (without v (row_at k l) (word w l)) (row_at k j) (word w l - 1) x) e))
      | no e ↦ (let vl : word v l + 1 ≡ word w l = omega (arith, other u g (word u g + 1) l e, ul, r.countable.1) in
          let c : word v g - 1 ≡ word w g = omega (arith, other w l (word w l - 1) g (λ q. e (sym q)), vg) in
          rw (ne_eqb l g e, c, vl) refl)
    ]

-- .. and where they had changed before
module _ (k : Rows) (w : List ℕ) (s : Shaped k (length w)) (counts : CountsFit k w) where
  pub had-worked : (d : Due) → DueFit k w d → worked_by k (sizes_by k (had k w d) d) d w ≡ worked k d w
  unfolding worked_by worked sizes_by had lined
  had-worked Rest f = refl
  had-worked (Put l x) f = rw (eq-eqb l l refl) refl
  had-worked (Take l) f = rw (eq-eqb l l refl) refl
  had-worked (Swap l x) f =
      let g = goal k l x in
      elim (ℕ_discrete l g) [
        | yes e ↦ (let z : word w l - 1 + 1 ≡ word w l = omega (arith, ap (word w) e, f.1) in
            rw (eq-eqb l l refl, eq-eqb l g e, z) (ap (λ (j : ℕ). put_in (without w (row_at k l) (word w l)) (row_at k j) (word w j - 1) x) e))
        | no e ↦ rw (eq-eqb l l refl, ne_eqb l g e, eq-eqb g g refl, ne_eqb g l (λ q. e (sym q))) refl
      ]

  pub had-fits : (d : Due) → DueFit k w d → Fits k (sizes_by k (had k w d) d) d
  unfolding sizes_by had
  had-fits Rest f = tt
  had-fits (Put l x) f = rw (eq-eqb l l refl) (f.0.0, omega (arith, f.1, counts l f.0.0))
  had-fits (Take l) f = rw (eq-eqb l l refl) (f.0, omega arith, omega (arith, f.1))
  had-fits (Swap l x) f =
      let g = goal k l x in
      let b = goal-lt k x ((range-means k x).holds f.0.1) (length w) s l f.0.0 in
      let h = f.0.0 in
      elim (ℕ_discrete l g) [
        | yes e ↦ (let p : 0 < word w l = omega (arith, ap (word w) e, f.1) in
            rw (eq-eqb l l refl, eq-eqb l g e, eq-eqb g g refl, eq-eqb g l (sym e))
            (h, omega arith, omega (arith, p, counts l h), b, omega (arith, f.1, counts g b), (λ q. omega (arith, ap (word w) e)), λ n. absurd (n e)))
        | no e ↦ (let r : word w l < k.places = ⊎_elim (λ z. absurd (e z)) (λ z. z) f.2 in
            rw (eq-eqb l l refl, ne_eqb l g e, eq-eqb g g refl, ne_eqb g l (λ q. e (sym q)))
            (h, omega arith, omega arith, b, omega (arith, counts g b), (λ q. absurd (e q)), λ n. omega (arith, f.1, counts g b)))
      ]

  pub due-stands : (d : Due) → DueFit k w d → Standing k k.lines d
  due-stands Rest f = tt
  due-stands (Put l x) f = f.0.0
  due-stands (Take l) f = f.0
  due-stands (Swap l x) f = (f.0.0, goal-lt k x ((range-means k x).holds f.0.1) (length w) s l f.0.0)

pub standing-in : (k : Rows) (n : ℕ) (d : Due) → k.lines ≤ n → Standing k k.lines d → Standing k n d
standing-in k n Rest h s = tt
standing-in k n (Put l x) h s = omega arith
standing-in k n (Take l) h s = omega arith
standing-in k n (Swap l x) h s = (omega (arith, s.0), omega (arith, s.1))

pub counted-long : (k : Rows) (d : Due) (w : List ℕ) → length (counted k d w) ≡ length w
unfolding counted
counted-long k Rest w = refl
counted-long k (Put l x) w = length-set w l (word w l + 1)
counted-long k (Take l) w = length-set w l (word w l - 1)
counted-long k (Swap l x) w = length-set (set w l (word w l - 1)) (goal k l x) _ ∙ length-set w l (word w l - 1)
