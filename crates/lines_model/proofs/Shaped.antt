-- The shape's test stands for the shape's fact.
use Rattle.laws.specs.Prelude.{Bool, Means, eqb, means-and, means-by, means-eqb, means-leb, true, ◌≡◌, ℕ}
use Rattle.lines_model.proofs.Tests.{or-means}
use Rattle.lines_model.specs.Causes.{Shaped}
use Rattle.lines_model.specs.Layout.{power_of_two, Rows, shape_ok, store_words}

same-means : (b : Bool) → Means b (b ≡ true)
same-means b = record { says = λ e. e; holds = λ e. e }

pub shape-means : (k : Rows) (n : ℕ) → Means (shape_ok k n) (Shaped k n)
unfolding shape_ok
shape-means k n =
    means-by (means-and (means-and (means-and (means-and (or-means (eqb k.kind 1) (eqb k.kind 2) (means-eqb k.kind 1) (means-eqb k.kind 2)) (same-means (power_of_two k.lines))) (means-leb 1 k.places)) (means-leb k.places 1024)) (means-leb (store_words k) n))
    (λ x. record { kind = x.0.0.0.0; lines = x.0.0.0.1; low = x.0.0.1; high = x.0.1; words = x.1 })
    (λ s. ((((s.kind, s.lines), s.low), s.high), s.words))
