-- Isolation, on the words: two clearings of one shape with the same limits, on slices whatever was in them, and two histories of any length and interleaving.
use Rattle.laws.specs.Prelude.{List, ◌<◌, ◌∙◌, ◌≡◌, ap, refl, sym, ℕ}
use Rattle.promise.specs.Prelude.{leaves}
use Rattle.bucket_model.specs.Prelude.{Store}
use Rattle.ports_model.specs.Prelude.{Ask, Fair, SameAt, Shape, Shaped, answers_of, called, calls_at, heard_at, heard_on, none, served, start, touched, yeses}
use Rattle.ports_model.proofs.Alike.{alike}
use Rattle.ports_model.proofs.Clear.{deep}
use Rattle.ports_model.proofs.Isolation.{long_at, isolated, untouched}
use Rattle.ports_model.proofs.Promises.{now-holds, keeps, hears}

module _ (s : Shape) (lim : List ℕ) (fair : Fair s lim) (b w b' w' : List ℕ) (shaped : Shaped s b w) (shaped' : Shaped s b' w') (as' bs : List Ask) (p : ℕ) (p< : p < s.ports) where
  abbrev x : Store
  x = leaves (called s) as' (start s lim b w)

  abbrev y : Store
  y = leaves (called s) bs (start s lim b' w')

  from-lists : (heard_at (served s lim) long_at p as' none ≡ heard_at (served s lim) long_at p bs none) × (leaves (served s lim) as' none p ≡ leaves (served s lim) bs none p)
      → SameAt s p (heard_on s p as' (start s lim b w)) (heard_on s p bs (start s lim b' w')) x y
  from-lists r =
      record {
        answers = ap answers_of (hears s lim b w shaped fair as' p p< ∙ r.0 ∙ sym (hears s lim b' w' shaped' fair bs p p<));
        holds = keeps s lim b w shaped fair as' p p< ∙ r.1 ∙ sym (keeps s lim b' w' shaped' fair bs p p<);
        alike = alike s lim p p< (deep s lim b w shaped fair) (deep s lim b' w' shaped' fair) shaped.some shaped'.some x y (leaves (served s lim) as' none) (leaves (served s lim) bs none) (now-holds s lim b w shaped fair as') (now-holds s lim b' w' shaped' fair bs) r.1;
      }

  -- ISOLATION: "Two histories from the same clearing that agree in p's requests, and in which p's pushes and replaces are accepted at the same places, give p the same answers"
  pub isolation : calls_at p as' ≡ calls_at p bs → yeses (heard_on s p as' (start s lim b w)) ≡ yeses (heard_on s p bs (start s lim b' w'))
      → SameAt s p (heard_on s p as' (start s lim b w)) (heard_on s p bs (start s lim b' w')) (leaves (called s) as' (start s lim b w)) (leaves (called s) bs (start s lim b' w'))
  isolation c e =
      from-lists (isolated s lim p p< as' bs none none refl c (ap yeses (sym (hears s lim b w shaped fair as' p p<)) ∙ e ∙ ap yeses (hears s lim b' w' shaped' fair bs p p<)))

  -- TOUCH: "the yes or no of a push above the floor, and the number of a node, are all that the others can touch"
  pub touch : calls_at p as' ≡ calls_at p bs → touched lim p (heard_on s p as' (start s lim b w)) ≡ touched lim p (heard_on s p bs (start s lim b' w'))
      → SameAt s p (heard_on s p as' (start s lim b w)) (heard_on s p bs (start s lim b' w')) (leaves (called s) as' (start s lim b w)) (leaves (called s) bs (start s lim b' w'))
  touch c e =
      from-lists (untouched s lim p p< as' bs none none refl c (ap (touched lim p) (sym (hears s lim b w shaped fair as' p p<)) ∙ e ∙ ap (touched lim p) (hears s lim b' w' shaped' fair bs p p<)))
