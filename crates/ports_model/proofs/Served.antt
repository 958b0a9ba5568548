-- What is least, and that nothing without a tag is held, in 01's numbers, port by port.
use Rattle.laws.specs.Prelude.{Bool, Idle, List, Pop, Push, Replace, Request, [], ◌<◌, ◌∙◌, ◌∷◌, ◌≡◌, arith, eqb, false, refl, sym, true, untagged, ℕ}
use Rattle.promise.specs.Prelude.{Least, leaves}
use Rattle.bucket_model.specs.Prelude.{Call, Store, ask, brought, came, held, times}
use Rattle.bucket_model.proofs.Laws.{least-out, none-brings, none-lower, times-append}
use Rattle.ports_model.specs.Prelude.{Ask, Fair, Shape, Shaped, answers_of, asked, called, calls_at, calls_if, heard_at, heard_if, heard_on, many_at, start, stored_at}
use Rattle.ports_model.proofs.Kind.{kind, barred}
use Rattle.ports_model.proofs.Promises.{holds}
use Rattle.ports_model.proofs.Rule.{least, replace-gives}

-- ---- an element without a tag never comes in

none_came : (s : Shape) (a : Ask) (x : Store) → times untagged (came a.call (called s a x).said) ≡ 0
unfolding called times
none_came s a x = go a.call refl
  where
    go : (c : Call) → a.call ≡ c → times untagged (came a.call (called s a x).said) ≡ 0
    go (ask q) e = rw e (none-brings q (asked s a.port q x).answer (barred s a.port q x))
    go held e = rw e refl

never-came : (s : Shape) (p : ℕ) (as' : List Ask) (x : Store) → times untagged (brought (calls_at p as') (answers_of (heard_on s p as' x))) ≡ 0
unfolding heard_at calls_at brought times
never-came s p [] x = refl
never-came s p (a ∷ as') x = go (eqb a.port p) (never-came s p as' (called s a x).next)
  where
    go : (t : Bool) → times untagged (brought (calls_at p as') (answers_of (heard_on s p as' (called s a x).next))) ≡ 0
        → times untagged (brought (calls_if t a.call (calls_at p as')) (answers_of (heard_if t (record { call = a.call; before = many_at s p x; said = (called s a x).said }) (heard_on s p as' (called s a x).next)))) ≡ 0
    go true ih =
        times-append untagged (came a.call (called s a x).said) (brought (calls_at p as') (answers_of (heard_on s p as' (called s a x).next)))
        ∙ omega (arith, none_came s a x, ih)
    go false ih = ih

module _ (s : Shape) (lim b w : List ℕ) (shaped : Shaped s b w) (fair : Fair s lim) (as' : List Ask) (p : ℕ) (p< : p < s.ports) where
  abbrev now : Store
  now = leaves (called s) as' (start s lim b w)

  -- TAGGED: no element of tag 0 is held at a port
  pub tagged : times untagged (stored_at s p (leaves (called s) as' (start s lim b w))) ≡ 0
  tagged = omega (arith, holds s lim b w shaped fair as' p p< untagged, never-came s p as' (start s lim b w))

  -- LEAST, of a pop and of a replace, by number and rank
  pub port-least : (q : Request) → Least (λ f. times f (stored_at s p (leaves (called s) as' (start s lim b w)))) q (asked s p q (leaves (called s) as' (start s lim b w))).answer
  port-least Idle = tt
  port-least (Push e) = tt
  port-least Pop = λ n.
      least-out (λ f. times f (stored_at s p now)) (asked s p Pop now).answer (kind s p Pop now n) (λ x q. none-lower x.rank.0 (stored_at s p now) (least s lim b w shaped fair as' p p< x q).lowest)
  port-least (Replace e) = λ n.
      least-out (λ f. times f (stored_at s p now)) (asked s p (Replace e) now).answer (kind s p (Replace e) now n)
      (λ x q. none-lower x.rank.0 (stored_at s p now) (least s lim b w shaped fair as' p p< x (sym (replace-gives s p now e n) ∙ q)).lowest)
