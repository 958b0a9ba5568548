-- The lines are a queue: what is kept between calls is that each line is sorted and neat (`is-queue`). What follows is every queue's (`promise/proofs`):
-- each refusal exactly for its cause, and from a cleared store, over any list of requests, nothing is damaged, the store holds exactly what went in and has not
-- come out, and what comes out has the lowest rank.
use Rattle.laws.specs.Prelude.{Bool, Element, Idle, List, Pop, Push, Replace, Request, [], ◌+◌, ◌∙◌, ◌≡◌, ap, arith, eqb-false, inl, inr, length, refl, true, ℕ}
use Rattle.lines_model.proofs.Acts.{after, counts-ok, Granted, keeps, lets, lines_ok_lem, shape-ok, taken}
use Rattle.lines_model.proofs.Order.{order-none}
use Rattle.lines_model.proofs.Serve.{giver-least, held_all, put-sum, stored_is, take-sum}
use Rattle.lines_model.proofs.Start.{wiped}
use Rattle.lines_model.proofs.Shaped.{shape-means}
use Rattle.lines_model.proofs.Tests.{ask-told, below-means, fails-means, late-told, lines-means}
use Rattle.lines_model.specs.Calls.{called, done, due_in, heads, queue, wipe}
use Rattle.lines_model.specs.Causes.{Shaped}
use Rattle.lines_model.specs.Layout.{Rows, store_words, word}
use Rattle.lines_model.specs.Promise.{in_order, Neat, Sound, stored_by}
use Rattle.lines_model.specs.Rules.{counted, due_of, giver, goal, late_table, lines_ok, rank_fit, taker, total, worked}
use Rattle.promise.proofs.Calls.{Tested}
use Rattle.promise.proofs.Kept.{IsQueue}
use Rattle.promise.proofs.Promised.{answers-so, promised-so}
use Rattle.promise.specs.Prelude.{Answers, Clear, Least, Promised, brought, ends, given, grants}
use Rattle.promise.specs.FirstIn.{times}
use Rattle.promise.specs.Queue.{Pins, pins}

-- every test stands for its cause
pub tested : (k : Rows) → Tested (queue k)
unfolding due_of counted worked
tested k =
    record {
      opening = λ w. (shape-means k (length w), λ s. tt);
      clearing = λ w. (shape-means k (length w), λ s. tt);
      asked = λ q w c. ask-told k q ends tt;
      root = λ w. fails-means (below-means k.places (word w) k.lines);
      way = λ q w. fails-means (lines-means k w (word w) (due_in k q w));
      late = λ q w c o. late-told k (length w) ((shape-means k (length w)).says c.0) (word w) (heads k w) q;
      stays = λ w. refl;
      tagged = λ q w. inl (inr (inl (λ u. u)));
    }

-- ---- what a request that is let in does
module _ (k : Rows) (w : List ℕ) (m : ℕ → List Element) (s : Sound k w m) where
  abbrev low : Element
  low = heads k w (giver k (word w) (heads k w))

  -- the elements change as it says
  run-sum : (q : Request) → rank_fit k q ≡ true → Clear (late_table k (word w) (heads k w) q) → (f : Element → Bool)
      → stored_by k (done k (due_in k q w) w) f + given q (grants q low) f ≡ stored_by k w f + brought q (grants q low) f
  run-sum q e c f =
      let y = lets k w m s (heads k w) q e c in
      rw (stored_is k (done k (due_in k q w) w) (after k (due_in k q w) m) (keeps k w m s (due_in k q w) y), stored_is k w m s) (go q y)
    where
      go : (q : Request) → Granted k m (due_in k q w)
          → times f (in_order (after k (due_in k q w) m) 0 k.lines) + given q (grants q low) f ≡ times f (in_order m 0 k.lines) + brought q (grants q low) f
      go Idle y = unfold due_of in refl
      go (Push x) y = unfold due_of in omega (arith, put-sum k w m s f m (taker k (word w) x) x y.0)
      go Pop y = unfold due_of in omega (arith, take-sum k w m s f (giver k (word w) (heads k w)) y.0 y.1)
      go (Replace x) y =
          unfold due_of in
          (let l = giver k (word w) (heads k w) in
          omega (arith, take-sum k w m s f l y.0 y.1, put-sum k w m s f (taken m l) (goal k l x) x y.2))

  -- what it gives is least
  run-least : (q : Request) → Clear (late_table k (word w) (heads k w) q) → Least (stored_by k w) q (grants q low)
  run-least Idle c = tt
  run-least (Push x) c = tt
  run-least Pop c = λ n. giver-least k w m s (eqb-false (total (word w) k.lines) 0 c.0)
  run-least (Replace x) c = λ n. giver-least k w m s (eqb-false (total (word w) k.lines) 0 c.0)

-- THE LINES ARE A QUEUE
pub is-queue : (k : Rows) → IsQueue (queue k) (Neat k)
unfolding due_of lines_ok
is-queue k =
    record {
      tested = tested k;
      opens = λ w y. (shape-ok k (length w) y.1.shaped, tt);
      root = λ w y. counts-ok k w y.0 y.1;
      way = λ q w y d c. lines_ok_lem k w y.0 y.1 (word w) y.1.count (due_in k q w) (lets k w y.0 y.1 (heads k w) q d.0 c);
      idles = λ w y. refl;
      keeps = λ q w y d c. (after k (due_in k q w) y.0, keeps k w y.0 y.1 (due_in k q w) (lets k w y.0 y.1 (heads k w) q d.0 c));
      sum = λ q w y d c f. run-sum k w y.0 y.1 q d.0 c f;
      least = λ q w y d c. run-least k w y.0 y.1 q c;
      counts = λ w y. held_all k w y.0 y.1;
      wiped = λ w c. ((λ l. []), wiped k w ((shape-means k (length w)).says c.0));
      bare = λ w c f. bare k w ((shape-means k (length w)).says c.0) f;
    }
  where
    bare : (k : Rows) (w : List ℕ) → Shaped k (length w) → (f : Element → Bool) → stored_by k (wipe (store_words k) w) f ≡ 0
    bare k w s f = ap (times f) (stored_is k (wipe (store_words k) w) (λ l. []) (wiped k w s) ∙ order-none (λ l. []) 0 k.lines (λ j a b. refl)) ∙ nothing f
      where
        nothing : (f : Element → Bool) → times f [] ≡ 0
        nothing f = unfold times in refl

-- ANSWERS: whatever the words, each refusal for its cause and for that alone, and what it leaves; the kind of an answer; no element without a tag
pub lines-answer : (k : Rows) → Answers (queue k)
lines-answer k = answers-so (queue k) (tested k)

-- PROMISED: from a cleared store, whatever it was lent, over any list of requests
pub lines-promise : (k : Rows) (qs : List Request) (w : List ℕ) → Shaped k (length w) → Promised (queue k) qs w
lines-promise k qs w s = promised-so (queue k) (Neat k) (is-queue k) qs w (shape-ok k (length w) s, tt)

-- PINNED: a contract that states an outcome by this equation allows one outcome
pub pinned : (k : Rows) (q : Request) (w : List ℕ) → Pins (called k q w)
pinned k q w = pins _
