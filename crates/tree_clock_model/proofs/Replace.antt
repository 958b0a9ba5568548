-- A replace is a pop and then a push, by cycles: as of any clock, and idled by what is then stored.
use Rattle.laws.specs.Prelude.{Answer, Bool, Element, List, Pop, Push, Replace, Request, ◌&&◌, ◌∙◌, ◌≡◌, ◌≤◌, ap, arith, false, length, lt-ltb, means-off, not-suc-le-zero, refl, subst, suc, sym, true, zero, ℕ}
use Rattle.tree_clock_model.proofs.Demand.{ran-in-step}
use Rattle.tree_clock_model.proofs.Lost.{at-rest-remains, bag, Going, idles-sum, is-clock, remains-beside, settles}
use Rattle.tree_clock_model.proofs.Step.{same-root}
use Rattle.tree_clock_model.specs.Prelude.{Machine, PopThenPush, Rests, clock, clocked_queue, idles, pops_or_replaces, ran, remaining, stored_then}
use Rattle.promise.proofs.Calls.{grants-kind}
use Rattle.promise.proofs.InFlight as clocks
use Rattle.promise.proofs.InFlight.{Swaps}
use Rattle.promise.proofs.Kept.{last-alike}
use Rattle.promise.specs.Calls as calls
use Rattle.promise.specs.Prelude.{Outcome, Step, Untagged, always, comes, leaves, outcome, step, untagged-means}
use Rattle.tree_model.proofs.Laws.{is-queue, root-limit}
use Rattle.tree_model.specs.Prelude.{Shape, low, room, root_of, sum_counts}

module _ (m k : ℕ) where
  abbrev queue : Request → Machine → Step Answer Machine
  queue = clocked_queue m (suc k)

  -- held counts what remains, and is at most the capacity
  counts : (x : Machine) → Going m k x → sum_counts (root_of m x.words) ≡ remaining m (suc k) x always
  counts x g = ap sum_counts (same-root m k _ _ g.0 g.1) ∙ (is-queue m k).counts g.0 g.1.kept ∙ sym (remains-beside m k x g.0 g.1 always)

  few : (x : Machine) → Going m k x → sum_counts (root_of m x.words) ≤ room m (suc k)
  few x g = subst (λ (n : ℕ). n ≤ room m (suc k)) (ap sum_counts (sym (same-root m k _ _ g.0 g.1))) (root-limit m (suc k) g.0 g.1.kept.shape.some ((is-queue m k).root g.0 g.1.kept))

  push-soon : (mark : Bool) (e : Element) → (mark && pops_or_replaces (Push e)) ≡ false
  unfolding pops_or_replaces
  push-soon true e = refl
  push-soon false e = refl

  -- with the mark on both are too soon
  alike : (e : Element) (x : Machine) → (Untagged (Replace e) → ⊥) → (comes (clock m (suc k)) (Replace e) x).answer ≡ (comes (clock m (suc k)) Pop x).answer
  unfolding pops_or_replaces
  alike e x tag = go x.state.mark
    where
      go : (b : Bool) → (comes (clock m (suc k)) (Replace e) (record { state = record { records = x.state.records; mark = b }; words = x.words })).answer
          ≡ (comes (clock m (suc k)) Pop (record { state = record { records = x.state.records; mark = b }; words = x.words })).answer
      go true = refl
      go false = last-alike (λ r. r) e (low (root_of m x.words)) (sum_counts (root_of m x.words)) (room m (suc k)) (means-off (untagged-means e) tag)

  swaps : Swaps (is-clock m k) (bag m k)
  swaps =
      record {
        kinds = λ r x. grants-kind r _;
        alike = λ e x g tag. alike e x tag;
        room = λ e x g tag c. (
          push-soon ((clock m (suc k)).moves Pop x).state.mark e,
          (means-off (untagged-means e) tag, (lt-ltb _ (room m (suc k)) (clocks.popped-less (is-clock m k) (bag m k) counts (room m (suc k)) few x g c), tt)),
        );
      }

  -- once idled what remains is what is stored
  stored-then : (n : ℕ) (x : Machine) → Going m k x → Rests m (suc k) n x → (f : Element → Bool) → stored_then m (suc k) n x f ≡ remaining m (suc k) x f
  stored-then n x g h f = sym (at-rest-remains m (suc k) (idles m (suc k) n x.state x.words) (omega arith) h f) ∙ idles-sum m k n x g f

  module _ (e : Element) (tag : Untagged (Replace e) → ⊥) (x : Machine) (g : Going m k x) where
    by-clock : calls.PopThenPush (λ r x. outcome (queue r x).said (queue r x).next) (remaining m (suc k)) e x
    by-clock = clocks.pop-then-push (is-clock m k) (bag m k) swaps e tag x g

    next : (r : Request) (y : Machine) → Going m k y → Going m k (queue r y).next
    next = clocks.next-kept (is-clock m k)

    pub going-replaces : PopThenPush m (suc k) e x
    unfolding leaves
    going-replaces =
        let one = next (Replace e) x g in
        let two = next (Push e) (queue Pop x).next (next Pop x g) in
        record {
          answer = by-clock.answer;
          refused = λ h. ap (λ (o : Outcome Machine). step o.answer o.words) (by-clock.refused h);
          taken = by-clock.taken;
          idled = (settles m k x g, settles m k _ one, settles m k _ two);
          stores = λ z i j p q f. stored-then i _ one p f ∙ by-clock.stores z f ∙ sym (stored-then j _ two q f);
          swapped = λ o said i j p q f. omega (arith, stored-then i (queue (Replace e) x).next one p f, stored-then j x g q f, by-clock.swapped o said f);
        }

-- POP-THEN-PUSH: on whatever machine a list of cycles leaves from a cleared one
pub pop-then-push : (m : ℕ) (ws : List ℕ) (rs : List Request) (levels : ℕ) → Shape m levels (length ws) → (e : Element) → (Untagged (Replace e) → ⊥)
    → PopThenPush m levels e (ran m levels rs ws)
pop-then-push m ws rs zero sh e tag = absurd (not-suc-le-zero sh.some)
pop-then-push m ws rs (suc k) sh e tag = going-replaces m k e tag (ran m (suc k) rs ws) (_, ran-in-step m ws rs k sh)
