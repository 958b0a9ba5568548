-- Any list of cycles: numbers and elements of one at a time, and what the machine then keeps.
use Rattle.laws.specs.Prelude.{Element, List, Request, [], ◌++◌, ◌∙◌, ◌∷◌, ◌≡◌, ap, ap₂, length, map, number_of, refl, subst, sym, ℕ}
use mathlib.Core.List.{append_assoc, append-nil}
use Rattle.bucket_model.specs.declared.Lay.{Lay}
use Rattle.bucket_model.specs.Prelude.{Laid, Store, ask, called, plain, plain_says, said_number}
use Rattle.promise.specs.Prelude.{answers, leaves}
use Rattle.bucket_clock_model.specs.Clock.{history, out_of}
use Rattle.std.specs.Prelude.{Option}
use Rattle.bucket_clock_model.specs.Desk.{Desk, rule_now, cycle_done, cycled, cycling, CycleOutcome}
use Rattle.bucket_clock_model.specs.Lists.{arrives, moved}
use Rattle.bucket_clock_model.specs.Pipe.{after}
use Rattle.bucket_clock_model.proofs.Clock.{arrives-moved}
use Rattle.bucket_clock_model.proofs.Counts.{moved_length}
use Rattle.bucket_clock_model.proofs.Damage.{desk-means, cycle-means}
use Rattle.bucket_clock_model.proofs.Kept.{Kept, cycle-good, cycle-kept, cycle-leaves, cycle-number}
use Rattle.bucket_clock_model.proofs.Last.{after_store}
use Rattle.bucket_clock_model.proofs.Vault.{store_history}

module _ (k : Lay) (laid : Laid k) where
  -- ---- one cycle

  -- a kept machine's cycle is done
  pub cycle-is : (q : Request) (m : Desk) (was : ℕ → Store) (ago : ℕ → List Element) (v : List (Option Element)) → Kept k laid m was ago v → cycled k q m ≡ cycle_done k (rule_now k q m) m
  unfolding cycled
  cycle-is q m was ago v x = rw ((desk-means k m).holds x.shaped, (cycle-means k q m).holds (cycle-good k laid q m was ago v x)) refl

  pub record Cycled (q : Request) (m : Desk) (was : ℕ → Store) (ago : ℕ → List Element) (v : List (Option Element)) : Type 0 where
    pub number : number_of (cycled k q m).answer ≡ said_number (plain k (ask q) (ago 0)).said
    pub leaves : (cycled k q m).leaves ≡ arrives v (out_of (plain k (ask q) (ago 0)).said)
    pub kept : Kept k laid (cycled k q m).desk (after_store (called k (ask q) (was 0)).next was) (after (plain k (ask q) (ago 0)).next ago) (moved v (out_of (plain k (ask q) (ago 0)).said))

  pub goes_on : (q : Request) (m : Desk) (was : ℕ → Store) (ago : ℕ → List Element) (v : List (Option Element)) → Kept k laid m was ago v → Cycled q m was ago v
  goes_on q m was ago v x =
      let e : cycled k q m ≡ cycle_done k (rule_now k q m) m = cycle-is q m was ago v x in
      record {
        number = ap (λ (o : CycleOutcome). number_of o.answer) e ∙ cycle-number k laid q m was ago v x;
        leaves = ap (λ (o : CycleOutcome). o.leaves) e ∙ cycle-leaves k laid q m was ago v x;
        kept = subst (λ (o : CycleOutcome). Kept k laid o.desk (after_store (called k (ask q) (was 0)).next was) (after (plain k (ask q) (ago 0)).next ago) (moved v (out_of (plain k (ask q) (ago 0)).said))) (sym e) (cycle-kept k laid q m was ago v x);
      }

  -- ---- any list of them

  -- the numbers of one at a time; and what leaves, followed by what will leave, is what was still to leave, followed by all that one at a time gives out
  pub record Ran (qs : List Request) (m : Desk) (was : ℕ → Store) (ago : ℕ → List Element) (v : List (Option Element)) : Type 0 where
    pub numbers : map (λ h. number_of h.number) (answers (cycling k) qs m) ≡ map said_number (plain_says k (map ask qs) (ago 0))
    pub later : List (Option Element)
    pub left : map (λ h. h.leaves) (answers (cycling k) qs m) ++ later ≡ v ++ map out_of (plain_says k (map ask qs) (ago 0))
    pub due : length later ≡ length v
    pub kept : Kept k laid (leaves (cycling k) qs m) (store_history k laid qs was) (history k qs ago) later

  pub runs : (qs : List Request) (m : Desk) (was : ℕ → Store) (ago : ℕ → List Element) (v : List (Option Element)) → Kept k laid m was ago v → Ran qs m was ago v
  unfolding answers leaves plain_says history store_history
  runs [] m was ago v x = record { numbers = refl; later = v; left = sym (append-nil v); due = refl; kept = x }
  runs (q ∷ qs) m was ago v x =
      let c : Cycled q m was ago v = goes_on q m was ago v x in
      let o : Option Element = out_of (plain k (ask q) (ago 0)).said in
      let t : Ran qs (cycled k q m).desk (after_store (called k (ask q) (was 0)).next was) (after (plain k (ask q) (ago 0)).next ago) (moved v o) = runs qs (cycled k q m).desk _ _ (moved v o) c.kept in
      let zs : List (Option Element) = map out_of (plain_says k (map ask qs) (plain k (ask q) (ago 0)).next) in
      record {
        numbers = ap₂ (λ (a : ℕ) (as' : List ℕ). a ∷ as') c.number t.numbers;
        later = t.later;
        left = ap₂ (λ (a : Option Element) (as' : List (Option Element)). a ∷ as') c.leaves t.left ∙ ap (λ (w : List (Option Element)). w ++ zs) (arrives-moved v o) ∙ append_assoc v (o ∷ []) zs;
        due = t.due ∙ moved_length v o;
        kept = t.kept;
      }
