-- The stores of one at a time, cycle by cycle: behind the storeys heads, tails, nodes and free link are, word for word, those of S cycles ago.
use Rattle.laws.specs.Prelude.{Answer, Element, Idle, List, Pop, Push, Refusal, Replace, Request, [], ◌++◌, ◌+◌, ◌∙◌, ◌∷◌, ◌≡◌, ◌≤◌, ap, arith, left_behind, length, map, number_of, refl, subst, suc, sym, zero, ℕ, Ok, None, Some, Err}
use Rattle.bucket_model.proofs.Exactly.{exactly-pop, exactly-push, exactly-replace}
use Rattle.bucket_model.proofs.Laws.{Holds, calls}
use Rattle.bucket_model.specs.Prelude.{Laid, Outcome, Store, ask, asked, called, plain, refused, said_number, store}
use Rattle.bucket_model.specs.declared.Lay.{Lay}
use Rattle.bucket_model.specs.Plain as stores
use Rattle.bucket_clock_model.specs.Clock.{clocked, Machine, number_at, out_of, Runs, sent}
use Rattle.bucket_clock_model.specs.Links.{bucket_stage}
use Rattle.std.specs.Prelude.{Option}
use Rattle.bucket_clock_model.specs.declared.Waiting.{Waiting}
use Rattle.bucket_clock_model.specs.Lists.{heeded, moved}
use Rattle.bucket_clock_model.specs.Pipe.{after, fresh_pipe, Pipe, Shows}
use Rattle.bucket_clock_model.proofs.Clock.{cycles, same-call}
use Rattle.bucket_clock_model.proofs.Last.{after_store, last-but, last_of, Linked, linked-next, next_store}
use Rattle.bucket_clock_model.proofs.Links.{But}

pub heeded-fine : (R n h m : ℕ) (q : Request) → number_at R n q h ≡ m → number_at R n (heeded m q) h ≡ 0
heeded-fine R n h zero q e = e
heeded-fine R n h (suc m) q e = refl

module _ (k : Lay) (laid : Laid k) where
  -- a refused call leaves the store
  keeps : (b w : List ℕ) (o : Outcome) (m : ℕ) → number_of o.answer ≡ suc m → ((r : Refusal) → number_of o.answer ≡ number_of (Err r) → o ≡ refused r b w) → store o.bits o.words ≡ store b w
  keeps b w o m e f = go o.answer refl
    where
      go : (a : Answer) → o.answer ≡ a → store o.bits o.words ≡ store b w
      go (Ok None) p = absurd (omega (arith, ap number_of p))
      go (Ok (Some x)) p = absurd (omega (arith, ap number_of p))
      go (Err r) p = ap (λ (o : Outcome). store o.bits o.words) (f r (ap number_of p))

  refused-keeps : (q : Request) (s : Store) (m : ℕ) → number_of (asked k q s).answer ≡ suc m → next_store k q s ≡ s
  unfolding asked
  refused-keeps Idle s m e = refl
  refused-keeps (Push x) s m e = keeps s.bits s.words _ m e (λ r. left_behind (λ (o : Outcome). number_of o.answer) (λ (r : Refusal). refused r s.bits s.words) (exactly-push k s.bits s.words x) r)
  refused-keeps Pop s m e = keeps s.bits s.words _ m e (λ r. left_behind (λ (o : Outcome). number_of o.answer) (λ (r : Refusal). refused r s.bits s.words) (exactly-pop k s.bits s.words) r)
  refused-keeps (Replace x) s m e = keeps s.bits s.words _ m e (λ r. left_behind (λ (o : Outcome). number_of o.answer) (λ (r : Refusal). refused r s.bits s.words) (exactly-replace k s.bits s.words x) r)

  -- what is sent into the pipeline leaves the store that the call leaves
  sent-store : (q : Request) (s : Store) (n : ℕ) → number_of (asked k q s).answer ≡ n → next_store k (heeded n q) s ≡ next_store k q s
  unfolding asked
  sent-store q s zero e = refl
  sent-store q s (suc m) e = sym (refused-keeps q s m e)

  pub record Vaulted (m : Machine k.storeys) (w : List ℕ) (was : ℕ → Store) (ago : ℕ → List Element) (later : List (Option Element)) : Type 0 where
    pub runs : Runs k m ago later
    pub linked : Linked k laid k.storeys m.pipe was ago
    pub holds : (i : ℕ) → Holds k laid (was i).bits (was i).words (ago i)
    pub but : But k w (was k.storeys).words

  last-stage : (S : ℕ) (g : Waiting) (P : Pipe S) (was : ℕ → Store) (ago : ℕ → List Element) (v : List (Option Element)) (w : List ℕ) (s : Store) → 1 ≤ S → Linked k laid S P was ago → Shows S P ago v
      → ((i : ℕ) → Holds k laid (was i).bits (was i).words (ago i)) → But k w (was S).words → But k (bucket_stage k (last_of S g P).does (last_of S g P).way w) (after_store s was S).words
  last-stage zero g P was ago v w s h l z o c = absurd (omega arith)
  last-stage (suc d) g P was ago v w s h l z o c = last-but k laid d g P was ago v w l z o c

  -- VAULT: one cycle
  pub vaults : (q : Request) (g : Waiting) (m : Machine k.storeys) (w : List ℕ) (was : ℕ → Store) (ago : ℕ → List Element) (later : List (Option Element)) → Vaulted m w was ago later
      → Vaulted (clocked k q m).next (bucket_stage k (last_of k.storeys g m.pipe).does (last_of k.storeys g m.pipe).way w) (after_store (called k (ask q) (was 0)).next was) (after (plain k (ask q) (ago 0)).next ago) (moved later (out_of (plain k (ask q) (ago 0)).said))
  unfolding clocked called
  vaults q g m w was ago later x =
      let S = k.storeys in
      let u = sent k q m.held in
      let a = calls k laid (was 0) (ago 0) (x.holds 0) (ask q) in
      let number : number_of (asked k q (was 0)).answer ≡ number_at k.ranks k.nodes q m.held =
      ap said_number a.alike ∙ sym (same-call S k.ranks laid.ranks k.nodes q (ago 0) x.runs.ranked).number ∙ ap (number_at k.ranks k.nodes q) (sym x.runs.held) in
      let fine : number_at k.ranks k.nodes u (length (ago 0)) ≡ 0 =
      ap (number_at k.ranks k.nodes u) (sym x.runs.held) ∙ heeded-fine k.ranks k.nodes m.held (number_at k.ranks k.nodes q m.held) q refl in
      record {
        runs = (cycles k laid q m ago later x.runs).runs;
        linked = subst (λ (s : Store). Linked k laid S (clocked k q m).next.pipe (after_store s was) (after (plain k (ask q) (ago 0)).next ago)) (sent-store q (was 0) (number_at k.ranks k.nodes q m.held) number)
            (linked-next k laid S u 0 m.pipe was ago (after (plain k (ask q) (ago 0)).next ago) (λ i. refl) fine x.linked);
        holds = now a.holds;
        but = last-stage S g m.pipe was ago later w (called k (ask q) (was 0)).next laid.deep x.linked x.runs.shows x.holds x.but;
      }
    where
      now : Holds k laid (called k (ask q) (was 0)).next.bits (called k (ask q) (was 0)).next.words (plain k (ask q) (ago 0)).next
          → (i : ℕ) → Holds k laid (after_store (called k (ask q) (was 0)).next was i).bits (after_store (called k (ask q) (was 0)).next was i).words (after (plain k (ask q) (ago 0)).next ago i)
      now h zero = h
      now h (suc i) = x.holds i

  -- ---- any list of cycles

  -- the stores of one at a time
  unfoldable pub store_history : List Request → (ℕ → Store) → ℕ → Store
  store_history [] was = was
  store_history (q ∷ qs) was = store_history qs (after_store (called k (ask q) (was 0)).next was)

  pub store-append : (as' bs : List Request) (was : ℕ → Store) → store_history (as' ++ bs) was ≡ store_history bs (store_history as' was)
  unfolding store_history
  store-append [] bs was = refl
  store-append (a ∷ as') bs was = store-append as' bs (after_store (called k (ask a) (was 0)).next was)

  pub store-ago : (bs : List Request) (was : ℕ → Store) (i : ℕ) → store_history bs was (length bs + i) ≡ was i
  unfolding store_history
  store-ago [] was i = ap was (omega arith)
  store-ago (b ∷ bs) was i = let e : suc (length bs) + i ≡ length bs + suc i = omega arith in rw e (store-ago bs (after_store (called k (ask b) (was 0)).next was) (suc i))

  pub store-now : (as' : List Request) (was : ℕ → Store) → store_history as' was 0 ≡ stores.after k (map ask as') (was 0)
  unfolding store_history stores.after
  store-now [] was = refl
  store-now (a ∷ as') was = store-now as' (after_store (called k (ask a) (was 0)).next was)

  pub store_at : (as' bs : List Request) (was : ℕ → Store) (S : ℕ) → length bs ≡ S → store_history (as' ++ bs) was S ≡ stores.after k (map ask as') (was 0)
  store_at as' bs was S e =
      let z : length bs + 0 ≡ S = omega arith in
      ap (λ (h : ℕ → Store). h S) (store-append as' bs was) ∙ (rw z at (store-ago bs (store_history as' was) 0)) ∙ store-now as' was

  -- from a cleared store
  pub fresh-linked : (d : ℕ) (s : Store) → Linked k laid d (fresh_pipe d) (λ i. s) (λ i. [])
  unfolding asked
  fresh-linked zero s = tt
  fresh-linked (suc d) s = (refl, refl, fresh-linked d s)
