-- Several queues in one store, each call at one of them: what is so of each follows from what each shows of itself, and from what a call at one leaves of the
-- others. To a queue a call at another is an idle one.
use Rattle.laws.specs.Prelude.{Answer, Bool, Element, Idle, List, Request, [], ◌+◌, ◌∷◌, ◌≡◌, ◌⊎◌, arith, cond, eq-eqb, eqb, false, map, ne_eqb, refl, subst, sym, true, untagged, ℕ, ℕ_discrete, ⊎_elim}
use Rattle.promise.proofs.Calls.{called-either}
use Rattle.promise.proofs.Kept.{call-sum, called-kept, IsQueue, kept_either, kept-least}
use Rattle.promise.specs.Prelude.{Barred, Clear, Least, Outcome, Queue, Step, all_brought, all_given, answers, brought, called, each-any, given, leaves, leaves-keep, none-brought, stepping}
use Rattle.promise.specs.Forest.{At, heard_at, own_of, seen_by}

-- what a list of calls of any kind brings and gives, by what each is to the one who counts
module _ {C S : Type 0} (queue : C → S → Step Answer S) (seen : C → Request) (Kept : S → Type 0) (keep : (c : C) (s : S) → Kept s → Kept (queue c s).next) (held : S → (Element → Bool) → ℕ)
    (sum : (c : C) (s : S) → Kept s → (f : Element → Bool) → held (queue c s).next f + given (seen c) (queue c s).said f ≡ held s f + brought (seen c) (queue c s).said f) where
  pub seen-sum : (cs : List C) (s : S) → Kept s → (f : Element → Bool)
      → held (leaves queue cs s) f + all_given (map seen cs) (answers queue cs s) f ≡ held s f + all_brought (map seen cs) (answers queue cs s) f
  unfolding leaves answers all_given all_brought
  seen-sum [] s kept f = refl
  seen-sum (c ∷ cs) s kept f = omega (arith, sum c s kept f, seen-sum cs (queue c s).next (keep c s kept) f)

-- .. and where none is let in without a tag, none is brought
pub seen-barred : (i : ℕ) (c : At) (a : Answer) → Barred c.asks a → Barred (seen_by i c) a
seen-barred i c a b = go (eqb c.queue i)
  where
    go : (t : Bool) → Barred (cond t c.asks Idle) a
    go true = b
    go false = λ u e. u

pub seen_none : {C S : Type 0} (queue : C → S → Step Answer S) (seen : C → Request) → ((c : C) (s : S) → Barred (seen c) (queue c s).said) → (cs : List C) (s : S)
    → all_brought (map seen cs) (answers queue cs s) untagged ≡ 0
unfolding answers all_brought
seen_none queue seen barred [] s = refl
seen_none queue seen barred (c ∷ cs) s = omega (arith, none-brought (seen c) (queue c s).said (barred c s), seen_none queue seen barred cs (queue c s).next)

module _ {S : Type 0} (q : ℕ → Queue S) (Valid : ℕ → Type 0) (Kept : S → Type 0) where
  pub record IsForest : Type 0 where
    pub valid : (i : ℕ) → Valid i ⊎ (Valid i → ⊥)
    pub each : (i : ℕ) → Valid i → IsQueue (q i) Kept
    -- there is no such queue: refused
    pub none : (i : ℕ) → (Valid i → ⊥) → (s : S) → Clear ((q i).opening s) → ⊥
    -- a call at one leaves what the others hold
    pub apart : (i j : ℕ) → (i ≡ j → ⊥) → Valid i → Valid j → (r : Request) (s : S) → Kept s → Clear ((q i).asked r s) → Clear ((q i).late r s) → (f : Element → Bool)
        → (q j).stored ((q i).run ((q i).op r) s) f ≡ (q j).stored s f

  abbrev pub forest : At → S → Step Answer S
  forest c = stepping (called (q c.queue)) c.asks

  module _ (is : IsForest) where
    pub forest-kept : (c : At) (s : S) → Kept s → Kept (forest c s).next
    forest-kept c s kept =
        ⊎_elim (λ v. called-kept (is.each c.queue v) c.asks s kept)
        (λ n. called-either (q c.queue) c.asks s (λ (o : Outcome S). Kept o.words) (λ x. kept) (λ k d o w. absurd (is.none c.queue n s k))) (is.valid c.queue)

    -- what a call at another leaves
    stands-apart : (c : At) (s : S) → Kept s → (j : ℕ) → Valid j → (c.queue ≡ j → ⊥) → (f : Element → Bool) → (q j).stored (forest c s).next f ≡ (q j).stored s f
    stands-apart c s kept j w ne f =
        ⊎_elim
        (λ v. kept_either (is.each c.queue v) c.asks s kept (λ (o : Outcome S). (q j).stored o.words f ≡ (q j).stored s f) (each-any _ (λ x. refl) ((q c.queue).asked c.asks s))
        (each-any _ (λ x. refl) ((q c.queue).late c.asks s)) (λ d k. is.apart c.queue j ne v w c.asks s kept d k f))
        (λ n. called-either (q c.queue) c.asks s (λ (o : Outcome S). (q j).stored o.words f ≡ (q j).stored s f) (λ x. refl) (λ k d o w. absurd (is.none c.queue n s k))) (is.valid c.queue)

    forest-sum : (j : ℕ) → Valid j → (c : At) (s : S) → Kept s → (f : Element → Bool)
        → (q j).stored (forest c s).next f + given (seen_by j c) (forest c s).said f ≡ (q j).stored s f + brought (seen_by j c) (forest c s).said f
    forest-sum j v c s kept f = elim (ℕ_discrete c.queue j) [ yes e ↦ here e | no e ↦ there e ]
      where
        here : c.queue ≡ j → (q j).stored (forest c s).next f + given (seen_by j c) (forest c s).said f ≡ (q j).stored s f + brought (seen_by j c) (forest c s).said f
        here e =
            rw (eq-eqb c.queue j e)
            (subst (λ (i : ℕ). (q i).stored (forest c s).next f + given c.asks (forest c s).said f ≡ (q i).stored s f + brought c.asks (forest c s).said f) e
            (call-sum (is.each c.queue (subst Valid (sym e) v)) c.asks s kept f))

        there : (c.queue ≡ j → ⊥) → (q j).stored (forest c s).next f + given (seen_by j c) (forest c s).said f ≡ (q j).stored s f + brought (seen_by j c) (forest c s).said f
        there ne = rw (ne_eqb c.queue j ne) (omega (arith, stands-apart c s kept j v ne f))

    -- HOLDS, queue by queue, over any list of calls at any of them
    pub forest-holds : (j : ℕ) → Valid j → (cs : List At) (s : S) → Kept s → (f : Element → Bool)
        → (q j).stored (leaves forest cs s) f + all_given (map (seen_by j) cs) (answers forest cs s) f ≡ (q j).stored s f + all_brought (map (seen_by j) cs) (answers forest cs s) f
    forest-holds j v cs s kept f = seen-sum forest (seen_by j) Kept forest-kept (q j).stored (forest-sum j v) cs s kept f

    -- LEAST, of a call at any of them after any list of calls
    pub forest-least : (cs : List At) (s : S) → Kept s → (i : ℕ) → Valid i → (r : Request) → Least ((q i).stored (leaves forest cs s)) r (called (q i) r (leaves forest cs s)).answer
    forest-least cs s kept i v r = kept-least (is.each i v) r (leaves forest cs s) (leaves-keep forest Kept forest-kept cs s kept)

-- ALONE: what a queue is answered in the midst of the others is what it would be answered alone, from any store that is to it like this one. `Like` is what queue i
-- sees of a store: calls at i go by it and keep it, calls at another leave it
module _ {S : Type 0} (q : ℕ → Queue S) (i : ℕ) (Like : S → S → Type 0)
    (alike : (r : Request) (s t : S) → Like s t → ((called (q i) r s).answer ≡ (called (q i) r t).answer) × Like (called (q i) r s).words (called (q i) r t).words)
    (other : (c : At) (s t : S) → (c.queue ≡ i → ⊥) → Like s t → Like (called (q c.queue) c.asks s).words t) where
  abbrev each : At → S → Step Answer S
  each c = stepping (called (q c.queue)) c.asks

  abbrev own : Request → S → Step Answer S
  own = stepping (called (q i))

  pub forest-alone : (cs : List At) (s t : S) → Like s t
      → (heard_at i cs (answers each cs s) ≡ answers own (own_of i cs) t) × Like (leaves each cs s) (leaves own (own_of i cs) t)
  unfolding answers leaves heard_at own_of
  forest-alone [] s t l = (refl, l)
  forest-alone (c ∷ cs) s t l = elim (ℕ_discrete c.queue i) [ yes e ↦ here e (λ u v k. forest-alone cs u v k) | no e ↦ there e (forest-alone cs (each c s).next t (other c s t e l)) ]
    where
      -- a call of its own
      here : c.queue ≡ i → ((u v : S) → Like u v → (heard_at i cs (answers each cs u) ≡ answers own (own_of i cs) v) × Like (leaves each cs u) (leaves own (own_of i cs) v))
          → (heard_at i (c ∷ cs) (answers each (c ∷ cs) s) ≡ answers own (own_of i (c ∷ cs)) t) × Like (leaves each (c ∷ cs) s) (leaves own (own_of i (c ∷ cs)) t)
      here e ih =
          let at : ((called (q c.queue) c.asks s).answer ≡ (called (q i) c.asks t).answer) × Like (called (q c.queue) c.asks s).words (called (q i) c.asks t).words =
          subst (λ (j : ℕ). ((called (q j) c.asks s).answer ≡ (called (q i) c.asks t).answer) × Like (called (q j) c.asks s).words (called (q i) c.asks t).words) (sym e) (alike c.asks s t l) in
          let more = ih (each c s).next (own c.asks t).next at.1 in
          rw (eq-eqb c.queue i e) ((λ k. at.0 k ∷ more.0 k), more.1)

      -- another's
      there : (c.queue ≡ i → ⊥) → (heard_at i cs (answers each cs (each c s).next) ≡ answers own (own_of i cs) t) × Like (leaves each cs (each c s).next) (leaves own (own_of i cs) t)
          → (heard_at i (c ∷ cs) (answers each (c ∷ cs) s) ≡ answers own (own_of i (c ∷ cs)) t) × Like (leaves each (c ∷ cs) s) (leaves own (own_of i (c ∷ cs)) t)
      there ne more = rw (ne_eqb c.queue i ne) more
