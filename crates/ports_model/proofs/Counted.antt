-- What goes in and out at a port, in the words in which every queue's promises are said: by number, rank, tag and length, over any list of requests at any ports. To a port a request at another one is an idle one.
use Rattle.laws.specs.Prelude.{Answer, Bool, Element, Idle, List, [], ◌+◌, ◌<◌, ◌∙◌, ◌∷◌, ◌≡◌, ◌≤◌, ap, arith, cond, dec_lt, eq-eqb, eqb, false, is-upd, map, ne_eqb, refl, subst, sym, true, untagged, ℕ, ℕ_discrete}
use Rattle.promise.specs.Prelude.{Barred, Step, Tagged, answers, leaves, none-brought, step}
use Rattle.promise.specs.Served as said
use Rattle.bucket_model.specs.Prelude.{Said, Store, answered, ask, plain_with, store, times}
use Rattle.bucket_model.proofs.Laws.{answer_of, sums}
use Rattle.ports_model.specs.Prelude.{Ask, Fair, Lists, Shape, Shaped, accepts, asked, at, called, none, ranks_of, served, start, stored_at}
use Rattle.promise.proofs.Forest.{seen-barred, seen_none, seen-sum}
use Rattle.promise.specs.Forest.{At, seen_by}
use Rattle.ports_model.proofs.Clear.{deep}
use Rattle.ports_model.proofs.Kind.{barred}
use Rattle.ports_model.proofs.Promises.{start-holds}
use Rattle.ports_model.proofs.Room.{served-in, served-out}
use Rattle.ports_model.proofs.Steps.{Agree, calls}
use Rattle.ports_model.proofs.Store.{Holds, stored-at}

abbrev pub ports_queue : Shape → At → Store → Step Answer Store
ports_queue s c x = let o = asked s c.queue c.asks x in step o.answer (store o.bits o.words)

-- what comes in at port j has a tag
none_came : (s : Shape) (j : ℕ) (cs : List At) (x : Store) → said.all_brought (map (seen_by j) cs) (answers (ports_queue s) cs x) untagged ≡ 0
none_came s j cs x = seen_none (ports_queue s) (seen_by j) (λ c y. seen-barred j c (ports_queue s c y).said (barred s c.queue c.asks y)) cs x

module _ (s : Shape) (lim b w : List ℕ) (shaped : Shaped s b w) (fair : Fair s lim) where
  abbrev D : 1 ≤ s.storeys
  D = deep s lim b w shaped fair

  abbrev Kept : Store → Type 0
  Kept x = (st : Lists) × Holds s (deep s lim b w shaped fair) shaped.some lim x.bits x.words st

  abbrev asks : At → Ask
  asks c = at c.queue (ask c.asks)

  runs : (c : At) (x : Store) (k : Kept x) → Agree s D shaped.some lim (step (answered (ports_queue s c x).said) (ports_queue s c x).next) (served s lim (asks c) k.0)
  unfolding called
  runs c x k = calls s D shaped.some lim x k.0 k.1 (asks c)

  keep : (c : At) (x : Store) → Kept x → Kept (ports_queue s c x).next
  keep c x k = ((served s lim (asks c) k.0).next, (runs c x k).holds)

  -- a request at another port leaves the list
  apart : (c : At) (st : Lists) (j : ℕ) → (c.queue ≡ j → ⊥) → (served s lim (asks c) st).next j ≡ st j
  apart c st j ne = elim (dec_lt c.queue s.ports) [
    | yes l ↦ ap (λ (y : Step Said Lists). y.next j) (served-in s lim (asks c) st l) ∙ (is-upd st c.queue _).else j (λ e. ne (sym e))
    | no l ↦ ap (λ (y : Step Said Lists). y.next j) (served-out s lim (asks c) st (omega arith))
  ]

  own : (c : At) (x : Store) (k : Kept x) → c.queue < s.ports → (f : Element → Bool)
      → times f ((served s lim (asks c) k.0).next c.queue) + said.given c.asks (ports_queue s c x).said f ≡ times f (k.0 c.queue) + said.brought c.asks (ports_queue s c x).said f
  own c x k l f =
      let st = k.0 in
      let y = plain_with (ranks_of s) (accepts s lim st c.queue) (ask c.asks) (st c.queue) in
      let e = served-in s lim (asks c) st l in
      let a : (ports_queue s c x).said ≡ answer_of y.said = ap answer_of ((runs c x k).alike ∙ ap (λ (z : Step Said Lists). z.said) e) in
      let n : (served s lim (asks c) st).next c.queue ≡ y.next = ap (λ (z : Step Said Lists). z.next c.queue) e ∙ (is-upd st c.queue y.next).here in
      rw (n, a) (sums (ranks_of s) (accepts s lim st c.queue) c.asks (st c.queue) f)

  module _ (j : ℕ) (j< : j < s.ports) where
    abbrev Moved : Store → At → (Element → Bool) → Type 0
    Moved x c f =
        times f (stored_at s j (ports_queue s c x).next) + said.given (seen_by j c) (ports_queue s c x).said f ≡ times f (stored_at s j x) + said.brought (seen_by j c) (ports_queue s c x).said f

    moved : (c : At) (x : Store) → Kept x → (f : Element → Bool) → Moved x c f
    moved c x k f =
        rw (stored-at s D shaped.some lim _ _ _ (runs c x k).holds j j<, stored-at s D shaped.some lim x.bits x.words k.0 k.1 j j<)
        (elim (ℕ_discrete c.queue j) [ yes e ↦ here e | no e ↦ there e ])
      where
        here : c.queue ≡ j → times f ((served s lim (asks c) k.0).next j) + said.given (seen_by j c) (ports_queue s c x).said f ≡ times f (k.0 j) + said.brought (seen_by j c) (ports_queue s c x).said f
        here e =
            rw (eq-eqb c.queue j e)
            (subst (λ (i : ℕ). times f ((served s lim (asks c) k.0).next i) + said.given c.asks (ports_queue s c x).said f ≡ times f (k.0 i) + said.brought c.asks (ports_queue s c x).said f) e (own c x k (subst (λ (i : ℕ). i < s.ports) (sym e) j<) f))

        there : (c.queue ≡ j → ⊥) → times f ((served s lim (asks c) k.0).next j) + said.given (seen_by j c) (ports_queue s c x).said f ≡ times f (k.0 j) + said.brought (seen_by j c) (ports_queue s c x).said f
        there ne = rw (ne_eqb c.queue j ne) (omega (arith, ap (times f) (apart c k.0 j ne)))

    -- HOLDS at a port, over any list of requests at any ports
    pub port-holds : (cs : List At) → said.Holds (λ f. times f (stored_at s j (leaves (ports_queue s) cs (start s lim b w)))) (map (seen_by j) cs) (answers (ports_queue s) cs (start s lim b w))
    unfolding times
    port-holds cs f =
        let z = start-holds s lim b w shaped fair in
        let bare : times f (stored_at s j (start s lim b w)) ≡ 0 = ap (times f) (stored-at s D shaped.some lim (start s lim b w).bits (start s lim b w).words none z j j<) in
        omega (arith, seen-sum (ports_queue s) (seen_by j) Kept keep (λ x g. times g (stored_at s j x)) moved cs (start s lim b w) (none, z) f)

    -- TAGGED: no element of tag 0 is held there, and none has come out
    pub port-tagged : (cs : List At) → Tagged (λ f. times f (stored_at s j (leaves (ports_queue s) cs (start s lim b w)))) (map (seen_by j) cs) (answers (ports_queue s) cs (start s lim b w))
    port-tagged cs =
        let h = port-holds cs untagged in
        let n = none_came s j cs (start s lim b w) in
        record { kept = omega (arith, h, n); out = omega (arith, h, n) }
