-- The promises of fair ranks over the one-at-a-time tree: from a reset that is accepted, over any list of calls, however served strips are attributed.
use Rattle.laws.specs.Prelude.{All, Answer, Bool, Element, First, List, Pop, Push, Refusal, Request, [], ◌*◌, ◌+◌, ◌<◌, ◌∙◌, ◌∷◌, ◌≡◌, ◌≤◌, ◌⊎◌, all_map, and_left, and_right, ap, arith, cond, count_number, count_of, eq-eqb, eqb, eqb-true, false, fine, get_or, get_or-set_other, get_or-set_same, inl, inr, is-upd, le-ltb, length, ltb, not-suc-le-zero, number_of, refl, refusal_number, stop, subst, suc, sum_of, sym, true, upd, zero, ℕ, ℕ_discrete, ⊎_elim, Ok, None, Some, Err}
use Rattle.promise.specs.Prelude.{Least, always, hit, lower, same, triple, zero-told}
use Rattle.tree_model.proofs.Exactly as tree
use Rattle.tree_model.proofs.Laws.{Kept, kept-held, kept-least, kept-numbers, leaves_kept, many-held, start-kept, stored-holding}
use Rattle.tree_model.specs.Prelude.{Outcome, Shape, after, called, held_refusals, holding, levels_of, refusals, room, root_of, start, stored_count, sum_counts, tree_of}
use Rattle.fair_model.specs.Calls.{clock_of, Desk, desk, last_of, next_element, next_finish, noted, pops, pushes, Reply, resets, state_words, told}
use Rattle.fair_model.specs.Ledger.{AllLawful, anew, comes, fresh, goes, Lawful, listed, Move, moved, no_strip, rank, stays, Strip, Within, World}
use Rattle.fair_model.specs.Promise.{Attributed, book, booked, Call, desk_at, Entry, fair_queue, fair_refusals, From, move_by, move_of, moves, Noted, opened, place_by, place_of, pop, push, queued, reset, Runs, served_in, SteadyIn, Struck, StruckIn, world_at}
use Rattle.fair_model.specs.Ranks.{cells, finish, Good, latest, step}
use Rattle.fair_model.specs.Answers.{FairAnswer}
use Rattle.std.specs.Prelude.{Ok, None, Some}
use Rattle.fair_model.specs.declared.FairRefusal.{FairRefusal}
use Rattle.fair_model.specs.declared.FairRefusal.TheVariants.{NotEmpty, Queue}
use Rattle.fair_model.proofs.Agrees.{Agrees, follows, moves-agree, moves-lawful, sum-as}
use Rattle.fair_model.proofs.Bound.{bound}
use Rattle.fair_model.proofs.Exactly.{exactly, queued-first}
use Rattle.fair_model.proofs.Orderly.{cost-some, fresh-orderly, goes_first, goes_later, Orderly, Right, run-orderly}
use Rattle.fair_model.proofs.Finish.{finish-is}
use Rattle.fair_model.proofs.Outcomes.{blank-at, blank-length, pop-either, push-either, push-gives-none, reset-either}

-- ---- an accepted reset
stored-le : (m k : ℕ) (ws : List ℕ) (f : Element → Bool) → stored_count (room m (suc k)) ws f ≤ stored_count (room m (suc k)) ws always
unfolding holding
stored-le m k ws f = omega (arith, stored-holding m k ws f, stored-holding m k ws always, many-held f (suc k) (tree_of m (suc k) (levels_of m (suc k) ws 0 1) 0))

reset-agrees : (m k : ℕ) (d : Desk) → Kept m k d.store → (resets m (suc k) d).said ≡ Ok None → Agrees m k fresh (resets m (suc k) d).next
unfolding sum_of
reset-agrees m k d kept =
    reset-either m (suc k) d (λ (z : Reply). z.said ≡ Ok None → Agrees m k fresh z.next) (λ x e. let z : ◌≡◌ {A = ℕ} 0 1 = cc in absurd (omega arith))
    (λ long e h. record {
      kept = kept;
      long = blank-length d.state;
      clock = sym (blank-at d.state 0 (omega arith));
      last = λ i h. sym (blank-at d.state (suc i) (omega arith));
      holds = λ f. omega (arith, stored-le m k d.store f, ap count_of e, (kept-held m k d.store kept).1);
    })

-- ---- in the ledger: nothing falls but by a reset
moved-rises : (v : Move) (s : World) → Lawful v s → Orderly s → (v ≡ anew → ⊥) → (s.clock ≤ (moved v s).clock) × ((i : ℕ) → s.last i ≤ (moved v s).last i)
unfolding moved
moved-rises stays s h o ne = (omega arith, λ i. omega arith)
moved-rises (comes f w n t) s h o ne = (
  omega arith,
  λ i. elim (ℕ_discrete i f) [
    | yes e ↦ subst (λ (j : ℕ). s.last j ≤ upd s.last f (finish s.clock (s.last f) w n) j) (sym e)
        (omega (arith, (is-upd s.last f (finish s.clock (s.last f) w n)).here, finish-is s.clock (s.last f) w n))
    | no e ↦ omega (arith, (is-upd s.last f (finish s.clock (s.last f) w n)).else i e)
  ],
)
moved-rises (goes q) s h o ne = (goes_later s o q h.0 h.1, λ i. omega arith)
moved-rises anew s h o ne = absurd (ne refl)

none-listed : (f : Element → Bool) (l : List Strip) → All (λ x. f x.element ≡ false) l → listed l f ≡ 0
unfolding sum_of
none-listed f [] h = refl
none-listed f (x ∷ l) h = omega (arith, ap hit h.0, none-listed f l h.1)

-- ---- a served strip is in the ledger
triple-self : (e : Element) → triple e e ≡ true
triple-self e = rw (eq-eqb e.rank.0 e.rank.0 refl, eq-eqb e.tag.0 e.tag.0 refl, eq-eqb e.length.0 e.length.0 refl)

triple-is : (e x : Element) → triple e x ≡ true → x ≡ e
triple-is e x h =
    let h₁ = and_left (same e x) (eqb e.length.0 x.length.0) h in
    let p = eqb-true e.rank.0 x.rank.0 (and_left (eqb e.rank.0 x.rank.0) (eqb e.tag.0 x.tag.0) h₁) in
    let q = eqb-true e.tag.0 x.tag.0 (and_right (eqb e.rank.0 x.rank.0) (eqb e.tag.0 x.tag.0) h₁) in
    let r = eqb-true e.length.0 x.length.0 (and_right (same e x) (eqb e.length.0 x.length.0) h) in
    sym (λ i. record { rank = record { 0 = p i }; tag = record { 0 = q i }; length = record { 0 = r i } })

place-right : (e : Element) (l : List Strip) → 0 < listed l (triple e) → (place_of e l < length l) × ((get_or l (place_of e l) no_strip).element ≡ e)
unfolding sum_of place_of
place-right e [] h = absurd (not-suc-le-zero h)
place-right e (x ∷ l) h = go (triple e x.element) refl h (place-right e l)
  where
    go : (b : Bool) → triple e x.element ≡ b → 0 < hit b + listed l (triple e) → (0 < listed l (triple e) → (place_of e l < length l) × ((get_or l (place_of e l) no_strip).element ≡ e))
        → (cond b 0 (suc (place_of e l)) < suc (length l)) × ((get_or (x ∷ l) (cond b 0 (suc (place_of e l))) no_strip).element ≡ e)
    go true t h f = (omega arith, triple-is e x.element t)
    go false t h f = let g = f (omega arith) in (omega (arith, g.0), g.1)

module _ (m k : ℕ) where
  struck-pop : (s : World) (d : Desk) → Agrees m k s d → (b : Answer) → (called m (suc k) Pop d.store).answer ≡ b → Struck (told b) (place_by (told b) s.waiting) s
  struck-pop s d a (Ok None) e = tt
  struck-pop s d a (Ok (Some x)) e = place-right x s.waiting (omega (arith, sum-as m k s d a Pop (Ok (Some x)) e (triple x), ap hit (triple-self x)))
  struck-pop s d a (Err r) e = tt

  struck-push : (s : World) (d : Desk) (x : Element) (b : Answer) → (called m (suc k) (Push x) d.store).answer ≡ b → Struck (told b) (place_by (told b) s.waiting) s
  struck-push s d x (Ok None) e = tt
  struck-push s d x (Ok (Some y)) e = absurd (push-gives-none m (suc k) d.store x y e)
  struck-push s d x (Err r) e = tt

  abbrev Fits : World → Reply → Type 0
  Fits s z = Struck z.said (place_by z.said s.waiting) s

  struck : (s : World) (d : Desk) → Agrees m k s d → (c : Call) → Fits s (fair_queue m (suc k) c d)
  unfolding fair_queue
  struck s d a (push f w n t) =
      push-either m (suc k) d f w n t (Fits s) (λ x. tt) (λ good long fits. struck-push s d (next_element d f w n t) (called m (suc k) (Push (next_element d f w n t)) d.store).answer refl)
  struck s d a pop = pop-either m (suc k) d (Fits s) (λ x. tt) (λ long. struck-pop s d a (called m (suc k) Pop d.store).answer refl)
  struck s d a reset = reset-either m (suc k) d (Fits s) (λ x. tt) (λ long e. tt)

  book-attributed : (cs : List Call) (d : Desk) (s : World) → Agrees m k s d → Attributed m (suc k) (book m (suc k) cs d s) d s
  unfolding book
  book-attributed [] d s a = tt
  book-attributed (c ∷ cs) d s a =
      let t = struck s d a c in
      (t, book-attributed cs (fair_queue m (suc k) c d).next (moved (move_by m (suc k) (booked m (suc k) c d s) d) s) (follows m k s d a (booked m (suc k) c d s) t).agrees)

-- ---- what holds wherever words and ledger agree and the ledger is in order
module _ (m k : ℕ) (d : Desk) (s : World) (a : Agrees m k s d) (o : Orderly s) where
  served-lawful : (e : Element) (q : ℕ) → (pops m (suc k) d).said ≡ Ok (Some e) → Struck (Ok (Some e)) q s → Lawful (goes q) s
  unfolding fair_queue
  served-lawful e q p t = subst (λ (z : FairAnswer). Lawful (move_of pop z q) s) p (follows m k s d a (record { call = pop; place = q }) (subst (λ (z : FairAnswer). Struck z q s) (sym p) t)).lawful

  served-least : (e : Element) → (pops m (suc k) d).said ≡ Ok (Some e) → stored_count (room m (suc k)) d.store (lower e.rank.0) ≡ 0
  served-least e =
      pop-either m (suc k) d (λ (z : Reply). z.said ≡ Ok (Some e) → stored_count (room m (suc k)) d.store (lower e.rank.0) ≡ 0)
      (λ x p. let z : ◌≡◌ {A = ℕ} 0 1 = cc in absurd (omega arith)) (λ long. by (called m (suc k) Pop d.store).answer refl)
    where
      by : (b : Answer) → (called m (suc k) Pop d.store).answer ≡ b → told b ≡ Ok (Some e) → stored_count (room m (suc k)) d.store (lower e.rank.0) ≡ 0
      by (Ok None) p t = let z : ◌≡◌ {A = ℕ} 0 1 = cc in absurd (omega arith)
      by (Ok (Some y)) p t =
          let same : y ≡ e = cc in
          subst (λ (x : Element). stored_count (room m (suc k)) d.store (lower x.rank.0) ≡ 0) same
          (subst (λ (b : Answer). Least (stored_count (room m (suc k)) d.store) Pop b) p (kept-least m k d.store a.kept Pop) refl)
      by (Err y) p t = let z : ◌≡◌ {A = ℕ} 0 1 = cc in absurd (omega arith)

  abbrev Limit : Refusal → Type 0
  Limit q = (refusal_number q ≡ 5) ⊎ (refusal_number q ≡ 6) ⊎ (refusal_number q ≡ 7)

  -- a refusal of the queue's own table, on the store that the ledger goes with
  limit-of : (r : Request) (x : FairRefusal) → First (queued (refusals m (suc k) r d.store) fine) x → (q : Refusal) → x ≡ Queue q → Limit q
  limit-of r x h q e = queued-first (λ y. (q : Refusal) → y ≡ Queue q → Limit q) (refusals m (suc k) r d.store) fine (λ y v q e. by y v q (same_queue e)) (λ y v. absurd v) x h q e
    where
      same_queue : {a b : Refusal} → ◌≡◌ {A = FairRefusal} (Queue a) (Queue b) → a ≡ b
      same_queue {a} {b} e = cc

      by : (y : Refusal) → First (refusals m (suc k) r d.store) y → (q : Refusal) → y ≡ q → Limit q
      by y v q e =
          let n : number_of (called m (suc k) r d.store).answer ≡ refusal_number q = ap (λ (o : Outcome). number_of o.answer) ((tree.exactly m (suc k) d.store r).always y v) ∙ ap refusal_number e in
          ⊎_elim (λ z. absurd (zero-told q (sym z ∙ n))) (λ z. ⊎_elim (λ z. inl (sym n ∙ z)) (λ z. inr (⊎_elim (λ z. inl (sym n ∙ z)) (λ z. inr (sym n ∙ z)) z)) z) (kept-numbers m k d.store a.kept r)

  -- .. and held is not refused there
  held-fine : (x : FairRefusal) → First (queued (held_refusals m (suc k) d.store) (stop NotEmpty (0 < sum_counts (root_of m d.store)) fine)) x → (q : Refusal) → x ≡ Queue q → ⊥
  held-fine x h =
      queued-first (λ y. (q : Refusal) → y ≡ Queue q → ⊥) (held_refusals m (suc k) d.store) (stop NotEmpty (0 < sum_counts (root_of m d.store)) fine)
      (λ y v q e. zero-told y (sym (kept-held m k d.store a.kept).0 ∙ ap count_number ((tree.exactly-held m (suc k) d.store).always y v)))
      (λ y v q e. ⊎_elim (λ w. let z : ◌≡◌ {A = ℕ} 0 1 = let f = w.1 in cc in omega arith) (λ w. w.1) v) x h

  limits : (c : Call) (q : Refusal) → First (fair_refusals m (suc k) c d) (Queue q) → Limit q
  limits (push f w n t) q h =
      ⊎_elim (λ u. let z : ◌≡◌ {A = ℕ} 0 1 = let e = u.1 in cc in absurd (omega arith)) (λ u. ⊎_elim (λ v. absurd (v.0 a.long))
      (λ v. ⊎_elim (λ w. let z : ◌≡◌ {A = ℕ} 0 1 = let e = w.1 in cc in absurd (omega arith)) (λ y. limit-of (Push (next_element d f w n t)) (Queue q) y.1 q refl) v.1) u.1) h
  limits pop q h = ⊎_elim (λ v. absurd (v.0 a.long)) (λ v. limit-of Pop (Queue q) v.1 q refl) h
  limits reset q h = ⊎_elim (λ v. absurd (v.0 a.long)) (λ v. absurd (held-fine (Queue q) v.1 q refl)) h

  runs_by : Runs m (suc k) d s
  runs_by =
      record {
        clock = a.clock;
        last = a.last;
        holds = a.holds;
        ahead = a.holds (lower (clock_of d.state))
            ∙ none-listed (lower (clock_of d.state)) s.waiting (all_map (λ x. s.clock ≤ rank x) (λ x. ltb (rank x) (clock_of d.state) ≡ false) (λ x h. le-ltb (rank x) (clock_of d.state) (omega (arith, h, a.clock))) s.waiting o.ahead);
        top = a.holds (λ e. ltb latest e.rank.0)
            ∙ none-listed (λ e. ltb latest e.rank.0) s.waiting (all_map Right (λ x. ltb latest (rank x) ≡ false) (λ x h. le-ltb latest (rank x) h.top) s.waiting o.right);
        rises = λ c g ne.
            let f = follows m k s d a c g in
            let r = moved-rises (move_by m (suc k) c d) s f.lawful o ne in
            (omega (arith, r.0, a.clock, f.agrees.clock), λ i h. omega (arith, r.1 i, a.last i h, f.agrees.last i h));
        undamaged = λ c q e. limits c q ((exactly m (suc k) d c).only (Queue q) e);
        least = served-least;
        in_order = λ e q p t. let l = served-lawful e q p t in goes_first s o q l.0 l.1;
      }

-- THE PROMISES. Any order and number of levels that pass the shape, any words to start with; a queue cleared and used by its own requests; a reset that
-- is accepted; then any calls

start-agrees : (m k : ℕ) (ws : List ℕ) (rs : List Request) (st : List ℕ) → Shape m (suc k) (length ws) → (opened m (suc k) ws rs st).said ≡ Ok None
    → Agrees m k fresh (opened m (suc k) ws rs st).next
start-agrees m k ws rs st sh ok = reset-agrees m k (desk st (after m (suc k) rs ws)) (leaves_kept m k rs (start m (suc k) ws) (start-kept m k ws sh)) ok

-- ATTRIBUTABLE: any list of calls can be attributed
pub attributable : (m levels : ℕ) (ws : List ℕ) (rs : List Request) (st : List ℕ) → Shape m levels (length ws) → (opened m levels ws rs st).said ≡ Ok None
    → (cs : List Call) → Attributed m levels (book m levels cs (opened m levels ws rs st).next fresh) (opened m levels ws rs st).next fresh
attributable m zero ws rs st sh ok cs = absurd (not-suc-le-zero sh.some)
attributable m (suc k) ws rs st sh ok cs = book-attributed m k cs (opened m (suc k) ws rs st).next fresh (start-agrees m k ws rs st sh ok)

-- a history from the reset: words and ledger agree, what was done is lawful, and the ledger is in order
pub record Ran (m k : ℕ) (ws : List ℕ) (rs : List Request) (st : List ℕ) (cs : List Entry) : Type 0 where
  pub agrees : Agrees m k (world_at m (suc k) ws rs st cs) (desk_at m (suc k) ws rs st cs)
  pub lawful : AllLawful (moves m (suc k) cs (opened m (suc k) ws rs st).next) fresh
  pub orderly : Orderly (world_at m (suc k) ws rs st cs)

ran : (m k : ℕ) (ws : List ℕ) (rs : List Request) (st : List ℕ) (cs : List Entry) → From m (suc k) ws rs st cs → Ran m k ws rs st cs
ran m k ws rs st cs h =
    let a = start-agrees m k ws rs st h.shape h.accepted in
    let l = moves-lawful m k cs (opened m (suc k) ws rs st).next fresh a h.attributed in
    record {
      agrees = moves-agree m k cs (opened m (suc k) ws rs st).next fresh a h.attributed;
      lawful = l;
      orderly = run-orderly (moves m (suc k) cs (opened m (suc k) ws rs st).next) fresh l fresh-orderly;
    }

-- FAIRNESS: over any stretch of any list of calls, two flows that keep one weight each and always have something waiting are served cells times step
-- that differ by at most one largest strip of each
pub fairness : (m levels : ℕ) (ws : List ℕ) (rs : List Request) (st : List ℕ) (before stretch : List Entry) → From m levels ws rs st before → StruckIn m levels ws rs st before stretch
    → (i j w u : ℕ) → SteadyIn m levels ws rs st before stretch i w → SteadyIn m levels ws rs st before stretch j u
    → Within (144 * step w + 144 * step u) (served_in m levels ws rs st before stretch i * step w) (served_in m levels ws rs st before stretch j * step u)
fairness m zero ws rs st before stretch h t i j w u p q = absurd (not-suc-le-zero h.shape.some)
fairness m (suc k) ws rs st before stretch h t i j w u p q =
    let z = ran m k ws rs st before h in
    bound (moves m (suc k) stretch (desk_at m (suc k) ws rs st before)) (world_at m (suc k) ws rs st before) z.orderly
    (moves-lawful m k stretch (desk_at m (suc k) ws rs st before) (world_at m (suc k) ws rs st before) z.agrees t) i j w u p q

-- RUNS: after any calls from the reset
pub runs : (m levels : ℕ) (ws : List ℕ) (rs : List Request) (st : List ℕ) (cs : List Entry) → From m levels ws rs st cs
    → Runs m levels (desk_at m levels ws rs st cs) (world_at m levels ws rs st cs)
runs m zero ws rs st cs h = absurd (not-suc-le-zero h.shape.some)
runs m (suc k) ws rs st cs h = runs_by m k (desk_at m (suc k) ws rs st cs) (world_at m (suc k) ws rs st cs) (ran m k ws rs st cs h).agrees (ran m k ws rs st cs h).orderly

-- NOTED: whatever the words, an accepted push notes its rank as the flow's last finish, above the one before and above the clock
pub push-notes : (m levels f w n t : ℕ) (d : Desk) → (pushes m levels f w n t d).said ≡ Ok None → Noted d f (next_finish d f w n) (pushes m levels f w n t d).next.state
push-notes m levels f w n t d =
    push-either m levels d f w n t (λ (z : Reply). z.said ≡ Ok None → Noted d f (next_finish d f w n) z.next.state)
    (λ x e. let z : ◌≡◌ {A = ℕ} 0 1 = cc in absurd (omega arith)) (λ good long fits. by good long (called m levels (Push (next_element d f w n t)) d.store).answer)
  where
    by : Good f w n → state_words ≤ length d.state → (b : Answer) → told b ≡ Ok None → Noted d f (next_finish d f w n) (noted b f (next_finish d f w n) d.state)
    by h l (Ok None) e =
        let more : 0 < cells n * step w = cost-some f w n h in
        let within : suc f < length d.state = omega (arith, h.known) in
        record {
          noted = get_or-set_same d.state (suc f) (next_finish d f w n) 0 within;
          later = omega (arith, more, finish-is (clock_of d.state) (last_of d.state f) w n);
          ahead = omega (arith, more, finish-is (clock_of d.state) (last_of d.state f) w n);
          clock = get_or-set_other d.state (suc f) 0 (next_finish d f w n) 0 (λ z. omega arith);
        }
    by h l (Ok (Some x)) e = let z : ◌≡◌ {A = ℕ} 0 1 = cc in absurd (omega arith)
    by h l (Err x) e = let z : ◌≡◌ {A = ℕ} 0 1 = cc in absurd (omega arith)
