-- The words and the ledger agree after every call: the clock, the finishes and what the store holds. So what a call comes to in the ledger is lawful.
use Rattle.laws.specs.Prelude.{All, Answer, Bool, Element, List, Pop, Push, Refusal, Request, [], ◌++◌, ◌+◌, ◌<◌, ◌∙◌, ◌∷◌, ◌≡◌, ◌≤◌, ap, arith, count_of, element, false, get_or, get_or-set_other, get_or-set_same, is-upd, le_of_suc-le-suc, length, length-set, ltb, ltb-false, not-suc-le-zero, refl, set, subst, suc, sum_of, sym, true, upd, zero, ℕ, ℕ_discrete, Ok, None, Some, Err}
use Rattle.promise.specs.Prelude.{Least, always, brought, given, hit, leaves, lower}
use Rattle.tree_model.proofs.Laws.{Kept, call-sum, called-kept, kept-held, kept-least}
use Rattle.tree_model.specs.Prelude.{Outcome, called, held_count, room, stored_count}
use Rattle.fair_model.specs.Calls.{blank_state, clock_of, Desk, desk, last_of, next_element, next_finish, noted, pops, pushes, Reply, resets, state_words, timed, told}
use Rattle.fair_model.specs.Ledger.{AllLawful, anew, comes, entry, found, goes, Lawful, listed, Move, moved, no_strip, rank, run, stays, Strip, without, World}
use Rattle.fair_model.specs.Promise.{Attributed, Call, Entry, fair_queue, move_by, move_of, moves, pop, push, reply_to, reset, Struck}
use Rattle.fair_model.specs.Ranks.{finish, flows, Good, latest}
use Rattle.std.specs.Prelude.{Ok, Some}
use Rattle.fair_model.proofs.Outcomes.{blank-at, blank-length, pop-either, pop-not-done, push-either, push-gives-none, refused-stands, reset-either}

-- ---- what a ledger lists
listed-snoc : (l : List Strip) (y : Strip) (f : Element → Bool) → listed (l ++ y ∷ []) f ≡ listed l f + hit (f y.element)
unfolding sum_of
listed-snoc [] y f = omega arith
listed-snoc (x ∷ l) y f = omega (arith, listed-snoc l y f)

listed-without : (n : ℕ) (l : List Strip) (f : Element → Bool) → n < length l → listed (without n l) f + hit (f (get_or l n no_strip).element) ≡ listed l f
unfolding sum_of without
listed-without n [] f h = absurd (not-suc-le-zero h)
listed-without zero (x ∷ l) f h = omega arith
listed-without (suc n) (x ∷ l) f h = omega (arith, listed-without n l f (le_of_suc-le-suc h))

hit-none : (b : Bool) → hit b ≡ 0 → b ≡ false
hit-none true e = absurd (omega arith)
hit-none false e = refl

-- none below r is listed: no rank is below r
listed-least : (r : ℕ) (l : List Strip) → listed l (lower r) ≡ 0 → All (λ x. r ≤ rank x) l
unfolding sum_of
listed-least r [] h = tt
listed-least r (x ∷ l) h = (ltb-false (rank x) r (hit-none (ltb (rank x) r) (omega arith)), listed-least r l (omega arith))

listed-none : (l : List Strip) → listed l always ≡ 0 → l ≡ []
unfolding sum_of
listed-none [] h = refl
listed-none (x ∷ l) h = absurd (omega arith)

module _ (m k : ℕ) where
  pub record Agrees (s : World) (d : Desk) : Type 0 where
    pub kept : Kept m k d.store
    pub long : state_words ≤ length d.state
    pub clock : s.clock ≡ clock_of d.state
    pub last : (i : ℕ) → i < flows → s.last i ≡ last_of d.state i
    pub holds : (f : Element → Bool) → stored_count (room m (suc k)) d.store f ≡ listed s.waiting f

  -- a call's reply agrees with what it comes to in the ledger, which is lawful
  pub record Follows (v : Move) (s : World) (d : Desk) : Type 0 where
    pub lawful : Lawful v s
    pub agrees : Agrees (moved v s) d

  still : (s : World) (d : Desk) → Agrees s d → Follows stays s d
  unfolding moved
  still s d a = record { lawful = tt; agrees = a }

  -- the same finish by ledger and by words
  same-finish : (s : World) (d : Desk) → Agrees s d → (f w n : ℕ) → f < flows → finish s.clock (s.last f) w n ≡ next_finish d f w n
  same-finish s d a f w n h = rw (a.clock, a.last f h)

  module _ (s : World) (d : Desk) (a : Agrees s d) where
    -- what the store holds after a request that was answered b
    pub sum-as : (r : Request) (b : Answer) → (called m (suc k) r d.store).answer ≡ b → (f : Element → Bool)
        → stored_count (room m (suc k)) (called m (suc k) r d.store).words f + given r b f ≡ listed s.waiting f + brought r b f
    sum-as r b e f =
        subst (λ (b : Answer). stored_count (room m (suc k)) (called m (suc k) r d.store).words f + given r b f ≡ listed s.waiting f + brought r b f) e
        (call-sum m k r d.store a.kept f ∙ ap (λ (n : ℕ). n + brought r (called m (suc k) r d.store).answer f) (a.holds f))

    -- the queue says no, and everything stands
    queue-refused : (r : Request) (y : Refusal) → (called m (suc k) r d.store).answer ≡ Err y → Follows stays s (desk d.state (called m (suc k) r d.store).words)
    queue-refused r y e = subst (λ (ws : List ℕ). Follows stays s (desk d.state ws)) (sym (refused-stands m (suc k) r d.store y e)) (still s d a)

    -- ---- push
    module _ (f w n t q : ℕ) where
      abbrev r : ℕ
      r = next_finish d f w n

      abbrev x : Element
      x = next_element d f w n t

      abbrev o : Outcome
      o = called m (suc k) (Push x) d.store

      came : Good f w n → r ≤ latest → o.answer ≡ Ok None → Follows (comes f w n t) s (desk (set d.state (suc f) r) o.words)
      unfolding moved
      came good fits e =
          let same : finish s.clock (s.last f) w n ≡ r = same-finish s d a f w n good.known in
          let within : suc f < length d.state = omega (arith, a.long, good.known) in
          record {
            lawful = (good, subst (λ (v : ℕ). v ≤ latest) (sym same) fits);
            agrees =
                record {
                  kept = called-kept m k (Push x) d.store a.kept;
                  long = subst (λ (v : ℕ). state_words ≤ v) (sym (length-set d.state (suc f) r)) a.long;
                  clock = a.clock ∙ sym (get_or-set_other d.state (suc f) 0 r 0 (λ z. omega arith));
                  last = λ i h. elim (ℕ_discrete i f) [
                    | yes p ↦ subst (λ (j : ℕ). upd s.last f (finish s.clock (s.last f) w n) j ≡ last_of (set d.state (suc f) r) j) (sym p)
                        ((is-upd s.last f (finish s.clock (s.last f) w n)).here ∙ same ∙ sym (get_or-set_same d.state (suc f) r 0 within))
                    | no p ↦ (is-upd s.last f (finish s.clock (s.last f) w n)).else i p ∙ a.last i h ∙ sym (get_or-set_other d.state (suc f) (suc i) r 0 (λ z. p (omega (arith, z))))
                  ];
                  holds = λ g. omega (arith, sum-as (Push x) (Ok None) e g, listed-snoc s.waiting (entry s f w n t) g, ap (λ (v : ℕ). hit (g (element v t n))) same);
                };
          }

      taken-follows : Good f w n → r ≤ latest → (b : Answer) → o.answer ≡ b → Follows (move_of (push f w n t) (told b) q) s (desk (noted b f r d.state) o.words)
      taken-follows good fits (Ok None) e = came good fits e
      taken-follows good fits (Ok (Some y)) e = absurd (push-gives-none m (suc k) d.store x y e)
      taken-follows good fits (Err y) e = queue-refused (Push x) y e

      push-follows : Follows (move_of (push f w n t) (pushes m (suc k) f w n t d).said q) s (pushes m (suc k) f w n t d).next
      push-follows =
          push-either m (suc k) d f w n t (λ (z : Reply). Follows (move_of (push f w n t) z.said q) s z.next) (λ y. still s d a)
          (λ good long fits. taken-follows good fits o.answer refl)

    -- ---- pop
    module _ (q : ℕ) where
      abbrev p : Outcome
      p = called m (suc k) Pop d.store

      went : (e : Element) → p.answer ≡ Ok (Some e) → Struck (Ok (Some e)) q s → Follows (goes q) s (desk (set d.state 0 e.rank.0) p.words)
      unfolding moved
      went e h g =
          let same : rank (found s q) ≡ e.rank.0 = ap (λ (y : Element). y.rank.0) g.1 in
          let low : stored_count (room m (suc k)) d.store (lower e.rank.0) ≡ 0 =
          subst (λ (b : Answer). Least (stored_count (room m (suc k)) d.store) Pop b) h (kept-least m k d.store a.kept Pop) refl in
          record {
            lawful = (g.0, subst (λ (v : ℕ). All (λ x. v ≤ rank x) s.waiting) (sym same) (listed-least e.rank.0 s.waiting (sym (a.holds (lower e.rank.0)) ∙ low)));
            agrees =
                record {
                  kept = called-kept m k Pop d.store a.kept;
                  long = subst (λ (v : ℕ). state_words ≤ v) (sym (length-set d.state 0 e.rank.0)) a.long;
                  clock = same ∙ sym (get_or-set_same d.state 0 e.rank.0 0 (omega (arith, a.long)));
                  last = λ i l. a.last i l ∙ sym (get_or-set_other d.state 0 (suc i) e.rank.0 0 (λ z. omega arith));
                  holds = λ f. omega (arith, sum-as Pop (Ok (Some e)) h f, listed-without q s.waiting f g.0, ap (λ (y : Element). hit (f y)) g.1);
                };
          }

      gone-follows : (b : Answer) → p.answer ≡ b → Struck (told b) q s → Follows (move_of pop (told b) q) s (desk (timed b d.state) p.words)
      gone-follows (Ok None) e g = absurd (pop-not-done m (suc k) d.store e)
      gone-follows (Ok (Some y)) e g = went y e g
      gone-follows (Err y) e g = queue-refused Pop y e

      pop-follows : Struck (pops m (suc k) d).said q s → Follows (move_of pop (pops m (suc k) d).said q) s (pops m (suc k) d).next
      pop-follows =
          pop-either m (suc k) d (λ (z : Reply). Struck z.said q s → Follows (move_of pop z.said q) s z.next) (λ y g. still s d a)
          (λ long g. gone-follows p.answer refl g)

    -- ---- reset
    nothing-listed : held_count m (suc k) d.store ≡ Ok 0 → s.waiting ≡ []
    nothing-listed e = listed-none s.waiting (sym (a.holds always) ∙ sym (kept-held m k d.store a.kept).1 ∙ ap count_of e)

    renewed : held_count m (suc k) d.store ≡ Ok 0 → Follows anew s (desk (blank_state d.state) d.store)
    unfolding moved sum_of
    renewed e =
        record {
          lawful = nothing-listed e;
          agrees =
              record {
                kept = a.kept;
                long = blank-length d.state;
                clock = sym (blank-at d.state 0 (omega arith));
                last = λ i h. sym (blank-at d.state (suc i) (omega arith));
                holds = λ f. a.holds f ∙ ap (λ (l : List Strip). listed l f) (nothing-listed e);
              };
        }

    reset-follows : (q : ℕ) → Follows (move_of reset (resets m (suc k) d).said q) s (resets m (suc k) d).next
    reset-follows q = reset-either m (suc k) d (λ (z : Reply). Follows (move_of reset z.said q) s z.next) (λ y. still s d a) (λ long e. renewed e)

    -- FOLLOWS: every call, whatever is asked and however it is attributed
    pub follows : (c : Entry) → Struck (reply_to m (suc k) c d).said c.place s → Follows (move_by m (suc k) c d) s (reply_to m (suc k) c d).next
    unfolding fair_queue
    follows c g = by c.call c.place g
      where
        by : (c : Call) (q : ℕ) → Struck (fair_queue m (suc k) c d).said q s → Follows (move_of c (fair_queue m (suc k) c d).said q) s (fair_queue m (suc k) c d).next
        by (push f w n t) q g = push-follows f w n t q
        by pop q g = pop-follows q g
        by reset q g = reset-follows q

  -- ---- lists of calls
  pub moves-lawful : (cs : List Entry) (d : Desk) (s : World) → Agrees s d → Attributed m (suc k) cs d s → AllLawful (moves m (suc k) cs d) s
  unfolding moves
  moves-lawful [] d s a t = tt
  moves-lawful (c ∷ cs) d s a t =
      let f = follows s d a c t.0 in
      (f.lawful, moves-lawful cs (reply_to m (suc k) c d).next (moved (move_by m (suc k) c d) s) f.agrees t.1)

  pub moves-agree : (cs : List Entry) (d : Desk) (s : World) → Agrees s d → Attributed m (suc k) cs d s → Agrees (run (moves m (suc k) cs d) s) (leaves (reply_to m (suc k)) cs d)
  unfolding moves leaves run
  moves-agree [] d s a t = a
  moves-agree (c ∷ cs) d s a t =
      moves-agree cs (reply_to m (suc k) c d).next (moved (move_by m (suc k) c d) s) (follows s d a c t.0).agrees t.1
