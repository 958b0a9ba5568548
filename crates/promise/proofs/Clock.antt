-- What is so of every cycle of a machine that works by clock cycles, whatever stands in it. `Ticks`: its tests stand for their causes; then each refusal is given
-- exactly for its cause and leaves what the table says, and no element without a tag is let in.
-- All is said of a `queue` that goes as the clock's cycles do, so that a model may keep a definition and outcome records of its own.
use Rattle.laws.specs.Prelude.{Answer, BadShape, Bool, Damaged, Exactly, Fails, Idle, Means, Refusal, ◌∙◌, ◌≡◌, ap, climb-fine, count_number, false, fine, left_behind, number_of, refl, refusal_number, runs_idle, subst, sym, true, true≢false, ℕ, Result, Ok, Err, None}
use Rattle.promise.specs.Prelude.{Barred, Clear, Clock, Each, Kind, Outcome, Ruling, Step, Table, Told, Untagged, bars, cleared_to, comes, count_refusals, cycle_left, cycle_refusals, cycled, cycling, decided-clear, decided-either, decided-exactly, each-any, ends, goes, held_in, leaves, left, needs, outcome, refusal-told, ruling, step, stops, wipe_refusals, zero-told}

-- ---- a queue whose cycles are the clock's, and whose tests stand for their causes
pub record Ticks {C M : Type 0} (k : Clock C M) (queue : C → M → Step Answer M) : Type 0 where
  pub same : (c : C) (x : M) → queue c x ≡ cycling k c x
  -- each test stands for its cause
  pub shape : (x : M) → Means (k.shape_ok x) (k.Shape x)
  pub torn : (c : C) (x : M) → Fails (k.sound_ok c x) (k.Torn c x)
  pub root : (x : M) → Fails (k.root_ok x) (k.RootTorn x)
  pub late : (c : C) (x : M) → k.shape_ok x ≡ true → k.sound_ok c x ≡ true → Told (k.late c x)
  -- what is refused after 1 and 2 runs as idle
  pub idles : (c : C) (x : M) → Each (λ n. runs_idle n ≡ true) (k.late c x)
  -- an idle cycle is asked nothing, reads no more than any other, and is done
  pub free : (x : M) → Clear (k.late (k.call Idle) x)
  pub calm : (c : C) (x : M) → k.sound_ok c x ≡ true → k.sound_ok (k.call Idle) x ≡ true
  pub rest : (x : M) → k.gives (k.call Idle) x ≡ Ok None
  -- what is let in is no refusal
  pub zero : (c : C) (x : M) → number_of (k.gives c x) ≡ 0
  -- a cycle keeps the shape
  pub stays : (c : C) (x : M) → k.shape_ok (k.moves c x) ≡ k.shape_ok x

-- the number that a cycle says
abbrev said : {M : Type 0} → Outcome M → ℕ
said o = number_of o.answer

module _ {C M : Type 0} {k : Clock C M} {queue : C → M → Step Answer M} (t : Ticks k queue) where
  abbrev now : C → M → Outcome M
  now c x = outcome (queue c x).said (queue c x).next

  now-is : (c : C) (x : M) → now c x ≡ cycled k c x
  now-is c x = ap (λ (s : Step Answer M). outcome s.said s.next) (t.same c x)

  -- what is so of a refused request run as idle and of one that is let in is so of a cycle that finds shape and words in order
  pub in_order : (c : C) (x : M) (P : Outcome M → Type 0) → k.shape_ok x ≡ true → k.sound_ok c x ≡ true → Each (λ n. P (outcome (Err n) (k.moves (k.call Idle) x))) (k.late c x)
      → (Clear (k.late c x) → P (outcome (k.gives c x) (k.moves c x))) → P (now c x)
  in_order c x P e f refused good =
      subst P (sym (now-is c x))
      (rw (e, f) (decided-either (λ n. ruling (Err n) (k.call Idle)) (λ (g : Ruling C). P (goes k g x)) (k.late c x) (ruling (k.gives c x) c) refused good))

  -- a cycle of a bad shape, and one that meets damage, leave everything
  pub misshapen : (c : C) (x : M) → k.shape_ok x ≡ false → queue c x ≡ step (Err BadShape) x
  misshapen c x e = t.same c x ∙ rw e refl

  pub damaged : (c : C) (x : M) → k.shape_ok x ≡ true → k.sound_ok c x ≡ false → queue c x ≡ step (Err Damaged) x
  damaged c x e f = t.same c x ∙ rw (e, f) refl

  -- what is so of these two, and of a cycle in order, is so of the cycle
  pub either : (c : C) (x : M) (P : Outcome M → Type 0) → P (left x BadShape) → P (left x Damaged)
      → (k.shape_ok x ≡ true → k.sound_ok c x ≡ true → Each (λ n. P (outcome (Err n) (k.moves (k.call Idle) x))) (k.late c x))
      → (k.shape_ok x ≡ true → k.sound_ok c x ≡ true → Clear (k.late c x) → P (outcome (k.gives c x) (k.moves c x))) → P (now c x)
  either c x P bad torn refused good = go (k.shape_ok x) refl (k.sound_ok c x) refl
    where
      go : (a : Bool) → k.shape_ok x ≡ a → (b : Bool) → k.sound_ok c x ≡ b → P (now c x)
      go true e true f = in_order c x P e f (refused e f) (good e f)
      go true e false f = subst (λ (s : Step Answer M). P (outcome s.said s.next)) (sym (damaged c x e f)) torn
      go false e b f = subst (λ (s : Step Answer M). P (outcome s.said s.next)) (sym (misshapen c x e)) bad

  -- KIND
  pub kind : ((c : C) (x : M) → Kind (k.wants c) (k.gives c x)) → (c : C) (x : M) → number_of (queue c x).said ≡ 0 → Kind (k.wants c) (queue c x).said
  kind kinds c x =
      either c x (λ o. number_of o.answer ≡ 0 → Kind (k.wants c) o.answer) (λ e. absurd (zero-told BadShape (sym e))) (λ e. absurd (zero-told Damaged (sym e)))
      (λ s f. each-any _ (λ n e. absurd (zero-told n (sym e))) (k.late c x)) (λ s f g e. kinds c x)

  -- NUMBERS: 0, 1, 2, or that of a refusal in the table
  pub numbered : (P : ℕ → Type 0) (c : C) (x : M) → P 0 → P 1 → P 2 → Each (λ n. P (refusal_number n)) (k.late c x) → P (number_of (queue c x).said)
  numbered P c x z one two each = either c x (λ o. P (number_of o.answer)) one two (λ s f. each) (λ s f g. subst P (sym (t.zero c x)) z)

  -- BARRED: an element without a tag is never let in
  pub barred : (c : C) (x : M) → (Untagged (k.wants c) → Clear (k.late c x) → ⊥) → Barred (k.wants c) (queue c x).said
  barred c x tags =
      either c x (λ o. Barred (k.wants c) o.answer) (λ u e. zero-told BadShape (sym e)) (λ u e. zero-told Damaged (sym e)) (λ s f. each-any _ (λ n u e. zero-told n (sym e)) (k.late c x))
      (λ s f h u e. tags u h)

  pub no-damage : (c : C) (x : M) → k.sound_ok c x ≡ true → k.Torn c x → ⊥
  no-damage c x e d = true≢false (sym e ∙ (t.torn c x).shown d)

  -- every cycle keeps the shape
  pub shape-stays : (c : C) (x : M) → k.shape_ok (queue c x).next ≡ k.shape_ok x
  shape-stays c x = either c x (λ o. k.shape_ok o.words ≡ k.shape_ok x) refl refl (λ s f. each-any _ (λ n. t.stays (k.call Idle) x) (k.late c x)) (λ s f g. t.stays c x)

  -- a request that no test refuses is let in
  pub let-in : (c : C) (x : M) → k.shape_ok x ≡ true → k.sound_ok c x ≡ true → Clear (k.late c x) → queue c x ≡ step (k.gives c x) (k.moves c x)
  let-in c x e f d = t.same c x ∙ rw (e, f) (ap (λ (g : Ruling C). step g.answer (k.moves g.op x)) (decided-clear (λ n. ruling (Err n) (k.call Idle)) (k.late c x) _ d))

  -- an idle cycle that finds shape and words in order runs
  pub idle-runs : (c : C) (x : M) → k.shape_ok x ≡ true → k.sound_ok c x ≡ true → queue (k.call Idle) x ≡ step (Ok None) (k.moves (k.call Idle) x)
  idle-runs c x e f = let-in (k.call Idle) x e (t.calm c x f) (t.free x) ∙ ap (λ (a : Answer). step a (k.moves (k.call Idle) x)) (t.rest x)

  -- .. and one that is not refused has run
  pub idle-ran : (x : M) → number_of (queue (k.call Idle) x).said ≡ 0 → queue (k.call Idle) x ≡ step (Ok None) (k.moves (k.call Idle) x)
  idle-ran x z = go (k.shape_ok x) refl (k.sound_ok (k.call Idle) x) refl
    where
      go : (a : Bool) → k.shape_ok x ≡ a → (b : Bool) → k.sound_ok (k.call Idle) x ≡ b → queue (k.call Idle) x ≡ step (Ok None) (k.moves (k.call Idle) x)
      go true e true f = idle-runs (k.call Idle) x e f
      go true e false f = absurd (zero-told Damaged (sym z ∙ ap (λ (s : Step Answer M). number_of s.said) (damaged (k.call Idle) x e f)))
      go false e b f = absurd (zero-told BadShape (sym z ∙ ap (λ (s : Step Answer M). number_of s.said) (misshapen (k.call Idle) x e)))

  -- ---- EXACTLY: the columns "Exactly when" and "Left behind"
  module _ (c : C) (x : M) where
    abbrev behind : Refusal → Outcome M
    behind = cycle_left k queue x

    refused_as : k.shape_ok x ≡ true → k.sound_ok c x ≡ true → (n : Refusal) → runs_idle n ≡ true → outcome (Err n) (k.moves (k.call Idle) x) ≡ behind n
    unfolding leaves
    refused_as e f n i = rw i (ap (λ (s : Step Answer M). outcome (Err n) s.next) (sym (idle-runs c x e f)))

    each-as : k.shape_ok x ≡ true → k.sound_ok c x ≡ true → (a : Table) → Each (λ n. runs_idle n ≡ true) a → Each (λ n. goes k (ruling (Err n) (k.call Idle)) x ≡ behind n) a
    each-as e f ends i = tt
    each-as e f (needs n t P l) i = (refused_as e f n i.0, each-as e f l i.1)
    each-as e f (stops n t P l) i = (refused_as e f n i.0, each-as e f l i.1)
    each-as e f (bars n t P l) i = (refused_as e f n i.0, each-as e f l i.1)

    pub exactly-cycle : Exactly said behind (now c x) (cycle_refusals k c x)
    exactly-cycle =
        subst (λ (o : Outcome M). Exactly said behind o (cycle_refusals k c x)) (sym (now-is c x))
        (decided-exactly said behind refusal-told (λ (o : Outcome M). o) (left x) (needs BadShape (k.shape_ok x) (k.Shape x) (bars Damaged (k.sound_ok c x) (k.Torn c x) ends)) (goes k (comes k c x) x) _
        (t.shape x, λ s. (t.torn c x, λ n. tt)) (refl, (refl, tt)) (λ q.
        decided-exactly said behind refusal-told (λ g. goes k g x) (λ n. ruling (Err n) (k.call Idle)) (k.late c x) (ruling (k.gives c x) c) fine (t.late c x q.0 q.1.0)
        (each-as q.0 q.1.0 (k.late c x) (t.idles c x)) (λ d. climb-fine said behind _ (λ n z. zero-told n (sym (t.zero c x) ∙ z)))))

    pub stands : (n : Refusal) → number_of (queue c x).said ≡ refusal_number n → now c x ≡ behind n
    stands = left_behind said behind exactly-cycle

  -- clear and held, whatever stands in the machine
  pub exactly-clear : (x : M) → Exactly said (left x) (cleared_to k x) (wipe_refusals k x)
  exactly-clear x =
      decided-exactly said (left x) refusal-told (λ (o : Outcome M). o) (left x) (needs BadShape (k.shape_ok x) (k.Shape x) ends) (outcome (Ok None) (k.wipe x)) fine
      (t.shape x, λ s. tt) (refl, tt) (λ q. climb-fine said (left x) _ (λ n z. zero-told n z))

  pub exactly-held : (x : M) → Exactly count_number Err (held_in k x) (count_refusals k x)
  exactly-held x =
      decided-exactly count_number Err refusal-told (λ (c : Result ℕ Refusal). c) Err (needs BadShape (k.shape_ok x) (k.Shape x) (bars Damaged (k.root_ok x) (k.RootTorn x) ends)) (Ok (k.held x)) fine
      (t.shape x, λ s. (t.root x, λ n. tt)) (refl, (refl, tt)) (λ q. climb-fine count_number Err _ (λ n z. zero-told n z))
