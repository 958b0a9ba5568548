use Rattle.laws.specs.Prelude.{subst, sym, ◌∙◌, ◌≡◌, arith, length, refl, ℕ}
use Rattle.cluster_node.specs.Leaf.{ChoiceFrom, Lies, Under}
use Rattle.cluster.proofs.Downs.{take_within, take-under, child-ready, scanned, Made, choice-four, choice-none, choice-any, choice-first, swap-zero, swap-bare, swap-bad, swap-stays, swap-stop, swap-done}
use Rattle.cluster.proofs.+swap.Goals as goal
use Rattle.cluster.proofs.+swap.Goals.{Else-left-eq0, Joined-four, Joined-k-eq4, Start, else-k-eq4, in-None, in-Some, then-k-eq4}

-- the node lies within the words
lies : (t : ℕ) (c : Start t) → Lies c.args.k c.args.at (length c.args.s.now)
lies t c = take_within _ _ _ _ _ c.requires

-- .. and there are levels left: so do its children
under : (t : ℕ) (c : Else-left-eq0 t) → Under c.args.k c.args.at (length c.args.s.now)
under t c = take-under _ _ _ _ _ c.requires c.if-left-eq0.false

-- a choice of two full children, if one was made
first : (t : ℕ) (c : Joined-k-eq4 t) → Made c.args.k c.room_under-below.result c.args.s.now c.args.at c.if-k-eq4.four
first t c = elim c.if-k-eq4.branch [ then-k-eq4 w ↦ subst (Made _ _ _ _) (sym w.four-is) (choice-four _ _ _ _ _ w.if-k-eq4.true w.choice_full-four.ensures) | else-k-eq4 w ↦ choice-none _ _ _ _ _ w.four-is ]

-- .. or else of any
chosen : (t : ℕ) (c : Joined-four t) → ChoiceFrom c.args.k c.room_under-below.result c.args.s.now c.args.at c.match-four.c
chosen t c = elim c.match-four.branch [ in-None w ↦ choice-any _ _ _ _ _ _ w.choice-c.ensures w.c-is | in-Some w ↦ choice-any _ _ _ _ _ _ (choice-first _ _ _ _ _ _ (first t (goal.at.Joined-four t c).Joined-k-eq4) w.in-Some.is) w.c-is ]

pub overflow_add-i : goal.overflow_add-i
overflow_add-i t c = omega (arith, lies t (goal.at.overflow_add-i t c).Start)

pub overflow_mul-i : goal.overflow_mul-i
overflow_mul-i t c = omega (arith, lies t (goal.at.overflow_mul-i t c).Start, c.requires.place)

pub overflow_add-i-2 : goal.overflow_add-i-2
overflow_add-i-2 t c = omega (arith, lies t (goal.at.overflow_add-i-2 t c).Start, c.requires.place)

pub set_place-requires : goal.set_place-requires
set_place-requires t c = omega (arith, lies t (goal.at.set_place-requires t c).Start, c.requires.place)

pub shape_of-s-then-left-eq0 : goal.shape_of-s-then-left-eq0
shape_of-s-then-left-eq0 t c = c.set_place.auto.s

pub returns-then-left-eq0 : goal.returns-then-left-eq0
returns-then-left-eq0 t c = λ m e. swap-zero _ _ m _ _ _ _ _ e _ c.if-left-eq0.true c.set_place.ensures

pub bare_at-requires : goal.bare_at-requires
bare_at-requires t c = omega (arith, lies t (goal.at.bare_at-requires t c).Start)

pub set_place-requires-then-bare_at : goal.set_place-requires-then-bare_at
set_place-requires-then-bare_at t c = omega (arith, lies t (goal.at.set_place-requires-then-bare_at t c).Start, c.requires.place)

pub shape_of-s-then-bare_at : goal.shape_of-s-then-bare_at
shape_of-s-then-bare_at t c = c.set_place-then-bare_at.auto.s

pub returns-then-bare_at : goal.returns-then-bare_at
returns-then-bare_at t c = λ m e. swap-bare _ _ m _ _ _ _ _ e c.if-left-eq0.false _ c.bare_at.ensures _ c.if-bare_at.true c.set_place-then-bare_at.ensures

pub overflow_add-at : goal.overflow_add-at
overflow_add-at t c = omega (arith, under t (goal.at.overflow_add-at t c).Else-left-eq0)

pub overflow_add-at-then-k-eq4 : goal.overflow_add-at-then-k-eq4
overflow_add-at-then-k-eq4 t c = omega (arith, under t (goal.at.overflow_add-at-then-k-eq4 t c).Else-left-eq0, c.if-k-eq4.true)

pub low_four-p-requires : goal.low_four-p-requires
low_four-p-requires t c = omega (arith, under t (goal.at.low_four-p-requires t c).Else-left-eq0, c.if-k-eq4.true)

pub overflow_add-at-then-k-eq4-2 : goal.overflow_add-at-then-k-eq4-2
overflow_add-at-then-k-eq4-2 t c = omega (arith, under t (goal.at.overflow_add-at-then-k-eq4-2 t c).Else-left-eq0)

pub overflow_add-at-then-k-eq4-3 : goal.overflow_add-at-then-k-eq4-3
overflow_add-at-then-k-eq4-3 t c = omega (arith, under t (goal.at.overflow_add-at-then-k-eq4-3 t c).Else-left-eq0, c.if-k-eq4.true)

pub low_four-q-requires : goal.low_four-q-requires
low_four-q-requires t c = omega (arith, under t (goal.at.low_four-q-requires t c).Else-left-eq0, c.if-k-eq4.true)

pub choice_full-four-requires : goal.choice_full-four-requires
choice_full-four-requires t c = scanned _ _ _ _ _ (under t (goal.at.choice_full-four-requires t c).Else-left-eq0) c.if-k-eq4.true c.low_four-p.ensures c.low_four-q.ensures

pub choice-c-requires : goal.choice-c-requires
choice-c-requires t c = under t (goal.at.choice-c-requires t c).Else-left-eq0

pub shape_of-s-then-not-c : goal.shape_of-s-then-not-c
shape_of-s-then-not-c t c = refl

pub returns-then-not-c : goal.returns-then-not-c
returns-then-not-c t c = λ m e. swap-bad _ _ m _ _ _ _ _ e c.if-left-eq0.false _ c.bare_at.ensures c.if-bare_at.false _ c.room_under-below.ensures _ (chosen t (goal.at.returns-then-not-c t c).Joined-four) c.if-not-c.true

pub set_place-requires-then-not-lower : goal.set_place-requires-then-not-lower
set_place-requires-then-not-lower t c = omega (arith, lies t (goal.at.set_place-requires-then-not-lower t c).Start, c.requires.place)

pub shape_of-s-then-not-lower : goal.shape_of-s-then-not-lower
shape_of-s-then-not-lower t c = c.set_place-then-not-lower.auto.s

pub returns-then-not-lower : goal.returns-then-not-lower
returns-then-not-lower t c = λ m e. swap-stays _ _ m _ _ _ _ _ e c.if-left-eq0.false _ c.bare_at.ensures c.if-bare_at.false _ c.room_under-below.ensures _ (chosen t (goal.at.returns-then-not-lower t c).Joined-four) c.if-not-c.false _ c.lower.ensures _ c.if-not-lower.true-raw c.set_place-then-not-lower.ensures

pub overflow_sub-left : goal.overflow_sub-left
overflow_sub-left t c = let h : c.args.left ≡ 0 → ⊥ = c.if-left-eq0.false in omega arith

pub swap-done-requires : goal.swap-done-requires
swap-done-requires t c = (let h : c.args.left ≡ 0 → ⊥ = c.if-left-eq0.false in omega (arith, c.decreases), child-ready _ _ _ _ _ c.requires _ _ c.if-left-eq0.false (chosen t (goal.at.swap-done-requires t c).Joined-four))

pub shape_of-s-then-not-done : goal.shape_of-s-then-not-done
shape_of-s-then-not-done t c = c.swap-done.auto.s

pub returns-then-not-done : goal.returns-then-not-done
returns-then-not-done t c = λ m e. swap-stop _ _ m _ _ _ _ _ e c.if-left-eq0.false _ c.bare_at.ensures c.if-bare_at.false _ c.room_under-below.ensures _ (chosen t (goal.at.returns-then-not-done t c).Joined-four) c.if-not-c.false _ c.lower.ensures c.if-not-lower.false-raw _ _ c.swap-done.ensures c.if-not-done.true-raw

pub set_place-requires-2 : goal.set_place-requires-2
set_place-requires-2 t c = omega (arith, lies t (goal.at.set_place-requires-2 t c).Start, c.requires.place, c.swap-done.auto.s)

pub shape_of-s : goal.shape_of-s
shape_of-s t c = c.set_place-2.auto.s ∙ c.swap-done.auto.s

pub returns : goal.returns
returns t c = λ m e. swap-done _ _ m _ _ _ _ _ e c.if-left-eq0.false _ c.bare_at.ensures c.if-bare_at.false _ c.room_under-below.ensures _ (chosen t (goal.at.returns t c).Joined-four) c.if-not-c.false _ c.lower.ensures c.if-not-lower.false-raw _ _ c.swap-done.ensures c.if-not-done.false-raw _ c.set_place-2.ensures
