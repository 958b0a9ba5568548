use Rattle.laws.specs.Prelude.{◌+◌, ◌<◌, ◌∙◌, ◌≡◌, ◌≤◌, arith, get_or, length, ltb, refl, ℕ}
use Rattle.cluster_node.specs.Leaf.{Lies, Under}
use Rattle.cluster.proofs.Downs.{put-within, put_under, goes-ready, high-in, put-leaf, put-end, put-bad, put_full, put-stop, put-done, put-counts}
use Rattle.cluster.proofs.+put.Goals as goal
use Rattle.cluster.proofs.+put.Goals.{After-high_lead-f, Else-left-eq0, Else-limit-fewer, Start}

-- the node lies within the words
lies : (t : ℕ) (c : Start t) → Lies c.args.k c.args.at (length c.args.s.now)
lies t c = put-within _ _ _ _ _ c.requires

-- .. and there are levels left: so do its children
under : (t : ℕ) (c : Else-left-eq0 t) → Under c.args.k c.args.at (length c.args.s.now)
under t c = put_under _ _ _ _ _ c.requires c.if-left-eq0.false

-- the highest place is one of them
high : (t : ℕ) (c : After-high_lead-f t) → c.high_lead-f.result.place < c.args.k
high t c =
    high-in c.args.s.now (c.args.at + 2) c.args.k c.high_lead-f.result (omega (arith, lies t (goal.at.After-high_lead-f t c).Start)) c.high_lead-f.ensures

-- where the element goes on, both counts have been tested
counts : (t : ℕ) (c : Else-limit-fewer t) → (get_or c.args.s.now c.args.at 0 ≤ 5460) × (get_or c.args.s.now (c.args.at + 1) 0 ≤ 5460)
counts t c =
    put-counts _ c.args.left c.requires.node _ c.args.x _ _ c.requires.begins _ c.high_lead-f.ensures c.if-not-f.false (lies t (goal.at.Else-limit-fewer t c).Start).some _ c.choose-more.ensures c.if-limit-more.false c.requires.small

pub put_end-requires : goal.put_end-requires
put_end-requires t c = lies t (goal.at.put_end-requires t c).Start

pub shape_of-s-then-left-eq0 : goal.shape_of-s-then-left-eq0
shape_of-s-then-left-eq0 t c = c.put_end.auto.s

pub returns-then-left-eq0 : goal.returns-then-left-eq0
returns-then-left-eq0 t c = λ m e. put-leaf _ _ m _ _ _ _ e c.if-left-eq0.true _ _ c.put_end.ensures

pub overflow_add-at : goal.overflow_add-at
overflow_add-at t c = omega (arith, lies t (goal.at.overflow_add-at t c).Start)

pub high_lead-f-requires : goal.high_lead-f-requires
high_lead-f-requires t c = (omega (arith, lies t (goal.at.high_lead-f-requires t c).Start), omega (arith, lies t (goal.at.high_lead-f-requires t c).Start), (lies t (goal.at.high_lead-f-requires t c).Start).few)

pub put_end-requires-then-not-f : goal.put_end-requires-then-not-f
put_end-requires-then-not-f t c = lies t (goal.at.put_end-requires-then-not-f t c).Start

pub shape_of-s-then-not-f : goal.shape_of-s-then-not-f
shape_of-s-then-not-f t c = c.put_end-then-not-f.auto.s

pub returns-then-not-f : goal.returns-then-not-f
returns-then-not-f t c = λ m e. put-end _ _ m _ _ _ _ e _ c.high_lead-f.ensures c.if-not-f.true _ _ c.put_end-then-not-f.ensures

pub offset_bounds-s-at : goal.offset_bounds-s-at
offset_bounds-s-at t c = omega (arith, lies t (goal.at.offset_bounds-s-at t c).Start)

pub bounds-s-at : goal.bounds-s-at
bounds-s-at t c = omega (arith, lies t (goal.at.bounds-s-at t c).Start)

pub overflow_add-r : goal.overflow_add-r
overflow_add-r t c = omega (arith, lies t (goal.at.overflow_add-r t c).Start)

pub offset_bounds-s-at-2 : goal.offset_bounds-s-at-2
offset_bounds-s-at-2 t c = omega (arith, lies t (goal.at.offset_bounds-s-at-2 t c).Start)

pub bounds-s-at-2 : goal.bounds-s-at-2
bounds-s-at-2 t c = omega (arith, lies t (goal.at.bounds-s-at-2 t c).Start)

pub shape_of-s-then-limit-more : goal.shape_of-s-then-limit-more
shape_of-s-then-limit-more t c = refl

pub returns-then-limit-more : goal.returns-then-limit-more
returns-then-limit-more t c = λ m e. put-bad _ _ m _ _ _ _ e _ c.high_lead-f.ensures c.if-not-f.false (lies t (goal.at.returns-then-limit-more t c).Start).some _ c.choose-more.ensures c.if-limit-more.true

pub shape_of-s-then-limit-fewer : goal.shape_of-s-then-limit-fewer
shape_of-s-then-limit-fewer t c = refl

pub returns-then-limit-fewer : goal.returns-then-limit-fewer
returns-then-limit-fewer t c = λ m e. put_full _ _ m _ _ _ _ e _ c.high_lead-f.ensures c.if-not-f.false (lies t (goal.at.returns-then-limit-fewer t c).Start).some _ c.choose-more.ensures c.if-limit-more.false c.if-left-eq0.false _ c.choose-fewer.ensures c.if-limit-fewer.true

pub overflow_mul-width : goal.overflow_mul-width
overflow_mul-width t c = omega (arith, under t (goal.at.overflow_mul-width t c).Else-left-eq0)

pub overflow_add-width : goal.overflow_add-width
overflow_add-width t c = omega (arith, under t (goal.at.overflow_add-width t c).Else-left-eq0)

pub overflow_add-lc : goal.overflow_add-lc
overflow_add-lc t c = omega (arith, under t (goal.at.overflow_add-lc t c).Else-left-eq0)

pub overflow_add-lc-2 : goal.overflow_add-lc-2
overflow_add-lc-2 t c = omega (arith, under t (goal.at.overflow_add-lc-2 t c).Else-left-eq0)

pub overflow_add-lc-3 : goal.overflow_add-lc-3
overflow_add-lc-3 t c = omega (arith, under t (goal.at.overflow_add-lc-3 t c).Else-left-eq0)

pub overflow_add-i : goal.overflow_add-i
overflow_add-i t c = omega (arith, lies t (goal.at.overflow_add-i t c).Start)

pub overflow_mul-i : goal.overflow_mul-i
overflow_mul-i t c = omega (arith, lies t (goal.at.overflow_mul-i t c).Start, high t (goal.at.overflow_mul-i t c).After-high_lead-f)

pub overflow_add-i-2 : goal.overflow_add-i-2
overflow_add-i-2 t c = omega (arith, lies t (goal.at.overflow_add-i-2 t c).Start, high t (goal.at.overflow_add-i-2 t c).After-high_lead-f)

pub elem_at-e-requires : goal.elem_at-e-requires
elem_at-e-requires t c = omega (arith, lies t (goal.at.elem_at-e-requires t c).Start, high t (goal.at.elem_at-e-requires t c).After-high_lead-f)

pub overflow_sub-left : goal.overflow_sub-left
overflow_sub-left t c = let h : c.args.left ≡ 0 → ⊥ = c.if-left-eq0.false in omega arith

pub put-done-requires : goal.put-done-requires
put-done-requires t c = (let h : c.args.left ≡ 0 → ⊥ = c.if-left-eq0.false in omega (arith, c.decreases), goes-ready _ _ _ _ _ c.requires c.if-left-eq0.false (ltb (get_or c.args.s.now (c.args.at + 1) 0) (get_or c.args.s.now c.args.at 0)) _ _ c.choose-d.ensures c.room_under-below.ensures)

pub shape_of-s-then-not-done : goal.shape_of-s-then-not-done
shape_of-s-then-not-done t c = c.put-done.auto.s

pub returns-then-not-done : goal.returns-then-not-done
returns-then-not-done t c = λ m e. put-stop _ _ m _ _ _ _ e _ c.high_lead-f.ensures c.if-not-f.false (lies t (goal.at.returns-then-not-done t c).Start).some _ c.choose-more.ensures c.if-limit-more.false c.if-left-eq0.false _ c.choose-fewer.ensures c.if-limit-fewer.false _ c.choose-d.ensures _ c.room_under-below.ensures (λ i. omega (arith, (goal.at.returns-then-not-done t c).Else-limit-fewer.type_inv.s i)) _ c.elem_at-e.ensures _ _ c.stays-kept.ensures c.goes_down-goes.ensures _ _ c.put-done.ensures c.if-not-done.true-raw

pub raise-requires : goal.raise-requires
raise-requires t c = (omega (arith, lies t (goal.at.raise-requires t c).Start, c.put-done.auto.s), (counts t (goal.at.raise-requires t c).Else-limit-fewer).0, (counts t (goal.at.raise-requires t c).Else-limit-fewer).1)

pub set_place-requires : goal.set_place-requires
set_place-requires t c = omega (arith, lies t (goal.at.set_place-requires t c).Start, high t (goal.at.set_place-requires t c).After-high_lead-f, c.put-done.auto.s, c.raise.auto.s)

pub shape_of-s : goal.shape_of-s
shape_of-s t c = c.set_place.auto.s ∙ c.raise.auto.s ∙ c.put-done.auto.s

pub returns : goal.returns
returns t c = λ m e. put-done _ _ m _ _ _ _ e _ c.high_lead-f.ensures c.if-not-f.false (lies t (goal.at.returns t c).Start).some _ c.choose-more.ensures c.if-limit-more.false c.if-left-eq0.false _ c.choose-fewer.ensures c.if-limit-fewer.false _ c.choose-d.ensures _ c.room_under-below.ensures (λ i. omega (arith, (goal.at.returns t c).Else-limit-fewer.type_inv.s i)) _ c.elem_at-e.ensures _ _ c.stays-kept.ensures c.goes_down-goes.ensures _ _ c.put-done.ensures c.if-not-done.false-raw _ _ c.raise.ensures c.set_place.ensures
