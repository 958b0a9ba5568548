use Rattle.laws.specs.Prelude.{arith, length}
use Rattle.lines_clock.proofs.Cycles.{counts-no, counts-yes, cycle-answered, cycle-counts, cycle-done, cycle-due, cycle-line, cycle-shape, due-fits, due_in, look-passed, next-countable, work-shape, work-total}
use Rattle.lines_model.specs.Clock.{due_ok}
use Rattle.lines_model.specs.Layout.{shape_ok}
use Rattle.lines_work.proofs.Finds.{room, small, told-no, told-yes}
use Rattle.lines_clock.proofs.cycle.Goals as goal

pub returns-then-not-shape_ok : goal.returns-then-not-shape_ok
returns-then-not-shape_ok c = cycle-answered _ _ _ _ _ _ c.left_as.ensures (cycle-shape c.args.k c.args.q c.args.s.now c.args.due (told-no _ _ c.shape_ok.ensures c.if-not-shape_ok.true-raw))

pub sum_up-seen-requires : goal.sum_up-seen-requires
sum_up-seen-requires c = ((small c.args.k (length c.args.s.now) (told-yes _ (shape_ok c.args.k (length c.args.s.now)) c.shape_ok.ensures c.if-not-shape_ok.false-raw)).lines, omega (arith, room c.args.k (length c.args.s.now) (told-yes _ (shape_ok c.args.k (length c.args.s.now)) c.shape_ok.ensures c.if-not-shape_ok.false-raw)))

pub returns-then-not-seen : goal.returns-then-not-seen
returns-then-not-seen c = cycle-answered _ _ _ _ _ _ c.left_as-then-not-seen.ensures (cycle-counts c.args.k c.args.q c.args.s.now c.args.due (told-yes _ (shape_ok c.args.k (length c.args.s.now)) c.shape_ok.ensures c.if-not-shape_ok.false-raw) (counts-no c.args.k c.args.s.now _ c.sum_up-seen.ensures c.if-not-seen.true))

pub returns-then-not-due_ok : goal.returns-then-not-due_ok
returns-then-not-due_ok c = cycle-answered _ _ _ _ _ _ c.left_as-then-not-due_ok.ensures (cycle-due c.args.k c.args.q c.args.s.now c.args.due (told-yes _ (shape_ok c.args.k (length c.args.s.now)) c.shape_ok.ensures c.if-not-shape_ok.false-raw) (counts-yes c.args.k c.args.s.now _ c.sum_up-seen.ensures c.if-not-seen.false) (told-no _ _ c.due_ok.ensures c.if-not-due_ok.true-raw))

pub sizes_had-size-requires : goal.sizes_had-size-requires
sizes_had-size-requires c = record { power = (small c.args.k (length c.args.s.now) (told-yes _ (shape_ok c.args.k (length c.args.s.now)) c.shape_ok.ensures c.if-not-shape_ok.false-raw)).power; standing = due_in c.args.k c.args.s.now c.args.due (told-yes _ (shape_ok c.args.k (length c.args.s.now)) c.shape_ok.ensures c.if-not-shape_ok.false-raw) (counts-yes c.args.k c.args.s.now _ c.sum_up-seen.ensures c.if-not-seen.false) (told-yes _ (due_ok c.args.k c.args.s.now c.args.due) c.due_ok.ensures c.if-not-due_ok.false-raw); passes = (told-yes _ (due_ok c.args.k c.args.s.now c.args.due) c.due_ok.ensures c.if-not-due_ok.false-raw) }

pub look_lines-look-requires : goal.look_lines-look-requires
look_lines-look-requires c = record { shaped = (told-yes _ (shape_ok c.args.k (length c.args.s.now)) c.shape_ok.ensures c.if-not-shape_ok.false-raw); fits = due-fits c.args.k c.args.s.now c.args.due (told-yes _ (shape_ok c.args.k (length c.args.s.now)) c.shape_ok.ensures c.if-not-shape_ok.false-raw) (counts-yes c.args.k c.args.s.now _ c.sum_up-seen.ensures c.if-not-seen.false) (told-yes _ (due_ok c.args.k c.args.s.now c.args.due) c.due_ok.ensures c.if-not-due_ok.false-raw) _ c.sizes_had-size.ensures }

pub returns-then-not-look : goal.returns-then-not-look
returns-then-not-look c = cycle-answered _ _ _ _ _ _ c.left_as-then-not-look.ensures (cycle-line c.args.k c.args.q c.args.s.now c.args.due (told-yes _ (shape_ok c.args.k (length c.args.s.now)) c.shape_ok.ensures c.if-not-shape_ok.false-raw) (counts-yes c.args.k c.args.s.now _ c.sum_up-seen.ensures c.if-not-seen.false) (told-yes _ (due_ok c.args.k c.args.s.now c.args.due) c.due_ok.ensures c.if-not-due_ok.false-raw) _ c.sizes_had-size.ensures _ c.look_lines-look.ensures c.if-not-look.true)

pub work-requires : goal.work-requires
work-requires c = record { shaped = (told-yes _ (shape_ok c.args.k (length c.args.s.now)) c.shape_ok.ensures c.if-not-shape_ok.false-raw); fits = due-fits c.args.k c.args.s.now c.args.due (told-yes _ (shape_ok c.args.k (length c.args.s.now)) c.shape_ok.ensures c.if-not-shape_ok.false-raw) (counts-yes c.args.k c.args.s.now _ c.sum_up-seen.ensures c.if-not-seen.false) (told-yes _ (due_ok c.args.k c.args.s.now c.args.due) c.due_ok.ensures c.if-not-due_ok.false-raw) _ c.sizes_had-size.ensures; passed = look-passed c.args.k c.args.s.now _ c.args.due _ c.look_lines-look.ensures c.if-not-look.false }

pub choose-z-requires : goal.choose-z-requires
choose-z-requires c = record { shaped = work-shape c.args.k c.args.s.now c.args.due (told-yes _ (shape_ok c.args.k (length c.args.s.now)) c.shape_ok.ensures c.if-not-shape_ok.false-raw) (counts-yes c.args.k c.args.s.now _ c.sum_up-seen.ensures c.if-not-seen.false) (told-yes _ (due_ok c.args.k c.args.s.now c.args.due) c.due_ok.ensures c.if-not-due_ok.false-raw) c.args.q _ c.sizes_had-size.ensures _ c.work.ensures; counted = work-total c.args.k c.args.s.now c.args.due (told-yes _ (shape_ok c.args.k (length c.args.s.now)) c.shape_ok.ensures c.if-not-shape_ok.false-raw) (counts-yes c.args.k c.args.s.now _ c.sum_up-seen.ensures c.if-not-seen.false) (told-yes _ (due_ok c.args.k c.args.s.now c.args.due) c.due_ok.ensures c.if-not-due_ok.false-raw) c.args.q _ c.sizes_had-size.ensures _ c.work.ensures _ c.sum_up-seen.ensures }

pub count-requires : goal.count-requires
count-requires c = record { power = (small c.args.k (length c.args.s.now) (told-yes _ (shape_ok c.args.k (length c.args.s.now)) c.shape_ok.ensures c.if-not-shape_ok.false-raw)).power; countable = next-countable c.args.k c.args.s.now c.args.due (told-yes _ (shape_ok c.args.k (length c.args.s.now)) c.shape_ok.ensures c.if-not-shape_ok.false-raw) (counts-yes c.args.k c.args.s.now _ c.sum_up-seen.ensures c.if-not-seen.false) (told-yes _ (due_ok c.args.k c.args.s.now c.args.due) c.due_ok.ensures c.if-not-due_ok.false-raw) c.args.q _ c.sizes_had-size.ensures _ c.work.ensures _ c.choose-z.ensures }

pub returns : goal.returns
returns c = cycle-done c.args.k c.args.q c.args.s.now c.args.due (told-yes _ (shape_ok c.args.k (length c.args.s.now)) c.shape_ok.ensures c.if-not-shape_ok.false-raw) (counts-yes c.args.k c.args.s.now _ c.sum_up-seen.ensures c.if-not-seen.false) (told-yes _ (due_ok c.args.k c.args.s.now c.args.due) c.due_ok.ensures c.if-not-due_ok.false-raw) _ c.sizes_had-size.ensures _ c.look_lines-look.ensures _ _ _ c.if-not-look.false c.work.ensures c.choose-z.ensures c.count.ensures
