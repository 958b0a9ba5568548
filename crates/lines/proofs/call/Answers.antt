use Rattle.laws.specs.Prelude.{◌∙◌, arith, length, sym}
use Rattle.lines_model.specs.Layout.{shape_ok}
use Rattle.lines_model.specs.Rules.{rank_fit}
use Rattle.lines_work.proofs.Finds.{room, small, told-no, told-yes}
use Rattle.lines_work.proofs.Ready.{standing-in}
use Rattle.lines.proofs.Calls.{call-done, call_line, call-rank, call_shape, call-tag, call-torn, counts-yes, due-ready, sizes-fit, sum_is, work-ready}
use Rattle.lines.proofs.call.Goals as goal

pub returns-then-not-shape_ok : goal.returns-then-not-shape_ok
returns-then-not-shape_ok c = call_shape c.args.k c.args.q c.args.s.now (told-no _ _ c.shape_ok.ensures c.if-not-shape_ok.true-raw)

pub returns-then-not-rank_fit : goal.returns-then-not-rank_fit
returns-then-not-rank_fit c = call-rank c.args.k c.args.q c.args.s.now (told-yes _ (shape_ok c.args.k (length c.args.s.now)) c.shape_ok.ensures c.if-not-shape_ok.false-raw) (told-no _ _ c.rank_fit.ensures c.if-not-rank_fit.true-raw)

pub returns-then-lacks_tag : goal.returns-then-lacks_tag
returns-then-lacks_tag c = call-tag c.args.k c.args.q c.args.s.now (told-yes _ (shape_ok c.args.k (length c.args.s.now)) c.shape_ok.ensures c.if-not-shape_ok.false-raw) (told-yes _ (rank_fit c.args.k c.args.q) c.rank_fit.ensures c.if-not-rank_fit.false-raw) (sym c.lacks_tag.ensures ∙ c.if-lacks_tag.true)

pub sum_up-seen-requires : goal.sum_up-seen-requires
sum_up-seen-requires c = ((small c.args.k (length c.args.s.now) (told-yes _ (shape_ok c.args.k (length c.args.s.now)) c.shape_ok.ensures c.if-not-shape_ok.false-raw)).lines, omega (arith, room c.args.k (length c.args.s.now) (told-yes _ (shape_ok c.args.k (length c.args.s.now)) c.shape_ok.ensures c.if-not-shape_ok.false-raw)))

pub returns-then-not-seen : goal.returns-then-not-seen
returns-then-not-seen c = call-torn c.args.k c.args.q c.args.s.now (told-yes _ (shape_ok c.args.k (length c.args.s.now)) c.shape_ok.ensures c.if-not-shape_ok.false-raw) (told-yes _ (rank_fit c.args.k c.args.q) c.rank_fit.ensures c.if-not-rank_fit.false-raw) (sym c.lacks_tag.ensures ∙ c.if-lacks_tag.false) _ c.sum_up-seen.ensures c.if-not-seen.true

pub come_to-z-requires : goal.come_to-z-requires
come_to-z-requires c = record { shaped = (told-yes _ (shape_ok c.args.k (length c.args.s.now)) c.shape_ok.ensures c.if-not-shape_ok.false-raw); counted = sum_is c.args.k c.args.s.now (told-yes _ (shape_ok c.args.k (length c.args.s.now)) c.shape_ok.ensures c.if-not-shape_ok.false-raw) _ c.sum_up-seen.ensures; fitting = (told-yes _ (rank_fit c.args.k c.args.q) c.rank_fit.ensures c.if-not-rank_fit.false-raw) }

pub sizes_now-size-requires : goal.sizes_now-size-requires
sizes_now-size-requires c = record { power = (small c.args.k (length c.args.s.now) (told-yes _ (shape_ok c.args.k (length c.args.s.now)) c.shape_ok.ensures c.if-not-shape_ok.false-raw)).power; standing = standing-in c.args.k (length c.args.s.now) c.come_to-z.result.due (omega (arith, room c.args.k (length c.args.s.now) (told-yes _ (shape_ok c.args.k (length c.args.s.now)) c.shape_ok.ensures c.if-not-shape_ok.false-raw))) (due-ready c.args.k c.args.q c.args.s.now (told-yes _ (shape_ok c.args.k (length c.args.s.now)) c.shape_ok.ensures c.if-not-shape_ok.false-raw) (told-yes _ (rank_fit c.args.k c.args.q) c.rank_fit.ensures c.if-not-rank_fit.false-raw) (counts-yes c.args.k c.args.s.now (told-yes _ (shape_ok c.args.k (length c.args.s.now)) c.shape_ok.ensures c.if-not-shape_ok.false-raw) _ c.sum_up-seen.ensures c.if-not-seen.false) _ c.come_to-z.ensures).standing }

pub look_lines-look-requires : goal.look_lines-look-requires
look_lines-look-requires c = record { shaped = (told-yes _ (shape_ok c.args.k (length c.args.s.now)) c.shape_ok.ensures c.if-not-shape_ok.false-raw); fits = sizes-fit c.args.k c.args.s.now _ _ c.sizes_now-size.ensures (due-ready c.args.k c.args.q c.args.s.now (told-yes _ (shape_ok c.args.k (length c.args.s.now)) c.shape_ok.ensures c.if-not-shape_ok.false-raw) (told-yes _ (rank_fit c.args.k c.args.q) c.rank_fit.ensures c.if-not-rank_fit.false-raw) (counts-yes c.args.k c.args.s.now (told-yes _ (shape_ok c.args.k (length c.args.s.now)) c.shape_ok.ensures c.if-not-shape_ok.false-raw) _ c.sum_up-seen.ensures c.if-not-seen.false) _ c.come_to-z.ensures) }

pub returns-then-not-look : goal.returns-then-not-look
returns-then-not-look c = call_line c.args.k c.args.q c.args.s.now (told-yes _ (shape_ok c.args.k (length c.args.s.now)) c.shape_ok.ensures c.if-not-shape_ok.false-raw) (told-yes _ (rank_fit c.args.k c.args.q) c.rank_fit.ensures c.if-not-rank_fit.false-raw) (sym c.lacks_tag.ensures ∙ c.if-lacks_tag.false) (counts-yes c.args.k c.args.s.now (told-yes _ (shape_ok c.args.k (length c.args.s.now)) c.shape_ok.ensures c.if-not-shape_ok.false-raw) _ c.sum_up-seen.ensures c.if-not-seen.false) _ c.come_to-z.ensures _ c.sizes_now-size.ensures _ c.look_lines-look.ensures c.if-not-look.true

pub count-requires : goal.count-requires
count-requires c = record { power = (small c.args.k (length c.args.s.now) (told-yes _ (shape_ok c.args.k (length c.args.s.now)) c.shape_ok.ensures c.if-not-shape_ok.false-raw)).power; countable = (due-ready c.args.k c.args.q c.args.s.now (told-yes _ (shape_ok c.args.k (length c.args.s.now)) c.shape_ok.ensures c.if-not-shape_ok.false-raw) (told-yes _ (rank_fit c.args.k c.args.q) c.rank_fit.ensures c.if-not-rank_fit.false-raw) (counts-yes c.args.k c.args.s.now (told-yes _ (shape_ok c.args.k (length c.args.s.now)) c.shape_ok.ensures c.if-not-shape_ok.false-raw) _ c.sum_up-seen.ensures c.if-not-seen.false) _ c.come_to-z.ensures).countable }

pub work-requires : goal.work-requires
work-requires c = let z = work-ready c.args.k c.args.s.now _ _ _ _ (told-yes _ (shape_ok c.args.k (length c.args.s.now)) c.shape_ok.ensures c.if-not-shape_ok.false-raw) (due-ready c.args.k c.args.q c.args.s.now (told-yes _ (shape_ok c.args.k (length c.args.s.now)) c.shape_ok.ensures c.if-not-shape_ok.false-raw) (told-yes _ (rank_fit c.args.k c.args.q) c.rank_fit.ensures c.if-not-rank_fit.false-raw) (counts-yes c.args.k c.args.s.now (told-yes _ (shape_ok c.args.k (length c.args.s.now)) c.shape_ok.ensures c.if-not-shape_ok.false-raw) _ c.sum_up-seen.ensures c.if-not-seen.false) _ c.come_to-z.ensures) c.look_lines-look.ensures c.if-not-look.false c.count.ensures in record { shaped = z.0; fits = sizes-fit c.args.k c.args.s.now _ _ c.sizes_now-size.ensures (due-ready c.args.k c.args.q c.args.s.now (told-yes _ (shape_ok c.args.k (length c.args.s.now)) c.shape_ok.ensures c.if-not-shape_ok.false-raw) (told-yes _ (rank_fit c.args.k c.args.q) c.rank_fit.ensures c.if-not-rank_fit.false-raw) (counts-yes c.args.k c.args.s.now (told-yes _ (shape_ok c.args.k (length c.args.s.now)) c.shape_ok.ensures c.if-not-shape_ok.false-raw) _ c.sum_up-seen.ensures c.if-not-seen.false) _ c.come_to-z.ensures); passed = z.1 }

pub returns : goal.returns
returns c = call-done c.args.k c.args.q c.args.s.now (told-yes _ (shape_ok c.args.k (length c.args.s.now)) c.shape_ok.ensures c.if-not-shape_ok.false-raw) (told-yes _ (rank_fit c.args.k c.args.q) c.rank_fit.ensures c.if-not-rank_fit.false-raw) (sym c.lacks_tag.ensures ∙ c.if-lacks_tag.false) (counts-yes c.args.k c.args.s.now (told-yes _ (shape_ok c.args.k (length c.args.s.now)) c.shape_ok.ensures c.if-not-shape_ok.false-raw) _ c.sum_up-seen.ensures c.if-not-seen.false) _ c.come_to-z.ensures _ c.sizes_now-size.ensures _ c.look_lines-look.ensures _ _ c.if-not-look.false c.count.ensures c.work.ensures
