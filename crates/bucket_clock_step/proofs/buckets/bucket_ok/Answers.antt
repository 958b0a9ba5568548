use Rattle.bucket_clock_step.proofs.Linking.{leaves-found, ok-idle, ok-pop, ok-push, ok-replace, ok-shut, take-some}
use Rattle.laws.specs.Prelude.{◌∙◌}
use Rattle.bucket_clock_step.proofs.buckets.bucket_ok.Goals as goal

pub returns-in-Idle : goal.returns-in-Idle
returns-in-Idle c = ok-idle c.args.k c.args.words.now c.args.g c.in-Idle.is

pub returns-in-Push : goal.returns-in-Push
returns-in-Push c = ok-push c.args.k c.args.words.now c.args.g _ _ c.in-Push.is c.put_ok.ensures

pub returns-in-Pop : goal.returns-in-Pop
returns-in-Pop c = ok-pop c.args.k c.args.words.now c.args.g _ c.in-Pop.is (c.is_some.ensures ∙ take-some c.args.k c.args.words.now c.find_first.result c.args.g.way c.find_first.ensures)

pub put_after_ok-requires : goal.put_after_ok-requires
put_after_ok-requires c = leaves-found c.args.k c.args.words.now c.args.g.way c.in-Some.low c.requires c.in-Some.ensures

pub returns-in-None : goal.returns-in-None
returns-in-None c = ok-shut c.args.k c.args.words.now c.args.g _ c.in-Replace.is c.in-None.ensures

pub returns-in-Some : goal.returns-in-Some
returns-in-Some c = ok-replace c.args.k c.args.words.now c.args.g _ c.in-Some.low _ c.in-Replace.is c.in-Some.ensures c.put_after_ok.ensures
