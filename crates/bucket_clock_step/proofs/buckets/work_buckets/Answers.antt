use Rattle.bucket_clock_step.proofs.Linking.{pop-leaves, pop-way, push-joins, replace-joins, replace-leaves, replace-way}
use Rattle.bucket_clock_step.proofs.buckets.work_buckets.Goals as goal

pub bucket_at-low-requires-clause-rank_in : goal.bucket_at-low-requires-clause-rank_in
bucket_at-low-requires-clause-rank_in c = pop-way c.args.k c.args.words.now c.args.g c.requires.fits c.requires.passes c.in-Pop.is

pub bucket_at-low-requires-in-Replace-clause-rank_in : goal.bucket_at-low-requires-in-Replace-clause-rank_in
bucket_at-low-requires-in-Replace-clause-rank_in c = replace-way c.args.k c.args.words.now c.args.g c.requires.fits c.requires.passes _ c.in-Replace.is

pub put_in-requires : goal.put_in-requires
put_in-requires c = push-joins c.args.k c.args.words.now c.args.g c.requires.fits c.requires.passes _ c.in-Push.is

pub take_out-requires : goal.take_out-requires
take_out-requires c = pop-leaves c.args.k c.args.words.now c.args.g c.requires.fits c.requires.passes _ c.in-Pop.is c.bucket_at-low.ensures

pub take_out-out-requires : goal.take_out-out-requires
take_out-out-requires c = replace-leaves c.args.k c.args.words.now c.args.g c.requires.fits c.requires.passes _ _ c.in-Replace.is c.bucket_at-low-in-Replace.ensures

pub put_in-requires-in-Replace : goal.put_in-requires-in-Replace
put_in-requires-in-Replace c = replace-joins c.args.k c.args.words.now c.args.g c.requires.fits c.requires.passes _ _ _ c.in-Replace.is c.bucket_at-low-in-Replace.ensures c.take_out-out.ensures.0
