use Rattle.bucket_clock_step.proofs.Storeys.{pop-falls, push-rises, replace-falls, replace-rises, took-long}
use Rattle.bucket_clock_step.proofs.storey.work_storey.Goals as goal

pub storey_put-requires : goal.storey_put-requires
storey_put-requires c = record { floored = c.requires.here.floor; place_in = (push-rises c.args.k c.args.base c.args.words c.args.d c.args.bits.now c.args.counts.now c.args.g c.requires.here c.requires.passes _ _ c.in-Push.is c.lead_of-j.ensures).0; rises = (push-rises c.args.k c.args.base c.args.words c.args.d c.args.bits.now c.args.counts.now c.args.g c.requires.here c.requires.passes _ _ c.in-Push.is c.lead_of-j.ensures).1 }

pub storey_take-m-requires : goal.storey_take-m-requires
storey_take-m-requires c = record { floored = c.requires.here.floor; falls = pop-falls c.args.k c.args.base c.args.words c.args.d c.args.bits.now c.args.counts.now c.args.g c.requires.here c.requires.passes c.in-Pop.is }

pub storey_take-m-requires-in-Replace : goal.storey_take-m-requires-in-Replace
storey_take-m-requires-in-Replace c = record { floored = c.requires.here.floor; falls = replace-falls c.args.k c.args.base c.args.words c.args.d c.args.bits.now c.args.counts.now c.args.g c.requires.here c.requires.passes _ c.in-Replace.is }

pub storey_put-requires-in-Replace : goal.storey_put-requires-in-Replace
storey_put-requires-in-Replace c = record { floored = took-long _ _ _ _ _ _ _ c.requires.here.floor c.storey_take-m-in-Replace.ensures.0; place_in = (replace-rises c.args.k c.args.base c.args.words c.args.d c.args.bits.now c.args.counts.now c.args.g c.requires.here c.requires.passes _ _ _ _ c.in-Replace.is c.lead_of-j-in-Replace.ensures c.storey_take-m-in-Replace.ensures.0).0; rises = (replace-rises c.args.k c.args.base c.args.words c.args.d c.args.bits.now c.args.counts.now c.args.g c.requires.here c.requires.passes _ _ _ _ c.in-Replace.is c.lead_of-j-in-Replace.ensures c.storey_take-m-in-Replace.ensures.0).1 }
