use Rattle.bucket_clock.proofs.Cycles.{ready-fits, runs, torn-held, torn-stages}
use Rattle.laws.specs.Prelude.{◌∙◌, arith, refl, sym}
use Rattle.bucket_clock.proofs.cycle_shaped.Goals as goal

pub held_count-held-requires : goal.held_count-held-requires
held_count-held-requires c = ready-fits _ _ _ _ c.requires

pub returns-then-asks_something-k : goal.returns-then-asks_something-k
returns-then-asks_something-k c = torn-held c.args.k c.args.request c.args.bits.now c.args.counts.now c.args.words.now c.args.records c.held_count-held.result c.held_count-held.ensures c.rule-ruled.result c.rule-ruled.ensures _ _ _ _ c.asks_something.ensures c.if-asks_something-k.true c.left_as.ensures

pub stages_ok-requires : goal.stages_ok-requires
stages_ok-requires c = c.requires

pub returns-then-not-stages_ok : goal.returns-then-not-stages_ok
returns-then-not-stages_ok c = torn-stages c.args.k c.args.request c.args.bits.now c.args.counts.now c.args.words.now c.args.records c.held_count-held.result c.held_count-held.ensures c.rule-ruled.result c.rule-ruled.ensures _ c.asks_something.ensures c.if-asks_something-k.false _ _ _ _ c.stages_ok.ensures c.if-not-stages_ok.true c.left_as-then-not-stages_ok.ensures

pub run_stages-ran-requires : goal.run_stages-ran-requires
run_stages-ran-requires c = record { ready = c.requires; passes = sym c.stages_ok.ensures ∙ c.if-not-stages_ok.false }

pub held_after-requires : goal.held_after-requires
held_after-requires c = c.rule-ruled.ensures.counts

pub offset_bounds-words-k : goal.offset_bounds-words-k
offset_bounds-words-k c = omega (arith, c.well_formed.1.0, c.requires.words)

pub bounds-words-k : goal.bounds-words-k
bounds-words-k c = omega (arith, c.run_stages-ran.auto, c.requires.words)

pub returns : goal.returns
returns c = runs c.args.k c.args.request c.args.bits.now c.args.counts.now c.args.words.now c.args.records c.held_count-held.result c.held_count-held.ensures c.rule-ruled.result c.rule-ruled.ensures _ c.asks_something.ensures c.if-asks_something-k.false _ c.stages_ok.ensures c.if-not-stages_ok.false _ _ _ _ _ _ _ c.run_stages-ran.ensures.is c.run_stages-ran.ensures.held c.held_after.ensures refl
