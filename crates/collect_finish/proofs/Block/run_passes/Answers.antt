-- `run_passes` has run the passes so far in the work array with all gains in the first, the neighbours' strips past the
-- block's edges times the gains of the passes after each.
use native.Mathlib.Omega.{arith}
use Rattle.collect_finish.proofs.Finishing.{passes_start, finish_margin, finish_pass, finish_turn, passes_end}
use Rattle.collect_finish.proofs.Block.run_passes.Goals as goal

pub loop-pass-init : goal.loop-pass-init
loop-pass-init c = passes_start c.requires

pub load_margin-requires : goal.load_margin-requires
load_margin-requires c =
    finish_margin c.args.self.now.placed c.requires c.loop-pass.invariant c.loop-pass-test.true c.requires.strips_long

pub run_pass-requires : goal.run_pass-requires
run_pass-requires c =
    finish_pass c.args.self.now.placed c.requires c.loop-pass.invariant c.loop-pass-test.true c.gains_after-gain.ensures
    c.load_margin.ensures c.gains_first-words.ensures

pub loop-pass-preserved : goal.loop-pass-preserved
loop-pass-preserved c =
    finish_turn c.args.self.now.placed c.requires c.loop-pass.invariant c.loop-pass-test.true c.gains_after-gain.ensures
    c.load_margin.ensures c.gains_first-words.ensures c.run_pass.ensures

pub returns : goal.returns
returns c = passes_end c.args.self.now.placed c.requires c.loop-pass.invariant (omega arith)
