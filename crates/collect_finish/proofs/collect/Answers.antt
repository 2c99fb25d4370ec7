-- `collect` has written the strips of the passes so far; the work array holds the block filtered alone, with gain 1.
use native.Mathlib.Omega.{arith}
use Rattle.plan.proofs.Record.{in_grid}
use Rattle.collect_finish.proofs.WorkPlaces.{placed_block}
use Rattle.collect_finish.proofs.Collecting.{collect_start, collect_pass, collect_strip, collect_turn, collect_end}
use Rattle.collect_finish.proofs.collect.Goals as goal

pub block_shape-shape-requires : goal.block_shape-shape-requires
block_shape-shape-requires c = let block = c.requires.block in in_grid _ block.kept _ block.counted

pub loop-pass-init : goal.loop-pass-init
loop-pass-init c =
    collect_start (placed_block c.requires.block c.block_shape-shape.ensures) c.args.map.now c.load.ensures

pub run_pass-requires : goal.run_pass-requires
run_pass-requires c =
    collect_pass (placed_block c.requires.block c.block_shape-shape.ensures) c.loop-pass.invariant c.loop-pass-test.true c.filter_with_gain-words.ensures

pub write_strip-requires : goal.write_strip-requires
write_strip-requires c =
    collect_strip (placed_block c.requires.block c.block_shape-shape.ensures) c.loop-pass.invariant c.loop-pass-test.true c.filter_with_gain-words.ensures
    c.run_pass.ensures c.requires.strips_long

pub loop-pass-preserved : goal.loop-pass-preserved
loop-pass-preserved c =
    collect_turn (placed_block c.requires.block c.block_shape-shape.ensures) c.loop-pass.invariant c.loop-pass-test.true c.filter_with_gain-words.ensures
    c.run_pass.ensures c.gains_from-gain.ensures c.write_strip.ensures

pub returns : goal.returns
returns c = collect_end c.loop-pass.invariant (omega arith)
