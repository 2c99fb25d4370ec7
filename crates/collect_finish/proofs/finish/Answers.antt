-- `finish` runs the passes between its two copies.
use native.Mathlib.Omega.{arith}
use Rattle.plan.proofs.Record.{in_grid}
use Rattle.collect_finish.proofs.WorkPlaces.{placed_block, block_in_work, block_in_map, block_narrow}
use Rattle.collect_finish.proofs.Finishing.{passes_asked, ran_sized, finish_end}
use Rattle.collect_finish.proofs.finish.Goals as goal

pub block_shape-shape-requires : goal.block_shape-shape-requires
block_shape-shape-requires c = let block = c.requires.block in in_grid _ block.kept _ block.counted

pub run_passes-requires : goal.run_passes-requires
run_passes-requires c =
    passes_asked (placed_block c.requires.block c.block_shape-shape.ensures) c.args.map.now c.load.ensures (omega arith) c.requires.strips_long

pub copy-requires : goal.copy-requires
copy-requires c =
    let placed = placed_block c.requires.block c.block_shape-shape.ensures in (
      record {
        read = block_in_work placed (ran_sized placed c.args.map.now c.load.ensures c.run_passes.ensures);
        written = block_in_map placed c.requires.output_long;
      },
      block_narrow placed,
    )

pub returns : goal.returns
returns c =
    finish_end (placed_block c.requires.block c.block_shape-shape.ensures) c.args.map.now c.load.ensures c.run_passes.ensures
    c.args.output.now c.copy.ensures
