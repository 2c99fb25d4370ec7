-- After all blocks none is broken.
use mathlib.Core.Path.{◌∙◌, ◌≡◌, ap, sym}
use native.Mathlib.Omega.{arith}
use Rattle.grid.specs.Grid.{block_total}
use Rattle.tasks.proofs.Verdicts.{least_below, below_all}
use Rattle.report.specs.Report.{first_broken}
use Rattle.report.proofs.first_broken.Goals as goal

pub returns : goal.returns
unfolding first_broken
returns c =
    let end : c.loop-block.block ≡ block_total c.args.grid = omega (arith, c.blocks-blocks.ensures) in
    c.blocks-blocks.ensures ∙ sym c.loop-block.invariant ∙ ap (least_below _ _) end ∙ below_all _ _
