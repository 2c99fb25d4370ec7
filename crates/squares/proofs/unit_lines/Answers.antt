-- `unit_lines` has set the units of the lines so far.
use mathlib.Core.Path.{refl, ◌∙◌}
use lib.ListN.{length-set}
use Rattle.axis.specs.Axis.{direction_of}
use Rattle.buffer.specs.Written.{written}
use Rattle.squares.specs.LineBuffers.{unit_lines}
use Rattle.squares.proofs.Units.{units_next}
use Rattle.squares.proofs.unit_lines.Goals as goal
use Rattle.squares.proofs.unit_lines.Goals.{After-margin-column}

pub loop-line-init : goal.loop-line-init
unfolding unit_lines written
loop-line-init c = (refl, refl)

pub loop-line-preserved : goal.loop-line-preserved
loop-line-preserved c =
    let a = c.args in (
      length-set c.loop-line.lines _ _ ∙ c.loop-line.invariant.0,
      units_next (direction_of a.pass) a.row a.places c.loop-line.line a.lines.now c.loop-line.invariant.1
          c.margin-column.ensures,
    )
