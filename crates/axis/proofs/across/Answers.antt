-- `across` is the extent across the lines of a pass.
use Rattle.axis.proofs.Passes.{axis_columns, axis_rows}
use Rattle.axis.proofs.across.Goals as goal

pub returns-then-pass-lt2 : goal.returns-then-pass-lt2
returns-then-pass-lt2 c = rw (axis_columns c.args.pass c.if-pass-lt2.true)

pub returns-else-pass-lt2 : goal.returns-else-pass-lt2
returns-else-pass-lt2 c = rw (axis_rows c.args.pass c.if-pass-lt2.false)
