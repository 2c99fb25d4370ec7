-- `scale` has multiplied the words of the rows passed so far; gain 1 changes nothing.
use mathlib.Core.Path.{sym}
use native.Mathlib.Omega.{arith}
use Rattle.buffer.proofs.Copies.{rectangle_none}
use Rattle.filter.proofs.Scaling.{scale_row, scale_unchanged}
use Rattle.filter.proofs.Window.scale.Goals as goal

pub returns-then-gain-eq1 : goal.returns-then-gain-eq1
returns-then-gain-eq1 c =
    rw c.if-gain-eq1.true
    (sym (scale_unchanged c.args.self _ c.args.buffer.now (λ i. omega (arith, c.type_inv.buffer i))))

pub loop-row-init : goal.loop-row-init
loop-row-init c = rectangle_none _ _ _ _

pub loop-row-preserved : goal.loop-row-preserved
loop-row-preserved c =
    scale_row _ c.args.self c.requires c.loop-row.row c.args.buffer.now c.loop-row.buffer c.loop-row.invariant
    c.scale_row.ensures
