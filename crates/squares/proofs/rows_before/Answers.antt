-- `rows_before` has the rows of the passes so far.
use mathlib.Core.Path.{sym}
use Prim.Native.Nat.{◌<◌}
use native.Mathlib.Omega.{arith}
use Rattle.std.proofs.lemmas.List.{length-take-le, get_or-take}
use Rattle.number.proofs.Sums.{total_none}
use Rattle.squares.specs.LineBuffers.{filter_at, rows_before}
use Rattle.squares.proofs.LineRows.{rows_next}
use Rattle.squares.proofs.rows_before.Goals as goal

pub loop-filter-init : goal.loop-filter-init
unfolding rows_before
loop-filter-init c = (sym (total_none _), omega arith)

pub loop-filter-preserved : goal.loop-filter-preserved
loop-filter-preserved c =
    let i = c.loop-filter.filter-index in
    let all = length-take-le c.args.pass c.args.filters.now (omega (arith, c.told-filters)) in
    let here : i < c.args.pass = omega (arith, all) in
    let few = c.requires.0.order_limited i (omega arith) in
    rw (get_or-take c.args.pass c.args.filters.now i _ here)
    (rows_next (filter_at c.args.filters.now) i c.loop-filter.invariant.0, omega arith)
