-- `line_pass` runs a pass along its rows, or leaves the buffer as it is where there are none.
use Prim.Native.Nat.{◌+◌}
use native.Mathlib.Omega.{arith}
use Rattle.squares.specs.LineBuffers.{filter_at}
use Rattle.squares.proofs.Lines.{lines_fit, pass_some, pass_none}
use Rattle.squares.proofs.LineRows.{rows_few}
use Rattle.squares.proofs.line_pass.Goals as goal

pub run_pass-requires : goal.run_pass-requires
run_pass-requires c =
    let f = c.requires in
    rw c.axis_passes-along_rows.ensures (
      f.orders.order_limited c.args.pass (omega (arith, f.passes)),
      lines_fit _ c.rows_before-rows.result c.args.places c.args.pass (omega arith)
          (rw c.rows_before-rows.ensures
          (omega (
            arith,
            f.passes,
            rows_few (filter_at c.args.filters.now) f.orders (c.args.pass + 1) f.passes,
          )))
          f.some_places f.few_places f.long,
    )

pub returns-then-rows-gt0 : goal.returns-then-rows-gt0
returns-then-rows-gt0 c =
    let a = c.args in
    pass_some (filter_at a.filters.now) a.places a.pass a.lines.now c.rows_before-rows.ensures (omega arith)
    (rw c.axis_passes-along_rows.ensures at c.run_pass.ensures)

pub returns-else-rows-gt0 : goal.returns-else-rows-gt0
returns-else-rows-gt0 c =
    let a = c.args in
    pass_none (filter_at a.filters.now) a.places a.pass a.lines.now c.rows_before-rows.ensures (omega arith)
