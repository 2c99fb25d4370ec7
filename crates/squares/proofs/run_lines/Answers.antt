-- `run_lines` has done the passes so far along the lines.
use mathlib.Core.Path.{◌≡◌}
use Prim.Native.Nat.{◌+◌, ◌-◌}
use native.Mathlib.Omega.{arith}
use Rattle.squares.specs.LineBuffers.{filter_at}
use Rattle.squares.proofs.Lines.{passed_none, passed_next}
use Rattle.squares.proofs.LineRows.{rows_few}
use Rattle.squares.proofs.run_lines.Goals as goal

pub loop-pass-init : goal.loop-pass-init
loop-pass-init c = let none : c.args.first - c.args.first ≡ 0 = omega arith in rw none (passed_none _ _ _ _)

pub loop-pass-preserved : goal.loop-pass-preserved
loop-pass-preserved c =
    let a = c.args in
    let f = c.requires in
    let filters = filter_at a.filters.now in
    let pass = c.loop-pass.pass in
    let held = c.loop-pass.invariant in
    let more : (pass + 1) - a.first ≡ (pass - a.first) + 1 = omega arith in
    let here : a.first + (pass - a.first) ≡ pass = omega arith in
    rw more
    (passed_next filters a.places a.first (pass - a.first) a.lines.now f.orders (omega (arith, f.passes)) f.some_places f.few_places
    (omega (arith, f.long, held.length_kept)) held
    (rw here (omega (arith, f.passes, rows_few filters f.orders (pass + 1) (omega (arith, f.passes)))))
    (rw here c.line_pass.ensures))

pub returns : goal.returns
returns c =
    let all : c.loop-pass.pass - c.args.first ≡ c.args.count = omega arith in
    rw all at c.loop-pass.invariant
