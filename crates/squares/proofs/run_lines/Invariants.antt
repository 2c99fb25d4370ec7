-- `run_lines` has done the passes so far along the lines.
use Prim.Native.Nat.{◌-◌}
use Rattle.squares.specs.LineBuffers.{filter_at}
use Rattle.squares.specs.Rows.{LinesPassed}
use Rattle.squares.proofs.run_lines.Given as goal

abbrev pub invariant-loop-pass : goal.invariant-loop-pass
invariant-loop-pass l =
    LinesPassed (filter_at l.filters) l.places l.first (l.pass - l.first) l.initial.lines l.lines
