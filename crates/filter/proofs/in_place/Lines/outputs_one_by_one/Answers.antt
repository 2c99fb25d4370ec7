-- `outputs_one_by_one` has done the places passed so far of all lines.
use mathlib.Core.Path.{refl}
use Prim.Native.Nat.{◌+◌}
use native.Mathlib.Omega.{arith}
use Rattle.filter.specs.Kernel.{filter_in_place}
use Rattle.filter.proofs.Turns.{lines_fit_fewer, place_more}
use Rattle.filter.proofs.in_place.Lines.outputs_one_by_one.Goals as goal

pub loop-done-init : goal.loop-done-init
unfolding filter_in_place
loop-done-init c = refl

pub overflow_add-history : goal.overflow_add-history
overflow_add-history c = omega (arith, c.requires.enough)

pub outputs_at_time-requires : goal.outputs_at_time-requires
outputs_at_time-requires c =
    rw c.loop-done.auto.buffer (lines_fit_fewer c.requires (c.args.history + c.loop-done.done + 1) (omega arith))

pub loop-done-preserved : goal.loop-done-preserved
loop-done-preserved c =
    place_more _ _ _ c.loop-done.done _ c.loop-done.buffer c.loop-done.invariant c.outputs_at_time.ensures
