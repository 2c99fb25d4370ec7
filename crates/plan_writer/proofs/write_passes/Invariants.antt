-- `write_passes` meets its contract. The loop's invariant: the words of the first i passes are written, and `next` is the
-- place after them. Assumes nothing.
use mathlib.Core.Path.{◌≡◌}
use Prim.Native.Nat.{◌+◌, ◌*◌}
use lib.Seq.{sets}
use Rattle.plan.specs.Sizes.{order_sum}
use Rattle.plan_writer.specs.WritePlan.{passes_words}
use Rattle.plan_writer.proofs.write_passes.Given as goal

abbrev pub invariant-loop-i : goal.invariant-loop-i
invariant-loop-i l =
    (l.next ≡ l.place + (2 * l.i + order_sum l.fn.plan l.i)) × (l.words ≡ sets l.initial.words l.place (passes_words l.fn.plan l.i))
