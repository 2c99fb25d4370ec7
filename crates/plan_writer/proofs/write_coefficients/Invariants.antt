-- `write_coefficients` meets its contract. The loop's invariant: the first j coefficient words are written. Assumes nothing.
use mathlib.Core.Path.{◌≡◌}
use lib.Seq.{sets}
use Rattle.plan_writer.specs.WritePlan.{coefficient_words}
use Rattle.plan_writer.proofs.write_coefficients.Given as goal

abbrev pub invariant-loop-j : goal.invariant-loop-j
invariant-loop-j l = l.words ≡ sets l.initial.words l.place (coefficient_words l.fn.pass l.j)
