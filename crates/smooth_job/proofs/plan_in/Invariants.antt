-- `smooth_job::plan_in` meets its contract: the first i words are filled in. Assumes nothing.
use mathlib.Core.Path.{◌≡◌}
use lib.ListN.{length, take}
use Rattle.buffer.specs.Lists.{list_of}
use Rattle.plan.specs.Sizes.{word_limit}
use Rattle.smooth_job.specs.Program.{word_in}
use Rattle.smooth_job.proofs.plan_in.Given as goal

abbrev pub invariant-loop-i : goal.invariant-loop-i
invariant-loop-i l =
    (length l.words ≡ word_limit) × (take l.i l.words ≡ list_of (word_in l.input) l.i)
