-- `smooth_job::smooth_map` meets its contract: the first q heights are filled in. Assumes nothing.
use mathlib.Core.Path.{◌≡◌}
use lib.ListN.{length, take}
use Rattle.smooth_job.specs.Program.{pixel_limit, heights_in}
use Rattle.smooth_job.proofs.smooth_map.Given as goal

abbrev pub invariant-loop-q : goal.invariant-loop-q
invariant-loop-q l =
    (length l.heights ≡ pixel_limit) × (take l.q l.heights ≡ heights_in l.input l.first l.q)
