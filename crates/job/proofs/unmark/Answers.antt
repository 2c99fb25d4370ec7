-- What `fill` writes are unmarked marks.
use mathlib.Core.Path.{◌≡◌}
use lib.ListN.{length, take}
use Rattle.std.proofs.Common.{length-take-le}
use Rattle.job.proofs.Starting.{filled}
use Rattle.job.proofs.unmark.Goals as goal

pub returns : goal.returns
returns c =
    let all : length (take c.args.count c.args.marks.now) ≡ c.args.count = length-take-le _ _ c.requires in
    rw (c.fill.ensures.after (λ y e. e), all) (filled _ _ c.requires)
