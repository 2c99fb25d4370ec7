-- What a read gives is counted.
use Rattle.std.proofs.Common.{◌++◌, arith, length-append}
use Rattle.std.proofs.KnownBytes.{Consumes-trans}
use Rattle.smooth.proofs.count_input.Goals as goal

pub loop-preserved : goal.loop-preserved
loop-preserved g c =
    let (moved, counted, read, few, passed) = c.loop.invariant in
    let (more, read', long) = c.in_ok-more.ensures.bytes in (
      moved ++ more,
      omega (arith, length-append moved more),
      Consumes-trans _ _ _ _ _ read read',
      omega (arith, c.in_ok-more.ensures.limit),
      omega (arith, length-append moved more),
    )
