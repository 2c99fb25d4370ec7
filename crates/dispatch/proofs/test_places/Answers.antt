-- The first job that is not well placed is the answer. Assumes nothing.
use Rattle.std.proofs.Common.{arith, length, sym, ◌∙◌}
use borrow.Author.Tests.{lt-ltb, le-ltb}
use Rattle.dispatch.proofs.Searching.{misplaced_first, none_misplaced}
use Rattle.dispatch.proofs.test_places.Goals as goal

pub returns-then-not-well_placed : goal.returns-then-not-well_placed
returns-then-not-well_placed c =
    rw (
      misplaced_first _ _ _ c.loop-i.invariant c.loop-i-test.true (sym c.well_placed.ensures ∙ c.if-not-well_placed.true),
      lt-ltb _ _ c.loop-i-test.true,
    )

pub returns : goal.returns
returns c =
    let n = length c.args.jobs.now in
    rw (none_misplaced _ _ _ c.loop-i.invariant (omega arith), le-ltb n n (omega arith))
