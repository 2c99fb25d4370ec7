-- `carry` has added the histories of the passes so far.
use native.Mathlib.Omega.{arith}
use Rattle.squares.specs.LineBuffers.{filter_at}
use Rattle.link.proofs.carrying.Histories.{carry_none, carry_next, carry_all}
use Rattle.link.proofs.BlockLink.carry.Goals as goal

pub loop-done-init : goal.loop-done-init
loop-done-init c = carry_none (filter_at c.args.self.now.filters) c.args.self.now.course _ c.requires.held

pub loop-done-preserved : goal.loop-done-preserved
loop-done-preserved c =
    let a = c.args in
    carry_next (filter_at a.self.now.filters) a.self.now.course _ c.loop-done.done (omega arith) c.loop-done.invariant c.carry_pass.ensures

pub returns : goal.returns
returns c =
    carry_all (filter_at c.args.self.now.filters) c.args.self.now.course _ c.requires.carry_fits.link_fits.course_fits c.loop-done.invariant
    (omega arith)
