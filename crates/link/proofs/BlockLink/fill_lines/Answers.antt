-- `fill_lines` has filled the rows of the passes so far.
use Rattle.squares.specs.LineBuffers.{filter_at}
use Rattle.link.proofs.lines.Filling.{filled_more}
use Rattle.link.proofs.BlockLink.fill_lines.Goals as goal

pub loop-pass-preserved : goal.loop-pass-preserved
loop-pass-preserved c =
    filled_more (filter_at c.args.self.now.filters) c.args.self.now.course _ c.loop-pass.pass c.requires.link_fits.course_fits c.loop-pass.invariant
    c.fill_pass.ensures
