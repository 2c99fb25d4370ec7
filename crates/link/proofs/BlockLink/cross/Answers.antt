-- `cross` has made the passes of the other axis so far.
use mathlib.Core.Path.{◌∙◌}
use native.Mathlib.Omega.{arith}
use Rattle.squares.specs.LineBuffers.{filter_at}
use Rattle.link.proofs.crossing.OtherAxis.{cross_none, cross_next, cross_all}
use Rattle.link.proofs.BlockLink.cross.Goals as goal

pub loop-pass-init : goal.loop-pass-init
loop-pass-init c =
    record {
      length_is = c.requires.cross_fits.responses_long;
      held = λ H ready.
          cross_none (filter_at c.args.self.now.filters) c.args.self.now.course H c.args.responses.now c.requires.cross_fits.responses_long
          c.requires.by_index;
    }

pub loop-pass-preserved : goal.loop-pass-preserved
loop-pass-preserved c =
    let a = c.args in
    record {
      length_is = c.cross_pass.ensures.length_kept ∙ c.loop-pass.invariant.length_is;
      held = λ H ready.
          cross_next (filter_at a.self.now.filters) a.self.now.course H c.loop-pass.pass (omega arith) ready (c.loop-pass.invariant.held H ready)
          c.cross_pass.ensures;
    }

pub returns : goal.returns
returns c =
    λ H ready.
    cross_all (filter_at c.args.self.now.filters) c.args.self.now.course H c.requires.cross_fits.course_fits (c.loop-pass.invariant.held H ready)
    (omega arith)
