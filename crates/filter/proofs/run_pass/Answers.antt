-- `run_pass` is the pass over the window: the gain first, and then the pass of gain 1, or nothing more at order 0.
use mathlib.Core.Path.{◌≡◌, ◌∙◌}
use native.Mathlib.Omega.{arith}
use lib.ListN.{length}
use Rattle.passes.specs.Gains.{unit_gain}
use Rattle.filter.specs.FilterWords.{filter_with}
use Rattle.filter.proofs.Windows.{lines_fit, lines_apart, kernel_pass}
use Rattle.filter.proofs.WindowWords.{fits_down}
use Rattle.filter.proofs.Scaling.{gain_then_pass, gain_then_none}
use Rattle.filter.proofs.run_pass.Goals as goal

pub scale-requires : goal.scale-requires
scale-requires c = fits_down _ _ _ _ c.requires.1

pub returns-then-filter-eq0 : goal.returns-then-filter-eq0
returns-then-filter-eq0 c =
    gain_then_none c.args.pass c.args.window (filter_with c.args.filter) c.args.history
    c.args.buffer.now c.requires.1 c.scale.ensures c.if-filter-eq0.true

pub filter-requires : goal.filter-requires
filter-requires c =
    let e : length c.scale.new.buffer ≡ length c.args.buffer.now = omega (arith, c.scale.auto) in (
      omega (arith, c.if-filter-eq0.false),
      rw (c.lines.ensures, c.along-places.ensures, e) (lines_fit _ _ _ _ c.requires.1),
      rw (c.lines.ensures, c.along-places.ensures) (lines_apart _ _ _ _ c.requires.1),
    )

pub returns : goal.returns
returns c =
    let e : length c.scale.new.buffer ≡ length c.args.buffer.now = omega (arith, c.scale.auto) in
    gain_then_pass c.args.pass c.args.window (filter_with c.args.filter) c.args.history
    c.args.buffer.now c.requires.1 c.scale.ensures
    ((rw (c.lines.ensures, c.along-places.ensures) at c.filter.ensures)
    ∙ kernel_pass c.args.pass c.args.window (unit_gain (filter_with c.args.filter)) c.args.history _
    (rw e c.requires.1))
