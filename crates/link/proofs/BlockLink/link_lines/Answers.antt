-- `link_lines` runs the passes of the link's axis along the rows that are filled.
use native.Mathlib.Omega.{arith}
use Rattle.squares.specs.LineBuffers.{filter_at}
use Rattle.link.proofs.Courses.{link_orders}
use Rattle.link.proofs.lines.Filling.{lines_ready}
use Rattle.task_words.specs.ScaledEdges.{scaled_edges}
use Rattle.link.proofs.BlockLink.link_lines.Goals as goal

pub run_lines-requires : goal.run_lines-requires
run_lines-requires c =
    let link = c.requires.link_fits in
    let fits = link.course_fits in
    record {
      some_places = fits.some_places;
      few_places = fits.few_places;
      long = omega (arith, c.fill_lines.ensures.length_is);
      passes = fits.passes_counted;
      orders = link_orders link;
    }

pub returns : goal.returns
returns c =
    let link = c.requires.link_fits in
    lines_ready (filter_at c.args.self.now.filters) c.args.self.now.course
    (scaled_edges c.args.self.now.plan c.args.strips.now c.args.self.now.k c.args.self.now.course.pass) link.course_fits
    (link_orders link) c.fill_lines.ensures c.run_lines.ensures
