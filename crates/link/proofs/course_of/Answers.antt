-- `course_of` is the course of the link: its lines are columns or rows.
use Rattle.plan.proofs.Record.{in_grid, order_limited_at}
use Rattle.link.proofs.Courses.{course_is, few_places}
use Rattle.link.proofs.course_of.Goals as goal

pub block_shape-shape-requires : goal.block_shape-shape-requires
block_shape-shape-requires c = in_grid c.args.plan c.requires.kept c.args.k c.requires.counted

pub course_along-requires : goal.course_along-requires
course_along-requires c =
    record {
      limited = rw c.order.ensures (order_limited_at c.args.plan c.requires.kept c.args.pass c.requires.pass_below);
      extent_small =
          rw c.extent.ensures
          (few_places c.args.plan c.args.k c.args.pass c.requires.kept c.requires.counted _ c.block_shape-shape.ensures);
    }

pub returns : goal.returns
returns c =
    course_is _ _ _ c.block_shape-shape.ensures c.extent.ensures c.lines.ensures
    c.order.ensures c.course_along.ensures
