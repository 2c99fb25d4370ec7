-- `link` writes the strip of the link; one of order 0 has no words.
use mathlib.Core.Path.{refl}
use lib.ListN.{length}
use Rattle.buffer.proofs.Listed.{zeros_at}
use Rattle.squares.specs.LineBuffers.{line_words}
use Rattle.link.specs.Courses.{LinkFits}
use Rattle.link.specs.Crossing.{response_words}
use Rattle.link.proofs.Courses.{link_orders}
use Rattle.link.proofs.Linked.{link_none, link_fits, link_laid, held_after_margin, link_is}
use Rattle.link.proofs.link.Goals as goal
use Rattle.link.proofs.link.Goals.{After-unit_gain_filters}

-- What the steps of a link want.
fits : (c : After-unit_gain_filters)
    → let a = c.args in
    LinkFits (record { plan = a.plan; k = a.k; course = c.course_of-course.result; filters = c.unit_gain_filters.result }) (length a.strips.now)
fits c =
    link_fits c.args.plan c.args.k c.args.pass c.requires c.course_of-course.ensures c.if-course-eq0.false
    c.unit_gain_filters.ensures

pub returns-then-course-eq0 : goal.returns-then-course-eq0
returns-then-course-eq0 c =
    link_none c.args.plan c.args.k c.args.pass c.requires c.course_of-course.ensures c.args.strips.now
    c.if-course-eq0.true

pub link_lines-requires : goal.link_lines-requires
link_lines-requires c =
    record { link_fits = fits (goal.at.link_lines-requires c).After-unit_gain_filters; zero_words = record { length_is = refl; zeros = zeros_at line_words } }

pub cross-requires : goal.cross-requires
cross-requires c =
    let link = fits (goal.at.cross-requires c).After-unit_gain_filters in
    record {
      cross_fits = record {
        course_fits = link.course_fits;
        orders = link_orders link;
        lines_long = c.link_lines.ensures.length_is;
        responses_long = refl;
      };
      by_index = zeros_at response_words;
    }

pub carry-requires : goal.carry-requires
carry-requires c =
    let ready = c.link_lines.ensures in
    record { carry_fits = record { link_fits = fits (goal.at.carry-requires c).After-unit_gain_filters; ready = ready }; held = c.cross.ensures _ ready }

pub write_strip-requires : goal.write_strip-requires
write_strip-requires c =
    link_laid c.args.plan c.args.k c.args.pass c.requires c.course_of-course.ensures c.if-course-eq0.false
    c.strip_of-lone.ensures c.half_words-shift.ensures (held_after_margin c.carry.ensures (c.read_strips-read.result)).length_is

pub returns : goal.returns
returns c =
    link_is c.args.plan c.args.k c.args.pass c.requires c.course_of-course.ensures c.unit_gain_filters.ensures
    c.args.strips.now _ refl (held_after_margin c.carry.ensures (c.read_strips-read.result)) c.strip_of-lone.ensures c.half_words-shift.ensures
    c.write_strip.ensures
