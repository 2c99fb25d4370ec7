-- `add_distance` adds the words of one place of a strip, which are 0 outside the block.
use Prim.Native.Nat.{ℕ, ◌^◌, ◌<◌}
use native.Mathlib.Omega.{arith}
use Rattle.buffer.specs.Lists.{word_at}
use Rattle.link.proofs.carrying.Multiples.{distance_some, distance_none}
use Rattle.link.proofs.lines.EdgeReads.{lines_few, words_fit, first_word}
use Rattle.link.proofs.Edge.add_distance.Goals as goal
use Rattle.link.proofs.Edge.add_distance.Goals.{After-lines_inside-lines}

-- The responses are words.
small : (c : After-lines_inside-lines) (z : ℕ) → word_at c.args.responses.now z < 2 ^ 64
small c z = omega (arith, c.type_inv.responses z)

pub first_at-requires : goal.first_at-requires
first_at-requires c =
    omega (
      arith,
      first_word c.args.self.now.strip c.args.place c.args.course.now.lines c.requires.strip_fits
          (omega (arith, c.lines_inside-lines.ensures)),
    )

pub add_multiples-requires : goal.add_multiples-requires
add_multiples-requires c =
    record {
      few_places = c.requires.course_fits.order_limited;
      word_per_line =
          record {
            few_lines =
                omega (
                  arith,
                  c.requires.course_fits.few_lines,
                  c.lines_inside-lines.ensures,
                  lines_few c.args.self.now.strip c.args.place c.args.course.now.lines,
                );
            responses_long = c.requires.responses_long;
            words_fit =
                rw (c.first_at.ensures, c.lines_inside-lines.ensures)
                (words_fit c.args.self.now.strip c.args.place c.args.course.now.lines c.requires.strip_fits);
          };
    }

pub returns-then-lines-gt0 : goal.returns-then-lines-gt0
returns-then-lines-gt0 c =
    distance_some c.args.self.now.gain c.args.self.now.strip c.args.place c.args.course.now.lines c.args.course.now.order
    c.args.strips.now _ c.args.responses.now (small (goal.at.returns-then-lines-gt0 c).After-lines_inside-lines) c.requires.course_fits.order_limited c.lines_inside-lines.ensures
    (rw c.first_at.ensures at c.add_multiples.ensures)

pub returns-else-lines-gt0 : goal.returns-else-lines-gt0
returns-else-lines-gt0 c =
    let a = c.args in
    distance_none a.self.now.gain a.self.now.strip a.place a.course.now.lines a.course.now.order a.strips.now _ a.responses.now
    (small (goal.at.returns-else-lines-gt0 c).After-lines_inside-lines) (omega (arith, c.lines_inside-lines.ensures))
