-- `write_place` puts the lone words of the lines in the block, with their responses, and clears the others.
use Prim.Native.Nat.{ℕ, ◌+◌, ◌*◌, ◌<◌, ◌≤◌}
use native.Mathlib.Omega.{arith}
use lib.ListN.{length}
use Rattle.link.proofs.lines.EdgeReads.{lines_few}
use Rattle.link.proofs.writing.Places.{word_inside, word_before, place_written, place_full}
use Rattle.link.proofs.writing.write_place.Goals as goal
use Rattle.link.proofs.writing.write_place.Goals.{After-lines_inside-lines}

-- The linked word of a line is in the strips.
there : (c : After-lines_inside-lines) (line : ℕ) → line < c.args.side
    → c.first_at-from.result + c.args.shift + line * c.args.lone.line_step
    < length c.args.strips.now
there c line h =
    let a = c.args in
    word_inside a.lone a.shift a.side a.place a.responses.now a.strips.now c.requires
    c.first_at-from.ensures line h

-- The lines of the place are in the strip.
few : (c : After-lines_inside-lines) → c.lines_inside-lines.result ≤ c.args.side
few c =
    let a = c.args in
    omega (arith, c.lines_inside-lines.ensures, lines_few a.lone a.place a.side)

pub add_responses-requires : goal.add_responses-requires
add_responses-requires c =
    record {
      place_low = omega (arith, c.requires.few_places);
      word_per_line =
          record {
            few_lines = omega (arith, few (goal.at.add_responses-requires c).After-lines_inside-lines, c.requires.few_lines);
            responses_long = c.requires.responses_long;
            words_fit = record { inside = λ line h. there (goal.at.add_responses-requires c).After-lines_inside-lines line (omega (arith, few (goal.at.add_responses-requires c).After-lines_inside-lines)) };
          };
      read_before = λ line h.
          word_before c.args.lone c.args.shift c.args.side c.args.place c.args.responses.now
          c.args.strips.now c.requires c.first_at-from.ensures line (omega (arith, few (goal.at.add_responses-requires c).After-lines_inside-lines));
    }

pub clear_words-requires : goal.clear_words-requires
clear_words-requires c =
    record {
      inside = λ line h.
          omega (arith, there (goal.at.clear_words-requires c).After-lines_inside-lines (c.lines_inside-lines.result + line) (omega (arith, few (goal.at.clear_words-requires c).After-lines_inside-lines)), c.add_responses.auto);
    }

pub returns-then-lines-side : goal.returns-then-lines-side
returns-then-lines-side c =
    place_written c.args.lone c.args.shift c.args.side c.args.place c.args.responses.now
    c.args.strips.now c.requires c.first_at-from.ensures c.lines_inside-lines.ensures c.add_responses.ensures c.clear_words.ensures

pub returns-else-lines-side : goal.returns-else-lines-side
returns-else-lines-side c =
    place_full c.args.lone c.args.shift c.args.side c.args.place c.args.responses.now
    c.args.strips.now c.requires c.first_at-from.ensures c.lines_inside-lines.ensures (omega arith) c.add_responses.ensures
