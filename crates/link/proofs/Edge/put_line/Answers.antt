-- `put_line` puts the words of a place that lie in the block into their row.
use native.Mathlib.Omega.{arith}
use Rattle.buffer.proofs.Copies.{words_fit as row-words-fit}
use Rattle.link.proofs.lines.EdgeReads.{lines_few, words_fit, first_word, line_some, line_none}
use Rattle.link.proofs.Edge.put_line.Goals as goal

pub first_at-requires : goal.first_at-requires
first_at-requires c =
    omega (
      arith,
      first_word c.args.self.now.strip c.args.place c.args.places c.requires.strip_fits
          (omega (arith, c.lines_inside-count.ensures)),
    )

pub scale_words-requires : goal.scale_words-requires
scale_words-requires c = (
  rw (c.first_at.ensures, c.lines_inside-count.ensures) (words_fit c.args.self.now.strip c.args.place c.args.places c.requires.strip_fits),
  row-words-fit _ _ _
      (omega (
        arith,
        c.requires.rows_in_law,
        c.requires.long,
        c.requires.few_places,
        c.lines_inside-count.ensures,
        lines_few c.args.self.now.strip c.args.place c.args.places,
      )),
)

pub returns-then-count-gt0 : goal.returns-then-count-gt0
returns-then-count-gt0 c =
    let a = c.args in
    line_some a.self.now.gain a.self.now.strip a.strips.now a.place a.row a.places a.lines.now c.lines_inside-count.ensures
    (rw c.first_at.ensures at c.scale_words.ensures)

pub returns-else-count-gt0 : goal.returns-else-count-gt0
returns-else-count-gt0 c =
    let a = c.args in
    line_none a.self.now.gain a.self.now.strip a.strips.now a.place a.row a.places a.lines.now
    (omega (arith, c.lines_inside-count.ensures))
