-- `add_multiples` has added the multiples of the places so far.
use native.Mathlib.Omega.{arith}
use Rattle.link.proofs.carrying.Multiples.{multiples_next}
use Rattle.link.proofs.carrying.add_multiples.Goals as goal

pub loop-place-preserved : goal.loop-place-preserved
loop-place-preserved c =
    let words = c.requires.word_per_line in
    multiples_next c.args.lines c.loop-place.place c.args.strips.now c.args.at c.args.step c.args.gain _
    c.args.responses.now words.few_lines (omega arith) words.responses_long c.loop-place.invariant c.mul-weight.ensures
    c.add_multiple.ensures
