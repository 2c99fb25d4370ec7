-- `copy_words` has copied the words passed so far.
use mathlib.Core.Path.{refl}
use Rattle.buffer.specs.Copies.{words_from}
use Rattle.buffer.proofs.Copies.{row_more}
use Rattle.buffer.proofs.copy_words.Goals as goal

pub loop-i-preserved : goal.loop-i-preserved
loop-i-preserved c =
    let words = words_from c.args.from.now c.args.from_start in
    row_more _ words c.loop-i.i _ c.loop-i.to _ c.loop-i.invariant refl
