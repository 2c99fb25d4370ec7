-- `write_words` meets its contract: size word, block word, passes and end word, one after the other, are the words of the
-- plan. Assumes nothing.
use native.Mathlib.Omega.{arith}
use Rattle.plan.proofs.Record.{rules}
use Rattle.plan_writer.proofs.WrittenWords.{plan_parts}
use Rattle.plan_writer.proofs.write_words.Goals as goal

pub size_word-requires : goal.size_word-requires
size_word-requires c = let r = rules _ c.requires.0 in (omega arith, omega arith)

pub block_word-requires : goal.block_word-requires
block_word-requires c = (rules _ c.requires.0).side_high

pub returns : goal.returns
returns c =
    plan_parts c.args.words.now c.args.plan c.size_word.ensures c.block_word.ensures c.word.ensures c.write_passes-end.ensures
