-- `word::sub` is the difference of words.
use Rattle.std.proofs.Common.{arith}
use Rattle.word.specs.Word.{◌⊖◌, modulus, minus_one}
use Rattle.word.proofs.sub.Goals as goal

pub returns : goal.returns
unfolding ◌⊖◌ modulus minus_one
returns c = omega arith
