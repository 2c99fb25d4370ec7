-- `word::add` is the sum of words.
use Rattle.std.proofs.Common.{refl}
use Rattle.word.specs.Word.{◌⊕◌, modulus}
use Rattle.word.proofs.add.Goals as goal

pub returns : goal.returns
unfolding ◌⊕◌ modulus
returns c = refl
