-- `word::signed` is what the word's bits are read as.
use Rattle.std.proofs.Common.{w64}
use mir.ValLaws.{of_z-to_z}
use Rattle.word.proofs.Signs.{read_is_signed}
use Rattle.word.proofs.signed.Goals as goal

pub returns : goal.returns
returns c = rw (c.cast_signed.ensures, of_z-to_z w64 c.args.word c.ranges.word) (read_is_signed c.args.word)
