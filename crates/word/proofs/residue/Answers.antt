-- `word::residue` is the number's bits, which are its residue.
use Rattle.std.proofs.Common.{◌∙◌, w64}
use mir.ValLaws.{to_z-of_z}
use Rattle.word.proofs.Signs.{bits_are_residue}
use Rattle.word.proofs.residue.Goals as goal

pub returns : goal.returns
returns c =
    (rw (to_z-of_z w64 c.args.value c.ranges.value) at c.cast_unsigned.ensures)
    ∙ bits_are_residue c.args.value c.ranges.value
