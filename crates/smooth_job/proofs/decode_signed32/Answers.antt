-- `smooth_job::decode_signed32` is what the word's bits are read as. Assumes nothing.
use Rattle.std.proofs.Common.{w32}
use mir.ValLaws.{of_z-to_z}
use Rattle.smooth_job.proofs.Signed.{read_is_signed32}
use Rattle.smooth_job.proofs.decode_signed32.Goals as goal

pub returns : goal.returns
returns c = rw (c.cast_signed.ensures, of_z-to_z w32 c.args.word c.ranges.word) (read_is_signed32 c.args.word)
