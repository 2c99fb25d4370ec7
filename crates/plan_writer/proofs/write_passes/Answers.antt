-- `write_passes` meets its contract: the next pass has room. Assumes nothing.
use native.Mathlib.Omega.{arith}
use Rattle.plan_writer.proofs.WrittenWords.{pass_fits}
use Rattle.plan_writer.proofs.write_passes.Goals as goal

pub write_pass-next-requires : goal.write_pass-next-requires
write_pass-next-requires c =
    rw c.loop-i.invariant.0 (pass_fits _ _ _ _ c.requires.0 c.loop-i-test.true (omega arith))
