-- `scale_words` has multiplied the words passed so far.
use Prim.Native.Nat.{◌+◌, ◌*◌}
use Rattle.buffer.specs.Copies.{scaled_from}
use Rattle.buffer.proofs.Written.{written_more}
use Rattle.buffer.proofs.scale_words.Goals as goal

pub loop-i-preserved : goal.loop-i-preserved
loop-i-preserved c =
    let a = c.args in
    written_more (λ j. a.to_start + j * a.to_step) (scaled_from a.gain a.from.now a.from_start a.from_step) c.loop-i.i _ c.loop-i.to _
    c.loop-i.invariant c.mul.ensures
