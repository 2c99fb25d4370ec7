-- `add_multiples` has added the multiples of the places so far.
use Prim.Native.Nat.{◌+◌, ◌*◌}
use Rattle.word.specs.Word.{◌⊗◌}
use Rattle.buffer.specs.Lists.{word_at}
use Rattle.link.specs.Carrying.{MultiplesAdded}
use Rattle.link.proofs.carrying.add_multiples.Given as goal

abbrev pub invariant-loop-place : goal.invariant-loop-place
invariant-loop-place turn =
    MultiplesAdded turn.lines turn.place (λ l. turn.gain ⊗ word_at turn.strips (turn.at + l * turn.step)) (word_at turn.weights) turn.initial.responses turn.responses
