-- `square_from` has the rows of the lines passed so far.
use mathlib.Core.Path.{◌≡◌}
use Prim.Native.Nat.{ℕ, ◌+◌, ◌<◌}
use lib.ListN.{length}
use Rattle.plan.specs.Rules.{order_limit}
use Rattle.buffer.specs.Lists.{word_at}
use Rattle.squares.specs.LineBuffers.{row_words, square_at}
use Rattle.number.specs.Numbers.{row_major}
use Rattle.squares.proofs.square_from.Given as goal

abbrev pub invariant-loop-line : goal.invariant-loop-line
invariant-loop-line turn =
    (length turn.square ≡ order_limit)
    × ((l p : ℕ) → l < turn.line → p < order_limit
    → square_at turn.square l p ≡ word_at turn.lines (row_major row_words (turn.row + l) (turn.from + p)))
