-- `filter_words` has the residues of the coefficients passed so far.
use mathlib.Core.Path.{◌≡◌}
use Prim.Native.Nat.{ℕ, ◌<◌}
use lib.ListN.{length}
use Rattle.word.specs.Word.{residue}
use Rattle.plan.specs.Rules.{order_limit, coefficient_at}
use Rattle.buffer.specs.Lists.{word_at}
use Rattle.filter.proofs.filter_words.Given as goal

abbrev pub invariant-loop-place : goal.invariant-loop-place
invariant-loop-place l =
    (length l.coefficients ≡ order_limit)
    × ((k : ℕ) → k < l.place → word_at l.coefficients k ≡ residue (coefficient_at l.pass k))
