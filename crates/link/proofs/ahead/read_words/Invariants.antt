-- `read_words` is safe and ends: each turn has fewer words left.
use Prim.Native.Nat.{◌-◌}
use lib.ListN.{length}
use Rattle.link.proofs.ahead.read_words.Given as goal

abbrev pub invariant-loop-i : goal.invariant-loop-i
invariant-loop-i l = Unit {0}

abbrev pub decreases-loop-i : goal.decreases-loop-i
decreases-loop-i l = length l.words - l.i
