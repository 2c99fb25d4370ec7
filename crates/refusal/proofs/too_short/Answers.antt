-- A length is below the needed one, or it is not. Assumes nothing.
use borrow.Author.Tests.{lt-ltb, le-ltb}
use Rattle.refusal.proofs.too_short.Goals as goal

pub returns-then-length-needed : goal.returns-then-length-needed
returns-then-length-needed c = rw (lt-ltb _ _ c.if-length-needed.true)

pub returns-else-length-needed : goal.returns-else-length-needed
returns-else-length-needed c = rw (le-ltb _ _ c.if-length-needed.false)
