-- One more text is written after those before it. Assumes nothing.
use Rattle.std.specs.Prelude.{List, ℕ, ◌+◌, Option}
use Rattle.std.proofs.Common.{add-one}
use Rattle.std.specs.Io.KnownBytes.{Appends}
use Rattle.std.proofs.KnownBytes.{Appends-trans}
use Rattle.smooth.specs.Printed.{joined}

pub Appends-next : (text : ℕ → List ℕ) (n : ℕ) (a b c : Option (List ℕ)) → Appends a b (joined text n) → Appends b c (text n)
    → Appends a c (joined text (n + 1))
Appends-next text n a b c before here = rw add-one (Appends-trans a b c (joined text n) (text n) before here)
