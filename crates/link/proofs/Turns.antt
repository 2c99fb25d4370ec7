-- A loop over a buffer. Assumes nothing.
use mathlib.Core.List.{List}
use mathlib.Core.Path.{◌≡◌}
use Prim.Native.Nat.{ℕ}
use lib.ListN.{length}

-- Of the buffer `before` the turns so far have made the buffer `made`.
pub record Turned (before buffer made : List ℕ) : Type 0 where
  pub length_kept : length buffer ≡ length before
  pub as_made : buffer ≡ made
