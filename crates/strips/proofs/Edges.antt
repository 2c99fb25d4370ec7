-- Where a strip's places stand in an array that has a margin of order_limit places around the block. Assumes nothing.
use mathlib.Core.Path.{◌≡◌, refl}
use mathlib.Core.Bool.{true}
use Prim.Native.Nat.{ℕ, ◌+◌, ◌≤◌, ◌<◌}
use native.Mathlib.Omega.{arith}
use borrow.Author.Tests.{leb-true, lt-ltb, le-leb}
use Rattle.plan.specs.Rules.{order_limit}
use Rattle.axis.specs.Axis.{Direction, forward, backward}
use Rattle.task_words.specs.Strips.{place_inside, index_of_place}
use Rattle.strips.specs.StripRecord.{edge_start}

-- A place in the block stands where the index that it stands for does,
pub edge_index : (d : Direction) (order n place : ℕ) → order ≤ order_limit → place_inside d n order place ≡ true
    → edge_start d order n + place ≡ order_limit + index_of_place d n order place
edge_index forward order n place h e = let p = leb-true order (n + place) e in omega arith
edge_index backward order n place h e = refl

-- and a place that stands between the margins lies in the block.
pub edge_inside : (d : Direction) (order n place : ℕ) → order ≤ order_limit → order_limit ≤ edge_start d order n + place
    → edge_start d order n + place < order_limit + n → place_inside d n order place ≡ true
edge_inside forward order n place h p q = le-leb order (n + place) (omega arith)
edge_inside backward order n place h p q = lt-ltb place n (omega arith)
