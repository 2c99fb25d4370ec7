-- Inner: a line of a block in an array that has room for the words past the line's ends.
use Rattle.std.specs.Prelude.{ℕ, ◌+◌, ◌*◌}
use Rattle.grid.specs.Grid.{side_limit}
use Rattle.plan.specs.Rules.{order_limit}

-- The longest line, with a margin of order_limit places at both ends.
abbrev pub padded_line : ℕ
padded_line = side_limit + 2 * order_limit
