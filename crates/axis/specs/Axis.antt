-- The axis and the direction of a pass: document 01, 'The four passes'.
use Rattle.std.specs.Prelude.{Bool, true, false, ℕ, zero, suc}

-- A pass runs along the columns or along the rows,
pub data Axis : Type 0 where
  columns : Axis
  rows : Axis

-- with rising index or with falling index.
pub data Direction : Type 0 where
  forward : Direction
  backward : Direction

-- The passes are down, up, right and left, numbered from 0: the first two run along the columns,
abbrev pub axis_of : ℕ → Axis
axis_of zero = columns
axis_of (suc zero) = columns
axis_of (suc (suc t)) = rows

-- and down and right run forward, up and left backward.
abbrev pub direction_of : ℕ → Direction
direction_of zero = forward
direction_of (suc zero) = backward
direction_of (suc (suc t)) = direction_of t

-- Of a height and a width, or of a row and a column, the one that runs along the lines of an axis,
abbrev pub along : Axis → ℕ → ℕ → ℕ
along columns vertical horizontal = vertical
along rows vertical horizontal = horizontal

-- and the one that runs across them.
abbrev pub across : Axis → ℕ → ℕ → ℕ
across columns vertical horizontal = horizontal
across rows vertical horizontal = vertical

-- Place i of line l of a map X: column l or row l.
abbrev pub line_of : Axis → (ℕ → ℕ → ℕ) → ℕ → ℕ → ℕ
line_of columns X l i = X i l
line_of rows X l i = X l i

-- Whether a direction is that of falling index.
abbrev pub is_backward : Direction → Bool
is_backward forward = false
is_backward backward = true

-- A number that counts in a forward pass alone,
abbrev pub if_forward : Bool → ℕ → ℕ
if_forward false x = x
if_forward true x = 0

-- and one that counts in a backward pass alone.
abbrev pub if_backward : Bool → ℕ → ℕ
if_backward false x = 0
if_backward true x = x
