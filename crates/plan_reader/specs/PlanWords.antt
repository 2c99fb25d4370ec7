-- Plan words, document 01's table: what a payload of each kind holds and may be.
use Rattle.std.specs.Prelude.{Bool, ◌&&◌, ℕ, ◌/◌, ◌%◌, ℤ, leb, eqb}
use Rattle.plan.specs.Rules.{order_limit}
use Rattle.number.specs.Numbers.{within}
use Rattle.number.specs.SignedBits.{twos_complement}
use Rattle.grid.specs.Grid.{size_limit, side_limit}
use Rattle.plan_reader.specs.declared.Kind.{Kind}
use Rattle.plan_reader.specs.declared.Kind.TheVariants.{Size, Block, Pass, Gain, Coefficient, End}

-- The number of each kind of plan words.
abbrev pub kind_number : Kind → ℕ
kind_number Size = 1
kind_number Block = 2
kind_number Pass = 3
kind_number Gain = 4
kind_number Coefficient = 5
kind_number End = 6

-- Size, kind 1: the rows in bits 13 to 25.
abbrev pub rows_in : ℕ → ℕ
rows_in payload = payload / 8192 % 8192

-- Size, kind 1: the columns in bits 0 to 12.
abbrev pub columns_in : ℕ → ℕ
columns_in payload = payload % 8192

-- Size, kind 1: rows and columns from 1 to 4,096, bits 26 and 27 zero.
abbrev pub size_allowed : ℕ → Bool
size_allowed payload =
    within (rows_in payload) size_limit && (within (columns_in payload) size_limit && eqb (payload / 67108864) 0)

-- Block, kind 2: the block side, from 1 to 32.
abbrev pub side_allowed : ℕ → Bool
side_allowed payload = within payload side_limit

-- Pass, kind 3: the order in bits 0 to 3.
abbrev pub order_in : ℕ → ℕ
order_in payload = payload % 16

-- Pass, kind 3: the pass in bits 4 and 5, 0 down, 1 up, 2 right, 3 left.
abbrev pub pass_in : ℕ → ℕ
pass_in payload = payload / 16 % 4

-- Pass, kind 3: the pass that is due, an order up to the limit, all other bits zero.
abbrev pub pass_allowed : ℕ → ℕ → Bool
pass_allowed pass payload =
    eqb (pass_in payload) pass && (leb (order_in payload) order_limit && eqb (payload / 64) 0)

-- The kind of the end word.
abbrev pub end_kind : ℕ
end_kind = 6

-- End, kind 6: zero.
abbrev pub end_allowed : ℕ → Bool
end_allowed payload = eqb payload 0

-- Gain and coefficient, kinds 4 and 5: signed 28 bits.
unfoldable pub signed28 : ℕ → ℤ
signed28 payload = twos_complement 28 payload
