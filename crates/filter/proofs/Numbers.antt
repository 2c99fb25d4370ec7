-- The numbers that `run_pass` works out of a pass number and a window. Assumes nothing.
use Prim.Native.Nat.{ℕ, ◌+◌, ◌-◌, ◌*◌, ◌<◌, ◌≤◌}
use native.Mathlib.Nat.{mul-le-mul_right}
use native.Mathlib.Omega.{arith}
use Rattle.axis.specs.Axis.{Axis, columns, rows, Direction, forward, backward, along, is_backward, if_forward, if_backward}
use Rattle.filter.specs.declared.Window.{Window}
use Rattle.number.specs.Numbers.{row_major}
use Rattle.filter.specs.Windows.{WindowFits}
use Rattle.number.proofs.RowMajor.{place_below}
use Rattle.filter.proofs.Windows.{some_lines, few_places, lines_fit}

-- What the arithmetic wants of the lines' length and step.
pub record NumbersFit (n : ℕ) (a : Axis) (d : Direction) (W : Window) (q : ℕ) : Type 0 where
  pub some : 0 < along a W.height W.width
  pub places : along a W.height W.width + q ≤ n
  pub corner : row_major W.stride W.top W.left < n
  pub past : row_major W.stride W.top W.left
      + if_backward (is_backward d) ((along a W.height W.width + q) - 1) * along a W.stride 1 < n
  pub before : if_forward (is_backward d) q * along a W.stride 1 ≤ row_major W.stride W.top W.left

before_corner : {n : ℕ} (a : Axis) (d : Direction) (W : Window) (q : ℕ) → WindowFits n a d W q
    → if_forward (is_backward d) q * along a W.stride 1 ≤ row_major W.stride W.top W.left
before_corner columns forward W q fits = omega (arith, mul-le-mul_right W.stride fits.start)
before_corner rows forward W q fits = omega (arith, fits.start)
before_corner a backward W q fits = omega arith

past_corner : {n : ℕ} (a : Axis) (d : Direction) (W : Window) (q : ℕ) → WindowFits n a d W q
    → row_major W.stride W.top W.left < n
    → row_major W.stride W.top W.left
    + if_backward (is_backward d) ((along a W.height W.width + q) - 1) * along a W.stride 1 < n
past_corner a forward W q fits h = omega arith
past_corner a backward W q fits h =
    let l = lines_fit a backward W q fits in
    omega (arith, l.high 0 0 l.some (omega (arith, (some_lines a backward W q fits).1)))

pub numbers_fit : {n : ℕ} (a : Axis) (d : Direction) (W : Window) (q : ℕ) → WindowFits n a d W q → NumbersFit n a d W q
numbers_fit {n} a d W q fits =
    let corner : row_major W.stride W.top W.left < n =
    omega (
      arith,
      fits.in_buffer,
      place_below (W.top + W.height + along a (if_backward (is_backward d) q) 0) W.stride W.top W.left
          (omega (arith, fits.tall)) (omega (arith, fits.wide, fits.in_row)),
    ) in
    record {
      some = (some_lines a d W q fits).1;
      places = omega (arith, few_places a d W q fits);
      corner = corner;
      past = past_corner a d W q fits corner;
      before = before_corner a d W q fits;
    }
