-- The axis and the direction of a pass by the code's tests of its number. Assumes nothing.
use mathlib.Core.Path.{◌≡◌, refl, ap, sym, ◌∙◌}
use mathlib.Core.Bool.{Bool, true, false, true≢false}
use Prim.Native.Nat.{ℕ, zero, suc, ◌%◌, ◌<◌, ◌≤◌}
use native.Mathlib.Omega.{arith}
use lib.Dec.{eqb}
use Rattle.axis.specs.Axis.{Direction, columns, rows, forward, backward, axis_of, direction_of, is_backward, if_forward}

pub axis_columns : (pass : ℕ) → pass < 2 → axis_of pass ≡ columns
axis_columns zero h = refl
axis_columns (suc zero) h = refl
axis_columns (suc (suc t)) h = absurd (omega arith)

pub axis_rows : (pass : ℕ) → 2 ≤ pass → axis_of pass ≡ rows
axis_rows zero h = absurd (omega arith)
axis_rows (suc zero) h = absurd (omega arith)
axis_rows (suc (suc t)) h = refl

pub backward_is : (pass : ℕ) → eqb (pass % 2) 1 ≡ is_backward (direction_of pass)
backward_is zero = refl
backward_is (suc zero) = refl
backward_is (suc (suc t)) =
    let e : suc (suc t) % 2 ≡ t % 2 = omega arith in ap (λ z. eqb z 1) e ∙ backward_is t

-- A direction by the answer of `is_backward`.
pub runs_backward : (d : Direction) → is_backward d ≡ true → d ≡ backward
runs_backward backward e = refl
runs_backward forward e = absurd (true≢false (sym e))

pub runs_forward : (d : Direction) → is_backward d ≡ false → d ≡ forward
runs_forward forward e = refl
runs_forward backward e = absurd (true≢false e)

pub forward_low : (turned : Bool) (n : ℕ) → if_forward turned n ≤ n
forward_low true n = omega arith
forward_low false n = omega arith
