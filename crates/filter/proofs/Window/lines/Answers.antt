-- `lines` is the lines of the window, and its arithmetic fits since the window does.
use native.Mathlib.Omega.{arith}
use Rattle.filter.proofs.Numbers.{numbers_fit}
use Rattle.filter.proofs.Window.lines.Goals as goal

pub overflow_add-length : goal.overflow_add-length
overflow_add-length c = let h = numbers_fit _ _ _ _ c.requires in omega arith

pub overflow_mul-past : goal.overflow_mul-past
overflow_mul-past c =
    let h = numbers_fit _ _ _ _ c.requires in
    rw (c.if_backward.ensures, c.is_backward-backward.ensures, c.along-length.ensures, c.along-step.ensures) (omega arith)

pub overflow_add-result : goal.overflow_add-result
overflow_add-result c =
    let h = numbers_fit _ _ _ _ c.requires in
    rw (c.if_backward.ensures, c.is_backward-backward.ensures, c.along-length.ensures, c.along-step.ensures) (omega arith)
