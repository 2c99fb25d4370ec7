-- `scale_row` has multiplied the words passed so far.
use mathlib.Core.Path.{◌≡◌}
use Prim.Native.Nat.{◌+◌, ◌-◌}
use native.Mathlib.Omega.{arith}
use borrow.Rule.Slice.PartMut.{mid_len}
use Rattle.buffer.proofs.Copies.{row_none, row_scaled_more}
use Rattle.filter.proofs.Scaling.{row_put}
use Rattle.filter.proofs.scale_row.Goals as goal

pub loop-word-init : goal.loop-word-init
loop-word-init c = row_none _ _ _

pub loop-word-preserved : goal.loop-word-preserved
loop-word-preserved c =
    let l = c.loop-word in
    let here : 0 + l.word-index ≡ l.word-index = omega arith in
    rw here
    at (row_scaled_more c.args.gain 0 l.word-index _ l.word-items c.mul.result l.invariant (rw here c.mul.ensures))

pub returns : goal.returns
returns c =
    let a = c.args in
    let l = c.loop-word in
    let wide : (a.start + a.width) - a.start ≡ a.width = omega arith in
    let all : l.word-index ≡ a.width =
    omega (arith, mid_len a.start (a.start + a.width) a.buffer.now c.requires, c.loop-word.auto.word-index-end) in
    let done = rw (wide, all) at l.invariant in
    rw (wide, done) (row_put a.gain a.start a.width a.buffer.now c.requires)
