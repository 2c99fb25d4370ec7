-- `load_pair` stores the words of two heights.
use mathlib.Core.Path.{◌≡◌, ap, ◌∙◌}
use Prim.Native.Nat.{◌+◌}
use native.Mathlib.Omega.{arith}
use borrow.Author.Rules.{rules}
use mir.Syntax.{w32}
use mir.ValLaws.{to_z-of_z}
use Rattle.buffer.specs.Lists.{number_at}
use Rattle.buffer.specs.Pixel.{pixel}
use Rattle.buffer.specs.Copies.{heights_from}
use Rattle.buffer.proofs.Copies.{row_two}
use Rattle.collect_finish.proofs.load_pair.Goals as goal

pub returns : goal.returns
returns c =
    let a = c.args in
    let first = number_at a.map.now a.map_start in
    let second = number_at a.map.now (a.map_start + 1) in
    let begins : a.map_start ≡ a.map_start + 0 = omega arith in
    row_two a.work_start (heights_from a.map.now a.map_start) a.work.now _ _
    (c.read_pixel-first.ensures
    ∙ ap pixel (to_z-of_z w32 first (search rules))
    ∙ ap (λ place. pixel (number_at a.map.now place)) begins)
    (c.read_pixel-second.ensures ∙ ap pixel (to_z-of_z w32 second (search rules)))
