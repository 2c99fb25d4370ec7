-- `read_heights` has read the pixels passed so far.
use mathlib.Core.Path.{ap, ◌∙◌}
use Prim.Native.Nat.{◌+◌}
use native.Mathlib.Omega.{arith}
use borrow.Author.Rules.{rules}
use lib.IntN.{pos}
use mir.Syntax.{w32}
use mir.ValLaws.{to_z-of_z}
use Rattle.std.proofs.lemmas.List.Edits.{get_or-between}
use Rattle.buffer.specs.Pixel.{pixel}
use Rattle.buffer.specs.Copies.{heights_from}
use Rattle.buffer.proofs.Copies.{row_more}
use Rattle.buffer.proofs.read_heights.Goals as goal

pub loop-i-preserved : goal.loop-i-preserved
loop-i-preserved c =
    let a = c.args in
    row_more _ (heights_from a.map.now a.map_start) c.loop-i.i _ c.loop-i.to _ c.loop-i.invariant
    (c.read_pixel.ensures ∙ ap pixel (to_z-of_z w32 _ (search rules) ∙ get_or-between a.map.now a.map_start (a.map_start + a.count) c.loop-i.i (pos 0) (omega arith)))
