-- `add_multiple` has added the multiples of the lines so far.
use mathlib.Core.Path.{refl, ◌∙◌}
use lib.ListN.{length-set}
use Rattle.link.proofs.carrying.Multiples.{multiple_none, multiple_next}
use Rattle.link.proofs.carrying.add_multiple.Goals as goal

pub loop-line-init : goal.loop-line-init
loop-line-init c =
    record { length_kept = refl; as_made = multiple_none _ _ _ _ _ _ }

pub loop-line-preserved : goal.loop-line-preserved
loop-line-preserved c =
    let a = c.args in
    record {
      length_kept = length-set c.loop-line.responses _ _ ∙ c.loop-line.invariant.length_kept;
      as_made =
          multiple_next a.place a.strips.now a.at a.step a.weight c.loop-line.line a.responses.now
          c.loop-line.invariant.as_made c.response_place-to.ensures c.mul-product.ensures c.add.ensures;
    }
