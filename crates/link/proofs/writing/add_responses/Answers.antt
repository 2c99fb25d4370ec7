-- `add_responses` has added the responses of the lines so far.
use mathlib.Core.Path.{refl, ◌∙◌}
use native.Mathlib.Omega.{arith}
use lib.ListN.{length-set}
use Rattle.link.proofs.writing.Places.{responses_none, responses_next}
use Rattle.link.proofs.writing.add_responses.Goals as goal

pub loop-line-init : goal.loop-line-init
loop-line-init c =
    record { length_kept = refl; as_made = responses_none _ _ _ _ _ _ }

pub loop-line-preserved : goal.loop-line-preserved
loop-line-preserved c =
    record {
      length_kept = length-set c.loop-line.strips _ _ ∙ c.loop-line.invariant.length_kept;
      as_made =
          responses_next c.args.from c.args.to c.args.step c.args.responses.now c.args.place
          c.args.strips.now c.loop-line.line (c.requires.read_before c.loop-line.line (omega arith)) c.loop-line.invariant.as_made
          c.response_place.ensures c.add.ensures;
    }
