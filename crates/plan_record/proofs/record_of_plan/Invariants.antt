-- `plan_record::record_of_plan` meets its contract: the words up to the first i passes stand in front. Assumes nothing.
use mathlib.Core.Path.{◌≡◌}
use lib.ListN.{length, take}
use Rattle.plan_record.specs.Records.{record_length, pass_start}
use Rattle.plan_record.proofs.RecordWords.{front}
use Rattle.plan_record.proofs.record_of_plan.Given as goal

abbrev pub invariant-loop-i : goal.invariant-loop-i
invariant-loop-i l = (length l.words ≡ record_length) × (take (pass_start l.i) l.words ≡ front l.fn.plan l.i)
