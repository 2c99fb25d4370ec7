-- `write_plan` meets its contract: refused by the record or the room, or the words are written. Assumes nothing.
use Rattle.std.proofs.Common.{rules}
use mathlib.Core.Path.{◌∙◌}
use Rattle.plan_writer.proofs.WriteAnswers.{call_refused, writable, written_call}
use Rattle.plan_writer.proofs.write_plan.Goals as goal

pub returns-in_err-sizes : goal.returns-in_err-sizes
returns-in_err-sizes c =
    let both = call_refused _ c.args.words.now _ (rw c.only_of_7.ensures at c.in_err-sizes.ensures) in
    search rules

pub write_words-requires : goal.write_words-requires
write_words-requires c = writable _ c.args.words.now _ (rw c.only_of_7.ensures at c.in_ok-sizes.ensures)

pub returns : goal.returns
returns c =
    let call = written_call _ c.args.words.now _ (rw c.only_of_7.ensures at c.in_ok-sizes.ensures) in
    record { answer = call.0; written = c.write_words.ensures ∙ call.1 }
