-- Demand 2 for plans holds. Assumes nothing.
use mathlib.Core.Path.{◌≡◌, sym, ap, ◌∙◌}
use mathlib.Core.List.{List, ◌++◌}
use Prim.Native.Nat.{ℕ, ◌+◌, ◌*◌, ◌≤◌}
use native.Mathlib.Omega.{arith}
use lib.ListN.{length, drop}
use Rattle.refusal.specs.Refusals.{accepted}
use Rattle.plan.specs.Rules.{order_limit}
use Rattle.plan.specs.Sizes.{word_count}
use Rattle.plan.proofs.Needed.{bounds}
use Rattle.plan_reader.specs.ReadPlan.{read_plan}
use Rattle.plan_writer.specs.WritePlan.{write_plan, written_words}
use Rattle.plan_writer.specs.Demand2.{Demand2}
use Rattle.plan_writer.proofs.WrittenWords.{length_words}
use Rattle.plan_writer.proofs.WriteAnswers.{call_accepted}
use Rattle.plan_writer.proofs.RoundTripWritten.{reading_written}
use Rattle.plan_writer.proofs.RoundTripRead.{writing_read, read_keeps_rules}

module _ (words : List ℕ) (read : (read_plan words).answer ≡ accepted) where
  count_is : word_count (read_plan words).value ≡ length words
  count_is = sym (length_words (read_plan words).value) ∙ ap length (writing_read words read)

  words_counted : (11 ≤ length words) × (length words ≤ 11 + 4 * order_limit)
  words_counted =
      let n = count_is in
      (omega arith, omega (arith, (bounds (read_plan words).value (read_keeps_rules words read)).orders_high))

call_writes : (words buffer : List ℕ) → (read_plan words).answer ≡ accepted → length words ≤ length buffer
    → (write_plan (read_plan words).value (length buffer) ≡ record { answer = accepted; value = length words })
    × (written_words (read_plan words).value buffer ≡ words ++ drop (length words) buffer)
call_writes words buffer read room =
    let plan = (read_plan words).value in
    let n = count_is words read in
    let call = call_accepted plan buffer (read_keeps_rules words read) (omega arith) in
    (call.0 ∙ rw n, call.1 ∙ rw (writing_read words read, n))

pub demand2 : Demand2
demand2 =
    record {
      read_back_law = reading_written;
      written_back = writing_read;
      written_call = call_writes;
      keeps_rules_law = read_keeps_rules;
      counted = words_counted;
    }
