-- Demand 2 for plans (docs/PROOF.md): writing an accepted plan gives the same words. How words are laid out is in
-- number/KindWords and in plan_reader's PlanWords and ReadPlan.
use Rattle.std.specs.Prelude.{◌≡◌, true, List, ◌++◌, ℕ, ◌≤◌, length, drop}
use Rattle.refusal.specs.Refusals.{accepted}
use Rattle.plan.specs.declared.Plan.{Plan}
use Rattle.plan.specs.Rules.{keeps_rules}
use Rattle.plan.specs.Sizes.{fixed_words, word_limit}
use Rattle.plan_reader.specs.ReadPlan.{read_plan}
use Rattle.plan_writer.specs.WritePlan.{words_of, write_plan, written_words}
use Rattle.plan_writer.specs.RecordType.{WellShaped}

-- What reading and writing are to each other.
pub record Demand2 : Type 0 where
  -- Reading the words of a record that keeps the rules gives the record.
  pub read_back_law : (plan : Plan) → WellShaped plan → keeps_rules plan ≡ true
      → read_plan (words_of plan) ≡ record { answer = accepted; value = plan }
  -- Where reading accepts words, writing the record gives those words.
  pub written_back : (words : List ℕ) → (read_plan words).answer ≡ accepted → words_of (read_plan words).value ≡ words
  -- So does the call that writes: into any buffer at least as long it is accepted, answers how many words there are, and leaves
  -- just those words and behind them the buffer as it was.
  pub written_call : (words buffer : List ℕ) → (read_plan words).answer ≡ accepted → length words ≤ length buffer
      → (write_plan (read_plan words).value (length buffer) ≡ record { answer = accepted; value = length words })
      × (written_words (read_plan words).value buffer ≡ words ++ drop (length words) buffer)
  -- A record that was read keeps the rules, so that every other call takes it.
  pub keeps_rules_law : (words : List ℕ) → (read_plan words).answer ≡ accepted → keeps_rules (read_plan words).value ≡ true
  -- A plan has 11 to 43 words: 11, and one for each coefficient of four orders within the limit.
  pub counted : (words : List ℕ) → (read_plan words).answer ≡ accepted
      → (fixed_words ≤ length words) × (length words ≤ word_limit)
