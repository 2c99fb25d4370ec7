-- What the call answers and leaves in the lent words, by the sizes of the plan or its refusal. Assumes nothing.
use mathlib.Core.Path.{◌≡◌, refl, sym, ap, ◌∙◌}
use mathlib.Core.Bool.{true}
use mathlib.Core.List.{List, ◌++◌}
use Prim.Native.Nat.{ℕ, ◌≤◌}
use lib.ListN.{length, drop}
use lib.Seq.{sets}
use Rattle.std.specs.Prelude.{Ok, Err, Some}
use Rattle.refusal.specs.declared.Refusal.{Refusal}
use Rattle.refusal.specs.Refusals.{accepted}
use Rattle.plan.specs.declared.BufferOf7.TheVariants as of7
use Rattle.plan.specs.declared.Plan.{Plan}
use Rattle.plan.specs.declared.Sizes.{Sizes}
use Rattle.plan.specs.Rules.{keeps_rules}
use Rattle.plan.specs.Sizes.{word_count, sizes_of}
use Rattle.plan.specs.FirstTests.{sizes_for, sizes_given}
use Rattle.plan.proofs.Known.{sizes_known, sizes_refused}
use Rattle.plan.proofs.FirstTests.{suffices, only_accepted}
use Rattle.plan_writer.specs.WritePlan.{words_of, lent_to_writer, write_plan, written_given, written_words}
use Rattle.plan_writer.proofs.WrittenWords.{words_in_front}

module _ (plan : Plan) (words : List ℕ) where
  -- A plan that keeps the rules is written where there is room.
  pub call_accepted : keeps_rules plan ≡ true → word_count plan ≤ length words
      → (write_plan plan (length words) ≡ record { answer = accepted; value = word_count plan })
      × (written_words plan words ≡ words_of plan ++ drop (word_count plan) words)
  unfolding write_plan written_words
  call_accepted kept room =
      let accepts = only_accepted plan (Some (of7.Words (length words))) kept room in (rw accepts, rw accepts)

  -- ---- by the sizes that the plan has or is refused

  pub call_refused : (refusal : Refusal) → sizes_given (Err refusal) ≡ sizes_for plan (lent_to_writer (length words))
      → (written_given (Err refusal) ≡ write_plan plan (length words)) × (words ≡ written_words plan words)
  unfolding write_plan written_words
  call_refused refusal is =
      let refuses = sizes_refused plan (lent_to_writer (length words)) (Err refusal) is refusal refl in (rw (← refuses), rw (← refuses))

  module _ (sizes : Sizes) (is : sizes_given (Ok sizes) ≡ sizes_for plan (lent_to_writer (length words))) where
    pub writable : (keeps_rules plan ≡ true) × (word_count plan ≤ length words)
    writable =
        let enough = suffices plan (lent_to_writer (length words)) (sizes_known plan (lent_to_writer (length words)) (Ok sizes) is sizes refl).0 in
        (enough.rules, enough.of7_long)

    known_count : sizes.words ≡ word_count plan
    unfolding sizes_of
    known_count = ap (λ (s : Sizes). s.words) (sizes_known plan (lent_to_writer (length words)) (Ok sizes) is sizes refl).1

    pub written_call : (written_given (Ok sizes.words) ≡ write_plan plan (length words))
        × (sets words 0 (words_of plan) ≡ written_words plan words)
    written_call =
        let call = call_accepted writable.0 writable.1 in
        (rw known_count (sym call.0), words_in_front plan words writable.1 ∙ sym call.1)
