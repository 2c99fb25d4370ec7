-- Which test decides: what each says where it refuses the call, and what is known where it does not. Assumes nothing.
use mathlib.Core.Path.{◌≡◌}
use mathlib.Core.Bool.{true, false, not}
use mathlib.Core.List.{List}
use Prim.Native.Nat.{ℕ}
use native.Mathlib.Omega.{arith}
use lib.Dec.{ltb}
use lib.ListN.{length}
use Rattle.std.proofs.lemmas.Bool.Decides.{nat_tests}
use Rattle.std.specs.Prelude.{Option, Result, Ok, Err}
use Rattle.std.proofs.lemmas.List.Elements.{All-from_get_or}
use Rattle.refusal.specs.declared.Refusal.{Refusal}
use Rattle.refusal.specs.declared.Refusal.TheVariants.{RecordBreaksRule, MarkBroken, JobMisplaced}
use Rattle.turns.specs.declared.Job.{Job}
use Rattle.turns.specs.declared.Turn.{Turn}
use Rattle.turns.specs.Jobs.{jobs_kept, well_placed, first_misplaced, first_broken_place}
use Rattle.turns.specs.Turn.{turn}
use Rattle.turns.specs.Dispatch.{dispatch_given, dispatch_rows, dispatch}
use Rattle.turns.specs.Answers.{Kept}
use Rattle.turns.proofs.Least.{least_bound}
use Rattle.turns.proofs.Parts.{tested_kept, searched_placed, marks_inside}
use Rattle.dispatch.specs.Part.{JobLent, JobsLent, refused_if}

module _ (jobs : List Job) (last : ℕ) (marks : List ℕ) where
  abbrev sizes_tested : Result Unit Refusal
  sizes_tested = refused_if (not (jobs_kept jobs)) RecordBreaksRule

  abbrev places_tested : Result Unit Refusal
  places_tested =
      refused_if (ltb (first_misplaced jobs (length marks)) (length jobs)) (JobMisplaced (first_misplaced jobs (length marks)))

  abbrev marks_tested : Result Unit Refusal
  marks_tested = refused_if (ltb (first_broken_place jobs marks) (length marks)) (MarkBroken (first_broken_place jobs marks))

  abbrev Says : Result (Option Turn) Refusal → Type 0
  Says answer = dispatch_given answer ≡ dispatch jobs last marks

  pub refused_6 : (e : Refusal) → Err e ≡ sizes_tested → Says (Err e)
  unfolding dispatch dispatch_rows
  refused_6 e q = grind (arith, nat_tests)

  module _ (sizes : Ok tt ≡ sizes_tested) where
    no_6 : jobs_kept jobs ≡ true
    no_6 = grind (arith, nat_tests)

    pub sizes_passed : Kept jobs
    sizes_passed = tested_kept jobs no_6

    pub refused_18 : (e : Refusal) → Err e ≡ places_tested → Says (Err e)
    unfolding dispatch dispatch_rows
    refused_18 e q = grind (arith, nat_tests, no_6)

    module _ (places : Ok tt ≡ places_tested) where
      no_18 : ltb (first_misplaced jobs (length marks)) (length jobs) ≡ false
      no_18 = grind (arith, nat_tests)

      pub places_passed : JobsLent jobs (length marks)
      unfolding first_misplaced
      places_passed =
          let kept = sizes_passed in
          let placed =
          searched_placed jobs (length marks) (least_bound (λ i. not (well_placed jobs (length marks) i)) (length jobs) no_18) in
          record {
            few = kept.few;
            each =
                All-from_get_or (λ job. JobLent job (length marks)) jobs (record { rows = 0; columns = 0; side = 0; marks_start = 0 })
                (λ i l. record { kept = kept.sizes i l; inside = marks_inside jobs (length marks) placed i l });
          }

      pub refused_9 : (e : Refusal) → Err e ≡ marks_tested → Says (Err e)
      unfolding dispatch dispatch_rows
      refused_9 e q = grind (arith, nat_tests, no_6, no_18)

      pub made : Ok tt ≡ marks_tested → (found : Option Turn) → found ≡ turn jobs last marks → Says (Ok found)
      unfolding dispatch dispatch_rows
      made q found is = grind (arith, nat_tests, no_6, no_18)
