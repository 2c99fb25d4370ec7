-- The lists after an accepted start: no task marked, strips 0, all other words as lent. Assumes nothing.
use mathlib.Core.Path.{◌≡◌, refl, ap, sym, ◌∙◌}
use Prim.Native.Nat.{ℕ, ◌+◌, ◌*◌, ◌<◌}
use native.Mathlib.Omega.{arith}
use Rattle.refusal.specs.Refusals.{accepted}
use Rattle.plan.specs.declared.Plan.{Plan}
use Rattle.plan.specs.Sizes.{needed_marks, needed_strips}
use Rattle.plan.proofs.FirstTests.{Suffices}
use Rattle.buffer.specs.Lists.{word_at}
use Rattle.buffer.specs.Written.{cleared}
use Rattle.buffer.proofs.Written.{written_length, written_other, written_at}
use Rattle.tasks.specs.Tasks.{nothing_done}
use Rattle.tasks.specs.Marks.{mark_of}
use Rattle.tasks.proofs.Progress.{sound_nothing}
use Rattle.job_spec.specs.Calls.{Buffers, lent_to_start, start_answer, unmarked, marks_after_start, strips_after_start, started}
use Rattle.job_spec.proofs.Start.{start_tells}
use Rattle.job_spec.proofs.Invariant.{Kept}

module _ (plan : Plan) (lent : Buffers) (start_accepted : start_answer plan lent.marks lent.strips ≡ accepted) where
  accepts : Suffices plan (lent_to_start lent.marks lent.strips)
  accepts = start_tells plan lent.marks lent.strips start_accepted

  pub started_zero : (q : ℕ) → q < needed_strips plan → word_at (started plan lent).strips q ≡ 0
  unfolding started strips_after_start cleared
  started_zero q h =
      let e : 0 + q * 1 ≡ q = omega arith in
      rw start_accepted
      (ap (word_at (cleared 0 1 (needed_strips plan) lent.strips)) (sym e)
      ∙ written_at (λ i. 0 + i * 1) (λ i. 0) (needed_strips plan) lent.strips (λ i j a b. omega arith)
      (λ i a. omega (arith, accepts.strips_long)) q h)

  pub start_kept : Kept plan lent nothing_done (started plan lent)
  unfolding started marks_after_start strips_after_start unmarked cleared
  start_kept =
      rw start_accepted
      (record {
        sound = sound_nothing plan.grid;
        shows = λ k h.
            written_at (λ k. k) (λ k. mark_of nothing_done k) (needed_marks plan) lent.marks (λ i j a b. omega arith)
            (λ i a. omega (arith, accepts.of7_long)) k h;
        marks_length = written_length _ _ (needed_marks plan) lent.marks;
        strips_length = written_length _ _ (needed_strips plan) lent.strips;
        output_length = refl;
        marks_past = λ k h. written_other _ _ (needed_marks plan) lent.marks k (λ i a. omega arith);
        strips_past = λ q h. written_other _ _ (needed_strips plan) lent.strips q (λ i a. omega arith);
        output_past = λ q h. refl;
      })
