-- The run in which each turn's task is performed at once is a run in which only named tasks are. Assumes nothing.
use mathlib.Core.Path.{◌≡◌, refl, sym, ap}
use mathlib.Core.Logic.{⊎_elim}
use mathlib.Core.List.{List}
use Prim.Native.Nat.{ℕ, zero, suc}
use native.Mathlib.Omega.{arith}
use lib.ListN.{length}
use Rattle.turns.specs.declared.Job.{Job}
use Rattle.turns.specs.Dispatch.{zero_turn, dispatch}
use Rattle.turns.specs.Runs.{last_after, last_before, answer_at, NamesAt, NamedBy, Performed, nothing, task, OnlyNamed, after_turn, run_at_once, AtOnceIsARun, FairAtOnce}
use Rattle.turns.proofs.Answers.{names_well, names_or_none}
use Rattle.turns.proofs.Fairness.{fair}

-- The job that the next turn gets and the marks that it finds.
abbrev after_one : List Job → ℕ × List ℕ → ℕ × List ℕ
after_one jobs (last, marks) =
    (last_after last (dispatch jobs last marks).value, after_turn jobs marks (dispatch jobs last marks).value)

-- One turn more at the end.
run_next : (jobs : List Job) (last : ℕ) (marks : List ℕ) (n : ℕ)
    → run_at_once jobs last marks (suc n) ≡ after_one jobs (run_at_once jobs last marks n)
unfolding run_at_once
run_next jobs last marks zero = refl
run_next jobs last marks (suc n) =
    let (next, later) = after_one jobs (last, marks) in run_next jobs next later n

module _ (jobs : List Job) (last : ℕ) (marks : List ℕ) where
  -- The marks that turn n finds.
  abbrev marks_at : ℕ → List ℕ
  marks_at n = (run_at_once jobs last marks n).1

  -- Each turn gets the job named before.
  last_is : (n : ℕ) → last_before jobs last marks_at n ≡ (run_at_once jobs last marks n).0
  unfolding last_before run_at_once
  last_is zero = refl
  last_is (suc n) = rw (last_is n) (sym (ap (λ (p : ℕ × List ℕ). p.0) (run_next jobs last marks n)))

  -- The task that turn n names, if any, is performed.
  performed : (n : ℕ)
      → Performed jobs (NamedBy jobs last marks_at n) (marks_at n) (after_turn jobs (marks_at n) (answer_at jobs last marks_at n).value)
  unfolding after_turn
  performed n =
      let before = last_before jobs last marks_at n in
      ⊎_elim
      (λ ((i, t, k, e) : (i : ℕ) × (t : ℕ) × (k : ℕ) × NamesAt jobs last marks_at n i t k).
      rw e (task i t k (n, omega arith, e) (names_well jobs before (marks_at n) i t k e).ready nothing))
      (λ (e : (answer_at jobs last marks_at n).value ≡ zero_turn). rw e nothing)
      (names_or_none jobs before (marks_at n))

  only_named : (turns : ℕ) → OnlyNamed jobs last marks_at turns
  only_named turns n h =
      let e : marks_at (suc n) ≡ after_turn jobs (marks_at n) (answer_at jobs last marks_at n).value =
      rw (last_is n) (ap (λ (p : ℕ × List ℕ). p.1) (run_next jobs last marks n)) in
      rw e (performed n)

pub at_once_is_a_run : AtOnceIsARun
at_once_is_a_run jobs last marks turns = (only_named jobs last marks turns, last_is jobs last marks)

pub fair_at_once : FairAtOnce
unfolding run_at_once
fair_at_once jobs last marks a i inside e =
    let (n, l, t, k, q) = fair jobs last (marks_at jobs last marks) (only_named jobs last marks (length jobs)) a i inside e in
    (n, l, t, k, rw (last_is jobs last marks n) at q)
