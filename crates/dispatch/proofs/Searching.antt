-- Going over the jobs: their sizes, where their marks lie, the least broken place, and the first turn that a job has. Assumes nothing.
use mathlib.Core.Path.{◌≡◌, refl, sym, ap, ◌∙◌}
use mathlib.Core.Bool.{Bool, true, false, not, ◌&&◌, ◌||◌}
use mathlib.Core.Logic.{◌≢◌, ⊎_elim}
use mathlib.Core.List.{List, [], ◌∷◌}
use Prim.Native.Nat.{ℕ, zero, suc, ◌+◌, ◌<◌, ◌≤◌, min}
use native.Mathlib.Omega.{arith}
use native.Mathlib.Numerals.{add-one}
use lib.Dec.{leb}
use lib.ListN.{length, take}
use borrow.Author.Tests.{lt-ltb, le-ltb}
use borrow.Author.Count.{below_more}
use lib.Seq.{take_all}
use Rattle.std.specs.List.{list_all, filter_map, fold, reduce}
use Rattle.std.proofs.lemmas.Bool.Decides.{nat_tests}
use Rattle.std.proofs.lemmas.List.Folds.{list_all_more}
use Rattle.std.specs.Prelude.{None, Some}
use Rattle.number.specs.Numbers.{all_below}
use Rattle.number.proofs.Tests.{and_both, all_fails, lt_or_ge}
use Rattle.number.proofs.Sums.{all_below_law}
use Rattle.turns.specs.declared.Job.{Job}
use Rattle.turns.specs.declared.Turn.{Turn}
use Rattle.turns.specs.Jobs.{job_limit, least_from, job_at, sizes_kept, jobs_kept, marks_end, overlap, apart_unless_same, well_placed, first_misplaced, broken_for, first_broken_place, broken_place}
use Rattle.turns.specs.Turn.{job_done, going_round, waits, passed_over, turn_of, turn}
use Rattle.turns.proofs.Turns.{turn_waits, no_turn_done, turn_found, turn_none}
use Rattle.turns.proofs.Least.{least_none, least_is, least_most, least_either}
use Rattle.dispatch.specs.Part.{found_below, first_broken_of}

-- ---- the sizes

-- A test of each job of the list is the test of each number below its length.
all_listed : (test : Job → Bool) (jobs : List Job) → list_all test jobs ≡ all_below (λ i. test (job_at jobs i)) (length jobs)
unfolding all_below
all_listed test jobs = rw (take_all (length jobs) jobs (omega arith)) at (upto (length jobs) (omega arith))
  where
    upto : (n : ℕ) → n ≤ length jobs → list_all test (take n jobs) ≡ all_below (λ i. test (job_at jobs i)) n
    upto zero h = refl
    upto (suc n) h = rw (← add-one n, list_all_more test jobs n (record { rows = 0; columns = 0; side = 0; marks_start = 0 }) h, upto n (omega arith)) refl

module _ (jobs : List Job) where
  -- Of few jobs the sizes decide;
  pub few_kept : length jobs ≤ job_limit → (all : Bool) → all ≡ list_all sizes_kept jobs → all ≡ jobs_kept jobs
  unfolding jobs_kept
  few_kept l all e = grind (arith, nat_tests, all_listed sizes_kept jobs)

  -- too many are not kept.
  pub too_many : job_limit < length jobs → jobs_kept jobs ≡ false
  unfolding jobs_kept
  too_many l = grind (arith, nat_tests)

-- ---- where the marks of one job lie

module _ (jobs : List Job) (size i : ℕ) where
  -- A job is well placed that ends inside the list and is apart from every other job,
  pub placed_well : leb (marks_end (job_at jobs i)) size ≡ true
      → ((j : ℕ) → j < length jobs → j ≢ i → overlap (job_at jobs i) (job_at jobs j) ≡ false) → well_placed jobs size i ≡ true
  unfolding well_placed
  placed_well inside apart =
      and_both inside (all_below_law (apart_unless_same jobs i) (length jobs) (λ j l. grind (arith, nat_tests, apart j l)))

  -- one is not that ends past it,
  pub past_end : leb (marks_end (job_at jobs i)) size ≡ false → well_placed jobs size i ≡ false
  unfolding well_placed
  past_end e = grind arith

  -- or overlaps another.
  pub overlapping : (j : ℕ) → j < length jobs → j ≢ i → overlap (job_at jobs i) (job_at jobs j) ≡ true
      → well_placed jobs size i ≡ false
  unfolding well_placed
  overlapping j l ne e =
      grind (arith, nat_tests, all_fails (apart_unless_same jobs i) (length jobs) j l)

-- ---- the first misplaced job

module _ (jobs : List Job) (size i : ℕ) (before : (j : ℕ) → j < i → well_placed jobs size j ≡ true) where
  pub misplaced_first : i < length jobs → well_placed jobs size i ≡ false → first_misplaced jobs size ≡ i
  unfolding first_misplaced
  misplaced_first l e =
      least_is (λ j. not (well_placed jobs size j)) (length jobs) i (omega arith) (λ j h. rw (before j h)) (λ h. rw e)

  pub none_misplaced : length jobs ≤ i → first_misplaced jobs size ≡ length jobs
  unfolding first_misplaced
  none_misplaced l =
      least_none (λ j. not (well_placed jobs size j)) 0 (length jobs) (λ j g h. rw (before j (omega arith))) ∙ omega arith

-- ---- the least broken place of all

-- The least of a number and a list may be taken in any order.
fold_min : (a b : ℕ) (xs : List ℕ) → fold min (min a b) xs ≡ min a (fold min b xs)
fold_min a b [] = refl
fold_min a b (x ∷ xs) =
    let e : min (min a b) x ≡ min a (min b x) = omega arith in
    rw e (fold_min a (min b x) xs)

-- What was found is below the bound, and where nothing was found the number is not.
some_below : (bound number found : ℕ) → Some found ≡ found_below bound number → found ≡ number
some_below bound number found e = grind (arith, nat_tests)

none_below : (bound number : ℕ) → None ≡ found_below bound number → bound ≤ number
none_below bound number e = grind (arith, nat_tests)

-- A number below the bound and the least of those found.
found_more : (bound number least : ℕ) (found : List ℕ) → number < bound → least ≤ bound
    → reduce min found ≡ found_below bound least → fold min number found ≡ min number least
found_more bound number least [] h l e = let g = none_below bound least e in omega arith
found_more bound number least (x ∷ xs) h l e =
    fold_min number x xs ∙ ap (min number) (some_below bound least (fold min x xs) e)

module _ (marks : List ℕ) where
  -- A place is broken for the first job or for one of the others.
  broken_either : (job : Job) (jobs : List Job) (place : ℕ)
      → broken_place (job ∷ jobs) marks place ≡ (broken_for marks job place || broken_place jobs marks place)
  unfolding broken_place
  broken_either job jobs place =
      let sound : Job → Bool = λ job. not (broken_for marks job place) in
      rw (← all_listed sound (job ∷ jobs), ← all_listed sound jobs) (either (broken_for marks job place) (list_all sound jobs))
    where
      either : (a b : Bool) → not (not a && b) ≡ (a || not b)
      either true b = refl
      either false b = refl

  -- The least of the first broken place of each job is the first of all.
  pub first_found : (jobs : List Job)
      → reduce min (filter_map (first_broken_of marks) jobs) ≡ found_below (length marks) (first_broken_place jobs marks)
  unfolding first_broken_place broken_place all_below
  first_found [] =
      let e : least_from (broken_place [] marks) 0 (length marks) ≡ length marks =
      least_none (broken_place [] marks) 0 (length marks) (λ j h l. refl) ∙ omega arith in
      rw (e, le-ltb (length marks) (length marks) (omega arith)) refl
  first_found (job ∷ jobs) =
      let n = length marks in
      let number = least_from (broken_for marks job) 0 n in
      let least = least_from (broken_place jobs marks) 0 n in
      let most : least ≤ n = omega (arith, least_most (broken_place jobs marks) 0 n) in
      let both : min number least ≡ least_from (broken_place (job ∷ jobs) marks) 0 n =
      least_either (broken_for marks job) (broken_place jobs marks) (broken_place (job ∷ jobs) marks) n (broken_either job jobs) in
      rw (← both)
      (⊎_elim
      (λ (l : number < n).
      let m : min number least < n = omega arith in
      rw (lt-ltb number n l, lt-ltb (min number least) n m) (ap Some (found_more n number least _ l most (first_found jobs))))
      (λ (g : n ≤ number).
      let m : min number least ≡ least = omega arith in
      rw (le-ltb number n g, m) (first_found jobs))
      (lt_or_ge number n))

-- ---- the first turn, going round

module _ (jobs : List Job) (last : ℕ) (marks : List ℕ) (passed : ℕ)
    (done : (d : ℕ) → d < passed → job_done (job_at jobs (going_round jobs last d)) marks ≡ true) where
  -- After jobs that are done, the turn of the next one is the answer,
  pub turn_here : passed < length jobs → (i : ℕ) → i ≡ going_round jobs last passed → (found : Turn)
      → turn_of i (job_at jobs i) marks ≡ Some found → Some found ≡ turn jobs last marks
  unfolding passed_over
  turn_here l i is found e =
      let waiting : job_done (job_at jobs (going_round jobs last passed)) marks ≡ false =
      rw is at (turn_waits i (job_at jobs i) marks found e) in
      let first : passed_over jobs last marks ≡ passed =
      least_is (waits jobs last marks) (length jobs) passed (omega arith) (λ d h. rw (done d h)) (λ h. rw waiting) in
      sym (rw first at (turn_found jobs last marks (omega arith)) ∙ rw (← is) e)

  -- one that has no turn is done too,
  pub done_more : (i : ℕ) → i ≡ going_round jobs last passed → turn_of i (job_at jobs i) marks ≡ None
      → (d : ℕ) → d < passed + 1 → job_done (job_at jobs (going_round jobs last d)) marks ≡ true
  done_more i is e = below_more _ passed done (rw is at (no_turn_done i (job_at jobs i) marks e))

  -- and none is named where all are done.
  pub none_named : length jobs ≤ passed → None ≡ turn jobs last marks
  unfolding passed_over
  none_named l =
      let none = least_none (waits jobs last marks) 0 (length jobs) (λ d h m. rw (done d (omega arith))) in
      sym (turn_none jobs last marks (omega arith))
