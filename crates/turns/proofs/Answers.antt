-- The answers of the dispatcher: what is accepted, what each refusal says, and what a named task is. Assumes nothing.
use mathlib.Core.Path.{◌≡◌, refl, sym, ap, ◌∙◌}
use mathlib.Core.Logic.{◌⊎◌, inl, inr, ⊎_elim}
use mathlib.Core.Bool.{Bool, true, false, not, cond}
use mathlib.Core.List.{List}
use Rattle.std.specs.Prelude.{Option, None, Some, Ok}
use Prim.Native.Nat.{ℕ, ◌+◌, ◌<◌}
use native.Mathlib.Omega.{arith}
use lib.Dec.{ltb, eqb}
use lib.ListN.{length, length-drop}
use borrow.Author.Tests.{ltb-true, le-ltb, not-true, not-false}
use Rattle.number.proofs.Tests.{lt_or_ge}
use Rattle.refusal.specs.Refusals.{Answer, accepted, refused}
use Rattle.refusal.specs.Table.{first_due, Given, given}
use Rattle.refusal.proofs.Table.{none_of}
use Rattle.plan.specs.declared.Plan.{Plan}
use Rattle.plan.specs.Rules.{keeps_rules}
use Rattle.tasks.specs.Marks.{is_marked}
use Rattle.tasks.proofs.Marking.{Valid, valid_shows, valid_only}
use Rattle.report.specs.Report.{progress_of, report}
use Rattle.report.proofs.Claims.{found_ready, reported}
use Rattle.turns.specs.declared.Job.{Job}
use Rattle.turns.specs.declared.Turn.{Turn}
use Rattle.turns.specs.Jobs.{job_at, grid_of, jobs_kept, well_placed, first_misplaced, broken_place, first_broken_place}
use Rattle.turns.specs.Turn.{ready_to, marks_from, marked_in, job_done, passed_over, turn_to, turn}
use Rattle.turns.specs.Dispatch.{TurnValues, zero_turn, turn_values, dispatch_given, dispatch_rows, dispatch}
use Rattle.turns.specs.Answers.{LetThrough, LetThroughIsAccepted, Refuses, RefusesAtTheLeast, naming, NoneIfAllDone, WellNamed, NamesWell}
use Rattle.turns.proofs.Least.{clash, least_below_law, least_holds, least_bound}
use Rattle.turns.proofs.Parts.{kept_tested, tested_kept, misplaced_tested, tested_misplaced, searched_placed, marks_inside, broken_at_law, at_broken, let_through_passes, passes_let_through}
use Rattle.turns.proofs.Turns.{round_in, come_before, passed_done, Found, named_found, none_all_done, all_done_none}

-- ---- what is accepted

module _ (jobs : List Job) (last : ℕ) (marks : List ℕ) where
  -- The turn is answered on what the refusals let through,
  pub let_through_made : LetThrough jobs marks → dispatch jobs last marks ≡ dispatch_given (Ok (turn jobs last marks))
  unfolding dispatch dispatch_rows
  let_through_made a =
      let p = let_through_passes jobs marks a in
      rw (
        p.sizes,
        le-ltb (first_misplaced jobs (length marks)) (length jobs) (omega (arith, p.none_misplaced)),
        le-ltb (first_broken_place jobs marks) (length marks) (omega (arith, p.none_broken)),
      )

  -- and only on that.
  pub accepted_let_through : (dispatch jobs last marks).answer ≡ accepted → LetThrough jobs marks
  unfolding dispatch dispatch_rows first_misplaced first_broken_place
  accepted_let_through e =
      let (kept, (placed, (sound, none))) = none_of (dispatch_rows jobs marks) e in
      passes_let_through jobs marks
      (record {
        sizes = not-false (jobs_kept jobs) kept;
        none_misplaced = least_bound (λ i. not (well_placed jobs (length marks) i)) (length jobs) placed;
        none_broken = least_bound (broken_place jobs marks) (length marks) sound;
      })

pub let_through_is_accepted : LetThroughIsAccepted
let_through_is_accepted jobs last marks =
    (λ a. ap (λ (g : Given TurnValues). g.answer) (let_through_made jobs last marks a), accepted_let_through jobs last marks)

-- ---- what is refused

-- Which of the three rows answers, by its number.
record Decided (six eighteen nine : Bool) (job mark number place : ℕ) : Type 0 where
  by_6 : number ≡ 6 → (six ≡ true) × (place ≡ 0)
  by_18 : number ≡ 18 → (six ≡ false) × (eighteen ≡ true) × (place ≡ job)
  by_9 : number ≡ 9 → (six ≡ false) × (eighteen ≡ false) × (nine ≡ true) × (place ≡ mark)
  only : (number ≡ 6) ⊎ ((number ≡ 18) ⊎ (number ≡ 9))

decided : (six eighteen nine : Bool) (job mark number place : ℕ)
    → cond six (refused 6 0) (cond eighteen (refused 18 job) (cond nine (refused 9 mark) accepted)) ≡ refused number place
    → Decided six eighteen nine job mark number place
decided true b c job mark number place e =
    let n : 6 ≡ number = cc in
    record { by_6 = λ q. (refl, cc); by_18 = λ q. absurd (omega arith); by_9 = λ q. absurd (omega arith); only = inl (sym n) }
decided false true c job mark number place e =
    let n : 18 ≡ number = cc in
    record { by_6 = λ q. absurd (omega arith); by_18 = λ q. (refl, refl, cc); by_9 = λ q. absurd (omega arith); only = inr (inl (sym n)) }
decided false false true job mark number place e =
    let n : 9 ≡ number = cc in
    record { by_6 = λ q. absurd (omega arith); by_18 = λ q. absurd (omega arith); by_9 = λ q. (refl, refl, refl, cc); only = inr (inr (sym n)) }
decided false false false job mark number place e = absurd cc

module _ (jobs : List Job) (last : ℕ) (marks : List ℕ) where
  rows_decided : (number place : ℕ) → (dispatch jobs last marks).answer ≡ refused number place
      → Decided (not (jobs_kept jobs)) (ltb (first_misplaced jobs (length marks)) (length jobs))
      (ltb (first_broken_place jobs marks) (length marks)) (first_misplaced jobs (length marks)) (first_broken_place jobs marks)
      number place
  unfolding dispatch dispatch_rows
  rows_decided number place e = decided _ _ _ _ _ number place e

  least_refused : Refuses jobs last marks
  unfolding first_misplaced first_broken_place
  least_refused =
      record {
        by_6 = λ place e.
            let (q, zero) = (rows_decided 6 place e).by_6 refl in
            (zero, λ kept. clash (kept_tested jobs kept) (not-true (jobs_kept jobs) q));
        by_18 = λ i e.
            let (q, found, is) = (rows_decided 18 i e).by_18 refl in
            let kept = tested_kept jobs (not-false (jobs_kept jobs) q) in
            let l = ltb-true (first_misplaced jobs (length marks)) (length jobs) found in
            let test : ℕ → Bool = λ j. not (well_placed jobs (length marks) j) in (
              kept,
              omega arith,
              rw is
                  (tested_misplaced jobs (length marks) (first_misplaced jobs (length marks)) kept l
                  (not-true _ (least_holds test 0 (length jobs) (omega arith)))),
              λ j h m.
                  clash (not-false _ (least_below_law test 0 (length jobs) j (omega arith) (omega arith)))
                  (misplaced_tested jobs (length marks) j m),
            );
        by_9 = λ place e.
            let (q, none, found, is) = (rows_decided 9 place e).by_9 refl in
            let l = ltb-true (first_broken_place jobs marks) (length marks) found in
            let broken = broken_place jobs marks in (
              tested_kept jobs (not-false (jobs_kept jobs) q),
              searched_placed jobs (length marks)
                  (least_bound (λ j. not (well_placed jobs (length marks) j)) (length jobs) none),
              broken_at_law jobs marks place (rw is (least_holds broken 0 (length marks) (omega arith))),
              λ i k at.
                  ⊎_elim
                  (λ (h : (job_at jobs i).marks_start + k < place).
                  absurd
                  (at_broken jobs marks i k at
                  (least_below_law broken 0 (length marks) ((job_at jobs i).marks_start + k) (omega arith) (omega arith))))
                  (λ h. h) (lt_or_ge ((job_at jobs i).marks_start + k) place),
            );
        only = λ number place e. (rows_decided number place e).only;
      }

pub refuses_at_the_least : RefusesAtTheLeast
refuses_at_the_least = least_refused

-- ---- what is named

-- The values of a turn tell which it is.
turn_of_values : TurnValues → Option Turn
turn_of_values values = cond (eqb values.named 1) (Some (turn_to values.job values.task values.block)) None

values_back : (found : Option Turn) → turn_of_values (turn_values found) ≡ found
unfolding turn_of_values
values_back (Some found) = refl
values_back None = refl

module _ (jobs : List Job) (last : ℕ) (marks : List ℕ) where
  -- An answer with a turn is accepted, and has the turn.
  pub made_turn : (found : Option Turn) → dispatch jobs last marks ≡ dispatch_given (Ok found)
      → LetThrough jobs marks × (turn jobs last marks ≡ found)
  made_turn found e =
      let a = accepted_let_through jobs last marks (ap (λ (g : Given TurnValues). g.answer) e) in (
        a,
        sym (values_back (turn jobs last marks))
            ∙ ap (λ (g : Given TurnValues). turn_of_values g.value) (sym (let_through_made jobs last marks a) ∙ e)
            ∙ values_back found,
      )

  -- An answer names a task, or its values are zeros.
  pub names_or_none : ((i : ℕ) × (t : ℕ) × (k : ℕ) × (dispatch jobs last marks ≡ naming i t k))
      ⊎ ((dispatch jobs last marks).value ≡ zero_turn)
  unfolding dispatch
  names_or_none = by (first_due (dispatch_rows jobs marks)) (turn jobs last marks)
    where
      by : (answer : Answer) (found : Option Turn)
          → ((i : ℕ) × (t : ℕ) × (k : ℕ) × (given answer (turn_values found) zero_turn ≡ naming i t k))
          ⊎ ((given answer (turn_values found) zero_turn).value ≡ zero_turn)
      by accepted (Some found) = inl (found.job, found.task, found.block, refl)
      by accepted None = inr refl
      by (refused number place) found = inr refl

  -- The report on the marks of a job names its first ready task.
  reported_so : LetThrough jobs marks → (i t k : ℕ) → Found jobs last marks i t k → i < length jobs → (plan : Plan)
      → keeps_rules plan ≡ true → plan.grid ≡ grid_of (job_at jobs i)
      → ((report plan (marks_from (job_at jobs i) marks)).answer ≡ accepted)
      × ((report plan (marks_from (job_at jobs i) marks)).value.ready ≡ 1)
      × ((report plan (marks_from (job_at jobs i) marks)).value.task ≡ t)
      × ((report plan (marks_from (job_at jobs i) marks)).value.block ≡ k)
  unfolding progress_of
  reported_so a i t k found inside plan kept same =
      let job = job_at jobs i in
      let part = marks_from job marks in
      let end = marks_inside jobs (length marks) a.placed i inside in
      let valid : Valid plan.grid part = rw same (a.sound i inside) in
      let e =
      reported plan kept (is_marked part) (valid_only plan.grid part valid) part (rw (same, length-drop) (omega arith))
      (valid_shows plan.grid part valid) in
      let first = found.first in
      rw (e, same, first) (refl, refl, refl, refl)

  named_well : (i t k : ℕ) → dispatch jobs last marks ≡ naming i t k → WellNamed jobs last marks i t k
  named_well i t k e =
      let (a, is) = made_turn (Some (turn_to i t k)) e in
      let f = named_found jobs last marks i t k is in
      let found_in = f.inside in
      let inside : i < length jobs = rw f.round (round_in jobs last (passed_over jobs last marks) (omega arith)) in
      record {
        inside = inside;
        unmarked = f.unmarked;
        before_it = λ j l before.
            let (d, h, is) = come_before jobs last (passed_over jobs last marks) j f.inside l (rw f.round at before) in
            ap (λ (n : ℕ). job_done (job_at jobs n) marks) (sym is) ∙ passed_done jobs last marks d h;
        ready = found_ready (grid_of (job_at jobs i)) (marked_in (job_at jobs i) marks) (ready_to t k) f.first;
        reported = reported_so a i t k f inside;
      }

pub names_well : NamesWell
names_well = named_well

pub none_if_all_done : NoneIfAllDone
none_if_all_done jobs last marks a = (
  λ e. none_all_done jobs last marks (made_turn jobs last marks None e).1,
  λ all. let_through_made jobs last marks a ∙ ap (λ found. dispatch_given (Ok found)) (all_done_none jobs last marks all),
)
