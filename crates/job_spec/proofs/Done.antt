-- What is done stays closed under needs through task calls and recalls; which tasks stay done, are made and are cleared; and the
-- accepted calls alone do what is done. Assumes nothing.
use mathlib.Core.Path.{◌≡◌, refl, sym, ap, ◌∙◌}
use mathlib.Core.Bool.{Bool, true, false, not, ◌&&◌, ◌||◌, cond, or-false, true≢false}
use mathlib.Core.List.{List, [], ◌∷◌}
use Prim.Native.Nat.{ℕ}
use lib.Dec.{eqb}
use borrow.Author.Tests.{eqb-true, not-true}
use Rattle.number.proofs.Tests.{and_left, and_right}
use Rattle.plan.specs.declared.Plan.{Plan}
use Rattle.tasks.specs.Tasks.{exists, needs_of, all_done, ready, nothing_done, also_done}
use Rattle.tasks.proofs.Needs.{ready_exists, ready_needs}
use Rattle.tasks.proofs.NeedLists.{all_kept, all_and}
use Rattle.tasks.proofs.Progress.{Sound, sound_also}
use Rattle.recall.specs.Recall.{clears, done_without}
use Rattle.recall.proofs.Closure.{spared_needs_spared}
use Rattle.job_spec.specs.Steps.{Step, perform, recall, is_long, accepts, done_with, done_by_step, done_by_steps, done_now, stays_done, was_made, was_cleared, ClearedDoneAgain, accepted_calls}
use Rattle.job_spec.specs.Demand3.{done_by, done_from, done_after}

pub clash : {A : Type 0} {a : Bool} → a ≡ true → a ≡ false → A
clash p q = absurd (true≢false (sym p ∙ q))

module _ (plan : Plan) where
  -- ---- what is done exists and has its needs done

  sound_without : (done : ℕ → ℕ → Bool) (k : ℕ) → Sound plan.grid done → Sound plan.grid (done_without plan.grid done k)
  unfolding done_without
  sound_without done k s =
      record {
        exist = λ t j e. s.exist t j (and_left (done t j) (not (clears plan.grid k t j)) e);
        closed = λ t j e.
            let was = and_left (done t j) (not (clears plan.grid k t j)) e in
            let stays = not-true (clears plan.grid k t j) (and_right (done t j) (not (clears plan.grid k t j)) e) in
            all_and done (λ u i. not (clears plan.grid k u i)) (needs_of plan.grid t j) (s.closed t j was)
            (spared_needs_spared plan.grid k t j (s.exist t j was) stays);
      }

  pub sound_step : (done : ℕ → ℕ → Bool) (step : Step) → Sound plan.grid done → Sound plan.grid (done_by_step plan done step)
  unfolding done_by_step accepts
  sound_step done step s = by (accepts plan done step) refl
    where
      with_step : (step : Step) → accepts plan done step ≡ true → Sound plan.grid (done_with plan done step)
      with_step (perform heights t k) e = sound_also plan.grid done t k (and_right (is_long plan heights) _ e) s
      with_step (recall k) e = sound_without done k s

      by : (r : Bool) → accepts plan done step ≡ r → Sound plan.grid (cond r (done_with plan done step) done)
      by true e = with_step step e
      by false e = s

  pub sound_steps : (done : ℕ → ℕ → Bool) (steps : List Step) → Sound plan.grid done
      → Sound plan.grid (done_by_steps plan done steps)
  unfolding done_by_steps
  sound_steps done [] s = s
  sound_steps done (step ∷ steps) s = sound_steps (done_by_step plan done step) steps (sound_step done step s)

  -- ---- what stays done

  pub stays_now : (done : ℕ → ℕ → Bool) (steps : List Step) (t k : ℕ) → stays_done plan done steps t k ≡ true → done t k ≡ true
  unfolding stays_done
  stays_now done [] t k e = e
  stays_now done (step ∷ steps) t k e = and_left (done t k) (stays_done plan (done_by_step plan done step) steps t k) e

  -- The needs of a task that stays done stay done.
  pub stays_needs : (done : ℕ → ℕ → Bool) (steps : List Step) → Sound plan.grid done → (t k : ℕ)
      → stays_done plan done steps t k ≡ true → all_done (stays_done plan done steps) (needs_of plan.grid t k) ≡ true
  unfolding stays_done
  stays_needs done [] s t k e = s.closed t k e
  stays_needs done (step ∷ steps) s t k e =
      let later = stays_done plan (done_by_step plan done step) steps in
      all_and done later (needs_of plan.grid t k) (s.closed t k (and_left (done t k) (later t k) e))
      (stays_needs (done_by_step plan done step) steps (sound_step done step s) t k (and_right (done t k) (later t k) e))

  -- ---- what was made and what was cleared

  -- A task that is not done at the end, and that no step cleared, was not done before and is made by no step.
  never_made : (done : ℕ → ℕ → Bool) (steps : List Step) (t k : ℕ) → done_by_steps plan done steps t k ≡ false
      → was_cleared plan done steps t k ≡ false → (done t k ≡ false) × (was_made plan done steps t k ≡ false)
  unfolding done_by_steps was_cleared was_made
  never_made done [] t k e c = (e, refl)
  never_made done (step ∷ steps) t k e c =
      by (done t k) (done_by_step plan done step t k) (was_cleared plan (done_by_step plan done step) steps t k)
      (was_made plan (done_by_step plan done step) steps t k) c
      (never_made (done_by_step plan done step) steps t k e)
    where
      by : (a b d m : Bool) → ((a && not b) || d) ≡ false → (d ≡ false → (b ≡ false) × (m ≡ false))
          → (a ≡ false) × (((not a && b) || m) ≡ false)
      by true true true m i f = clash refl i
      by true true false m i f = clash refl (f refl).0
      by true false d m i f = clash refl i
      by false b true m i f = clash refl i
      by false b false m i f = (refl, rw ((f refl).0, (f refl).1))

  -- A task that is done at the end was done before or is made by a step.
  done_made : (done : ℕ → ℕ → Bool) (steps : List Step) (t k : ℕ) → done_by_steps plan done steps t k ≡ true
      → (done t k || was_made plan done steps t k) ≡ true
  unfolding done_by_steps was_made
  done_made done [] t k e = rw e
  done_made done (step ∷ steps) t k e =
      by (done t k) (done_by_step plan done step t k) (was_made plan (done_by_step plan done step) steps t k)
      (done_made (done_by_step plan done step) steps t k e)
    where
      by : (a b m : Bool) → (b || m) ≡ true → (a || ((not a && b) || m)) ≡ true
      by true b m i = refl
      by false b m i = i

  -- From a start, what is done at the end is what was made, if what was cleared is done again.
  pub made_is_done : (steps : List Step) → ClearedDoneAgain plan steps → (t k : ℕ)
      → was_made plan nothing_done steps t k ≡ done_now plan steps t k
  made_is_done steps again t k = by (done_now plan steps t k) (was_cleared plan nothing_done steps t k) refl refl
    where
      by : (d c : Bool) → done_now plan steps t k ≡ d → was_cleared plan nothing_done steps t k ≡ c → was_made plan nothing_done steps t k ≡ d
      by true c e f = done_made nothing_done steps t k e
      by false true e f = clash (again t k f) e
      by false false e f = (never_made nothing_done steps t k e f).1

  -- ---- the calls of a fresh job

  -- A task that is ready by a table is done in any larger table after its call, and nothing else is new.
  fresh_call : (done more : ℕ → ℕ → Bool) → ((t k : ℕ) → done t k ≡ true → more t k ≡ true) → (t k : ℕ)
      → ready plan.grid done t k ≡ true → (u j : ℕ)
      → done_by plan more (record { task = t; block = k }) u j ≡ (more u j || (eqb u t && eqb j k))
  unfolding done_by ready also_done
  fresh_call done more larger t k r u j = by (more t k) refl
    where
      needs : all_done more (needs_of plan.grid t k) ≡ true
      needs = all_kept done more larger (needs_of plan.grid t k) (ready_needs plan.grid done t k r)

      old : more t k ≡ true → (a b : Bool) → eqb u t ≡ a → eqb j k ≡ b → more u j ≡ (more u j || (a && b))
      old i true true p q = let e : more u j ≡ true = rw (eqb-true u t p, eqb-true j k q) i in rw e
      old i true false p q = sym (or-false (more u j))
      old i false b p q = sym (or-false (more u j))

      by : (a : Bool) → more t k ≡ a
          → cond (exists plan.grid t k && (not (more t k) && all_done more (needs_of plan.grid t k))) (also_done more t k) more u j
          ≡ (more u j || (eqb u t && eqb j k))
      by true i = rw (ready_exists plan.grid done t k r, i) (old i (eqb u t) (eqb j k) refl refl)
      by false i = rw (ready_exists plan.grid done t k r, i, needs)

  -- The accepted calls, from any larger table, make what the steps make.
  fresh_made : (done more : ℕ → ℕ → Bool) → ((t k : ℕ) → done t k ≡ true → more t k ≡ true) → (steps : List Step) → (u j : ℕ)
      → done_from plan more (accepted_calls plan done steps) u j ≡ (more u j || was_made plan done steps u j)
  unfolding done_from accepted_calls was_made done_by_step accepts also_done done_without
  fresh_made done more larger [] u j = sym (or-false (more u j))
  fresh_made done more larger (perform heights t k ∷ steps) u j =
      by (accepts plan done (perform heights t k)) refl (λ m l. fresh_made (also_done done t k) m l steps u j)
      (fresh_made done more larger steps u j)
    where
      larger_also : ready plan.grid done t k ≡ true → (v i : ℕ) → also_done done t k v i ≡ true → done_by plan more (record { task = t; block = k }) v i ≡ true
      larger_also r v i e = fresh_call done more larger t k r v i ∙ wider (done v i) (more v i) _ (larger v i) e
        where
          wider : (a m n : Bool) → (a ≡ true → m ≡ true) → (a || n) ≡ true → (m || n) ≡ true
          wider true m n f e = rw (f refl)
          wider false true n f e = refl
          wider false false n f e = e

      new : (m a n w : Bool) → (a ≡ true → m ≡ true) → ((m || n) || w) ≡ (m || ((not a && (a || n)) || w))
      new true a n w f = refl
      new false true n w f = clash (f refl) refl
      new false false n w f = refl

      none : (m a w : Bool) → (m || w) ≡ (m || ((not a && a) || w))
      none m true w = refl
      none m false w = refl

      by : (r : Bool) → accepts plan done (perform heights t k) ≡ r
          → ((m : ℕ → ℕ → Bool) → ((v i : ℕ) → also_done done t k v i ≡ true → m v i ≡ true)
          → done_from plan m (accepted_calls plan (also_done done t k) steps) u j ≡ (m u j || was_made plan (also_done done t k) steps u j))
          → done_from plan more (accepted_calls plan done steps) u j ≡ (more u j || was_made plan done steps u j)
          → done_from plan more (cond r (record { task = t; block = k } ∷ accepted_calls plan (also_done done t k) steps) (accepted_calls plan done steps)) u j
          ≡ (more u j || ((not (done u j) && cond r (also_done done t k) done u j) || was_made plan (cond r (also_done done t k) done) steps u j))
      by true e yes_more no_more =
          let r = and_right (is_long plan heights) (ready plan.grid done t k) e in
          yes_more (done_by plan more (record { task = t; block = k })) (larger_also r)
          ∙ ap (λ x. x || was_made plan (also_done done t k) steps u j) (fresh_call done more larger t k r u j)
          ∙ new (more u j) (done u j) _ _ (larger u j)
      by false e yes_more no_more = no_more ∙ none (more u j) (done u j) _
  fresh_made done more larger (recall k ∷ steps) u j =
      by (accepts plan done (recall k)) (λ d f. fresh_made d more f steps u j)
    where
      none : (m a b w : Bool) → (b ≡ true → a ≡ true) → (m || w) ≡ (m || ((not a && b) || w))
      none m true b w f = refl
      none m false true w f = clash (f refl) refl
      none m false false w f = refl

      fewer : (r : Bool) (v i : ℕ) → cond r (done_without plan.grid done k) done v i ≡ true → done v i ≡ true
      fewer true v i e = and_left (done v i) (not (clears plan.grid k v i)) e
      fewer false v i e = e

      by : (r : Bool)
          → ((d : ℕ → ℕ → Bool) → ((v i : ℕ) → d v i ≡ true → more v i ≡ true)
          → done_from plan more (accepted_calls plan d steps) u j ≡ (more u j || was_made plan d steps u j))
          → done_from plan more (accepted_calls plan (cond r (done_without plan.grid done k) done) steps) u j
          ≡ (more u j || ((not (done u j) && cond r (done_without plan.grid done k) done u j)
          || was_made plan (cond r (done_without plan.grid done k) done) steps u j))
      by r below =
          below (cond r (done_without plan.grid done k) done) (λ v i e. larger v i (fewer r v i e))
          ∙ none (more u j) (done u j) _ _ (fewer r u j)

  pub fresh_done : (steps : List Step) → ClearedDoneAgain plan steps → (t k : ℕ)
      → done_now plan steps t k ≡ done_after plan (accepted_calls plan nothing_done steps) t k
  unfolding done_after
  fresh_done steps again t k =
      sym (fresh_made nothing_done nothing_done (λ u j e. e) steps t k ∙ made_is_done steps again t k)
