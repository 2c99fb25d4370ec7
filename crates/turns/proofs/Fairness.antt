-- Fairness: each turn that does not name a waiting job brings the search nearer to it. Assumes nothing.
use mathlib.Core.Path.{◌≡◌, refl, sym, ap, ◌∙◌}
use mathlib.Core.Logic.{◌⊎◌, inl, inr, ⊎_elim, ◌≢◌}
use mathlib.Core.Bool.{false}
use mathlib.Core.List.{List}
use Rattle.std.specs.Prelude.{Ok}
use Prim.Native.Nat.{ℕ, zero, suc, ◌+◌, ◌-◌, ◌<◌, ◌≤◌}
use native.Mathlib.Omega.{arith}
use native.Mathlib.Decide.{ℕ_discrete}
use native.Mathlib.Nat.{eq-or-lt_of_le}
use lib.ListN.{length}
use Rattle.refusal.specs.Table.{Given}
use Rattle.turns.specs.declared.Job.{Job}
use Rattle.turns.specs.Jobs.{job_at}
use Rattle.turns.specs.Turn.{job_done, going_round}
use Rattle.turns.specs.Dispatch.{TurnValues, dispatch_given}
use Rattle.turns.specs.Answers.{LetThrough}
use Rattle.turns.specs.Runs.{last_after, last_before, NamesAt, NamedBy, OnlyNamed, StaysLetThrough, Fair, NeverPassedOver}
use Rattle.turns.proofs.Turns.{come_to, round_next, names_upto}
use Rattle.turns.proofs.Answers.{let_through_made, names_well}
use Rattle.turns.proofs.Performing.{performed_let_through, performed_same}

-- ---- the search comes nearer

module _ (jobs : List Job) (first : ℕ) (marks_at : ℕ → List ℕ) (m i : ℕ) where
  -- No turn from turn m on and before turn n names job i.
  abbrev Unnamed : ℕ → Type 0
  Unnamed n = (e : ℕ) → m ≤ e → e < n → (t k : ℕ) → NamesAt jobs first marks_at e i t k → ⊥

  -- Where turn n names another job, the same holds before the next turn.
  unnamed_next : (n j u b : ℕ) → Unnamed n → NamesAt jobs first marks_at n j u b → j ≢ i → Unnamed (suc n)
  unnamed_next n j u b none q ne e from l t k p =
      ⊎_elim
      (λ (x : e ≡ n).
      let both : NamesAt jobs first marks_at n i t k = rw x at p in
      ne (ap (λ (g : Given TurnValues). g.value.job) (sym q ∙ both)))
      (λ (x : e < n). none e from x t k p)
      (eq-or-lt_of_le {n = e} {m = n} (omega arith))

  -- Job i is named by one of as many turns from turn m on as there are jobs.
  abbrev NamedInRound : Type 0
  NamedInRound = (n : ℕ) × (m ≤ n) × (n < m + length jobs) × (t : ℕ) × (k : ℕ) × NamesAt jobs first marks_at n i t k

  -- Turn n finds marks that are accepted and job i with unmarked tasks.
  record Waiting (n : ℕ) : Type 0 where
    taken : LetThrough jobs (marks_at n)
    unmarked : job_done (job_at jobs i) (marks_at n) ≡ false

  -- So it is at each of these turns before which none of them named it.
  module _ (waiting : (n : ℕ) → m ≤ n → n < m + length jobs → Unnamed n → Waiting n) where
    -- Job i is d places on at turn n, so that it is come to in time.
    record Ahead (n d : ℕ) : Type 0 where
      from : m ≤ n
      upto : n + d < m + length jobs
      round : d < length jobs
      at : going_round jobs (last_before jobs first marks_at n) d ≡ i
      unnamed : Unnamed n

    -- A turn names it, or it is then fewer places on.
    step : (n d : ℕ) → Ahead n d → NamedInRound ⊎ ((c : ℕ) × (c < d) × Ahead (suc n) c)
    unfolding last_before
    step n d s =
        let last = last_before jobs first marks_at n in
        let w = waiting n s.from (omega (arith, s.upto)) s.unnamed in
        let (p, l, u, b, q) = names_upto jobs last (marks_at n) d s.round (rw s.at w.unmarked) in
        by p l u b (let_through_made jobs last (marks_at n) w.taken ∙ ap (λ found. dispatch_given (Ok found)) q)
        (ℕ_discrete (going_round jobs last p) i)
      where
        by : (p : ℕ) → p ≤ d → (u b : ℕ)
            → NamesAt jobs first marks_at n (going_round jobs (last_before jobs first marks_at n) p) u b
            → Dec (going_round jobs (last_before jobs first marks_at n) p ≡ i)
            → NamedInRound ⊎ ((c : ℕ) × (c < d) × Ahead (suc n) c)
        by p l u b q (yes x) = inl (n, s.from, omega (arith, s.upto), u, b, rw x at q)
        by p l u b q (no x) =
            let last = last_before jobs first marks_at n in
            let j = going_round jobs last p in
            let nearer : p < d =
            ⊎_elim (λ (e : p ≡ d). absurd (x (ap (going_round jobs last) e ∙ s.at))) (λ (e : p < d). e) (eq-or-lt_of_le l) in
            let next : last_before jobs first marks_at (suc n) ≡ j = ap (λ (g : Given TurnValues). last_after last g.value) q in
            inr (
              d - p - 1,
              omega arith,
              record {
                from = omega (arith, s.from);
                upto = omega (arith, s.upto);
                round = omega (arith, s.round);
                at = rw next (round_next jobs last p d (omega (arith, s.round)) nearer ∙ s.at);
                unnamed = unnamed_next n j u b s.unnamed q x;
              },
            )

    -- So it is named after at most d turns more.
    named_ahead : (fuel n d : ℕ) → d < fuel → Ahead n d → NamedInRound
    named_ahead zero n d f s = absurd (omega arith)
    named_ahead (suc fuel) n d f s =
        ⊎_elim (λ (x : NamedInRound). x)
        (λ ((c, l, s) : (c : ℕ) × (c < d) × Ahead (suc n) c). named_ahead fuel (suc n) c (omega arith) s)
        (step n d s)

    -- Then one of them names it.
    named_in_round : i < length jobs → NamedInRound
    named_in_round inside =
        let (d, l, at) = come_to jobs (last_before jobs first marks_at m) i inside in
        named_ahead (suc d) m d (omega arith)
        (record { from = omega arith; upto = omega arith; round = l; at = at; unnamed = λ e from l t k q. omega arith })

-- ---- whatever changes the marks

pub never_passed_over : NeverPassedOver
never_passed_over jobs first marks_at m accepted i inside unmarked =
    let (n, from, l, t, k, q) =
    named_in_round jobs first marks_at m i
    (λ n from l none.
    let e : m + (n - m) ≡ n = omega arith in
    record { taken = rw e at (accepted (n - m) (omega arith)); unmarked = rw e at (unmarked (n - m) (omega arith)) })
    inside in
    let e : m + (n - m) ≡ n = omega arith in
    (n - m, omega arith, t, k, rw e q)

-- ---- where only named tasks are performed

module _ (jobs : List Job) (first : ℕ) (marks_at : ℕ → List ℕ) (turns : ℕ) (only : OnlyNamed jobs first marks_at turns) where
  -- A job that was named is in the list.
  in_list : (n i t k : ℕ) → NamedBy jobs first marks_at n i t k → i < length jobs
  in_list n i t k (m, l, e) = (names_well jobs (last_before jobs first marks_at m) (marks_at m) i t k e).inside

  all_let_through : LetThrough jobs (marks_at 0) → (n : ℕ) → n < turns → LetThrough jobs (marks_at n)
  all_let_through a zero h = a
  all_let_through a (suc n) h =
      performed_let_through jobs (NamedBy jobs first marks_at n) (in_list n) (only n h) (all_let_through a n (omega arith))

  -- A job that is not named has the unmarked tasks that it had.
  unnamed_same : LetThrough jobs (marks_at 0) → (i : ℕ) → i < length jobs → (n : ℕ) → n < turns → Unnamed jobs first marks_at 0 i n
      → job_done (job_at jobs i) (marks_at 0) ≡ job_done (job_at jobs i) (marks_at n)
  unnamed_same a i inside zero h none = refl
  unnamed_same a i inside (suc n) h none =
      unnamed_same a i inside n (omega arith) (λ e from l. none e from (omega arith))
      ∙ performed_same jobs (NamedBy jobs first marks_at n) (in_list n) i inside
      (λ t k (m, l, q). none m (omega arith) (omega arith) t k q)
      (only n h) (all_let_through a n (omega arith))

pub stays_let_through : StaysLetThrough
stays_let_through = all_let_through

pub fair : Fair
fair jobs first marks_at only a i inside e =
    let (n, from, l, t, k, q) =
    named_in_round jobs first marks_at 0 i
    (λ n from l none.
    record {
      taken = all_let_through jobs first marks_at (length jobs) only a n (omega arith);
      unmarked = sym (unnamed_same jobs first marks_at (length jobs) only a i inside n (omega arith) none) ∙ e;
    })
    inside in
    (n, omega arith, t, k, q)
