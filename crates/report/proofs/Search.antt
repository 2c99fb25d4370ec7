-- The searches of the report: what is left of one after a step of its loop, and what it finds. Assumes nothing.
use mathlib.Core.Path.{◌≡◌, refl, sym, ap, ◌∙◌}
use mathlib.Core.Bool.{Bool, true, false, cond}
use mathlib.Core.Logic.{⊎_elim}
use Prim.Native.Nat.{ℕ, zero, suc, ◌+◌, ◌-◌, ◌<◌, ◌≤◌}
use native.Mathlib.Nat.{eq-or-lt_of_le}
use native.Mathlib.Numerals.{add-one}
use native.Mathlib.Omega.{arith}
use Rattle.std.specs.Prelude.{Option, None, Some}
use Rattle.report.specs.declared.Ready.{Ready}
use Rattle.report.specs.Report.{or_else, first_block, first_task}

-- A step of the search for a ready task.
module _ (p : ℕ → ℕ → Bool) where
  pub row_hit : (t k m : ℕ) → k < m → p t k ≡ true → (g : Option Ready)
      → or_else (first_block p t k (m - k)) g ≡ Some (record { task = t; block = k })
  unfolding first_block
  row_hit t k m h e g = let q : m - k ≡ suc (m - (k + 1)) = omega arith in rw (q, e)

  pub row_miss : (t k m : ℕ) → k < m → p t k ≡ false → (g : Option Ready)
      → or_else (first_block p t k (m - k)) g ≡ or_else (first_block p t (k + 1) (m - (k + 1))) g
  unfolding first_block
  row_miss t k m h e g = let q : m - k ≡ suc (m - (k + 1)) = omega arith in rw (q, e, add-one)

  pub row_end_law : (t k m : ℕ) → m ≤ k → (g : Option Ready) → or_else (first_block p t k (m - k)) g ≡ g
  unfolding first_block
  row_end_law t k m h g = let q : m - k ≡ 0 = omega arith in rw q

  pub task_row : (m t n : ℕ) → t < n
      → first_task p m t (n - t) ≡ or_else (first_block p t 0 (m - 0)) (first_task p m (t + 1) (n - (t + 1)))
  unfolding first_task
  task_row m t n h = let q : n - t ≡ suc (n - (t + 1)) = omega arith in let z : m - 0 ≡ m = omega arith in rw (q, z, add-one)

  pub task_end : (m t n : ℕ) → n ≤ t → first_task p m t (n - t) ≡ None
  unfolding first_task
  task_end m t n h = let q : n - t ≡ 0 = omega arith in rw q

-- (u, j) is the first pair, in order of u and then j, with u from t to t + n - 1 and j below m, at which p holds.
pub record First (p : ℕ → ℕ → Bool) (m t n u j : ℕ) : Type 0 where
  pub from : t ≤ u
  pub upto : u < t + n
  pub inside : j < m
  pub holds : p u j ≡ true
  pub tasks_before : (s i : ℕ) → t ≤ s → s < u → i < m → p s i ≡ false
  pub blocks_before : (i : ℕ) → i < j → p u i ≡ false

-- The first block, from k to k + n - 1, at which p holds for task t, and that task.
record FirstInRow (p : ℕ → ℕ → Bool) (t k n : ℕ) (found : Ready) : Type 0 where
  same : found.task ≡ t
  from : k ≤ found.block
  upto : found.block < k + n
  holds : p t found.block ≡ true
  before : (i : ℕ) → k ≤ i → i < found.block → p t i ≡ false

module _ (p : ℕ → ℕ → Bool) where
  row_none : (t k n : ℕ) → first_block p t k n ≡ None → (i : ℕ) → k ≤ i → i < k + n → p t i ≡ false
  unfolding first_block
  row_none t k zero e i l h = absurd (omega arith)
  row_none t k (suc n) e i l h = by (p t k) refl e (row_none t (suc k) n)
    where
      by : (b : Bool) → p t k ≡ b → cond b (Some (record { task = t; block = k })) (first_block p t (suc k) n) ≡ None
          → (first_block p t (suc k) n ≡ None → (i : ℕ) → suc k ≤ i → i < suc k + n → p t i ≡ false) → p t i ≡ false
      by true q e r = let z : ◌≡◌ {A = ℕ} 0 1 = cc in absurd (omega arith)
      by false q e r =
          ⊎_elim (λ (x : k ≡ i). sym (ap (p t) x) ∙ q) (λ (x : k < i). r e i x (omega arith)) (eq-or-lt_of_le l)

  row_found : (t k n : ℕ) (found : Ready) → first_block p t k n ≡ Some found → FirstInRow p t k n found
  unfolding first_block
  row_found t k zero found e = let z : ◌≡◌ {A = ℕ} 0 1 = cc in absurd (omega arith)
  row_found t k (suc n) found e = by (p t k) refl e (row_found t (suc k) n found)
    where
      by : (b : Bool) → p t k ≡ b → cond b (Some (record { task = t; block = k })) (first_block p t (suc k) n) ≡ Some found
          → (first_block p t (suc k) n ≡ Some found → FirstInRow p t (suc k) n found) → FirstInRow p t k (suc n) found
      by true q e r =
          let here : ◌≡◌ {A = Ready} (record { task = t; block = k }) found = cc in
          let x : t ≡ found.task = ap (λ (r : Ready). r.task) here in
          let y : k ≡ found.block = ap (λ (r : Ready). r.block) here in
          record {
            same = sym x;
            from = omega arith;
            upto = omega arith;
            holds = sym (ap (p t) y) ∙ q;
            before = λ i l h. absurd (omega arith);
          }
      by false q e r =
          let f = r e in
          record {
            same = f.same;
            from = omega (arith, f.from);
            upto = omega (arith, f.upto);
            holds = f.holds;
            before = λ i l h.
                ⊎_elim (λ (x : k ≡ i). sym (ap (p t) x) ∙ q) (λ (x : k < i). f.before i x h) (eq-or-lt_of_le l);
          }

  pub task_none : (m t n : ℕ) → first_task p m t n ≡ None → (s i : ℕ) → t ≤ s → s < t + n → i < m → p s i ≡ false
  unfolding first_task
  task_none m t zero e s i l h b = absurd (omega arith)
  task_none m t (suc n) e s i l h b = by (first_block p t 0 m) refl e (task_none m (suc t) n)
    where
      by : (x : Option Ready) → first_block p t 0 m ≡ x → or_else x (first_task p m (suc t) n) ≡ None
          → (first_task p m (suc t) n ≡ None → (s i : ℕ) → suc t ≤ s → s < suc t + n → i < m → p s i ≡ false) → p s i ≡ false
      by (Some found) q e r = let z : ◌≡◌ {A = ℕ} 0 1 = cc in absurd (omega arith)
      by None q e r =
          ⊎_elim (λ (x : t ≡ s). sym (ap (λ v. p v i) x) ∙ row_none t 0 m q i (omega arith) (omega arith))
          (λ (x : t < s). r e s i x (omega arith) b) (eq-or-lt_of_le l)

  pub task_found : (m t n : ℕ) (found : Ready) → first_task p m t n ≡ Some found → First p m t n found.task found.block
  unfolding first_task
  task_found m t zero found e = let z : ◌≡◌ {A = ℕ} 0 1 = cc in absurd (omega arith)
  task_found m t (suc n) found e = by (first_block p t 0 m) refl e (task_found m (suc t) n found)
    where
      by : (x : Option Ready) → first_block p t 0 m ≡ x → or_else x (first_task p m (suc t) n) ≡ Some found
          → (first_task p m (suc t) n ≡ Some found → First p m (suc t) n found.task found.block)
          → First p m t (suc n) found.task found.block
      by (Some here) q e r =
          let f : FirstInRow p t 0 m found = row_found t 0 m found (q ∙ e) in
          let s = f.same in
          record {
            from = omega arith;
            upto = omega arith;
            inside = omega (arith, f.upto);
            holds = ap (λ v. p v found.block) s ∙ f.holds;
            tasks_before = λ v i l h b. absurd (omega arith);
            blocks_before = λ i h. ap (λ v. p v i) s ∙ f.before i (omega arith) h;
          }
      by None q e r =
          let f = r e in
          record {
            from = omega (arith, f.from);
            upto = omega (arith, f.upto);
            inside = f.inside;
            holds = f.holds;
            tasks_before = λ v i l h b.
                ⊎_elim (λ (x : t ≡ v). sym (ap (λ s. p s i) x) ∙ row_none t 0 m q i (omega arith) (omega arith))
                (λ (x : t < v). f.tasks_before v i x h b) (eq-or-lt_of_le l);
            blocks_before = f.blocks_before;
          }

-- The search depends only on the places that it looks at.
module _ (p q : ℕ → ℕ → Bool) where
  row_same : (t k n : ℕ) → ((i : ℕ) → k ≤ i → i < k + n → p t i ≡ q t i) → first_block p t k n ≡ first_block q t k n
  unfolding first_block
  row_same t k zero e = refl
  row_same t k (suc n) e =
      rw (e k (omega arith) (omega arith), row_same t (suc k) n (λ i l h. e i (omega arith) (omega arith)))

  pub task_same : (m t n : ℕ) → ((s i : ℕ) → t ≤ s → s < t + n → i < m → p s i ≡ q s i) → first_task p m t n ≡ first_task q m t n
  unfolding first_task
  task_same m t zero e = refl
  task_same m t (suc n) e =
      rw (
        row_same t 0 m (λ i l h. e t i (omega arith) (omega arith) (omega arith)),
        task_same m (suc t) n (λ s i l h b. e s i (omega arith) (omega arith) b),
      )
