-- The table of needs by the geometry of blocks: own 0, and the link of each of the first min t 4 passes at the neighbour
-- that the pass comes from; so needs exist, and where no task is ready all are done. Assumes nothing.
use mathlib.Core.Path.{◌≡◌, refl, sym, ap, ap₂, ◌∙◌}
use mathlib.Core.Logic.{⊎_elim}
use mathlib.Core.Bool.{Bool, true, false, not, ◌&&◌, cond, and-true, and_assoc}
use mathlib.Core.List.{List, [], ◌∷◌, ◌++◌, append_assoc}
use Rattle.std.specs.Prelude.{Option, None, Some}
use Prim.Native.Nat.{ℕ, zero, suc, ◌-◌, ◌<◌, ◌≤◌, min}
use native.Mathlib.Omega.{arith}
use native.Mathlib.Nat.{eq-or-lt_of_le, div-le_self, mod-le}
use borrow.Author.Tests.{not-true, ltb-true}
use Rattle.number.specs.Numbers.{all_below}
use Rattle.number.proofs.Tests.{and_both, and_left, and_right, all_at}
use Rattle.number.proofs.Sums.{all_below_law}
use Rattle.number.proofs.RowMajor.{width_positive}
use Rattle.axis.specs.Axis.{Axis, columns, rows, Direction, forward, backward, axis_of, direction_of, along}
use Rattle.grid.specs.declared.Grid.{Grid}
use Rattle.grid.specs.Grid.{block_rows_of, block_columns_of, block_total, block_row, block_column, line_index, line_count, line_step_of, has_before, step_before, neighbour}
use Rattle.grid.proofs.Neighbours.{chosen, neighbour_below}
use Rattle.tasks.specs.Tasks.{has_task, exists, BlockTask, need_if, own_collect, needs_of, all_done, ready}
use Rattle.tasks.specs.Neighbours.{NeedsDone, link_done_at, link_done}
use Rattle.tasks.proofs.Existence.{has_exists, exists_block, exists_task, neighbour_linked}

-- ---- the table by the geometry

-- The link of a pass at a neighbour, if there is one.
abbrev pub need_at : (pass : ℕ) → Option ℕ → List BlockTask
need_at pass None = []
need_at pass (Some j) = record { task = suc pass; block = j } ∷ []

-- The links of the first n passes at the neighbours of block k.
unfoldable pub link_needs : Grid → (k n : ℕ) → List BlockTask
link_needs grid k zero = []
link_needs grid k (suc pass) = link_needs grid k pass ++ need_at pass (neighbour grid k pass)

need_at_law : (pass : ℕ) (test : Bool) (j : ℕ) → need_at pass (cond test (Some j) None) ≡ need_if test (suc pass) j
need_at_law pass true j = refl
need_at_law pass false j = refl

-- A task after 0 needs own 0 and the links of its passes.
pub needs_are : (grid : Grid) (t k : ℕ) → t < 5 → needs_of grid (suc t) k ≡ own_collect k ++ link_needs grid k (min (suc t) 4)
unfolding needs_of neighbour link_needs
needs_are grid zero k h = simp need_at_law
needs_are grid (suc zero) k h = simp need_at_law
needs_are grid (suc (suc zero)) k h = simp (need_at_law, append_assoc)
needs_are grid (suc (suc (suc zero))) k h = simp (need_at_law, append_assoc)
needs_are grid (suc (suc (suc (suc zero)))) k h = simp (need_at_law, append_assoc)
needs_are grid (suc (suc (suc (suc (suc t))))) k h = absurd (omega arith)

pub needs_collect : (grid : Grid) (k : ℕ) → needs_of grid 0 k ≡ []
unfolding needs_of
needs_collect grid k = refl

-- ---- needs that are done

module _ (done : ℕ → ℕ → Bool) where
  done_append : (xs ys : List BlockTask) → all_done done (xs ++ ys) ≡ (all_done done xs && all_done done ys)
  unfolding all_done
  done_append [] ys = refl
  done_append (x ∷ xs) ys =
      rw (done_append xs ys) (sym (and_assoc (done x.task x.block) (all_done done xs) (all_done done ys)))

  done_at_law : (pass : ℕ) (beside : Option ℕ) → all_done done (need_at pass beside) ≡ link_done_at done pass beside
  unfolding all_done
  done_at_law pass None = refl
  done_at_law pass (Some j) = and-true (done (suc pass) j)

  done_links : (grid : Grid) (k n : ℕ) → all_done done (link_needs grid k n) ≡ all_below (link_done grid done k) n
  unfolding link_needs all_done all_below link_done
  done_links grid k zero = refl
  done_links grid k (suc pass) =
      done_append (link_needs grid k pass) _ ∙ ap₂ ◌&&◌ (done_links grid k pass) (done_at_law pass (neighbour grid k pass))

  -- The needs of a task after 0 are done: own 0, and the links of its passes.
  needs_done : (grid : Grid) (t k : ℕ) → t < 5
      → all_done done (needs_of grid (suc t) k) ≡ (done 0 k && all_below (link_done grid done k) (min (suc t) 4))
  unfolding all_done
  needs_done grid t k h = rw (needs_are grid t k h) (ap (λ x. done 0 k && x) (done_links grid k (min (suc t) 4)))

  pub needs_none : (grid : Grid) (k : ℕ) → all_done done (needs_of grid 0 k) ≡ true
  unfolding all_done
  needs_none grid k = rw (needs_collect grid k)

  link_done_law : (grid : Grid) (k pass : ℕ) → ((j : ℕ) → neighbour grid k pass ≡ Some j → done (suc pass) j ≡ true)
      → link_done grid done k pass ≡ true
  unfolding link_done
  link_done_law grid k pass f = by (neighbour grid k pass) f
    where
      by : (beside : Option ℕ) → ((j : ℕ) → beside ≡ Some j → done (suc pass) j ≡ true) → link_done_at done pass beside ≡ true
      by None f = refl
      by (Some j) f = f j refl

  -- The code's test of the needs of a task after 0: own 0, then the links.
  pub needs_uncollected : (grid : Grid) (t k : ℕ) → 1 ≤ t → t < 6 → done 0 k ≡ false → false ≡ all_done done (needs_of grid t k)
  needs_uncollected grid zero k h l e = absurd (omega arith)
  needs_uncollected grid (suc t) k h l e = rw (needs_done grid t k (omega arith), e)

  pub needs_rest : (grid : Grid) (t k n : ℕ) (answer : Bool) → 1 ≤ t → t < 6 → done 0 k ≡ true → n ≡ min t 4
      → answer ≡ all_below (link_done grid done k) n → answer ≡ all_done done (needs_of grid t k)
  needs_rest grid zero k n answer h l e i a = absurd (omega arith)
  needs_rest grid (suc t) k n answer h l e i a = rw (needs_done grid t k (omega arith), e) (rw i at a)

  -- What the done needs of a task after 0 say: its block is collected, and the links of its passes are done at the neighbours.
  module _ (grid : Grid) (t k : ℕ) (h : t < 5) (d : all_done done (needs_of grid (suc t) k) ≡ true) where
    both : (done 0 k && all_below (link_done grid done k) (min (suc t) 4)) ≡ true
    both = sym (needs_done grid t k h) ∙ d

    pub needs_collected : done 0 k ≡ true
    needs_collected = and_left (done 0 k) _ both

    pub needs_linked : (pass j : ℕ) → pass < min (suc t) 4 → neighbour grid k pass ≡ Some j → done (suc pass) j ≡ true
    unfolding link_done
    needs_linked pass j l e = rw e at (all_at (link_done grid done k) (min (suc t) 4) pass (and_right (done 0 k) _ both) l)

  -- And what makes the needs of a task done.
  pub needs_all : (grid : Grid) (t k : ℕ) → t < 6 → done 0 k ≡ true
      → ((pass j : ℕ) → pass < min t 4 → neighbour grid k pass ≡ Some j → done (suc pass) j ≡ true)
      → all_done done (needs_of grid t k) ≡ true
  needs_all grid zero k l own link = needs_none grid k
  needs_all grid (suc t) k l own link =
      needs_done grid t k (omega arith)
      ∙ and_both own
      (all_below_law (link_done grid done k) (min (suc t) 4) (λ pass b. link_done_law grid k pass (λ j e. link pass j b e)))

has_collect : (grid : Grid) (k : ℕ) → k < block_total grid → exists grid 0 k ≡ true
unfolding has_task
has_collect grid k h = has_exists grid k h 0 refl

-- The table of needs says what the geometry says.
pub needs_by_neighbours : NeedsDone
needs_by_neighbours done = needs_done done

-- The needs of a task of a block of the map exist.
pub needs_exist : (grid : Grid) (t k : ℕ) → t < 6 → k < block_total grid → all_done (exists grid) (needs_of grid t k) ≡ true
needs_exist grid t k l h =
    needs_all (exists grid) grid t k l (has_collect grid k h) (λ pass j b e. neighbour_linked grid k pass j h (omega arith) e)

-- What is asked of the needs depends only on tasks 0 to 5 of blocks of the map.
module _ (grid : Grid) (p q : ℕ → ℕ → Bool) (same : (t k : ℕ) → t < 6 → k < block_total grid → p t k ≡ q t k) where
  link_same : (k pass : ℕ) → k < block_total grid → pass < 4 → link_done grid p k pass ≡ link_done grid q k pass
  unfolding link_done
  link_same k pass h l = by (neighbour grid k pass) refl
    where
      by : (beside : Option ℕ) → neighbour grid k pass ≡ beside → link_done_at p pass beside ≡ link_done_at q pass beside
      by None e = refl
      by (Some j) e = same (suc pass) j (omega arith) (neighbour_below grid k pass j h e)

  links_same : (k n : ℕ) → k < block_total grid → n ≤ 4 → all_below (link_done grid p k) n ≡ all_below (link_done grid q k) n
  unfolding all_below
  links_same k zero h l = refl
  links_same k (suc pass) h l = ap₂ ◌&&◌ (links_same k pass h (omega arith)) (link_same k pass h (omega arith))

  pub needs_same : (t k : ℕ) → t < 6 → k < block_total grid → all_done p (needs_of grid t k) ≡ all_done q (needs_of grid t k)
  needs_same zero k l h = needs_none p grid k ∙ sym (needs_none q grid k)
  needs_same (suc t) k l h =
      needs_done p grid t k (omega arith)
      ∙ ap₂ ◌&&◌ (same 0 k (omega arith) h) (links_same k (min (suc t) 4) h (omega arith))
      ∙ sym (needs_done q grid t k (omega arith))

  pub ready_same : (t k : ℕ) → ready grid p t k ≡ ready grid q t k
  unfolding ready
  ready_same t k = by (exists grid t k) refl
    where
      by : (x : Bool) → exists grid t k ≡ x
          → (x && (not (p t k) && all_done p (needs_of grid t k))) ≡ (x && (not (q t k) && all_done q (needs_of grid t k)))
      by true e =
          let l = exists_task grid t k e in
          let h = exists_block grid t k e in
          ap₂ (λ x y. not x && y) (same t k l h) (needs_same t k l h)
      by false e = refl

-- ---- ready tasks

-- What a ready task is.
module _ (grid : Grid) (done : ℕ → ℕ → Bool) (t k : ℕ) (r : ready grid done t k ≡ true) where
  pub ready_exists : exists grid t k ≡ true
  unfolding ready
  ready_exists = and_left (exists grid t k) _ r

  ready_rest : (not (done t k) && all_done done (needs_of grid t k)) ≡ true
  unfolding ready
  ready_rest = and_right (exists grid t k) _ r

  pub ready_undone : done t k ≡ false
  ready_undone = not-true (done t k) (and_left (not (done t k)) _ ready_rest)

  pub ready_needs : all_done done (needs_of grid t k) ≡ true
  ready_needs = and_right (not (done t k)) _ ready_rest

-- All tasks that exist are done.
abbrev pub All : Grid → (ℕ → ℕ → Bool) → Type 0
All grid done = (t k : ℕ) → exists grid t k ≡ true → done t k ≡ true

-- Of a number of blocks, how far block k is from where a pass in this direction begins,
abbrev pub distance : Direction → (blocks k : ℕ) → ℕ
distance forward blocks k = k
distance backward blocks k = blocks - k

-- and the neighbour that the pass comes from is nearer.
module _ (grid : Grid) (k pass j : ℕ) (here : k < block_total grid) (e : neighbour grid k pass ≡ Some j) where
  index_most : (a : Axis) → along a (block_row grid k) (block_column grid k) ≤ k
  unfolding block_row block_column
  index_most columns = div-le_self k (block_columns_of grid)
  index_most rows = mod-le k (block_columns_of grid)

  step_positive : (a : Axis) → 1 ≤ along a (block_columns_of grid) 1
  step_positive columns = width_positive (block_rows_of grid) (block_columns_of grid) k here
  step_positive rows = omega arith

  pub nearer : distance (direction_of pass) (block_total grid) j < distance (direction_of pass) (block_total grid) k
  unfolding neighbour
  nearer =
      let (before, step) = chosen (has_before (direction_of pass) (line_count grid pass) (line_index grid k pass)) _ j e in
      by (direction_of pass) before step
    where
      by : (d : Direction) → has_before d (line_count grid pass) (line_index grid k pass) ≡ true
          → step_before d (line_step_of grid pass) k ≡ j → distance d (block_total grid) j < distance d (block_total grid) k
      by forward before step =
          omega (arith, ltb-true 0 (line_index grid k pass) before, index_most (axis_of pass), step_positive (axis_of pass))
      by backward before step = omega (arith, neighbour_below grid k pass j here e, step_positive (axis_of pass))

-- Where no task is ready all are done: collect first, then the links pass by pass and along each pass, finish last.
module _ (grid : Grid) (done : ℕ → ℕ → Bool)
    (none_ready : (t k : ℕ) → t < 6 → k < block_total grid → ready grid done t k ≡ false) where
  forced : (t k : ℕ) → exists grid t k ≡ true → all_done done (needs_of grid t k) ≡ true → done t k ≡ true
  unfolding ready
  forced t k e d = by (done t k) (rw (e, d) at (none_ready t k (exists_task grid t k e) (exists_block grid t k e)))
    where
      by : (x : Bool) → (true && (not x && true)) ≡ false → x ≡ true
      by true q = refl
      by false q = sym q

  collected : (k : ℕ) → k < block_total grid → done 0 k ≡ true
  collected k h = forced 0 k (has_collect grid k h) (needs_none done grid k)

  Linked : ℕ → Type 0
  Linked pass = (k : ℕ) → exists grid (suc pass) k ≡ true → done (suc pass) k ≡ true

  -- along one pass, its blocks in order of distance
  linked_along : (pass : ℕ) → pass < 4 → ((u : ℕ) → u < pass → Linked u) → (i k : ℕ)
      → distance (direction_of pass) (block_total grid) k < i → exists grid (suc pass) k ≡ true → done (suc pass) k ≡ true
  unfolding Linked
  linked_along pass b before zero k l e = absurd (omega arith)
  linked_along pass b before (suc i) k l e =
      let h = exists_block grid (suc pass) k e in
      forced (suc pass) k e
      (needs_all done grid (suc pass) k (omega arith) (collected k h)
      (λ u j v beside.
      let link = neighbour_linked grid k u j h (omega arith) beside in
      ⊎_elim
      (λ (p : u ≡ pass).
      rw p (linked_along pass b before i j (omega (arith, nearer grid k pass j h (rw p at beside))) (rw p at link)))
      (λ (p : u < pass). before u p j link)
      (eq-or-lt_of_le {n = u} {m = pass} (omega arith))))

  linked : (n : ℕ) → n ≤ 4 → (pass : ℕ) → pass < n → Linked pass
  unfolding Linked
  linked zero l pass b k e = absurd (omega arith)
  linked (suc n) l pass b k e =
      let past = suc (distance (direction_of n) (block_total grid) k) in
      ⊎_elim (λ (p : pass ≡ n). rw p (linked_along n (omega arith) (linked n (omega arith)) past k (omega arith) (rw p at e)))
      (λ (p : pass < n). linked n (omega arith) pass p k e)
      (eq-or-lt_of_le {n = pass} {m = n} (omega arith))

  pub all_done_law : All grid done
  unfolding Linked
  all_done_law t k e =
      let h = exists_block grid t k e in
      forced t k e
      (needs_all done grid t k (exists_task grid t k e) (collected k h)
      (λ pass j b beside.
      linked 4 (omega arith) pass (omega arith) j (neighbour_linked grid k pass j h (omega arith) beside)))
