-- What the code reads from a strip is what the definitions read, and it stands in the list. Assumes nothing.
use mathlib.Core.Path.{◌≡◌, refl, sym, ap, ap₂}
use mathlib.Core.Bool.{Bool, ◌&&◌, cond}
use mathlib.Core.List.{List}
use Prim.Native.Nat.{ℕ, ◌+◌, ◌-◌, ◌*◌, ◌≤◌, ◌<◌, min}
use native.Mathlib.Omega.{arith}
use lib.Dec.{ltb, leb}
use borrow.Author.Tests.{ltb-true, leb-true, lt-ltb, le-ltb, le-leb}
use Rattle.plan.specs.declared.Plan.{Plan}
use Rattle.plan.specs.Sizes.{needed_marks, needed_strips, order_of}
use Rattle.buffer.specs.Lists.{word_at}
use Rattle.number.proofs.Tests.{and_left, and_right, and_both, same_test}
use Rattle.axis.specs.Axis.{Axis, columns, rows, Direction, forward, backward, axis_of, direction_of, along}
use Rattle.grid.specs.Grid.{neighbour, or_zero, extent_along, lines_across}
use Rattle.task_words.specs.declared.Half.{Half}
use Rattle.task_words.specs.declared.Half.TheVariants.{Linked}
use Rattle.task_words.specs.Strips.{strip_start, place_in_strip, strip_place, place_inside, inside_block, strip_word, from_edge, nearest_first, past_edges}
use Rattle.grid.proofs.Neighbours.{neighbour_below}
use Rattle.grid.proofs.Blocks.{lines_in_side}
use Rattle.task_words.proofs.Strips.{strip_place_below}
use Rattle.task_words.proofs.StripReads.{from_edge_below}
use Rattle.strips.specs.declared.Strip.{Strip}
use Rattle.std.specs.Prelude.{Some, None, Option}
use Rattle.strips.specs.StripRecord.{first_inside, past_inside, strip_with, strip_of, empty_strip, strip_in, strip_before, address_in, strip_read, StripFits}

-- ---- the strip of the block that a pass comes from

module _ (plan : Plan) (k pass : ℕ) where
  pub before_below : (j : ℕ) → Some j ≡ neighbour plan.grid k pass → k < needed_marks plan → j < needed_marks plan
  before_below j is here = neighbour_below plan.grid k pass j here (sym is)

  pub before_block : (j : ℕ) (strip : Strip) → Some j ≡ neighbour plan.grid k pass → strip ≡ strip_of plan Linked j pass
      → strip ≡ strip_before plan k pass
  unfolding strip_before
  before_block j strip is f = rw (← is) f

  pub before_none : None ≡ neighbour plan.grid k pass → empty_strip ≡ strip_before plan k pass
  unfolding strip_before
  before_none is = rw (← is)

-- ---- one strip

-- The strip's test of a place is the definition's.
pub inside_test : (d : Direction) (order n place : ℕ) → place < order
    → (leb (first_inside d order n) place && ltb place (past_inside d order n)) ≡ place_inside d n order place
inside_test forward order n place h =
    same_test _ _
    (λ e. let p = leb-true (order - min order n) place (and_left _ (ltb place order) e) in le-leb order (n + place) (omega arith))
    (λ e.
    let p = leb-true order (n + place) e in
    and_both (le-leb (order - min order n) place (omega arith)) (lt-ltb place order h))
inside_test backward order n place h =
    same_test _ _
    (λ e. let p = ltb-true place (min order n) (and_right (leb 0 place) _ e) in lt-ltb place n (omega arith))
    (λ e.
    let p = ltb-true place n e in
    and_both (le-leb 0 place (omega arith)) (lt-ltb place (min order n) (omega arith)))

address_in_strip : (a : Axis) (start side order line place : ℕ)
    → start + line * along a 1 order + place * along a side 1 ≡ start + place_in_strip a side order line place
address_in_strip columns start side order line place = omega arith
address_in_strip rows start side order line place = omega arith

-- A word stands where the definitions have it.
module _ (plan : Plan) (half : Half) (k pass line place : ℕ) where
  pub address_is : address_in (strip_of plan half k pass) line place ≡ strip_place plan half k pass line place
  unfolding strip_of strip_with strip_place
  address_is = address_in_strip (axis_of pass) (strip_start plan half k pass) plan.grid.side (order_of plan pass) line place

  pub strip_read_law : (strips : List ℕ) → place < order_of plan pass
      → strip_read (strip_of plan half k pass) strips line place ≡ strip_word plan strips half k pass line place
  unfolding strip_read strip_word inside_block strip_of strip_with
  strip_read_law strips h =
      ap₂ (λ (test : Bool) word. cond test word 0)
      (ap (ltb line (lines_across plan.grid k pass) &&◌)
      (inside_test (direction_of pass) (order_of plan pass) (extent_along plan.grid k pass) place h))
      (ap (word_at strips) address_is)

pub past_in_order : (d : Direction) (order n : ℕ) → past_inside d order n ≤ order
past_in_order forward order n = omega arith
past_in_order backward order n = omega arith

pub strip_fits : (plan : Plan) (half : Half) (k pass n : ℕ) → k < needed_marks plan → pass < 4 → needed_strips plan ≤ n
    → StripFits n (strip_of plan half k pass)
unfolding strip_of strip_with
strip_fits plan half k pass n here h long =
    record {
      inside =
          λ line place l p.
          rw (address_is plan half k pass line place)
          (omega (
            arith,
            strip_place_below plan half k pass line place here h (omega (arith, lines_in_side plan.grid k (axis_of pass)))
                (omega (arith, past_in_order (direction_of pass) (order_of plan pass) (extent_along plan.grid k pass))),
          ));
    }

-- ---- the linked strip of the block that a pass comes from

empty_read : (strips : List ℕ) (line place : ℕ) → strip_read empty_strip strips line place ≡ 0
unfolding strip_read
empty_read strips line place = rw (le-ltb line 0 (omega arith))

pub before_fits : (plan : Plan) (k pass n : ℕ) → k < needed_marks plan → pass < 4 → needed_strips plan ≤ n
    → StripFits n (strip_before plan k pass)
unfolding strip_before
before_fits plan k pass n here h long = by (neighbour plan.grid k pass) (λ j e. neighbour_below plan.grid k pass j here e)
  where
    by : (o : Option ℕ) → ((j : ℕ) → o ≡ Some j → j < needed_marks plan) → StripFits n (strip_in plan pass o)
    by None f = record { inside = λ line place l p. absurd (omega arith) }
    by (Some j) f = strip_fits plan Linked j pass n (f j refl) h long

-- The word at a distance past block k's edge.
pub past_edges_read : (plan : Plan) (strips : List ℕ) (k pass line distance : ℕ) → distance < order_of plan pass
    → strip_read (strip_before plan k pass) strips line (from_edge (direction_of pass) (order_of plan pass) distance)
    ≡ past_edges plan strips k pass line distance
unfolding strip_before past_edges nearest_first
past_edges_read plan strips k pass line distance h = rw (lt-ltb distance (order_of plan pass) h) (by (neighbour plan.grid k pass))
  where
    place : ℕ
    place = from_edge (direction_of pass) (order_of plan pass) distance

    by : (o : Option ℕ)
        → strip_read (strip_in plan pass o) strips line place ≡ or_zero (λ j. strip_word plan strips Linked j pass line place) o
    by None = empty_read strips line place
    by (Some j) = strip_read_law plan Linked j pass line place strips (from_edge_below (direction_of pass) (order_of plan pass) distance h)
