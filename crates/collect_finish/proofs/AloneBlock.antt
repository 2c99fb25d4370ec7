-- The block filtered alone, with gain 1 and zeros around it, as collect has it in the work array. Assumes nothing.
use mathlib.Core.Path.{◌≡◌, refl, ap, ap₂, ◌∙◌}
use mathlib.Core.List.{List}
use Prim.Native.Nat.{ℕ, ◌+◌, ◌≤◌, ◌<◌}
use native.Mathlib.Omega.{arith}
use Rattle.plan.specs.declared.Plan.{Plan}
use Rattle.plan.specs.Rules.{order_limit, pass_at}
use Rattle.plan.specs.Sizes.{order_of}
use Rattle.plan.proofs.Record.{order_limited_at}
use Rattle.passes.specs.Filter.{Filter}
use Rattle.passes.specs.Gains.{unit_gain}
use Rattle.axis.specs.Axis.{Direction, forward, backward, axis_of, direction_of, along, across}
use Rattle.filter.specs.declared.FilterWords.{FilterWords}
use Rattle.filter.specs.PlanFilters.{filter_of, filters_of}
use Rattle.filter.specs.FilterWords.{filter_with, filter_words, with_gain}
use Rattle.filter.specs.Windows.{beyond, words_beside_window}
use Rattle.filter.proofs.Filters.{filter_words_filter}
use Rattle.grid.specs.Grid.{rows_of, columns_of}
use Rattle.grid.specs.declared.BlockShape.{BlockShape}
use Rattle.grid.specs.Shapes.{shape_of}
use Rattle.collect_finish.specs.Work.{work_stride, work_window, block_pass}
use Rattle.collect_finish.specs.WorkFits.{BlockOf, ShapedBlock}
use Rattle.collect_finish.proofs.WorkPlaces.{shape_fits, lines_small, extent_small, outside_block}
use Rattle.collect_finish.proofs.WorkCells.{ClearOutside}
use Rattle.collect_finish.proofs.Margins.{beside_place}
use Rattle.collect_finish.proofs.BlockPasses.{Holds, holds_more, pass_in_place}

-- The filters of collect: gain 1.
abbrev pub collect_filters : Plan → ℕ → Filter
collect_filters plan u = unit_gain (filters_of plan u)

collect_order : (plan : Plan) (t : ℕ) → (collect_filters plan t).order ≡ order_of plan t
unfolding filter_of
collect_order plan t = refl

pub record Alone (plan : Plan) (k : ℕ) (Z : ℕ → ℕ → ℕ) (t : ℕ) (work : List ℕ) : Type 0 where
  pub block : Holds plan k (collect_filters plan) (λ u l i. 0) Z t work
  pub clear : ClearOutside (shape_of plan.grid k) work

beyond_in : (d : Direction) (n i : ℕ) → n ≤ 32 → i < order_limit → beyond d order_limit n i < work_stride
beyond_in forward n i a b = omega arith
beyond_in backward n i a b = omega arith

beyond_outside : (d : Direction) (n i : ℕ) → order_limit ≤ beyond d order_limit n i → beyond d order_limit n i < order_limit + n → ⊥
beyond_outside forward n i a b = omega arith
beyond_outside backward n i a b = omega arith

module _ {plan : Plan} {k : ℕ} (block : BlockOf plan k) (Z : ℕ → ℕ → ℕ) (t : ℕ) (below : t < 4) (work : List ℕ)
    (alone : Alone plan k Z t work) where
  abbrev h : ℕ
  h = rows_of plan.grid k

  abbrev w : ℕ
  w = columns_of plan.grid k

  near : (l i : ℕ) → l < across (axis_of t) h w → i < order_of plan t
      → words_beside_window (axis_of t) (direction_of t) (work_window h w) work l i ≡ 0
  unfolding shape_of
  near l i a b =
      let fits = shape_fits block in
      beside_place (axis_of t) (direction_of t) h w work l i
      ∙ alone.clear.around _
      (outside_block fits t l _ (omega (arith, lines_small fits t))
      (beyond_in (direction_of t) (along (axis_of t) h w) i (extent_small fits t)
      (omega (arith, order_limited_at plan block.kept t below)))
      (λ _ low high. beyond_outside (direction_of t) (along (axis_of t) h w) i low high))

  alone_more : Alone plan k Z (t + 1) (block_pass (shape_of plan.grid k) t (collect_filters plan t) work)
  unfolding shape_of
  alone_more =
      let ordered = collect_order plan t in
      let more = holds_more block (collect_filters plan) (λ u l i. 0) Z t below ordered work alone.block near in
      record {
        block = more;
        clear =
            record {
              sized = more.sized;
              around =
                  λ z out.
                  (pass_in_place block (collect_filters plan) (λ u l i. 0) Z t below ordered work alone.block).elsewhere z out
                  ∙ alone.clear.around z out;
            };
      }

-- The same with the code's values.
pub alone_turn : {plan : Plan} {k : ℕ} {shape : BlockShape} {Z : ℕ → ℕ → ℕ} {t : ℕ} {work after : List ℕ} {words : FilterWords}
    → ShapedBlock plan k shape → Alone plan k Z t work → t < 4 → words ≡ with_gain 1 (filter_words (pass_at plan t))
    → after ≡ block_pass shape t (filter_with words) work → Alone plan k Z (t + 1) after
alone_turn {plan = plan} {Z = Z} {t = t} {work = work} placed alone below filtered pass =
    let f = ap filter_with filtered ∙ ap unit_gain (filter_words_filter (pass_at plan t)) in
    rw (pass ∙ ap₂ (λ z f. block_pass z t f work) placed.shaped f) (alone_more placed.block Z t below work alone)
