-- The passes of finish one after another: the start, one turn, and the end; and what they are between the two copies.
-- Assumes nothing.
use mathlib.Core.Path.{◌≡◌, refl, sym, ap, ap₂, ◌∙◌}
use mathlib.Core.List.{List}
use Prim.Native.Nat.{ℕ, zero, suc, ◌+◌, ◌/◌, ◌%◌, ◌≤◌, ◌<◌}
use native.Mathlib.Omega.{arith}
use lib.IntN.{ℤ}
use lib.ListN.{length}
use Rattle.word.specs.Word.{◌⊗◌}
use Rattle.word.proofs.Ring.{one_mul, reduced_small}
use Rattle.plan.specs.declared.Plan.{Plan}
use Rattle.plan.specs.Rules.{order_limit}
use Rattle.plan.specs.Sizes.{needed_strips, order_of}
use Rattle.plan.proofs.Record.{order_limited_at}
use Rattle.number.proofs.RowMajor.{row_below, column_below}
use Rattle.buffer.specs.Lists.{word_at}
use Rattle.buffer.specs.Copies.{stride_place, stride_scaled, stride_written}
use Rattle.buffer.specs.Written.{rectangle_written}
use Rattle.buffer.proofs.Copies.{rectangle_same}
use Rattle.passes.specs.Passes.{passes_over}
use Rattle.passes.proofs.Passes.{passes_over_reads, passes_over_small}
use Rattle.passes.proofs.Gains.{gains_first_law}
use Rattle.axis.specs.Axis.{axis_of, direction_of}
use Rattle.filter.specs.declared.FilterWords.{FilterWords}
use Rattle.filter.specs.PlanFilters.{filter_of, filters_of, map_of}
use Rattle.filter.specs.FilterWords.{filter_with, gains_first_filters, gains_first_words, gains_after}
use Rattle.filter.specs.Windows.{words_beside_window}
use Rattle.filter.proofs.Filters.{gains_first_words_filter, gains_first_words_order}
use Rattle.grid.specs.Grid.{rows_of, columns_of, block_pixel_place, part_of, lines_across}
use Rattle.grid.specs.declared.BlockShape.{BlockShape}
use Rattle.grid.specs.Shapes.{shape_of}
use Rattle.task_words.specs.Strips.{from_edge, past_edges}
use Rattle.task_words.specs.ScaledEdges.{scaled_edges}
use Rattle.task_words.specs.Writes.{finish_word, block_written, finished}
use Rattle.task_words.proofs.StripReads.{from_edge_below}
use Rattle.strips.specs.StripRecord.{strip_before}
use Rattle.strips.proofs.StripRecords.{past_edges_read}
use Rattle.collect_finish.specs.Work.{work_stride, work_words, work_corner, work_window, pixel_in, OutsideBlock, block_words, ShapeFits, OutsideMargin, MarginClear, MarginLoaded, block_pass, PassesRun}
use Rattle.collect_finish.specs.WorkFits.{ShapedBlock, PassFits, ReadyToFinish, MarginFits}
use Rattle.collect_finish.proofs.WorkPlaces.{shape_fits}
use Rattle.collect_finish.proofs.WorkCells.{cell_is}
use Rattle.collect_finish.proofs.Margins.{margin_not_block, margin_clear, margin_beside, margins_apart}
use Rattle.collect_finish.proofs.BlockPasses.{PixelsLoaded, Holds, pixels_loaded, clear_start, holds_more, pass_in_place}

finish_order : (plan : Plan) (t : ℕ) → (gains_first_filters plan t).order ≡ order_of plan t
unfolding filter_of
finish_order plan zero = refl
finish_order plan (suc t) = refl

-- After t passes over an array `first`: the work array holds the block, and what lies outside it and the
-- margins of these passes is as it was.
pub record Finishing (plan : Plan) (k : ℕ) (strips first : List ℕ) (t : ℕ) (work : List ℕ) : Type 0 where
  pub holds : Holds plan k (gains_first_filters plan) (scaled_edges plan strips k 3) (block_words first) t work
  pub others : (z : ℕ) → OutsideBlock (shape_of plan.grid k) z
      → ((u : ℕ) → u < t → OutsideMargin plan (shape_of plan.grid k) u z) → word_at work z ≡ word_at first z

pub passes_start : {plan : Plan} {k : ℕ} {shape : BlockShape} {count n : ℕ} {strips work : List ℕ}
    → ReadyToFinish plan shape count n work → Finishing plan k strips work 0 work
unfolding passes_over
passes_start fits =
    record {
      holds = record { sized = fits.sized; inside = λ y x p q. refl };
      others = λ z outside apart. refl;
    }

module _ {plan : Plan} {k : ℕ} {shape : BlockShape} {count n : ℕ} {first : List ℕ}
    (placed : ShapedBlock plan k shape) (ready : ReadyToFinish plan shape count n first) where
  limited : (u : ℕ) → u < 4 → order_of plan u ≤ order_limit
  limited u below = order_limited_at plan placed.block.kept u below

  -- ---- a turn

  module _ {strips : List ℕ} {t : ℕ} {work : List ℕ} (inv : Finishing plan k strips first t work) (turn : t < count) where
    below : t < 4
    below = omega (arith, ready.counted)

    abbrev whole : BlockShape
    whole = shape_of plan.grid k

    abbrev edges : ℕ → ℕ → ℕ → ℕ
    edges = scaled_edges plan strips k 3

    abbrev Z : ℕ → ℕ → ℕ
    Z = block_words first

    fits : ShapeFits whole
    fits = shape_fits placed.block

    -- The margin of this pass lies apart from those before it, and is 0 as it began.
    margin_blank : MarginClear plan whole t work
    margin_blank =
        record {
          at =
              λ l i b c.
              inv.others _ (margin_not_block plan whole fits t (limited t below) l i b c)
              (λ u h m j p q.
              margins_apart plan whole fits u t h below (limited u (omega (arith, below))) (limited t below) m j l i p q b c)
              ∙ (rw placed.shaped at (ready.clear t below)).at l i b c;
        }

    -- What loading it asks.
    pub finish_margin : needed_strips plan ≤ length strips → MarginFits plan shape t (length strips) work
    finish_margin long =
        record {
          moves = record { pass_below = below; strips_long = long; sized = inv.holds.sized };
          clear = rw placed.shaped margin_blank;
        }

    -- The margin is loaded.
    module _ {later : ℕ} (laters : later ≡ gains_after plan t 3) {loaded : List ℕ}
        (loads : MarginLoaded plan shape t later (strip_before plan k t) strips work loaded) {words : FilterWords}
        (filtered : words ≡ gains_first_words plan t) where
      load : MarginLoaded plan whole t later (strip_before plan k t) strips work loaded
      load = rw placed.shaped at loads

      loaded_holds : Holds plan k (gains_first_filters plan) edges Z t loaded
      unfolding shape_of
      loaded_holds =
          record {
            sized = load.length_kept ∙ inv.holds.sized;
            inside =
                λ y x p q.
                load.elsewhere _
                (λ l i b c e.
                margin_not_block plan whole fits t (limited t below) l i b c y x p q (sym e))
                ∙ inv.holds.inside y x p q;
          }

      near : (l i : ℕ) → l < lines_across plan.grid k t → i < order_of plan t
          → words_beside_window (axis_of t) (direction_of t) (work_window (rows_of plan.grid k) (columns_of plan.grid k)) loaded
          l i
          ≡ edges t l i
      unfolding shape_of scaled_edges
      near l i b c =
          margin_beside plan whole fits t (limited t below) loaded l i c
          ∙ load.at l (from_edge (direction_of t) (order_of plan t) i) b (from_edge_below (direction_of t) (order_of plan t) i c)
          ∙ ap₂ ◌⊗◌ laters (past_edges_read plan strips k t l i c)

      -- What the pass asks.
      pub finish_pass : PassFits words.order (length loaded)
      finish_pass =
          record {
            limited = rw (filtered, gains_first_words_order plan t) (limited t below);
            sized = loaded_holds.sized;
          }

      still_others : (z : ℕ) → OutsideBlock whole z → ((u : ℕ) → u < t + 1 → OutsideMargin plan whole u z)
          → word_at (block_pass whole t (gains_first_filters plan t) loaded) z ≡ word_at first z
      unfolding shape_of
      still_others z outside apart =
          (pass_in_place placed.block (gains_first_filters plan) edges Z t below (finish_order plan t) loaded loaded_holds
          ).elsewhere z outside
          ∙ load.elsewhere z (apart t (omega arith))
          ∙ inv.others z outside (λ u h. apart u (omega arith))

      pub finish_turn : {after : List ℕ} → after ≡ block_pass shape t (filter_with words) loaded
          → Finishing plan k strips first (t + 1) after
      finish_turn pass =
          let f = ap filter_with filtered ∙ gains_first_words_filter plan t in
          rw (pass ∙ ap₂ (λ z f. block_pass z t f loaded) placed.shaped f)
          record {
            holds =
                holds_more placed.block (gains_first_filters plan) edges Z t below (finish_order plan t) loaded loaded_holds near;
            others = still_others;
          }

  -- ---- the end

  pub passes_end : {strips : List ℕ} {t : ℕ} {work : List ℕ} → Finishing plan k strips first t work → t ≡ count
      → PassesRun plan k shape strips count first work
  unfolding shape_of
  passes_end inv e =
      rw placed.shaped
      record {
        inside = rw (← e) inv.holds.inside;
        elsewhere = λ z outside apart. inv.others z outside (rw e apart);
        length_kept = inv.holds.sized ∙ sym ready.sized;
      }

-- ---- between the two copies

module _ {plan : Plan} {k : ℕ} {shape : BlockShape} (placed : ShapedBlock plan k shape) (heights : List ℤ) {loaded : List ℕ}
    (loads : PixelsLoaded plan shape heights loaded) where
  abbrev h : ℕ
  h = rows_of plan.grid k

  abbrev w : ℕ
  w = columns_of plan.grid k

  -- What the passes ask.
  pub passes_asked : {count n : ℕ} → count ≤ 4 → needed_strips plan ≤ n → ReadyToFinish plan shape count n loaded
  passes_asked few long =
      record {
        counted = few;
        strips_long = long;
        sized = (clear_start placed heights loads).sized;
        clear =
            λ u below.
            rw placed.shaped
            (margin_clear plan (shape_of plan.grid k) (shape_fits placed.block) u
            (order_limited_at plan placed.block.kept u below) loaded (clear_start placed heights loads));
      }

  pub ran_sized : {count : ℕ} {strips work : List ℕ} → PassesRun plan k shape strips count loaded work
      → length work ≡ work_words
  ran_sized ran = ran.length_kept ∙ (clear_start placed heights loads).sized

  -- What stands in the block after them is what finish writes.
  finish_word_law : {strips work : List ℕ} → PassesRun plan k shape strips 4 loaded work → (y x : ℕ) → y < h → x < w
      → 1 ⊗ word_at work (pixel_in y x) ≡ finish_word plan (map_of plan heights) strips k y x
  unfolding shape_of finish_word scaled_edges gains_after
  finish_word_law {strips} {work} ran y x p q =
      let part = part_of plan.grid k (map_of plan heights) in
      let run : PassesRun plan k (shape_of plan.grid k) strips 4 loaded work = rw placed.shaped at ran in
      ap (1 ⊗◌)
      (run.inside y x p q
      ∙ passes_over_reads (gains_first_filters plan) h w _ _ _ part 4 (λ u l i a b c. refl) (pixels_loaded placed heights loads)
      y x p q
      ∙ sym (gains_first_law (filters_of plan) h w (past_edges plan strips k) part 3 y x))
      ∙ one_mul _
      ∙ reduced_small _ (passes_over_small (filters_of plan) h w (past_edges plan strips k) part 3 y x)

  pub finish_end : {strips work after : List ℕ} → PassesRun plan k shape strips 4 loaded work → (output : List ℕ)
      → after
      ≡ stride_written shape.start plan.grid.columns shape.columns (stride_scaled 1 work work_corner work_stride)
      shape.rows output
      → after ≡ finished plan (map_of plan heights) strips k output
  unfolding shape_of finished block_written rectangle_written block_pixel_place
  finish_end {strips} {work} ran output copied =
      copied
      ∙ ap
      (λ z.
      stride_written z.start plan.grid.columns z.columns (stride_scaled 1 work work_corner work_stride) z.rows output)
      placed.shaped
      ∙ rectangle_same
      (stride_place (block_pixel_place plan.grid k 0 0) plan.grid.columns) (stride_scaled 1 work work_corner work_stride) w h
      (λ q. block_pixel_place plan.grid k (q / w) (q % w))
      (λ q. finish_word plan (map_of plan heights) strips k (q / w) (q % w)) output
      (λ q c. omega arith)
      (λ q c.
      ap (λ z. 1 ⊗ word_at work z) (cell_is (q / w) (q % w))
      ∙ finish_word_law ran (q / w) (q % w) (row_below h w q c) (column_below h w q c))
