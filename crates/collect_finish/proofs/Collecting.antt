-- What collect has done after so many passes: the start, one turn, and the end. Assumes nothing.
use mathlib.Core.Path.{◌≡◌, sym, ap, ◌∙◌}
use mathlib.Core.List.{List}
use Prim.Native.Nat.{ℕ, ◌+◌, ◌≤◌, ◌<◌}
use lib.IntN.{ℤ}
use lib.ListN.{length}
use Rattle.plan.specs.declared.Plan.{Plan}
use Rattle.plan.specs.Rules.{order_limit, pass_at}
use Rattle.plan.specs.Sizes.{needed_strips}
use Rattle.plan.proofs.Record.{order_limited_at}
use Rattle.passes.specs.Gains.{gains_from}
use Rattle.filter.specs.declared.FilterWords.{FilterWords}
use Rattle.filter.specs.PlanFilters.{filters_of, map_of}
use Rattle.filter.specs.FilterWords.{filter_with, filter_words, with_gain}
use Rattle.grid.specs.Grid.{part_of}
use Rattle.grid.specs.declared.BlockShape.{BlockShape}
use Rattle.task_words.specs.declared.Half.TheVariants.{Lone}
use Rattle.task_words.specs.Strips.{strip_written, half_written}
use Rattle.task_words.specs.Writes.{alone_word, collected}
use Rattle.task_words.proofs.Strips.{strip_same_words, half_none, half_next, half_length}
use Rattle.collect_finish.specs.Work.{block_pass, work_edge}
use Rattle.collect_finish.specs.WorkFits.{ShapedBlock, PassFits, StripMoves}
use Rattle.collect_finish.proofs.BlockPasses.{PixelsLoaded, holds_start, clear_start}
use Rattle.collect_finish.proofs.AloneBlock.{collect_filters, Alone, alone_turn}
use Rattle.collect_finish.proofs.AloneEdges.{alone_edge}

-- After t passes over X: the lone strips of these passes are written, and the work array holds the block filtered alone.
pub record Collecting (plan : Plan) (k : ℕ) (X : ℕ → ℕ → ℕ) (first strips : List ℕ) (t : ℕ) (work : List ℕ) : Type 0 where
  pub alone : Alone plan k (part_of plan.grid k X) t work
  pub written : strips ≡ half_written plan Lone k (alone_word plan X k) t first

module _ {plan : Plan} {k : ℕ} {shape : BlockShape} (placed : ShapedBlock plan k shape) where
  pub collect_start : (heights : List ℤ) {strips work : List ℕ}
      → PixelsLoaded plan shape heights work
      → Collecting plan k (map_of plan heights) strips strips 0 work
  collect_start heights loads =
      record {
        alone =
            record {
              block = holds_start placed heights loads (collect_filters plan) (λ u l i. 0);
              clear = clear_start placed heights loads;
            };
        written = sym (half_none plan Lone k _ _);
      }

  -- What a turn's calls ask.
  module _ {X : ℕ → ℕ → ℕ} {first strips : List ℕ} {t : ℕ} {work : List ℕ} (inv : Collecting plan k X first strips t work)
      (below : t < 4) {words : FilterWords} (filtered : words ≡ with_gain 1 (filter_words (pass_at plan t))) where
    order_limited : words.order ≤ order_limit
    unfolding filter_words
    order_limited = rw filtered (order_limited_at plan placed.block.kept t below)

    pub collect_pass : PassFits words.order (length work)
    collect_pass = record { limited = order_limited; sized = inv.alone.block.sized }

    module _ {after : List ℕ} (pass : after ≡ block_pass shape t (filter_with words) work) where
      filtered_alone : Alone plan k (part_of plan.grid k X) (t + 1) after
      filtered_alone = alone_turn placed inv.alone below filtered pass

      pub collect_strip : needed_strips plan ≤ length first → StripMoves plan t (length strips) (length after)
      collect_strip long =
          record {
            pass_below = below;
            strips_long = rw (ap length inv.written ∙ half_length plan Lone k (alone_word plan X k) t first) long;
            sized = filtered_alone.block.sized;
          }

      pub collect_turn : {gain : ℕ} {left : List ℕ} → gain ≡ gains_from (filters_of plan) 0 (t + 1)
          → left ≡ strip_written plan Lone k t (work_edge plan k t gain after) strips → Collecting plan k X first left (t + 1) after
      collect_turn {gain} {left} gains stripped =
          record {
            alone = filtered_alone;
            written =
                stripped
                ∙ strip_same_words plan Lone k t _ _ strips (alone_edge placed.block t below X after filtered_alone gain gains)
                ∙ ap (strip_written plan Lone k t (alone_word plan X k t)) inv.written
                ∙ half_next plan Lone k (alone_word plan X k) t first;
          }

pub collect_end : {plan : Plan} {k : ℕ} {X : ℕ → ℕ → ℕ} {first strips : List ℕ} {t : ℕ} {work : List ℕ}
    → Collecting plan k X first strips t work → t ≡ 4 → strips ≡ collected plan X k first
unfolding collected
collect_end inv all = rw all at inv.written
