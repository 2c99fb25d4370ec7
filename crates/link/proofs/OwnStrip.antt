-- Where the words of a link's own lone strip stand, and those of its linked strip. Assumes nothing.
use mathlib.Core.Path.{◌≡◌, ap, sym, ◌∙◌}
use Prim.Native.Nat.{ℕ, ◌+◌, ◌<◌}
use native.Mathlib.Omega.{arith}
use Rattle.plan.proofs.Record.{rules, order_limited_at}
use Rattle.plan.specs.Sizes.{order_of, half_words}
use Rattle.plan.specs.declared.Plan.{Plan}
use Rattle.axis.specs.Axis.{Axis, columns, rows, axis_of, along}
use Rattle.task_words.proofs.Strips.{in_strip, word_laid, strip_in_half, strip_place_below}
use Rattle.grid.specs.Grid.{extent_along, lines_across}
use Rattle.task_words.specs.declared.Half.TheVariants.{Lone, Linked}
use Rattle.task_words.specs.Strips.{strip_place, laid_in_rows}
use Rattle.strips.proofs.StripRecords.{address_is}
use Rattle.strips.specs.StripRecord.{strip_with, strip_of, address_in}
use Rattle.strips.specs.declared.Strip.{Strip}
use Rattle.link.specs.Courses.{LinkAt}
use Rattle.link.specs.Crossing.{response_words}
use Rattle.link.specs.Writing.{linked_address, StripLaid}

-- ---- block k's strip

module _ (plan : Plan) (k pass : ℕ) where
  abbrev lone : Strip
  lone = strip_of plan Lone k pass

  abbrev side : ℕ
  side = plan.grid.side

  abbrev order : ℕ
  order = order_of plan pass

  -- The places of a line, and the lines.
  abbrev pub places : ℕ
  places = extent_along plan.grid k pass

  abbrev pub lines : ℕ
  lines = lines_across plan.grid k pass

  -- The linked strip lies half a slot after the lone one.
  pub linked_address_law : (line place : ℕ)
      → linked_address lone (half_words plan) line place ≡ strip_place plan Linked k pass line place
  unfolding strip_place
  linked_address_law line place = ap (◌+ half_words plan) (address_is plan Lone k pass line place) ∙ omega arith

  some_step : 0 < order → 0 < lone.line_step
  unfolding strip_of strip_with
  some_step some = by (axis_of pass)
    where
      by : (a : Axis) → 0 < along a 1 order
      by columns = omega arith
      by rows = some

  -- The lone strip ends before the linked one begins.
  lone_before : pass < 4 → (line place : ℕ) → line < side → place < order
      → address_in lone line place < lone.start + half_words plan
  unfolding strip_place strip_of strip_with
  lone_before below line place h b =
      rw (address_is plan Lone k pass line place)
      (omega (arith, in_strip side order (axis_of pass) line place h b, strip_in_half plan pass below))

  pub strip_laid : {n r : ℕ} → LinkAt plan k pass n → 0 < order → r ≡ response_words
      → StripLaid n lone (half_words plan) order side r
  unfolding strip_place
  strip_laid at some long =
      let asked = at.strip_at in
      let known = rules plan asked.kept in
      record {
        some_step = some_step some;
        some_lines = known.side_low;
        few_lines = known.side_high;
        few_places = order_limited_at plan asked.kept pass asked.pass_below;
        responses_long = long;
        lone_before = lone_before asked.pass_below;
        inside = λ line place h b.
            rw (linked_address_law line place)
            (omega (
              arith,
              strip_place_below plan Linked k pass line place asked.counted asked.pass_below h b,
              at.strips_long,
            ));
        apart = λ line place l p h b c d e.
            let q = sym (address_is plan Lone k pass line place) ∙ e ∙ address_is plan Lone k pass l p in
            let place_there : ℕ → ℕ → ℕ = λ line place. place in
            sym (word_laid side order (axis_of pass) place_there line place h b)
            ∙ ap (laid_in_rows (axis_of pass) side order place_there) (omega arith)
            ∙ word_laid side order (axis_of pass) place_there l p c d;
      }
