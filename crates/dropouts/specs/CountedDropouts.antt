-- What the count of dropouts promises: which calls are answered how, and what is known of the rectangle by its count.
-- Document 02, CR 7.
use Rattle.std.specs.Prelude.{◌≡◌, true, false, List, ℕ, ◌-◌, ◌*◌, ◌<◌, ◌≤◌, ℤ, pos, neg_ℤ, ◌-ℤ◌, length}
use Rattle.refusal.specs.Refusals.{accepted, refused}
use Rattle.buffer.specs.Pixel.{height_at}
use Rattle.passes.specs.Table.{heights_inside}
use Rattle.plan.specs.declared.Plan.{Plan}
use Rattle.plan.specs.Rules.{keeps_rules}
use Rattle.plan.specs.Sizes.{needed_pixels}
use Rattle.rectangle.specs.Rectangle.{Inside}
use Rattle.rectangle.specs.FourNumbers.{Empty}
use Rattle.rectangle.specs.Heights.{height_sum}
use Rattle.dropouts.specs.Dropouts.{dropouts_inside, dropouts_call}

-- ---- the answers

-- A record that breaks a rule is refused by 6,
pub record CountAnswered (plan : Plan) (heights : List ℤ) (top left bottom right : ℕ) : Type 0 where
  pub record_broken : keeps_rules plan ≡ false
      → dropouts_call plan heights top left bottom right ≡ record { answer = refused 6 0; value = 0 }
  -- then a map of fewer than h×w heights by 15,
  pub map_short : keeps_rules plan ≡ true → length heights < needed_pixels plan
      → dropouts_call plan heights top left bottom right ≡ record { answer = refused 15 0; value = 0 }
  -- then four numbers that are no rectangle of the map by 12;
  pub others_refused : keeps_rules plan ≡ true → needed_pixels plan ≤ length heights → (Inside plan top left bottom right → ⊥)
      → dropouts_call plan heights top left bottom right ≡ record { answer = refused 12 0; value = 0 }
  -- a rectangle of the map has its dropouts counted,
  pub inside_counted : keeps_rules plan ≡ true → needed_pixels plan ≤ length heights → Inside plan top left bottom right
      → dropouts_call plan heights top left bottom right
      ≡ record { answer = accepted; value = dropouts_inside plan heights top left bottom right }
  -- 0 where it is empty.
  pub empty_zero : keeps_rules plan ≡ true → needed_pixels plan ≤ length heights → Inside plan top left bottom right
      → Empty top left bottom right
      → dropouts_call plan heights top left bottom right ≡ record { answer = accepted; value = 0 }

-- So it is for every record, every map and any four numbers.
abbrev pub DropoutsAnswered : Type 0
DropoutsAnswered =
    (plan : Plan) (heights : List ℤ) (top left bottom right : ℕ) → CountAnswered plan heights top left bottom right

-- ---- what a count says of its rectangle

-- A pixel of a rectangle.
pub record PixelOf (top left bottom right row column : ℕ) : Type 0 where
  pub below_top : top ≤ row
  pub above_bottom : row < bottom
  pub past_left : left ≤ column
  pub before_right : column < right

-- The heights as the head wrote them have a sum that lies below that of the readings by 2147483648 for each dropout
-- counted: which is to say, every one is counted, once, and nothing else is.
pub record CountTold (plan : Plan) (heights : List ℤ) (top left bottom right : ℕ) : Type 0 where
  pub each_once : heights_inside (height_at plan.grid.columns heights) top left bottom right
      ≡ height_sum plan heights top left bottom right -ℤ pos (2147483648 * dropouts_inside plan heights top left bottom right)
  -- No more are counted than there are pixels.
  pub at_most_pixels : dropouts_inside plan heights top left bottom right ≤ (bottom - top) * (right - left)
  -- Where none is counted, every pixel was seen;
  pub all_seen : dropouts_inside plan heights top left bottom right ≡ 0
      → (row column : ℕ) → PixelOf top left bottom right row column
      → height_at plan.grid.columns heights row column ≡ neg_ℤ (pos 2147483648) → ⊥
  -- where as many are counted as there are pixels, none was,
  pub none_seen : dropouts_inside plan heights top left bottom right ≡ (bottom - top) * (right - left)
      → (row column : ℕ) → PixelOf top left bottom right row column
      → height_at plan.grid.columns heights row column ≡ neg_ℤ (pos 2147483648)
  -- and the heights' sum is 0.
  pub nothing_summed : dropouts_inside plan heights top left bottom right ≡ (bottom - top) * (right - left)
      → height_sum plan heights top left bottom right ≡ pos 0

-- So it is for every map and any four numbers.
abbrev pub DropoutsTold : Type 0
DropoutsTold =
    (plan : Plan) (heights : List ℤ) (top left bottom right : ℕ) → CountTold plan heights top left bottom right
