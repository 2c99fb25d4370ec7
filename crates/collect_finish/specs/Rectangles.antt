-- Inner: rectangles that are copied from one buffer to another.
use Rattle.std.specs.Prelude.{List, ℕ}
use Rattle.buffer.specs.Copies.{stride_scaled, stride_written, StrideFits}
use Rattle.collect_finish.specs.declared.BufferRectangle.{BufferRectangle}
use Rattle.collect_finish.specs.declared.Rows.{Rows}

-- A rectangle lies in a buffer of `from` words, and the rows that it goes to in one of `to` words.
pub record CopyFits (source : BufferRectangle) (target : Rows) (from to : ℕ) : Type 0 where
  pub read : StrideFits from source.start source.stride source.height source.width
  pub written : StrideFits to target.start target.stride source.height source.width

-- The buffer `to` after a rectangle of `from`, times a gain, has been copied to rows of it.
abbrev pub rectangle_copied : (gain : ℕ) → BufferRectangle → Rows → (from to : List ℕ) → List ℕ
rectangle_copied gain source target from to =
    stride_written target.start target.stride source.width (stride_scaled gain from source.start source.stride) source.height to
