-- Heights are read as the words of their pixels.
use mathlib.Core.Path.{sym, ap, ◌∙◌, fun_ext}
use Prim.Native.Nat.{ℕ, ◌+◌}
use Rattle.buffer.specs.Written.{row_written}
use Rattle.buffer.proofs.Pixel.{pixels_at}
use Rattle.serial.proofs.I32Pixel.read_words.Goals as goal

pub returns : goal.returns
returns c =
    let a = c.args in
    c.read_heights.ensures
    ∙ ap (λ (w : ℕ → ℕ). row_written a.from w a.count a.output.now)
    (fun_ext (λ i. sym (pixels_at a.map.now (a.from + i))))
