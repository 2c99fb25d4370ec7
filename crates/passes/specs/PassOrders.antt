-- The passes over a whole map in another order: document 02, CR 10.
use Rattle.std.specs.Prelude.{◌≡◌, List, [], ◌∷◌, ℕ}
use Rattle.axis.specs.Axis.{axis_of, direction_of, along}
use Rattle.passes.specs.Filter.{Filter}
use Rattle.passes.specs.Passes.{filter_lines, serial_passes}

-- Pass t over a whole map X of h rows and w columns (0 down, 1 up, 2 right, 3 left): outputs with an index outside the
-- map count as 0.
unfoldable pub one_pass : (ℕ → Filter) → (h w t : ℕ) → (ℕ → ℕ → ℕ) → ℕ → ℕ → ℕ
one_pass filters h w t X =
    filter_lines (axis_of t) (direction_of t) (filters t) (along (axis_of t) h w) (λ l k. 0) X

-- The passes of a list, the first on X and each other on the result of the one before it.
unfoldable pub passes_in_order : (ℕ → Filter) → (h w : ℕ) → List ℕ → (ℕ → ℕ → ℕ) → ℕ → ℕ → ℕ
passes_in_order filters h w [] X = X
passes_in_order filters h w (t ∷ order) X = passes_in_order filters h w order (one_pass filters h w t X)

-- Down, up, right, left: document 01's order.
abbrev pub columns_first : List ℕ
columns_first = 0 ∷ 1 ∷ 2 ∷ 3 ∷ []

-- Right, left, down, up: the pairs exchanged.
abbrev pub rows_first : List ℕ
rows_first = 2 ∷ 3 ∷ 0 ∷ 1 ∷ []

-- Passes in this order give the output of the serial passes, whatever the filters, the map's size and the map.
abbrev pub SameOutput : List ℕ → Type 0
SameOutput order =
    (filters : ℕ → Filter) (h w : ℕ) (X : ℕ → ℕ → ℕ) (row column : ℕ)
    → passes_in_order filters h w order X row column ≡ serial_passes filters h w X 4 row column

-- So do document 01's order and the order with right and left before down and up;
pub record PairsExchange : Type 0 where
  pub in_order : SameOutput columns_first
  pub rows_first_law : SameOutput rows_first
  -- but not with up before down or left before right: the exchange is of the pairs only.
  pub up_after_down : SameOutput (2 ∷ 3 ∷ 1 ∷ 0 ∷ []) → ⊥
  pub left_after_right : SameOutput (3 ∷ 2 ∷ 0 ∷ 1 ∷ []) → ⊥
