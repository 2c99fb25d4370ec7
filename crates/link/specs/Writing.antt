-- Inner: the linked strip of a link, written place by place; it lies `shift` words after the lone strip.
use Rattle.std.specs.Prelude.{◌≡◌, cond, List, ◌≢◌, ℕ, ◌+◌, ◌*◌, ◌<◌, ◌≤◌, length}
use Rattle.word.specs.Word.{◌⊕◌}
use Rattle.grid.specs.Grid.{side_limit}
use Rattle.plan.specs.Rules.{order_limit}
use Rattle.buffer.specs.Lists.{word_at}
use Rattle.buffer.specs.Written.{written}
use Rattle.strips.specs.StripRecord.{word_held, address_in}
use Rattle.strips.specs.declared.Strip.{Strip}
use Rattle.link.specs.Crossing.{response_words, response_place}
use Rattle.link.specs.Carrying.{WordPerLine}

-- ---- one place of the strip

-- What the responses at a place want that are added to words from `from` on and go to words from `to` on, both `step` apart:
-- none goes to a word that is read.
pub record ResponsesFit (place responses strips from to step lines : ℕ) : Type 0 where
  pub place_low : place < order_limit
  pub word_per_line : WordPerLine responses strips to step lines
  pub read_before : (line : ℕ) → line < lines → from + line * step < to

-- The strips after the responses of n lines at a place have been added to such words.
unfoldable pub responses_added : (from to step : ℕ) → List ℕ → (place n : ℕ) → List ℕ → List ℕ
responses_added from to step responses place n strips =
    written (λ l. to + l * step) (λ l. word_at strips (from + l * step) ⊕ word_at responses (response_place l place)) n strips

-- Where the linked word at a line and a place stands.
abbrev pub linked_address : Strip → (shift line place : ℕ) → ℕ
linked_address lone shift line place = address_in lone line place + shift

-- The word that is written there: the lone word and the response, 0 outside the block.
unfoldable pub linked_word : Strip → (strips responses : List ℕ) → (line place : ℕ) → ℕ
linked_word lone strips responses line place =
    cond (word_held lone line place) (word_at strips (address_in lone line place) ⊕ word_at responses (response_place line place)) 0

-- One place of the linked strip has these words, by line and place, and no other word has changed.
pub record PlaceWritten (lone : Strip) (shift side place : ℕ) (words : ℕ → ℕ → ℕ) (before after : List ℕ) : Type 0 where
  pub length_kept : length after ≡ length before
  pub here : (line : ℕ) → line < side → word_at after (linked_address lone shift line place) ≡ words line place
  pub rest : (z : ℕ) → ((line : ℕ) → line < side → z ≢ linked_address lone shift line place) → word_at after z ≡ word_at before z

-- ---- the strip

-- What the first n places of a strip of `side` lines want: the lone words lie before the linked strip, the linked words are
-- in the strips, and those of two places lie apart.
pub record StripLaid (strips : ℕ) (lone : Strip) (shift n side responses : ℕ) : Type 0 where
  pub some_step : 0 < lone.line_step
  pub some_lines : 0 < side
  pub few_lines : side ≤ side_limit
  pub few_places : n ≤ order_limit
  pub responses_long : responses ≡ response_words
  pub lone_before : (line place : ℕ) → line < side → place < n → address_in lone line place < lone.start + shift
  pub inside : (line place : ℕ) → line < side → place < n → linked_address lone shift line place < strips
  pub apart : (line place l p : ℕ) → line < side → place < n → l < side → p < n
      → address_in lone line place ≡ address_in lone l p → place ≡ p

-- The first n places of the linked strip have these words, and no other word has changed.
pub record PlacesWritten (lone : Strip) (shift side n : ℕ) (words : ℕ → ℕ → ℕ) (before after : List ℕ) : Type 0 where
  pub length_kept : length after ≡ length before
  pub here : (line place : ℕ) → line < side → place < n → word_at after (linked_address lone shift line place) ≡ words line place
  pub rest : (z : ℕ) → ((line place : ℕ) → line < side → place < n → z ≢ linked_address lone shift line place)
      → word_at after z ≡ word_at before z
