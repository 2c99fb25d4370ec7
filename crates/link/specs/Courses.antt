-- Inner: the course of a link: along which passes and lines its words come.
use Rattle.std.specs.Prelude.{◌≡◌, List, [], ◌∷◌, true, ℕ, suc, ◌+◌, ◌-◌, ◌<◌, ◌≤◌}
use Rattle.plan.specs.Rules.{order_limit, pass_at, keeps_rules}
use Rattle.plan.specs.Sizes.{needed_marks, needed_strips, order_of}
use Rattle.plan.specs.declared.Plan.{Plan}
use Rattle.axis.specs.Axis.{direction_of}
use Rattle.filter.specs.FilterWords.{filter_words, with_gain, gains_after}
use Rattle.filter.specs.declared.FilterWords.{FilterWords}
use Rattle.grid.specs.Grid.{side_limit, extent_along, lines_across}
use Rattle.strips.specs.StripRecord.{StripAt, edge_start, strip_before}
use Rattle.squares.specs.LinePasses.{axis_start, axis_passes}
use Rattle.link.specs.declared.Course.{Course}
use Rattle.link.specs.declared.BlockLink.{BlockLink}
use Rattle.link.specs.declared.Edge.{Edge}
use Rattle.squares.specs.LineBuffers.{filter_at}
use Rattle.task_words.specs.ScaledEdges.{scaled_edges}

-- The words of the four filters of a plan, with gain 1.
unfoldable pub unit_gain_filters : Plan → List FilterWords
unit_gain_filters plan =
    with_gain 1 (filter_words (pass_at plan 0))
    ∷ with_gain 1 (filter_words (pass_at plan 1))
    ∷ with_gain 1 (filter_words (pass_at plan 2))
    ∷ with_gain 1 (filter_words (pass_at plan 3))
    ∷ []

-- The course of a link of a pass along lines of n places.
abbrev pub course_along : (pass n lines order : ℕ) → Course
course_along pass n lines order =
    record {
      pass = pass;
      first = axis_start pass;
      passes = axis_passes pass;
      places = n;
      lines = lines;
      from = edge_start (direction_of pass) order n;
      order = order;
    }

-- The course of the link of a pass of block k.
unfoldable pub course_of : Plan → ℕ → ℕ → Course
course_of plan k pass =
    course_along pass (extent_along plan.grid k pass) (lines_across plan.grid k pass) (order_of plan pass)

-- A place of a strip lies in the lines.
pub record Inside (course : Course) (place : ℕ) : Type 0 where
  pub below : place < course.order
  pub low : order_limit ≤ course.from + place
  pub high : course.from + place < order_limit + course.places

-- The index in a line that such a place stands for.
abbrev pub index_at : Course → ℕ → ℕ
index_at course place = (course.from + place) - order_limit

-- What the buffers want of a course.
pub record CourseFits (course : Course) : Type 0 where
  pub some_places : 0 < course.places
  pub few_places : course.places ≤ side_limit
  pub some_lines : 0 < course.lines
  pub few_lines : course.lines ≤ side_limit
  pub some_order : 0 < course.order
  pub order_limited : course.order ≤ order_limit
  pub inside : course.from ≤ order_limit + course.places
  pub some_passes : 0 < course.passes
  pub few_passes : course.passes ≤ 2
  pub first_low : course.first ≤ 2
  pub passes_counted : course.first + course.passes ≤ 4
  pub first_is : course.first ≡ axis_start course.pass
  pub passes_are : course.passes ≡ axis_passes course.pass
  pub last_is : course.first + course.passes ≡ suc course.pass

-- What is asked of a plan, a block and a pass whose link is meant, with strips of so many words.
pub record LinkAt (plan : Plan) (k pass strips : ℕ) : Type 0 where
  pub strip_at : StripAt plan k pass
  pub strips_long : needed_strips plan ≤ strips

-- What a link of a block wants, with strips of so many words: the filters are the plan's, with gain 1.
pub record LinkFits (link : BlockLink) (strips : ℕ) : Type 0 where
  pub kept : keeps_rules link.plan ≡ true
  pub counted : link.k < needed_marks link.plan
  pub course_fits : CourseFits link.course
  pub filters_are : link.filters ≡ unit_gain_filters link.plan
  pub strips_long : needed_strips link.plan ≤ strips

-- What stands past the edges of its block, times the gains of the passes after, up to the link's own.
abbrev pub edges_of : BlockLink → List ℕ → ℕ → ℕ → ℕ → ℕ
edges_of link strips = scaled_edges link.plan strips link.k link.course.pass

-- The edge of its block where a pass comes from: the strip there, and the gains of the passes after, up to the link's own.
abbrev pub edge_of : BlockLink → (pass : ℕ) → Edge
edge_of link pass =
    record {
      strip = strip_before link.plan link.k pass;
      pass = pass;
      order = (filter_at link.filters pass).order;
      gain = gains_after link.plan pass link.course.pass;
    }
