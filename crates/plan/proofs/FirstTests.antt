-- The tests of the record and of the lent lengths: what it says where they accept, and which buffer refuses.
-- Assumes nothing.
use mathlib.Core.Path.{◌≡◌, refl, sym, ◌∙◌}
use mathlib.Core.Bool.{true, false}
use mathlib.Core.Logic.{⊎_elim}
use Rattle.std.specs.Prelude.{Option, None, Some}
use Prim.Native.Nat.{ℕ, ◌≤◌, ◌<◌}
use native.Mathlib.Omega.{arith}
use borrow.Author.Tests.{lt-ltb, le-ltb, ltb-false, not-false}
use Rattle.number.proofs.Tests.{lt_or_ge}
use Rattle.refusal.specs.Refusals.{accepted, refused}
use Rattle.refusal.specs.Table.{first_due}
use Rattle.refusal.proofs.Table.{none_of, refused_before, accepted_before}
use Rattle.plan.specs.declared.BufferOf7.{BufferOf7}
use Rattle.plan.specs.declared.BufferOf7.TheVariants.{Words, Marks, Table}
use Rattle.plan.specs.declared.Lengths.{Lengths}
use Rattle.plan.specs.declared.Plan.{Plan}
use Rattle.plan.specs.Rules.{keeps_rules}
use Rattle.plan.specs.Sizes.{word_count, needed_marks, needed_strips, needed_pixels, sizes_of}
use Rattle.plan.specs.FirstTests.{too_short, of7_too_short, lent_rows, only_of7, Shorter, Of7Shorter, ShortBuffer, of7_short, strips_short, map_short, output_short, LeastShortDecides, NoneShortGoesOn}

-- ---- one buffer

-- A buffer, if it is lent, has as many places as are needed.
abbrev pub Enough : Option ℕ → (needed : ℕ) → Type 0
Enough None needed = Unit {0}
Enough (Some length) needed = needed ≤ length

enough_tested : (lent : Option ℕ) (needed : ℕ) → Enough lent needed → too_short lent needed ≡ false
enough_tested None needed h = refl
enough_tested (Some length) needed h = le-ltb length needed h

tested_enough : (lent : Option ℕ) (needed : ℕ) → too_short lent needed ≡ false → Enough lent needed
tested_enough None needed e = tt
tested_enough (Some length) needed e = ltb-false length needed e

shorter_tested : (lent : Option ℕ) (needed : ℕ) → Shorter lent needed → too_short lent needed ≡ true
shorter_tested None needed h = absurd h
shorter_tested (Some length) needed h = lt-ltb length needed h

not_shorter_tested : (lent : Option ℕ) (needed : ℕ) → (Shorter lent needed → ⊥) → too_short lent needed ≡ false
not_shorter_tested None needed h = refl
not_shorter_tested (Some length) needed h =
    le-ltb length needed (⊎_elim (λ short. absurd (h short)) (λ enough. enough) (lt_or_ge length needed))

-- ---- the buffer that 7 is for: one with a need of its own

abbrev pub length_of7 : Option BufferOf7 → Option ℕ
length_of7 None = None
length_of7 (Some (Words length)) = Some length
length_of7 (Some (Marks length)) = Some length
length_of7 (Some (Table length)) = Some length

abbrev pub needed_of7 : Plan → Option BufferOf7 → ℕ
needed_of7 plan None = 0
needed_of7 plan (Some (Words length)) = word_count plan
needed_of7 plan (Some (Marks length)) = needed_marks plan
needed_of7 plan (Some (Table length)) = needed_pixels plan

abbrev pub Of7Enough : Plan → Option BufferOf7 → Type 0
Of7Enough plan buffer = Enough (length_of7 buffer) (needed_of7 plan buffer)

module _ (plan : Plan) where
  of7_tested : (buffer : Option BufferOf7)
      → of7_too_short buffer (sizes_of plan) ≡ too_short (length_of7 buffer) (needed_of7 plan buffer)
  unfolding sizes_of
  of7_tested None = refl
  of7_tested (Some (Words length)) = refl
  of7_tested (Some (Marks length)) = refl
  of7_tested (Some (Table length)) = refl

  of7_shorter : (buffer : Option BufferOf7) → Of7Shorter plan buffer ≡ Shorter (length_of7 buffer) (needed_of7 plan buffer)
  of7_shorter None = refl
  of7_shorter (Some (Words length)) = refl
  of7_shorter (Some (Marks length)) = refl
  of7_shorter (Some (Table length)) = refl

-- ---- all tests

-- What the tests accept: a record that keeps the rules, and enough of each buffer that is lent.
pub record Suffices (plan : Plan) (lent : Lengths) : Type 0 where
  pub rules : keeps_rules plan ≡ true
  pub of7_long : Of7Enough plan lent.of7
  pub strips_long : Enough lent.strips (needed_strips plan)
  pub map_long : Enough lent.map (needed_pixels plan)
  pub output_long : Enough lent.output (needed_pixels plan)

module _ (plan : Plan) (lent : Lengths) where
  pub suffices : first_due (lent_rows plan lent) ≡ accepted → Suffices plan lent
  unfolding lent_rows sizes_of
  suffices e =
      let (kept, (of7, (strips, (map, (output, none))))) = none_of (lent_rows plan lent) e in
      record {
        rules = not-false (keeps_rules plan) kept;
        of7_long =
            tested_enough (length_of7 lent.of7) (needed_of7 plan lent.of7) (sym (of7_tested plan lent.of7) ∙ of7);
        strips_long = tested_enough lent.strips (needed_strips plan) strips;
        map_long = tested_enough lent.map (needed_pixels plan) map;
        output_long = tested_enough lent.output (needed_pixels plan) output;
      }

  pub lent_accepted : Suffices plan lent → first_due (lent_rows plan lent) ≡ accepted
  unfolding lent_rows sizes_of
  lent_accepted enough =
      rw (
        enough.rules,
        of7_tested plan lent.of7,
        enough_tested (length_of7 lent.of7) (needed_of7 plan lent.of7) enough.of7_long,
        enough_tested lent.strips (needed_strips plan) enough.strips_long,
        enough_tested lent.map (needed_pixels plan) enough.map_long,
        enough_tested lent.output (needed_pixels plan) enough.output_long,
      )

-- A call that is lent at most the buffer that 7 is for.
pub only_accepted : (plan : Plan) (buffer : Option BufferOf7) → keeps_rules plan ≡ true → Of7Enough plan buffer
    → first_due (lent_rows plan (only_of7 buffer)) ≡ accepted
only_accepted plan buffer kept enough =
    lent_accepted plan (only_of7 buffer)
    (record { rules = kept; of7_long = enough; strips_long = tt; map_long = tt; output_long = tt })

-- ---- which buffer was short

module _ (plan : Plan) (lent : Lengths) (kept : keeps_rules plan ≡ true) where
  -- No buffer whose number is below the least is too short.
  module _ (number : ℕ) (least : (other : ℕ) → ShortBuffer plan lent other → number ≤ other) where
    of7_passes : 7 < number → of7_too_short lent.of7 (sizes_of plan) ≡ false
    of7_passes l =
        of7_tested plan lent.of7
        ∙ not_shorter_tested (length_of7 lent.of7) (needed_of7 plan lent.of7)
        (λ s. omega (arith, least 7 (of7_short (rw (of7_shorter plan lent.of7) s))))

    strips_pass : 14 < number → too_short lent.strips (needed_strips plan) ≡ false
    strips_pass l =
        not_shorter_tested lent.strips (needed_strips plan) (λ s. omega (arith, least 14 (strips_short s)))

    map_passes : 15 < number → too_short lent.map (needed_pixels plan) ≡ false
    map_passes l = not_shorter_tested lent.map (needed_pixels plan) (λ s. omega (arith, least 15 (map_short s)))

    output_passes : 16 < number → too_short lent.output (needed_pixels plan) ≡ false
    output_passes l = not_shorter_tested lent.output (needed_pixels plan) (λ s. omega (arith, least 16 (output_short s)))

  least_short : (number : ℕ) → ShortBuffer plan lent number
      → ((other : ℕ) → ShortBuffer plan lent other → number ≤ other) → first_due (lent_rows plan lent) ≡ refused number 0
  unfolding lent_rows sizes_of
  least_short number (of7_short h) least =
      let short = shorter_tested (length_of7 lent.of7) (needed_of7 plan lent.of7) (rw (of7_shorter plan lent.of7) at h) in
      rw (kept, of7_tested plan lent.of7, short)
  least_short number (strips_short h) least =
      rw (kept, of7_passes 14 least (omega arith), shorter_tested lent.strips (needed_strips plan) h)
  least_short number (map_short h) least =
      let of7 = of7_passes 15 least (omega arith) in
      rw (kept, of7, strips_pass 15 least (omega arith), shorter_tested lent.map (needed_pixels plan) h)
  least_short number (output_short h) least =
      let of7 = of7_passes 16 least (omega arith) in
      let strips = strips_pass 16 least (omega arith) in
      rw (kept, of7, strips, map_passes 16 least (omega arith), shorter_tested lent.output (needed_pixels plan) h)

  none_short : ((number : ℕ) → ShortBuffer plan lent number → ⊥) → first_due (lent_rows plan lent) ≡ accepted
  unfolding lent_rows sizes_of
  none_short none =
      let least : (other : ℕ) → ShortBuffer plan lent other → 17 ≤ other = λ other s. absurd (none other s) in
      rw (
        kept,
        of7_passes 17 least (omega arith),
        strips_pass 17 least (omega arith),
        map_passes 17 least (omega arith),
        output_passes 17 least (omega arith),
      )

pub least_short_decides : LeastShortDecides
least_short_decides plan lent later number kept short least =
    sym (refused_before (lent_rows plan lent) later (sym (least_short plan lent kept number short least)))

pub none_short_goes_on : NoneShortGoesOn
none_short_goes_on plan lent later kept none =
    accepted_before (lent_rows plan lent) later (sym (none_short plan lent kept none))
