-- The words of a record: a size as a signed number, and an array that is filled from its front. Assumes nothing.
use mathlib.Core.Path.{◌≡◌, refl, sym, ap, ◌∙◌}
use mathlib.Core.List.{List, [], ◌∷◌, ◌++◌, append_assoc}
use Prim.Native.Nat.{ℕ, ◌+◌, ◌<◌, ◌≤◌, ◌^◌}
use native.Mathlib.Omega.{arith}
use native.Mathlib.Numerals.{add-one}
use lib.IntN.{ℤ, pos}
use lib.ListN.{length, take, set, replicate, length-set}
use lib.Seq.{take-suc-set, take-length}
use borrow.Author.Tests.{lt-ltb}
use mir.ValLaws.{to_z-of_z}
use borrow.Rule.Slice.PartMut.{put_mid}
use Rattle.std.proofs.lemmas.Slice.{take-put_mid}
use Rattle.plan.specs.declared.Pass.{Pass}
use Rattle.plan.specs.declared.Plan.{Plan}
use Rattle.plan.specs.Rules.{order_limit, pass_at}
use Rattle.buffer.specs.Lists.{joined}
use Rattle.plan_reader.specs.ReadPlan.{zero_plan}
use Rattle.plan_record.specs.Records.{pass_length, pass_start, record_length, number_from, record_of_pass, record_of_passes, record_of_plan}

pub number_held : (size : ℕ) → size < 2 ^ 63 → number_from size ≡ pos size
number_held size h = simp (lt-ltb size 9223372036854775808 h)

module _ {A : Type 0} where
  -- A store behind what stands in front.
  stored : (l : List A) (n : ℕ) (a : A) → n < length l → take (n + 1) (set l n a) ≡ take n l ++ (a ∷ [])
  stored l n a h = rw (add-one n, take-suc-set l n a h)

  take_all_of : (l : List A) (n : ℕ) → length l ≡ n → take n l ≡ l
  take_all_of l n e = sym (ap (λ (k : ℕ). take k l) e) ∙ take-length l

-- The words of a pass behind a front: order and gain, and then the coefficients.
pub pass_written :
    (words : List ℤ) (place k : ℕ) (pass : Pass) {order gain : ℤ} {coefficients : List ℤ} → place + pass_length ≤ length words
    → length pass.coefficients ≡ order_limit → order ≡ number_from pass.order → gain ≡ pass.gain → coefficients ≡ pass.coefficients
    → take (place + pass_length) (put_mid (place + 2) k (set (set words place order) (place + 1) gain) coefficients)
    ≡ take place words ++ record_of_pass pass
unfolding record_of_pass
pass_written words place k pass {order} {gain} {coefficients} room full e f g =
    let stores = set (set words place order) (place + 1) gain in
    let within : length stores ≡ length words = simp length-set in
    let n : place + pass_length ≡ place + 2 + length coefficients = omega (arith, ap length g) in
    let m : place + 2 ≡ place + 1 + 1 = omega arith in
    let second : place + 1 < length (set words place order) = simp length-set (omega arith) in
    let first : place < length words = omega arith in
    take-put_mid (place + 2) k stores coefficients (place + pass_length) n (omega arith)
    ∙ rw (m, stored (set words place order) (place + 1) gain second, stored words place order first, e, f, g) (simp append_assoc)

pub ruleset pass_stored = (pass_written, to_z-of_z)

-- ---- a plan

-- The words up to the first `count` passes.
unfoldable pub front : Plan → ℕ → List ℤ
front plan count =
    number_from plan.grid.rows ∷ number_from plan.grid.columns ∷ number_from plan.grid.side ∷ record_of_passes plan count

pub front_none :
    (plan : Plan) {a b c : ℤ} → a ≡ number_from plan.grid.rows → b ≡ number_from plan.grid.columns
    → c ≡ number_from plan.grid.side
    → (a ∷ (b ∷ (c ∷ []))) ≡ front plan 0
unfolding front record_of_passes joined
front_none plan p q r = rw (p, q, r)

pub front_more :
    (plan : Plan) (i : ℕ) (words filled : List ℤ) → take (pass_start i) words ≡ front plan i
    → take (pass_start i + pass_length) filled ≡ take (pass_start i) words ++ record_of_pass (pass_at plan i)
    → take (pass_start (i + 1)) filled ≡ front plan (i + 1)
unfolding front record_of_passes joined
front_more plan i words filled e f =
    let n : pass_start (i + 1) ≡ pass_start i + pass_length = omega arith in
    rw (n, add-one i, f, e)

pub front_all : (plan : Plan) (words : List ℤ) → length words ≡ record_length → take record_length words ≡ front plan 4
    → words ≡ record_of_plan plan
unfolding front record_of_plan
front_all plan words e f = sym (take_all_of words record_length e) ∙ f

pub ruleset record_filled = (front_none, front_more, to_z-of_z)

-- What stands beside a refusal: the record of a plan of zeros is all zeros.
pub zero_record : record_of_plan zero_plan ≡ replicate record_length (pos 0)
unfolding record_of_plan record_of_passes joined record_of_pass
zero_record = refl
