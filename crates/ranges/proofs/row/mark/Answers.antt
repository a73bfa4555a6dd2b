use Rattle.std.proofs.Common.{◌≡◌, ℕ, Bool, true, false, Option, Some, None, is_some, refl, sym, ◌∙◌, true≢false}
use Rattle.std.specs.Prelude.{not, ◌&&◌, ◌||◌}
use mathlib.Core.Path.{fun_ext}
use Rattle.bits.specs.Sets.{IsFirstAt, has}
use Rattle.ranges.specs.Rows.{is_within}
use Rattle.ranges.proofs.Outcomes.{mapped_ok}
use Rattle.ranges.proofs.row.mark.Goals as goal

none_at : (p : ℕ → Bool) (o : Option ℕ) → is_some o ≡ false → IsFirstAt p o → (i : ℕ) → p i ≡ false
none_at p None e h i = h i
none_at p (Some x) e h i = absurd (true≢false e)

-- a cell of an interval of which none is excluded
with_none : (old within excluded : Bool) → (within && excluded) ≡ false → (old || within) ≡ (old || (within && not excluded))
with_none old false excluded e = refl
with_none old true false e = refl
with_none old true true e = absurd (true≢false e)

pub returns-clause-ok : goal.returns-clause-ok
returns-clause-ok c =
    let old = has c.args.row.now in
    let excluded = has c.args.excluded.now in
    let none = none_at (λ i. is_within c.args.cells i && excluded i) c.first_within.result
    (sym c.is_some.ensures ∙ c.if-is_some.false) c.first_within.ensures in
    mapped_ok c.mark_all.result c.mark_all.ensures.ok
    (λ (e : has c.mark_all.new.row ≡ (λ i. old i || is_within c.args.cells i)).
    e ∙ fun_ext (λ i. with_none (old i) (is_within c.args.cells i) (excluded i) (none i)))
