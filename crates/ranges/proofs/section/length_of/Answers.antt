use Rattle.std.proofs.Common.{◌≡◌, ℕ, zero, suc, List, [], ◌∷◌, Some, slice_index, ap, sym, ◌∙◌, map, String, Global}
use Rattle.std.specs.Prelude.{slice_get}
use Rattle.base.specs.declared.tree.ArrayInfo.{ArrayInfo}
use Rattle.ranges.proofs.section.length_of.Goals as goal

length_at : (entries : List (String Global × ArrayInfo)) (k : ℕ) (x : String Global × ArrayInfo) →
    slice_get entries k ≡ Some x →
    slice_index (map (λ (a : ArrayInfo). a.length) (map (λ (e : String Global × ArrayInfo). e.1) entries)) k ≡ x.1.length
length_at [] k x e = absurd cc
length_at (y ∷ xs) zero x e = let same : y ≡ x = cc in ap (λ z. z.1.length) same
length_at (y ∷ xs) (suc k) x e = length_at xs k x e

pub returns-in-Some : goal.returns-in-Some
returns-in-Some c =
    sym (length_at c.args.program.now.arrays.entries c.args.array.0 (c.in-Some.field-0-0.now, c.in-Some.info.now)
    (ap (λ es. slice_get es c.args.array.0) (sym c.as_slice.ensures.entries) ∙ sym c.in-Some.ensures.entry))
