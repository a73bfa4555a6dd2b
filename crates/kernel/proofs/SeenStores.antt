-- One more store.
use Rattle.std.proofs.Common.{◌≡◌, ℕ, ◌==◌, Bool, true, false, [], ◌∷◌, ◌++◌, Some, refl, sym, ap, ◌∙◌, if◌then◌else◌, eqb-true}
use Rattle.std.specs.Prelude.{option_map, unwrap_or}
use Rattle.std.proofs.lemmas.Bool.{and_parts}
use mathlib.Core.Path.{fun_ext}
use Rattle.base.specs.declared.item.Cell.{Cell}
use Rattle.base.specs.Memory.{View, Stores, same_cell, last_stored}
use Rattle.base.specs.Meaning.{seen}
use Rattle.kernel.specs.Machine.{with_cell}
use Rattle.regions.proofs.StatementsDone.{last_push}

pub same_cell_is : (c d : Cell) → same_cell c d ≡ true → c ≡ d
same_cell_is c d e =
    let p = and_parts (c.array.0 == d.array.0) (c.index == d.index) e in
    let a = eqb-true c.array.0 d.array.0 p.0 in
    let b = eqb-true c.index d.index p.1 in
    λ i. record { array = record { 0 = a i }; index = b i }

-- what was stored last
pub stored_more : (stores : Stores) (c : Cell) (v : ℕ) →
    with_cell (last_stored stores) c v ≡ last_stored (stores ++ (c, v) ∷ [])
stored_more stores c v = fun_ext (λ (d : Cell). sym (last_push stores c v d))

-- what is seen of a view that has the cell
pub seen_more : (view : View) (stores : Stores) (c : Cell) (v old : ℕ) → view c ≡ Some old →
    with_cell (seen view stores) c v ≡ seen view (stores ++ (c, v) ∷ [])
seen_more view stores c v old e =
    fun_ext (λ (d : Cell). go d (same_cell c d) refl
    ∙ sym (ap (λ l. option_map (λ x. unwrap_or l x) (view d)) (last_push stores c v d)))
  where
    go : (d : Cell) (b : Bool) → same_cell c d ≡ b →
        (if b then Some v else seen view stores d)
        ≡ option_map (λ x. unwrap_or (if b then Some v else last_stored stores d) x) (view d)
    go d false f = refl
    go d true f = sym (ap (λ o. option_map (λ x. unwrap_or (Some v) x) o) (sym (ap view (same_cell_is c d f)) ∙ e))
