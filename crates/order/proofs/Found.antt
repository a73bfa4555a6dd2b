-- The clashes of items by their numbers.
use Rattle.std.proofs.Common.{◌≡◌, ℕ, ◌+◌, ◌<◌, true, List, [], ◌∷◌, length, get_or, refl, sym, ap, ap₂, ◌∙◌, Option, Some, None, arith, ⊎_elim}
use Rattle.std.specs.Prelude.{slice_get, ◌==◌}
use Rattle.std.proofs.lemmas.Bool.{cases_eq, eqb-true}
use Rattle.std.proofs.lemmas.List.{nil_from_length}
use Rattle.std.proofs.lemmas.Option.{slice_get-get_or}
use Rattle.base.specs.declared.item.Cell.{Cell}
use Rattle.base.specs.declared.item.Depend.{Depend}
use Rattle.base.specs.declared.item.Item.{Item}
use Rattle.order.specs.Clashes.{clash_at, least_clash, least_of_all, NoneBelow}

abbrev pub clash_in : Option Item → Option Item → Option Cell
clash_in o p = elim o [
  | None ↦ None
  | Some earlier ↦ elim p [ None ↦ None | Some later ↦ least_clash earlier.depends.items later.depends.items ]
]

-- of two items that are read
pub clash_read : (its : List Item) (i j : ℕ) (a b : Item) (ds es : List Depend) → i < length its → j < length its →
    ds ≡ (get_or its i a).depends.items → es ≡ (get_or its j b).depends.items →
    clash_at its i j ≡ least_clash ds es
clash_read its i j a b ds es p q e f =
    ap₂ clash_in (slice_get-get_or its i a p) (slice_get-get_or its j b q) ∙ sym (ap₂ least_clash e f)

nothing_least : (ds : List Depend) → least_of_all ds [] None ≡ None
nothing_least [] = refl
nothing_least (d ∷ ds) = nothing_least ds

nothing_in : (o p : Option Item) (b : Item) → p ≡ Some b → b.depends.items ≡ [] → clash_in o p ≡ None
nothing_in None p b e f = refl
nothing_in (Some a) p b e f =
    ap (clash_in (Some a)) e ∙ ap (least_clash a.depends.items) f ∙ nothing_least a.depends.items

-- an item with no depend item clashes with none
pub nothing_asked : (its : List Item) (j : ℕ) (b : Item) → j < length its →
    (length (get_or its j b).depends.items == 0) ≡ true → (k : ℕ) → clash_at its k j ≡ None
nothing_asked its j b lt e k = nothing_in (slice_get its k) (slice_get its j) (get_or its j b) (slice_get-get_or its j b lt)
    (nil_from_length (get_or its j b).depends.items (eqb-true (length (get_or its j b).depends.items) 0 e))

-- one item more
pub none_more : (its : List Item) (i j : ℕ) → NoneBelow its i j → clash_at its i j ≡ None → NoneBelow its (i + 1) j
none_more its i j h e k lt = ⊎_elim
    (λ (same : k ≡ i). ap (λ m. clash_at its m j) same ∙ e) (λ other. h k (omega (arith, other))) (cases_eq k i)
