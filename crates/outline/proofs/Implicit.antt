-- The implicit map items of a target.
use Rattle.std.proofs.Common.{◌≡◌, ℕ, Bool, true, false, not, List, [], ◌∷◌, map, length, Option, Some, None, refl, sym, ap, ◌∙◌}
use Rattle.std.specs.Prelude.{◌&&◌, ◌||◌, ◌==◌}
use Rattle.std.specs.List.{list_any, filter, range_with_len}
use mathlib.Core.Path.{fun_ext}
use Rattle.base.specs.declared.item.MapItem.{MapItem}
use Rattle.base.specs.declared.tree.ArrayId.{ArrayId}
use Rattle.base.specs.declared.tree.Bound.{Bound}
use Rattle.base.specs.declared.tree.MapText.{MapText}
use Rattle.base.specs.declared.tree.Place.{Place}
use Rattle.base.specs.declared.tree.Region.{Region}
use Rattle.base.specs.declared.tree.RegionKind.{RegionKind}
use Rattle.base.specs.Items.{section_of, region_kind, map_of, implicit_map, implicit_maps}
use Rattle.outline.specs.Captures.{is_used, array_id, arrays_of}
use Rattle.outline.specs.Walk.{is_named, implicit_of}

array_kept : (lengths loops : List ℕ) (a : ArrayId) (p : Place) (b : Option (Bound × Bound)) →
    (section_of lengths loops (record { array = a; bounds = b; place = p })).array ≡ a
array_kept lengths loops a p None = refl
array_kept lengths loops a p (Some b) = refl

-- a map item names the array that its text names
named_same : (lengths loops : List ℕ) (texts : List (MapText RegionKind)) (a : ℕ) →
    is_named texts a ≡ list_any (λ m. a == m.section.array.0) (map (map_of region_kind lengths loops) texts)
named_same lengths loops [] a = refl
named_same lengths loops (t ∷ texts) a =
    (λ i. (a == (sym (array_kept lengths loops t.section.array t.section.place t.section.bounds) i).0)
    || named_same lengths loops texts a i)

module _ (f : ℕ → MapItem) (p q : ℕ → Bool) where
  abbrev used : List ℕ → List ArrayId
  used xs = filter (λ (a : ArrayId). p a.0) (map array_id xs)

  abbrev kept : List ℕ → List MapItem
  kept xs = map (λ (a : ArrayId). f a.0) (filter (λ (a : ArrayId). not (q a.0)) (used xs))

  abbrev wanted : List ℕ → List MapItem
  wanted xs = map f (filter (λ a. p a && not (q a)) xs)

  one_more : (x : ℕ) (xs : List ℕ) (b c : Bool) → p x ≡ b → q x ≡ c → kept xs ≡ wanted xs →
      kept (x ∷ xs) ≡ wanted (x ∷ xs)
  one_more x xs false c is_used is_named same = rw is_used same
  one_more x xs true true is_used is_named same = rw (is_used, is_named) same
  one_more x xs true false is_used is_named same = rw (is_used, is_named) (ap (λ ms. f x ∷ ms) same)

  kept_is_wanted : (xs : List ℕ) → kept xs ≡ wanted xs
  kept_is_wanted [] = refl
  kept_is_wanted (x ∷ xs) = one_more x xs (p x) (q x) refl refl (kept_is_wanted xs)

-- the arrays that a region uses and no text names
pub implicit_is : (lengths loops : List ℕ) (r : Region) (texts : List (MapText RegionKind)) (arrays : List ArrayId)
    (n : ℕ) →
    n ≡ length lengths → arrays ≡ arrays_of n r →
    implicit_of lengths r.place texts arrays ≡ implicit_maps lengths r (map (map_of region_kind lengths loops) texts)
implicit_is lengths loops r texts arrays n n_is arrays_is =
    ap (λ xs. implicit_of lengths r.place texts xs) (arrays_is ∙ ap (λ m. arrays_of m r) n_is)
    ∙ kept_is_wanted (implicit_map lengths r.place) (is_used r) (is_named texts) (range_with_len 0 (length lengths))
    ∙ ap (λ (q : ℕ → Bool). map (implicit_map lengths r.place) (filter (λ a. is_used r a && not (q a))
    (range_with_len 0 (length lengths))))
    (fun_ext (λ a. named_same lengths loops texts a))
