-- No target of a program has a map item that is a `delete`.
use Rattle.std.proofs.Common.{◌≡◌, ℕ, zero, suc, ◌+◌, true, false, List, [], ◌∷◌, ◌++◌, map, Some, ap, subst}
use Rattle.std.specs.Prelude.{slice_get}
use Rattle.std.proofs.lemmas.Bool.{false≢true}
use Rattle.std.proofs.lemmas.Option.{same_Some}
use Rattle.base.specs.declared.tree.Place.{Place}
use Rattle.base.specs.declared.tree.Directive.{Directive}
use Rattle.base.specs.declared.tree.Directive.TheVariants as directive
use Rattle.base.specs.declared.tree.MapText.{MapText}
use Rattle.base.specs.declared.tree.RegionKind.{RegionKind}
use Rattle.base.specs.declared.tree.RegionKind.TheVariants as mapped
use Rattle.base.specs.declared.tree.Place.{Place}
use Rattle.base.specs.declared.tree.Region.{Region}
use Rattle.base.specs.declared.tree.Target.{Target as TargetText}
use Rattle.base.specs.declared.tree.Part.{Part, Row_of-Part, end_of-Part, more_of-Part}
use Rattle.base.specs.declared.tree.Part.TheVariants as part
use Rattle.base.specs.declared.item.ItemKind.TheVariants.{Target}
use Rattle.base.specs.declared.item.MapItem.{MapItem}
use Rattle.base.specs.declared.item.MapKind.TheVariants.{Delete}
use Rattle.base.specs.Meaning.{turns_of}
use Rattle.base.specs.Items.{Work, items_of, row_items, list_items, turned_out, alone_work, target_work, map_of, region_kind, implicit_map, implicit_maps}
use Rattle.base.specs.Accepted.{is_target}
use Rattle.mapwalk.specs.Laws.{NoDelete}

no_delete_append : (xs ys : List MapItem) → NoDelete xs → NoDelete ys → NoDelete (xs ++ ys)
no_delete_append [] ys h k = k
no_delete_append (x ∷ xs) ys h k = (h.0, no_delete_append xs ys h.1 k)

keeps_kind : (k : RegionKind) → region_kind k ≡ Delete → ⊥
keeps_kind mapped.To e = cc e
keeps_kind mapped.From e = cc e
keeps_kind mapped.ToFrom e = cc e
keeps_kind mapped.Alloc e = cc e

written_kept : (lengths loops : List ℕ) (texts : List (MapText RegionKind)) →
    NoDelete (map (map_of region_kind lengths loops) texts)
written_kept lengths loops [] = tt
written_kept lengths loops (t ∷ rest) = (keeps_kind t.kind, written_kept lengths loops rest)

unwritten_kept : (lengths : List ℕ) (place : Place) (arrays : List ℕ) → NoDelete (map (implicit_map lengths place) arrays)
unwritten_kept lengths place [] = tt
unwritten_kept lengths place (a ∷ rest) = (λ e. cc e, unwritten_kept lengths place rest)

-- a target deletes nothing
abbrev Keeps : Work → Type 0
Keeps w = is_target w.kind ≡ true → NoDelete w.maps

abbrev AllKeep : List Work → Type 0
AllKeep [] = Unit {0}
AllKeep (w ∷ rest) = Keeps w × AllKeep rest

keep_append : (xs ys : List Work) → AllKeep xs → AllKeep ys → AllKeep (xs ++ ys)
keep_append [] ys h k = k
keep_append (x ∷ xs) ys h k = (h.0, keep_append xs ys h.1 k)

other : {A : Type 0} → false ≡ true → A
other e = absurd (false≢true e)

module _ (lengths : List ℕ) where
  alone_keeps : (place : Place) (d : Directive) (loops : List ℕ) → Keeps (alone_work lengths place d loops)
  alone_keeps place (directive.Enter maps t) loops = λ e. other e
  alone_keeps place (directive.Exit maps t) loops = λ e. other e
  alone_keeps place (directive.Update maps t) loops = λ e. other e
  alone_keeps place (directive.Wait depends) loops = λ e. other e

  target_keeps : (t : TargetText) (r : Region) (loops : List ℕ) → NoDelete (target_work lengths t r loops).maps
  target_keeps t r loops =
      let written = map (map_of region_kind lengths loops) t.maps.items in
      no_delete_append written (implicit_maps lengths r written) (written_kept lengths loops t.maps.items)
      (unwritten_kept lengths r.place _)

  turns_keep : (step : ℕ) (items : ℕ → List Work) → ((v : ℕ) → AllKeep (items v)) → (n v : ℕ) →
      AllKeep (turned_out n v step items)
  turns_keep step items h zero v = tt
  turns_keep step items h (suc n) v =
      keep_append (items v) (turned_out n (v + step) step items) (h v) (turns_keep step items h n (v + step))

  mutual
    part_keeps : (p : Part) (loops : List ℕ) → AllKeep (items_of p lengths loops)
    part_keeps (part.Host r) loops = (λ e. other e, tt)
    part_keeps (part.Block' shape all) loops = row_keeps all loops
    part_keeps (part.Loop' b shape all) loops =
        turns_keep b.step (λ v. row_items all lengths (loops ++ v ∷ [])) (λ v. row_keeps all (loops ++ v ∷ []))
        (turns_of b) b.first
    part_keeps (part.Target t r) loops = (λ e. target_keeps t r loops, tt)
    part_keeps (part.Data' d shape all) loops =
        (λ e. other e, keep_append (row_items all lengths loops) _ (row_keeps all loops) (λ e. other e, tt))
    part_keeps (part.Alone place d) loops = (alone_keeps place d loops, tt)

    row_keeps : {m : _} (row : Row_of-Part m) (loops : List ℕ) → AllKeep (row_items row lengths loops)
    row_keeps end_of-Part loops = tt
    row_keeps (more_of-Part first rest) loops =
        keep_append (items_of first lengths loops) (row_items rest lengths loops) (part_keeps first loops)
        (row_keeps rest loops)

  list_keeps : (all : List Part) → AllKeep (list_items all lengths)
  list_keeps [] = tt
  list_keeps (first ∷ rest) =
      keep_append (items_of first lengths []) (list_items rest lengths) (part_keeps first []) (list_keeps rest)

keeps_at : (items : List Work) → AllKeep items → (i : ℕ) (w : Work) → slice_get items i ≡ Some w → Keeps w
keeps_at [] h i w e = absurd cc
keeps_at (x ∷ xs) h zero w e = subst Keeps (same_Some x w e) h.0
keeps_at (x ∷ xs) h (suc i) w e = keeps_at xs h.1 i w e

-- a target of a program deletes nothing
pub target_keeps_maps : (lengths : List ℕ) (all : List Part) (i : ℕ) (w : Work) → slice_get (list_items all lengths) i ≡ Some w →
    w.kind ≡ Target → NoDelete w.maps
target_keeps_maps lengths all i w e k = keeps_at (list_items all lengths) (list_keeps lengths all) i w e (ap is_target k)
