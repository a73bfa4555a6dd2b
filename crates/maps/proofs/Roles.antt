-- What items do on the tables, and what the works that they show do.
use Rattle.std.proofs.Common.{◌≡◌, ◌∙◌, ℕ, List, [], ◌∷◌, Option, Some, None, map, refl, ap, option_map}
use Rattle.std.specs.Prelude.{slice_get}
use Rattle.std.proofs.lemmas.Option.{same_Some}
use Rattle.base.specs.declared.item.Event.{Event}
use Rattle.base.specs.declared.item.Item.{Item}
use Rattle.base.specs.declared.tree.Program.{Program}
use Rattle.base.specs.Items.{Work, plan}
use Rattle.outline.specs.Regions.{Entry, entries_of}
use Rattle.outline.specs.Shown.{all_shown, as_shown, shown, work_with}
use Rattle.maps.specs.Maps.{maps_bytes, role_in, role_of, run_maps_bytes}

by_entry : (i : Item) (w : Work) (o : Option Entry) → option_map (λ (e : Entry). work_with i (Some e.region)) o ≡ Some w →
    role_of i ≡ role_in w
by_entry i w None h = cc
by_entry i w (Some e) h = ap role_in (same_Some (work_with i (Some e.region)) w h)

by_region : (es : List Entry) (i : Item) (w : Work) (o : Option ℕ) →
    (elim o [
      | None ↦ Some (work_with i None)
      | Some k ↦ option_map (λ (e : Entry). work_with i (Some e.region)) (slice_get es k)
    ]) ≡ Some w → role_of i ≡ role_in w
by_region es i w None h = ap role_in (same_Some (work_with i None) w h)
by_region es i w (Some k) h = by_entry i w (slice_get es k) h

head_same : {X : Type 0} (x y : X) (xs ys : List X) → x ∷ xs ≡ y ∷ ys → x ≡ y
head_same x y xs ys h = cc

tail_same : {X : Type 0} (x y : X) (xs ys : List X) → x ∷ xs ≡ y ∷ ys → xs ≡ ys
tail_same x y xs ys h = cc

-- items do what the works do that they show
roles_same : (es : List Entry) (items : List Item) (works : List Work) → all_shown es items ≡ as_shown works →
    map role_of items ≡ map role_in works
roles_same es [] [] h = refl
roles_same es [] (w ∷ works) h = cc
roles_same es (i ∷ items) [] h = cc
roles_same es (i ∷ items) (w ∷ works) h =
    let first = by_region es i w i.region (head_same (shown es i) (Some w) (all_shown es items) (as_shown works) h) in
    let rest = roles_same es items works (tail_same (shown es i) (Some w) (all_shown es items) (as_shown works) h) in
    (λ k. first k ∷ rest k)

-- what is told of a program's items is told of its run
pub run_is : (p q : Program) (items : List Item) (history : List Event) → q ≡ p →
    all_shown (entries_of p) items ≡ as_shown (plan p).items →
    maps_bytes q (map role_of items) history ≡ run_maps_bytes p history
run_is p q items history same h =
    ap (λ r. maps_bytes r (map role_of items) history) same
    ∙ ap (λ roles. maps_bytes p roles history) (roles_same (entries_of p) items (plan p).items h)
