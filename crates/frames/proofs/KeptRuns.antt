-- What is kept of a run, as its stores in the two memories.
use Rattle.std.proofs.Common.{◌≡◌, ℕ, Bool, true, false, [], ◌∷◌, Option, Some, None, refl, sym, ap, ◌∙◌, true≢false}
use Rattle.std.specs.Prelude.{is_some, option_map, unwrap_or}
use Rattle.std.specs.List.{list_all}
use Rattle.std.proofs.lemmas.Bool.{and_parts, cond-true, cond-false}
use mathlib.Core.Path.{fun_ext}
use Rattle.base.specs.declared.item.Cell.{Cell}
use Rattle.base.specs.Memory.{Stores, View, last_stored}
use Rattle.base.specs.Map.{Device}
use Rattle.base.specs.Machine.{store_device}
use Rattle.kernel.specs.Kept.{Kept, kept_of}
use Rattle.present.specs.Rows.{with_numbers}
use Rattle.regions.specs.Footprints.{StoresIn}
use Rattle.frames.specs.Laws.{KeptLeaves}
use Rattle.frames.specs.Views.{with_stored}
use Rattle.frames.proofs.TouchedCells.{last_in}

stores_in : (p : Cell → Bool) (stores : Stores) → list_all (λ (s : Cell × ℕ). p s.0) stores ≡ true → StoresIn p stores
stores_in p [] h = tt
stores_in p (s ∷ rest) h =
    let q = and_parts (p s.0) (list_all (λ (s : Cell × ℕ). p s.0) rest) h in
    record { here = q.0; rest = stores_in p rest q.1 }

-- the cells after stores in a device
abbrev cells_after : Stores → View → View
cells_after stores cells c = elim (last_stored stores c) [ None ↦ cells c | Some v ↦ Some v ]

stored_is : (stores : Stores) (d after : Device) → store_device stores d ≡ Some after →
    with_numbers (last_stored stores) d ≡ after
stored_is stores d after h = go (list_all (λ (s : Cell × ℕ). is_some (d.cells s.0)) stores) refl
  where
    at : StoresIn (λ x. is_some (d.cells x)) stores → (c : Cell) (o p : Option ℕ) → last_stored stores c ≡ o →
        d.cells c ≡ p → option_map (λ old. unwrap_or o old) p ≡ elim o [ None ↦ p | Some v ↦ Some v ]
    at k c None None e f = refl
    at k c None (Some x) e f = refl
    at k c (Some v) None e f =
        absurd (true≢false (sym (last_in (λ x. is_some (d.cells x)) stores k c v e) ∙ ap is_some f))
    at k c (Some v) (Some x) e f = refl

    go : (t : Bool) → list_all (λ (s : Cell × ℕ). is_some (d.cells s.0)) stores ≡ t →
        with_numbers (last_stored stores) d ≡ after
    go true t =
        let k = stores_in (λ x. is_some (d.cells x)) stores t in
        let f : ◌≡◌ {A = Option Device} (Some (record { blocks = d.blocks; cells = cells_after stores d.cells })) (Some after) =
        sym (cond-true (list_all (λ (s : Cell × ℕ). is_some (d.cells s.0)) stores) _ None t) ∙ h in
        let same : record { blocks = d.blocks; cells = cells_after stores d.cells } ≡ after = cc f in
        (λ i. record {
          blocks = d.blocks;
          cells = fun_ext (λ (c : Cell). at k c (last_stored stores c) (d.cells c) refl refl) i;
        }) ∙ same
    go false t =
        absurd (cc (sym (cond-false (list_all (λ (s : Cell × ℕ). is_some (d.cells s.0)) stores)
        (Some (record { blocks = d.blocks; cells = cells_after stores d.cells })) None t) ∙ h))

pub kept_leaves : KeptLeaves
kept_leaves run k h =
    let same : kept_of run ≡ k = cc h in
    record {
      scalars = ap (λ (x : Kept). x.scalars) same;
      input = ap (λ (x : Kept). x.input) same;
      printed = ap (λ (x : Kept). x.printed) same;
      host = λ memory. ap (λ (x : Kept). with_stored x.stored memory) same;
      device = λ d after e. ap (λ (x : Kept). with_numbers x.stored d) (sym same) ∙ stored_is run.stores d after e;
    }
