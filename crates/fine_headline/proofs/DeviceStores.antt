-- What a kernel stores all at once is what its stores, one by one, leave in the device's cells.
use Rattle.std.proofs.Common.{◌≡◌, ℕ, Bool, true, false, [], ◌∷◌, Option, Some, None, refl, sym, ◌∙◌, ap}
use Rattle.std.specs.Prelude.{is_some, option_map, unwrap_or, if◌then◌else◌}
use Rattle.std.specs.List.{list_all}
use mathlib.Core.Path.{fun_ext}
use Rattle.std.proofs.lemmas.Bool.{false≢true, and_parts}
use Rattle.std.proofs.lemmas.Option.{same_Some, none-some}
use Rattle.base.specs.declared.item.Cell.{Cell}
use Rattle.base.specs.Memory.{View, Stores, same_cell, last_stored}
use Rattle.base.specs.Meaning.{seen}
use Rattle.base.specs.Map.{Device}
use Rattle.base.specs.Machine.{store_device}
use Rattle.fine_headline.proofs.RegionReaching.{same_cells}

-- a cell in which something was stored is there
stored_there : (view : View) (stores : Stores) (c : Cell) (n : ℕ) → list_all (λ s. is_some (view s.0)) stores ≡ true →
    last_stored stores c ≡ Some n → is_some (view c) ≡ true
stored_there view [] c n h e = absurd (none-some n e)
stored_there view (s ∷ later) c n h e = go (last_stored later c) refl e (λ v k. stored_there view later c v p.1 k)
  where
    p : (is_some (view s.0) ≡ true) × (list_all (λ s. is_some (view s.0)) later ≡ true)
    p = and_parts (is_some (view s.0)) (list_all (λ s. is_some (view s.0)) later) h

    here : (b : Bool) → same_cell s.0 c ≡ b → (if b then Some s.1 else None) ≡ Some n → is_some (view c) ≡ true
    here true i k = ap (λ d. is_some (view d)) (sym (same_cells s.0 c i)) ∙ p.0
    here false i k = absurd (none-some n k)

    go : (o : Option ℕ) → last_stored later c ≡ o →
        elim o [ Some v ↦ Some v | None ↦ if same_cell s.0 c then Some s.1 else None ] ≡ Some n →
        ((v : ℕ) → last_stored later c ≡ Some v → is_some (view c) ≡ true) → is_some (view c) ≡ true
    go (Some v) i k again = again v i
    go None i k again = here (same_cell s.0 c) refl k

at_cell : (o : Option ℕ) (old : Option ℕ) → ((n : ℕ) → o ≡ Some n → is_some old ≡ true) →
    elim o [ None ↦ old | Some v ↦ Some v ] ≡ option_map (λ x. unwrap_or o x) old
at_cell None None h = refl
at_cell None (Some x) h = refl
at_cell (Some v) (Some x) h = refl
at_cell (Some v) None h = absurd (false≢true (h v refl))

pub device_stores : (stores : Stores) (d d' : Device) → store_device stores d ≡ Some d' →
    d' ≡ record d { cells = seen d.cells stores }
device_stores stores d d' h = go (list_all (λ s. is_some (d.cells s.0)) stores) refl h
  where
    all_at_once : Device
    all_at_once = record d { cells = λ c. elim (last_stored stores c) [ None ↦ d.cells c | Some v ↦ Some v ] }

    go : (b : Bool) → list_all (λ s. is_some (d.cells s.0)) stores ≡ b →
        (if b then Some (record d { cells = λ c. elim (last_stored stores c) [ None ↦ d.cells c | Some v ↦ Some v ] })
        else None) ≡ Some d' → d' ≡ record d { cells = seen d.cells stores }
    go false e k = absurd (none-some d' k)
    go true e k =
        sym (same_Some all_at_once d' k)
        ∙ ap (λ (v : View). let x : Device = record { blocks = d.blocks; cells = v } in x)
        (fun_ext (λ c. at_cell (last_stored stores c) (d.cells c) (λ n i. stored_there d.cells stores c n e i)))
