-- A region done access by access on the host memory, or on the device's cells, leaves there what it stores.
use Rattle.std.proofs.Common.{◌≡◌, ◌⊎◌, ℕ, ◌==◌, Bool, true, false, List, [], ◌∷◌, ◌++◌, Option, Some, None, refl, sym, ◌∙◌, ap, ap₂, inl, inr, subst}
use Rattle.std.specs.Prelude.{option_map, unwrap_or, if◌then◌else◌}
use mathlib.Core.Path.{fun_ext}
use Rattle.std.proofs.lemmas.Bool.{cases_Bool, and_parts, eqb-true}
use Rattle.std.proofs.lemmas.Option.{same_Some, none-some}
use Rattle.base.specs.declared.item.Cell.{Cell}
use Rattle.base.specs.declared.tree.CombineOp.{CombineOp}
use Rattle.base.specs.declared.tree.Region.{Region}
use Rattle.base.specs.Memory.{Memory, View, Scalars, Stores, same_cell, is_cell, view_of, last_stored, with_stores}
use Rattle.base.specs.Value.{combined}
use Rattle.base.specs.Meaning.{Run, seen, run_region}
use Rattle.base.specs.Map.{Memories, Fill}
use Rattle.fine_machine.specs.Left.{Left, Load, Store, Combine, OnHost, OnDevice, Answer, list_left, region_left}
use Rattle.fine_machine.specs.Action.{loaded, act, on_cell, with_host, with_device}
use Rattle.regions.proofs.StatementsDone.{last_push}
use Rattle.fine_headline.proofs.Reaching.{Reaches, bare, map_parts, list_reaches}

-- the memories after a region on either side has stored
abbrev pub stored_on_host : Memories → Stores → Memories
stored_on_host m stores = record m { host = with_stores stores m.host }

abbrev pub stored_on_device : Memories → Stores → Memories
stored_on_device m stores = record m { device = record (m.device) { cells = seen m.device.cells stores } }

pub same_cells : (c d : Cell) → same_cell c d ≡ true → c ≡ d
same_cells c d h =
    let p = and_parts (c.array.0 == d.array.0) (c.index == d.index) h in
    ap₂ (λ x y. record { array = record { 0 = x }; index = y }) (eqb-true c.array.0 d.array.0 p.0)
    (eqb-true c.index d.index p.1)

module _ (lengths : List ℕ) (fill : Fill) (m : Memories) where
  host_look : (stores : Stores) (c : Cell) (n : ℕ) → seen (view_of lengths m.host) stores c ≡ Some n →
      act lengths fill (Load OnHost c) (stored_on_host m stores) ≡ Some (loaded n, stored_on_host m stores)
  host_look stores c n h = go (is_cell lengths c) h
    where
      go : (b : Bool) →
          option_map (λ old. unwrap_or (last_stored stores c) old) (if b then Some (m.host c) else None) ≡ Some n →
          on_cell {A = Answer × Memories} b (
            loaded (unwrap_or (last_stored stores c) (m.host c)),
            stored_on_host m stores,
          ) ≡ Some (loaded n, stored_on_host m stores)
      go false e = absurd (none-some n e)
      go true e =
          ap (λ v. Some (loaded v, stored_on_host m stores))
          (same_Some (unwrap_or (last_stored stores c) (m.host c)) n e)

  host_pushed : (stores : Stores) (c : Cell) (n : ℕ) →
      with_host c n (stored_on_host m stores) ≡ stored_on_host m (stores ++ (c, n) ∷ [])
  host_pushed stores c n =
      ap (λ (h : Memory). let x : Memories = record { host = h; device = m.device } in x)
      (fun_ext (λ d. at (same_cell c d) d ∙ sym (ap (λ o. unwrap_or o (m.host d)) (last_push stores c n d))))
    where
      at : (b : Bool) (d : Cell) →
          (if b then n else unwrap_or (last_stored stores d) (m.host d)) ≡ unwrap_or
          (if b then Some n else last_stored stores d) (m.host d)
      at true d = refl
      at false d = refl

  host_put : (stores : Stores) (c : Cell) (n old : ℕ) → view_of lengths m.host c ≡ Some old →
      act lengths fill (Store OnHost c n) (stored_on_host m stores) ≡ Some
      (loaded 0, stored_on_host m (stores ++ (c, n) ∷ []))
  host_put stores c n old h = go (is_cell lengths c) h
    where
      go : (b : Bool) → (if b then Some (m.host c) else None) ≡ Some old →
          on_cell {A = Answer × Memories} b (loaded 0, with_host c n (stored_on_host m stores)) ≡ Some
          (loaded 0, stored_on_host m (stores ++ (c, n) ∷ []))
      go false e = absurd (none-some old e)
      go true e = ap (λ x. Some (loaded 0, x)) (host_pushed stores c n)

  host_update : (stores : Stores) (op : CombineOp) (c : Cell) (n old : ℕ) →
      seen (view_of lengths m.host) stores c ≡ Some old →
      act lengths fill (Combine OnHost op c n) (stored_on_host m stores) ≡ Some
      (loaded 0, stored_on_host m (stores ++ (c, combined op old n) ∷ []))
  host_update stores op c n old h = go (is_cell lengths c) h
    where
      go : (b : Bool) →
          option_map (λ old. unwrap_or (last_stored stores c) old) (if b then Some (m.host c) else None) ≡ Some old →
          on_cell {A = Answer × Memories} b (
            loaded 0,
            with_host c (combined op (unwrap_or (last_stored stores c) (m.host c)) n) (stored_on_host m stores),
          ) ≡ Some (loaded 0, stored_on_host m (stores ++ (c, combined op old n) ∷ []))
      go false e = absurd (none-some old e)
      go true e =
          ap (λ v. Some (loaded 0, with_host c (combined op v n) (stored_on_host m stores)))
          (same_Some (unwrap_or (last_stored stores c) (m.host c)) old e)
          ∙ ap (λ x. Some (loaded 0, x)) (host_pushed stores c (combined op old n))

  pub device_look : (stores : Stores) (c : Cell) (n : ℕ) → seen m.device.cells stores c ≡ Some n →
      act lengths fill (Load OnDevice c) (stored_on_device m stores) ≡ Some (loaded n, stored_on_device m stores)
  device_look stores c n h = ap (option_map (λ v. (loaded v, stored_on_device m stores))) h

  device_pushed : (stores : Stores) (c : Cell) (n old : ℕ) → m.device.cells c ≡ Some old →
      with_device c n (stored_on_device m stores) ≡ stored_on_device m (stores ++ (c, n) ∷ [])
  device_pushed stores c n old e =
      ap (λ (v : View). let x : Memories = record
      { host = m.host; device = record { blocks = m.device.blocks; cells = v } } in x)
      (fun_ext (λ d. at d (cases_Bool (same_cell c d)) ∙ sym
      (ap (λ o. option_map (λ old. unwrap_or o old) (m.device.cells d)) (last_push stores c n d))))
    where
      at : (d : Cell) → (same_cell c d ≡ true) ⊎ (same_cell c d ≡ false) →
          (if same_cell c d then Some n else seen m.device.cells stores d) ≡ option_map
          (λ old. unwrap_or (if same_cell c d then Some n else last_stored stores d) old) (m.device.cells d)
      at d (inl s) =
          ap (λ b. if b then Some n else seen m.device.cells stores d) s
          ∙ sym (ap (λ b. option_map (λ old. unwrap_or (if b then Some n else last_stored stores d) old)
          (m.device.cells d)) s
          ∙ ap (option_map (λ old. n)) (ap m.device.cells (sym (same_cells c d s)) ∙ e))
      at d (inr s) =
          ap (λ b. if b then Some n else seen m.device.cells stores d) s
          ∙ sym (ap (λ b. option_map (λ old. unwrap_or (if b then Some n else last_stored stores d) old)
          (m.device.cells d)) s)

  pub device_put : (stores : Stores) (c : Cell) (n old : ℕ) → m.device.cells c ≡ Some old →
      act lengths fill (Store OnDevice c n) (stored_on_device m stores) ≡ Some
      (loaded 0, stored_on_device m (stores ++ (c, n) ∷ []))
  device_put stores c n old e =
      ap (option_map (λ x. (loaded 0, with_device c n (stored_on_device m stores))))
      (ap (option_map (λ o. unwrap_or (last_stored stores c) o)) e)
      ∙ ap (λ x. Some (loaded 0, x)) (device_pushed stores c n old e)

  pub device_update : (stores : Stores) (op : CombineOp) (c : Cell) (n old : ℕ) →
      seen m.device.cells stores c ≡ Some old →
      act lengths fill (Combine OnDevice op c n) (stored_on_device m stores) ≡ Some
      (loaded 0, stored_on_device m (stores ++ (c, combined op old n) ∷ []))
  device_update stores op c n old e =
      let was = map_parts (λ o. unwrap_or (last_stored stores c) o) (m.device.cells c) old e in
      ap (option_map (λ old. (loaded 0, with_device c (combined op old n) (stored_on_device m stores)))) e
      ∙ ap (λ x. Some (loaded 0, x)) (device_pushed stores c (combined op old n) was.0 was.1)

  -- a host region
  pub host_reaches : (r : Region) (loops : List ℕ) (scalars : Scalars) (input : List ℕ) (t : Run) (k : Run → Left) →
      run_region r loops (view_of lengths m.host) scalars input ≡ Some t →
      Reaches lengths fill (region_left (Some r) OnHost loops
      (record { scalars = scalars; stores = []; input = input; printed = [] }) k) m (k (bare t))
      (stored_on_host m t.stores)
  host_reaches r loops scalars input t k h =
      list_reaches lengths fill OnHost (view_of lengths m.host) (stored_on_host m) host_look host_put host_update r.body.items loops
      (record { scalars = scalars; stores = []; input = input; printed = [] }) t k h

  pub nothing_stored : stored_on_device m [] ≡ m
  nothing_stored =
      ap (λ (v : View). let x : Memories = record
      { host = m.host; device = record { blocks = m.device.blocks; cells = v } } in x)
      (fun_ext (λ c. same (m.device.cells c)))
    where
      same : (o : Option ℕ) → option_map (λ old. unwrap_or None old) o ≡ o
      same None = refl
      same (Some n) = refl

  -- a kernel whose turns are in order
  pub in_order_reaches : (r : Region) (loops : List ℕ) (scalars : Scalars) (t : Run) (k : Run → Left) →
      run_region r loops m.device.cells scalars [] ≡ Some t →
      Reaches lengths fill (list_left r.body.items OnDevice loops
      (record { scalars = scalars; stores = []; input = []; printed = [] }) k) m (k (bare t))
      (stored_on_device m t.stores)
  in_order_reaches r loops scalars t k h =
      subst (λ n. Reaches lengths fill (list_left r.body.items OnDevice loops
      (record { scalars = scalars; stores = []; input = []; printed = [] }) k) n (k (bare t))
      (stored_on_device m t.stores)) nothing_stored
      (list_reaches lengths fill OnDevice m.device.cells (stored_on_device m) device_look device_put device_update r.body.items
      loops
      (record { scalars = scalars; stores = []; input = []; printed = [] }) t k h)
