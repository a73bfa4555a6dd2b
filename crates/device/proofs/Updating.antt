-- An update of a section to both sides, and one to none.
use Rattle.std.proofs.Common.{◌≡◌, Bool, true, false, Some, None, refl, sym, ap, ◌∙◌, subst}
use Rattle.std.specs.Prelude.{IsSomeAnd}
use Rattle.std.proofs.lemmas.Option.{same_Some}
use Rattle.base.specs.declared.item.MapItem.{MapItem}
use Rattle.base.specs.declared.item.MapKind.TheVariants as kind
use Rattle.host_memory.specs.declared.memory.Memory.{Memory as Arrays}
use Rattle.base.specs.Map.{Device, Memories, Presence, Absent, Inside, InPart, copies_from, copies_to, copy_in, copy_out, presence, update, when}
use Rattle.base.proofs.Moves.{update_absent, update_at, update_missing}
use Rattle.host_memory.specs.Arrays.{memory_of}
use Rattle.present.specs.declared.Table.{Table}
use Rattle.present.specs.Table.{Are, Does, Fails, Shows, item_to, item_from, memories}
use Rattle.present.proofs.SameHost.{same_host}
use Rattle.device.specs.Moves.{Leads}

pub is_updated : (item : MapItem) (m : Memories) (q : Presence) → presence m.device.blocks item.section ≡ q →
    update item m ≡ update_at item m q
is_updated item m q e = rw (e, update) refl

known : (x m : Memories) (h : Arrays) (t : Table) → Some x ≡ Some m → Are h t x → Are h t m
known x m h t e a = subst (Are h t) (same_Some x m e) a

module _ (item : MapItem) (t t' : Table) (h k : Arrays) (same : memory_of k ≡ memory_of h)
    (first : Does (update (item_to item.section)) t h t' k) where
  -- the host shows what it showed
  pub done_first : Does (update (item_to item.section)) t h t' h
  done_first d shown = same_host (update (item_to item.section) (memories h d)) k h t' (sym same) (first d shown)

  pub done_second : (t'' : Table) (h' : Arrays) → Does (update (item_from item.section)) t' k t'' h' →
      Does (update (item_from item.section)) t' h t'' h'
  done_second t'' h' second d shown =
      subst (λ x. IsSomeAnd (update (item_from item.section) (record { host = x; device = d })) (Are h' t'')) same
      (second d shown)

  pub fails_second : Fails (update (item_from item.section)) t' k → Fails (update (item_from item.section)) t' h
  fails_second fails d shown =
      subst (λ x. update (item_from item.section) (record { host = x; device = d }) ≡ None) same (fails d shown)

pub both_ways : (item : MapItem) → item.kind ≡ kind.ToFrom → (t t' t'' : Table) (h h' : Arrays) →
    Does (update (item_to item.section)) t h t' h → Does (update (item_from item.section)) t' h t'' h' →
    Leads (update item) t h t'' h'
both_ways item is t t' t'' h h' first second d m shown e = go (presence d.blocks item.section) refl
  where
    absent : presence d.blocks item.section ≡ Absent → (p : Bool) → item.present ≡ p → Are h' t'' m
    absent k true p = absurd (let bad : None ≡ Some m = sym (update_missing item (memories h d) k p) ∙ e in cc)
    absent k false p =
        let a = subst (λ o. IsSomeAnd o (Are h t')) (is_updated (item_to item.section) (memories h d) Absent k) (first d shown) in
        let b = subst (λ o. IsSomeAnd o (Are h' t'')) (is_updated (item_from item.section) (memories h d) Absent k) (second d a.shown) in
        known (memories h d) m h' t'' (sym (update_absent item (memories h d) k p) ∙ e) b

    go : (q : Presence) → presence d.blocks item.section ≡ q → Are h' t'' m
    go Absent k = absent k item.present refl
    go (Inside x) k =
        let one = copy_in item.section (memories h d) in
        let a = subst (λ o. IsSomeAnd o (Are h t')) (is_updated (item_to item.section) (memories h d) (Inside x) k) (first d shown) in
        let b = subst (λ o. IsSomeAnd o (Are h' t'')) (is_updated (item_from item.section) one (Inside x) k) (second one.device a.shown) in
        known (copy_out item.section one) m h' t''
        (sym (is_updated item (memories h d) (Inside x) k
        ∙ ap (λ y. Some (when (copies_from y) (copy_out item.section) (when (copies_to y) (copy_in item.section) (memories h d)))) is) ∙ e) b
    go InPart k = absurd (let bad : None ≡ Some m = sym (is_updated item (memories h d) InPart k) ∙ e in cc)

-- where a copy to the device does not fail, one back does not
pub never_back : (item : MapItem) → (t t' : Table) (h : Arrays) → Does (update (item_to item.section)) t h t' h →
    Fails (update (item_from item.section)) t' h → (d : Device) → Shows t d → ⊥
never_back item t t' h first fails d shown = go (presence d.blocks item.section) refl
  where
    go : (q : Presence) → presence d.blocks item.section ≡ q → ⊥
    go Absent k =
        let a = subst (λ o. IsSomeAnd o (Are h t')) (is_updated (item_to item.section) (memories h d) Absent k) (first d shown) in
        let bad : Some (memories h d) ≡ None = sym (is_updated (item_from item.section) (memories h d) Absent k) ∙ fails d a.shown in
        cc
    go (Inside x) k =
        let one = copy_in item.section (memories h d) in
        let a = subst (λ o. IsSomeAnd o (Are h t')) (is_updated (item_to item.section) (memories h d) (Inside x) k) (first d shown) in
        let bad : Some (copy_out item.section one) ≡ None =
        sym (is_updated (item_from item.section) one (Inside x) k) ∙ fails one.device a.shown in
        cc
    go InPart k = subst (λ o. IsSomeAnd o (Are h t')) (is_updated (item_to item.section) (memories h d) InPart k) (first d shown)

pub no_way : (item : MapItem) → copies_from item.kind ≡ false → copies_to item.kind ≡ false → (t : Table) (h : Arrays) →
    Leads (update item) t h t h
no_way item f g t h d m shown e = go (presence d.blocks item.section) refl
  where
    here : Are h t (memories h d)
    here = record { host = refl; shown = shown }

    absent : presence d.blocks item.section ≡ Absent → (p : Bool) → item.present ≡ p → Are h t m
    absent k true p = absurd (let bad : None ≡ Some m = sym (update_missing item (memories h d) k p) ∙ e in cc)
    absent k false p = known (memories h d) m h t (sym (update_absent item (memories h d) k p) ∙ e) here

    go : (q : Presence) → presence d.blocks item.section ≡ q → Are h t m
    go Absent k = absent k item.present refl
    go (Inside b) k =
        known (memories h d) m h t
        (sym (is_updated item (memories h d) (Inside b) k
        ∙ ap (λ y. Some (when y (copy_out item.section) (when (copies_to item.kind) (copy_in item.section) (memories h d)))) f
        ∙ ap (λ y. Some (when y (copy_in item.section) (memories h d))) g) ∙ e) here
    go InPart k = absurd (let bad : None ≡ Some m = sym (is_updated item (memories h d) InPart k) ∙ e in cc)
