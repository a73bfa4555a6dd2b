-- The first cause that map items make.
use Rattle.std.proofs.Common.{◌≡◌, Bool, true, false, List, [], ◌∷◌, Option, Some, None, refl, sym, ap, ◌∙◌, subst}
use Rattle.std.specs.Prelude.{not, ◌&&◌, ◌||◌}
use Rattle.std.specs.List.{list_any}
use Rattle.std.proofs.lemmas.Bool.{and_right, and_from, and_left, and_parts, both_ways, false≢true}
use Rattle.base.specs.declared.item.Cell.{Cell}
use Rattle.base.specs.declared.item.ItemKind.{ItemKind}
use Rattle.base.specs.declared.item.ItemKind.TheVariants as kinds
use Rattle.base.specs.declared.fault.RefusalCode.{RefusalCode}
use Rattle.base.specs.declared.fault.RefusalCode.TheVariants.{OverlapsInPart, ExitOfAbsent, UpdateOfAbsent, NotPresent, Unmapped, HostNotCurrent, DeviceNotCurrent, TurnsMeet, Conflict}
use Rattle.base.specs.Actions.{Met}
use Rattle.base.specs.Accepted.{is_exit, is_update, names_absent}
use Rattle.mapwalk.specs.declared.seen.Seen.{Seen}
use Rattle.mapwalk.specs.Seen.{nothing, seen_all}
use Rattle.base.specs.Least.{IsLeast, lesser}
use Rattle.mapwalk.specs.Causes.{IsFirstOf, cause_at, is_absent_cell, is_less, is_missing_cell, is_part_cell, met_causes}
use Rattle.base.proofs.Leasts.{least_same, lesser_is}
use Rattle.mapwalk.proofs.Leasts.{all_noted}

pub record Noted (mets : List Met) (s : Seen) : Type 0 where
  pub part_cells : IsLeast (λ c. list_any (is_part_cell c) mets) s.in_part
  pub absent_cells : IsLeast (λ c. list_any (is_absent_cell c) mets) s.absent
  pub missing_cells : IsLeast (λ c. list_any (is_missing_cell c) mets) s.missing

pub noted : (mets : List Met) (s : Seen) → s ≡ seen_all mets nothing → Noted mets s
noted mets s e =
    let none = λ (c : Cell). false in
    let all = all_noted mets none none none nothing (λ c. refl) (λ c. refl) (λ c. refl) in
    subst (Noted mets) (sym e)
    (record { part_cells = all.part_cells; absent_cells = all.absent_cells; missing_cells = all.missing_cells })

part_none : (mets : List Met) (s : Seen) → Noted mets s → s.in_part ≡ None → (c : Cell) → list_any (is_part_cell c) mets ≡ false
part_none mets s n e = subst (IsLeast (λ c. list_any (is_part_cell c) mets)) e n.part_cells

pub part_first : (kind : ItemKind) (mets : List Met) (s : Seen) (cell : Cell) → Noted mets s → s.in_part ≡ Some cell →
    IsFirstOf (met_causes kind mets) (Some (record { code = OverlapsInPart; cell = cell }))
part_first kind mets s cell n e = (least.0, order)
  where
    least : IsLeast (λ c. list_any (is_part_cell c) mets) (Some cell)
    least = subst (IsLeast (λ c. list_any (is_part_cell c) mets)) e n.part_cells

    order : (code : RefusalCode) (c : Cell) → met_causes kind mets code c ≡ true →
        is_less code c (record { code = OverlapsInPart; cell = cell }) ≡ false
    order OverlapsInPart c h = least.1 c h
    order ExitOfAbsent c h = refl
    order UpdateOfAbsent c h = refl
    order NotPresent c h = refl
    order Unmapped c h = refl
    order HostNotCurrent c h = refl
    order DeviceNotCurrent c h = refl
    order TurnsMeet c h = refl
    order Conflict c h = refl

-- a section that is absent need not be present, or is to be
either_absent : (c : Cell) (mets : List Met) →
    (list_any (is_absent_cell c) mets || list_any (is_missing_cell c) mets) ≡ list_any (names_absent c) mets
either_absent c [] = refl
either_absent c (m ∷ mets) =
    parted m.item.present (names_absent c m) (list_any (is_absent_cell c) mets) (list_any (is_missing_cell c) mets)
    ∙ ap (λ b. names_absent c m || b) (either_absent c mets)
  where
    parted : (p a x y : Bool) → (((not p && a) || x) || ((p && a) || y)) ≡ (a || (x || y))
    parted true true true y = refl
    parted true true false y = refl
    parted true false x y = refl
    parted false true x y = refl
    parted false false x y = refl

exit_no_update : (k : ItemKind) → is_exit k ≡ true → is_update k ≡ false
exit_no_update kinds.End h = refl
exit_no_update kinds.Exit h = refl
exit_no_update kinds.Host h = absurd (false≢true h)
exit_no_update kinds.Target h = absurd (false≢true h)
exit_no_update kinds.Begin h = absurd (false≢true h)
exit_no_update kinds.Enter h = absurd (false≢true h)
exit_no_update kinds.Update h = absurd (false≢true h)
exit_no_update kinds.Wait h = absurd (false≢true h)

-- an exit of something absent
pub exit_first : (kind : ItemKind) (mets : List Met) (s : Seen) → Noted mets s → s.in_part ≡ None → is_exit kind ≡ true →
    IsFirstOf (met_causes kind mets) (cause_at ExitOfAbsent (lesser s.absent s.missing))
exit_first kind mets s n e x = go (lesser s.absent s.missing) least
  where
    least : IsLeast (λ c. list_any (names_absent c) mets) (lesser s.absent s.missing)
    least = least_same _ _ (lesser s.absent s.missing) (λ c. either_absent c mets)
        (lesser_is _ _ s.absent s.missing n.absent_cells n.missing_cells)

    other : (c : Cell) → (not (is_exit kind) && list_any (is_missing_cell c) mets) ≡ false
    other c = and_left (not (is_exit kind)) (list_any (is_missing_cell c) mets) (ap not x)

    go : (o : Option Cell) → IsLeast (λ c. list_any (names_absent c) mets) o → IsFirstOf (met_causes kind mets) (cause_at ExitOfAbsent o)
    go None h = all
      where
        all : (code : RefusalCode) (c : Cell) → met_causes kind mets code c ≡ false
        all OverlapsInPart c = part_none mets s n e c
        all ExitOfAbsent c = and_right (is_exit kind) (list_any (names_absent c) mets) (h c)
        all UpdateOfAbsent c = and_left (is_update kind) (list_any (is_absent_cell c) mets) (exit_no_update kind x)
        all NotPresent c = other c
        all Unmapped c = refl
        all HostNotCurrent c = refl
        all DeviceNotCurrent c = refl
        all TurnsMeet c = refl
        all Conflict c = refl
    go (Some cell) h = (and_from (is_exit kind) (list_any (names_absent cell) mets) x h.0, order)
      where
        order : (code : RefusalCode) (c : Cell) → met_causes kind mets code c ≡ true →
            is_less code c (record { code = ExitOfAbsent; cell = cell }) ≡ false
        order OverlapsInPart c t = absurd (both_ways (list_any (is_part_cell c) mets) (part_none mets s n e c) t)
        order ExitOfAbsent c t = h.1 c (and_parts (is_exit kind) (list_any (names_absent c) mets) t).1
        order UpdateOfAbsent c t = refl
        order NotPresent c t = refl
        order Unmapped c t = refl
        order HostNotCurrent c t = refl
        order DeviceNotCurrent c t = refl
        order TurnsMeet c t = refl
        order Conflict c t = refl

-- an update of something absent that need not be present
pub update_first : (kind : ItemKind) (mets : List Met) (s : Seen) (cell : Cell) → Noted mets s → s.in_part ≡ None →
    s.absent ≡ Some cell → is_exit kind ≡ false → is_update kind ≡ true →
    IsFirstOf (met_causes kind mets) (Some (record { code = UpdateOfAbsent; cell = cell }))
update_first kind mets s cell n e f x u = (and_from (is_update kind) (list_any (is_absent_cell cell) mets) u least.0, order)
  where
    least : IsLeast (λ c. list_any (is_absent_cell c) mets) (Some cell)
    least = subst (IsLeast (λ c. list_any (is_absent_cell c) mets)) f n.absent_cells

    order : (code : RefusalCode) (c : Cell) → met_causes kind mets code c ≡ true →
        is_less code c (record { code = UpdateOfAbsent; cell = cell }) ≡ false
    order OverlapsInPart c h = absurd (both_ways (list_any (is_part_cell c) mets) (part_none mets s n e c) h)
    order ExitOfAbsent c h =
        absurd (both_ways (is_exit kind && list_any (names_absent c) mets)
        (and_left (is_exit kind) (list_any (names_absent c) mets) x) h)
    order UpdateOfAbsent c h = least.1 c (and_parts (is_update kind) (list_any (is_absent_cell c) mets) h).1
    order NotPresent c h = refl
    order Unmapped c h = refl
    order HostNotCurrent c h = refl
    order DeviceNotCurrent c h = refl
    order TurnsMeet c h = refl
    order Conflict c h = refl

-- something is absent that is to be present, and nothing comes before
pub missing_first : (kind : ItemKind) (mets : List Met) (s : Seen) → Noted mets s → s.in_part ≡ None → is_exit kind ≡ false →
    (is_update kind ≡ true → s.absent ≡ None) → IsFirstOf (met_causes kind mets) (cause_at NotPresent s.missing)
missing_first kind mets s n e x u = go s.missing n.missing_cells
  where
    no_exit : (c : Cell) → (is_exit kind && list_any (names_absent c) mets) ≡ false
    no_exit c = and_left (is_exit kind) (list_any (names_absent c) mets) x

    no_update : (c : Cell) (b : Bool) → is_update kind ≡ b → (is_update kind && list_any (is_absent_cell c) mets) ≡ false
    no_update c false i = and_left (is_update kind) (list_any (is_absent_cell c) mets) i
    no_update c true i =
        and_right (is_update kind) (list_any (is_absent_cell c) mets)
        (subst (IsLeast (λ d. list_any (is_absent_cell d) mets)) (u i) n.absent_cells c)

    go : (o : Option Cell) → IsLeast (λ c. list_any (is_missing_cell c) mets) o → IsFirstOf (met_causes kind mets) (cause_at NotPresent o)
    go None h = all
      where
        all : (code : RefusalCode) (c : Cell) → met_causes kind mets code c ≡ false
        all OverlapsInPart c = part_none mets s n e c
        all ExitOfAbsent c = no_exit c
        all UpdateOfAbsent c = no_update c (is_update kind) refl
        all NotPresent c = and_right (not (is_exit kind)) (list_any (is_missing_cell c) mets) (h c)
        all Unmapped c = refl
        all HostNotCurrent c = refl
        all DeviceNotCurrent c = refl
        all TurnsMeet c = refl
        all Conflict c = refl
    go (Some cell) h = (and_from (not (is_exit kind)) (list_any (is_missing_cell cell) mets) (ap not x) h.0, order)
      where
        order : (code : RefusalCode) (c : Cell) → met_causes kind mets code c ≡ true →
            is_less code c (record { code = NotPresent; cell = cell }) ≡ false
        order OverlapsInPart c t = absurd (both_ways (list_any (is_part_cell c) mets) (part_none mets s n e c) t)
        order ExitOfAbsent c t = absurd (both_ways (is_exit kind && list_any (names_absent c) mets) (no_exit c) t)
        order UpdateOfAbsent c t =
            absurd (both_ways (is_update kind && list_any (is_absent_cell c) mets) (no_update c (is_update kind) refl) t)
        order NotPresent c t = h.1 c (and_parts (not (is_exit kind)) (list_any (is_missing_cell c) mets) t).1
        order Unmapped c t = refl
        order HostNotCurrent c t = refl
        order DeviceNotCurrent c t = refl
        order TurnsMeet c t = refl
        order Conflict c t = refl
