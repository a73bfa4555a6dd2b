-- The regions of parts that stand in a vector.
use Rattle.std.proofs.Common.{◌≡◌, ℕ, ◌+◌, List, ◌++◌, map, refl, sym, ap, ◌∙◌, Vec, Global}
use Rattle.std.proofs.lemmas.List.Sums.{sum_by-cons}
use mathlib.Core.Former.{Count}
use Rattle.base.specs.declared.tree.Bounds.{Bounds}
use Rattle.base.specs.declared.tree.Data.{Data as DataText}
use Rattle.base.specs.declared.tree.Part.{Part, Block, Loop, Data, Row_of-Part, end_of-Part, more_of-Part, items-the_row-Part, items_hidden-the_row-Part-0}
use Rattle.outline.specs.Regions.{Entry, StandAt, part_entries, row_entries, list_entries}
use Rattle.outline.specs.Walk.{part_regions, row_regions, list_regions}
use Rattle.outline.proofs.Stands.{stand_is}
use Rattle.outline.proofs.Rows.{PartRow, part_row}

entries_list : (s a : ℕ) (n : Count) (row : Row_of-Part n) → row_entries s a row
    ≡ list_entries s a (items-the_row-Part n row)
entries_list s a n end_of-Part = refl
entries_list s a n (more_of-Part first rest) = ap (λ es. part_entries s a first ++ es) (entries_list s a _ rest)

entries_row : (s a : ℕ) (row : PartRow) (all : List Part) → items-the_row-Part row.0 row.1 ≡ all →
    row_entries s a row.1 ≡ list_entries s a all
entries_row s a row all e = entries_list s a row.0 row.1 ∙ ap (λ xs. list_entries s a xs) e

pub entries_Block : (s a : ℕ) (all : Vec Part Global) → part_entries s a (Block all) ≡ list_entries s a all.items
entries_Block s a all = entries_row s a (part_row (Block all)) all.items (items_hidden-the_row-Part-0 all)

pub entries_Loop : (s a : ℕ) (b : Bounds) (all : Vec Part Global) → part_entries s a (Loop b all)
    ≡ list_entries s a all.items
entries_Loop s a b all = entries_row s a (part_row (Loop b all)) all.items (items_hidden-the_row-Part-0 all)

pub entries_Data : (s a : ℕ) (d : DataText) (all : Vec Part Global) →
    part_entries s a (Data d all) ≡ list_entries s a all.items
entries_Data s a d all = entries_row s a (part_row (Data d all)) all.items (items_hidden-the_row-Part-0 all)

-- a part's regions were added
pub added_Loop : {E : Type 0} (f : E → Entry) (s a : ℕ) (p : Part) (b : Bounds) (all : Vec Part Global) (xs : List Part)
    (old new : List E) → p ≡ Loop b all → xs ≡ all.items → map f new ≡ map f old ++ list_entries s a xs →
    map f new ≡ map f old ++ part_entries s a p
added_Loop f s a p b all xs old new is xs_is added =
    added
    ∙ ap (λ ys. map f old ++ list_entries s a ys) xs_is
    ∙ ap (λ es. map f old ++ es) (sym (entries_Loop s a b all) ∙ ap (λ q. part_entries s a q) (sym is))

pub added_Data : {E : Type 0} (f : E → Entry) (s a : ℕ) (p : Part) (d : DataText)
    (all : Vec Part Global) (xs : List Part) (old new : List E) → p ≡ Data d all → xs ≡ all.items →
    map f new ≡ map f old ++ list_entries s a xs → map f new ≡ map f old ++ part_entries s a p
added_Data f s a p d all xs old new is xs_is added =
    added
    ∙ ap (λ ys. map f old ++ list_entries s a ys) xs_is
    ∙ ap (λ es. map f old ++ es) (sym (entries_Data s a d all) ∙ ap (λ q. part_entries s a q) (sym is))

-- how many regions

regions_list : (n : Count) (row : Row_of-Part n) → row_regions row ≡ list_regions (items-the_row-Part n row)
regions_list n end_of-Part = refl
regions_list n (more_of-Part first rest) =
    ap (λ m. part_regions first + m) (regions_list _ rest)
    ∙ sym (sum_by-cons part_regions first (items-the_row-Part _ rest))

regions_row : (row : PartRow) (all : List Part) → items-the_row-Part row.0 row.1 ≡ all → row_regions row.1
    ≡ list_regions all
regions_row row all e = regions_list row.0 row.1 ∙ ap (λ xs. list_regions xs) e

pub regions_Block : (all : Vec Part Global) → part_regions (Block all) ≡ list_regions all.items
regions_Block all = regions_row (part_row (Block all)) all.items (items_hidden-the_row-Part-0 all)

pub regions_Loop : (b : Bounds) (all : Vec Part Global) → part_regions (Loop b all) ≡ list_regions all.items
regions_Loop b all = regions_row (part_row (Loop b all)) all.items (items_hidden-the_row-Part-0 all)

pub regions_Data : (d : DataText) (all : Vec Part Global) →
    part_regions (Data d all) ≡ list_regions all.items
regions_Data d all = regions_row (part_row (Data d all)) all.items (items_hidden-the_row-Part-0 all)

-- A part's regions stand where those of its parts stand.

pub stands_Block : (es : List Entry) (k s a : ℕ) (p : Part) (all : Vec Part Global) (xs : List Part) →
    p ≡ Block all → xs ≡ all.items → StandAt es k (part_entries s a p) → StandAt es k (list_entries s a xs)
stands_Block es k s a p all xs is xs_is =
    stand_is es k _ _
    (ap (λ q. part_entries s a q) is ∙ entries_Block s a all ∙ ap (λ ys. list_entries s a ys) (sym xs_is))

pub stands_Loop : (es : List Entry) (k s a : ℕ) (p : Part) (b : Bounds) (all : Vec Part Global) (xs : List Part) →
    p ≡ Loop b all → xs ≡ all.items → StandAt es k (part_entries s a p) → StandAt es k (list_entries s a xs)
stands_Loop es k s a p b all xs is xs_is =
    stand_is es k _ _
    (ap (λ q. part_entries s a q) is ∙ entries_Loop s a b all ∙ ap (λ ys. list_entries s a ys) (sym xs_is))

pub stands_Data : (es : List Entry) (k s a : ℕ) (p : Part) (d : DataText)
    (all : Vec Part Global) (xs : List Part) → p ≡ Data d all → xs ≡ all.items →
    StandAt es k (part_entries s a p) → StandAt es k (list_entries s a xs)
stands_Data es k s a p d all xs is xs_is =
    stand_is es k _ _
    (ap (λ q. part_entries s a q) is ∙ entries_Data s a d all ∙ ap (λ ys. list_entries s a ys) (sym xs_is))
