-- What the walk adds.
use Rattle.std.proofs.Common.{◌≡◌, ℕ, ◌+◌, ◌<◌, List, [], ◌∷◌, ◌++◌, length, take, get_or, Some, refl, sym, ap, ◌∙◌, append_assoc, append-nil, Vec, Global}
use Rattle.std.proofs.lemmas.List.{map-append, take_more}
use Rattle.std.proofs.lemmas.Grind.{flat_map-append}
use mathlib.Core.Former.{Count}
use mathlib.Core.Path.{fun_ext}
use Rattle.base.specs.declared.item.Item.{Item}
use Rattle.base.specs.declared.item.ItemKind.TheVariants.{Begin, End}
use Rattle.base.specs.declared.tree.Bounds.{Bounds}
use Rattle.base.specs.declared.tree.Data.{Data as DataText}
use Rattle.base.specs.declared.tree.Part.{Part, Block, Loop, Data, Row_of-Part, end_of-Part, more_of-Part, items-the_row-Part, items_hidden-the_row-Part-0}
use Rattle.base.specs.Meaning.{turns_of}
use Rattle.base.specs.Items.{Work, items_of, row_items, turned_out, data_work}
use Rattle.outline.specs.Parts.{parts_items, turns_items}
use Rattle.outline.specs.Regions.{Entry}
use Rattle.outline.specs.Shown.{shown, all_shown, as_shown}
use Rattle.outline.specs.Walk.{Added}
use Rattle.outline.proofs.Rows.{PartRow, part_row}

-- Items of parts in a vector.

items_list : (lengths loops : List ℕ) (n : Count) (row : Row_of-Part n) →
    row_items row lengths loops ≡ parts_items (items-the_row-Part n row) lengths loops
items_list lengths loops n end_of-Part = refl
items_list lengths loops n (more_of-Part first rest) =
    ap (λ ws. items_of first lengths loops ++ ws) (items_list lengths loops _ rest)

items_row : (lengths loops : List ℕ) (row : PartRow) (all : List Part) → items-the_row-Part row.0 row.1 ≡ all →
    row_items row.1 lengths loops ≡ parts_items all lengths loops
items_row lengths loops row all e = items_list lengths loops row.0 row.1 ∙ ap (λ xs. parts_items xs lengths loops) e

items_Block : (all : Vec Part Global) (lengths loops : List ℕ) →
    items_of (Block all) lengths loops ≡ parts_items all.items lengths loops
items_Block all lengths loops = items_row lengths loops (part_row (Block all)) all.items (items_hidden-the_row-Part-0 all)

items_Loop : (b : Bounds) (all : Vec Part Global) (lengths loops : List ℕ) →
    items_of (Loop b all) lengths loops ≡ turns_items b.first b all.items lengths loops
items_Loop b all lengths loops =
    ap (λ f. turned_out (turns_of b) b.first b.step f)
    (fun_ext (λ v. items_row lengths (loops ++ v ∷ [])
    (part_row (Loop b all)) all.items (items_hidden-the_row-Part-0 all)))

items_Data : (d : DataText) (all : Vec Part Global) (lengths loops : List ℕ) →
    items_of (Data d all) lengths loops
    ≡ data_work Begin lengths d loops ∷ (parts_items all.items lengths loops
    ++ data_work End lengths d loops ∷ [])
items_Data d all lengths loops =
    ap (λ ws. data_work Begin lengths d loops ∷ (ws ++ data_work End lengths d loops ∷ []))
    (items_row lengths loops (part_row (Data d all)) all.items (items_hidden-the_row-Part-0 all))

-- Adding one after another.

pub added_none : (es : List Entry) (old : List Item) → Added es old old []
added_none es old = sym (append-nil (all_shown es old))

pub added_is : (es : List Entry) (old new : List Item) (ws vs : List Work) → ws ≡ vs → Added es old new ws →
    Added es old new vs
added_is es old new ws vs e h = h ∙ ap (λ us. all_shown es old ++ as_shown us) e

pub added_then : (es : List Entry) (old mid new : List Item) (ws vs : List Work) →
    Added es old mid ws → Added es mid new vs → Added es old new (ws ++ vs)
added_then es old mid new ws vs h k =
    k ∙ ap (λ xs. xs ++ as_shown vs) h ∙ append_assoc (all_shown es old) (as_shown ws) (as_shown vs)
    ∙ ap (λ xs. all_shown es old ++ xs) (sym (map-append (λ w. Some w) ws vs))

pub added_one : (es : List Entry) (old new : List Item) (i : Item) (w : Work) → new ≡ old ++ i ∷ [] → shown es i
    ≡ Some w →
    Added es old new (w ∷ [])
added_one es old new i w new_is is =
    ap (λ xs. all_shown es xs) new_is ∙ map-append (shown es) old (i ∷ []) ∙ ap (λ o. all_shown es old ++ o ∷ []) is

pub added_Block : (es : List Entry) (old new : List Item) (p : Part) (all : Vec Part Global) (xs : List Part)
    (lengths loops : List ℕ) → p ≡ Block all → xs ≡ all.items →
    Added es old new (parts_items xs lengths loops) → Added es old new (items_of p lengths loops)
added_Block es old new p all xs lengths loops is xs_is =
    added_is es old new _ _
    (ap (λ ys. parts_items ys lengths loops) xs_is ∙ sym (items_Block all lengths loops)
    ∙ ap (λ q. items_of q lengths loops) (sym is))

pub added_Loop : (es : List Entry) (old new : List Item) (p : Part) (b : Bounds) (all : Vec Part Global)
    (xs : List Part)
    (lengths loops : List ℕ) → p ≡ Loop b all → xs ≡ all.items →
    Added es old new (turns_items b.first b xs lengths loops) → Added es old new (items_of p lengths loops)
added_Loop es old new p b all xs lengths loops is xs_is =
    added_is es old new _ _
    (ap (λ ys. turns_items b.first b ys lengths loops) xs_is ∙ sym (items_Loop b all lengths loops)
    ∙ ap (λ q. items_of q lengths loops) (sym is))

pub added_Data : (es : List Entry) (old opened mid new : List Item) (p : Part) (d : DataText) (all : Vec Part Global)
    (xs : List Part) (i j : Item) (lengths loops held left : List ℕ) →
    p ≡ Data d all → xs ≡ all.items → held ≡ loops → left ≡ loops →
    opened ≡ old ++ i ∷ [] → shown es i ≡ Some (data_work Begin lengths d held) →
    Added es opened mid (parts_items xs lengths loops) →
    new ≡ mid ++ j ∷ [] → shown es j ≡ Some (data_work End lengths d left) →
    Added es old new (items_of p lengths loops)
added_Data es old opened mid new p d all xs i j lengths loops held left is xs_is held_is left_is opened_is i_is mid_is
    new_is j_is =
    added_is es old new _ _
    ((λ t. data_work Begin lengths d (held_is t) ∷ (parts_items (xs_is t) lengths loops
    ++ data_work End lengths d (left_is t) ∷ []))
    ∙ sym (items_Data d all lengths loops) ∙ ap (λ q. items_of q lengths loops) (sym is))
    (added_then es old opened new (data_work Begin lengths d held ∷ []) (parts_items xs lengths loops
    ++ data_work End lengths d left ∷ [])
    (added_one es old opened i _ opened_is i_is)
    (added_then es opened mid new (parts_items xs lengths loops) (data_work End lengths d left ∷ []) mid_is
    (added_one es mid new j _ new_is j_is)))

-- the next part was added
pub added_next : (es : List Entry) (old mid new : List Item) (parts : List Part) (k : ℕ) (p : Part)
    (lengths loops held : List ℕ) → k < length parts → p ≡ get_or parts k p → held ≡ loops →
    Added es old mid (parts_items (take k parts) lengths loops) → Added es mid new (items_of p lengths held) →
    Added es old new (parts_items (take (k + 1) parts) lengths loops)
added_next es old mid new parts k p lengths loops held within is held_is before here =
    added_is es old new _ _
    (ap (λ ls. parts_items (take k parts) lengths loops ++ items_of p lengths ls) held_is
    ∙ ap (λ ws. parts_items (take k parts) lengths loops ++ ws) (sym (append-nil (items_of p lengths loops)))
    ∙ ap (λ q. parts_items (take k parts) lengths loops ++ (items_of q lengths loops ++ [])) is
    ∙ sym (flat_map-append (λ q. items_of q lengths loops) (take k parts) (get_or parts k p ∷ []))
    ∙ ap (λ xs. parts_items xs lengths loops) (sym (take_more parts k p within)))
    (added_then es old mid new _ _ before here)
