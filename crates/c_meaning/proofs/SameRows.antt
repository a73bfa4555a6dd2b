-- The statements and parts which stand in a vector pass the test as those of a list do.
use Rattle.std.proofs.Common.{◌≡◌, Bool, List, refl, sym, ap, ap₂, ◌∙◌, Vec, Global}
use Rattle.std.specs.Prelude.{◌&&◌}
use Rattle.std.specs.List.{list_all}
use Rattle.std.proofs.Math.Bool.{and_assoc}
use mathlib.Core.Former.{Count}
use Rattle.base.specs.declared.tree.Expr.{Expr}
use Rattle.base.specs.declared.tree.Bounds.{Bounds}
use Rattle.base.specs.declared.tree.Data.{Data as DataText}
use Rattle.base.specs.declared.tree.Stmt.{Stmt, Block, Loop, If, Row_of-Stmt, end_of-Stmt, more_of-Stmt, items-the_row-Stmt, items_hidden-the_row-Stmt-0}
use Rattle.base.specs.declared.tree.Part.{Part, Block as PartBlock, Loop as PartLoop, Data as PartData, Row_of-Part, end_of-Part, more_of-Part, items-the_row-Part, items_hidden-the_row-Part-0}
use Rattle.base.specs.declared.tree.Part.TheVariants as part
use Rattle.c_meaning.specs.Programs.{has_types}
use Rattle.c_meaning.specs.Same.{same_in_c, same_stmt, same_stmts, same_part, same_parts}
use Rattle.base.proofs.StmtRows.{StmtRow, first_row, second_row}

same_list : (n : Count) (row : Row_of-Stmt n) → same_stmts row ≡ list_all same_stmt (items-the_row-Stmt n row)
same_list n end_of-Stmt = refl
same_list n (more_of-Stmt first rest) = ap (λ b. same_stmt first && b) (same_list _ rest)

same_row : (row : StmtRow) (all : List Stmt) → items-the_row-Stmt row.0 row.1 ≡ all →
    same_stmts row.1 ≡ list_all same_stmt all
same_row row all e = same_list row.0 row.1 ∙ ap (λ xs. list_all same_stmt xs) e

pub same_Block : (all : Vec Stmt Global) → same_stmt (Block all) ≡ list_all same_stmt all.items
same_Block all = same_row (first_row (Block all)) all.items (items_hidden-the_row-Stmt-0 all)

pub same_Loop : (b : Bounds) (all : Vec Stmt Global) →
    same_stmt (Loop b all) ≡ (has_types b && list_all same_stmt all.items)
same_Loop b all =
    ap (λ x. has_types b && x) (same_row (first_row (Loop b all)) all.items (items_hidden-the_row-Stmt-0 all))

pub same_If : (c : Expr) (all other : Vec Stmt Global) → same_stmt (If c all other)
    ≡ (same_in_c c && (list_all same_stmt all.items && list_all same_stmt other.items))
same_If c all other =
    ap₂ (λ x y. same_in_c c && (x && y))
    (same_row (first_row (If c all other)) all.items (items_hidden-the_row-Stmt-0 all))
    (same_row (second_row (If c all other)) other.items (items_hidden-the_row-Stmt-0 other))

-- what the code computes of a loop and of an `if`
pub same_in_Loop : (s : Stmt) (b : Bounds) (all : Vec Stmt Global) (xs : List Stmt) (p q : Bool) →
    s ≡ Loop b all → xs ≡ all.items → p ≡ has_types b → q ≡ list_all same_stmt xs →
    (p && q) ≡ same_stmt s
same_in_Loop s b all xs p q is xs_is p_is q_is =
    (λ i. p_is i && (q_is ∙ ap (λ ys. list_all same_stmt ys) xs_is) i)
    ∙ sym (same_Loop b all) ∙ ap (λ t. same_stmt t) (sym is)

pub same_in_If : (s : Stmt) (c : Expr) (all other : Vec Stmt Global) (xs ys : List Stmt) (p q r : Bool) →
    s ≡ If c all other → xs ≡ all.items → ys ≡ other.items →
    p ≡ same_in_c c → q ≡ list_all same_stmt xs → r ≡ list_all same_stmt ys →
    ((p && q) && r) ≡ same_stmt s
same_in_If s c all other xs ys p q r is xs_is ys_is p_is q_is r_is =
    and_assoc p q r
    ∙ (λ i. p_is i && ((q_is ∙ ap (λ zs. list_all same_stmt zs) xs_is) i
    && (r_is ∙ ap (λ zs. list_all same_stmt zs) ys_is) i))
    ∙ sym (same_If c all other) ∙ ap (λ t. same_stmt t) (sym is)

-- Parts.

abbrev PartRow : Type 0
PartRow = (n : Count) × Row_of-Part n

abbrev part_row : Part → PartRow
part_row (part.Block' _ row) = (_, row)
part_row (part.Loop' _ _ row) = (_, row)
part_row (part.Data' _ _ row) = (_, row)
part_row _ = (_, end_of-Part)

same_part_list : (n : Count) (row : Row_of-Part n) → same_parts row ≡ list_all same_part (items-the_row-Part n row)
same_part_list n end_of-Part = refl
same_part_list n (more_of-Part first rest) = ap (λ b. same_part first && b) (same_part_list _ rest)

same_part_row : (row : PartRow) (all : List Part) → items-the_row-Part row.0 row.1 ≡ all →
    same_parts row.1 ≡ list_all same_part all
same_part_row row all e = same_part_list row.0 row.1 ∙ ap (λ xs. list_all same_part xs) e

same_part_Block : (all : Vec Part Global) → same_part (PartBlock all) ≡ list_all same_part all.items
same_part_Block all = same_part_row (part_row (PartBlock all)) all.items (items_hidden-the_row-Part-0 all)

same_part_Loop : (b : Bounds) (all : Vec Part Global) →
    same_part (PartLoop b all) ≡ (has_types b && list_all same_part all.items)
same_part_Loop b all =
    ap (λ x. has_types b && x) (same_part_row (part_row (PartLoop b all)) all.items (items_hidden-the_row-Part-0 all))

same_part_Data : (d : DataText) (all : Vec Part Global) → same_part (PartData d all) ≡ list_all same_part all.items
same_part_Data d all = same_part_row (part_row (PartData d all)) all.items (items_hidden-the_row-Part-0 all)

-- what the code computes of a part
pub part_in_Block : (p : Part) (all : Vec Part Global) (xs : List Part) (q : Bool) →
    p ≡ PartBlock all → xs ≡ all.items → q ≡ list_all same_part xs →
    q ≡ same_part p
part_in_Block p all xs q is xs_is q_is =
    q_is ∙ ap (λ ys. list_all same_part ys) xs_is ∙ sym (same_part_Block all) ∙ ap (λ t. same_part t) (sym is)

pub part_in_Data : (p : Part) (d : DataText) (all : Vec Part Global) (xs : List Part) (q : Bool) →
    p ≡ PartData d all → xs ≡ all.items → q ≡ list_all same_part xs →
    q ≡ same_part p
part_in_Data p d all xs q is xs_is q_is =
    q_is ∙ ap (λ ys. list_all same_part ys) xs_is ∙ sym (same_part_Data d all) ∙ ap (λ t. same_part t) (sym is)

pub part_in_Loop : (p : Part) (b : Bounds) (all : Vec Part Global) (xs : List Part) (r q : Bool) →
    p ≡ PartLoop b all → xs ≡ all.items → r ≡ has_types b → q ≡ list_all same_part xs →
    (r && q) ≡ same_part p
part_in_Loop p b all xs r q is xs_is r_is q_is =
    (λ i. r_is i && (q_is ∙ ap (λ ys. list_all same_part ys) xs_is) i)
    ∙ sym (same_part_Loop b all) ∙ ap (λ t. same_part t) (sym is)
