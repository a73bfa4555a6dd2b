-- The touches of statements that stand in a vector.
use Rattle.std.proofs.Common.{◌≡◌, ℕ, Bool, List, [], ◌∷◌, ◌++◌, refl, ap, ap₂, ◌∙◌, Vec, Global}
use Rattle.std.specs.Prelude.{◌&&◌}
use mathlib.Core.Former.{Count}
use mathlib.Core.Path.{fun_ext}
use Rattle.base.specs.declared.tree.Expr.{Expr}
use Rattle.base.specs.declared.tree.Bounds.{Bounds}
use Rattle.base.specs.declared.tree.Stmt.{Stmt, Block, Loop, If, Row_of-Stmt, end_of-Stmt, more_of-Stmt, items-the_row-Stmt, items_hidden-the_row-Stmt-0}
use Rattle.base.proofs.StmtRows.{first_row, second_row}
use Rattle.base.specs.Meaning.{turns_of}
use Rattle.base.specs.Interval.{interval, is_known_zero, is_known_nonzero}
use Rattle.base.specs.Footprint.{expr_touches, stmt_touches, row_touches, turns_touch, unless}
use Rattle.ranges.specs.Seen.{list_touches, turns_from}

row_is_list : (n : Count) (row : Row_of-Stmt n) (loops : List ℕ) (certain : Bool) →
    row_touches row loops certain ≡ list_touches (items-the_row-Stmt n row) loops certain
row_is_list n end_of-Stmt loops certain = refl
row_is_list n (more_of-Stmt first rest) loops certain = ap (λ ts. stmt_touches first loops certain ++ ts)
    (row_is_list _ rest loops certain)

row_is : (row : (n : Count) × Row_of-Stmt n) (all : List Stmt) →
    items-the_row-Stmt row.0 row.1 ≡ all →
    (loops : List ℕ) (certain : Bool) → row_touches row.1 loops certain ≡ list_touches all loops certain
row_is row all e loops certain = row_is_list row.0 row.1 loops certain ∙ ap (λ xs. list_touches xs loops certain) e

pub touches_Block : (all : Vec Stmt Global) (loops : List ℕ) (certain : Bool) →
    stmt_touches (Block all) loops certain ≡ list_touches all.items loops certain
touches_Block all loops certain = row_is (first_row (Block all)) all.items (items_hidden-the_row-Stmt-0 all) loops
    certain

pub touches_Loop : (b : Bounds) (all : Vec Stmt Global) (loops : List ℕ) (certain : Bool) →
    stmt_touches (Loop b all) loops certain ≡ turns_from b.first b all.items loops certain
touches_Loop b all loops certain =
    ap (λ f. turns_touch (turns_of b) b.first b.step f)
    (fun_ext (λ v. row_is (first_row (Loop b all)) all.items (items_hidden-the_row-Stmt-0 all) (loops ++ v ∷ [])
    certain))

pub touches_If : (c : Expr) (all other : Vec Stmt Global) (loops : List ℕ) (certain : Bool) →
    stmt_touches (If c all other) loops certain
    ≡ expr_touches c loops certain
    ++ (unless (is_known_zero (interval c loops)) (list_touches all.items loops
    (certain && is_known_nonzero (interval c loops)))
    ++ unless (is_known_nonzero (interval c loops)) (list_touches other.items loops
    (certain && is_known_zero (interval c loops))))
touches_If c all other loops certain =
    ap₂ (λ xs ys. expr_touches c loops certain ++ (unless (is_known_zero (interval c loops)) xs ++ unless
    (is_known_nonzero (interval c loops)) ys))
    (row_is (first_row (If c all other)) all.items (items_hidden-the_row-Stmt-0 all) loops
    (certain && is_known_nonzero (interval c loops)))
    (row_is (second_row (If c all other)) other.items (items_hidden-the_row-Stmt-0 other) loops
    (certain && is_known_zero (interval c loops)))
