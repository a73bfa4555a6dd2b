-- A commuting update does what the store of the cell's number, taken with a value by an operator, does.
use Rattle.std.proofs.Common.{◌≡◌, ℕ, List, Option, Some, None, refl, ap, Box}
use Rattle.std.specs.Prelude.{option_and_then, option_map}
use Rattle.std.specs.declared.alloc.Global.{Global}
use Rattle.std.proofs.lemmas.Option.{same_Some, none-some}
use Rattle.base.specs.declared.item.Cell.{Cell}
use Rattle.base.specs.declared.tree.ArrayId.{ArrayId}
use Rattle.base.specs.declared.tree.Place.{Place}
use Rattle.base.specs.declared.tree.BinaryOp.{BinaryOp}
use Rattle.base.specs.declared.tree.BinaryOp.TheVariants as by
use Rattle.base.specs.declared.tree.CombineOp.{CombineOp}
use Rattle.base.specs.declared.tree.CombineOp.TheVariants.{Add, Multiply, BitAnd, BitOr, BitXor, Min, Max}
use Rattle.base.specs.declared.tree.Expr.{Expr}
use Rattle.base.specs.declared.tree.Expr.TheVariants.{Cell', Binary'}
use Rattle.base.specs.declared.tree.Source.TheVariants.{Value}
use Rattle.base.specs.declared.tree.Stmt.TheVariants.{Store, Combine}
use Rattle.base.specs.Memory.{View}
use Rattle.base.specs.Value.{value, binary, combined, on_both}
use Rattle.base.specs.Meaning.{Run, seen, names_in, stored, run_stmt}

-- the operator of expressions that an update's is; the least and the greatest number are none
abbrev pub operator_of : CombineOp → Option BinaryOp
operator_of Add = Some by.Add
operator_of Multiply = Some by.Multiply
operator_of BitAnd = Some by.BitAnd
operator_of BitOr = Some by.BitOr
operator_of BitXor = Some by.BitXor
operator_of Min = None
operator_of Max = None

same_number : (op : CombineOp) (b : BinaryOp) → operator_of op ≡ Some b → combined op ≡ binary b
same_number Add b h = ap binary (same_Some by.Add b h)
same_number Multiply b h = ap binary (same_Some by.Multiply b h)
same_number BitAnd b h = ap binary (same_Some by.BitAnd b h)
same_number BitOr b h = ap binary (same_Some by.BitOr b h)
same_number BitXor b h = ap binary (same_Some by.BitXor b h)
same_number Min b h = absurd (none-some b h)
same_number Max b h = absurd (none-some b h)

-- `A[e] op= v` is `A[e] = A[e] op v`
pub update_is_store : (p : Box (Unit {0}) Global) (op : CombineOp) (b : BinaryOp) → operator_of op ≡ Some b →
    (a : ArrayId) (place : Place) (e v : Expr) (view : View) (loops : List ℕ) (s : Run) →
    run_stmt (Combine op a place e v) view loops s ≡ run_stmt
    (Store a place e (Value (Binary' b p (Cell' a place p e) p v))) view loops s
update_is_store p op b h a place e v view loops s = go (value e (names_in view loops s))
  where
    cell : ℕ → Cell
    cell i = record { array = a; index = i }

    number : Option ℕ
    number = value v (names_in view loops s)

    given : (ℕ → ℕ → ℕ) → Option ℕ → Option (ℕ × Run)
    given f old = option_map (λ n. (n, s)) (on_both f old number)

    go : (o : Option ℕ) →
        option_and_then (λ i. stored view (cell i) (given (combined op) (seen view s.stores (cell i)))) o
        ≡ option_and_then (λ i. stored view (cell i) (given (binary b)
        (option_and_then (λ i. seen view s.stores (cell i)) o))) o
    go None = refl
    go (Some i) =
        ap (λ f. stored view (cell i) (given f (seen view s.stores (cell i)))) (same_number op b h)
