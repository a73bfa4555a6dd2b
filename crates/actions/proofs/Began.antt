-- An expression is begun by its first operand, after a part that takes its value.
use Rattle.std.proofs.Common.{◌≡◌, ℕ, zero, suc, ◌+◌, not, ◌∷◌, List, Result, IfOk, Box, Bor, Global, refl, ap, sym, ◌∙◌, subst, arith}
use Rattle.std.proofs.lemmas.Result.{IfOk-weaker}
use Rattle.base.specs.declared.tree.Expr.{Expr, Cell, Unary, Binary, And, Or, Shift, Divide}
use Rattle.base.specs.declared.tree.ArrayId.{ArrayId}
use Rattle.base.specs.declared.tree.Place.{Place}
use Rattle.base.specs.declared.tree.UnaryOp.{UnaryOp}
use Rattle.base.specs.declared.tree.BinaryOp.{BinaryOp}
use Rattle.base.specs.declared.tree.ShiftOp.{ShiftOp}
use Rattle.base.specs.declared.tree.ShiftCount.{ShiftCount}
use Rattle.base.specs.declared.tree.DivideOp.{DivideOp}
use Rattle.base.specs.declared.tree.Divisor.{Divisor}
use Rattle.base.specs.Value.{flag, is_zero, binary}
use Rattle.base.specs.Memory.{Scalars}
use Rattle.base.specs.Meaning.{Run}
use Rattle.fine_machine.specs.Left.{Side, expr_left}
use Rattle.actions.specs.declared.frame.Frame.{Frame}
use Rattle.actions.specs.declared.frame.Frame.TheVariants as frame
use Rattle.actions.specs.Rest.{rest_of}
use Rattle.actions.specs.Weight.{expr_weight, frame_weight, weight}
use Rattle.actions.specs.Begin.{BeginsExpr}

-- the part f with the operand a is what the expression e begins with
pub record Leads (f : Frame) (a e : Expr) : Type 0 where
  pub left : (side : Side) (s : Run) (loops : List ℕ) (old : List Frame) →
      expr_left a side loops s.scalars (λ n. rest_of side (f ∷ old) loops n s)
      ≡ expr_left e side loops s.scalars (λ n. rest_of side old loops n s)
  pub weight : expr_weight e ≡ frame_weight f + expr_weight a

began : {f : Frame} {a e : Expr} (l : Leads f a e) (loops : List ℕ) (scalars : Scalars) (old mid new : List Frame)
    (first : ℕ) → mid ≡ f ∷ old → BeginsExpr a loops scalars mid first new → BeginsExpr e loops scalars old first new
unfolding weight
began {f} {a} {e} l loops scalars old mid new first is b = record {
  left = λ side s same. b.left side s same
      ∙ ap (λ xs. expr_left a side loops s.scalars (λ n. rest_of side xs loops n s)) is
      ∙ l.left side s loops old;
  weight =
      b.weight ∙ ap (λ xs. weight xs + expr_weight a) is
      ∙ grind (arith, l.weight);
}

pub begun : {E : Type 0} {f : Frame} {b e' : Expr} (r : Result ℕ E) (l : Leads f b e') (e a : Expr) (loops : List ℕ) (scalars : Scalars)
    (old mid new : List Frame) → e ≡ e' → a ≡ b → mid ≡ f ∷ old →
    IfOk r (λ first. BeginsExpr a loops scalars mid first new) → IfOk r (λ first. BeginsExpr e loops scalars old first new)
begun {E} {f} {b} {e'} r l e a loops scalars old mid new is a_is mid_is h =
    IfOk-weaker r _ _
    (λ first begins.
    subst (λ x. BeginsExpr x loops scalars old first new) (sym is)
    (began l loops scalars old mid new first mid_is
    (subst (λ x. BeginsExpr x loops scalars mid first new) a_is begins))) h

pub leads_Cell : (array : ArrayId) (place : Place) (b : Box Expr Global) → Leads (frame.Load array) b.value (Cell array place b)
unfolding rest_of
leads_Cell array place b = record { left = λ side s loops old. refl; weight = refl }

pub leads_Unary : (op : UnaryOp) (a : Box Expr Global) → Leads (frame.Unary op) a.value (Unary op a)
unfolding rest_of
leads_Unary op a = record { left = λ side s loops old. refl; weight = refl }

pub leads_Shift : (op : ShiftOp) (a : Box Expr Global) (n : ShiftCount) → Leads (frame.Shift op n) a.value (Shift op a n)
unfolding rest_of
leads_Shift op a n = record { left = λ side s loops old. refl; weight = refl }

pub leads_Divide : (op : DivideOp) (a : Box Expr Global) (n : Divisor) → Leads (frame.Divide op n) a.value (Divide op a n)
unfolding rest_of
leads_Divide op a n = record { left = λ side s loops old. refl; weight = refl }

pub leads_Binary : (op : BinaryOp) (a b : Box Expr Global) (e : Bor Expr) → e.now ≡ b.value →
    Leads (frame.Right op e) a.value (Binary op a b)
unfolding rest_of
leads_Binary op a b e is = record {
  left = λ side s loops old.
      ap (λ x. expr_left a.value side loops s.scalars
      (λ m. expr_left x side loops s.scalars (λ n. rest_of side old loops (binary op m n) s))) is;
  weight = ap (λ x. (2 + expr_weight x) + expr_weight a.value) (sym is);
}

pub leads_And : (a b : Box Expr Global) (e : Bor Expr) → e.now ≡ b.value → Leads (frame.AndRight e) a.value (And a b)
unfolding rest_of
leads_And a b e is = record {
  left = λ side s loops old.
      ap (λ x. expr_left a.value side loops s.scalars
      (λ m. elim m [
        | zero ↦ rest_of side old loops 0 s
        | suc m' ↦ expr_left x side loops s.scalars (λ n. rest_of side old loops (flag (not (is_zero n))) s)
      ])) is;
  weight = ap (λ x. (2 + expr_weight x) + expr_weight a.value) (sym is);
}

pub leads_Or : (a b : Box Expr Global) (e : Bor Expr) → e.now ≡ b.value → Leads (frame.OrRight e) a.value (Or a b)
unfolding rest_of
leads_Or a b e is = record {
  left = λ side s loops old.
      ap (λ x. expr_left a.value side loops s.scalars
      (λ m. elim m [
        | zero ↦ expr_left x side loops s.scalars (λ n. rest_of side old loops (flag (not (is_zero n))) s)
        | suc m' ↦ rest_of side old loops 1 s
      ])) is;
  weight = ap (λ x. (2 + expr_weight x) + expr_weight a.value) (sym is);
}
