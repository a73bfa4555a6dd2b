-- Which signs are operators behind an operand.
use Rattle.std.proofs.Common.{◌≡◌, ◌<◌, ◌≤◌, ℕ, Some, None, refl, sym, ap, ◌∙◌, arith}
use Rattle.c_tokens.specs.declared.kind.Sign.{Sign}
use Rattle.c_grammar.specs.Terminal.{Terminal, Fixed, Mark, Name, Num, Line, Unknown, Unworked, End}
use Rattle.c_grammar.specs.Grammar.{Operator, LogicOr, LogicAnd, BitOr, BitXor, BitAnd, Equal, NotEqual, Less, LessEqual, Greater, GreaterEqual, Add, Subtract, Multiply, Fraction, ShiftLeft, ShiftRight, Divide, Remainder, operator_sign, fraction_sign, level, fraction_level}
use Rattle.c_grammar.specs.Program.{operator_in, fraction_in, all_operators, all_fractions}
use Rattle.c_expressions.specs.declared.operators.Infix.{Infix}
use Rattle.c_expressions.specs.declared.operators.Infix.TheVariants as kind
use Rattle.c_expressions.specs.Signs.{Stops, infix_sign, infix_level, seen_operator, seen_fraction}

pub operator_found : (o : Operator) → operator_in all_operators (Mark (operator_sign o)) ≡ Some o
operator_found LogicOr = refl
operator_found LogicAnd = refl
operator_found BitOr = refl
operator_found BitXor = refl
operator_found BitAnd = refl
operator_found Equal = refl
operator_found NotEqual = refl
operator_found Less = refl
operator_found LessEqual = refl
operator_found Greater = refl
operator_found GreaterEqual = refl
operator_found Add = refl
operator_found Subtract = refl
operator_found Multiply = refl

pub fraction_found : (o : Fraction) → fraction_in all_fractions (Mark (fraction_sign o)) ≡ Some o
fraction_found ShiftLeft = refl
fraction_found ShiftRight = refl
fraction_found Divide = refl
fraction_found Remainder = refl

pub no_operator : (o : Fraction) → operator_in all_operators (Mark (fraction_sign o)) ≡ None
no_operator ShiftLeft = refl
no_operator ShiftRight = refl
no_operator Divide = refl
no_operator Remainder = refl

-- ---- where no operator of some levels stands

operator_at : (t : Terminal) (o : Operator) → t ≡ Mark (operator_sign o) → operator_in all_operators t ≡ Some o
operator_at t o e = ap (operator_in all_operators) e ∙ operator_found o

fraction_at : (t : Terminal) (o : Fraction) → t ≡ Mark (fraction_sign o) → fraction_in all_fractions t ≡ Some o
fraction_at t o e = ap (fraction_in all_fractions) e ∙ fraction_found o

pub no_infix : (least top : ℕ) (x : Sign) (t : Terminal) → t ≡ Mark x → operator_in all_operators (Mark x) ≡ None →
    fraction_in all_fractions (Mark x) ≡ None → Stops least top t
no_infix least top x t e h k = record {
  operator = λ o f low high. (let clash : Some o ≡ None = sym (operator_at t o f)
      ∙ ap (operator_in all_operators) e ∙ h in absurd cc);
  fraction = λ o f low high. (let clash : Some o ≡ None = sym (fraction_at t o f)
      ∙ ap (fraction_in all_fractions) e ∙ k in absurd cc);
}

same_operator : (t : Terminal) (o p : Operator) → t ≡ Mark (operator_sign o) → t ≡ Mark (operator_sign p) → o ≡ p
same_operator t o p e f = (let one : Some o ≡ Some p = sym (operator_at t o e) ∙ operator_at t p f in cc)

same_fraction : (t : Terminal) (o p : Fraction) → t ≡ Mark (fraction_sign o) → t ≡ Mark (fraction_sign p) → o ≡ p
same_fraction t o p e f = (let one : Some o ≡ Some p = sym (fraction_at t o e) ∙ fraction_at t p f in cc)

no_both : (t : Terminal) (o : Operator) (p : Fraction) → t ≡ Mark (operator_sign o) → t ≡ Mark (fraction_sign p) → ⊥
no_both t o p e f = (let clash : Some o ≡ None = sym (operator_at t o e) ∙ ap (operator_in all_operators) f
    ∙ no_operator p in cc)

pub too_low : (least top : ℕ) (op : Infix) (t : Terminal) → t ≡ Mark (infix_sign op) → infix_level op < least →
    Stops least top t
too_low least top (kind.Operator o) t e l = record {
  operator = λ p f low high. omega (arith, l, low, ap level (same_operator t (seen_operator o) p e f));
  fraction = λ p f low high. no_both t (seen_operator o) p e f;
}
too_low least top (kind.Fraction o) t e l = record {
  operator = λ p f low high. no_both t p (seen_fraction o) f e;
  fraction = λ p f low high. omega (arith, l, low, ap fraction_level (same_fraction t (seen_fraction o) p e f));
}

pub too_high : (least top : ℕ) (op : Infix) (t : Terminal) → t ≡ Mark (infix_sign op) → top < infix_level op →
    Stops least top t
too_high least top (kind.Operator o) t e l = record {
  operator = λ p f low high. omega (arith, l, high, ap level (same_operator t (seen_operator o) p e f));
  fraction = λ p f low high. no_both t (seen_operator o) p e f;
}
too_high least top (kind.Fraction o) t e l = record {
  operator = λ p f low high. no_both t p (seen_fraction o) f e;
  fraction = λ p f low high. omega (arith, l, high, ap fraction_level (same_fraction t (seen_fraction o) p e f));
}

-- a token that is no sign
abbrev pub NoSign : Terminal → Type 0
NoSign (Mark x) = ⊥
NoSign _ = Unit {0}

no_mark : (t : Terminal) (x : Sign) → NoSign t → t ≡ Mark x → ⊥
no_mark (Fixed w) x h e = cc
no_mark (Mark y) x h e = h
no_mark (Name y) x h e = cc
no_mark (Num n) x h e = cc
no_mark (Line ts) x h e = cc
no_mark Unknown x h e = cc
no_mark Unworked x h e = cc
no_mark End x h e = cc

pub no_sign : (least top : ℕ) (t : Terminal) → NoSign t → Stops least top t
no_sign least top t h = record {
  operator = λ o f low high. no_mark t (operator_sign o) h f;
  fraction = λ o f low high. no_mark t (fraction_sign o) h f;
}

-- ---- fewer levels

pub stops_within : (least k top n : ℕ) (t : Terminal) → least ≤ k → n ≤ top → Stops least top t → Stops k n t
stops_within least k top n t h g s = record {
  operator = λ o f low high. s.operator o f (omega (arith, h, low)) (omega (arith, g, high));
  fraction = λ o f low high. s.fraction o f (omega (arith, h, low)) (omega (arith, g, high));
}

pub stops_none : (least top : ℕ) (t : Terminal) → top < least → Stops least top t
stops_none least top t h = record {
  operator = λ o f low high. omega (arith, h, low, high);
  fraction = λ o f low high. omega (arith, h, low, high);
}
