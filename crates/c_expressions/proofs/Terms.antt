-- The machine at the tokens of an expression.
use Rattle.std.proofs.Common.{◌≡◌, ℕ, ◌≤◌, Bool, true, false, cond, List, [], ◌∷◌, Option, Some, None, refl, sym, ap, ◌∙◌, arith, le-leb}
use Rattle.std.specs.Prelude.{nat_le}
use Rattle.std.proofs.lemmas.Bool.Decides.{nat_tests}
use Rattle.c_tokens.specs.declared.kind.Sign.{Sign}
use Rattle.c_tokens.specs.declared.kind.Sign.TheVariants as sign
use Rattle.base.specs.declared.fault.ReadCode.{ReadCode as Code}
use Rattle.base.specs.declared.fault.ReadCode.TheVariants.{Unexpected, BadNumber}
use Rattle.base.specs.declared.tree.DivideOp.{DivideOp}
use Rattle.base.specs.declared.tree.DivideOp.TheVariants as divide
use Rattle.base.specs.declared.tree.ShiftOp.{ShiftOp}
use Rattle.base.specs.declared.tree.ShiftOp.TheVariants as shift
use Rattle.base.specs.declared.tree.UnaryOp.{UnaryOp}
use Rattle.base.specs.declared.tree.UnaryOp.TheVariants as unary
use Rattle.c_grammar.specs.Terminal.{Terminal, Fixed, Mark, Name, Num, Line, Unknown, Unworked, End, same}
use Rattle.c_grammar.specs.Texts.{Item, next_of}
use Rattle.c_grammar.specs.Machine.{Found, judged, run as machine_run}
use Rattle.c_grammar.specs.Grammar.{Act, Inner, Operand, OpensBracket, ClosesBracket, for, Operator, Fraction, operator_sign, fraction_sign, prefix_sign, level, fraction_level}
use Rattle.c_grammar.specs.Rules.{Context, rule_here, source_grammar, breaks}
use Rattle.c_grammar.specs.Program.{Stack, Want, Atom, Tail, Behind, Fractional, advance, place_code, first_broken, source_machine, operator_in, fraction_in, all_operators, all_fractions, operator_step, fraction_step}
use Rattle.c_grammar.specs.Source.{found_fault}
use Rattle.c_expressions.specs.declared.cursor.Cursor.{Cursor}
use Rattle.c_expressions.specs.Means.{Items, prefix_of, shift_of, divide_of}
use Rattle.c_expressions.specs.Cursor.{items, first_item, behind}
use Rattle.c_expressions.specs.Reading.{run, took, fault_at, misfit_at, IsSound}
use Rattle.c_expressions.specs.Signs.{Stops}
use Rattle.c_grammar.proofs.Terminals.{same-true}
use Rattle.c_expressions.proofs.Going.{put, put_is, stop}
use Rattle.c_expressions.proofs.Signs.{operator_found, fraction_found, no_operator}

-- a token that is taken
pub item_took : (c : Context) (s s' : Stack) (r : Option Code × Act) (i : Item Terminal) (is : Items) →
    advance s i.terminal ≡ Some (r, s') → run c s (i ∷ is) ≡ took c r s' (i ∷ is)
unfolding run machine_run took
item_took c s s' r i is e = rw e refl

-- stacks that go the same way
judged_same : (c : Context) (s s' : Stack) (i : Item Terminal) (n : Terminal)
    (o : Option ((Option Code × Act) × Stack)) (go : Context → Stack →
    Option (Found source_grammar source_machine)) → place_code s ≡ place_code s' →
    judged source_grammar source_machine c s i n o go ≡ judged source_grammar source_machine c s' i n o go
judged_same c s s' i n None go p = rw p refl
judged_same c s s' i n (Some move) go p = refl

pub same_run : (c : Context) (s s' : Stack) (i : Item Terminal) (is : Items) →
    advance s i.terminal ≡ advance s' i.terminal → place_code s ≡ place_code s' →
    run c s (i ∷ is) ≡ run c s' (i ∷ is)
unfolding run machine_run
same_run c s s' i is e p = rw e (ap found_fault (judged_same c s s' i (next_of source_grammar is)
    (advance s' i.terminal) (λ d u. machine_run source_grammar source_machine d u is) p))

-- ---- operands

atom_number : (s : Stack) (n : Option ℕ) → advance (Atom ∷ s) (Num n) ≡ Some (for Inner, s)
unfolding advance
atom_number s n = refl

atom_name : (s : Stack) (x : List ℕ) → advance (Atom ∷ s) (Name x) ≡ Some (for Operand, Behind ∷ s)
unfolding advance
atom_name s x = refl

atom_group : (s : Stack) → advance (Atom ∷ s) (Mark sign.OpenParen) ≡
    Some (for OpensBracket, Atom ∷ Tail 9 ∷ Want (Mark sign.CloseParen) (for ClosesBracket) ∷ s)
unfolding advance
atom_group s = refl

pub number_operand : (c : Context) (s : Stack) (n : ℕ) (t : Cursor) → (first_item t).terminal ≡ Num (Some n) →
    run c (Atom ∷ s) (items t) ≡ took c (for Inner) s (items t)
number_operand c s n t e = item_took c (Atom ∷ s) s (for Inner) (first_item t) (behind t)
    (ap (advance (Atom ∷ s)) e ∙ atom_number s (Some n))

pub name_operand : (c : Context) (s : Stack) (x : List ℕ) (t : Cursor) → (first_item t).terminal ≡ Name x →
    run c (Atom ∷ s) (items t) ≡ took c (for Operand) (Behind ∷ s) (items t)
name_operand c s x t e = item_took c (Atom ∷ s) (Behind ∷ s) (for Operand) (first_item t) (behind t)
    (ap (advance (Atom ∷ s)) e ∙ atom_name s x)

pub group_operand : (c : Context) (s : Stack) (t : Cursor) → (first_item t).terminal ≡ Mark sign.OpenParen →
    run c (Atom ∷ s) (items t) ≡ took c (for OpensBracket)
    (Atom ∷ Tail 9 ∷ Want (Mark sign.CloseParen) (for ClosesBracket) ∷ s) (items t)
group_operand c s t e = item_took c (Atom ∷ s) (Atom ∷ Tail 9 ∷ Want (Mark sign.CloseParen) (for ClosesBracket) ∷
    s) (for OpensBracket) (first_item t) (behind t) (ap (advance (Atom ∷ s)) e ∙ atom_group s)

item_bad : (c : Context) (s : Stack) (i : Item Terminal) (is : Items) →
    run c (Atom ∷ s) (put i (Num None) ∷ is) ≡ Some (fault_at i BadNumber)
unfolding run machine_run advance first_broken breaks
item_bad c s i is = refl

pub bad_operand_number : (c : Context) (s : Stack) (t : Cursor) → (first_item t).terminal ≡ Num None →
    run c (Atom ∷ s) (items t) ≡ Some (fault_at (first_item t) BadNumber)
bad_operand_number c s t e = ap (λ (i : Item Terminal). run c (Atom ∷ s) (i ∷ behind t))
    (put_is (first_item t) (Num None) e) ∙ item_bad c s (first_item t) (behind t)

prefix_step : (o : UnaryOp) (s : Stack) → advance (Atom ∷ s) (Mark (prefix_sign (prefix_of o))) ≡
    Some (for Inner, Atom ∷ s)
unfolding advance
prefix_step unary.Not s = refl
prefix_step unary.Complement s = refl

pub prefix_operand : (c : Context) (s : Stack) (o : UnaryOp) (t : Cursor) →
    (first_item t).terminal ≡ Mark (prefix_sign (prefix_of o)) →
    run c (Atom ∷ s) (items t) ≡ took c (for Inner) (Atom ∷ s) (items t)
prefix_operand c s o t e = item_took c (Atom ∷ s) (Atom ∷ s) (for Inner) (first_item t) (behind t)
    (ap (advance (Atom ∷ s)) e ∙ prefix_step o s)

-- a terminal at which no operand begins
abbrev pub NoOperand : Terminal → Type 0
NoOperand (Fixed w) = Unit {0}
NoOperand (Mark x) = (same (Mark sign.OpenParen) (Mark x) ≡ false) × (same (Mark sign.Bang) (Mark x) ≡ false) ×
    (same (Mark sign.Tilde) (Mark x) ≡ false)
NoOperand (Name x) = ⊥
NoOperand (Num n) = ⊥
NoOperand (Line ts) = Unit {0}
NoOperand Unknown = Unit {0}
NoOperand Unworked = Unit {0}
NoOperand End = Unit {0}

atom_none : (s : Stack) (t : Terminal) → NoOperand t → advance (Atom ∷ s) t ≡ None
unfolding advance
atom_none s (Fixed w) h = refl
atom_none s (Mark x) h = rw (h.0, h.1, h.2) refl
atom_none s (Name x) h = absurd h
atom_none s (Num n) h = absurd h
atom_none s (Line ts) h = refl
atom_none s Unknown h = refl
atom_none s Unworked h = refl
atom_none s End h = refl

pub stop_operand : (c : Context) (s : Stack) (t : Cursor) → NoOperand (first_item t).terminal →
    run c (Atom ∷ s) (items t) ≡ Some (misfit_at (Some (rule_here Unexpected)) (first_item t))
unfolding place_code
stop_operand c s t h = stop c (Atom ∷ s) (first_item t) (behind t) (atom_none s (first_item t).terminal h) refl

-- ---- behind an operand

behind_advance : (s : Stack) (t : Terminal) → same (Mark sign.OpenBracket) t ≡ true →
    advance (Behind ∷ s) t ≡ Some (
      for OpensBracket,
      Atom ∷ Tail 9 ∷ Want (Mark sign.CloseBracket)
          (for ClosesBracket) ∷ s,
    )
unfolding advance
behind_advance s t e = rw e refl

pub behind_cell : (c : Context) (s : Stack) (t : Cursor) →
    same (Mark sign.OpenBracket) (first_item t).terminal ≡ true →
    run c (Behind ∷ s) (items t) ≡ took c (for OpensBracket)
    (Atom ∷ Tail 9 ∷ Want (Mark sign.CloseBracket) (for ClosesBracket) ∷ s) (items t)
behind_cell c s t e = item_took c (Behind ∷ s) (Atom ∷ Tail 9 ∷ Want (Mark sign.CloseBracket) (for ClosesBracket) ∷
    s) (for OpensBracket) (first_item t) (behind t) (behind_advance s (first_item t).terminal e)

behind_none : (s : Stack) (t : Terminal) → same (Mark sign.OpenBracket) t ≡ false →
    advance (Behind ∷ s) t ≡ advance s t
unfolding advance
behind_none s t e = rw e refl

pub behind_name : (c : Context) (s : Stack) (t : Cursor) →
    same (Mark sign.OpenBracket) (first_item t).terminal ≡ false →
    run c (Behind ∷ Tail 9 ∷ s) (items t) ≡ run c (Tail 9 ∷ s) (items t)
unfolding place_code
behind_name c s t e = same_run c (Behind ∷ Tail 9 ∷ s) (Tail 9 ∷ s) (first_item t) (behind t)
    (behind_none (Tail 9 ∷ s) (first_item t).terminal e) refl

-- ---- operators

tail_operator : (top : ℕ) (s : Stack) (o : Operator) (t : Terminal) → t ≡ Mark (operator_sign o) → level o ≤ top →
    advance (Tail top ∷ s) t ≡ Some (for Inner, Atom ∷ Tail 9 ∷ s)
unfolding advance
tail_operator top s o t e h = rw (e, operator_found o, le-leb (level o) top h) refl

pub go_operator : (c : Context) (top : ℕ) (s : Stack) (o : Operator) (t : Cursor) →
    (first_item t).terminal ≡ Mark (operator_sign o) → level o ≤ top →
    run c (Tail top ∷ s) (items t) ≡ took c (for Inner) (Atom ∷ Tail 9 ∷ s) (items t)
go_operator c top s o t e h = item_took c (Tail top ∷ s) (Atom ∷ Tail 9 ∷ s) (for Inner) (first_item t) (behind t)
    (tail_operator top s o (first_item t).terminal e h)

tail_fraction : (top : ℕ) (s : Stack) (o : Fraction) (t : Terminal) → t ≡ Mark (fraction_sign o) →
    fraction_level o ≤ top → advance (Tail top ∷ s) t ≡ Some (for Inner, Fractional o ∷ Tail (fraction_level o) ∷ s)
unfolding advance
tail_fraction top s o t e h = rw (e, no_operator o, fraction_found o, le-leb (fraction_level o) top h) refl

pub go_fraction : (c : Context) (top : ℕ) (s : Stack) (o : Fraction) (t : Cursor) →
    (first_item t).terminal ≡ Mark (fraction_sign o) → fraction_level o ≤ top →
    run c (Tail top ∷ s) (items t) ≡ took c (for Inner) (Fractional o ∷ Tail (fraction_level o) ∷ s) (items t)
go_fraction c top s o t e h = item_took c (Tail top ∷ s) (Fractional o ∷ Tail (fraction_level o) ∷ s) (for Inner)
    (first_item t) (behind t) (tail_fraction top s o (first_item t).terminal e h)

pub go_shift : (c : Context) (top : ℕ) (s : Stack) (o : ShiftOp) (t : Cursor) →
    (first_item t).terminal ≡ Mark (fraction_sign (shift_of o)) → fraction_level (shift_of o) ≤ top →
    run c (Tail top ∷ s) (items t) ≡ took c (for Inner) (Fractional (shift_of o) ∷ Tail 7 ∷ s) (items t)
go_shift c top s shift.Left t e h = go_fraction c top s (shift_of shift.Left) t e h
go_shift c top s shift.Right t e h = go_fraction c top s (shift_of shift.Right) t e h

pub go_division : (c : Context) (top : ℕ) (s : Stack) (o : DivideOp) (t : Cursor) →
    (first_item t).terminal ≡ Mark (fraction_sign (divide_of o)) → fraction_level (divide_of o) ≤ top →
    run c (Tail top ∷ s) (items t) ≡ took c (for Inner) (Fractional (divide_of o) ∷ Tail 9 ∷ s) (items t)
go_division c top s divide.Quotient t e h = go_fraction c top s (divide_of divide.Quotient) t e h
go_division c top s divide.Remainder t e h = go_fraction c top s (divide_of divide.Remainder) t e h

-- ---- no operator

operator_is : (ops : List Operator) (t : Terminal) (o : Operator) → operator_in ops t ≡ Some o →
    t ≡ Mark (operator_sign o)
operator_is [] t o e = absurd cc
operator_is (p ∷ ops) t o e = go (same (Mark (operator_sign p)) t) refl e (operator_is ops t o)
  where
    go : (b : Bool) → same (Mark (operator_sign p)) t ≡ b → cond b (Some p) (operator_in ops t) ≡ Some o →
        (operator_in ops t ≡ Some o → t ≡ Mark (operator_sign o)) → t ≡ Mark (operator_sign o)
    go true h f more = sym (same-true (Mark (operator_sign p)) t h)
        ∙ ap (λ (q : Operator). Mark (operator_sign q)) (let is : p ≡ o = cc in is)
    go false h f more = more f

fraction_is : (ops : List Fraction) (t : Terminal) (o : Fraction) → fraction_in ops t ≡ Some o →
    t ≡ Mark (fraction_sign o)
fraction_is [] t o e = absurd cc
fraction_is (p ∷ ops) t o e = go (same (Mark (fraction_sign p)) t) refl e (fraction_is ops t o)
  where
    go : (b : Bool) → same (Mark (fraction_sign p)) t ≡ b → cond b (Some p) (fraction_in ops t) ≡ Some o →
        (fraction_in ops t ≡ Some o → t ≡ Mark (fraction_sign o)) → t ≡ Mark (fraction_sign o)
    go true h f more = sym (same-true (Mark (fraction_sign p)) t h)
        ∙ ap (λ (q : Fraction). Mark (fraction_sign q)) (let is : p ≡ o = cc in is)
    go false h f more = more f

above : (a b : ℕ) → (a ≤ b → ⊥) → nat_le a b ≡ false
above a b h = grind (arith, nat_tests)

no_operator_step : (top : ℕ) (s : Stack) (t : Terminal) (o : Option Operator)
    (other : Option ((Option Code × Act) × Stack)) → operator_in all_operators t ≡ o → Stops 0 top t →
    operator_step top s o other ≡ other
no_operator_step top s t None other e h = refl
no_operator_step top s t (Some o) other e h = rw (above (level o) top
    (λ high. h.operator o (operator_is all_operators t o e) (omega arith) high)) refl

no_fraction_step : (top : ℕ) (s : Stack) (t : Terminal) (o : Option Fraction)
    (other : Option ((Option Code × Act) × Stack)) → fraction_in all_fractions t ≡ o → Stops 0 top t →
    fraction_step top s o other ≡ other
no_fraction_step top s t None other e h = refl
no_fraction_step top s t (Some o) other e h = rw (above (fraction_level o) top
    (λ high. h.fraction o (fraction_is all_fractions t o e) (omega arith) high)) refl

tail_none : (top : ℕ) (s : Stack) (t : Terminal) → Stops 0 top t → advance (Tail top ∷ s) t ≡ advance s t
unfolding advance
tail_none top s t h =
    no_operator_step top s t (operator_in all_operators t)
    (fraction_step top s (fraction_in all_fractions t) (advance s t)) refl h
    ∙ no_fraction_step top s t (fraction_in all_fractions t) (advance s t) refl h

pub skip_tail : (c : Context) (top : ℕ) (x : Sign) (act : Act) (s : Stack) (t : Cursor) →
    Stops 0 top (first_item t).terminal → run c (Tail top ∷ Want (Mark x) (for act) ∷ s) (items t) ≡
    run c (Want (Mark x) (for act) ∷ s) (items t)
unfolding place_code
skip_tail c top x act s t h = same_run c (Tail top ∷ Want (Mark x) (for act) ∷ s) (Want (Mark x) (for act) ∷ s)
    (first_item t) (behind t) (tail_none top (Want (Mark x) (for act) ∷ s) (first_item t).terminal h) refl

-- ---- numbers and signs are sound

mark_sound : (x : Sign) (t : Terminal) → t ≡ Mark x → IsSound t
mark_sound x t e = rw e tt

pub sign_sound : (x : Sign) (t : Cursor) → (first_item t).terminal ≡ Mark x → IsSound (first_item t).terminal
sign_sound x t e = mark_sound x (first_item t).terminal e

pub number_sound : (n : ℕ) (t : Cursor) → (first_item t).terminal ≡ Num (Some n) → IsSound (first_item t).terminal
number_sound n t e = rw e tt
