-- What goes on from where the machine for sources has come goes on from where it was: single tokens and expressions.
use Rattle.std.proofs.Common.{◌≡◌, ◌≤◌, ℕ, true, cond, List, [], ◌∷◌, ◌++◌, Option, Some, None, refl, sym, ap, ◌∙◌, append_assoc, inl, inr, leb-true}
use Rattle.std.specs.Prelude.{◌||◌, nat_le}
use Rattle.std.proofs.lemmas.Bool.{or_cases}
use Rattle.c_tokens.specs.declared.kind.Sign.TheVariants as sign
use Rattle.base.specs.declared.fault.ReadCode.{ReadCode as Code}
use Rattle.base.specs.declared.fault.ReadCode.TheVariants.{BadOperand}
use Rattle.c_grammar.specs.Lexeme.{Read}
use Rattle.c_grammar.specs.Terminal.{Terminal, Fixed, Mark, Name, Num, Line, Unknown, Unworked, End, same}
use Rattle.c_grammar.specs.Grammar.{Act, Plain, Reads, Operand, OpensBracket, Inner, Slots, for, inner, opening, closing, value_of, Prefix, Not, Complement, Operator, Fraction, prefix_sign, operator_sign, fraction_sign, fraction_act, level, fraction_level, Literal, Named, Element, Group, Prefixed, term, Input, Value as ValueOf}
use Rattle.c_grammar.specs.Program.{Symbol, Want, WantName, WantNum, Value, Atom, Behind, Tail, Fractional, Stack, Move, m, expr, close, operand_step, atom_step, all_operators, all_fractions, operator_in, fraction_in, operator_step, fraction_step, fractional_step, num_step, name_step, value_step, advance}
use Rattle.c_grammar.proofs.Ways.{some_of}
use Rattle.c_grammar.proofs.Lexemes.{chosen, some_is}
use Rattle.c_grammar.proofs.Terminals.{same-true, tested}
use Rattle.c_grammar.proofs.Operands.{WithTerm, WithNumber, operations}
use Rattle.c_grammar.proofs.Parts.{index}
use Rattle.c_grammar.proofs.SourceFits.{IsIndex, Fits, has_term}

abbrev pub Taken : Type 0
Taken = (Option Code × Act) × List Symbol

abbrev pub Back : Symbol → Stack → Terminal → Taken → Type 0
Back x s t q = (ws : Slots) → Fits q.1 ws → Fits (x ∷ s) ((t, q.0) ∷ ws)

pub none : (x : Symbol) (s : Stack) (t : Terminal) (q : Taken) → None ≡ some_of q → Back x s t q
none x s t q e = absurd cc

pub back_want : (u : Terminal) (r : Option Code × Act) (s : Stack) (t : Terminal) (q : Taken)
    → cond (same u t) (some_of (r, s)) None ≡ some_of q → Back (Want u r) s t q
back_want u r s t q e = tested u t (r, s) q None (Back (Want u r) s) (λ ws f. (ws, refl, f)) (none (Want u r) s t q) e

pub back_name : (act : Act) (s : Stack) (t : Terminal) (q : Taken) → name_step act s t ≡ some_of q
    → Back (WantName act) s t q
back_name act s (Name x) q e =
    some_is (for act, s) q (λ p. Back (WantName act) s (Name x) p) e (λ ws f. (x, ws, refl, f))
back_name act s (Num a) q e = absurd cc
back_name act s (Fixed a) q e = absurd cc
back_name act s (Mark a) q e = absurd cc
back_name act s (Line a) q e = absurd cc
back_name act s Unknown q e = absurd cc
back_name act s Unworked q e = absurd cc
back_name act s End q e = absurd cc

pub back_num : (act : Act) (s : Stack) (t : Terminal) (q : Taken) → num_step act s t ≡ some_of q
    → Back (WantNum act) s t q
back_num act s (Num n) q e = some_is (for act, s) q (λ p. Back (WantNum act) s (Num n) p) e (λ ws f. (n, ws, refl, f))
back_num act s (Name a) q e = absurd cc
back_num act s (Fixed a) q e = absurd cc
back_num act s (Mark a) q e = absurd cc
back_num act s (Line a) q e = absurd cc
back_num act s Unknown q e = absurd cc
back_num act s Unworked q e = absurd cc
back_num act s End q e = absurd cc

pub back_fractional : (op : Fraction) (s : Stack) (t : Terminal) (q : Taken) → fractional_step op s t ≡ some_of q
    → Back (Fractional op) s t q
back_fractional op s (Num n) q e =
    some_is ((Some BadOperand, fraction_act op), s) q (λ p. Back (Fractional op) s (Num n) p) e
    (λ ws f. (n, ws, refl, f))
back_fractional op s (Name a) q e = absurd cc
back_fractional op s (Fixed a) q e = absurd cc
back_fractional op s (Mark a) q e = absurd cc
back_fractional op s (Line a) q e = absurd cc
back_fractional op s Unknown q e = absurd cc
back_fractional op s Unworked q e = absurd cc
back_fractional op s End q e = absurd cc

-- ---- operands

abbrev before : Terminal → Slots → Slots
before t v = (t, for Operand) ∷ v

back_operand : (s : Stack) (t : Terminal) (q : Taken) → operand_step s t ≡ some_of q → Back Atom s t q
back_operand s (Num n) q e =
    some_is (for Inner, s) q (λ p. Back Atom s (Num n) p) e (λ ws f. (Literal n, (refl, tt), ws, refl, f))
back_operand s (Name x) q e = some_is (for Operand, Behind ∷ s) q (λ p. Back Atom s (Name x) p) e named
  where
    named : (ws : Slots) → Fits (Behind ∷ s) ws → Fits (Atom ∷ s) ((Name x, for Operand) ∷ ws)
    named ws f =
        elim f.0 as (λ o. IsIndex o → ws ≡ index o ++ f.2 → Fits (Atom ∷ s) ((Name x, for Operand) ∷ ws)) [
          | None ↦ λ r e. (Named x, (refl, tt), f.2, ap (before (Name x)) e, f.4)
          | Some i ↦ λ r e. (Element x i, (refl, r), f.2, ap (before (Name x)) e, f.4)
        ] f.1 f.3
back_operand s (Fixed a) q e = absurd cc
back_operand s (Mark a) q e = absurd cc
back_operand s (Line a) q e = absurd cc
back_operand s Unknown q e = absurd cc
back_operand s Unworked q e = absurd cc
back_operand s End q e = absurd cc

group_fits : (s : Stack) (ws : Slots) → Fits (expr (close sign.CloseParen ∷ s)) ws
    → Fits (Atom ∷ s) (opening sign.OpenParen ∷ ws)
group_fits s ws f =
    let h = has_term (close sign.CloseParen ∷ s) ws f in
    let rest = h.4 in
    let last : Slots = closing sign.CloseParen ∷ [] in
    let whole : ws ≡ (term h.0 ++ last) ++ rest.0 =
    h.3 ∙ ap (λ (v : Slots). term h.0 ++ v) rest.1 ∙ sym (append_assoc (term h.0) last rest.0) in
    (Group h.0, (refl, h.1), rest.0, ap (λ (v : Slots). opening sign.OpenParen ∷ v) whole, rest.2)

-- the sign of a prefix
abbrev IsPrefix : Terminal → Type 0
IsPrefix t = (op : Prefix) × (Mark (prefix_sign op) ≡ t)

prefix_of : (t : Terminal) → (same (Mark sign.Bang) t || same (Mark sign.Tilde) t) ≡ true → IsPrefix t
prefix_of t e =
    elim (or_cases (same (Mark sign.Bang) t) (same (Mark sign.Tilde) t) e) [
      | inl h ↦ (Not, same-true (Mark sign.Bang) t h)
      | inr h ↦ (Complement, same-true (Mark sign.Tilde) t h)
    ]

prefixed_fits : (s : Stack) (t : Terminal) → IsPrefix t → Back Atom s t (for Inner, Atom ∷ s)
prefixed_fits s t o ws f = (
  Prefixed o.0 f.0,
  (refl, f.1),
  f.2,
  ap (λ (u : Terminal). (u, for Inner) ∷ ws) (sym o.1)
      ∙ ap (λ (v : Slots). inner (prefix_sign o.0) ∷ v) f.3,
  f.4,
)

back_prefix : (s : Stack) (t : Terminal) (q : Taken)
    → cond (same (Mark sign.Bang) t || same (Mark sign.Tilde) t) (some_of (for Inner, Atom ∷ s)) (operand_step s t)
    ≡ some_of q → Back Atom s t q
back_prefix s t q e =
    elim (chosen (same (Mark sign.Bang) t || same (Mark sign.Tilde) t) (some_of (for Inner, Atom ∷ s))
    (operand_step s t) (some_of q) e) [
      | inl h ↦ some_is (for Inner, Atom ∷ s) q (λ p. Back Atom s t p) h.1 (prefixed_fits s t (prefix_of t h.0))
      | inr h ↦ back_operand s t q h.1
    ]

pub back_atom : (s : Stack) (t : Terminal) (q : Taken) → atom_step s t ≡ some_of q → Back Atom s t q
back_atom s t q e =
    tested (Mark sign.OpenParen) t (for OpensBracket, expr (close sign.CloseParen ∷ s)) q _ (Back Atom s) (group_fits s)
    (back_prefix s t q) e

index_fits : (s : Stack) (ws : Slots) → Fits (expr (close sign.CloseBracket ∷ s)) ws
    → Fits (Behind ∷ s) (opening sign.OpenBracket ∷ ws)
index_fits s ws f =
    let h = has_term (close sign.CloseBracket ∷ s) ws f in
    let rest = h.4 in
    let last : Slots = closing sign.CloseBracket ∷ [] in
    let whole : ws ≡ (term h.0 ++ last) ++ rest.0 =
    h.3 ∙ ap (λ (v : Slots). term h.0 ++ v) rest.1 ∙ sym (append_assoc (term h.0) last rest.0) in
    (Some h.0, h.1, rest.0, ap (λ (v : Slots). opening sign.OpenBracket ∷ v) whole, rest.2)

-- what is shown of the rest of a stack
abbrev pub BackBelow : Stack → Terminal → Taken → Type 0
BackBelow s t q = advance s t ≡ some_of q → (ws : Slots) → Fits q.1 ws → Fits s ((t, q.0) ∷ ws)

pub back_behind : (s : Stack) (t : Terminal) (q : Taken) → BackBelow s t q
    → cond (same (Mark sign.OpenBracket) t) (some_of (for OpensBracket, expr (close sign.CloseBracket ∷ s)))
    (advance s t) ≡ some_of q → Back Behind s t q
back_behind s t q ih e =
    tested (Mark sign.OpenBracket) t (for OpensBracket, expr (close sign.CloseBracket ∷ s)) q (advance s t)
    (Back Behind s) (index_fits s)
    (λ e ws f. (None, tt, (t, q.0) ∷ ws, refl, ih e ws f)) e

-- ---- operators

operator_found : (ops : List Operator) (t : Terminal) (op : Operator) → operator_in ops t ≡ some_of op
    → Mark (operator_sign op) ≡ t
operator_found [] t op e = absurd cc
operator_found (o ∷ ops) t op e =
    tested (Mark (operator_sign o)) t o op (operator_in ops t) (λ u p. Mark (operator_sign p) ≡ u) refl
    (operator_found ops t op) e

fraction_found : (ops : List Fraction) (t : Terminal) (op : Fraction) → fraction_in ops t ≡ some_of op
    → Mark (fraction_sign op) ≡ t
fraction_found [] t op e = absurd cc
fraction_found (o ∷ ops) t op e =
    tested (Mark (fraction_sign o)) t o op (fraction_in ops t) (λ u p. Mark (fraction_sign p) ≡ u) refl
    (fraction_found ops t op) e

operator_fits : (op : Operator) (top : ℕ) (s : Stack) (t : Terminal) → Mark (operator_sign op) ≡ t → level op ≤ top
    → Back (Tail top) s t (for Inner, expr s)
operator_fits op top s t path low ws f =
    let rest = f.4 in
    let whole : ws ≡ (term f.0 ++ operations rest.0) ++ rest.2 =
    f.3 ∙ ap (λ (v : Slots). term f.0 ++ v) rest.3 ∙ sym (append_assoc (term f.0) (operations rest.0) rest.2) in (
      WithTerm op f.0 ∷ rest.0,
      (low, f.1, rest.1),
      rest.2,
      ap (λ (u : Terminal). (u, for Inner) ∷ ws) (sym path)
          ∙ ap (λ (v : Slots). inner (operator_sign op) ∷ v) whole,
      rest.4,
    )

fraction_fits : (op : Fraction) (top : ℕ) (s : Stack) (t : Terminal) → Mark (fraction_sign op) ≡ t
    → fraction_level op ≤ top → Back (Tail top) s t (for Inner, Fractional op ∷ Tail (fraction_level op) ∷ s)
fraction_fits op top s t path low ws f =
    let rest = f.3 in (
      WithNumber op f.0 ∷ rest.0,
      (low, tt, rest.1),
      rest.2,
      ap (λ (u : Terminal). (u, for Inner) ∷ ws) (sym path)
          ∙ ap (λ (v : Slots). inner (fraction_sign op) ∷ v) (f.2 ∙ ap (λ (v : Slots). value_of op f.0 ∷ v) rest.3),
      rest.4,
    )

back_fraction : (top : ℕ) (s : Stack) (t : Terminal) (q : Taken) (o : Option Fraction) (other : Move)
    → ((op : Fraction) → o ≡ some_of op → Mark (fraction_sign op) ≡ t) → (other ≡ some_of q → Back (Tail top) s t q)
    → fraction_step top s o other ≡ some_of q → Back (Tail top) s t q
back_fraction top s t q None other found ih e = ih e
back_fraction top s t q (Some op) other found ih e =
    let to : Taken = (for Inner, Fractional op ∷ Tail (fraction_level op) ∷ s) in
    elim (chosen (nat_le (fraction_level op) top) (some_of to) other (some_of q) e) [
      | inl h ↦ some_is to q (λ p. Back (Tail top) s t p) h.1
          (fraction_fits op top s t (found op refl) (leb-true (fraction_level op) top h.0))
      | inr h ↦ ih h.1
    ]

back_operator : (top : ℕ) (s : Stack) (t : Terminal) (q : Taken) (o : Option Operator) (other : Move)
    → ((op : Operator) → o ≡ some_of op → Mark (operator_sign op) ≡ t) → (other ≡ some_of q → Back (Tail top) s t q)
    → operator_step top s o other ≡ some_of q → Back (Tail top) s t q
back_operator top s t q None other found ih e = ih e
back_operator top s t q (Some op) other found ih e =
    let to : Taken = (for Inner, expr s) in
    elim (chosen (nat_le (level op) top) (some_of to) other (some_of q) e) [
      | inl h ↦ some_is to q (λ p. Back (Tail top) s t p) h.1
          (operator_fits op top s t (found op refl) (leb-true (level op) top h.0))
      | inr h ↦ ih h.1
    ]

pub back_tail : (top : ℕ) (s : Stack) (t : Terminal) (q : Taken) → BackBelow s t q
    → operator_step top s (operator_in all_operators t) (fraction_step top s (fraction_in all_fractions t) (advance s t))
    ≡ some_of q → Back (Tail top) s t q
back_tail top s t q ih e =
    back_operator top s t q (operator_in all_operators t)
    (fraction_step top s (fraction_in all_fractions t) (advance s t)) (operator_found all_operators t)
    (back_fraction top s t q (fraction_in all_fractions t) (advance s t) (fraction_found all_fractions t)
    (λ e ws f. ([], tt, (t, q.0) ∷ ws, refl, ih e ws f))) e

-- ---- the right side of an assignment

read_fits : (s : Stack) (ws : Slots) → Fits (m sign.OpenParen ∷ m sign.CloseParen ∷ s) ws
    → Fits (Value ∷ s) ((Fixed Read, for Reads) ∷ ws)
read_fits s ws f =
    let rest = f.2 in (
      Input,
      tt,
      rest.0,
      ap (λ (v : Slots). (Fixed Read, for Reads) ∷ v)
          (f.1 ∙ ap (λ (v : Slots). (Mark sign.OpenParen, for Plain) ∷ v) rest.1),
      rest.2,
    )

pub back_value : (s : Stack) (t : Terminal) (q : Taken) → value_step s t ≡ some_of q → Back Value s t q
back_value s t q e =
    tested (Fixed Read) t (for Reads, m sign.OpenParen ∷ m sign.CloseParen ∷ s) q (atom_step (Tail 9 ∷ s) t)
    (Back Value s) (read_fits s)
    (λ e ws f. (let h = has_term s ((t, q.0) ∷ ws) (back_atom (Tail 9 ∷ s) t q e ws f) in (
      ValueOf h.0,
      h.1,
      h.2,
      h.3,
      h.4,
    ))) e
