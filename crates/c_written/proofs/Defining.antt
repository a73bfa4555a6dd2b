-- What a line defines.
use Rattle.std.proofs.Common.{◌≡◌, ◌∙◌, Bor, ℕ, zero, suc, ◌+◌, ◌<◌, Bool, true, false, cond, List, [], ◌∷◌, length, drop, Option, Some, None, refl, sym, ap, codes, arith}
use Rattle.c_grammar.specs.Lexeme.{Placed}
use Rattle.c_grammar.specs.Terminal.{Terminal, Fixed, Mark, Name, Num, Line, Unknown, Unworked, End, same}
use Rattle.c_grammar.specs.Blocks.{Items}
use Rattle.c_grammar.specs.Expressions.{Values, Nothing, Worked, Number, Fault, as_items, as_terminal, expression, placed_of, value_of}
use Rattle.c_grammar.specs.Constants.{Defines, defined, definition, definition_in, has_parameters, is_remark, new_only}
use Rattle.directives.specs.declared.line_tokens.LineTokens.{LineTokens}
use Rattle.directives.specs.Ahead.{seen_line}
use Rattle.directives.specs.declared.lexeme.PlacedLexeme.{PlacedLexeme}
use Rattle.directives.specs.Spells.{kinds_of, columns_of}
use Rattle.c_terminals.specs.declared.token.Terminal.{Terminal as Given}
use Rattle.c_terminals.specs.declared.token.Terminal.TheVariants as given
use Rattle.c_terminals.specs.declared.token.Token.{Token}
use Rattle.c_terminals.specs.Seen.{item_at, seen, seen_terminal}
use Rattle.c_written.specs.Forms.{all_placed}
use Rattle.c_written.specs.Lines.{named, named_by}
use Rattle.c_written.proofs.Remarks.{remark_anywhere}
use Rattle.c_terminals.proofs.Placing.{placed_again}

drop_items : (line k : ℕ) (ps : List Placed) → drop k (as_items line ps) ≡ as_items line (drop k ps)
drop_items line zero ps = refl
drop_items line (suc k) [] = refl
drop_items line (suc k) (p ∷ ps) = drop_items line k ps

drop_placed : (k : ℕ) (ps : List PlacedLexeme) → drop k (all_placed ps) ≡ all_placed (drop k ps)
drop_placed zero ps = refl
drop_placed (suc k) [] = refl
drop_placed (suc k) (p ∷ ps) = drop_placed k ps

remark_behind : (line k : ℕ) (ps : List Placed) → is_remark (drop k (as_items line ps)) ≡ is_remark (drop k (as_items 0 ps))
remark_behind line k ps =
    ap is_remark (drop_items line k ps) ∙ remark_anywhere line (drop k ps) ∙ sym (ap is_remark (drop_items 0 k ps))

-- the tokens behind the expression
pub remark_at : (k : ℕ) (ps qs : List PlacedLexeme) (b : Bool) → qs ≡ drop k ps → is_remark (as_items 0 (all_placed qs)) ≡ b →
    is_remark (drop k (as_items 0 (all_placed ps))) ≡ b
remark_at k ps qs b e f =
    ap is_remark (drop_items 0 k (all_placed ps) ∙ ap (as_items 0) (drop_placed k ps))
    ∙ ap (λ (rs : List PlacedLexeme). is_remark (as_items 0 (all_placed rs))) (sym e) ∙ f

-- ---- a number

pub defines_none : (vs : Values) (x : List ℕ) (is : Items) (w : Option Worked) (k n : ℕ) → w ≡ Some (Number k n) →
    is_remark (drop k is) ≡ false → new_only vs (defined x is w) ≡ None
defines_none vs x is w k n e r = ap (λ (o : Option Worked). new_only vs (defined x is o)) e ∙ rw r refl

pub defines_again : (vs : Values) (x : List ℕ) (is : Items) (w : Option Worked) (k n m : ℕ) → w ≡ Some (Number k n) →
    is_remark (drop k is) ≡ true → value_of vs x ≡ Some m → new_only vs (defined x is w) ≡ None
defines_again vs x is w k n m e r f = ap (λ (o : Option Worked). new_only vs (defined x is o)) e ∙ rw (r, f) refl

pub defines_new : (vs : Values) (x : List ℕ) (is : Items) (w : Option Worked) (k n : ℕ) → w ≡ Some (Number k n) →
    is_remark (drop k is) ≡ true → value_of vs x ≡ None → new_only vs (defined x is w) ≡ Some (Defines x n)
defines_new vs x is w k n e r f = ap (λ (o : Option Worked). new_only vs (defined x is o)) e ∙ rw (r, f) refl

-- ---- wherever the line stands

pub defined_anywhere : (line : ℕ) (x : List ℕ) (ps : List Placed) (w : Option Worked) →
    defined x (as_items line ps) w ≡ defined x (as_items 0 ps) w
defined_anywhere line x ps None = refl
defined_anywhere line x ps (Some (Fault k i)) = refl
defined_anywhere line x ps (Some (Number k n)) =
    ap (λ (b : Bool). cond b (Some (Defines x n)) None) (remark_behind line k ps)

by_terminal : (vs : Values) (line c : ℕ) (t : Terminal) (d : Placed) (ps : List Placed) →
    same (Name (codes "define")) (as_terminal d.lexeme) ≡ true →
    definition_in vs (record { terminal = as_terminal d.lexeme; line = line; column = d.column; columns = [] } ∷
    record { terminal = t; line = line; column = c; columns = [] } ∷ as_items line ps) ≡ named_by vs line t c ps
by_terminal vs line c (Fixed w) d ps e = rw e refl
by_terminal vs line c (Mark s) d ps e = rw e refl
by_terminal vs line c (Name x) d ps e = rw e refl
by_terminal vs line c (Num n) d ps e = rw e refl
by_terminal vs line c (Line ts) d ps e = rw e refl
by_terminal vs line c Unknown d ps e = rw e refl
by_terminal vs line c Unworked d ps e = rw e refl
by_terminal vs line c End d ps e = rw e refl

-- behind the word define
pub defines_named : (vs : Values) (line : ℕ) (d p : Placed) (ps : List Placed) →
    same (Name (codes "define")) (as_terminal d.lexeme) ≡ true →
    definition_in vs (as_items line (d ∷ p ∷ ps)) ≡ named vs line p ps
defines_named vs line d p ps e = by_terminal vs line p.column (as_terminal p.lexeme) d ps e

pub defines_other : (vs : Values) (line : ℕ) (d p : Placed) (ps : List Placed) →
    same (Name (codes "define")) (as_terminal d.lexeme) ≡ false → definition_in vs (as_items line (d ∷ p ∷ ps)) ≡ None
defines_other vs line d p ps e = rw e refl

pub defines_short : (vs : Values) (line : ℕ) (ps : List Placed) → length ps < 2 → definition_in vs (as_items line ps) ≡ None
defines_short vs line [] h = refl
defines_short vs line (p ∷ []) h = refl
defines_short vs line (p ∷ q ∷ ps) h = absurd (omega arith)

-- ---- the tokens of a line with their columns

pub line_defines : (vs : Values) (t : Token) (l : Bor LineTokens) → t.terminal ≡ given.Line l →
    definition vs (seen t) (seen_terminal t.terminal) ≡ new_only vs (definition_in vs (as_items t.line (seen_line l.now)))
line_defines vs t l e =
    ap (λ (g : Given). definition vs (item_at t g) (seen_terminal g)) e
    ∙ ap (λ (ps : List Placed). new_only vs (definition_in vs (as_items t.line ps))) (placed_again (seen_line l.now))

-- ---- a name

parameters_anywhere : (line c : ℕ) (ps : List Placed) → has_parameters c (as_items line ps) ≡ has_parameters c (as_items 0 ps)
parameters_anywhere line c [] = refl
parameters_anywhere line c (p ∷ ps) = refl

pub named_with : (vs : Values) (line : ℕ) (p : Placed) (ps : List Placed) (x : List ℕ) → as_terminal p.lexeme ≡ Name x →
    has_parameters (p.column + length x) (as_items 0 ps) ≡ true → named vs line p ps ≡ None
named_with vs line p ps x e f =
    let with : has_parameters (p.column + length x) (as_items line ps) ≡ true = parameters_anywhere line (p.column + length x) ps ∙ f in
    ap (λ (t : Terminal). named_by vs line t p.column ps) e ∙ rw with refl

pub named_without : (vs : Values) (line : ℕ) (p : Placed) (ps : List Placed) (x : List ℕ) → as_terminal p.lexeme ≡ Name x →
    has_parameters (p.column + length x) (as_items 0 ps) ≡ false →
    named vs line p ps ≡ defined x (as_items line ps) (expression vs true Nothing [] 0 (as_items line ps))
named_without vs line p ps x e f =
    let without : has_parameters (p.column + length x) (as_items line ps) ≡ false = parameters_anywhere line (p.column + length x) ps ∙ f in
    ap (λ (t : Terminal). named_by vs line t p.column ps) e ∙ rw without refl
