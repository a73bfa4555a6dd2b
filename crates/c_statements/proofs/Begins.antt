-- The machine at the first token of a statement.
use Rattle.std.proofs.Common.{◌≡◌, true, false, List, ◌∷◌, Some, None, ℕ, refl, ap, ◌∙◌}
use Rattle.c_tokens.specs.declared.kind.Sign.TheVariants as sign
use Rattle.base.specs.declared.fault.ReadCode.TheVariants.{Unexpected}
use Rattle.c_grammar.specs.Lexeme.{Uint64, For, If, Else, Print}
use Rattle.c_grammar.specs.Terminal.{Terminal, Fixed, Mark, Name, Num, Line, Unknown, Unworked, End, same}
use Rattle.c_grammar.specs.Grammar.{DeclaresLocal, Starts, StartsIf, Prints, Assigned, StartsBlock, for}
use Rattle.c_grammar.specs.Rules.{Context, rule_here}
use Rattle.c_grammar.specs.Program.{Stack, WantName, Value, AfterName, Atom, Tail, Body, OrElse, m, body, loop, advance, place_code}
use Rattle.c_expressions.specs.declared.cursor.Cursor.{Cursor}
use Rattle.c_expressions.specs.Cursor.{items, first_item, behind}
use Rattle.c_expressions.specs.Reading.{run, took, misfit_at, is_directive}
use Rattle.c_expressions.proofs.Going.{stop}
use Rattle.c_expressions.proofs.Terms.{item_took}
use Rattle.c_statements.specs.Simple.{ending, print_rest}
use Rattle.c_statements.proofs.Braces.{no_else}

abbrev declaration : Stack → Stack
declaration s = WantName DeclaresLocal ∷ m sign.Equal ∷ Value ∷ ending true ∷ Body ∷ s

abbrev chosen : Stack → Stack
chosen s = m sign.OpenParen ∷ Atom ∷ Tail 9 ∷ m sign.CloseParen ∷ body (OrElse ∷ Body ∷ s)

body_declaration : (s : Stack) → advance (Body ∷ s) (Fixed Uint64) ≡ Some (for Starts, declaration s)
unfolding advance
body_declaration s = refl

body_loop : (s : Stack) → advance (Body ∷ s) (Fixed For) ≡ Some (for Starts, loop 0 (Body ∷ s))
unfolding advance
body_loop s = refl

body_choice : (s : Stack) → advance (Body ∷ s) (Fixed If) ≡ Some (for StartsIf, chosen s)
unfolding advance
body_choice s = refl

body_print : (s : Stack) → advance (Body ∷ s) (Fixed Print) ≡ Some (for Prints, print_rest (Body ∷ s))
unfolding advance
body_print s = refl

body_block : (s : Stack) → advance (Body ∷ s) (Mark sign.OpenBrace) ≡ Some (for StartsBlock, Body ∷ Body ∷ s)
unfolding advance
body_block s = refl

body_name : (s : Stack) (x : List ℕ) → advance (Body ∷ s) (Name x) ≡ Some (for Assigned, AfterName ∷ Body ∷ s)
unfolding advance
body_name s x = refl

pub at_declaration : (c : Context) (s : Stack) (t : Cursor) → (first_item t).terminal ≡ Fixed Uint64 →
    run c (Body ∷ s) (items t) ≡ took c (for Starts) (WantName DeclaresLocal ∷ m sign.Equal ∷ Value ∷ ending true ∷
    Body ∷ s) (items t)
at_declaration c s t e = item_took c (Body ∷ s) (declaration s) (for Starts) (first_item t) (behind t)
    (ap (advance (Body ∷ s)) e ∙ body_declaration s)

pub at_loop : (c : Context) (s : Stack) (t : Cursor) → (first_item t).terminal ≡ Fixed For →
    run c (Body ∷ s) (items t) ≡ took c (for Starts) (loop 0 (Body ∷ s)) (items t)
at_loop c s t e = item_took c (Body ∷ s) (loop 0 (Body ∷ s)) (for Starts) (first_item t) (behind t)
    (ap (advance (Body ∷ s)) e ∙ body_loop s)

pub at_choice : (c : Context) (s : Stack) (t : Cursor) → (first_item t).terminal ≡ Fixed If →
    run c (Body ∷ s) (items t) ≡ took c (for StartsIf) (m sign.OpenParen ∷ Atom ∷ Tail 9 ∷ m sign.CloseParen ∷ body
    (OrElse ∷ Body ∷ s)) (items t)
at_choice c s t e = item_took c (Body ∷ s) (chosen s) (for StartsIf) (first_item t) (behind t)
    (ap (advance (Body ∷ s)) e ∙ body_choice s)

pub at_print : (c : Context) (s : Stack) (t : Cursor) → (first_item t).terminal ≡ Fixed Print →
    run c (Body ∷ s) (items t) ≡ took c (for Prints) (print_rest (Body ∷ s)) (items t)
at_print c s t e = item_took c (Body ∷ s) (print_rest (Body ∷ s)) (for Prints) (first_item t) (behind t)
    (ap (advance (Body ∷ s)) e ∙ body_print s)

pub at_block : (c : Context) (s : Stack) (t : Cursor) → (first_item t).terminal ≡ Mark sign.OpenBrace →
    run c (Body ∷ s) (items t) ≡ took c (for StartsBlock) (Body ∷ Body ∷ s) (items t)
at_block c s t e = item_took c (Body ∷ s) (Body ∷ Body ∷ s) (for StartsBlock) (first_item t) (behind t)
    (ap (advance (Body ∷ s)) e ∙ body_block s)

pub at_name : (c : Context) (s : Stack) (x : List ℕ) (t : Cursor) → (first_item t).terminal ≡ Name x →
    run c (Body ∷ s) (items t) ≡ took c (for Assigned) (AfterName ∷ Body ∷ s) (items t)
at_name c s x t e = item_took c (Body ∷ s) (AfterName ∷ Body ∷ s) (for Assigned) (first_item t) (behind t)
    (ap (advance (Body ∷ s)) e ∙ body_name s x)

-- a token at which no statement begins
abbrev pub NoStmt : Terminal → Type 0
NoStmt (Fixed w) = (same (Fixed Uint64) (Fixed w) ≡ false) × (same (Fixed For) (Fixed w) ≡ false) ×
    (same (Fixed If) (Fixed w) ≡ false) × (same (Fixed Print) (Fixed w) ≡ false)
NoStmt (Mark x) = same (Mark sign.OpenBrace) (Mark x) ≡ false
NoStmt (Name x) = ⊥
NoStmt _ = Unit {0}

body_none : (s : Stack) (t : Terminal) → NoStmt t → same (Mark sign.CloseBrace) t ≡ false → is_directive t ≡ false →
    advance (Body ∷ s) t ≡ None
unfolding advance
body_none s (Fixed w) h e d = rw (h.0, h.1, h.2, h.3) refl
body_none s (Mark x) h e d = rw (e, h) refl
body_none s (Name x) h e d = absurd h
body_none s (Num n) h e d = refl
body_none s (Line ts) h e d = rw d refl
body_none s Unknown h e d = refl
body_none s Unworked h e d = refl
body_none s End h e d = refl

pub stop_stmt : (c : Context) (s : Stack) (t : Cursor) → NoStmt (first_item t).terminal →
    same (Mark sign.CloseBrace) (first_item t).terminal ≡ false → is_directive (first_item t).terminal ≡ false →
    run c (Body ∷ s) (items t) ≡ Some (misfit_at (Some (rule_here Unexpected)) (first_item t))
unfolding place_code
stop_stmt c s t h e d = stop c (Body ∷ s) (first_item t) (behind t) (body_none s (first_item t).terminal h e d) refl

-- without an else
pub no_else_here : (c : Context) (s : Stack) (t : Cursor) → same (Fixed Else) (first_item t).terminal ≡ false →
    run c (OrElse ∷ Body ∷ s) (items t) ≡ run c (Body ∷ s) (items t)
unfolding place_code
no_else_here c s t e = no_else c (Body ∷ s) t e refl
