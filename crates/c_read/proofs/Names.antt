-- The machine at the name of a global.
use Rattle.std.proofs.Common.{◌≡◌, ℕ, Bool, true, false, cond, List, ◌∷◌, length, Option, Some, None, refl, sym, ap, ◌∙◌}
use Rattle.std.specs.Prelude.{nat_lt, nat_le, ◌||◌, ◌&&◌}
use Rattle.c_tokens.specs.declared.kind.Sign.TheVariants as sign
use Rattle.base.specs.declared.tree.Place.{Place}
use Rattle.base.specs.declared.fault.ReadCode.{ReadCode as Code}
use Rattle.base.specs.declared.fault.ReadCode.TheVariants.{Unexpected, AlreadyDeclared, TooMany}
use Rattle.base.specs.declared.fault.TextFault.{TextFault}
use Rattle.c_grammar.specs.LineRules.{max_name}
use Rattle.c_grammar.specs.Terminal.{Terminal, Fixed, Mark, Name, Num, Line, Unknown, Unworked, End, same}
use Rattle.c_grammar.specs.Texts.{Item, next_of}
use Rattle.c_grammar.specs.Machine.{run as machine_run}
use Rattle.c_grammar.specs.Grammar.{DeclaresGlobal}
use Rattle.c_grammar.specs.Rules.{Context, breaks, enter, is_visible, sort_of, rule_here, max_arrays, max_scalars, source_grammar}
use Rattle.c_grammar.specs.Program.{Stack, WantName, AfterGlobal, advance, place_code, first_broken}
use Rattle.c_expressions.specs.declared.cursor.Cursor.{Cursor}
use Rattle.c_expressions.specs.declared.scope.Scope.{Scope}
use Rattle.c_expressions.specs.Means.{Items, place_of}
use Rattle.c_expressions.specs.Cursor.{items, first_item, behind}
use Rattle.c_expressions.specs.Reading.{run, fault_at, misfit_at}
use Rattle.c_expressions.specs.Scopes.{context_of}
use Rattle.c_expressions.proofs.Going.{put, put_is, stop}
use Rattle.c_read.specs.Globals.{naming, global_code, is_over}

named_by : Context → Stack → List ℕ → Item Terminal → Items → Option Code → Option TextFault
named_by c s x i is None = run (naming x c) (AfterGlobal ∷ s) is
named_by c s x i is (Some code) = Some (fault_at i code)

code_by : Bool → Bool → Option Code
code_by v o = cond v (Some AlreadyDeclared) (cond o (Some TooMany) None)

item_global : (c : Context) (s : Stack) (x : List ℕ) (i : Item Terminal) (is : Items) (v o : Bool) →
    v ≡ is_visible (sort_of c x) →
    o ≡ (nat_lt max_name (length x) || ((same (Mark sign.OpenBracket) (next_of source_grammar is) && nat_le max_arrays c.arrays) ||
    (same (Mark sign.Semicolon) (next_of source_grammar is) && nat_le max_scalars c.scalars))) →
    run c (WantName DeclaresGlobal ∷ AfterGlobal ∷ s) (put i (Name x) ∷ is) ≡ named_by c s x i is (code_by v o)
unfolding run machine_run advance first_broken breaks enter named_by code_by
item_global c s x i is true o e f = rw (sym e) refl
item_global c s x i is false true e f = rw (sym e, sym f) refl
item_global c s x i is false false e f = rw (sym e, sym f) refl

global_begins : (sc : Scope) (s : Stack) (x : List ℕ) (t t' : Cursor) (r : Option Code) →
    (first_item t).terminal ≡ Name x → behind t ≡ items t' → global_code sc x (first_item t').terminal ≡ r →
    run (context_of sc 0 0) (WantName DeclaresGlobal ∷ AfterGlobal ∷ s) (items t) ≡
    named_by (context_of sc 0 0) s x (first_item t) (items t') r
unfolding code_by
global_begins sc s x t t' r e b a =
    let c = context_of sc 0 0 in
    ap (λ (i : Item Terminal). run c (WantName DeclaresGlobal ∷ AfterGlobal ∷ s) (i ∷ behind t)) (put_is (first_item t) (Name x) e)
    ∙ ap (λ (is : Items). run c (WantName DeclaresGlobal ∷ AfterGlobal ∷ s) (put (first_item t) (Name x) ∷ is)) b
    ∙ item_global c s x (first_item t) (items t') (is_visible (sort_of c x)) (is_over sc x (first_item t').terminal) refl refl
    ∙ ap (named_by c s x (first_item t) (items t')) a

pub bad_name : (sc : Scope) (s : Stack) (x : List ℕ) (t t' : Cursor) (place : Place) (code : Code) →
    (first_item t).terminal ≡ Name x → behind t ≡ items t' → place ≡ place_of (items t) →
    global_code sc x (first_item t').terminal ≡ Some code →
    run (context_of sc 0 0) (WantName DeclaresGlobal ∷ AfterGlobal ∷ s) (items t) ≡
    Some (record { code = code; line = place.line; column = place.column })
unfolding named_by
bad_name sc s x t t' place code e b w a = global_begins sc s x t t' (Some code) e b a
    ∙ ap (λ (u : Place). Some (record { code = code; line = u.line; column = u.column })) (sym w)

pub go_name : (sc : Scope) (s : Stack) (x : List ℕ) (t t' : Cursor) → (first_item t).terminal ≡ Name x →
    behind t ≡ items t' → global_code sc x (first_item t').terminal ≡ None →
    run (context_of sc 0 0) (WantName DeclaresGlobal ∷ AfterGlobal ∷ s) (items t) ≡
    run (naming x (context_of sc 0 0)) (AfterGlobal ∷ s) (items t')
unfolding named_by
go_name sc s x t t' e b a = global_begins sc s x t t' None e b a

abbrev pub NoName : Terminal → Type 0
NoName (Name x) = ⊥
NoName _ = Unit {0}

name_none : (s : Stack) (t : Terminal) → NoName t → advance (WantName DeclaresGlobal ∷ s) t ≡ None
unfolding advance
name_none s (Fixed w) h = refl
name_none s (Mark x) h = refl
name_none s (Name x) h = absurd h
name_none s (Num n) h = refl
name_none s (Line ts) h = refl
name_none s Unknown h = refl
name_none s Unworked h = refl
name_none s End h = refl

pub stop_name : (c : Context) (s : Stack) (t : Cursor) → NoName (first_item t).terminal →
    run c (WantName DeclaresGlobal ∷ s) (items t) ≡ Some (misfit_at (Some (rule_here Unexpected)) (first_item t))
unfolding place_code
stop_name c s t h = stop c (WantName DeclaresGlobal ∷ s) (first_item t) (behind t) (name_none s (first_item t).terminal h) refl
