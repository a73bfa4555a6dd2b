-- The machine at the line of an atomic update.
use Rattle.std.proofs.Common.{◌≡◌, ℕ, ◌<◌, ◌≤◌, true, false, List, [], ◌∷◌, Option, Some, None, refl, sym, ap, ◌∙◌, le-leb}
use Rattle.std.specs.Prelude.{nat_le}
use Rattle.std.proofs.lemmas.Bool.{and_parts, lt-leb}
use Rattle.base.specs.declared.fault.ReadCode.{ReadCode as Code}
use Rattle.base.specs.declared.fault.ReadCode.TheVariants.{TooMany}
use Rattle.base.specs.declared.fault.TextFault.{TextFault}
use Rattle.base.proofs.Nils.{nil_map}
use Rattle.c_grammar.specs.Lexeme.{Lexeme, Placed as PlacedLexeme}
use Rattle.c_grammar.specs.LineGrammar.{Clause, MapOf, DependOf, MotionOf, NoWait, DeviceOf, AmountOf, ScheduleOf, DirectiveKind, Target, Data, Enter, Exit, Update, Wait, AtomicUpdate, Combined}
use Rattle.c_grammar.specs.LineRules.{AreClauses, IsLine}
use Rattle.c_grammar.specs.Lines.{is_atomic, is_atomic_kind, is_omp, line_fault, uses_of}
use Rattle.c_grammar.specs.Terminal.{Terminal, Line}
use Rattle.c_grammar.specs.Texts.{Item}
use Rattle.c_grammar.specs.Grammar.{Marks, for}
use Rattle.c_grammar.specs.Rules.{Context, breaks, enter, begun, out, max_statements}
use Rattle.c_grammar.specs.Program.{Stack, first_broken}
use Rattle.c_grammar.specs.Source.{nth}
use Rattle.c_grammar.proofs.SourceLaws.{same_itself}
use Rattle.c_expressions.specs.declared.cursor.Cursor.{Cursor}
use Rattle.c_expressions.specs.declared.scope.Scope.{Scope}
use Rattle.c_expressions.specs.Means.{Items}
use Rattle.c_expressions.specs.Cursor.{items, first_item, behind}
use Rattle.c_expressions.specs.Reading.{run, took, fault_at}
use Rattle.c_expressions.specs.Scopes.{context_of}
use Rattle.c_expressions.proofs.Going.{put, put_is}
use Rattle.directives.specs.declared.fault.LineFault.{LineFault}
use Rattle.directives.specs.declared.tree.Directive.{Directive}
use Rattle.directives.specs.Names.{IsInSource, at_column, clause_names, each_names, names_in}
use Rattle.directives.specs.Spells.{at_columns, kinds_of, columns_of, line_answer}
use Rattle.directives.specs.Trees.{clause_of, text_of}
use Rattle.c_statements.specs.Simple.{counted, is_atomic_line}

-- ---- it has no clauses, and so no names

no_clauses : (cs : List Clause) → AreClauses AtomicUpdate cs → cs ≡ []
no_clauses [] h = refl
no_clauses (MapOf ms t is ∷ cs) h = absurd (let e : false ≡ true = h.0.0 in cc)
no_clauses (DependOf t is ∷ cs) h = absurd (let e : false ≡ true = h.0 in cc)
no_clauses (MotionOf t p is ∷ cs) h = absurd (let e : false ≡ true = h.0 in cc)
no_clauses (NoWait ∷ cs) h = absurd (let e : false ≡ true = h.0 in cc)
no_clauses (DeviceOf n ∷ cs) h = absurd (let e : false ≡ true = h.0 in cc)
no_clauses (AmountOf a n ∷ cs) h = absurd (let e : false ≡ true = h.0 in cc)
no_clauses (ScheduleOf t o ∷ cs) h = absurd (let e : false ≡ true = h.0.0 in cc)

kind_alone : (k : DirectiveKind) (cs : List Clause) → is_atomic_kind k ≡ true → AreClauses k cs → cs ≡ []
kind_alone AtomicUpdate cs e h = no_clauses cs h
kind_alone Target cs e h = absurd cc
kind_alone Data cs e h = absurd cc
kind_alone Enter cs e h = absurd cc
kind_alone Exit cs e h = absurd cc
kind_alone Update cs e h = absurd cc
kind_alone (Combined c) cs e h = absurd cc
kind_alone Wait cs e h = absurd cc

no_uses : (line : List PlacedLexeme) (d : Directive) → IsInSource line d → IsLine (text_of d) →
    is_atomic (kinds_of line) ≡ true → uses_of (kinds_of line) ≡ []
unfolding is_atomic names_in
no_uses line d known h a =
    let none : d.clauses.items ≡ [] = nil_map clause_of d.clauses.items
    (kind_alone (text_of d).kind (text_of d).clauses (ap is_atomic_kind (sym known.kind) ∙ a) h) in
    nil_map (at_column (columns_of line)) (uses_of (kinds_of line))
    (known.names ∙ ap (each_names clause_names) none)

-- ---- its rules

item_many : (c : Context) (s : Stack) (i : Item Terminal) (is : Items) (ts : List Lexeme) →
    nat_le max_statements c.statements ≡ true → took c (for Marks) s (put i (Line ts) ∷ is) ≡ Some (fault_at i TooMany)
unfolding took first_broken breaks
item_many c s i is ts h = rw h refl

item_bad : (c : Context) (s : Stack) (i : Item Terminal) (is : Items) (ts : List Lexeme) (f : ℕ × Code) →
    nat_le max_statements c.statements ≡ false → line_fault ts ≡ Some f →
    took c (for Marks) s (put i (Line ts) ∷ is) ≡ Some
    (record { code = f.1; line = i.line; column = nth i.columns f.0 })
unfolding took first_broken breaks
item_bad c s i is ts f h e = rw (h, e) (rw (e, same_itself f.1) (rw e refl))

item_marks : (c : Context) (s : Stack) (i : Item Terminal) (is : Items) (ts : List Lexeme) →
    nat_le max_statements c.statements ≡ false → line_fault ts ≡ None → uses_of ts ≡ [] →
    took c (for Marks) s (put i (Line ts) ∷ is) ≡ run (begun (out c)) s is
unfolding took run first_broken breaks enter
item_marks c s i is ts h e u = rw (h, e, u) refl

-- ---- at the line

at_put : (c : Context) (s : Stack) (ts : List Lexeme) (t : Cursor) → (first_item t).terminal ≡ Line ts →
    took c (for Marks) s (items t) ≡ took c (for Marks) s (put (first_item t) (Line ts) ∷ behind t)
at_put c s ts t e = ap (λ (i : Item Terminal). took c (for Marks) s (i ∷ behind t)) (put_is (first_item t) (Line ts) e)

pub many_marks : (sc : Scope) (s : Stack) (ts : List Lexeme) (t : Cursor) → (first_item t).terminal ≡ Line ts →
    max_statements ≤ sc.statements → took (context_of sc 0 0) (for Marks) s (items t) ≡
    Some (fault_at (first_item t) TooMany)
many_marks sc s ts t e h = at_put (context_of sc 0 0) s ts t e
    ∙ item_many (context_of sc 0 0) s (first_item t) (behind t) ts (le-leb max_statements sc.statements h)

abbrev fault_on : ℕ → Option LineFault → Option TextFault
fault_on line None = None
fault_on line (Some f) = Some (record { code = f.code; line = line; column = f.column })

-- a line with a fault of its own
pub bad_marks : (sc : Scope) (s : Stack) (line : List PlacedLexeme) (f : LineFault) (t : Cursor) →
    (first_item t).terminal ≡ Line (kinds_of line) → (first_item t).columns ≡ columns_of line →
    sc.statements < max_statements → line_answer line ≡ Some f → took (context_of sc 0 0) (for Marks) s (items t) ≡
    Some (record { code = f.code; line = (first_item t).line; column = f.column })
unfolding line_answer
bad_marks sc s line f t e cs h w = go (line_fault (kinds_of line)) refl
  where
    go : (o : Option (ℕ × Code)) → line_fault (kinds_of line) ≡ o →
        took (context_of sc 0 0) (for Marks) s (items t) ≡
        Some (record { code = f.code; line = (first_item t).line; column = f.column })
    go None o = absurd (let none : at_columns (columns_of line) None ≡ Some f =
        ap (at_columns (columns_of line)) (sym o) ∙ w in cc)
    go (Some g) o =
        at_put (context_of sc 0 0) s (kinds_of line) t e
        ∙ item_bad (context_of sc 0 0) s (first_item t) (behind t) (kinds_of line) g
        (lt-leb max_statements sc.statements h) o
        ∙ ap (fault_on (first_item t).line) (ap (λ (ks : List ℕ). at_columns ks (Some g)) cs ∙ ap (at_columns (columns_of line)) (sym o) ∙ w)

-- one with none
pub go_marks : (sc : Scope) (s : Stack) (line : List PlacedLexeme) (d : Directive) (t : Cursor) →
    (first_item t).terminal ≡ Line (kinds_of line) → sc.statements < max_statements → line_answer line ≡ None →
    IsInSource line d → IsLine (text_of d) → is_atomic_line (first_item t).terminal ≡ true →
    took (context_of sc 0 0) (for Marks) s (items t) ≡ run (context_of (counted sc) 0 0) s (behind t)
unfolding line_answer
go_marks sc s line d t e h w known l a = go (line_fault (kinds_of line)) refl
  where
    marks : is_atomic (kinds_of line) ≡ true
    marks = (and_parts (is_omp (kinds_of line)) (is_atomic (kinds_of line)) (ap is_atomic_line (sym e) ∙ a)).1

    go : (o : Option (ℕ × Code)) → line_fault (kinds_of line) ≡ o →
        took (context_of sc 0 0) (for Marks) s (items t) ≡ run (context_of (counted sc) 0 0) s (behind t)
    go (Some f) o = absurd (let some : at_columns (columns_of line) (Some f) ≡ None =
        ap (at_columns (columns_of line)) (sym o) ∙ w in cc)
    go None o =
        at_put (context_of sc 0 0) s (kinds_of line) t e
        ∙ item_marks (context_of sc 0 0) s (first_item t) (behind t) (kinds_of line)
        (lt-leb max_statements sc.statements h) o (no_uses line d known l marks)
