-- The machine at a directive line outside a target.
use Rattle.std.proofs.Common.{◌≡◌, ℕ, ◌<◌, ◌≤◌, Bool, true, false, List, ◌∷◌, map, Option, Some, None, refl, sym, ap, ◌∙◌, le-leb}
use Rattle.std.specs.Prelude.{nat_le, not}
use Rattle.std.proofs.lemmas.Bool.{and_from, lt-leb}
use Rattle.base.specs.declared.fault.ReadCode.{ReadCode as Code}
use Rattle.base.specs.declared.fault.ReadCode.TheVariants.{TooMany, DirectiveInTarget, DirectiveUnderIf}
use Rattle.base.specs.declared.fault.TextFault.{TextFault}
use Rattle.c_grammar.specs.Lexeme.{Lexeme, Placed as PlacedLexeme}
use Rattle.c_grammar.specs.Lines.{line_fault, uses_of}
use Rattle.c_grammar.specs.Terminal.{Terminal, Fixed, Mark, Name, Num, Line, Unknown, Unworked, End}
use Rattle.c_grammar.specs.Texts.{Item, next_of}
use Rattle.c_grammar.specs.Grammar.{for}
use Rattle.c_grammar.specs.Rules.{Context, Rule, breaks, enter, inside, is_fault, names_boxes, under_if, max_statements, source_grammar}
use Rattle.c_grammar.specs.Program.{Stack, first_broken, first_rule, fault_rules, use_rules, joined}
use Rattle.c_grammar.specs.Source.{nth, fault_token}
use Rattle.c_expressions.specs.declared.cursor.Cursor.{Cursor}
use Rattle.c_expressions.specs.declared.scope.Scope.{Scope}
use Rattle.c_expressions.specs.Means.{Items}
use Rattle.c_expressions.specs.Cursor.{items, first_item, behind}
use Rattle.c_expressions.specs.Reading.{run, took, fault_at, is_line}
use Rattle.c_expressions.specs.Scopes.{context_of}
use Rattle.c_expressions.proofs.Going.{put, put_is}
use Rattle.directives.specs.declared.fault.LineFault.{LineFault}
use Rattle.directives.specs.declared.tree.Directive.{Directive}
use Rattle.directives.specs.Names.{IsInSource, at_column, names_in}
use Rattle.directives.specs.Spells.{at_columns, kinds_of, columns_of, line_answer}
use Rattle.c_constructs.specs.Uses.{fault_in, names_fault}
use Rattle.c_constructs.specs.Steps.{act_of}
use Rattle.c_constructs.proofs.LineFaults.{IsOfLine, at_line, placed_rule, all_rise, first_name}
use Rattle.c_grammar.proofs.SourceLaws.{same_itself}

-- ---- the rules at the first byte

item_many : (c : Context) (over : Bool) (s : Stack) (i : Item Terminal) (is : Items) (ts : List Lexeme) →
    nat_le max_statements c.statements ≡ true → took c (for (act_of over)) s (put i (Line ts) ∷ is) ≡ Some
    (fault_at i TooMany)
unfolding took first_broken breaks
item_many c false s i is ts h = rw h refl
item_many c true s i is ts h = rw h refl

item_inside : (c : Context) (over : Bool) (s : Stack) (i : Item Terminal) (is : Items) (ts : List Lexeme) →
    nat_le max_statements c.statements ≡ false → inside c ≡ true →
    took c (for (act_of over)) s (put i (Line ts) ∷ is) ≡ Some (fault_at i DirectiveInTarget)
unfolding took first_broken breaks
item_inside c false s i is ts h b = rw (h, b) refl
item_inside c true s i is ts h b = rw (h, b) refl

item_under : (c : Context) (over : Bool) (s : Stack) (i : Item Terminal) (is : Items) (ts : List Lexeme) →
    nat_le max_statements c.statements ≡ false → inside c ≡ false → under_if c ≡ true →
    took c (for (act_of over)) s (put i (Line ts) ∷ is) ≡ Some (fault_at i DirectiveUnderIf)
unfolding took first_broken breaks
item_under c false s i is ts h b d = rw (h, b, d) refl
item_under c true s i is ts h b d = rw (h, b, d) refl

-- ---- the rules of the line

front : (c : Context) (over : Bool) (ts : List Lexeme) (n : Terminal) → nat_le max_statements c.statements ≡ false →
    inside c ≡ false → under_if c ≡ false →
    first_broken c (Line ts, for (act_of over)) n ≡ first_rule (at_line c ts (act_of over) n)
    (joined (fault_rules (line_fault ts)) (use_rules (uses_of ts)))
unfolding first_broken breaks
front c false ts n h b d = rw (h, b, d) refl
front c true ts n h b d = rw (h, b, d) refl

abbrev pub fault_on : ℕ → Option LineFault → Option TextFault → Option TextFault
fault_on line None rest = rest
fault_on line (Some f) rest = Some (record { code = f.code; line = line; column = f.column })

-- what comes of the first rule that is broken
took_line : (c : Context) (over : Bool) (s : Stack) (i : Item Terminal) (is : Items) (ts : List Lexeme)
    (o : Option Rule) →
    first_broken c (Line ts, for (act_of over)) (next_of source_grammar is) ≡ o →
    took c (for (act_of over)) s (put i (Line ts) ∷ is) ≡ fault_on i.line (placed_rule (put i (Line ts)) o)
    (run (enter c (Line ts, for (act_of over))) s is)
unfolding took run
took_line c over s i is ts None e = rw e refl
took_line c over s i is ts (Some r) e = rw e refl

directive_act : (ts : List Lexeme) (over : Bool) → IsOfLine ts (act_of over)
directive_act ts true = refl
directive_act ts false = refl

own_test : (c : Context) (ts : List Lexeme) (over : Bool) (n : Terminal) (f : ℕ × Code) → line_fault ts ≡ Some f →
    at_line c ts (act_of over) n (record { part = 1; code = f.1 }) ≡ true
unfolding breaks
own_test c ts over n f e = and_from (is_fault f.1 (line_fault ts)) (not (names_boxes (Line ts) (act_of over)))
    (rw e (same_itself f.1)) (directive_act ts over)

own_rule : (c : Context) (over : Bool) (i : Item Terminal) (ts : List Lexeme) (n : Terminal) (f : ℕ × Code) →
    line_fault ts ≡ Some f →
    placed_rule (put i (Line ts)) (first_rule (at_line c ts (act_of over) n)
    (joined (fault_rules (line_fault ts)) (use_rules (uses_of ts)))) ≡ at_columns i.columns (Some f)
own_rule c over i ts n f e =
    ap (λ (o : Option (ℕ × Code)). placed_rule (put i (Line ts)) (first_rule (at_line c ts (act_of over) n)
    (joined (fault_rules o) (use_rules (uses_of ts))))) e
    ∙ (rw (own_test c ts over n f e) refl)
    ∙ ap (λ (o : Option (ℕ × Code)). own_fault (nth i.columns (fault_token o))) e
  where
    own_fault : ℕ → Option LineFault
    own_fault k = Some (record { code = f.1; column = k })

name_rule : (c : Context) (over : Bool) (i : Item Terminal) (ts : List Lexeme) (n : Terminal) → line_fault ts ≡ None →
    placed_rule (put i (Line ts)) (first_rule (at_line c ts (act_of over) n)
    (joined (fault_rules (line_fault ts)) (use_rules (uses_of ts)))) ≡ names_fault c
    (map (at_column i.columns) (uses_of ts))
name_rule c over i ts n e =
    ap (λ (o : Option (ℕ × Code)). placed_rule (put i (Line ts)) (first_rule (at_line c ts (act_of over) n)
    (joined (fault_rules o) (use_rules (uses_of ts))))) e
    ∙ first_name c ts (act_of over) n (put i (Line ts)) 0 (uses_of ts) (directive_act ts over) (all_rise ts)
    (λ code k l. refl)

-- ---- at the line

at_put : (c : Context) (over : Bool) (s : Stack) (ts : List Lexeme) (t : Cursor) → (first_item t).terminal ≡ Line ts →
    took c (for (act_of over)) s (items t) ≡ took c (for (act_of over)) s (put (first_item t) (Line ts) ∷ behind t)
at_put c over s ts t e = ap (λ (i : Item Terminal). took c (for (act_of over)) s (i ∷ behind t))
    (put_is (first_item t) (Line ts) e)

pub many_line : (sc : Scope) (over : Bool) (s : Stack) (ts : List Lexeme) (t : Cursor) →
    (first_item t).terminal ≡ Line ts → max_statements ≤ sc.statements →
    took (context_of sc 0 0) (for (act_of over)) s (items t) ≡ Some (fault_at (first_item t) TooMany)
many_line sc over s ts t e h =
    at_put (context_of sc 0 0) over s ts t e
    ∙ item_many (context_of sc 0 0) over s (first_item t) (behind t) ts (le-leb max_statements sc.statements h)

pub inside_line : (sc : Scope) (over : Bool) (s : Stack) (ts : List Lexeme) (t : Cursor) →
    (first_item t).terminal ≡ Line ts → sc.statements < max_statements → inside (context_of sc 0 0) ≡ true →
    took (context_of sc 0 0) (for (act_of over)) s (items t) ≡ Some (fault_at (first_item t) DirectiveInTarget)
inside_line sc over s ts t e h b =
    at_put (context_of sc 0 0) over s ts t e
    ∙ item_inside (context_of sc 0 0) over s (first_item t) (behind t) ts (lt-leb max_statements sc.statements h) b

pub under_line : (sc : Scope) (over : Bool) (s : Stack) (ts : List Lexeme) (t : Cursor) →
    (first_item t).terminal ≡ Line ts → sc.statements < max_statements → inside (context_of sc 0 0) ≡ false →
    under_if (context_of sc 0 0) ≡ true →
    took (context_of sc 0 0) (for (act_of over)) s (items t) ≡ Some (fault_at (first_item t) DirectiveUnderIf)
under_line sc over s ts t e h b d =
    at_put (context_of sc 0 0) over s ts t e
    ∙ item_under (context_of sc 0 0) over s (first_item t) (behind t) ts (lt-leb max_statements sc.statements h) b d

-- a line with a fault of its own
pub bad_line : (sc : Scope) (over : Bool) (s : Stack) (line : List PlacedLexeme) (f : LineFault) (t : Cursor) →
    (first_item t).terminal ≡ Line (kinds_of line) →
    (first_item t).columns ≡ columns_of line → sc.statements < max_statements →
    inside (context_of sc 0 0) ≡ false → under_if (context_of sc 0 0) ≡ false → line_answer line ≡ Some f →
    took (context_of sc 0 0) (for (act_of over)) s (items t) ≡ Some
    (record { code = f.code; line = (first_item t).line; column = f.column })
unfolding line_answer
bad_line sc over s line f t e cs h b d w = go (line_fault ts) refl
  where
    ts : List Lexeme
    ts = kinds_of line

    c : Context
    c = context_of sc 0 0

    i : Item Terminal
    i = first_item t

    rest : Option TextFault
    rest = run (enter c (Line ts, for (act_of over))) s (behind t)

    go : (o : Option (ℕ × Code)) → line_fault ts ≡ o → took c (for (act_of over)) s (items t) ≡ Some
        (record { code = f.code; line = i.line; column = f.column })
    go None o = absurd (let none : at_columns (columns_of line) None ≡ Some f =
        ap (at_columns (columns_of line)) (sym o) ∙ w in cc)
    go (Some g) o =
        at_put c over s ts t e
        ∙ took_line c over s i (behind t) ts (first_rule (at_line c ts (act_of over)
        (next_of source_grammar (behind t)))
        (joined (fault_rules (line_fault ts)) (use_rules (uses_of ts))))
        (front c over ts (next_of source_grammar (behind t)) (lt-leb max_statements sc.statements h) b d)
        ∙ ap (λ (p : Option LineFault). fault_on i.line p rest)
        (own_rule c over i ts (next_of source_grammar (behind t)) g o
        ∙ ap (λ (ks : List ℕ). at_columns ks (Some g)) cs
        ∙ ap (at_columns (columns_of line)) (sym o)
        ∙ w)

-- a line with none, whose names may have one
pub named_line : (sc : Scope) (over : Bool) (s : Stack) (line : List PlacedLexeme) (d : Directive) (t : Cursor) →
    (first_item t).terminal ≡ Line (kinds_of line) →
    (first_item t).columns ≡ columns_of line → sc.statements < max_statements →
    inside (context_of sc 0 0) ≡ false → under_if (context_of sc 0 0) ≡ false → line_answer line ≡ None →
    IsInSource line d →
    took (context_of sc 0 0) (for (act_of over)) s (items t) ≡ fault_on (first_item t).line (fault_in sc (names_in d))
    (run (enter (context_of sc 0 0) (Line (kinds_of line), for (act_of over))) s (behind t))
unfolding line_answer fault_in
named_line sc over s line d t e cs h b g w known = go (line_fault ts) refl
  where
    ts : List Lexeme
    ts = kinds_of line

    c : Context
    c = context_of sc 0 0

    i : Item Terminal
    i = first_item t

    rest : Option TextFault
    rest = run (enter c (Line ts, for (act_of over))) s (behind t)

    go : (o : Option (ℕ × Code)) → line_fault ts ≡ o →
        took c (for (act_of over)) s (items t) ≡ fault_on i.line (names_fault c (names_in d)) rest
    go (Some f) o = absurd (let some : at_columns (columns_of line) (Some f) ≡ None =
        ap (at_columns (columns_of line)) (sym o) ∙ w in cc)
    go None o =
        at_put c over s ts t e
        ∙ took_line c over s i (behind t) ts (first_rule (at_line c ts (act_of over)
        (next_of source_grammar (behind t)))
        (joined (fault_rules (line_fault ts)) (use_rules (uses_of ts))))
        (front c over ts (next_of source_grammar (behind t)) (lt-leb max_statements sc.statements h) b g)
        ∙ ap (λ (p : Option LineFault). fault_on i.line p rest)
        (name_rule c over i ts (next_of source_grammar (behind t)) o
        ∙ ap (λ (ks : List ℕ). names_fault c (map (at_column ks) (uses_of ts))) cs
        ∙ ap (names_fault c) known.names)

pub misnamed_line : (sc : Scope) (over : Bool) (s : Stack) (line : List PlacedLexeme) (d : Directive) (f : LineFault)
    (t : Cursor) → (first_item t).terminal ≡ Line (kinds_of line) →
    (first_item t).columns ≡ columns_of line → sc.statements < max_statements →
    inside (context_of sc 0 0) ≡ false → under_if (context_of sc 0 0) ≡ false → line_answer line ≡ None →
    IsInSource line d → fault_in sc (names_in d) ≡ Some f →
    took (context_of sc 0 0) (for (act_of over)) s (items t) ≡ Some
    (record { code = f.code; line = (first_item t).line; column = f.column })
misnamed_line sc over s line d f t e cs h b g w known n =
    named_line sc over s line d t e cs h b g w known
    ∙ ap (λ (o : Option LineFault). fault_on (first_item t).line o
    (run (enter (context_of sc 0 0) (Line (kinds_of line), for (act_of over))) s (behind t))) n

-- ---- lines that are refused

line_is : (u : Terminal) → is_line u ≡ true → (ts : List Lexeme) × (u ≡ Line ts)
line_is (Line ts) e = (ts, refl)
line_is (Fixed w) e = absurd cc
line_is (Mark x) e = absurd cc
line_is (Name x) e = absurd cc
line_is (Num n) e = absurd cc
line_is Unknown e = absurd cc
line_is Unworked e = absurd cc
line_is End e = absurd cc

pub many_any : (sc : Scope) (over : Bool) (s : Stack) (t : Cursor) → is_line (first_item t).terminal ≡ true →
    max_statements ≤ sc.statements →
    took (context_of sc 0 0) (for (act_of over)) s (items t) ≡ Some (fault_at (first_item t) TooMany)
many_any sc over s t e h =
    let l = line_is (first_item t).terminal e in many_line sc over s l.0 t l.1 h

pub inside_any : (sc : Scope) (over : Bool) (s : Stack) (t : Cursor) → is_line (first_item t).terminal ≡ true →
    sc.statements < max_statements → inside (context_of sc 0 0) ≡ true →
    took (context_of sc 0 0) (for (act_of over)) s (items t) ≡ Some (fault_at (first_item t) DirectiveInTarget)
inside_any sc over s t e h b =
    let l = line_is (first_item t).terminal e in inside_line sc over s l.0 t l.1 h b

pub under_any : (sc : Scope) (over : Bool) (s : Stack) (t : Cursor) → is_line (first_item t).terminal ≡ true →
    sc.statements < max_statements → inside (context_of sc 0 0) ≡ false → under_if (context_of sc 0 0) ≡ true →
    took (context_of sc 0 0) (for (act_of over)) s (items t) ≡ Some (fault_at (first_item t) DirectiveUnderIf)
under_any sc over s t e h b d =
    let l = line_is (first_item t).terminal e in under_line sc over s l.0 t l.1 h b d
