-- A directive's line that is read, and what comes behind it.
use Rattle.std.proofs.Common.{◌≡◌, ℕ, ◌+◌, ◌<◌, Bool, true, false, List, ◌∷◌, Option, None, refl, sym, ap, ◌∙◌, subst}
use Rattle.base.specs.declared.tree.Place.{Place}
use Rattle.base.specs.declared.tree.Directive.{Directive}
use Rattle.base.specs.declared.tree.Directive.TheVariants as directive
use Rattle.c_grammar.specs.Grammar.{Over, for}
use Rattle.c_grammar.specs.Lexeme.{Placed as PlacedLexeme}
use Rattle.c_grammar.specs.LineGrammar.{DirectiveKind, Target, Data, Enter, Exit, Update, Wait, AtomicUpdate, Combined}
use Rattle.c_grammar.specs.Lines.{collapse_in, depth_kind, depth_of, holds, holds_kind, is_omp, is_target, is_target_kind, line_depth}
use Rattle.c_grammar.specs.Program.{Stack}
use Rattle.c_grammar.specs.Rules.{enter, inside, under_if, max_statements}
use Rattle.c_grammar.specs.Terminal.{Terminal, Line}
use Rattle.c_grammar.specs.Texts.{Item}
use Rattle.c_expressions.specs.declared.cursor.Cursor.{Cursor}
use Rattle.c_expressions.specs.declared.scope.Scope.{Scope}
use Rattle.c_expressions.specs.Cursor.{items, first_item, behind}
use Rattle.c_expressions.specs.Means.{Items, Names, place_of}
use Rattle.c_expressions.specs.Reading.{run, took}
use Rattle.c_expressions.specs.Scopes.{context_of}
use Rattle.directives.specs.declared.fault.LineFault.{LineFault}
use Rattle.directives.specs.declared.tree.Directive.{Directive as Given}
use Rattle.directives.specs.Kinds.{seen_kind}
use Rattle.directives.specs.Names.{IsInSource, names_in}
use Rattle.directives.specs.Spells.{SpellsLine, kinds_of, columns_of, line_answer}
use Rattle.directives.specs.Trees.{line_marks, text_of}
use Rattle.c_constructs.specs.declared.resolved.Construct.TheVariants as construct
use Rattle.c_constructs.specs.declared.resolved.Resolved.{Resolved}
use Rattle.c_constructs.specs.declared.resolved.Resolved.TheVariants as resolved
use Rattle.c_constructs.specs.Directives.{IsAloneAt, IsResolvedAt}
use Rattle.c_constructs.specs.LineMeaning.{IsRead, Means, depth_in, is_over, lexemes_on, scope_behind}
use Rattle.c_constructs.specs.Steps.{act_of, one_more}
use Rattle.c_constructs.specs.Uses.{fault_in}
use Rattle.c_constructs.proofs.LineMeanings.{line_placed, line_tokens, alone_means, target_means, data_means}
use Rattle.c_constructs.proofs.Placing.{Placed}
use Rattle.c_constructs.proofs.Taken.{fault_on, named_line}

-- ---- what it means

kind_depth : (d : Given) → {k : DirectiveKind} → seen_kind d.kind ≡ k → line_depth (text_of d) ≡ depth_kind k
    (collapse_in 1 (text_of d).clauses)
kind_depth d e = ap (λ (k : DirectiveKind). depth_kind k (collapse_in 1 (text_of d).clauses)) e

alone_holds : (names : Names) (at : ℕ) (d : Given) (t : Directive) → IsAloneAt names at d t →
    holds_kind (seen_kind d.kind) ≡ false
alone_holds names at d (directive.Enter maps g) h = ap holds_kind h.0
alone_holds names at d (directive.Exit maps g) h = ap holds_kind h.0
alone_holds names at d (directive.Update sections g) h = ap holds_kind h.0
alone_holds names at d (directive.Wait depends) h = ap holds_kind h.0

target_holds : (k : DirectiveKind) → is_target_kind k ≡ true → holds_kind k ≡ true
target_holds Target h = refl
target_holds Data h = absurd cc
target_holds Enter h = absurd cc
target_holds Exit h = absurd cc
target_holds Update h = absurd cc
target_holds (Combined c) h = refl
target_holds Wait h = absurd cc
target_holds AtomicUpdate h = absurd cc

resolved_holds : (names : Names) (at : Place) (d : Given) (r : Resolved) → IsResolvedAt names at d r →
    holds_kind (seen_kind d.kind) ≡ is_over r
resolved_holds names at d (resolved.Alone place t) h = alone_holds names at.line d t h.1
resolved_holds names at d (resolved.Over (construct.Target g n)) h = target_holds (seen_kind d.kind) h.1.kind
resolved_holds names at d (resolved.Over (construct.Data g)) h = ap holds_kind h.kind
resolved_holds names at d resolved.Atomic h = ap holds_kind h

-- how many loops must follow

alone_depth : (names : Names) (at : ℕ) (d : Given) (t : Directive) → IsAloneAt names at d t →
    line_depth (text_of d) ≡ 0
alone_depth names at d (directive.Enter maps g) h = kind_depth d h.0
alone_depth names at d (directive.Exit maps g) h = kind_depth d h.0
alone_depth names at d (directive.Update sections g) h = kind_depth d h.0
alone_depth names at d (directive.Wait depends) h = kind_depth d h.0

resolved_depth : (names : Names) (at : Place) (d : Given) (r : Resolved) → IsResolvedAt names at d r →
    line_depth (text_of d) ≡ depth_in r
resolved_depth names at d (resolved.Alone place t) h = alone_depth names at.line d t h.1
resolved_depth names at d (resolved.Over (construct.Target g n)) h = h.0
resolved_depth names at d (resolved.Over (construct.Data g)) h = kind_depth d h.kind
resolved_depth names at d resolved.Atomic h = kind_depth d h

all_mean : (names : Names) (i : Item Terminal) (is : Items) (d : Given) (r : Resolved) →
    Placed (line_marks d) i.columns → IsResolvedAt names (place_of (i ∷ is)) d r → Means names (i ∷ is) (text_of d) r
all_mean names i is d (resolved.Alone place t) p h = (h.0, alone_means names i is d t p h.1)
all_mean names i is d (resolved.Over (construct.Target g n)) p h = target_means names i is d g p h.1
all_mean names i is d (resolved.Over (construct.Data g)) p h = data_means names i is d g p h
all_mean names i is d resolved.Atomic p h = h

line_holds : (l : List PlacedLexeme) (d : Given) → IsInSource l d →
    holds (kinds_of l) ≡ holds_kind (seen_kind d.kind)
unfolding holds
line_holds l d k = ap holds_kind k.kind

pub is_read : (names : Names) (i : Item Terminal) (is : Items) (l : List PlacedLexeme) (d : Given) (r : Resolved) →
    i.terminal ≡ Line (kinds_of l) → i.columns ≡ columns_of l →
    SpellsLine l d → IsInSource l d → IsResolvedAt names (place_of (i ∷ is)) d r → IsRead names i is r
is_read names i is l d r e cs s k h = record {
  line = record {
    text = text_of d;
    is_line = s.spelled.is_text;
    tokens = line_tokens l d i.terminal e s;
  };
  words = ap (λ (t : Terminal). is_omp (lexemes_on t)) e ∙ k.words;
  over = ap (λ (t : Terminal). holds (lexemes_on t)) e ∙ line_holds l d k ∙ resolved_holds names (place_of (i ∷ is)) d r h;
  depth = ap (λ (t : Terminal). depth_of (lexemes_on t)) e ∙ k.depth ∙ resolved_depth names (place_of (i ∷ is)) d r h;
  means = all_mean names i is d r (subst (λ (ks : List ℕ). Placed (line_marks d) ks) (sym cs)
      (line_placed l d s))
      h;
}

-- ---- the machine behind it

pub passes : (sc : Scope) (names : Names) (s : Stack) (line : List PlacedLexeme) (d : Given) (r : Resolved)
    (t : Cursor) → (first_item t).terminal ≡ Line (kinds_of line) →
    (first_item t).columns ≡ columns_of line → sc.statements < max_statements →
    inside (context_of sc 0 0) ≡ false → under_if (context_of sc 0 0) ≡ false → line_answer line ≡ None →
    IsInSource line d → fault_in sc (names_in d) ≡ None → IsResolvedAt names (place_of (items t)) d r →
    took (context_of sc 0 0) (for (act_of (is_over r))) s (items t) ≡ run (context_of (scope_behind r sc) 0 0) s
    (behind t)
unfolding enter is_target
passes sc names s line d (resolved.Alone place a) t e cs h b g w known n m =
    named_line sc false s line d t e cs h b g w known
    ∙ ap (λ (o : Option LineFault). fault_on (first_item t).line o
    (run (context_of (one_more sc) 0 0) s (behind t))) n
passes sc names s line d (resolved.Over (construct.Target a n')) t e cs h b g w known n m =
    named_line sc true s line d t e cs h b g w known
    ∙ ap (λ (o : Option LineFault). fault_on (first_item t).line o
    (run (enter (context_of sc 0 0) (Line (kinds_of line), for Over)) s (behind t))) n
    ∙ ap (λ (b : Bool). run (context_of (record sc { statements = sc.statements + 1; target = b }) 0 0) s (behind t))
    (ap is_target_kind known.kind ∙ m.1.kind)
passes sc names s line d (resolved.Over (construct.Data a)) t e cs h b g w known n m =
    named_line sc true s line d t e cs h b g w known
    ∙ ap (λ (o : Option LineFault). fault_on (first_item t).line o
    (run (enter (context_of sc 0 0) (Line (kinds_of line), for Over)) s (behind t))) n
    ∙ ap (λ (b : Bool). run (context_of (record sc { statements = sc.statements + 1; target = b }) 0 0) s (behind t))
    (ap is_target_kind known.kind ∙ ap is_target_kind m.kind)
passes sc names s line d resolved.Atomic t e cs h b g w known n m =
    named_line sc false s line d t e cs h b g w known
    ∙ ap (λ (o : Option LineFault). fault_on (first_item t).line o
    (run (context_of (one_more sc) 0 0) s (behind t))) n
