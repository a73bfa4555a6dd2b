-- The clauses of a directive: their names, and the types of its map clauses.
use Rattle.std.proofs.Common.{◌≡◌, ℕ, true, List, [], ◌++◌, None, refl, sym, ap, ◌∙◌, subst}
use Rattle.std.proofs.lemmas.List.{append-nil}
use Rattle.c_grammar.specs.LineGrammar as line
use Rattle.c_grammar.specs.LineRules.{IsLine}
use Rattle.c_grammar.specs.Lines.{holds_kind}
use Rattle.c_expressions.specs.declared.scope.Scope.{Scope}
use Rattle.c_expressions.specs.Means.{Names}
use Rattle.directives.specs.declared.fault.DirectiveFault.{DirectiveFault}
use Rattle.directives.specs.declared.tree.Clause.{Clause}
use Rattle.directives.specs.declared.tree.Directive.{Directive}
use Rattle.directives.specs.declared.tree.DirectiveKind.{DirectiveKind}
use Rattle.directives.specs.declared.tree.DirectiveKind.TheVariants as kind
use Rattle.directives.specs.Kinds.{seen_kind}
use Rattle.directives.specs.Names.{clause_names, each_names, names_in}
use Rattle.directives.specs.Reading.{Failed}
use Rattle.directives.specs.Trees.{text_of}
use Rattle.c_constructs.specs.declared.clauses.Clauses.{Clauses}
use Rattle.c_constructs.specs.Clauses.{AreRead, HaveTypes}
use Rattle.c_constructs.specs.Directives.{IsTaskingAt}
use Rattle.c_constructs.specs.Uses.{fault_in}
use Rattle.directives.proofs.Outcomes.{failed_from}
use Rattle.c_constructs.proofs.Reading.{types_fit}

-- ---- all names

all_names : (s : Scope) (d : Directive) (xs : List Clause) → xs ≡ d.clauses.items →
    fault_in s (names_in d) ≡ fault_in s (each_names clause_names xs ++ [])
unfolding names_in
all_names s d xs e =
    ap (λ (cs : List Clause). fault_in s (each_names clause_names cs)) (sym e)
    ∙ ap (fault_in s) (sym (append-nil (each_names clause_names xs)))

no_names : (s : Scope) → fault_in s [] ≡ None
unfolding fault_in
no_names s = refl

pub all_told : (s : Scope) (d : Directive) (xs : List Clause) → xs ≡ d.clauses.items →
    fault_in s (each_names clause_names xs ++ []) ≡ fault_in s [] → fault_in s (names_in d) ≡ None
all_told s d xs e h = all_names s d xs e ∙ h ∙ no_names s

pub all_failed : (s : Scope) (d : Directive) (xs : List Clause) (f : DirectiveFault) → xs ≡ d.clauses.items →
    Failed f (fault_in s (each_names clause_names xs ++ [])) → Failed f (fault_in s (names_in d))
all_failed s d xs f e h =
    failed_from f (fault_in s (names_in d)) (fault_in s (each_names clause_names xs ++ [])) (all_names s d xs e) h

-- ---- the types of map clauses

types_of : (d : Directive) (types : List line.MapType) (k : DirectiveKind) → d.kind ≡ k →
    (line.takes_map (seen_kind k) ≡ true → line.map_types (seen_kind k) ≡ types) → IsLine (text_of d) →
    HaveTypes types d.clauses.items
types_of d types k e f h =
    types_fit (seen_kind d.kind) types d.clauses.items
    (subst (λ (j : DirectiveKind). line.takes_map (seen_kind j) ≡ true → line.map_types (seen_kind j) ≡ types)
    (sym e) f)
    h

pub enter_types : (d : Directive) → d.kind ≡ kind.TargetEnterData → IsLine (text_of d) →
    HaveTypes (line.map_types line.Enter) d.clauses.items
enter_types d e h = types_of d (line.map_types line.Enter) kind.TargetEnterData e (λ t. refl) h

pub exit_types : (d : Directive) → d.kind ≡ kind.TargetExitData → IsLine (text_of d) →
    HaveTypes (line.map_types line.Exit) d.clauses.items
exit_types d e h = types_of d (line.map_types line.Exit) kind.TargetExitData e (λ t. refl) h

pub update_types : (d : Directive) → d.kind ≡ kind.TargetUpdate → IsLine (text_of d) →
    HaveTypes (line.map_types line.Target) d.clauses.items
update_types d e h = types_of d (line.map_types line.Target) kind.TargetUpdate e (λ t. absurd cc) h

pub wait_types : (d : Directive) → d.kind ≡ kind.TaskWait → IsLine (text_of d) →
    HaveTypes (line.map_types line.Target) d.clauses.items
wait_types d e h = types_of d (line.map_types line.Target) kind.TaskWait e (λ t. absurd cc) h

-- those of a directive over a block or loop
pub over_types : (d : Directive) → holds_kind (seen_kind d.kind) ≡ true → IsLine (text_of d) →
    HaveTypes (line.map_types line.Target) d.clauses.items
over_types d e h = go d.kind refl e
  where
    go : (k : DirectiveKind) → d.kind ≡ k → holds_kind (seen_kind k) ≡ true →
        HaveTypes (line.map_types line.Target) d.clauses.items
    go kind.Target i e = types_of d (line.map_types line.Target) kind.Target i (λ t. refl) h
    go kind.TargetData i e = types_of d (line.map_types line.Target) kind.TargetData i (λ t. refl) h
    go kind.TargetEnterData i e = absurd cc
    go kind.TargetExitData i e = absurd cc
    go kind.TargetUpdate i e = absurd cc
    go (kind.Combined c) i e = types_of d (line.map_types line.Target) (kind.Combined c) i (λ t. refl) h
    go kind.TaskWait i e = absurd cc
    go kind.AtomicUpdate i e = absurd cc

-- ---- what clauses mean to a directive

pub tasking : {K : Type 0} → (seen : K → line.MapType) (names : Names) (at : ℕ) (cs : List Clause) (r : Clauses K) →
    AreRead seen names at cs r → IsTaskingAt names at cs r.tasking
tasking seen names at cs r h = record { nowait = h.nowait; depends = h.depends; device = h.device }
