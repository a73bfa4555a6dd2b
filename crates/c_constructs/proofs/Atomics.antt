-- The line of an atomic update names nothing.
use Rattle.std.proofs.Common.{◌≡◌, true, false, List, [], ◌∷◌, None, refl, ap, ◌∙◌, subst}
use Rattle.base.proofs.Nils.{nil_map}
use Rattle.c_grammar.specs.LineGrammar.{Clause, MapOf, DependOf, MotionOf, NoWait, DeviceOf, AmountOf, ScheduleOf, DirectiveKind, Target, Data, Enter, Exit, Update, Wait, AtomicUpdate, Combined}
use Rattle.c_grammar.specs.LineRules.{AreClauses, IsLine}
use Rattle.c_grammar.specs.Lines.{is_atomic_kind}
use Rattle.c_expressions.specs.declared.scope.Scope.{Scope}
use Rattle.directives.specs.declared.tree.Clause.{Clause as Given}
use Rattle.directives.specs.declared.tree.Directive.{Directive}
use Rattle.directives.specs.Kinds.{seen_kind}
use Rattle.directives.specs.Names.{clause_names, each_names, names_in}
use Rattle.directives.specs.Trees.{clause_of, text_of}
use Rattle.c_constructs.specs.Uses.{fault_in}

no_clauses : (cs : List Clause) → AreClauses AtomicUpdate cs → cs ≡ []
no_clauses [] h = refl
no_clauses (MapOf ms t is ∷ cs) h = absurd (let e : false ≡ true = h.0.0 in cc)
no_clauses (DependOf t is ∷ cs) h = absurd (let e : false ≡ true = h.0 in cc)
no_clauses (MotionOf t p is ∷ cs) h = absurd (let e : false ≡ true = h.0 in cc)
no_clauses (NoWait ∷ cs) h = absurd (let e : false ≡ true = h.0 in cc)
no_clauses (DeviceOf n ∷ cs) h = absurd (let e : false ≡ true = h.0 in cc)
no_clauses (AmountOf a n ∷ cs) h = absurd (let e : false ≡ true = h.0 in cc)
no_clauses (ScheduleOf t o ∷ cs) h = absurd (let e : false ≡ true = h.0.0 in cc)

kind_is : (k : DirectiveKind) → is_atomic_kind k ≡ true → k ≡ AtomicUpdate
kind_is AtomicUpdate e = refl
kind_is Target e = absurd cc
kind_is Data e = absurd cc
kind_is Enter e = absurd cc
kind_is Exit e = absurd cc
kind_is Update e = absurd cc
kind_is (Combined c) e = absurd cc
kind_is Wait e = absurd cc

pub atomic_kind : (d : Directive) → is_atomic_kind (seen_kind d.kind) ≡ true → seen_kind d.kind ≡ AtomicUpdate
atomic_kind d e = kind_is (seen_kind d.kind) e

alone : (k : DirectiveKind) (cs : List Clause) → k ≡ AtomicUpdate → AreClauses k cs → cs ≡ []
alone k cs e h = no_clauses cs (subst (λ (j : DirectiveKind). AreClauses j cs) e h)

none_told : (s : Scope) → fault_in s [] ≡ None
unfolding fault_in
none_told s = refl

pub atomic_told : (s : Scope) (d : Directive) → is_atomic_kind (seen_kind d.kind) ≡ true → IsLine (text_of d) →
    fault_in s (names_in d) ≡ None
unfolding names_in
atomic_told s d e h =
    let none : d.clauses.items ≡ [] = nil_map clause_of d.clauses.items
    (alone (seen_kind d.kind) (text_of d).clauses (atomic_kind d e) h) in
    ap (λ (cs : List Given). fault_in s (each_names clause_names cs)) none ∙ none_told s
