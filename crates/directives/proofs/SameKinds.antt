-- A directive's tokens are those of its tree.
use Rattle.std.proofs.Common.{◌≡◌, ℕ, Bool, true, false, List, [], ◌∷◌, ◌++◌, map, Option, Some, None, refl, sym, ap, ◌∙◌, append_assoc}
use Rattle.std.specs.Prelude.{codes}
use Rattle.std.proofs.lemmas.List.{map-append}
use Rattle.c_tokens.specs.declared.kind.Sign.{Sign}
use Rattle.c_tokens.specs.declared.kind.Sign.TheVariants as sign
use Rattle.base.specs.declared.fault.ReadCode.{ReadCode as Code}
use Rattle.base.specs.declared.fault.ReadCode.TheVariants.{BadBound, BadMapType}
use Rattle.c_grammar.specs.Lexeme.{Lexeme, Signed, Worded, Ended}
use Rattle.c_grammar.specs.LineGrammar as grammar
use Rattle.directives.specs.declared.tree.Modifier.{Modifier}
use Rattle.directives.specs.declared.tree.Term.{Term}
use Rattle.directives.specs.declared.tree.Term.TheVariants.{Literal, Variable, Product}
use Rattle.directives.specs.declared.tree.SignedTerm.{SignedTerm}
use Rattle.directives.specs.declared.tree.Bound.{Bound}
use Rattle.directives.specs.declared.tree.Section.{Section}
use Rattle.directives.specs.declared.tree.Sections.{Sections}
use Rattle.directives.specs.declared.tree.DeviceClause.TheVariants.{Fixed, Looped}
use Rattle.directives.specs.declared.tree.Clause.{Clause}
use Rattle.directives.specs.declared.tree.Clause.TheVariants.{Map, Depend, Motion, NoWait, Device, Amount, Schedule}
use Rattle.directives.specs.declared.tree.Directive.{Directive}
use Rattle.directives.specs.declared.tree.DirectiveKind.{DirectiveKind as GivenKind}
use Rattle.directives.specs.declared.tree.DirectiveKind.TheVariants as kind
use Rattle.directives.specs.declared.tree.Construct.TheVariants as construct
use Rattle.directives.specs.Kinds.{seen_kind, seen_sign, seen_modifier, seen_map, seen_depend, seen_motion}
use Rattle.directives.specs.Trees.{Spelling, sign_mark, each_behind, term_of, signed_of, bound_of, bounds_of, section_of, sections_of, clause_of, text_of, term_marks, terms_marks, bound_marks, second_marks, bounds_marks, section_marks, sections_marks, modifiers_marks, present_marks, type_marks, clause_marks, clauses_marks, kind_marks, line_marks}

abbrev pub ks : Spelling → List Lexeme
ks xs = map (λ x. x.0) xs

abbrev pub ss : grammar.LineSlots → List Lexeme
ss xs = map (λ x. x.0) xs

ks_append : (xs ys : Spelling) → ks (xs ++ ys) ≡ ks xs ++ ks ys
ks_append xs ys = map-append (λ (x : Lexeme × Option ℕ). x.0) xs ys

ss_append : (xs ys : grammar.LineSlots) → ss (xs ++ ys) ≡ ss xs ++ ss ys
ss_append xs ys = map-append (λ (x : Lexeme × (Option Code × grammar.LineAct)). x.0) xs ys

-- one after the other
both : (xs ys : Spelling) (us vs : grammar.LineSlots) → ks xs ≡ ss us → ks ys ≡ ss vs → ks (xs ++ ys) ≡ ss (us ++ vs)
both xs ys us vs e f = ks_append xs ys ∙ ap (λ (zs : List Lexeme). zs ++ ks ys) e ∙ ap
    (λ (zs : List Lexeme). ss us ++ zs) f
    ∙ sym (ss_append us vs)

term_same : (t : Term) → ks (term_marks t) ≡ ss (grammar.term (term_of t))
term_same (Literal n) = refl
term_same (Variable x) = refl
term_same (Product n x) = refl

terms_same : (ts : List SignedTerm) → ks (terms_marks ts) ≡ ss (grammar.more_terms (map signed_of ts))
terms_same [] = refl
terms_same (t ∷ ts) = ap (λ (zs : List Lexeme). Signed (grammar.before_term (seen_sign t.sign)) ∷ zs)
    (both (term_marks t.term) (terms_marks ts) (grammar.term (term_of t.term)) (grammar.more_terms (map signed_of ts))
    (term_same t.term) (terms_same ts))

bound_same : (b : Bound) → ks (bound_marks b) ≡ ss (grammar.bound (bound_of b))
bound_same b = both (term_marks b.first) (terms_marks b.more.items) (grammar.term (term_of b.first))
    (grammar.more_terms (map signed_of b.more.items)) (term_same b.first) (terms_same b.more.items)

-- the same, with the parts grouped otherwise
regroup : (xs ys : Spelling) (us vs : grammar.LineSlots) (s : Sign) (r : Option Code × grammar.LineAct) → ks xs ≡
    ss us →
    ks ys ≡ ss vs → ks ((xs ++ sign_mark s ∷ []) ++ ys) ≡ ss (us ++ ((Signed s, r) ∷ vs))
regroup xs ys us vs s r e f = ap (λ (zs : Spelling). ks zs) (append_assoc xs (sign_mark s ∷ []) ys)
    ∙ both xs (sign_mark s ∷ ys) us ((Signed s, r) ∷ vs) e (ap (λ (zs : List Lexeme). Signed s ∷ zs) f)

bounds_same : (o : Option (Bound × Bound)) → ks (bounds_marks o) ≡ ss (grammar.section (bounds_of o))
bounds_same None = refl
bounds_same (Some b) = ap (λ (zs : List Lexeme). Signed sign.OpenBracket ∷ zs)
    (regroup (bound_marks b.0) (second_marks b.1)
    (grammar.bound (bound_of b.0)) (grammar.bound (bound_of b.1) ++ grammar.bound_sign sign.CloseBracket ∷
    []) sign.Colon
    (grammar.of BadBound grammar.Opens) (bound_same b.0) (both (bound_marks b.1) (sign_mark sign.CloseBracket ∷ [])
    (grammar.bound (bound_of b.1))
    (grammar.bound_sign sign.CloseBracket ∷ []) (bound_same b.1) refl))

section_same : (a : grammar.LineAct) (s : Section) → ks (section_marks s) ≡ ss (grammar.item a (section_of s))
unfolding section_marks
section_same a s = ap (λ (zs : List Lexeme). Worded s.array.text.now ∷ zs) (bounds_same s.bounds)

more_same : (a : grammar.LineAct) (xs : List Section) →
    ks (each_behind sign.Comma section_marks xs) ≡ ss (grammar.more_items a (map section_of xs))
more_same a [] = refl
more_same a (x ∷ xs) = ap (λ (zs : List Lexeme). Signed sign.Comma ∷ zs) (both (section_marks x)
    (each_behind sign.Comma section_marks xs) (grammar.item a (section_of x)) (grammar.more_items a (map section_of xs))
    (section_same a x) (more_same a xs))

sections_same : (first a : grammar.LineAct) (s : Sections) →
    ks (sections_marks s) ≡ ss (grammar.items_from first a (sections_of s))
unfolding sections_marks
sections_same first a s =
    let more : Spelling = each_behind sign.Comma section_marks s.more.items in
    let last : Spelling = sign_mark sign.CloseParen ∷ [] in
    let slots : grammar.LineSlots = grammar.more_items a (map section_of s.more.items) in
    let ends : grammar.LineSlots = grammar.mark sign.CloseParen ∷ [] in
    ap (λ (zs : Spelling). ks zs) (append_assoc (section_marks s.first) more last)
    ∙ both (section_marks s.first) (more ++ last) (grammar.item first (section_of s.first)) (slots ++ ends)
    (section_same first s.first) (both more last slots ends (more_same a s.more.items) refl)

modifiers_same : (ms : List Modifier) → ks (modifiers_marks ms) ≡ ss (grammar.modifiers (map seen_modifier ms))
modifiers_same [] = refl
modifiers_same (m ∷ ms) = ap (λ (zs : List Lexeme). Worded (grammar.modifier_word (seen_modifier m)) ∷
    Signed sign.Comma ∷ zs) (modifiers_same ms)

motion_same : (p : Bool) (s : Sections) →
    ks (present_marks p ++ sections_marks s) ≡ ss (grammar.motion p (sections_of s))
motion_same false s = sections_same grammar.Heads grammar.Maps s
motion_same true s = ap (λ (zs : List Lexeme). Worded (grammar.modifier_word grammar.Present) ∷
    Signed sign.Colon ∷ zs) (sections_same grammar.Maps grammar.Maps s)

clause_same : (c : Clause) → ks (clause_marks c) ≡ ss (grammar.clause (clause_of c))
unfolding clause_marks
clause_same (Map m) = ap (λ (zs : List Lexeme). (Worded (codes "map")) ∷ Signed sign.OpenParen ∷ zs)
    (both (modifiers_marks m.modifiers.items)
    (type_marks (grammar.map_word (seen_map m.map_type)) ++ sections_marks m.sections)
    (grammar.modifiers (map seen_modifier m.modifiers.items))
    ((Worded (grammar.map_word (seen_map m.map_type)), grammar.of BadMapType grammar.Plain) ∷
    grammar.mark sign.Colon ∷ grammar.items grammar.Maps (sections_of m.sections))
    (modifiers_same m.modifiers.items) (ap (λ (zs : List Lexeme). (Worded (grammar.map_word (seen_map m.map_type))) ∷
    Signed sign.Colon ∷ zs) (sections_same grammar.Maps grammar.Maps m.sections)))
clause_same (Depend d) = ap (λ (zs : List Lexeme). (Worded (codes "depend")) ∷ Signed sign.OpenParen ∷
    (Worded (grammar.depend_word (seen_depend d.depend_type))) ∷ Signed sign.Colon ∷ zs)
    (sections_same grammar.Depends grammar.Depends d.sections)
clause_same (Motion m) = ap (λ (zs : List Lexeme). (Worded (grammar.motion_word (seen_motion m.motion_type))) ∷
    Signed sign.OpenParen ∷ zs) (motion_same m.present m.sections)
clause_same NoWait = refl
clause_same (Device (Fixed d)) = refl
clause_same (Device (Looped x)) = refl
clause_same (Amount a n) = refl
clause_same (Schedule t None) = refl
clause_same (Schedule t (Some n)) = refl

clauses_same : (cs : List Clause) →
    ks (clauses_marks cs ++ (Ended, None) ∷ []) ≡ ss (grammar.clauses (map clause_of cs))
clauses_same [] = refl
clauses_same (c ∷ cs) =
    let last : Spelling = (Ended, None) ∷ [] in
    ap (λ (zs : Spelling). ks zs) (append_assoc (clause_marks c) (clauses_marks cs) last)
    ∙ both (clause_marks c) (clauses_marks cs ++ last) (grammar.clause (clause_of c))
    (grammar.clauses (map clause_of cs))
    (clause_same c) (clauses_same cs)

kind_same : (k : GivenKind) → ks (kind_marks k) ≡ ss (grammar.head (seen_kind k))
kind_same kind.Target = refl
kind_same kind.TargetData = refl
kind_same kind.TargetEnterData = refl
kind_same kind.TargetExitData = refl
kind_same kind.TargetUpdate = refl
kind_same (kind.Combined construct.Simd) = refl
kind_same (kind.Combined construct.ParallelFor) = refl
kind_same (kind.Combined construct.ParallelForSimd) = refl
kind_same (kind.Combined construct.ParallelLoop) = refl
kind_same (kind.Combined construct.TeamsDistribute) = refl
kind_same (kind.Combined construct.TeamsDistributeSimd) = refl
kind_same (kind.Combined construct.TeamsDistributeParallelFor) = refl
kind_same (kind.Combined construct.TeamsDistributeParallelForSimd) = refl
kind_same (kind.Combined construct.TeamsLoop) = refl
kind_same kind.TaskWait = refl
kind_same kind.AtomicUpdate = refl

pub line_same : (d : Directive) → ks (line_marks d) ≡ ss (grammar.line_slots (text_of d))
unfolding line_marks
line_same d = ap (λ (zs : List Lexeme). (Worded (codes "pragma")) ∷ (Worded (codes "omp")) ∷ zs)
    (both (kind_marks d.kind)
    (clauses_marks d.clauses.items ++ (Ended, None) ∷ []) (grammar.head (seen_kind d.kind))
    (grammar.clauses (map clause_of d.clauses.items)) (kind_same d.kind) (clauses_same d.clauses.items))
