-- Which names the tokens of a directive are.
use Rattle.std.proofs.Common.{◌≡◌, ℕ, Bool, true, false, List, [], ◌∷◌, ◌++◌, map, Option, Some, None, refl, sym, subst, append_assoc, append-nil}
use Rattle.std.proofs.Math.Bool.{and-false}
use Rattle.c_tokens.specs.declared.kind.Sign.TheVariants as sign
use Rattle.base.specs.declared.fault.ReadCode.TheVariants.{BadBound, BadMapType}
use Rattle.c_grammar.specs.Lexeme.{Lexeme, Signed, Worded, Ended, same}
use Rattle.c_grammar.specs.Texts.{next_slot}
use Rattle.c_grammar.specs.LineRules.{line_grammar}
use Rattle.c_grammar.specs.LineGrammar as grammar
use Rattle.c_grammar.specs.Lines.{Use, OfArray, use_of}
use Rattle.directives.specs.declared.tree.Modifier.{Modifier}
use Rattle.directives.specs.declared.tree.Term.{Term}
use Rattle.directives.specs.declared.tree.Term.TheVariants.{Literal, Variable, Product}
use Rattle.directives.specs.declared.tree.SignedTerm.{SignedTerm}
use Rattle.directives.specs.declared.tree.Bound.{Bound}
use Rattle.directives.specs.declared.tree.Section.{Section}
use Rattle.directives.specs.declared.tree.Sections.{Sections}
use Rattle.directives.specs.declared.tree.DeviceClause.TheVariants.{Fixed, Looped}
use Rattle.directives.specs.declared.tree.Clause.{Clause}
use Rattle.directives.specs.declared.tree.Clause.TheVariants.{Map, Depend, Motion, NoWait, Device, Amount, Schedule}
use Rattle.directives.specs.declared.tree.Directive.{Directive}
use Rattle.directives.specs.declared.tree.DirectiveKind.{DirectiveKind as GivenKind}
use Rattle.directives.specs.declared.tree.DirectiveKind.TheVariants as kind
use Rattle.directives.specs.declared.tree.Construct.TheVariants as construct
use Rattle.directives.specs.Kinds.{seen_kind, seen_modifier, seen_map}
use Rattle.directives.specs.Names.{Uses, each_names, term_names, signed_names, bound_names, bounds_names, section_names, sections_names, clause_names, names_in}
use Rattle.directives.specs.Trees.{Spelling, sign_mark, each_behind, term_of, signed_of, bound_of, bounds_of, section_of, sections_of, clause_of, text_of, term_marks, signed_marks, terms_marks, bound_marks, second_marks, bounds_marks, section_marks, sections_marks, modifiers_marks, present_marks, type_marks, clause_marks, clauses_marks, kind_marks, line_marks}

abbrev Slots : Type 0
Slots = grammar.LineSlots

-- a token is a name just where its column is kept
abbrev pub TellsOne : Option ℕ → Option Use → Uses → (Uses → Type 0) → Type 0
TellsOne None None ns go = go ns
TellsOne None (Some u) ns go = ⊥
TellsOne (Some c) None ns go = ⊥
TellsOne (Some c) (Some u) [] go = ⊥
TellsOne (Some c) (Some u) (n ∷ ns) go = (n ≡ (c, u)) × go ns

-- the token behind these
abbrev pub next_kind : Slots → Lexeme → Lexeme
next_kind us n = next_slot line_grammar us n

next_both : (us vs : Slots) (n : Lexeme) → next_kind (us ++ vs) n ≡ next_kind us (next_kind vs n)
next_both [] vs n = refl
next_both (u ∷ us) vs n = refl

-- these are the names among the tokens, which that one follows
abbrev pub Tells : Spelling → Slots → Lexeme → Uses → Type 0
Tells [] [] n ns = ns ≡ []
Tells [] (u ∷ us) n ns = ⊥
Tells (x ∷ xs) [] n ns = ⊥
Tells (x ∷ xs) (u ∷ us) n ns = TellsOne x.1 (use_of u.0 u.1.1 (next_kind us n)) ns (λ ms. Tells xs us n ms)

-- one after the other
tells_one : (o : Option ℕ) (u : Option Use) (ns ms : Uses) (go go' : Uses → Type 0) →
    ((k : Uses) → go k → go' (k ++ ms)) →
    TellsOne o u ns go → TellsOne o u (ns ++ ms) go'
tells_one None None ns ms go go' f h = f ns h
tells_one None (Some u) ns ms go go' f h = absurd h
tells_one (Some c) None ns ms go go' f h = absurd h
tells_one (Some c) (Some u) [] ms go go' f h = absurd h
tells_one (Some c) (Some u) (n ∷ ns) ms go go' f h = (h.0, f ns h.1)

tells_then : (n : Lexeme) (xs : Spelling) (us : Slots) (ns : Uses) (ys : Spelling) (vs : Slots) (ms : Uses) →
    Tells xs us (next_kind vs n) ns → Tells ys vs n ms → Tells (xs ++ ys) (us ++ vs) n (ns ++ ms)
tells_then n [] [] ns ys vs ms e h = subst (λ (ks : Uses). Tells ys vs n (ks ++ ms)) (sym e) h
tells_then n [] (u ∷ us) ns ys vs ms e h = absurd e
tells_then n (x ∷ xs) [] ns ys vs ms e h = absurd e
tells_then n (x ∷ xs) (u ∷ us) ns ys vs ms e h =
    rw (next_both us vs n) (tells_one x.1 (use_of u.0 u.1.1 (next_kind us (next_kind vs n))) ns ms
    (λ ks. Tells xs us (next_kind vs n) ks) (λ ks. Tells (xs ++ ys) (us ++ vs) n ks)
    (λ ks g. tells_then n xs us ks ys vs ms g h) e)

-- with tokens behind that are no names
tells_end : (n : Lexeme) (xs : Spelling) (us : Slots) (ns : Uses) (ys : Spelling) (vs : Slots) →
    Tells xs us (next_kind vs n) ns → Tells ys vs n [] → Tells (xs ++ ys) (us ++ vs) n ns
tells_end n xs us ns ys vs e h =
    subst (λ (ms : Uses). Tells (xs ++ ys) (us ++ vs) n ms) (append-nil ns) (tells_then n xs us ns ys vs [] e h)

-- with the tokens grouped otherwise
tells_as : (n : Lexeme) (xs ys : Spelling) (us : Slots) (ns : Uses) → xs ≡ ys → Tells ys us n ns → Tells xs us n ns
tells_as n xs ys us ns e h = subst (λ (zs : Spelling). Tells zs us n ns) (sym e) h

-- ---- the parts of a directive

term_tells : (n : Lexeme) (t : Term) → Tells (term_marks t) (grammar.term (term_of t)) n (term_names t)
term_tells n (Literal v) = refl
term_tells n (Variable x) = (refl, refl)
term_tells n (Product v x) = (refl, refl)

terms_tell : (n : Lexeme) (ts : List SignedTerm) →
    Tells (terms_marks ts) (grammar.more_terms (map signed_of ts)) n (each_names signed_names ts)
terms_tell n [] = refl
terms_tell n (t ∷ ts) = tells_then n (term_marks t.term) (grammar.term (term_of t.term)) (term_names t.term)
    (terms_marks ts) (grammar.more_terms (map signed_of ts)) (each_names signed_names ts) (term_tells _ t.term)
    (terms_tell n ts)

bound_tells : (n : Lexeme) (b : Bound) → Tells (bound_marks b) (grammar.bound (bound_of b)) n (bound_names b)
bound_tells n b = tells_then n (term_marks b.first) (grammar.term (term_of b.first)) (term_names b.first)
    (terms_marks b.more.items) (grammar.more_terms (map signed_of b.more.items))
    (each_names signed_names b.more.items) (term_tells _ b.first) (terms_tell n b.more.items)

bounds_tell : (n : Lexeme) (o : Option (Bound × Bound)) →
    Tells (bounds_marks o) (grammar.section (bounds_of o)) n (bounds_names o)
bounds_tell n None = refl
bounds_tell n (Some b) =
    let colon : Spelling = sign_mark sign.Colon ∷ [] in
    let last : Slots = grammar.bound_sign sign.CloseBracket ∷ [] in
    let second : Tells (second_marks b.1) (grammar.bound (bound_of b.1) ++ last) n (bound_names b.1) =
    tells_end n (bound_marks b.1) (grammar.bound (bound_of b.1)) (bound_names b.1) (sign_mark sign.CloseBracket ∷ [])
    last (bound_tells _ b.1) refl in
    let after : Slots = (Signed sign.Colon, grammar.of BadBound grammar.Opens) ∷
    (grammar.bound (bound_of b.1) ++ last) in
    tells_as n ((bound_marks b.0 ++ colon) ++ second_marks b.1) (bound_marks b.0 ++ (colon ++ second_marks b.1))
    (grammar.bound (bound_of b.0) ++ after) (bound_names b.0 ++ bound_names b.1)
    (append_assoc (bound_marks b.0) colon (second_marks b.1))
    (tells_then n (bound_marks b.0) (grammar.bound (bound_of b.0)) (bound_names b.0) (colon ++ second_marks b.1) after
    (bound_names b.1) (bound_tells _ b.0) second)

-- an array's name
abbrev IsArrayAct : grammar.LineAct → Type 0
IsArrayAct grammar.Maps = Unit {0}
IsArrayAct grammar.Depends = Unit {0}
IsArrayAct _ = ⊥

section_tells : (a : grammar.LineAct) (n : Lexeme) (s : Section) → IsArrayAct a →
    Tells (section_marks s) (grammar.item a (section_of s)) n (section_names s)
unfolding section_marks
section_tells grammar.Maps n s h = (refl, bounds_tell n s.bounds)
section_tells grammar.Depends n s h = (refl, bounds_tell n s.bounds)
section_tells grammar.Plain n s h = absurd h
section_tells grammar.Demands n s h = absurd h
section_tells grammar.Meets n s h = absurd h
section_tells (grammar.Once what) n s h = absurd h
section_tells grammar.Ends n s h = absurd h
section_tells grammar.Heads n s h = absurd h
section_tells grammar.Modifies n s h = absurd h
section_tells grammar.Numbers n s h = absurd h
section_tells (grammar.Amounts a) n s h = absurd h
section_tells grammar.Chunks n s h = absurd h
section_tells grammar.Opens n s h = absurd h
section_tells grammar.Begins n s h = absurd h
section_tells grammar.BeginsNamed n s h = absurd h
section_tells grammar.Times n s h = absurd h

more_tell : (a : grammar.LineAct) (n : Lexeme) (xs : List Section) → IsArrayAct a →
    Tells (each_behind sign.Comma section_marks xs) (grammar.more_items a (map section_of xs)) n
    (each_names section_names xs)
more_tell a n [] h = refl
more_tell a n (x ∷ xs) h = tells_then n (section_marks x) (grammar.item a (section_of x)) (section_names x)
    (each_behind sign.Comma section_marks xs) (grammar.more_items a (map section_of xs)) (each_names section_names xs)
    (section_tells a _ x h) (more_tell a n xs h)

-- the first section is told by what it is there for
sections_from : (first a : grammar.LineAct) (n : Lexeme) (s : Sections) → IsArrayAct a →
    ((m : Lexeme) → same (Signed sign.Colon) m ≡ false →
    Tells (section_marks s.first) (grammar.item first (section_of s.first)) m (section_names s.first)) →
    Tells (sections_marks s) (grammar.items_from first a (sections_of s)) n (sections_names s)
unfolding sections_marks
sections_from first a n s h f =
    let more : Spelling = each_behind sign.Comma section_marks s.more.items in
    let last : Spelling = sign_mark sign.CloseParen ∷ [] in
    let slots : Slots = grammar.more_items a (map section_of s.more.items) in
    let ends : Slots = grammar.mark sign.CloseParen ∷ [] in
    let names : Uses = each_names section_names s.more.items in
    tells_as n ((section_marks s.first ++ more) ++ last) (section_marks s.first ++ (more ++ last))
    (grammar.item first (section_of s.first) ++ (slots ++ ends)) (section_names s.first ++ names)
    (append_assoc (section_marks s.first) more last)
    (tells_then n (section_marks s.first) (grammar.item first (section_of s.first)) (section_names s.first)
    (more ++ last) (slots ++ ends) names (f (next_kind (slots ++ ends) n) (apart s.more.items))
    (tells_end n more slots names last ends (more_tell a _ s.more.items h) refl))
  where
    apart : (xs : List Section) → same (Signed sign.Colon)
        (next_kind (grammar.more_items a (map section_of xs) ++ grammar.mark sign.CloseParen ∷ []) n) ≡ false
    apart [] = refl
    apart (x ∷ xs) = refl

sections_tell : (a : grammar.LineAct) (n : Lexeme) (s : Sections) → IsArrayAct a →
    Tells (sections_marks s) (grammar.items a (sections_of s)) n (sections_names s)
sections_tell a n s h = sections_from a a n s h (λ m e. section_tells a m s.first h)

-- ---- present, or the first array of an update

name_used : (x : List ℕ) (n : Lexeme) → same (Signed sign.Colon) n ≡ false →
    use_of (Worded x) grammar.Heads n ≡ Some (OfArray x)
name_used x n h = rw (h, and-false (same (Worded (grammar.modifier_word grammar.Present)) (Worded x))) refl

bounds_apart : (o : Option (Bound × Bound)) (n : Lexeme) → same (Signed sign.Colon) n ≡ false →
    same (Signed sign.Colon) (next_kind (grammar.section (bounds_of o)) n) ≡ false
bounds_apart None n h = h
bounds_apart (Some b) n h = refl

head_tells : (n : Lexeme) (s : Section) → same (Signed sign.Colon) n ≡ false →
    Tells (section_marks s) (grammar.item grammar.Heads (section_of s)) n (section_names s)
unfolding section_marks
head_tells n s h = rw (name_used s.array.text.now (next_kind (grammar.section (bounds_of s.bounds)) n)
    (bounds_apart s.bounds n h)) (refl, bounds_tell n s.bounds)

motion_tells : (p : Bool) (n : Lexeme) (s : Sections) →
    Tells (present_marks p ++ sections_marks s) (grammar.motion p (sections_of s)) n (sections_names s)
motion_tells false n s = sections_from grammar.Heads grammar.Maps n s tt (λ m h. head_tells m s.first h)
motion_tells true n s = sections_tell grammar.Maps n s tt

-- ---- clauses

modifiers_tell : (ms : List Modifier) (n : Lexeme) (xs : Spelling) (us : Slots) (ns : Uses) → Tells xs us n ns →
    Tells (modifiers_marks ms ++ xs) (grammar.modifiers (map seen_modifier ms) ++ us) n ns
modifiers_tell [] n xs us ns h = h
modifiers_tell (m ∷ ms) n xs us ns h = modifiers_tell ms n xs us ns h

clause_tells : (n : Lexeme) (c : Clause) → Tells (clause_marks c) (grammar.clause (clause_of c)) n (clause_names c)
unfolding clause_marks
clause_tells n (Map m) = modifiers_tell m.modifiers.items n
    (type_marks (grammar.map_word (seen_map m.map_type)) ++ sections_marks m.sections)
    ((Worded (grammar.map_word (seen_map m.map_type)), grammar.of BadMapType grammar.Plain) ∷
    grammar.mark sign.Colon ∷ grammar.items grammar.Maps (sections_of m.sections)) (sections_names m.sections)
    (sections_tell grammar.Maps n m.sections tt)
clause_tells n (Depend d) = sections_tell grammar.Depends n d.sections tt
clause_tells n (Motion m) = motion_tells m.present n m.sections
clause_tells n NoWait = refl
clause_tells n (Device (Fixed d)) = refl
clause_tells n (Device (Looped x)) = (refl, refl)
clause_tells n (Amount a k) = refl
clause_tells n (Schedule t None) = refl
clause_tells n (Schedule t (Some k)) = refl

clauses_tell : (cs : List Clause) →
    Tells (clauses_marks cs ++ (Ended, None) ∷ []) (grammar.clauses (map clause_of cs)) Ended (each_names clause_names cs)
clauses_tell [] = refl
clauses_tell (c ∷ cs) =
    let last : Spelling = (Ended, None) ∷ [] in
    tells_as Ended ((clause_marks c ++ clauses_marks cs) ++ last) (clause_marks c ++ (clauses_marks cs ++ last))
    (grammar.clause (clause_of c) ++ grammar.clauses (map clause_of cs)) (clause_names c ++ each_names clause_names cs)
    (append_assoc (clause_marks c) (clauses_marks cs) last)
    (tells_then Ended (clause_marks c) (grammar.clause (clause_of c)) (clause_names c) (clauses_marks cs ++ last)
    (grammar.clauses (map clause_of cs)) (each_names clause_names cs) (clause_tells _ c) (clauses_tell cs))

kind_tells : (n : Lexeme) (k : GivenKind) → Tells (kind_marks k) (grammar.head (seen_kind k)) n []
kind_tells n kind.Target = refl
kind_tells n kind.TargetData = refl
kind_tells n kind.TargetEnterData = refl
kind_tells n kind.TargetExitData = refl
kind_tells n kind.TargetUpdate = refl
kind_tells n (kind.Combined construct.Simd) = refl
kind_tells n (kind.Combined construct.ParallelFor) = refl
kind_tells n (kind.Combined construct.ParallelForSimd) = refl
kind_tells n (kind.Combined construct.ParallelLoop) = refl
kind_tells n (kind.Combined construct.TeamsDistribute) = refl
kind_tells n (kind.Combined construct.TeamsDistributeSimd) = refl
kind_tells n (kind.Combined construct.TeamsDistributeParallelFor) = refl
kind_tells n (kind.Combined construct.TeamsDistributeParallelForSimd) = refl
kind_tells n (kind.Combined construct.TeamsLoop) = refl
kind_tells n kind.TaskWait = refl
kind_tells n kind.AtomicUpdate = refl

pub line_tells : (d : Directive) → Tells (line_marks d) (grammar.line_slots (text_of d)) Ended (names_in d)
unfolding line_marks names_in
line_tells d = tells_then Ended (kind_marks d.kind) (grammar.head (seen_kind d.kind)) []
    (clauses_marks d.clauses.items ++ (Ended, None) ∷ []) (grammar.clauses (map clause_of d.clauses.items))
    (each_names clause_names d.clauses.items) (kind_tells _ d.kind) (clauses_tell d.clauses.items)
