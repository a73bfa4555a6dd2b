-- The machine at the words behind which sections stand.
use Rattle.std.proofs.Common.{◌≡◌, true, false, List, [], ◌∷◌, Some, None, refl, sym, ap, ◌∙◌, inl, inr}
use Rattle.std.proofs.lemmas.Bool.{or_cases}
use Rattle.c_tokens.specs.declared.kind.Sign.TheVariants as sign
use Rattle.base.specs.declared.fault.ReadCode.TheVariants.{Unexpected, BadMapType}
use Rattle.c_grammar.specs.Lexeme.{Lexeme, Worded}
use Rattle.c_grammar.specs.LineGrammar.{Modifier, Always, Present, Plain, Once, Modified, Maps, plain, of, DirectiveKind, MapType, To, From, ToFrom, Alloc, Release, Delete, DependType, In, Out, InOut, modifier_word, map_word, depend_word, takes_modifier, map_types}
use Rattle.c_grammar.specs.LineRules.{IsAmong}
use Rattle.c_grammar.specs.LineMachine.{LineStack, MapHead, DependHead, Name, w, is_word, is_map_type, line_advance, line_place}
use Rattle.directives.specs.declared.line.Line.{Line}
use Rattle.directives.specs.Kinds.{allows, IsNoModifier, IsNoMapWord, IsNoDependWord}
use Rattle.directives.specs.Cursor.{first_item}
use Rattle.directives.specs.Reading.{rest, took, misfit_at}
use Rattle.directives.proofs.Moves.{goes, stops}

-- ---- map types

same_type : (t u : MapType) → is_word (map_word t) (Worded (map_word u)) ≡ true → t ≡ u
same_type To To e = refl
same_type To From e = absurd cc
same_type To ToFrom e = absurd cc
same_type To Alloc e = absurd cc
same_type To Release e = absurd cc
same_type To Delete e = absurd cc
same_type From To e = absurd cc
same_type From From e = refl
same_type From ToFrom e = absurd cc
same_type From Alloc e = absurd cc
same_type From Release e = absurd cc
same_type From Delete e = absurd cc
same_type ToFrom To e = absurd cc
same_type ToFrom From e = absurd cc
same_type ToFrom ToFrom e = refl
same_type ToFrom Alloc e = absurd cc
same_type ToFrom Release e = absurd cc
same_type ToFrom Delete e = absurd cc
same_type Alloc To e = absurd cc
same_type Alloc From e = absurd cc
same_type Alloc ToFrom e = absurd cc
same_type Alloc Alloc e = refl
same_type Alloc Release e = absurd cc
same_type Alloc Delete e = absurd cc
same_type Release To e = absurd cc
same_type Release From e = absurd cc
same_type Release ToFrom e = absurd cc
same_type Release Alloc e = absurd cc
same_type Release Release e = refl
same_type Release Delete e = absurd cc
same_type Delete To e = absurd cc
same_type Delete From e = absurd cc
same_type Delete ToFrom e = absurd cc
same_type Delete Alloc e = absurd cc
same_type Delete Release e = absurd cc
same_type Delete Delete e = refl

among : (us : List MapType) (t : MapType) → is_map_type us (Worded (map_word t)) ≡ true → IsAmong t us
among [] t e = absurd cc
among (u ∷ us) t e = elim (or_cases (is_word (map_word u) (Worded (map_word t)))
    (is_map_type us (Worded (map_word t))) e) [
      | inl h ↦ inl (sym (same_type u t h))
      | inr h ↦ inr (among us t h)
    ]

pub allowed : (k : DirectiveKind) (t : MapType) → allows k t ≡ true → IsAmong t (map_types k)
allowed k t e = among (map_types k) t e

word_false : (t : Lexeme) → IsNoMapWord t → (u : MapType) → is_word (map_word u) t ≡ false
word_false t h To = h.0
word_false t h From = h.1
word_false t h ToFrom = h.2
word_false t h Alloc = h.3
word_false t h Release = h.4
word_false t h Delete = h.5

pub no_type : (us : List MapType) (t : Lexeme) → IsNoMapWord t → is_map_type us t ≡ false
no_type [] t h = refl
no_type (u ∷ us) t h = rw (word_false t h u) (no_type us t h)

pub not_allowed : (k : DirectiveKind) (t : MapType) (x : Lexeme) → x ≡ Worded (map_word t) → allows k t ≡ false →
    is_map_type (map_types k) x ≡ false
not_allowed k t x e h = ap (is_map_type (map_types k)) e ∙ h

type_goes : (k : DirectiveKind) (s : LineStack) (t : Lexeme) → IsNoModifier k t →
    is_map_type (map_types k) t ≡ true →
    line_advance (MapHead k ∷ s) t ≡ Some (of BadMapType Plain, w sign.Colon ∷ Name Maps ∷ s)
unfolding line_advance
type_goes k s t n e = rw (n.0, n.1, e) refl

pub at_type : (l : Line) (k : DirectiveKind) (s : LineStack) (t : MapType) → IsNoModifier k (first_item l).terminal →
    (first_item l).terminal ≡ Worded (map_word t) → allows k t ≡ true →
    rest l (MapHead k ∷ s) ≡ took l (of BadMapType Plain) (w sign.Colon ∷ Name Maps ∷ s)
at_type l k s t n e h = goes l (MapHead k ∷ s) (w sign.Colon ∷ Name Maps ∷ s) (of BadMapType Plain)
    (type_goes k s (first_item l).terminal n (ap (is_map_type (map_types k)) e ∙ h))

type_none : (k : DirectiveKind) (s : LineStack) (t : Lexeme) → IsNoModifier k t →
    is_map_type (map_types k) t ≡ false → line_advance (MapHead k ∷ s) t ≡ None
unfolding line_advance
type_none k s t n e = rw (n.0, n.1, e) refl

pub stop_type : (l : Line) (k : DirectiveKind) (s : LineStack) → IsNoModifier k (first_item l).terminal →
    is_map_type (map_types k) (first_item l).terminal ≡ false →
    rest l (MapHead k ∷ s) ≡ Some (misfit_at BadMapType (first_item l))
unfolding line_place
stop_type l k s n e = stops l (MapHead k ∷ s) BadMapType (type_none k s (first_item l).terminal n e) refl

-- ---- modifiers

modifier_goes : (k : DirectiveKind) (m : Modifier) (s : LineStack) → takes_modifier k m ≡ true →
    line_advance (MapHead k ∷ s) (Worded (modifier_word m)) ≡ Some
    (of BadMapType (Once (Modified m)), w sign.Comma ∷ MapHead k ∷ s)
unfolding line_advance
modifier_goes k Always s h = refl
modifier_goes k Present s h = rw h refl

pub at_modifier : (l : Line) (k : DirectiveKind) (m : Modifier) (s : LineStack) →
    (first_item l).terminal ≡ Worded (modifier_word m) → takes_modifier k m ≡ true →
    rest l (MapHead k ∷ s) ≡ took l (of BadMapType (Once (Modified m))) (w sign.Comma ∷ MapHead k ∷ s)
at_modifier l k m s e h = goes l (MapHead k ∷ s) (w sign.Comma ∷ MapHead k ∷ s) (of BadMapType (Once (Modified m)))
    (ap (line_advance (MapHead k ∷ s)) e ∙ modifier_goes k m s h)

-- ---- depend types

depend_goes : (s : LineStack) (t : DependType) → line_advance (DependHead ∷ s) (Worded (depend_word t)) ≡ Some
    (plain, s)
unfolding line_advance
depend_goes s In = refl
depend_goes s Out = refl
depend_goes s InOut = refl

pub at_depend : (l : Line) (s : LineStack) (t : DependType) → (first_item l).terminal ≡ Worded (depend_word t) →
    rest l (DependHead ∷ s) ≡ took l plain s
at_depend l s t e = goes l (DependHead ∷ s) s plain (ap (line_advance (DependHead ∷ s)) e ∙ depend_goes s t)

depend_none : (s : LineStack) (t : Lexeme) → IsNoDependWord t → line_advance (DependHead ∷ s) t ≡ None
unfolding line_advance
depend_none s t h = rw (h.0, h.1, h.2) refl

pub stop_depend : (l : Line) (s : LineStack) → IsNoDependWord (first_item l).terminal →
    rest l (DependHead ∷ s) ≡ Some (misfit_at Unexpected (first_item l))
unfolding line_place
stop_depend l s h = stops l (DependHead ∷ s) Unexpected (depend_none s (first_item l).terminal h) refl
