-- The machine at the tokens of a bound.
use Rattle.std.proofs.Common.{◌≡◌, ℕ, Bool, true, false, cond, List, ◌∷◌, Option, Some, None, refl, ap, ◌∙◌}
use Rattle.c_tokens.specs.declared.kind.Sign.TheVariants as sign
use Rattle.base.specs.declared.fault.ReadCode.{ReadCode as Code}
use Rattle.base.specs.declared.fault.ReadCode.TheVariants.{BadNumber, BadBound}
use Rattle.c_grammar.specs.Lexeme.{Lexeme, Reserved, Signed, Worded, Numbered, Strange, Ended, same}
use Rattle.c_grammar.specs.Texts.{Item, next_of}
use Rattle.c_grammar.specs.Machine.{Found, judged, run as machine_run}
use Rattle.c_grammar.specs.LineGrammar.{LineAct, Plain, Opens, Begins, BeginsNamed, Times, before_term, of}
use Rattle.c_grammar.specs.LineRules.{LineContext, line_grammar}
use Rattle.c_grammar.specs.LineMachine.{LineStack, Terms, AfterNumber, AfterTerm, AfterItem, AfterName, Factor, closed, closing_sign, line_advance, line_place, line_machine}
use Rattle.directives.specs.declared.line.Line.{Line}
use Rattle.directives.specs.declared.known.Act.TheVariants as act
use Rattle.directives.specs.declared.tree.TermSign.{TermSign}
use Rattle.directives.specs.declared.tree.TermSign.TheVariants.{Added, Taken}
use Rattle.directives.specs.Kinds.{seen_sign}
use Rattle.directives.specs.Known.{known_of, broken_by}
use Rattle.directives.specs.Cursor.{first_item, behind}
use Rattle.directives.specs.Reading.{run, rest, took, fault_at, misfit_at, found_fault}
use Rattle.directives.specs.Trees.{sign_before}
use Rattle.directives.proofs.Moves.{goes, stops, took_broken}

-- ---- a term

number_begins : (b : Bool) (a : LineAct) (s : LineStack) (n : Option ℕ) →
    line_advance (Terms b a ∷ s) (Numbered n) ≡ Some (of BadBound Begins, AfterNumber b a ∷ s)
unfolding line_advance
number_begins b a s n = refl

name_begins : (b : Bool) (a : LineAct) (s : LineStack) (x : List ℕ) →
    line_advance (Terms b a ∷ s) (Worded x) ≡ Some (of BadBound BeginsNamed, AfterTerm b a ∷ s)
unfolding line_advance
name_begins b a s x = refl

pub number_term : (l : Line) (b : Bool) (a : LineAct) (s : LineStack) (n : Option ℕ) →
    (first_item l).terminal ≡ Numbered n → rest l (Terms b a ∷ s) ≡ took l (of BadBound Begins) (AfterNumber b a ∷ s)
number_term l b a s n e = goes l (Terms b a ∷ s) (AfterNumber b a ∷ s) (of BadBound Begins)
    (ap (line_advance (Terms b a ∷ s)) e ∙ number_begins b a s n)

pub name_term : (l : Line) (b : Bool) (a : LineAct) (s : LineStack) (x : List ℕ) →
    (first_item l).terminal ≡ Worded x → rest l (Terms b a ∷ s) ≡ took l (of BadBound BeginsNamed) (AfterTerm b a ∷ s)
name_term l b a s x e = goes l (Terms b a ∷ s) (AfterTerm b a ∷ s) (of BadBound BeginsNamed)
    (ap (line_advance (Terms b a ∷ s)) e ∙ name_begins b a s x)

pub bad_breaks : (c : LineContext) (a : LineAct) → broken_by c (Numbered None) a ≡ Some BadNumber
unfolding broken_by
bad_breaks c a = refl

pub bad_term : (l : Line) (b : Bool) (a : LineAct) (s : LineStack) → (first_item l).terminal ≡ Numbered None →
    rest l (Terms b a ∷ s) ≡ Some (fault_at (first_item l) BadNumber)
bad_term l b a s e = number_term l b a s None e ∙ took_broken l act.Begins BadNumber (Some BadBound) (AfterNumber b a ∷ s)
    (ap (λ (t : Lexeme). broken_by (known_of l.known) t Begins) e ∙ bad_breaks (known_of l.known) Begins)

-- a token with which no term begins
abbrev pub NoTerm : Lexeme → Type 0
NoTerm (Numbered n) = ⊥
NoTerm (Worded x) = ⊥
NoTerm (Reserved x) = Unit {0}
NoTerm (Signed x) = Unit {0}
NoTerm Strange = Unit {0}
NoTerm Ended = Unit {0}

term_none : (b : Bool) (a : LineAct) (s : LineStack) (t : Lexeme) → NoTerm t → line_advance (Terms b a ∷ s) t ≡ None
unfolding line_advance
term_none b a s (Numbered n) h = absurd h
term_none b a s (Worded x) h = absurd h
term_none b a s (Reserved x) h = refl
term_none b a s (Signed x) h = refl
term_none b a s Strange h = refl
term_none b a s Ended h = refl

pub stop_term : (l : Line) (b : Bool) (a : LineAct) (s : LineStack) → NoTerm (first_item l).terminal →
    rest l (Terms b a ∷ s) ≡ Some (misfit_at BadBound (first_item l))
unfolding line_place
stop_term l b a s h = stops l (Terms b a ∷ s) BadBound (term_none b a s (first_item l).terminal h) refl

-- ---- a factor

star_goes : (b : Bool) (a : LineAct) (s : LineStack) (t : Lexeme) → same (Signed sign.Star) t ≡ true →
    line_advance (AfterNumber b a ∷ s) t ≡ Some (of BadBound Plain, Factor ∷ AfterTerm b a ∷ s)
unfolding line_advance
star_goes b a s t e = rw e refl

pub at_star : (l : Line) (b : Bool) (a : LineAct) (s : LineStack) →
    same (Signed sign.Star) (first_item l).terminal ≡ true →
    rest l (AfterNumber b a ∷ s) ≡ took l (of BadBound Plain) (Factor ∷ AfterTerm b a ∷ s)
at_star l b a s e = goes l (AfterNumber b a ∷ s) (Factor ∷ AfterTerm b a ∷ s) (of BadBound Plain)
    (star_goes b a s (first_item l).terminal e)

-- stacks that go the same way
pub judged_same : (c : LineContext) (s s' : LineStack) (i : Item Lexeme) (n : Lexeme)
    (o : Option ((Option Code × LineAct) × LineStack)) (go : LineContext → LineStack → Option
    (Found line_grammar line_machine)) →
    line_place s ≡ line_place s' → judged line_grammar line_machine c s i n o go ≡
    judged line_grammar line_machine c s' i n o go
judged_same c s s' i n None go p = rw p refl
judged_same c s s' i n (Some move) go p = refl

pub same_rest : (l : Line) (s s' : LineStack) → line_advance s (first_item l).terminal ≡ line_advance s'
    (first_item l).terminal →
    line_place s ≡ line_place s' → rest l s ≡ rest l s'
unfolding run machine_run
same_rest l s s' e p = rw e (ap found_fault (judged_same (known_of l.known) s s' (first_item l)
    (next_of line_grammar (behind l))
    (line_advance s' (first_item l).terminal) (λ d u. machine_run line_grammar line_machine d u (behind l)) p))

star_not : (b : Bool) (a : LineAct) (s : LineStack) (t : Lexeme) → same (Signed sign.Star) t ≡ false →
    line_advance (AfterNumber b a ∷ s) t ≡ line_advance (AfterTerm b a ∷ s) t
unfolding line_advance
star_not b a s t e = rw e refl

pub no_star : (l : Line) (b : Bool) (a : LineAct) (s : LineStack) →
    same (Signed sign.Star) (first_item l).terminal ≡ false →
    rest l (AfterNumber b a ∷ s) ≡ rest l (AfterTerm b a ∷ s)
unfolding line_place
no_star l b a s e = same_rest l (AfterNumber b a ∷ s) (AfterTerm b a ∷ s)
    (star_not b a s (first_item l).terminal e) refl

factor_goes : (s : LineStack) (x : List ℕ) → line_advance (Factor ∷ s) (Worded x) ≡ Some (of BadBound Times, s)
unfolding line_advance
factor_goes s x = refl

pub at_factor : (l : Line) (s : LineStack) (x : List ℕ) → (first_item l).terminal ≡ Worded x →
    rest l (Factor ∷ s) ≡ took l (of BadBound Times) s
at_factor l s x e = goes l (Factor ∷ s) s (of BadBound Times) (ap (line_advance (Factor ∷ s)) e ∙ factor_goes s x)

-- a token that is no name
abbrev pub NoName : Lexeme → Type 0
NoName (Worded x) = ⊥
NoName (Numbered n) = Unit {0}
NoName (Reserved x) = Unit {0}
NoName (Signed x) = Unit {0}
NoName Strange = Unit {0}
NoName Ended = Unit {0}

factor_none : (s : LineStack) (t : Lexeme) → NoName t → line_advance (Factor ∷ s) t ≡ None
unfolding line_advance
factor_none s (Worded x) h = absurd h
factor_none s (Numbered n) h = refl
factor_none s (Reserved x) h = refl
factor_none s (Signed x) h = refl
factor_none s Strange h = refl
factor_none s Ended h = refl

pub stop_factor : (l : Line) (s : LineStack) → NoName (first_item l).terminal →
    rest l (Factor ∷ s) ≡ Some (misfit_at BadBound (first_item l))
unfolding line_place
stop_factor l s h = stops l (Factor ∷ s) BadBound (factor_none s (first_item l).terminal h) refl

-- ---- behind a term

-- whether a token is a plus, and a minus
abbrev sign_of : Bool → Bool → Option TermSign
sign_of p m = cond p (Some Added) (cond m (Some Taken) None)

sign_goes : (b : Bool) (a : LineAct) (s : LineStack) (t : Lexeme) (g : TermSign) (p m : Bool) →
    same (Signed sign.Plus) t ≡ p → same (Signed sign.Minus) t ≡ m → sign_of p m ≡ Some g →
    line_advance (AfterTerm b a ∷ s) t ≡ Some (of BadBound Plain, Terms b a ∷ s)
unfolding line_advance
sign_goes b a s t g true m e f h = rw e refl
sign_goes b a s t g false true e f h = rw (e, f) refl
sign_goes b a s t g false false e f h = absurd cc

pub at_sign : (l : Line) (g : TermSign) (b : Bool) (a : LineAct) (s : LineStack) →
    sign_before (first_item l).terminal ≡ Some g →
    rest l (AfterTerm b a ∷ s) ≡ took l (of BadBound Plain) (Terms b a ∷ s)
at_sign l g b a s h = goes l (AfterTerm b a ∷ s) (Terms b a ∷ s) (of BadBound Plain)
    (sign_goes b a s (first_item l).terminal g (same (Signed sign.Plus) (first_item l).terminal)
    (same (Signed sign.Minus) (first_item l).terminal) refl refl h)

-- the token is that sign
named_sign : (t : Lexeme) (g : TermSign) (p m : Bool) → same (Signed sign.Plus) t ≡ p →
    same (Signed sign.Minus) t ≡ m → sign_of p m ≡ Some g → same (Signed (before_term (seen_sign g))) t ≡ true
named_sign t Added true m e f h = e
named_sign t Taken true m e f h = absurd cc
named_sign t Added false true e f h = absurd cc
named_sign t Taken false true e f h = f
named_sign t g false false e f h = absurd cc

pub is_sign_before : (l : Line) (g : TermSign) → sign_before (first_item l).terminal ≡ Some g →
    same (Signed (before_term (seen_sign g))) (first_item l).terminal ≡ true
is_sign_before l g h = named_sign (first_item l).terminal g (same (Signed sign.Plus) (first_item l).terminal)
    (same (Signed sign.Minus) (first_item l).terminal) refl refl h

neither : (p m : Bool) → sign_of p m ≡ None → (p ≡ false) × (m ≡ false)
neither true m h = absurd cc
neither false true h = absurd cc
neither false false h = (refl, refl)

-- behind a term that no sign follows
ended : (z : Bool) (a : LineAct) (s : LineStack) (t : Lexeme) → sign_before t ≡ None →
    line_advance (AfterTerm z a ∷ s) t ≡ cond (same (Signed (closing_sign z)) t) (closed z a s) None
unfolding line_advance
ended z a s t h = (let n = neither (same (Signed sign.Plus) t) (same (Signed sign.Minus) t) h in rw (n.0, n.1) refl)

colon_goes : (a : LineAct) (s : LineStack) (t : Lexeme) → sign_before t ≡ None →
    same (Signed sign.Colon) t ≡ true → line_advance (AfterTerm false a ∷ s) t ≡ Some
    (of BadBound Opens, Terms true a ∷ s)
unfolding line_advance
colon_goes a s t p e = ended false a s t p ∙ rw e refl

pub at_colon : (l : Line) (a : LineAct) (s : LineStack) → sign_before (first_item l).terminal ≡ None →
    same (Signed sign.Colon) (first_item l).terminal ≡ true →
    rest l (AfterTerm false a ∷ s) ≡ took l (of BadBound Opens) (Terms true a ∷ s)
at_colon l a s p e = goes l (AfterTerm false a ∷ s) (Terms true a ∷ s) (of BadBound Opens)
    (colon_goes a s (first_item l).terminal p e)

bracket_goes : (a : LineAct) (s : LineStack) (t : Lexeme) → sign_before t ≡ None →
    same (Signed sign.CloseBracket) t ≡ true → line_advance (AfterTerm true a ∷ s) t ≡ Some
    (of BadBound Plain, AfterItem a ∷ s)
unfolding line_advance
bracket_goes a s t p e = ended true a s t p ∙ rw e refl

pub at_bracket : (l : Line) (a : LineAct) (s : LineStack) → sign_before (first_item l).terminal ≡ None →
    same (Signed sign.CloseBracket) (first_item l).terminal ≡ true →
    rest l (AfterTerm true a ∷ s) ≡ took l (of BadBound Plain) (AfterItem a ∷ s)
at_bracket l a s p e = goes l (AfterTerm true a ∷ s) (AfterItem a ∷ s) (of BadBound Plain)
    (bracket_goes a s (first_item l).terminal p e)

colon_none : (a : LineAct) (s : LineStack) (t : Lexeme) → sign_before t ≡ None →
    same (Signed sign.Colon) t ≡ false → line_advance (AfterTerm false a ∷ s) t ≡ None
unfolding line_advance
colon_none a s t p e = ended false a s t p ∙ rw e refl

pub stop_colon : (l : Line) (a : LineAct) (s : LineStack) → sign_before (first_item l).terminal ≡ None →
    same (Signed sign.Colon) (first_item l).terminal ≡ false →
    rest l (AfterTerm false a ∷ s) ≡ Some (misfit_at BadBound (first_item l))
unfolding line_place
stop_colon l a s p e = stops l (AfterTerm false a ∷ s) BadBound (colon_none a s (first_item l).terminal p e) refl

bracket_none : (a : LineAct) (s : LineStack) (t : Lexeme) → sign_before t ≡ None →
    same (Signed sign.CloseBracket) t ≡ false → line_advance (AfterTerm true a ∷ s) t ≡ None
unfolding line_advance
bracket_none a s t p e = ended true a s t p ∙ rw e refl

pub stop_bracket : (l : Line) (a : LineAct) (s : LineStack) → sign_before (first_item l).terminal ≡ None →
    same (Signed sign.CloseBracket) (first_item l).terminal ≡ false →
    rest l (AfterTerm true a ∷ s) ≡ Some (misfit_at BadBound (first_item l))
unfolding line_place
stop_bracket l a s p e = stops l (AfterTerm true a ∷ s) BadBound (bracket_none a s (first_item l).terminal p e) refl

-- ---- behind a name

opening_goes : (a : LineAct) (s : LineStack) (t : Lexeme) → same (Signed sign.OpenBracket) t ≡ true →
    line_advance (AfterName a ∷ s) t ≡ Some ((None, Opens), Terms false a ∷ s)
unfolding line_advance
opening_goes a s t e = rw e refl

pub at_opening : (l : Line) (a : LineAct) (s : LineStack) →
    same (Signed sign.OpenBracket) (first_item l).terminal ≡ true →
    rest l (AfterName a ∷ s) ≡ took l (None, Opens) (Terms false a ∷ s)
at_opening l a s e = goes l (AfterName a ∷ s) (Terms false a ∷ s) (None, Opens)
    (opening_goes a s (first_item l).terminal e)

opening_not : (a : LineAct) (s : LineStack) (t : Lexeme) → same (Signed sign.OpenBracket) t ≡ false →
    line_advance (AfterName a ∷ s) t ≡ line_advance (AfterItem a ∷ s) t
unfolding line_advance
opening_not a s t e = rw e refl

pub no_opening : (l : Line) (a : LineAct) (s : LineStack) →
    same (Signed sign.OpenBracket) (first_item l).terminal ≡ false →
    rest l (AfterName a ∷ s) ≡ rest l (AfterItem a ∷ s)
unfolding line_place
no_opening l a s e = same_rest l (AfterName a ∷ s) (AfterItem a ∷ s) (opening_not a s (first_item l).terminal e) refl

pub is_opening : (l : Line) → (first_item l).terminal ≡ Signed sign.OpenBracket →
    same (Signed sign.OpenBracket) (first_item l).terminal ≡ true
is_opening l e = ap (same (Signed sign.OpenBracket)) e
