-- The machine at the sections of a clause.
use Rattle.std.proofs.Common.{◌≡◌, ℕ, true, false, List, [], ◌∷◌, ◌++◌, Option, Some, None, refl, ap, ◌∙◌}
use Rattle.c_tokens.specs.declared.kind.Sign.TheVariants as sign
use Rattle.base.specs.declared.fault.ReadCode.TheVariants.{Unexpected}
use Rattle.c_grammar.specs.Lexeme.{Lexeme, Reserved, Signed, Worded, Numbered, Strange, Ended, same}
use Rattle.c_grammar.specs.LineGrammar.{LineAct, plain}
use Rattle.c_grammar.specs.LineMachine.{LineStack, AfterItem, AfterName, Name, line_advance, line_place}
use Rattle.directives.specs.declared.line.Line.{Line}
use Rattle.directives.specs.declared.tree.Name.{Name as GivenName}
use Rattle.directives.specs.declared.tree.Bound.{Bound}
use Rattle.directives.specs.declared.tree.Sections.{Sections}
use Rattle.directives.specs.Cursor.{Items, first_item, behind, items}
use Rattle.directives.specs.Reading.{rest, took, misfit_at, IsSpelled}
use Rattle.directives.specs.Trees.{Spelling, name_mark, sign_mark, bounds_marks, section_marks, sections_marks, each_behind}
use Rattle.directives.proofs.Moves.{goes, stops}
use Rattle.directives.proofs.Bounding.{NoName}
use Rattle.directives.proofs.Spellings.{spelled_one, spelled_then}

-- ---- a name

name_goes : (a : LineAct) (s : LineStack) (x : List ℕ) →
    line_advance (Name a ∷ s) (Worded x) ≡ Some ((None, a), AfterName a ∷ s)
unfolding line_advance
name_goes a s x = refl

pub at_name : (l : Line) (a : LineAct) (s : LineStack) (x : List ℕ) → (first_item l).terminal ≡ Worded x →
    rest l (Name a ∷ s) ≡ took l (None, a) (AfterName a ∷ s)
at_name l a s x e = goes l (Name a ∷ s) (AfterName a ∷ s) (None, a)
    (ap (line_advance (Name a ∷ s)) e ∙ name_goes a s x)

name_none : (a : LineAct) (s : LineStack) (t : Lexeme) → NoName t → line_advance (Name a ∷ s) t ≡ None
unfolding line_advance
name_none a s (Worded x) h = absurd h
name_none a s (Numbered n) h = refl
name_none a s (Reserved x) h = refl
name_none a s (Signed x) h = refl
name_none a s Strange h = refl
name_none a s Ended h = refl

pub stop_name : (l : Line) (a : LineAct) (s : LineStack) → NoName (first_item l).terminal →
    rest l (Name a ∷ s) ≡ Some (misfit_at Unexpected (first_item l))
unfolding line_place
stop_name l a s h = stops l (Name a ∷ s) Unexpected (name_none a s (first_item l).terminal h) refl

-- ---- behind a section

comma_goes : (a : LineAct) (s : LineStack) (t : Lexeme) → same (Signed sign.Comma) t ≡ true →
    line_advance (AfterItem a ∷ s) t ≡ Some (plain, Name a ∷ s)
unfolding line_advance
comma_goes a s t e = rw e refl

pub at_comma : (l : Line) (a : LineAct) (s : LineStack) → same (Signed sign.Comma) (first_item l).terminal ≡ true →
    rest l (AfterItem a ∷ s) ≡ took l plain (Name a ∷ s)
at_comma l a s e = goes l (AfterItem a ∷ s) (Name a ∷ s) plain (comma_goes a s (first_item l).terminal e)

closing_goes : (a : LineAct) (s : LineStack) (t : Lexeme) → same (Signed sign.Comma) t ≡ false →
    same (Signed sign.CloseParen) t ≡ true → line_advance (AfterItem a ∷ s) t ≡ Some (plain, s)
unfolding line_advance
closing_goes a s t p e = rw (p, e) refl

pub at_closing : (l : Line) (a : LineAct) (s : LineStack) → same (Signed sign.Comma) (first_item l).terminal ≡ false →
    same (Signed sign.CloseParen) (first_item l).terminal ≡ true → rest l (AfterItem a ∷ s) ≡ took l plain s
at_closing l a s p e = goes l (AfterItem a ∷ s) s plain (closing_goes a s (first_item l).terminal p e)

closing_none : (a : LineAct) (s : LineStack) (t : Lexeme) → same (Signed sign.Comma) t ≡ false →
    same (Signed sign.CloseParen) t ≡ false → line_advance (AfterItem a ∷ s) t ≡ None
unfolding line_advance
closing_none a s t p e = rw (p, e) refl

pub stop_closing : (l : Line) (a : LineAct) (s : LineStack) → same (Signed sign.Comma) (first_item l).terminal ≡ false →
    same (Signed sign.CloseParen) (first_item l).terminal ≡ false →
    rest l (AfterItem a ∷ s) ≡ Some (misfit_at Unexpected (first_item l))
unfolding line_place
stop_closing l a s p e = stops l (AfterItem a ∷ s) Unexpected (closing_none a s (first_item l).terminal p e) refl

-- ---- what was read

pub read_section : (l l1 l2 : Line) (x : GivenName) (o : Option (Bound × Bound)) →
    IsSpelled (name_mark x ∷ []) (items l) (items l1) → IsSpelled (bounds_marks o) (items l1) (items l2) →
    IsSpelled (section_marks (record { array = x; bounds = o })) (items l) (items l2)
unfolding section_marks
read_section l l1 l2 x o r s = spelled_then (name_mark x ∷ []) (bounds_marks o) (items l) (items l1) (items l2) r s

-- the sections and the bracket behind them
pub read_sections : (s : Sections) (before : Items) (l l' : Line) →
    IsSpelled (section_marks s.first ++ each_behind sign.Comma section_marks s.more.items) before (items l) →
    (first_item l).terminal ≡ Signed sign.CloseParen → behind l ≡ items l' →
    IsSpelled (sections_marks s) before (items l')
unfolding sections_marks
read_sections s before l l' r e b =
    let last : Spelling = sign_mark sign.CloseParen ∷ [] in
    spelled_then (section_marks s.first ++ each_behind sign.Comma section_marks s.more.items) last before (items l)
    (items l')
    r (spelled_one l (items l') (Signed sign.CloseParen) None e tt b)
