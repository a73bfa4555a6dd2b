-- One token further, or not.
use Rattle.std.proofs.Common.{◌≡◌, ◌≢◌, ℕ, Bool, true, false, List, [], ◌∷◌, Option, Some, None, refl, sym, ap, ◌∙◌}
use Rattle.c_tokens.specs.declared.kind.Sign.{Sign}
use Rattle.base.specs.declared.fault.ReadCode.{ReadCode as Code}
use Rattle.base.specs.declared.fault.ReadCode.TheVariants.{Unexpected, UnknownDirective, UnknownClause}
use Rattle.c_grammar.specs.Lexeme.{Lexeme, For, Reserved, Signed, Worded, Numbered, Strange, Ended, same}
use Rattle.c_grammar.specs.Code.{lower_code}
use Rattle.c_grammar.specs.Texts.{Item, next_of}
use Rattle.c_grammar.specs.Machine.{lower, own_rule, run as machine_run}
use Rattle.c_grammar.specs.LineGrammar.{LineAct, Ends, of}
use Rattle.c_grammar.specs.LineRules.{LineContext, line_act, line_enter, line_grammar}
use Rattle.c_grammar.specs.LineMachine.{LineStack, Want, w, is_word, line_advance, line_place, line_machine}
use Rattle.directives.specs.declared.line.Line.{Line}
use Rattle.directives.specs.Seen.{ends_well}
use Rattle.directives.specs.declared.known.Act.{Act}
use Rattle.directives.specs.declared.known.Act.TheVariants as act
use Rattle.directives.specs.Known.{known_of, own_code, broken_by, seen_act}
use Rattle.directives.specs.Cursor.{Items, first_item, behind}
use Rattle.directives.specs.Reading.{run, rest, took_from, took, fault_at, misfit_at, found_fault}
use Rattle.c_grammar.proofs.Lexemes.{same-true}
use Rattle.directives.proofs.Knowing.{broken_is, wrong_is}

-- ---- a token that is taken

pub item_took : (c : LineContext) (s s' : LineStack) (r : Option Code × LineAct) (i : Item Lexeme) (is : Items) →
    line_advance s i.terminal ≡ Some (r, s') → run c s (i ∷ is) ≡ took_from c r s' i is
unfolding run machine_run took_from
item_took c s s' r i is e = rw e refl

-- the machine goes on from s with the next token in a role, and s' may come after it
pub goes : (l : Line) (s s' : LineStack) (r : Option Code × LineAct) →
    line_advance s (first_item l).terminal ≡ Some (r, s') → rest l s ≡ took l r s'
goes l s s' r e = item_took (known_of l.known) s s' r (first_item l) (behind l) e

pub took_broken : (l : Line) (a : Act) (code : Code) (m : Option Code) (s : LineStack) →
    broken_by (known_of l.known) (first_item l).terminal (seen_act a) ≡ Some code →
    took l (m, seen_act a) s ≡ Some (fault_at (first_item l) code)
unfolding took_from
took_broken l a code m s e =
    rw (broken_is (known_of l.known) (first_item l).terminal a m (next_of line_grammar (behind l)) ∙ e) refl

entered : (c : LineContext) (r : Option Code × LineAct) (t : Lexeme) → line_enter c (t, r) ≡ line_act c t r.1
unfolding line_enter
entered c r t = refl

pub took_passes : (l : Line) (a : Act) (m : Option Code) (s : LineStack) (c : LineContext) (is : Items) →
    broken_by (known_of l.known) (first_item l).terminal (seen_act a) ≡ None →
    c ≡ line_act (known_of l.known) (first_item l).terminal (seen_act a) → behind l ≡ is →
    took l (m, seen_act a) s ≡ run c s is
unfolding took_from run
took_passes l a m s c is e k b =
    rw (broken_is (known_of l.known) (first_item l).terminal a m (next_of line_grammar (behind l)) ∙ e)
    (ap (λ (d : LineContext). found_fault (machine_run line_grammar line_machine d s (behind l)))
    (entered (known_of l.known) (m, seen_act a) (first_item l).terminal ∙ sym k)
    ∙ ap (λ (js : Items). found_fault (machine_run line_grammar line_machine c s js)) b)

pub last_broken : (l : Line) (code : Code) (m : Option Code) →
    broken_by (known_of l.known) (first_item l).terminal Ends ≡ Some code →
    took l (m, Ends) [] ≡ Some (fault_at (first_item l) code)
last_broken l code m e = took_broken l act.Ends code m [] e

pub last_passes : (l : Line) (m : Option Code) → broken_by (known_of l.known) (first_item l).terminal Ends ≡ None →
    behind l ≡ [] → took l (m, Ends) [] ≡ None
unfolding took_from machine_run
last_passes l m e b =
    rw (broken_is (known_of l.known) (first_item l).terminal act.Ends m (next_of line_grammar (behind l)) ∙ e)
    (ap (λ (is : Items). found_fault (machine_run line_grammar line_machine
    (line_enter (known_of l.known) ((first_item l).terminal, (m, Ends))) [] is)) b)

-- ---- a token that may not come

pub misfit_is : (i : Item Lexeme) (code : Code) →
    misfit_at code i ≡ fault_at i (lower_code (own_code i.terminal) code)
unfolding misfit_at
misfit_is i code = rw (wrong_is i.terminal) (ap (λ (x : Code). fault_at i x) (same_lower (own_code i.terminal)))
  where
    same_lower : (o : Option Code) → lower line_grammar line_machine o code ≡ lower_code o code
    same_lower None = refl
    same_lower (Some x) = refl

pub stops : (l : Line) (s : LineStack) (code : Code) → line_advance s (first_item l).terminal ≡ None →
    own_rule line_grammar line_machine (line_place s) ≡ code → rest l s ≡ Some (misfit_at code (first_item l))
unfolding run machine_run misfit_at
stops l s code e p = rw (e, p) refl

-- ---- a token that is wanted

pub at_want : (l : Line) (u : Lexeme) (r : Option Code × LineAct) (s : LineStack) →
    same u (first_item l).terminal ≡ true → rest l (Want u r ∷ s) ≡ took l r s
unfolding line_advance
at_want l u r s e = goes l (Want u r ∷ s) s r (rw e refl)

stop_want : (l : Line) (u : Lexeme) (r : Option Code × LineAct) (s : LineStack) →
    same u (first_item l).terminal ≡ false →
    rest l (Want u r ∷ s) ≡ Some (misfit_at (own_rule line_grammar line_machine r.0) (first_item l))
unfolding line_advance line_place
stop_want l u r s e = stops l (Want u r ∷ s) (own_rule line_grammar line_machine r.0) (rw e refl) refl

pub at_sign : (l : Line) (x : Sign) (r : Option Code × LineAct) (s : LineStack) →
    same (Signed x) (first_item l).terminal ≡ true → rest l (Want (Signed x) r ∷ s) ≡ took l r s
at_sign l x r s e = at_want l (Signed x) r s e

pub stop_sign : (l : Line) (x : Sign) (s : LineStack) → same (Signed x) (first_item l).terminal ≡ false →
    rest l (w x ∷ s) ≡ Some (misfit_at Unexpected (first_item l))
stop_sign l x s e = stop_want l (Signed x) (None, _) s e

pub at_named : (l : Line) (x : List ℕ) (r : Option Code × LineAct) (s : LineStack) →
    is_word x (first_item l).terminal ≡ true → rest l (Want (Worded x) r ∷ s) ≡ took l r s
at_named l x r s e = at_want l (Worded x) r s e

pub stop_named : (l : Line) (x : List ℕ) (a : LineAct) (s : LineStack) →
    is_word x (first_item l).terminal ≡ false →
    rest l (Want (Worded x) (of UnknownDirective a) ∷ s) ≡ Some (misfit_at UnknownDirective (first_item l))
stop_named l x a s e = stop_want l (Worded x) (of UnknownDirective a) s e

pub stop_later : (l : Line) (x : List ℕ) (a : LineAct) (s : LineStack) →
    is_word x (first_item l).terminal ≡ false →
    rest l (Want (Worded x) (of UnknownClause a) ∷ s) ≡ Some (misfit_at UnknownClause (first_item l))
stop_later l x a s e = stop_want l (Worded x) (of UnknownClause a) s e

pub at_for : (l : Line) (r : Option Code × LineAct) (s : LineStack) → same (Reserved For) (first_item l).terminal ≡ true →
    rest l (Want (Reserved For) r ∷ s) ≡ took l r s
at_for l r s e = at_want l (Reserved For) r s e

pub stop_for : (l : Line) (a : LineAct) (s : LineStack) → same (Reserved For) (first_item l).terminal ≡ false →
    rest l (Want (Reserved For) (of UnknownDirective a) ∷ s) ≡ Some (misfit_at UnknownDirective (first_item l))
stop_for l a s e = stop_want l (Reserved For) (of UnknownDirective a) s e

pub for_is : (l : Line) → same (Reserved For) (first_item l).terminal ≡ true → (first_item l).terminal ≡ Reserved For
for_is l e = sym (same-true (Reserved For) (first_item l).terminal e)

pub sign_is : (l : Line) (x : Sign) → same (Signed x) (first_item l).terminal ≡ true →
    (first_item l).terminal ≡ Signed x
sign_is l x e = sym (same-true (Signed x) (first_item l).terminal e)

pub word_is : (l : Line) (x : List ℕ) → is_word x (first_item l).terminal ≡ true →
    (first_item l).terminal ≡ Worded x
word_is l x e = sym (same-true (Worded x) (first_item l).terminal e)

-- ---- the end of a line

strange_breaks : (c : LineContext) (a : LineAct) → broken_by c Strange a ≡ None → ⊥
unfolding broken_by
strange_breaks c a e = cc

pub not_over : (t : Lexeme) (o : Bool) (c : LineContext) (a : LineAct) → ends_well t o ≡ true → t ≢ Ended →
    broken_by c t a ≡ None → o ≡ false
not_over t false c a e h b = refl
not_over Ended true c a e h b = absurd (h refl)
not_over Strange true c a e h b = absurd (strange_breaks c a b)
not_over (Reserved x) true c a e h b = absurd cc
not_over (Signed x) true c a e h b = absurd cc
not_over (Worded x) true c a e h b = absurd cc
not_over (Numbered x) true c a e h b = absurd cc
