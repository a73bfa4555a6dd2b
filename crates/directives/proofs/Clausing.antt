-- The machine at the clauses of a directive.
use Rattle.std.proofs.Common.{◌≡◌, true, false, ◌∷◌, Some, None, refl, sym, ap, ◌∙◌}
use Rattle.std.specs.Prelude.{codes}
use Rattle.std.proofs.lemmas.Bool.{and_parts, and_right}
use Rattle.c_tokens.specs.declared.kind.Sign.TheVariants as sign
use Rattle.base.specs.declared.fault.ReadCode.TheVariants.{UnknownClause}
use Rattle.c_grammar.specs.Lexeme.{Lexeme, Worded, Ended, same}
use Rattle.c_grammar.specs.LineGrammar.{NoWaits, OnDevice, Plain, Meets, Once, Ends, Depends, of, DirectiveKind, MotionType, motion_word, takes_map, takes_motion, takes_depend, takes_nowait, takes_device}
use Rattle.c_grammar.specs.LineMachine.{LineStack, Clauses, MapHead, DependHead, MotionHead, DeviceNumber, Name, w, is_word, line_advance, line_place}
use Rattle.directives.specs.declared.line.Line.{Line}
use Rattle.directives.specs.Cursor.{first_item}
use Rattle.directives.specs.Reading.{rest, took, misfit_at}
use Rattle.directives.specs.Clauses.{is_map, is_depend, is_nowait, is_device, is_schedule, IsNoAmount, IsNoMotion}
use Rattle.c_grammar.proofs.Lexemes.{same-true}
use Rattle.directives.proofs.Moves.{goes, stops, word_is}
use Rattle.c_grammar.proofs.LineGoes.{map_step, depend_step, motion_step, nowait_step, device_step, end_step}

map_word_is : (k : DirectiveKind) (t : Lexeme) → is_map k t ≡ true → t ≡ Worded (codes "map")
map_word_is k t e = sym (same-true (Worded (codes "map")) t (and_parts (takes_map k) (is_word (codes "map") t) e).1)

pub map_is : (l : Line) (k : DirectiveKind) → is_map k (first_item l).terminal ≡ true →
    (first_item l).terminal ≡ Worded (codes "map")
map_is l k e = map_word_is k (first_item l).terminal e

pub map_taken : (l : Line) (k : DirectiveKind) → is_map k (first_item l).terminal ≡ true → takes_map k ≡ true
map_taken l k e = (and_parts (takes_map k) (is_word (codes "map") (first_item l).terminal) e).0

pub at_map : (l : Line) (k : DirectiveKind) (s : LineStack) → is_map k (first_item l).terminal ≡ true →
    rest l (Clauses k ∷ s) ≡ took l (of UnknownClause Meets) (w sign.OpenParen ∷ MapHead k ∷ Clauses k ∷ s)
at_map l k s e = goes l (Clauses k ∷ s) (w sign.OpenParen ∷ MapHead k ∷ Clauses k ∷ s) (of UnknownClause Meets)
    (ap (line_advance (Clauses k ∷ s)) (map_is l k e) ∙ map_step k s (map_taken l k e))

pub depend_is : (l : Line) (k : DirectiveKind) → is_depend k (first_item l).terminal ≡ true →
    (first_item l).terminal ≡ Worded (codes "depend")
depend_is l k e = word_is l (codes "depend")
    (and_parts (takes_depend k) (is_word (codes "depend") (first_item l).terminal) e).1

pub depend_taken : (l : Line) (k : DirectiveKind) → is_depend k (first_item l).terminal ≡ true → takes_depend k ≡ true
depend_taken l k e = (and_parts (takes_depend k) (is_word (codes "depend") (first_item l).terminal) e).0

pub at_depend : (l : Line) (k : DirectiveKind) (s : LineStack) → is_depend k (first_item l).terminal ≡ true →
    rest l (Clauses k ∷ s) ≡ took l (of UnknownClause Plain)
    (w sign.OpenParen ∷ DependHead ∷ w sign.Colon ∷ Name Depends ∷ Clauses k ∷ s)
at_depend l k s e = goes l (Clauses k ∷ s) (w sign.OpenParen ∷ DependHead ∷ w sign.Colon ∷ Name Depends ∷ Clauses k ∷ s)
    (of UnknownClause Plain) (ap (line_advance (Clauses k ∷ s)) (depend_is l k e) ∙ depend_step k s
    (depend_taken l k e))

pub at_motion : (l : Line) (k : DirectiveKind) (t : MotionType) (s : LineStack) → takes_motion k ≡ true →
    (first_item l).terminal ≡ Worded (motion_word t) →
    rest l (Clauses k ∷ s) ≡ took l (of UnknownClause Meets) (w sign.OpenParen ∷ MotionHead ∷ Clauses k ∷ s)
at_motion l k t s h e = goes l (Clauses k ∷ s) (w sign.OpenParen ∷ MotionHead ∷ Clauses k ∷ s) (of UnknownClause Meets)
    (ap (line_advance (Clauses k ∷ s)) e ∙ motion_step k t s h)

pub nowait_is : (l : Line) (k : DirectiveKind) → is_nowait k (first_item l).terminal ≡ true →
    (first_item l).terminal ≡ Worded (codes "nowait")
nowait_is l k e = word_is l (codes "nowait")
    (and_parts (takes_nowait k) (is_word (codes "nowait") (first_item l).terminal) e).1

pub nowait_taken : (l : Line) (k : DirectiveKind) → is_nowait k (first_item l).terminal ≡ true → takes_nowait k ≡ true
nowait_taken l k e = (and_parts (takes_nowait k) (is_word (codes "nowait") (first_item l).terminal) e).0

pub at_nowait : (l : Line) (k : DirectiveKind) (s : LineStack) → is_nowait k (first_item l).terminal ≡ true →
    rest l (Clauses k ∷ s) ≡ took l (of UnknownClause (Once NoWaits)) (Clauses k ∷ s)
at_nowait l k s e = goes l (Clauses k ∷ s) (Clauses k ∷ s) (of UnknownClause (Once NoWaits))
    (ap (line_advance (Clauses k ∷ s)) (nowait_is l k e) ∙ nowait_step k s (nowait_taken l k e))

pub device_is : (l : Line) (k : DirectiveKind) → is_device k (first_item l).terminal ≡ true →
    (first_item l).terminal ≡ Worded (codes "device")
device_is l k e = word_is l (codes "device")
    (and_parts (takes_device k) (is_word (codes "device") (first_item l).terminal) e).1

pub device_taken : (l : Line) (k : DirectiveKind) → is_device k (first_item l).terminal ≡ true → takes_device k ≡ true
device_taken l k e = (and_parts (takes_device k) (is_word (codes "device") (first_item l).terminal) e).0

pub at_device : (l : Line) (k : DirectiveKind) (s : LineStack) → is_device k (first_item l).terminal ≡ true →
    rest l (Clauses k ∷ s) ≡ took l (of UnknownClause (Once OnDevice))
    (w sign.OpenParen ∷ DeviceNumber ∷ w sign.CloseParen ∷ Clauses k ∷ s)
at_device l k s e = goes l (Clauses k ∷ s) (w sign.OpenParen ∷ DeviceNumber ∷ w sign.CloseParen ∷ Clauses k ∷ s)
    (of UnknownClause (Once OnDevice)) (ap (line_advance (Clauses k ∷ s)) (device_is l k e) ∙ device_step k s
    (device_taken l k e))

-- ---- no clause

clause_none : (k : DirectiveKind) (s : LineStack) (t : Lexeme) → same Ended t ≡ false → is_map k t ≡ false →
    is_depend k t ≡ false → IsNoMotion k t → is_nowait k t ≡ false → is_device k t ≡ false → is_schedule k t ≡ false →
    IsNoAmount k t → line_advance (Clauses k ∷ s) t ≡ None
unfolding line_advance
clause_none k s t e m d o n v c a = rw (e, m, d, o.0, o.1, n, v, c, a.0, a.1, a.2, a.3, a.4, a.5) refl

pub stop_clause : (l : Line) (k : DirectiveKind) (s : LineStack) → same Ended (first_item l).terminal ≡ false →
    is_map k (first_item l).terminal ≡ false → is_depend k (first_item l).terminal ≡ false →
    IsNoMotion k (first_item l).terminal → is_nowait k (first_item l).terminal ≡ false →
    is_device k (first_item l).terminal ≡ false → is_schedule k (first_item l).terminal ≡ false →
    IsNoAmount k (first_item l).terminal → rest l (Clauses k ∷ s) ≡ Some (misfit_at UnknownClause (first_item l))
unfolding line_place
stop_clause l k s e m d o n v c a =
    stops l (Clauses k ∷ s) UnknownClause (clause_none k s (first_item l).terminal e m d o n v c a) refl

pub no_motion : (k : DirectiveKind) (t : Lexeme) → takes_motion k ≡ false → IsNoMotion k t
no_motion k t h = (rw h refl, rw h refl)

pub no_motion_word : (k : DirectiveKind) (t : Lexeme) → is_word (codes "to") t ≡ false →
    is_word (codes "from") t ≡ false → IsNoMotion k t
no_motion_word k t e f = (
  and_right (takes_motion k) (is_word (codes "to") t) e,
  and_right (takes_motion k) (is_word (codes "from") t) f,
)

-- ---- the end

pub end_is : (l : Line) → same Ended (first_item l).terminal ≡ true → (first_item l).terminal ≡ Ended
end_is l e = sym (same-true Ended (first_item l).terminal e)

pub at_last : (l : Line) (k : DirectiveKind) (s : LineStack) → same Ended (first_item l).terminal ≡ true →
    rest l (Clauses k ∷ s) ≡ took l (of UnknownClause Ends) s
at_last l k s e = goes l (Clauses k ∷ s) s (of UnknownClause Ends)
    (ap (line_advance (Clauses k ∷ s)) (end_is l e) ∙ end_step k s)
