-- Where macros are expanded, the names of tokens are names of the text, or of its lines.
use Rattle.std.proofs.Common.{◌≡◌, ℕ, ◌+◌, ◌-◌, Bool, true, false, cond, List, [], ◌∷◌, ◌++◌, drop, length, map, Option, Some, None, subst, sym}
use Rattle.std.specs.Prelude.{◌==◌, ◌&&◌, ◌||◌, codes, not, nat_le, is_some}
use Rattle.std.specs.Option.{option_map}
use Rattle.std.specs.Str.{IsAscii, bytes_eq}
use Rattle.c_tokens.specs.declared.kind.Sign.TheVariants as sign
use Rattle.c_grammar.specs.Lexeme.{Lexeme, Reserved, Signed, Worded, Numbered, Strange, Ended, Placed}
use Rattle.c_grammar.specs.Terminal.{Terminal, Fixed, Mark, Name, Num, Line, Unknown, Unworked, End, same}
use Rattle.c_grammar.specs.Texts.{Item}
use Rattle.c_grammar.specs.Blocks.{Items, at, bare, is_directive}
use Rattle.c_grammar.specs.Constants.{Names, has_parameters, is_among, is_mark, is_remark}
use Rattle.c_grammar.specs.Expressions.{as_items, as_terminal, placed_of}
use Rattle.c_grammar.specs.Macros.{Call, Defined, Head, Macro, Macros, Other, Plain, Reading, State, With, appended, argument_at, argument_for, as_argument, begin, body_in, body_of, body_read, call_at, closed, defined_at, defined_in, expanded_by, fit, has_call, has_macro, has_some, in_call, in_order, is_argument, is_comment, is_new, is_sure, kept, line_on, macro, macro_at, macro_of, named, next_argument, onward, opened, opens, parameter_in, parameter_on, parameters, parameters_from, put, put_all, put_body, put_for, put_line, put_name, put_other, put_sure, read, replaced, step, step_in, token_on, with_body, with_calls, with_depth, with_directive, with_head, with_macro, with_other, with_reading}
use Rattle.c_grammar.specs.AsciiNames.{AreAscii, IsAsciiTerminal, terminals_of}
use Rattle.c_grammar.proofs.AsciiTokens.{AreItemsText, both_text, chosen_text}
use Rattle.c_grammar.proofs.BareMacros.{in_order_same}

-- ---- lines

abbrev pub IsLexemeText : Lexeme → Type 0
IsLexemeText (Worded x) = IsAscii x
IsLexemeText t = Unit {0}

abbrev pub AreLexemesText : List Lexeme → Type 0
AreLexemesText [] = Unit {0}
AreLexemesText (t ∷ ts) = IsLexemeText t × AreLexemesText ts

abbrev pub IsLineText : Terminal → Type 0
IsLineText (Line ts) = AreLexemesText ts
IsLineText t = Unit {0}

-- the names of all tokens, and of those on lines
abbrev pub AreWholeText : Items → Type 0
AreWholeText [] = Unit {0}
AreWholeText (i ∷ is) = (IsAsciiTerminal i.terminal × IsLineText i.terminal) × AreWholeText is

whole_text : (is : Items) → AreWholeText is → AreItemsText is
whole_text [] h = tt
whole_text (i ∷ is) h = (h.0.0, whole_text is h.1)

lexeme_text : (t : Lexeme) → IsLexemeText t → IsAsciiTerminal (as_terminal t)
lexeme_text (Reserved w) h = tt
lexeme_text (Signed s) h = tt
lexeme_text (Worded x) h = h
lexeme_text (Numbered n) h = tt
lexeme_text Strange h = tt
lexeme_text Ended h = tt

line_text : (ts : List Lexeme) (cs : List ℕ) → AreLexemesText ts → AreItemsText (as_items 0 (placed_of ts cs))
line_text [] cs h = tt
line_text (t ∷ ts) [] h = tt
line_text (t ∷ ts) (c ∷ cs) h = (lexeme_text t h.0, line_text ts cs h.1)

-- ---- what is read

abbrev AreListsText : List Items → Type 0
AreListsText [] = Unit {0}
AreListsText (a ∷ args) = AreItemsText a × AreListsText args

abbrev AreCallsText : List Call → Type 0
AreCallsText [] = Unit {0}
AreCallsText (c ∷ cs) = (AreListsText c.before × AreItemsText c.now) × AreCallsText cs

abbrev IsText : Reading → Type 0
IsText r = AreItemsText r.done × AreCallsText r.calls

abbrev MayBeText : Option Reading → Type 0
MayBeText None = Unit {0}
MayBeText (Some r) = IsText r

abbrev AreMacrosText : Macros → Type 0
AreMacrosText [] = Unit {0}
AreMacrosText (m ∷ ms) = AreAscii m.body × AreMacrosText ms

pick : (b : Bool) (o p : Option Reading) → MayBeText o → MayBeText p → MayBeText (cond b o p)
pick true o p h k = h
pick false o p h k = k

on : (o : Option Reading) (go : Reading → Option Reading) → MayBeText o → ((r : Reading) → IsText r → MayBeText (go r)) →
    MayBeText (onward o go)
on None go h k = tt
on (Some r) go h k = k r h

lists_text : (args : List Items) (a : Items) → AreListsText args → AreItemsText a → AreListsText (args ++ a ∷ [])
lists_text [] a h k = (k, tt)
lists_text (b ∷ args) a h k = (h.0, lists_text args a h.1 k)

appended_text : (i : Item Terminal) (done : Items) (cs : List Call) (room : ℕ) → IsAsciiTerminal i.terminal →
    AreItemsText done → AreCallsText cs → IsText (appended i done cs room)
appended_text i done [] room h k l = (both_text done (i ∷ []) k (h, tt), tt)
appended_text i done (c ∷ cs) room h k l = (k, ((l.0.0, both_text c.now (i ∷ []) l.0.1 (h, tt)), l.1))

put_text : (i : Item Terminal) (r : Reading) → IsAsciiTerminal i.terminal → IsText r → MayBeText (put i r)
put_text i r h k =
    pick (r.room == 0) None (Some (appended i r.done r.calls (r.room - 1))) tt
    (appended_text i r.done r.calls (r.room - 1) h k.0 k.1)

put_sure_text : (i : Item Terminal) (r : Reading) → IsAsciiTerminal i.terminal → IsText r → MayBeText (put_sure i r)
put_sure_text i r h k = pick (is_sure i.terminal) (put i r) None (put_text i r h k) tt

put_all_text : (is : Items) (r : Reading) → AreItemsText is → IsText r → MayBeText (put_all is r)
put_all_text [] r h k = k
put_all_text (i ∷ is) r h k =
    on (put_sure i r) (λ r. put_all is r) (put_sure_text i r h.0 k) (λ r l. put_all_text is r h.1 l)

abbrev IsArgumentText : Option Items → Type 0
IsArgumentText None = Unit {0}
IsArgumentText (Some a) = AreItemsText a

argument_text : (ps : Names) (args : List Items) (x : List ℕ) → AreListsText args → IsArgumentText (argument_for ps args x)
argument_text [] args x h = tt
argument_text (p ∷ ps) [] x h = tt
argument_text (p ∷ ps) (a ∷ args) x h = by (bytes_eq p x) (argument_text ps args x h.1)
  where
    by : (b : Bool) → IsArgumentText (argument_for ps args x) → IsArgumentText (cond b (Some a) (argument_for ps args x))
    by true k = h.0
    by false k = k

argument_at_text : (ps : Names) (args : List Items) (t : Terminal) → AreListsText args → IsArgumentText (argument_at ps args t)
argument_at_text ps args (Name x) h = argument_text ps args x h
argument_at_text ps args (Fixed w) h = tt
argument_at_text ps args (Mark s) h = tt
argument_at_text ps args (Num n) h = tt
argument_at_text ps args (Line ts) h = tt
argument_at_text ps args Unknown h = tt
argument_at_text ps args Unworked h = tt
argument_at_text ps args End h = tt

put_for_text : (place : Item Terminal) (t : Terminal) (o : Option Items) (r : Reading) → IsAsciiTerminal t →
    IsArgumentText o → IsText r → MayBeText (put_for place t o r)
put_for_text place t None r h k l = put_sure_text (at place t) r h l
put_for_text place t (Some a) r h k l = put_all_text a r k l

body_text : (place : Item Terminal) (ps : Names) (args : List Items) (ts : List Terminal) (r : Reading) → AreListsText args →
    AreAscii ts → IsText r → MayBeText (put_body place ps args ts r)
body_text place ps args [] r h k l = l
body_text place ps args (t ∷ ts) r h k l =
    on (put_for place t (argument_at ps args t) r) (λ r. put_body place ps args ts r)
    (put_for_text place t (argument_at ps args t) r k.0 (argument_at_text ps args t h) l)
    (λ r n. body_text place ps args ts r h k.1 n)

abbrev IsMacroText : Option Macro → Type 0
IsMacroText None = Unit {0}
IsMacroText (Some m) = AreAscii m.body

macro_text : (ms : Macros) (x : List ℕ) → AreMacrosText ms → IsMacroText (macro_of ms x)
macro_text [] x h = tt
macro_text (m ∷ ms) x h = by (bytes_eq m.name x) (macro_text ms x h.1)
  where
    by : (b : Bool) → IsMacroText (macro_of ms x) → IsMacroText (cond b (Some m) (macro_of ms x))
    by true k = h.0
    by false k = k

macro_at_text : (ms : Macros) (t : Terminal) → AreMacrosText ms → IsMacroText (macro_at ms t)
macro_at_text ms (Name x) h = macro_text ms x h
macro_at_text ms (Fixed w) h = tt
macro_at_text ms (Mark s) h = tt
macro_at_text ms (Num n) h = tt
macro_at_text ms (Line ts) h = tt
macro_at_text ms Unknown h = tt
macro_at_text ms Unworked h = tt
macro_at_text ms End h = tt

expanded_text : (o : Option Macro) (place : Item Terminal) (args : List Items) (r : Reading) → IsMacroText o →
    AreListsText args → IsText r → MayBeText (expanded_by o place args r)
expanded_text None place args r h k l = tt
expanded_text (Some m) place args r h k l =
    pick (fit m.parameters args) _ None (body_text place m.parameters args m.body r k h l) tt

name_text : (opens : Bool) (i : Item Terminal) (r : Reading) (cs : List Call) → IsAsciiTerminal i.terminal → IsText r →
    AreCallsText cs → MayBeText (put_name opens i r cs)
name_text opens i r [] h k l =
    pick opens (Some (with_calls r (call_at i ∷ []))) (put i r) (k.0, ((tt, tt), tt)) (put_text i r h k)
name_text opens i r (c ∷ cs) h k l = pick opens (Some (with_calls r (call_at i ∷ c ∷ cs))) None (k.0, ((tt, tt), l)) tt

other_text : (ms : Macros) (opens : Bool) (i : Item Terminal) (r : Reading) → IsAsciiTerminal i.terminal → IsText r →
    MayBeText (put_other ms opens i r)
other_text ms opens i r h k =
    pick (is_some (macro_at ms i.terminal)) _ _ (name_text opens i r r.calls h k k.1) (put_text i r h k)

opened_text : (i : Item Terminal) (c : Call) (cs : List Call) (r : Reading) → IsAsciiTerminal i.terminal →
    AreItemsText r.done → AreCallsText (c ∷ cs) → MayBeText (opened i c cs r)
opened_text i c cs r h k l =
    let s : Reading = with_calls r (with_depth c (c.depth + 1) ∷ cs) in
    pick (c.depth == 0) (Some s) (put i s) (k, l) (put_text i s h (k, l))

closed_text : (ms : Macros) (i : Item Terminal) (c : Call) (cs : List Call) (r : Reading) → AreMacrosText ms →
    IsAsciiTerminal i.terminal → AreItemsText r.done → AreCallsText (c ∷ cs) → MayBeText (closed ms i c cs r)
closed_text ms i c cs r m h k l =
    pick (nat_le c.depth 1) _ _
    (expanded_text (macro_at ms c.place.terminal) c.place (c.before ++ c.now ∷ []) (with_calls r cs)
    (macro_at_text ms c.place.terminal m) (lists_text c.before c.now l.0.0 l.0.1) (k, l.1))
    (put_text i (with_calls r (with_depth c (c.depth - 1) ∷ cs)) h (k, l))

call_text : (ms : Macros) (opens : Bool) (i : Item Terminal) (c : Call) (cs : List Call) (r : Reading) → AreMacrosText ms →
    IsAsciiTerminal i.terminal → IsText r → AreCallsText (c ∷ cs) → MayBeText (in_call ms opens i c cs r)
call_text ms opens i c cs r m h k l =
    pick (not (is_sure i.terminal)) None _ tt
    (pick (is_mark sign.OpenParen i) _ _ (opened_text i c cs r h k.0 l)
    (pick (is_mark sign.CloseParen i) _ _ (closed_text ms i c cs r m h k.0 l)
    (pick (is_mark sign.Comma i && (c.depth == 1)) (Some (with_calls r (next_argument c ∷ cs))) _
    (k.0, ((lists_text c.before c.now l.0.0 l.0.1, tt), l.1)) (other_text ms opens i r h k))))

step_text : (ms : Macros) (opens : Bool) (i : Item Terminal) (r : Reading) → AreMacrosText ms → IsAsciiTerminal i.terminal →
    IsText r → MayBeText (step ms opens i r)
step_text ms opens i r m h k = by r.calls k.1
  where
    by : (cs : List Call) → AreCallsText cs → MayBeText (step_in cs ms opens i r)
    by [] l = other_text ms opens i r h k
    by (c ∷ cs) l = call_text ms opens i c cs r m h k l

-- ---- macros

abbrev IsDefinedText : Defined → Type 0
IsDefinedText (With x is) = AreItemsText is
IsDefinedText d = Unit {0}

dropped_text : (is : Items) → AreItemsText is → AreItemsText (drop 1 is)
dropped_text [] h = tt
dropped_text (i ∷ is) h = h.1

pick_defined : (b : Bool) (d e : Defined) → IsDefinedText d → IsDefinedText e → IsDefinedText (cond b d e)
pick_defined true d e h k = h
pick_defined false d e h k = k

named_text : (t : Terminal) (column : ℕ) (is : Items) → AreItemsText is → IsDefinedText (named t column is)
named_text (Name x) column is h =
    pick_defined (has_parameters (column + length x) is) (With x (drop 1 is)) (Plain x) (dropped_text is h) tt
named_text (Fixed w) column is h = tt
named_text (Mark s) column is h = tt
named_text (Num n) column is h = tt
named_text (Line ts) column is h = tt
named_text Unknown column is h = tt
named_text Unworked column is h = tt
named_text End column is h = tt

defined_text : (is : Items) → AreItemsText is → IsDefinedText (defined_in is)
defined_text [] h = tt
defined_text (d ∷ []) h = tt
defined_text (d ∷ x ∷ is) h =
    pick_defined (same (Name (codes "define")) d.terminal) (named x.terminal x.column is) Other
    (named_text x.terminal x.column is h.1.1) tt

abbrev IsHeadText : Option Head → Type 0
IsHeadText None = Unit {0}
IsHeadText (Some h) = AreItemsText h.body

pick_head : (b : Bool) (o p : Option Head) → IsHeadText o → IsHeadText p → IsHeadText (cond b o p)
pick_head true o p h k = h
pick_head false o p h k = k

parameter_text : (ps : Names) (t : Terminal) (c : Item Terminal) (is : Items) (go : Names → Option Head) → AreItemsText is →
    ((ps : Names) → IsHeadText (go ps)) → IsHeadText (parameter_in ps t c is go)
parameter_text ps (Name x) c is go h k =
    pick_head (is_among ps x) None _ tt
    (pick_head (is_mark sign.CloseParen c) (Some (record { parameters = ps ++ x ∷ []; body = is })) _ h
    (pick_head (is_mark sign.Comma c) (go (ps ++ x ∷ [])) None (k (ps ++ x ∷ [])) tt))
parameter_text ps (Fixed w) c is go h k = tt
parameter_text ps (Mark s) c is go h k = tt
parameter_text ps (Num n) c is go h k = tt
parameter_text ps (Line ts) c is go h k = tt
parameter_text ps Unknown c is go h k = tt
parameter_text ps Unworked c is go h k = tt
parameter_text ps End c is go h k = tt

from_text : (is : Items) (ps : Names) → AreItemsText is → IsHeadText (parameters_from ps is)
from_text [] ps h = tt
from_text (x ∷ []) ps h = tt
from_text (x ∷ c ∷ is) ps h =
    parameter_text ps x.terminal c is (λ ps. parameters_from ps is) h.1.1 (λ ps. from_text is ps h.1.1)

parameters_text : (is : Items) → AreItemsText is → IsHeadText (parameters is)
parameters_text [] h = tt
parameters_text (c ∷ is) h =
    pick_head (is_mark sign.CloseParen c) (Some (record { parameters = []; body = is })) (parameters_from [] (c ∷ is)) h.1
    (from_text (c ∷ is) [] h)

read_body_text : (ms : Macros) (is : Items) (r : Reading) → AreMacrosText ms → AreItemsText is → IsText r →
    MayBeText (body_read ms is r)
read_body_text ms [] r m h k = tt
read_body_text ms (i ∷ is) r m h k =
    pick (is_remark (i ∷ is)) (Some r) _ k
    (pick (is_comment (i ∷ is) || not (is_sure i.terminal)) None _ tt
    (on (step ms (opens is) i r) (λ r. body_read ms is r) (step_text ms (opens is) i r m h.0 k)
    (λ r l. read_body_text ms is r m h.1 l)))

abbrev IsBodyText : Option (List Terminal) → Type 0
IsBodyText None = Unit {0}
IsBodyText (Some ts) = AreAscii ts

body_in_text : (cs : List Call) → AreCallsText cs → IsBodyText (body_in cs)
body_in_text [] h = tt
body_in_text (c ∷ []) h = by (is_argument c)
  where
    by : (b : Bool) → IsBodyText (cond b (Some (terminals_of c.now)) None)
    by true = h.0.1
    by false = tt
body_in_text (c ∷ d ∷ cs) h = tt

body_of_text : (r : Reading) → IsText r → IsBodyText (body_of r)
body_of_text r h = by (has_some r.done)
  where
    by : (b : Bool) → IsBodyText (cond b None (body_in r.calls))
    by true = tt
    by false = body_in_text r.calls h.1

-- ---- the text

abbrev IsStateText : State → Type 0
IsStateText s = AreMacrosText s.macros × IsText s.reading

abbrev MayBeState : Option State → Type 0
MayBeState None = Unit {0}
MayBeState (Some s) = IsStateText s

pick_state : (b : Bool) (o p : Option State) → MayBeState o → MayBeState p → MayBeState (cond b o p)
pick_state true o p h k = h
pick_state false o p h k = k

within : (s : State) (o : Option Reading) → IsStateText s → MayBeText o → MayBeState (option_map (with_reading s) o)
within s None h k = tt
within s (Some r) h k = (h.0, k)

one_more : (ms : Macros) (m : Macro) → AreMacrosText ms → AreAscii m.body → AreMacrosText (ms ++ m ∷ [])
one_more [] m h k = (k, tt)
one_more (n ∷ ms) m h k = (h.0, one_more ms m h.1 k)

with_body_text : (s : State) (x : List ℕ) (ps : Names) (room : ℕ) (o : Option (List Terminal)) → IsStateText s →
    IsBodyText o → MayBeState (with_body s x ps room o)
with_body_text s x ps room None h k = tt
with_body_text s x ps room (Some ts) h k =
    pick_state (is_new s (macro x ps ts)) _ None (one_more s.macros (macro x ps ts) h.0 k, h.1) tt

head_text : (s : State) (x : List ℕ) (o : Option Head) → IsStateText s → IsHeadText o → MayBeState (with_head s x o)
head_text s x None h k = tt
head_text s x (Some d) h k =
    by (body_read s.macros d.body (as_argument s.reading.room))
    (read_body_text s.macros d.body (as_argument s.reading.room) h.0 k (tt, ((tt, tt), tt)))
  where
    by : (o : Option Reading) → MayBeText o →
        MayBeState (onward o (λ r. with_body s x d.parameters r.room (body_of r)))
    by None l = tt
    by (Some r) l = with_body_text s x d.parameters r.room (body_of r) h (body_of_text r l)

on_line_text : (s : State) (i : Item Terminal) (d : Defined) → IsAsciiTerminal i.terminal → IsStateText s → IsDefinedText d →
    MayBeState (line_on s i d)
on_line_text s i Other h k l = within s (put i s.reading) k (put_text i s.reading h k.1)
on_line_text s i (Plain x) h k l =
    pick_state (is_some (macro_of s.macros x)) None _ tt
    (within (with_other s x) (put i s.reading) k (put_text i s.reading h k.1))
on_line_text s i (With x is) h k l = head_text s x (parameters is) k (parameters_text is l)

token_text : (s : State) (i : Item Terminal) (is : Items) (t : Terminal) → IsAsciiTerminal i.terminal → IsLineText t →
    IsStateText s → MayBeState (token_on s i is t)
token_text s i is (Line ts) h l k =
    pick_state (has_some s.reading.calls) None _ tt
    (on_line_text s i (defined_at i (Line ts)) h k (defined_text (as_items 0 (placed_of ts i.columns)) (line_text ts i.columns l)))
token_text s i is (Fixed w) h l k = within s _ k (step_text s.macros (opens is) i s.reading k.0 h k.1)
token_text s i is (Mark m) h l k = within s _ k (step_text s.macros (opens is) i s.reading k.0 h k.1)
token_text s i is (Name x) h l k = within s _ k (step_text s.macros (opens is) i s.reading k.0 h k.1)
token_text s i is (Num n) h l k = within s _ k (step_text s.macros (opens is) i s.reading k.0 h k.1)
token_text s i is Unknown h l k = within s _ k (step_text s.macros (opens is) i s.reading k.0 h k.1)
token_text s i is Unworked h l k = within s _ k (step_text s.macros (opens is) i s.reading k.0 h k.1)
token_text s i is End h l k = within s _ k (step_text s.macros (opens is) i s.reading k.0 h k.1)

on_state : (o : Option State) (go : State → Option State) → MayBeState o →
    ((s : State) → IsStateText s → MayBeState (go s)) → MayBeState (onward o go)
on_state None go h k = tt
on_state (Some s) go h k = k s h

read_text : (is : Items) (s : State) → AreWholeText is → IsStateText s → MayBeState (read s is)
read_text [] s h k = k
read_text (i ∷ is) s h k =
    pick_state (is_directive i.terminal) _ _
    (read_text is (with_directive s i) h.1 (k.0, (both_text s.reading.done (i ∷ []) k.1.0 (h.0.0, tt), k.1.1)))
    (on_state (token_on s i (bare is) i.terminal) (λ s. read s is) (token_text s i (bare is) i.terminal h.0.0 h.0.1 k)
    (λ s l. read_text is s h.1 l))

kept_text : (is : Items) (o : Option State) → AreItemsText is → MayBeState o → AreItemsText (kept is o)
kept_text is None h k = h
kept_text is (Some s) h k =
    chosen_text (has_some s.reading.calls) is (in_order s.reading.done) h
    (subst AreItemsText (sym (in_order_same s.reading.done)) k.1.0)

pub replaced_text : (is : Items) → AreWholeText is → AreItemsText (replaced is)
replaced_text is h =
    chosen_text (has_macro (bare is) || has_call false (bare is)) (kept is (read begin is)) is
    (kept_text is (read begin is) (whole_text is h) (read_text is begin h (((tt, tt), ((tt, tt), tt)), (tt, tt)))) (whole_text is h)
