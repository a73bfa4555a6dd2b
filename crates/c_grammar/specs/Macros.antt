-- Macros with parameters, and functions of OpenMP that are known. They are expanded before all else, as C does it with macros,
-- so that the grammar sees what they stand for; the lines that define macros are left out. Where anything of them in a text is not surely so in C, the text stays as it is, with
-- the lines that the grammar refuses.
use Rattle.std.specs.Prelude.{ℕ, zero, suc, ◌+◌, ◌-◌, ◌==◌, Bool, true, false, not, ◌&&◌, ◌||◌, nat_le, if◌then◌else◌, List, [], ◌∷◌, ◌++◌, drop, length, map, Option, Some, None, codes, is_some}
use Rattle.std.specs.Str.{bytes_eq}
use Rattle.std.specs.Option.{option_map}
use Rattle.c_tokens.specs.declared.kind.Sign.TheVariants as sign
use Rattle.c_grammar.specs.Lexeme.{Lexeme}
use Rattle.c_grammar.specs.Terminal.{Terminal, Fixed, Mark, Name, Num, Line, same}
use Rattle.c_grammar.specs.Texts.{Item}
use Rattle.c_grammar.specs.Blocks.{Items, at, bare, is_directive}
use Rattle.c_grammar.specs.Constants.{Names, has_parameters, is_among, is_mark, is_pair, is_remark}
use Rattle.c_grammar.specs.Expressions.{as_items, placed_of}

pub record Macro : Type 0 where
  pub name : List ℕ
  pub parameters : Names
  pub body : List Terminal

abbrev pub Macros : Type 0
Macros = List Macro

abbrev pub macro : List ℕ → Names → List Terminal → Macro
macro x ps ts = record { name = x; parameters = ps; body = ts }

-- functions of OpenMP whose values are known: there are four devices, and the first is the default
abbrev pub known : Macros
known =
    macro (codes "omp_get_num_devices") [] (Num (Some 4) ∷ []) ∷
    macro (codes "omp_get_default_device") [] (Num (Some 0) ∷ []) ∷ []

abbrev pub macro_of : Macros → List ℕ → Option Macro
macro_of [] x = None
macro_of (m ∷ ms) x = if bytes_eq m.name x then Some m else macro_of ms x

abbrev pub macro_at : Macros → Terminal → Option Macro
macro_at ms (Name x) = macro_of ms x
macro_at ms t = None

-- a token of the language, which is the same one in C: what is unknown may be part of a text in quotes
abbrev pub is_sure : Terminal → Bool
is_sure (Fixed w) = true
is_sure (Mark s) = true
is_sure (Name x) = true
is_sure (Num o) = is_some o
is_sure t = false

-- ---- what is read

-- a call that is open: the macro's name, how many brackets are open in it with its own, and its arguments, of which the last
-- one is read now
pub record Call : Type 0 where
  pub place : Item Terminal
  pub depth : ℕ
  pub before : List Items
  pub now : Items

-- the tokens so far; the open calls, the innermost first; for how many tokens more there is room
pub record Reading : Type 0 where
  pub done : Items
  pub calls : List Call
  pub room : ℕ

-- so many tokens may be written, those of arguments and bodies each time
abbrev pub most_written : ℕ
most_written = 4194304

abbrev pub onward : {X Y : Type 0} → Option X → (X → Option Y) → Option Y
onward None go = None
onward (Some x) go = go x

abbrev pub call_with : Call → Item Terminal → Call
call_with c i = record { place = c.place; depth = c.depth; before = c.before; now = c.now ++ i ∷ [] }

abbrev pub with_calls : Reading → List Call → Reading
with_calls r cs = record { done = r.done; calls = cs; room = r.room }

abbrev pub appended : Item Terminal → Items → List Call → ℕ → Reading
appended i done [] room = record { done = done ++ i ∷ []; calls = []; room = room }
appended i done (c ∷ cs) room = record { done = done; calls = call_with c i ∷ cs; room = room }

-- one more token
abbrev pub put : Item Terminal → Reading → Option Reading
put i r = if r.room == 0 then None else Some (appended i r.done r.calls (r.room - 1))

abbrev pub put_sure : Item Terminal → Reading → Option Reading
put_sure i r = if is_sure i.terminal then put i r else None

abbrev pub put_all : Items → Reading → Option Reading
put_all [] r = Some r
put_all (i ∷ is) r = onward (put_sure i r) (λ r. put_all is r)

-- ---- what a call stands for

abbrev pub argument_for : Names → List Items → List ℕ → Option Items
argument_for (p ∷ ps) (a ∷ args) x = if bytes_eq p x then Some a else argument_for ps args x
argument_for ps args x = None

abbrev pub argument_at : Names → List Items → Terminal → Option Items
argument_at ps args (Name x) = argument_for ps args x
argument_at ps args t = None

abbrev pub put_for : Item Terminal → Terminal → Option Items → Reading → Option Reading
put_for place t None r = put_sure (at place t) r
put_for place t (Some a) r = put_all a r

-- the body at the place of the macro's name, with the arguments for the parameters
abbrev pub put_body : Item Terminal → Names → List Items → List Terminal → Reading → Option Reading
put_body place ps args [] r = Some r
put_body place ps args (t ∷ ts) r =
    onward (put_for place t (argument_at ps args t) r) (λ r. put_body place ps args ts r)

abbrev pub has_some : {X : Type 0} → List X → Bool
has_some [] = false
has_some (x ∷ xs) = true

-- an argument for each parameter
abbrev pub are_given : Names → List Items → Bool
are_given [] [] = true
are_given (p ∷ ps) (a ∷ args) = has_some a && are_given ps args
are_given ps args = false

-- nothing between the brackets is no argument
abbrev pub fit : Names → List Items → Bool
fit [] (a ∷ []) = not (has_some a)
fit ps args = are_given ps args

abbrev pub expanded_by : Option Macro → Item Terminal → List Items → Reading → Option Reading
expanded_by None place args r = None
expanded_by (Some m) place args r = if fit m.parameters args then put_body place m.parameters args m.body r else None

-- ---- one token

abbrev pub call_at : Item Terminal → Call
call_at i = record { place = i; depth = 0; before = []; now = [] }

-- the name of a macro: where no bracket follows, it stands for itself outside of calls
abbrev pub put_name : Bool → Item Terminal → Reading → List Call → Option Reading
put_name opens i r [] = if opens then Some (with_calls r (call_at i ∷ [])) else put i r
put_name opens i r cs = if opens then Some (with_calls r (call_at i ∷ cs)) else None

abbrev pub put_other : Macros → Bool → Item Terminal → Reading → Option Reading
put_other ms opens i r = if is_some (macro_at ms i.terminal) then put_name opens i r r.calls else put i r

abbrev pub with_depth : Call → ℕ → Call
with_depth c d = record { place = c.place; depth = d; before = c.before; now = c.now }

abbrev pub next_argument : Call → Call
next_argument c = record { place = c.place; depth = c.depth; before = c.before ++ c.now ∷ []; now = [] }

-- a bracket; that of the call itself is no part of an argument
abbrev pub opened : Item Terminal → Call → List Call → Reading → Option Reading
opened i c cs r =
    let s : Reading = with_calls r (with_depth c (c.depth + 1) ∷ cs) in if c.depth == 0 then Some s else put i s

abbrev pub closed : Macros → Item Terminal → Call → List Call → Reading → Option Reading
closed ms i c cs r =
    if nat_le c.depth 1 then expanded_by (macro_at ms c.place.terminal) c.place (c.before ++ c.now ∷ []) (with_calls r cs)
    else put i (with_calls r (with_depth c (c.depth - 1) ∷ cs))

abbrev pub in_call : Macros → Bool → Item Terminal → Call → List Call → Reading → Option Reading
in_call ms opens i c cs r =
    if not (is_sure i.terminal) then None
    else (if is_mark sign.OpenParen i then opened i c cs r
    else (if is_mark sign.CloseParen i then closed ms i c cs r
    else (if is_mark sign.Comma i && (c.depth == 1) then Some (with_calls r (next_argument c ∷ cs))
    else put_other ms opens i r)))

-- a token, which an opening bracket follows or not
abbrev pub step_in : List Call → Macros → Bool → Item Terminal → Reading → Option Reading
step_in [] ms opens i r = put_other ms opens i r
step_in (c ∷ cs) ms opens i r = in_call ms opens i c cs r

abbrev pub step : Macros → Bool → Item Terminal → Reading → Option Reading
step ms opens i r = step_in r.calls ms opens i r

abbrev pub opens : Items → Bool
opens [] = false
opens (i ∷ is) = is_mark sign.OpenParen i

-- ---- the lines that define macros

-- nothing; a name without parameters; one with parameters, before what stands behind the bracket
pub data Defined : Type 0 where
  Other : Defined
  Plain : (name : List ℕ) → Defined
  With : (name : List ℕ) (rest : Items) → Defined

abbrev pub named : Terminal → ℕ → Items → Defined
named (Name x) column is = if has_parameters (column + length x) is then With x (drop 1 is) else Plain x
named t column is = Other

abbrev pub defined_in : Items → Defined
defined_in (d ∷ x ∷ is) = if same (Name (codes "define")) d.terminal then named x.terminal x.column is else Other
defined_in is = Other

abbrev pub defined_at : Item Terminal → Terminal → Defined
defined_at i (Line ts) = defined_in (as_items 0 (placed_of ts i.columns))
defined_at i t = Other

pub record Head : Type 0 where
  pub parameters : Names
  pub body : Items

abbrev pub parameter_on : Names → Item Terminal → Items → (Names → Option Head) → Option Head
parameter_on ps c is go =
    if is_mark sign.CloseParen c then Some (record { parameters = ps; body = is })
    else (if is_mark sign.Comma c then go ps else None)

abbrev pub parameter_in : Names → Terminal → Item Terminal → Items → (Names → Option Head) → Option Head
parameter_in ps (Name x) c is go = if is_among ps x then None else parameter_on (ps ++ x ∷ []) c is go
parameter_in ps t c is go = None

-- names with commas between them, and a bracket
abbrev pub parameters_from : Names → Items → Option Head
parameters_from ps (x ∷ c ∷ is) = parameter_in ps x.terminal c is (λ ps. parameters_from ps is)
parameters_from ps is = None

abbrev pub parameters : Items → Option Head
parameters [] = None
parameters (c ∷ is) =
    if is_mark sign.CloseParen c then Some (record { parameters = []; body = is }) else parameters_from [] (c ∷ is)

-- a comment begins
abbrev pub is_comment : Items → Bool
is_comment (i ∷ j ∷ is) = is_pair sign.Slash sign.Star i j
is_comment is = false

-- the body, up to the end of the line or a comment that reaches it
abbrev pub body_read : Macros → Items → Reading → Option Reading
body_read ms [] r = None
body_read ms (i ∷ is) r =
    if is_remark (i ∷ is) then Some r
    else (if is_comment (i ∷ is) || not (is_sure i.terminal) then None
    else onward (step ms (opens is) i r) (λ r. body_read ms is r))

-- one argument, and nothing else
abbrev pub is_argument : Call → Bool
is_argument c = (c.depth == 1) && not (has_some c.before) && has_some c.now

abbrev pub body_in : List Call → Option (List Terminal)
body_in (c ∷ []) = if is_argument c then Some (map (λ i. i.terminal) c.now) else None
body_in cs = None

abbrev pub body_of : Reading → Option (List Terminal)
body_of r = if has_some r.done then None else body_in r.calls

-- the body is read as if it were the argument of a call, with the calls in it: so it has no comma outside of brackets, its
-- brackets are closed, and each macro's name in it is that of a call
abbrev pub as_argument : ℕ → Reading
as_argument room = record {
  done = [];
  calls = record { place = record { terminal = Mark sign.OpenParen; line = 0; column = 0; columns = [] }; depth = 1; before = []; now = [] } ∷ [];
  room = room;
}

-- ---- the text

-- the macros so far, the other names that are defined, and what is read
pub record State : Type 0 where
  pub macros : Macros
  pub others : Names
  pub reading : Reading

abbrev pub begin : State
begin = record { macros = known; others = []; reading = record { done = []; calls = []; room = most_written } }

abbrev pub has_name : List ℕ → List Terminal → Bool
has_name x [] = false
has_name x (t ∷ ts) = same (Name x) t || has_name x ts

abbrev pub is_in : List ℕ → Macro → Bool
is_in x m = bytes_eq m.name x || is_among m.parameters x || has_name x m.body

-- it stands in the line of a macro
abbrev pub is_used : List ℕ → Macros → Bool
is_used x [] = false
is_used x (m ∷ ms) = is_in x m || is_used x ms

abbrev pub is_macro : Macros → Names → Bool
is_macro ms [] = false
is_macro ms (x ∷ xs) = is_some (macro_of ms x) || is_macro ms xs

-- a name that no line before has, and its own once; its parameters are no macros
abbrev pub is_new : State → Macro → Bool
is_new s m =
    not (is_among s.others m.name) && not (is_used m.name s.macros) && not (is_among m.parameters m.name) &&
    not (has_name m.name m.body) && not (is_macro s.macros m.parameters)

abbrev pub with_reading : State → Reading → State
with_reading s r = record { macros = s.macros; others = s.others; reading = r }

abbrev pub with_macro : State → Macro → ℕ → Option State
with_macro s m room =
    if is_new s m then Some (record {
      macros = s.macros ++ m ∷ [];
      others = s.others;
      reading = record { done = s.reading.done; calls = s.reading.calls; room = room };
    }) else None

abbrev pub with_body : State → List ℕ → Names → ℕ → Option (List Terminal) → Option State
with_body s x ps room None = None
with_body s x ps room (Some ts) = with_macro s (macro x ps ts) room

abbrev pub with_head : State → List ℕ → Option Head → Option State
with_head s x None = None
with_head s x (Some h) =
    onward (body_read s.macros h.body (as_argument s.reading.room)) (λ r. with_body s x h.parameters r.room (body_of r))

abbrev pub put_line : State → Item Terminal → Option State
put_line s i = option_map (with_reading s) (put i s.reading)

abbrev pub with_other : State → List ℕ → State
with_other s x = record { macros = s.macros; others = x ∷ s.others; reading = s.reading }

-- a line: one that defines a macro is left out
abbrev pub line_on : State → Item Terminal → Defined → Option State
line_on s i Other = put_line s i
line_on s i (Plain x) = if is_some (macro_of s.macros x) then None else put_line (with_other s x) i
line_on s i (With x is) = with_head s x (parameters is)

abbrev pub token_on : State → Item Terminal → Items → Terminal → Option State
token_on s i is (Line ts) = if has_some s.reading.calls then None else line_on s i (defined_at i (Line ts))
token_on s i is t = option_map (with_reading s) (step s.macros (opens is) i s.reading)

-- a directive line stays, before the call in which it stands
abbrev pub with_directive : State → Item Terminal → State
with_directive s i =
    with_reading s (record { done = s.reading.done ++ i ∷ []; calls = s.reading.calls; room = s.reading.room })

abbrev pub read : State → Items → Option State
read s [] = Some s
read s (i ∷ is) =
    if is_directive i.terminal then read (with_directive s i) is
    else onward (token_on s i (bare is) i.terminal) (λ s. read s is)

abbrev pub is_with : Defined → Bool
is_with (With x is) = true
is_with d = false

-- a macro is defined
abbrev pub has_macro : Items → Bool
has_macro [] = false
has_macro (i ∷ is) = is_with (defined_at i i.terminal) || has_macro is

-- the name of a function whose value is known
abbrev pub is_known : Terminal → Bool
is_known t = is_some (macro_at known t)

-- one of them is called; the token before is such a name or not
abbrev pub has_call : Bool → Items → Bool
has_call named [] = false
has_call named (i ∷ is) = (named && is_mark sign.OpenParen i) || has_call (is_known i.terminal) is

-- these tokens, each computed once
abbrev pub in_order : Items → Items
in_order [] = []
in_order (i ∷ is) = if is_directive i.terminal then i ∷ in_order is else i ∷ in_order is

abbrev pub kept : Items → Option State → Items
kept is None = is
kept is (Some s) = if has_some s.reading.calls then is else in_order s.reading.done

-- all tokens, with what macros stand for, and those functions
abbrev pub replaced : Items → Items
replaced is = if has_macro (bare is) || has_call false (bare is) then kept is (read begin is) else is
