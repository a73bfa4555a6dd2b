-- Macros are expanded without a look at the lines of the tokens.
use Rattle.std.proofs.Common.{◌≡◌, ◌∙◌, ℕ, ◌+◌, ◌-◌, Bool, true, false, cond, List, [], ◌∷◌, ◌++◌, map, Option, Some, None, refl, sym, ap}
use Rattle.std.specs.Prelude.{◌==◌, ◌&&◌, ◌||◌, not, nat_le, is_some}
use Rattle.std.specs.Option.{option_map}
use Rattle.std.specs.Str.{bytes_eq}
use Rattle.std.proofs.lemmas.List.{map-append}
use Rattle.c_tokens.specs.declared.kind.Sign.TheVariants as sign
use Rattle.c_grammar.specs.Terminal.{Terminal, Fixed, Mark, Name, Num, Line, Unknown, Unworked, End}
use Rattle.c_grammar.specs.Texts.{Item}
use Rattle.c_grammar.specs.Blocks.{Items, at, bare, is_directive}
use Rattle.c_grammar.specs.Constants.{Names, is_mark}
use Rattle.c_grammar.specs.Macros.{Call, Defined, Head, Macro, Macros, Other, Plain, Reading, State, With, appended, argument_at, argument_for, are_given, as_argument, begin, body_of, body_read, call_at, closed, defined_at, expanded_by, fit, has_call, has_macro, has_some, in_call, in_order, is_known, is_new, is_sure, is_with, kept, line_on, macro, macro_at, macro_of, next_argument, onward, opened, opens, parameters, put, put_all, put_body, put_for, put_line, put_name, put_other, put_sure, read, replaced, step, step_in, token_on, with_body, with_calls, with_depth, with_directive, with_head, with_macro, with_other, with_reading}
use Rattle.c_grammar.proofs.BareMacros.{in_order_same}
use Rattle.same_text.specs.Laws.{unlined}
use Rattle.same_text.proofs.Unlined.{AreUnlined, all_unlined, bare_unlined}

-- ---- what is read

abbrev unlined_lists : List Items → List Items
unlined_lists args = map all_unlined args

abbrev unlined_call : Call → Call
unlined_call c = record {
  place = unlined c.place;
  depth = c.depth;
  before = unlined_lists c.before;
  now = all_unlined c.now;
}

abbrev unlined_reading : Reading → Reading
unlined_reading r = record { done = all_unlined r.done; calls = map unlined_call r.calls; room = r.room }

-- the first is the second without lines
abbrev Same : Option Reading → Option Reading → Type 0
Same p o = p ≡ option_map unlined_reading o

pick : (b : Bool) (x y x' y' : Option Reading) → Same x' x → Same y' y → Same (cond b x' y') (cond b x y)
pick true x y x' y' h k = h
pick false x y x' y' h k = k

on : (o : Option Reading) (p : Option Reading) (go go' : Reading → Option Reading) → Same p o →
    ((r : Reading) → Same (go' (unlined_reading r)) (go r)) → Same (onward p go') (onward o go)
on o p go go' e h = ap (λ (q : Option Reading). onward q go') e ∙ by o
  where
    by : (o : Option Reading) → Same (onward (option_map unlined_reading o) go') (onward o go)
    by None = refl
    by (Some r) = h r

-- ---- a token

unlined_more : (is : Items) (i : Item Terminal) → all_unlined is ++ unlined i ∷ [] ≡ all_unlined (is ++ i ∷ [])
unlined_more is i = sym (map-append unlined is (i ∷ []))

abbrev with_done : Items → ℕ → Reading
with_done is room = record { done = is; calls = []; room = room }

abbrev with_now : Items → Call → List Call → ℕ → Items → Reading
with_now done c cs room is = record {
  done = all_unlined done;
  calls = record { place = unlined c.place; depth = c.depth; before = unlined_lists c.before; now = is } ∷ map unlined_call cs;
  room = room;
}

appended_unlined : (i : Item Terminal) (done : Items) (cs : List Call) (room : ℕ) →
    appended (unlined i) (all_unlined done) (map unlined_call cs) room ≡ unlined_reading (appended i done cs room)
appended_unlined i done [] room = ap (λ (is : Items). with_done is room) (unlined_more done i)
appended_unlined i done (c ∷ cs) room = ap (with_now done c cs room) (unlined_more c.now i)

put_unlined : (i : Item Terminal) (r : Reading) → Same (put (unlined i) (unlined_reading r)) (put i r)
put_unlined i r =
    pick (r.room == 0) None (Some (appended i r.done r.calls (r.room - 1))) None _ refl
    (ap (λ (s : Reading). Some s) (appended_unlined i r.done r.calls (r.room - 1)))

put_sure_unlined : (i : Item Terminal) (r : Reading) → Same (put_sure (unlined i) (unlined_reading r)) (put_sure i r)
put_sure_unlined i r = pick (is_sure i.terminal) (put i r) None _ None (put_unlined i r) refl

put_all_unlined : (is : Items) (r : Reading) → Same (put_all (all_unlined is) (unlined_reading r)) (put_all is r)
put_all_unlined [] r = refl
put_all_unlined (i ∷ is) r =
    on (put_sure i r) (put_sure (unlined i) (unlined_reading r)) (λ r. put_all is r) (λ r. put_all (all_unlined is) r)
    (put_sure_unlined i r) (λ r. put_all_unlined is r)

-- ---- what a call stands for

argument_unlined : (ps : Names) (args : List Items) (x : List ℕ) →
    argument_for ps (unlined_lists args) x ≡ option_map all_unlined (argument_for ps args x)
argument_unlined [] args x = refl
argument_unlined (p ∷ ps) [] x = refl
argument_unlined (p ∷ ps) (a ∷ args) x = by (bytes_eq p x) (argument_unlined ps args x)
  where
    by : (b : Bool) → argument_for ps (unlined_lists args) x ≡ option_map all_unlined (argument_for ps args x) →
        cond b (Some (all_unlined a)) (argument_for ps (unlined_lists args) x) ≡
        option_map all_unlined (cond b (Some a) (argument_for ps args x))
    by true e = refl
    by false e = e

argument_at_unlined : (ps : Names) (args : List Items) (t : Terminal) →
    argument_at ps (unlined_lists args) t ≡ option_map all_unlined (argument_at ps args t)
argument_at_unlined ps args (Name x) = argument_unlined ps args x
argument_at_unlined ps args (Fixed w) = refl
argument_at_unlined ps args (Mark s) = refl
argument_at_unlined ps args (Num n) = refl
argument_at_unlined ps args (Line ts) = refl
argument_at_unlined ps args Unknown = refl
argument_at_unlined ps args Unworked = refl
argument_at_unlined ps args End = refl

put_for_unlined : (place : Item Terminal) (t : Terminal) (o : Option Items) (r : Reading) →
    Same (put_for (unlined place) t (option_map all_unlined o) (unlined_reading r)) (put_for place t o r)
put_for_unlined place t None r = put_sure_unlined (at place t) r
put_for_unlined place t (Some a) r = put_all_unlined a r

body_unlined : (place : Item Terminal) (ps : Names) (args : List Items) (ts : List Terminal) (r : Reading) →
    Same (put_body (unlined place) ps (unlined_lists args) ts (unlined_reading r)) (put_body place ps args ts r)
body_unlined place ps args [] r = refl
body_unlined place ps args (t ∷ ts) r =
    on (put_for place t (argument_at ps args t) r)
    (put_for (unlined place) t (argument_at ps (unlined_lists args) t) (unlined_reading r))
    (λ r. put_body place ps args ts r) (λ r. put_body (unlined place) ps (unlined_lists args) ts r)
    (ap (λ (o : Option Items). put_for (unlined place) t o (unlined_reading r)) (argument_at_unlined ps args t)
    ∙ put_for_unlined place t (argument_at ps args t) r)
    (λ r. body_unlined place ps args ts r)

some_unlined : (is : Items) → has_some (all_unlined is) ≡ has_some is
some_unlined [] = refl
some_unlined (i ∷ is) = refl

given_unlined : (ps : Names) (args : List Items) → are_given ps (unlined_lists args) ≡ are_given ps args
given_unlined [] [] = refl
given_unlined [] (a ∷ args) = refl
given_unlined (p ∷ ps) [] = refl
given_unlined (p ∷ ps) (a ∷ args) =
    ap (λ (b : Bool). b && are_given ps (unlined_lists args)) (some_unlined a)
    ∙ ap (λ (b : Bool). has_some a && b) (given_unlined ps args)

fit_unlined : (ps : Names) (args : List Items) → fit ps (unlined_lists args) ≡ fit ps args
fit_unlined [] [] = refl
fit_unlined [] (a ∷ []) = ap not (some_unlined a)
fit_unlined [] (a ∷ b ∷ args) = refl
fit_unlined (p ∷ ps) args = given_unlined (p ∷ ps) args

expanded_unlined : (o : Option Macro) (place : Item Terminal) (args : List Items) (r : Reading) →
    Same (expanded_by o (unlined place) (unlined_lists args) (unlined_reading r)) (expanded_by o place args r)
expanded_unlined None place args r = refl
expanded_unlined (Some m) place args r =
    ap (λ (b : Bool). cond b (put_body (unlined place) m.parameters (unlined_lists args) m.body (unlined_reading r)) None)
    (fit_unlined m.parameters args)
    ∙ pick (fit m.parameters args) _ None _ None (body_unlined place m.parameters args m.body r) refl

-- ---- one token

name_unlined : (opens : Bool) (i : Item Terminal) (r : Reading) (cs : List Call) →
    Same (put_name opens (unlined i) (unlined_reading r) (map unlined_call cs)) (put_name opens i r cs)
name_unlined opens i r [] = pick opens (Some (with_calls r (call_at i ∷ []))) _ _ _ refl (put_unlined i r)
name_unlined opens i r (c ∷ cs) = pick opens (Some (with_calls r (call_at i ∷ c ∷ cs))) None _ None refl refl

other_unlined : (ms : Macros) (opens : Bool) (i : Item Terminal) (r : Reading) →
    Same (put_other ms opens (unlined i) (unlined_reading r)) (put_other ms opens i r)
other_unlined ms opens i r =
    pick (is_some (macro_at ms i.terminal)) _ _ _ _ (name_unlined opens i r r.calls) (put_unlined i r)

opened_unlined : (i : Item Terminal) (c : Call) (cs : List Call) (r : Reading) →
    Same (opened (unlined i) (unlined_call c) (map unlined_call cs) (unlined_reading r)) (opened i c cs r)
opened_unlined i c cs r =
    let s : Reading = with_calls r (with_depth c (c.depth + 1) ∷ cs) in
    pick (c.depth == 0) (Some s) (put i s) _ _ refl (put_unlined i s)

lists_more : (args : List Items) (a : Items) → unlined_lists args ++ all_unlined a ∷ [] ≡ unlined_lists (args ++ a ∷ [])
lists_more args a = sym (map-append all_unlined args (a ∷ []))

closed_unlined : (ms : Macros) (i : Item Terminal) (c : Call) (cs : List Call) (r : Reading) →
    Same (closed ms (unlined i) (unlined_call c) (map unlined_call cs) (unlined_reading r)) (closed ms i c cs r)
closed_unlined ms i c cs r =
    pick (nat_le c.depth 1) _ _ _ _
    (ap (λ (args : List Items). expanded_by (macro_at ms c.place.terminal) (unlined c.place) args (unlined_reading (with_calls r cs)))
    (lists_more c.before c.now)
    ∙ expanded_unlined (macro_at ms c.place.terminal) c.place (c.before ++ c.now ∷ []) (with_calls r cs))
    (put_unlined i (with_calls r (with_depth c (c.depth - 1) ∷ cs)))

abbrev with_before : Call → List Call → Reading → List Items → Option Reading
with_before c cs r args = Some (with_calls (unlined_reading r)
    (record { place = unlined c.place; depth = c.depth; before = args; now = [] } ∷ map unlined_call cs))

call_unlined : (ms : Macros) (opens : Bool) (i : Item Terminal) (c : Call) (cs : List Call) (r : Reading) →
    Same (in_call ms opens (unlined i) (unlined_call c) (map unlined_call cs) (unlined_reading r)) (in_call ms opens i c cs r)
call_unlined ms opens i c cs r =
    pick (not (is_sure i.terminal)) None _ None _ refl
    (pick (is_mark sign.OpenParen i) _ _ _ _ (opened_unlined i c cs r)
    (pick (is_mark sign.CloseParen i) _ _ _ _ (closed_unlined ms i c cs r)
    (pick (is_mark sign.Comma i && (c.depth == 1)) (Some (with_calls r (next_argument c ∷ cs))) _ _ _
    (ap (with_before c cs r) (lists_more c.before c.now)) (other_unlined ms opens i r))))

step_unlined : (ms : Macros) (opens : Bool) (i : Item Terminal) (r : Reading) →
    Same (step ms opens (unlined i) (unlined_reading r)) (step ms opens i r)
step_unlined ms opens i r = by r.calls
  where
    by : (cs : List Call) →
        Same (step_in (map unlined_call cs) ms opens (unlined i) (unlined_reading r)) (step_in cs ms opens i r)
    by [] = other_unlined ms opens i r
    by (c ∷ cs) = call_unlined ms opens i c cs r

opens_unlined : (is : Items) → opens (all_unlined is) ≡ opens is
opens_unlined [] = refl
opens_unlined (i ∷ is) = refl

-- ---- the text

abbrev unlined_state : State → State
unlined_state s = with_reading s (unlined_reading s.reading)

abbrev SameState : Option State → Option State → Type 0
SameState p o = p ≡ option_map unlined_state o

pick_state : (b : Bool) (x y x' y' : Option State) → SameState x' x → SameState y' y →
    SameState (cond b x' y') (cond b x y)
pick_state true x y x' y' h k = h
pick_state false x y x' y' h k = k

within : (s : State) (o p : Option Reading) → Same p o →
    SameState (option_map (with_reading (unlined_state s)) p) (option_map (with_reading s) o)
within s o p e = ap (option_map (with_reading (unlined_state s))) e ∙ by o
  where
    by : (o : Option Reading) →
        SameState (option_map (with_reading (unlined_state s)) (option_map unlined_reading o)) (option_map (with_reading s) o)
    by None = refl
    by (Some r) = refl

with_body_unlined : (s : State) (x : List ℕ) (ps : Names) (room : ℕ) (o : Option (List Terminal)) →
    SameState (with_body (unlined_state s) x ps room o) (with_body s x ps room o)
with_body_unlined s x ps room None = refl
with_body_unlined s x ps room (Some ts) = pick_state (is_new s (macro x ps ts)) _ None _ None refl refl

head_unlined : (s : State) (x : List ℕ) (o : Option Head) → SameState (with_head (unlined_state s) x o) (with_head s x o)
head_unlined s x None = refl
head_unlined s x (Some h) = by (body_read s.macros h.body (as_argument s.reading.room))
  where
    by : (o : Option Reading) →
        SameState (onward o (λ r. with_body (unlined_state s) x h.parameters r.room (body_of r)))
        (onward o (λ r. with_body s x h.parameters r.room (body_of r)))
    by None = refl
    by (Some r) = with_body_unlined s x h.parameters r.room (body_of r)

line_unlined : (s : State) (i : Item Terminal) (d : Defined) → SameState (line_on (unlined_state s) (unlined i) d) (line_on s i d)
line_unlined s i Other = within s (put i s.reading) _ (put_unlined i s.reading)
line_unlined s i (Plain x) =
    pick_state (is_some (macro_of s.macros x)) None _ None _ refl
    (within (with_other s x) (put i s.reading) _ (put_unlined i s.reading))
line_unlined s i (With x is) = head_unlined s x (parameters is)

calls_unlined : (cs : List Call) → has_some (map unlined_call cs) ≡ has_some cs
calls_unlined [] = refl
calls_unlined (c ∷ cs) = refl

on_unlined : (s : State) (i : Item Terminal) (is : Items) →
    SameState (option_map (with_reading (unlined_state s)) (step s.macros (opens (all_unlined is)) (unlined i) (unlined_reading s.reading)))
    (option_map (with_reading s) (step s.macros (opens is) i s.reading))
on_unlined s i is =
    within s (step s.macros (opens is) i s.reading) _
    (ap (λ (b : Bool). step s.macros b (unlined i) (unlined_reading s.reading)) (opens_unlined is)
    ∙ step_unlined s.macros (opens is) i s.reading)

token_unlined : (s : State) (i : Item Terminal) (is : Items) (t : Terminal) →
    SameState (token_on (unlined_state s) (unlined i) (all_unlined is) t) (token_on s i is t)
token_unlined s i is (Line ts) =
    ap (λ (b : Bool). cond b None (line_on (unlined_state s) (unlined i) (defined_at i (Line ts)))) (calls_unlined s.reading.calls)
    ∙ pick_state (has_some s.reading.calls) None _ None _ refl (line_unlined s i (defined_at i (Line ts)))
token_unlined s i is (Fixed w) = on_unlined s i is
token_unlined s i is (Mark m) = on_unlined s i is
token_unlined s i is (Name x) = on_unlined s i is
token_unlined s i is (Num n) = on_unlined s i is
token_unlined s i is Unknown = on_unlined s i is
token_unlined s i is Unworked = on_unlined s i is
token_unlined s i is End = on_unlined s i is

on_state : (o p : Option State) (go go' : State → Option State) → SameState p o →
    ((s : State) → SameState (go' (unlined_state s)) (go s)) → SameState (onward p go') (onward o go)
on_state o p go go' e h = ap (λ (q : Option State). onward q go') e ∙ by o
  where
    by : (o : Option State) → SameState (onward (option_map unlined_state o) go') (onward o go)
    by None = refl
    by (Some s) = h s

abbrev with_tokens : State → Items → State
with_tokens s is = with_reading s (record { done = is; calls = map unlined_call s.reading.calls; room = s.reading.room })

read_unlined : (is : Items) (s : State) → SameState (read (unlined_state s) (all_unlined is)) (read s is)
read_unlined [] s = refl
read_unlined (i ∷ is) s = by (is_directive i.terminal) (λ s. read_unlined is s)
  where
    by : (b : Bool) → ((s : State) → SameState (read (unlined_state s) (all_unlined is)) (read s is)) →
        SameState
        (cond b (read (with_directive (unlined_state s) (unlined i)) (all_unlined is))
        (onward (token_on (unlined_state s) (unlined i) (bare (all_unlined is)) i.terminal) (λ s. read s (all_unlined is))))
        (cond b (read (with_directive s i) is) (onward (token_on s i (bare is) i.terminal) (λ s. read s is)))
    by true ih =
        ap (λ (js : Items). read (with_tokens s js) (all_unlined is)) (unlined_more s.reading.done i) ∙ ih (with_directive s i)
    by false ih =
        ap (λ (js : Items). onward (token_on (unlined_state s) (unlined i) js i.terminal) (λ s. read s (all_unlined is)))
        (bare_unlined is)
        ∙ on_state (token_on s i (bare is) i.terminal) _ (λ s. read s is) (λ s. read s (all_unlined is))
        (token_unlined s i (bare is) i.terminal) ih

kept_unlined : (is : Items) (o : Option State) → AreUnlined (kept (all_unlined is) (option_map unlined_state o)) (kept is o)
kept_unlined is None = refl
kept_unlined is (Some s) =
    ap (λ (b : Bool). cond b (all_unlined is) (in_order (all_unlined s.reading.done))) (calls_unlined s.reading.calls)
    ∙ by (has_some s.reading.calls)
  where
    by : (b : Bool) →
        AreUnlined (cond b (all_unlined is) (in_order (all_unlined s.reading.done))) (cond b is (in_order s.reading.done))
    by true = refl
    by false = in_order_same (all_unlined s.reading.done) ∙ ap all_unlined (sym (in_order_same s.reading.done))

defined_unlined : (i : Item Terminal) (t : Terminal) → defined_at (unlined i) t ≡ defined_at i t
defined_unlined i (Line ts) = refl
defined_unlined i (Fixed w) = refl
defined_unlined i (Mark s) = refl
defined_unlined i (Name x) = refl
defined_unlined i (Num n) = refl
defined_unlined i Unknown = refl
defined_unlined i Unworked = refl
defined_unlined i End = refl

has_unlined : (is : Items) → has_macro (all_unlined is) ≡ has_macro is
has_unlined [] = refl
has_unlined (i ∷ is) =
    ap (λ (d : Defined). is_with d || has_macro (all_unlined is)) (defined_unlined i i.terminal)
    ∙ ap (λ (b : Bool). is_with (defined_at i i.terminal) || b) (has_unlined is)

called_unlined : (is : Items) (named : Bool) → has_call named (all_unlined is) ≡ has_call named is
called_unlined [] named = refl
called_unlined (i ∷ is) named =
    ap (λ (b : Bool). (named && is_mark sign.OpenParen i) || b) (called_unlined is (is_known i.terminal))

pub replaced_unlined : (is : Items) → AreUnlined (replaced (all_unlined is)) (replaced is)
replaced_unlined is =
    ap (λ (b : Bool). cond b (kept (all_unlined is) (read begin (all_unlined is))) (all_unlined is))
    (ap (λ (js : Items). has_macro js || has_call false js) (bare_unlined is)
    ∙ ap (λ (b : Bool). b || has_call false (all_unlined (bare is))) (has_unlined (bare is))
    ∙ ap (λ (b : Bool). has_macro (bare is) || b) (called_unlined (bare is) false))
    ∙ by (has_macro (bare is) || has_call false (bare is))
  where
    by : (b : Bool) →
        AreUnlined (cond b (kept (all_unlined is) (read begin (all_unlined is))) (all_unlined is)) (cond b (kept is (read begin is)) is)
    by true = ap (kept (all_unlined is)) (read_unlined is begin) ∙ kept_unlined is (read begin is)
    by false = refl
