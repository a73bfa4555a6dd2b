-- Macros are expanded without a look at directive lines.
use Rattle.std.proofs.Common.{◌≡◌, ◌∙◌, ℕ, ◌+◌, ◌-◌, Bool, true, false, cond, List, [], ◌∷◌, ◌++◌, Option, Some, None, refl, sym, ap}
use Rattle.std.specs.Prelude.{◌==◌, ◌&&◌, ◌||◌, not, nat_le, is_some}
use Rattle.std.specs.Option.{option_map}
use Rattle.c_tokens.specs.declared.kind.Sign.TheVariants as sign
use Rattle.c_grammar.specs.Terminal.{Terminal, Fixed, Mark, Name, Num, Line, Unknown, Unworked, End}
use Rattle.c_grammar.specs.Texts.{Item}
use Rattle.c_grammar.specs.Blocks.{Items, at, bare, is_directive}
use Rattle.c_grammar.specs.Constants.{Names, is_mark}
use Rattle.c_grammar.specs.Macros.{Call, Defined, Head, Macro, Macros, Other, Plain, Reading, State, With, appended, argument_at, as_argument, begin, body_of, body_read, call_at, closed, defined_at, expanded_by, fit, has_call, has_macro, has_some, in_call, in_order, is_new, is_sure, kept, line_on, macro, macro_at, macro_of, next_argument, onward, opened, opens, parameters, put, put_all, put_body, put_for, put_line, put_name, put_other, put_sure, read, replaced, step, step_in, token_on, with_body, with_calls, with_depth, with_directive, with_head, with_macro, with_other, with_reading}
use Rattle.c_grammar.proofs.BareTokens.{IsPlain, bare_both, plain_kept, same_bare}

abbrev bare_reading : Reading → Reading
bare_reading r = record { done = bare r.done; calls = r.calls; room = r.room }

-- the first is the second without directive lines
abbrev Same : Option Reading → Option Reading → Type 0
Same p o = p ≡ option_map bare_reading o

pick : (b : Bool) (x y x' y' : Option Reading) → Same x' x → Same y' y → Same (cond b x' y') (cond b x y)
pick true x y x' y' h k = h
pick false x y x' y' h k = k

on : (o : Option Reading) (p : Option Reading) (go go' : Reading → Option Reading) → Same p o →
    ((r : Reading) → Same (go' (bare_reading r)) (go r)) → Same (onward p go') (onward o go)
on o p go go' e h = ap (λ (q : Option Reading). onward q go') e ∙ by o
  where
    by : (o : Option Reading) → Same (onward (option_map bare_reading o) go') (onward o go)
    by None = refl
    by (Some r) = h r

-- ---- a token

abbrev with_done : Items → ℕ → Reading
with_done is room = record { done = is; calls = []; room = room }

appended_bare : (i : Item Terminal) (done : Items) (cs : List Call) (room : ℕ) → IsPlain i →
    appended i (bare done) cs room ≡ bare_reading (appended i done cs room)
appended_bare i done [] room h =
    ap (λ (is : Items). with_done is room)
    (sym (bare_both done (i ∷ []) ∙ ap (λ (is : Items). bare done ++ is) (plain_kept (i ∷ []) (h, tt))))
appended_bare i done (c ∷ cs) room h = refl

put_bare : (i : Item Terminal) (r : Reading) → IsPlain i → Same (put i (bare_reading r)) (put i r)
put_bare i r h =
    pick (r.room == 0) None (Some (appended i r.done r.calls (r.room - 1))) None _ refl
    (ap (λ (s : Reading). Some s) (appended_bare i r.done r.calls (r.room - 1) h))

sure_plain : (t : Terminal) → is_sure t ≡ true → is_directive t ≡ false
sure_plain (Fixed w) h = refl
sure_plain (Mark s) h = refl
sure_plain (Name x) h = refl
sure_plain (Num o) h = refl
sure_plain (Line ts) h = absurd cc
sure_plain Unknown h = refl
sure_plain Unworked h = refl
sure_plain End h = refl

put_sure_bare : (i : Item Terminal) (r : Reading) → Same (put_sure i (bare_reading r)) (put_sure i r)
put_sure_bare i r = by (is_sure i.terminal) refl
  where
    by : (b : Bool) → is_sure i.terminal ≡ b → Same (cond b (put i (bare_reading r)) None) (cond b (put i r) None)
    by true e = put_bare i r (sure_plain i.terminal e)
    by false e = refl

put_all_bare : (is : Items) (r : Reading) → Same (put_all is (bare_reading r)) (put_all is r)
put_all_bare [] r = refl
put_all_bare (i ∷ is) r =
    on (put_sure i r) (put_sure i (bare_reading r)) (λ r. put_all is r) (λ r. put_all is r) (put_sure_bare i r) (λ r. put_all_bare is r)

put_for_bare : (place : Item Terminal) (t : Terminal) (o : Option Items) (r : Reading) →
    Same (put_for place t o (bare_reading r)) (put_for place t o r)
put_for_bare place t None r = put_sure_bare (at place t) r
put_for_bare place t (Some a) r = put_all_bare a r

body_bare : (place : Item Terminal) (ps : Names) (args : List Items) (ts : List Terminal) (r : Reading) →
    Same (put_body place ps args ts (bare_reading r)) (put_body place ps args ts r)
body_bare place ps args [] r = refl
body_bare place ps args (t ∷ ts) r =
    on (put_for place t (argument_at ps args t) r) (put_for place t (argument_at ps args t) (bare_reading r))
    (λ r. put_body place ps args ts r) (λ r. put_body place ps args ts r)
    (put_for_bare place t (argument_at ps args t) r) (λ r. body_bare place ps args ts r)

expanded_bare : (o : Option Macro) (place : Item Terminal) (args : List Items) (r : Reading) →
    Same (expanded_by o place args (bare_reading r)) (expanded_by o place args r)
expanded_bare None place args r = refl
expanded_bare (Some m) place args r =
    pick (fit m.parameters args) _ None _ None (body_bare place m.parameters args m.body r) refl

name_bare : (opens : Bool) (i : Item Terminal) (r : Reading) (cs : List Call) → IsPlain i →
    Same (put_name opens i (bare_reading r) cs) (put_name opens i r cs)
name_bare opens i r [] h = pick opens (Some (with_calls r (call_at i ∷ []))) _ _ _ refl (put_bare i r h)
name_bare opens i r (c ∷ cs) h = pick opens (Some (with_calls r (call_at i ∷ c ∷ cs))) None _ None refl refl

other_bare : (ms : Macros) (opens : Bool) (i : Item Terminal) (r : Reading) → IsPlain i →
    Same (put_other ms opens i (bare_reading r)) (put_other ms opens i r)
other_bare ms opens i r h =
    pick (is_some (macro_at ms i.terminal)) _ _ _ _ (name_bare opens i r r.calls h) (put_bare i r h)

opened_bare : (i : Item Terminal) (c : Call) (cs : List Call) (r : Reading) → IsPlain i →
    Same (opened i c cs (bare_reading r)) (opened i c cs r)
opened_bare i c cs r h =
    let s : Reading = with_calls r (with_depth c (c.depth + 1) ∷ cs) in
    pick (c.depth == 0) (Some s) (put i s) _ _ refl (put_bare i s h)

closed_bare : (ms : Macros) (i : Item Terminal) (c : Call) (cs : List Call) (r : Reading) → IsPlain i →
    Same (closed ms i c cs (bare_reading r)) (closed ms i c cs r)
closed_bare ms i c cs r h =
    pick (nat_le c.depth 1) _ _ _ _
    (expanded_bare (macro_at ms c.place.terminal) c.place (c.before ++ c.now ∷ []) (with_calls r cs))
    (put_bare i (with_calls r (with_depth c (c.depth - 1) ∷ cs)) h)

call_bare : (ms : Macros) (opens : Bool) (i : Item Terminal) (c : Call) (cs : List Call) (r : Reading) → IsPlain i →
    Same (in_call ms opens i c cs (bare_reading r)) (in_call ms opens i c cs r)
call_bare ms opens i c cs r h =
    pick (not (is_sure i.terminal)) None _ None _ refl
    (pick (is_mark sign.OpenParen i) _ _ _ _ (opened_bare i c cs r h)
    (pick (is_mark sign.CloseParen i) _ _ _ _ (closed_bare ms i c cs r h)
    (pick (is_mark sign.Comma i && (c.depth == 1)) (Some (with_calls r (next_argument c ∷ cs))) _ _ _ refl
    (other_bare ms opens i r h))))

step_bare : (ms : Macros) (opens : Bool) (i : Item Terminal) (r : Reading) → IsPlain i →
    Same (step ms opens i (bare_reading r)) (step ms opens i r)
step_bare ms opens i r h = by r.calls
  where
    by : (cs : List Call) → Same (step_in cs ms opens i (bare_reading r)) (step_in cs ms opens i r)
    by [] = other_bare ms opens i r h
    by (c ∷ cs) = call_bare ms opens i c cs r h

-- ---- the text

abbrev bare_state : State → State
bare_state s = with_reading s (bare_reading s.reading)

abbrev SameState : Option State → Option State → Type 0
SameState p o = p ≡ option_map bare_state o

pick_state : (b : Bool) (x y x' y' : Option State) → SameState x' x → SameState y' y →
    SameState (cond b x' y') (cond b x y)
pick_state true x y x' y' h k = h
pick_state false x y x' y' h k = k

within : (s : State) (o p : Option Reading) → Same p o →
    SameState (option_map (with_reading (bare_state s)) p) (option_map (with_reading s) o)
within s o p e = ap (option_map (with_reading (bare_state s))) e ∙ by o
  where
    by : (o : Option Reading) →
        SameState (option_map (with_reading (bare_state s)) (option_map bare_reading o)) (option_map (with_reading s) o)
    by None = refl
    by (Some r) = refl

with_body_bare : (s : State) (x : List ℕ) (ps : Names) (room : ℕ) (o : Option (List Terminal)) →
    SameState (with_body (bare_state s) x ps room o) (with_body s x ps room o)
with_body_bare s x ps room None = refl
with_body_bare s x ps room (Some ts) = pick_state (is_new s (macro x ps ts)) _ None _ None refl refl

head_bare : (s : State) (x : List ℕ) (o : Option Head) → SameState (with_head (bare_state s) x o) (with_head s x o)
head_bare s x None = refl
head_bare s x (Some h) = by (body_read s.macros h.body (as_argument s.reading.room))
  where
    by : (o : Option Reading) →
        SameState (onward o (λ r. with_body (bare_state s) x h.parameters r.room (body_of r)))
        (onward o (λ r. with_body s x h.parameters r.room (body_of r)))
    by None = refl
    by (Some r) = with_body_bare s x h.parameters r.room (body_of r)

line_bare : (s : State) (i : Item Terminal) (d : Defined) → IsPlain i →
    SameState (line_on (bare_state s) i d) (line_on s i d)
line_bare s i Other h = within s (put i s.reading) (put i (bare_reading s.reading)) (put_bare i s.reading h)
line_bare s i (Plain x) h =
    pick_state (is_some (macro_of s.macros x)) None _ None _ refl
    (within (with_other s x) (put i s.reading) (put i (bare_reading s.reading)) (put_bare i s.reading h))
line_bare s i (With x is) h = head_bare s x (parameters is)

token_bare : (s : State) (i : Item Terminal) (is : Items) (t : Terminal) → IsPlain i →
    SameState (token_on (bare_state s) i is t) (token_on s i is t)
token_bare s i is (Line ts) h =
    pick_state (has_some s.reading.calls) None _ None _ refl (line_bare s i (defined_at i (Line ts)) h)
token_bare s i is (Fixed w) h = within s _ _ (step_bare s.macros (opens is) i s.reading h)
token_bare s i is (Mark m) h = within s _ _ (step_bare s.macros (opens is) i s.reading h)
token_bare s i is (Name x) h = within s _ _ (step_bare s.macros (opens is) i s.reading h)
token_bare s i is (Num n) h = within s _ _ (step_bare s.macros (opens is) i s.reading h)
token_bare s i is Unknown h = within s _ _ (step_bare s.macros (opens is) i s.reading h)
token_bare s i is Unworked h = within s _ _ (step_bare s.macros (opens is) i s.reading h)
token_bare s i is End h = within s _ _ (step_bare s.macros (opens is) i s.reading h)

on_state : (o p : Option State) (go go' : State → Option State) → SameState p o →
    ((s : State) → SameState (go' (bare_state s)) (go s)) → SameState (onward p go') (onward o go)
on_state o p go go' e h = ap (λ (q : Option State). onward q go') e ∙ by o
  where
    by : (o : Option State) → SameState (onward (option_map bare_state o) go') (onward o go)
    by None = refl
    by (Some s) = h s

directive_bare : (s : State) (i : Item Terminal) → is_directive i.terminal ≡ true → bare_state s ≡ bare_state (with_directive s i)
directive_bare s i e =
    let one : bare (i ∷ []) ≡ [] = rw e refl in
    let all : bare s.reading.done ≡ bare (s.reading.done ++ i ∷ []) =
    sym (bare_both s.reading.done (i ∷ []) ∙ ap (λ (is : Items). bare s.reading.done ++ is) one ∙ append_nil (bare s.reading.done)) in
    ap (λ (is : Items). with_reading s (record { done = is; calls = s.reading.calls; room = s.reading.room })) all
  where
    append_nil : (is : Items) → is ++ [] ≡ is
    append_nil [] = refl
    append_nil (j ∷ js) = ap (λ (ks : Items). j ∷ ks) (append_nil js)

read_bare : (is : Items) (s : State) → SameState (read (bare_state s) (bare is)) (read s is)
read_bare [] s = refl
read_bare (i ∷ is) s = step (λ s. read_bare is s) (is_directive i.terminal) refl
  where
    step : ((s : State) → SameState (read (bare_state s) (bare is)) (read s is)) → (b : Bool) →
        is_directive i.terminal ≡ b → SameState (read (bare_state s) (bare (i ∷ is))) (read s (i ∷ is))
    step ih true e = rw e (ap (λ (q : State). read q (bare is)) (directive_bare s i e) ∙ ih (with_directive s i))
    step ih false e =
        rw e (rw e (ap (λ (js : Items). onward (token_on (bare_state s) i js i.terminal) (λ s. read s (bare is))) (same_bare is)
        ∙ on_state (token_on s i (bare is) i.terminal) (token_on (bare_state s) i (bare is) i.terminal) (λ s. read s is)
        (λ s. read s (bare is)) (token_bare s i (bare is) i.terminal e) ih))

pub in_order_same : (is : Items) → in_order is ≡ is
in_order_same [] = refl
in_order_same (i ∷ is) = by (is_directive i.terminal) (ap (λ (js : Items). i ∷ js) (in_order_same is))
  where
    by : (b : Bool) → i ∷ in_order is ≡ i ∷ is → cond b (i ∷ in_order is) (i ∷ in_order is) ≡ i ∷ is
    by true e = e
    by false e = e

kept_bare : (is : Items) (o : Option State) → kept (bare is) (option_map bare_state o) ≡ bare (kept is o)
kept_bare is None = refl
kept_bare is (Some s) = by (has_some s.reading.calls)
  where
    by : (b : Bool) → cond b (bare is) (in_order (bare s.reading.done)) ≡ bare (cond b is (in_order s.reading.done))
    by true = refl
    by false = in_order_same (bare s.reading.done) ∙ ap bare (sym (in_order_same s.reading.done))

pub replaced_bare : (is : Items) → replaced (bare is) ≡ bare (replaced is)
replaced_bare is =
    ap (λ (js : Items). cond (has_macro js || has_call false js) (kept (bare is) (read begin (bare is))) (bare is)) (same_bare is)
    ∙ by (has_macro (bare is) || has_call false (bare is))
  where
    by : (b : Bool) → cond b (kept (bare is) (read begin (bare is))) (bare is) ≡ bare (cond b (kept is (read begin is)) is)
    by true = ap (kept (bare is)) (read_bare is begin) ∙ kept_bare is (read begin is)
    by false = refl
