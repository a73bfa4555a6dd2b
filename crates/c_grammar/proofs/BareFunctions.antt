-- Expanding functions and leaving the directive lines away can be done in any order.
use Rattle.std.proofs.Common.{◌≡◌, ℕ, zero, suc, ◌+◌, ◌-◌, Bool, true, false, cond, List, [], ◌∷◌, ◌++◌, length, map, Option, Some, None, refl, sym, ap, ap₂, ◌∙◌}
use Rattle.std.specs.Prelude.{◌&&◌, ◌||◌, not, nat_lt, codes}
use Rattle.std.specs.Option.{option_map}
use Rattle.std.proofs.lemmas.List.{append-nil}
use Rattle.c_tokens.specs.declared.kind.Sign.{Sign}
use Rattle.c_tokens.specs.declared.kind.Sign.TheVariants as sign
use Rattle.c_grammar.specs.Terminal.{Terminal, Fixed, Mark, Name, Num, Line, Unknown, Unworked, End, same}
use Rattle.c_grammar.specs.Texts.{Item}
use Rattle.c_grammar.specs.Blocks.{Items, is_directive, bare}
use Rattle.c_grammar.specs.Changes.{is_mark, is_boundary}
use Rattle.c_grammar.specs.Constants.{Names, is_among, worked}
use Rattle.c_grammar.specs.Functions.{Function, Functions, without_value, Known, Others, Parameter, Puts, Returned, Where, Outside, InHead, InBody, added, array_names, called, closed, declared_in, defined, expanded, function_with, has_function, has_value, headed_or, in_body, in_head, is_main, is_specifier, is_static, known_names, line_in, may_be_added, most_known, most_lines, names_in, other_name, nothing_known, out_of_body, outside, parameters_from, plain, put_all, puts_from, raw_in, returned, returned_by, specifies, token_in, value_at, value_ended, with_function, with_name}
use Rattle.c_grammar.specs.FunctionHeads.{Gives, NoValue, AValue, AStatus, Headed, head_at}
use Rattle.c_grammar.specs.Unspelled.{most_names}
use Rattle.c_grammar.specs.Presence.{guarded}
use Rattle.c_grammar.proofs.BarePresence.{guarded_bare}
use Rattle.c_grammar.proofs.BareTokens.{IsPlain, IsBare, either, one, same_bare, bare_both, plain_kept}
use Rattle.c_grammar.proofs.BarePassed.{bare_of, put_bare}
use Rattle.c_grammar.proofs.BareCalls.{called_bare}

-- ---- functions

abbrev bare_known : Known → Known
bare_known k = record { functions = map bare_of k.functions; globals = k.globals; next = k.next; room = k.room }

abbrev bare_returned : Returned → Returned
bare_returned r = record { front = bare r.front; value = bare r.value }

names_bare : (fs : Functions) → map (λ f. f.name) (map bare_of fs) ≡ map (λ f. f.name) fs
names_bare [] = refl
names_bare (f ∷ fs) = ap (λ (v : Names). f.name ∷ v) (names_bare fs)

known_bare : (k : Known) → known_names (bare_known k) ≡ known_names k
known_bare k = ap (λ (v : Names). k.globals ++ v) (names_bare k.functions)

parameters_bare : (k : ℕ) (h : Headed) (front : Items) →
    parameters_from k (bare (bare front)) h.declared ≡ parameters_from k (bare front) h.declared
parameters_bare k h front = ap (λ (v : Items). parameters_from k v h.declared) (same_bare front)

in_head_bare : (h : Headed) (front : Items) → names_in h (bare front) ≡ names_in h front
in_head_bare h front = ap (λ (v : Items). map (λ d. d.name) h.declared ++ declared_in v) (same_bare front)

-- a function by its names and by what is known
abbrev made : Known → Headed → Returned → Names → Names → Functions → List Parameter → Function
made k h r names known fs ps = record {
  name = h.name;
  parameters = ps;
  body = called k.globals fs true k.room 0
      (guarded (array_names k.next h.declared) (put_all (puts_from k.next names) (other_name known) r.front));
  value = put_all (puts_from k.next names) (other_name known) r.value;
}

made_bare : (k : Known) (h : Headed) (r : Returned) (names known : Names) (ps : List Parameter) →
    made k h (bare_returned r) names known (map bare_of k.functions) ps ≡ bare_of (made k h r names known k.functions ps)
made_bare k h r names known ps =
    let arrays : Names = array_names k.next h.declared in
    let puts : Puts = puts_from k.next names in
    let other : Others = other_name known in
    ap₂ (λ (b v : Items). record { name = h.name; parameters = ps; body = b; value = v })
    (ap (λ (v : Items). called k.globals (map bare_of k.functions) true k.room 0 (guarded arrays v)) (put_bare puts other r.front)
    ∙ ap (λ (v : Items). called k.globals (map bare_of k.functions) true k.room 0 v) (guarded_bare arrays (put_all puts other r.front))
    ∙ called_bare (guarded arrays (put_all puts other r.front)) k.globals k.functions true k.room 0)
    (put_bare puts other r.value)

function_bare : (k : Known) (h : Headed) (r : Returned) →
    function_with (bare_known k) h (bare_returned r) ≡ bare_of (function_with k h r)
function_bare k h r =
    let fs : Functions = map bare_of k.functions in
    let ps : List Parameter = parameters_from k.next (bare (bare r.front)) h.declared in
    ap (λ (v : Names). made k h (bare_returned r) v (known_names (bare_known k)) fs ps) (in_head_bare h r.front)
    ∙ ap (λ (v : Names). made k h (bare_returned r) (names_in h r.front) v fs ps) (known_bare k)
    ∙ ap (λ (v : List Parameter). made k h (bare_returned r) (names_in h r.front) (known_names k) fs v)
    (parameters_bare k.next h r.front)
    ∙ made_bare k h r (names_in h r.front) (known_names k) (parameters_from k.next (bare r.front) h.declared)

abbrev with_bares : Known → ℕ → Function → Known
with_bares k n f = record {
  functions = map bare_of k.functions ++ bare_of f ∷ [];
  globals = k.globals;
  next = k.next + n;
  room = k.room - length (bare f.body);
}

map_bare : (fs : Functions) (f : Function) → map bare_of (fs ++ f ∷ []) ≡ map bare_of fs ++ bare_of f ∷ []
map_bare [] f = refl
map_bare (g ∷ fs) f = ap (λ (v : Functions). bare_of g ∷ v) (map_bare fs f)

with_bare_function : (k : Known) (n : ℕ) (f : Function) →
    with_function (bare_known k) n (bare_of f) ≡ bare_known (with_function k n f)
with_bare_function k n f =
    ap₂ (λ (fs : Functions) (b : Items).
    record { functions = fs; globals = k.globals; next = k.next + n; room = k.room - length b })
    (sym (map_bare k.functions f)) (same_bare f.body)

abbrev BaresKnown : Option Known → Option Known → Type 0
BaresKnown l' l = l' ≡ option_map bare_known l

may_bare : (k : Known) (h : Headed) (front : Items) → may_be_added (bare_known k) h (bare front) ≡ may_be_added k h front
may_bare k h front =
    ap₂ (λ (v w : Names).
    not (is_among v h.name) && nat_lt (length v) most_known && nat_lt (k.next + length w) most_names)
    (known_bare k) (in_head_bare h front)

added_bare : (k : Known) (h : Headed) (o : Option Returned) →
    BaresKnown (added (bare_known k) h (option_map bare_returned o)) (added k h o)
added_bare k h None = refl
added_bare k h (Some r) =
    let new : Known = with_function k (length (names_in h r.front)) (function_with k h r) in
    ap (λ (b : Bool). cond b (Some (with_function (bare_known k) (length (names_in h (bare r.front)))
    (function_with (bare_known k) h (bare_returned r)))) None) (may_bare k h r.front)
    ∙ ap (λ (l : Known). cond (may_be_added k h r.front) (Some l) None)
    (ap₂ (λ (v : Names) (f : Function). with_function (bare_known k) (length v) f) (in_head_bare h r.front) (function_bare k h r)
    ∙ with_bare_function k (length (names_in h r.front)) (function_with k h r))
    ∙ chosen (may_be_added k h r.front) new
  where
    chosen : (b : Bool) (l : Known) → cond b (Some (bare_known l)) None ≡ option_map bare_known (cond b (Some l) None)
    chosen true l = refl
    chosen false l = refl

-- ---- what is returned

abbrev BaresReturned : Option Returned → Option Returned → Type 0
BaresReturned r' r = r' ≡ option_map bare_returned r

either_returned : (b : Bool) (x y x' y' : Option Returned) → BaresReturned x' x → BaresReturned y' y
    → BaresReturned (cond b x' y') (cond b x y)
either_returned true x y x' y' h k = h
either_returned false x y x' y' h k = k

ended_bare : (front value is : Items) →
    BaresReturned (value_ended (bare front) (bare value) (bare is)) (value_ended front value is)
ended_bare front value is =
    ap₂ (λ (v w : Items). cond (has_value v && not (has_value w))
    (Some (record { front = bare front; value = bare value ++ bare is })) None) (same_bare value) (same_bare is)
    ∙ either_returned (has_value (bare value) && not (has_value (bare is))) _ None _ None
    (ap (λ (v : Items). Some (record { front = bare front; value = v })) (sym (bare_both value is))) refl

-- behind one more token
more : (is : Items) (i : Item Terminal) → IsPlain i → bare (is ++ i ∷ []) ≡ bare is ++ i ∷ []
more is i h = bare_both is (i ∷ []) ∙ ap (λ (v : Items). bare is ++ v) (plain_kept (i ∷ []) (h, tt))

-- behind a directive
no_more : (is : Items) (i : Item Terminal) → is_directive i.terminal ≡ true → bare (is ++ i ∷ []) ≡ bare is
no_more is i h =
    bare_both is (i ∷ []) ∙ (let e : is_directive i.terminal ≡ true = h in rw e (append-nil (bare is)))

line_no_mark : (s : Sign) (t : Terminal) → is_directive t ≡ true → same (Mark s) t ≡ false
line_no_mark s (Line ts) h = refl
line_no_mark s (Name x) h = absurd cc
line_no_mark s (Fixed w) h = absurd cc
line_no_mark s (Mark r) h = absurd cc
line_no_mark s (Num n) h = absurd cc
line_no_mark s Unknown h = absurd cc
line_no_mark s Unworked h = absurd cc
line_no_mark s End h = absurd cc

line_no_name : (x : List ℕ) (t : Terminal) → is_directive t ≡ true → same (Name x) t ≡ false
line_no_name x (Line ts) h = refl
line_no_name x (Name y) h = absurd cc
line_no_name x (Fixed w) h = absurd cc
line_no_name x (Mark r) h = absurd cc
line_no_name x (Num n) h = absurd cc
line_no_name x Unknown h = absurd cc
line_no_name x Unworked h = absurd cc
line_no_name x End h = absurd cc

value_bare : (is front value : Items) →
    BaresReturned (value_at (bare front) (bare value) (bare is)) (value_at front value is)
value_bare [] front value = refl
value_bare (i ∷ is) front value = step (value_bare is) (is_directive i.terminal) refl
  where
    step : ((front value : Items) → BaresReturned (value_at (bare front) (bare value) (bare is)) (value_at front value is)) →
        (b : Bool) → is_directive i.terminal ≡ b →
        BaresReturned (value_at (bare front) (bare value) (bare (i ∷ is))) (value_at front value (i ∷ is))
    step ih true e =
        rw e (rw (line_no_mark sign.Semicolon i.terminal e) (rw (line_no_mark sign.OpenBrace i.terminal e)
        (rw (line_no_mark sign.CloseBrace i.terminal e)
        (ap (λ (v : Items). value_at (bare front) v (bare is)) (sym (no_more value i e)) ∙ ih front (value ++ i ∷ [])))))
    step ih false e =
        rw e (either_returned (is_mark sign.Semicolon i) _ _ _ _ (ended_bare front value is)
        (either_returned (is_boundary i.terminal) None _ None _ refl
        (ap (λ (v : Items). value_at (bare front) v (bare is)) (sym (more value i e)) ∙ ih front (value ++ i ∷ []))))

returned_bare : (is front : Items) → BaresReturned (returned (bare front) (bare is)) (returned front is)
returned_bare [] front = refl
returned_bare (i ∷ is) front = step (returned_bare is) (is_directive i.terminal) refl
  where
    step : ((front : Items) → BaresReturned (returned (bare front) (bare is)) (returned front is)) → (b : Bool) →
        is_directive i.terminal ≡ b → BaresReturned (returned (bare front) (bare (i ∷ is))) (returned front (i ∷ is))
    step ih true e =
        rw e (rw (line_no_name (codes "return") i.terminal e)
        (ap (λ (v : Items). returned v (bare is)) (sym (no_more front i e)) ∙ ih (front ++ i ∷ [])))
    step ih false e =
        rw e (either_returned (same (Name (codes "return")) i.terminal) _ _ _ _ (value_bare is front [])
        (ap (λ (v : Items). returned v (bare is)) (sym (more front i e)) ∙ ih (front ++ i ∷ [])))

without_bare : (o o' : Option Returned) → BaresReturned o' o → BaresReturned (without_value o') (without_value o)
without_bare None o' h = ap without_value h
without_bare (Some r) o' h = ap without_value h

returned_by_bare : (gives : Gives) (body : Items) → BaresReturned (returned_by gives (bare body)) (returned_by gives body)
returned_by_bare NoValue body = refl
returned_by_bare AValue body = returned_bare body []
returned_by_bare AStatus body = without_bare (returned [] body) (returned [] (bare body)) (returned_bare body [])

-- ---- the source

abbrev bare_where : Where → Where
bare_where (Outside b) = Outside b
bare_where (InHead h raw n) = InHead h (bare raw) n
bare_where (InBody h raw body d l) = InBody h (bare raw) (bare body) d 0

abbrev Onward : Type 0
Onward = Known → Where → Items

abbrev OnwardBare : Onward → Onward → Type 0
OnwardBare go' go = (k : Known) (p : Where) → IsBare (go' (bare_known k) (bare_where p)) (go k p)

plain_token : (k : Known) (i : Item Terminal) (is : Items) (go go' : Onward) → IsPlain i → OnwardBare go' go
    → IsBare (plain (bare_known k) i is go') (plain k i is go)
plain_token k i is go go' h r = one i _ _ h (r (with_name k i is) (Outside (is_boundary i.terminal)))

headed_bare : (k : Known) (i : Item Terminal) (is : Items) (o : Option Headed) (go go' : Onward) → IsPlain i
    → OnwardBare go' go → IsBare (headed_or (bare_known k) i is o go') (headed_or k i is o go)
headed_bare k i is None go go' h r = plain_token k i is go go' h r
headed_bare k i is (Some d) go go' h r =
    ap (λ (v : Items). go' (bare_known k) (InHead d v d.len)) (sym (plain_kept (i ∷ []) (h, tt)))
    ∙ r k (InHead d (i ∷ []) d.len)

outside_bare : (k : Known) (b : Bool) (i : Item Terminal) (is : Items) (go go' : Onward) → IsPlain i → OnwardBare go' go
    → IsBare (outside (bare_known k) b i is go') (outside k b i is go)
outside_bare k false i is go go' h r = plain_token k i is go go' h r
outside_bare k true i is go go' h r =
    either (is_specifier i.terminal && specifies is) _ _ _ _ (r k (Outside true))
    (headed_bare k i is (head_at i.terminal is) go go' h r)

head_bare : (k : Known) (h : Headed) (raw raw' : Items) (n : ℕ) (go go' : Onward) → raw' ≡ bare raw → OnwardBare go' go
    → IsBare (in_head (bare_known k) h raw' n go') (in_head k h raw n go)
head_bare k h raw raw' zero go go' e r = ap (λ (v : Items). go' (bare_known k) (InBody h v [] 0 0)) e ∙ r k (InBody h raw [] 0 0)
head_bare k h raw raw' (suc zero) go go' e r =
    ap (λ (v : Items). go' (bare_known k) (InBody h v [] 0 0)) e ∙ r k (InBody h raw [] 0 0)
head_bare k h raw raw' (suc (suc n)) go go' e r =
    ap (λ (v : Items). go' (bare_known k) (InHead h v (suc n))) e ∙ r k (InHead h raw (suc n))

closed_bare : (k : Known) (raw : Items) (o : Option Known) (go go' : Onward) → OnwardBare go' go
    → IsBare (closed (bare_known k) (bare raw) (option_map bare_known o) go') (closed k raw o go)
closed_bare k raw None go go' r =
    ap (λ (v : Items). bare raw ++ v) (r k (Outside true)) ∙ sym (bare_both raw (go k (Outside true)))
closed_bare k raw (Some l) go go' r = r l (Outside true)

out_bare : (k : Known) (h : Headed) (raw body : Items) (d : ℕ) (i : Item Terminal) (go go' : Onward) → IsPlain i
    → OnwardBare go' go
    → IsBare (out_of_body (bare_known k) h (bare raw) (bare body) d i go') (out_of_body k h raw body d i go)
out_bare k h raw body zero i go go' p r =
    ap (λ (o : Option Known). closed (bare_known k) (bare raw) o go')
    (ap (λ (o : Option Returned). added (bare_known k) h o) (returned_by_bare h.gives body)
    ∙ added_bare k h (returned_by h.gives body))
    ∙ closed_bare k raw (added k h (returned_by h.gives body)) go go' r
out_bare k h raw body (suc d) i go go' p r =
    ap (λ (v : Items). go' (bare_known k) (InBody h (bare raw) v d 0)) (sym (more body i p))
    ∙ r k (InBody h raw (body ++ i ∷ []) d 0)

body_bare : (k : Known) (h : Headed) (raw body : Items) (d : ℕ) (i : Item Terminal) (go go' : Onward) → IsPlain i
    → OnwardBare go' go
    → IsBare (in_body (bare_known k) h (bare raw) (bare body) d i go') (in_body k h raw body d i go)
body_bare k h raw body d i go go' p r =
    either (is_mark sign.OpenBrace i) _ _ _ _ (on (d + 1))
    (either (is_mark sign.CloseBrace i) _ _ _ _ (out_bare k h raw body d i go go' p r) (on d))
  where
    on : (e : ℕ) → IsBare (go' (bare_known k) (InBody h (bare raw) (bare body ++ i ∷ []) e 0))
        (go k (InBody h raw (body ++ i ∷ []) e 0))
    on e = ap (λ (v : Items). go' (bare_known k) (InBody h (bare raw) v e 0)) (sym (more body i p))
        ∙ r k (InBody h raw (body ++ i ∷ []) e 0)

token_bare : (k : Known) (p : Where) (i : Item Terminal) (is : Items) (go go' : Onward) → IsPlain i → OnwardBare go' go
    → IsBare (token_in (bare_known k) (bare_where p) i is go') (token_in k p i is go)
token_bare k (Outside b) i is go go' h r = outside_bare k b i is go go' h r
token_bare k (InHead d raw n) i is go go' h r =
    head_bare k d (raw ++ i ∷ []) (bare raw ++ i ∷ []) n go go' (sym (more raw i h)) r
token_bare k (InBody d raw body e l) i is go go' h r =
    ap (λ (v : Items). in_body (bare_known k) d v (bare body) e i go') (sym (more raw i h))
    ∙ body_bare k d (raw ++ i ∷ []) body e i go go' h r

line_bare : (k : Known) (p : Where) (i : Item Terminal) (go go' : Onward) → is_directive i.terminal ≡ true
    → OnwardBare go' go → IsBare (go' (bare_known k) (bare_where p)) (line_in k p i go)
line_bare k (Outside b) i go go' h r = rw h (r k (Outside b))
line_bare k (InHead d raw n) i go go' h r = rw h (r k (InHead d raw n))
line_bare k (InBody d raw body e l) i go go' h r = pick (nat_lt l most_lines)
  where
    in_it : IsBare (go' (bare_known k) (bare_where (InBody d raw body e l)))
        (go k (InBody d (raw ++ i ∷ []) (body ++ i ∷ []) e (l + 1)))
    in_it =
        ap₂ (λ (v w : Items). go' (bare_known k) (InBody d v w e 0)) (sym (no_more raw i h)) (sym (no_more body i h))
        ∙ r k (InBody d (raw ++ i ∷ []) (body ++ i ∷ []) e (l + 1))

    out_of_it : IsBare (go' (bare_known k) (bare_where (InBody d raw body e l))) (i ∷ go k (InBody d raw body e l))
    out_of_it = rw h (r k (InBody d raw body e l))

    pick : (b : Bool) → IsBare (go' (bare_known k) (bare_where (InBody d raw body e l)))
        (cond b (go k (InBody d (raw ++ i ∷ []) (body ++ i ∷ []) e (l + 1))) (i ∷ go k (InBody d raw body e l)))
    pick true = in_it
    pick false = out_of_it

raw_bare : (p : Where) → IsBare (raw_in (bare_where p)) (raw_in p)
raw_bare (Outside b) = refl
raw_bare (InHead d raw n) = refl
raw_bare (InBody d raw body e l) = refl

main_bare : (p : Where) (i : Item Terminal) (is : Items) → is_main (bare_where p) i is ≡ is_main p i is
main_bare (Outside b) i is = refl
main_bare (InHead d raw n) i is = refl
main_bare (InBody d raw body e l) i is = refl

defined_bare : (is : Items) (k : Known) (p : Where) → IsBare (defined (bare_known k) (bare_where p) (bare is)) (defined k p is)
unfolding defined
defined_bare [] k p = raw_bare p
defined_bare (i ∷ is) k p = step (defined_bare is) (is_directive i.terminal) refl
  where
    step : ((k : Known) (p : Where) → IsBare (defined (bare_known k) (bare_where p) (bare is)) (defined k p is)) → (b : Bool) →
        is_directive i.terminal ≡ b →
        IsBare (defined (bare_known k) (bare_where p) (bare (i ∷ is))) (defined k p (i ∷ is))
    step ih true e = rw e (line_bare k p i (λ k p. defined k p is) (λ k p. defined k p (bare is)) e ih)
    step ih false e =
        let main : Items = i ∷ called k.globals (map bare_of k.functions) false k.room 0 (bare is) in
        let go' : Onward = λ k p. defined k p (bare is) in
        rw e (rw e (ap (λ (js : Items). cond (is_main (bare_where p) i js) main (token_in (bare_known k) (bare_where p) i js go'))
        (same_bare is)
        ∙ ap (λ (b : Bool). cond b main (token_in (bare_known k) (bare_where p) i (bare is) go')) (main_bare p i (bare is))
        ∙ either (is_main p i (bare is)) _ _ _ _
        (one i _ _ e (called_bare is k.globals k.functions false k.room 0))
        (token_bare k p i (bare is) (λ k p. defined k p is) go' e ih)))

-- with constants worked out behind it
pub expanded_bare : ((is : Items) → IsBare (worked [] [] 0 (bare is)) (worked [] [] 0 is)) → (is : Items)
    → IsBare (expanded (bare is)) (expanded is)
expanded_bare worked_bare is =
    ap (λ (js : Items). cond (has_function js || is_static js)
    (worked [] [] 0 (defined nothing_known (Outside true) (bare is))) (bare is)) (same_bare is)
    ∙ either (has_function (bare is) || is_static (bare is)) _ _ _ _
    (ap (worked [] [] 0) (defined_bare is nothing_known (Outside true)) ∙ worked_bare (defined nothing_known (Outside true) is))
    refl
