-- Calls of functions are expanded without a look at directive lines.
use Rattle.std.proofs.Common.{◌≡◌, ℕ, zero, suc, ◌+◌, ◌-◌, Bool, true, false, cond, [], ◌∷◌, ◌++◌, length, map, take, drop, Option, Some, None, refl, sym, ap, ap₂, ◌∙◌}
use Rattle.std.specs.Prelude.{◌&&◌, ◌||◌, not, nat_lt}
use Rattle.std.specs.Option.{option_map}
use Rattle.c_tokens.specs.declared.kind.Sign.TheVariants as sign
use Rattle.c_grammar.specs.Lexeme.{Uint64}
use Rattle.c_grammar.specs.Terminal.{Terminal, Fixed, Mark, Name, Num, Line, Unknown, Unworked, End, same}
use Rattle.c_grammar.specs.Texts.{Item}
use Rattle.c_grammar.specs.Blocks.{Items, is_directive, bare, at}
use Rattle.c_grammar.specs.Changes.{is_mark, is_boundary}
use Rattle.c_grammar.specs.Constants.{Names, is_name}
use Rattle.c_grammar.specs.Functions.{Arguments, Expanded, Front, Function, Functions, Passed, alone, arguments, assigned_call, back_len, before_call, block_of, call, called, declaration, declared_call, expanded_at, expanded_by, expanded_of, expanded_to, expanded_with, expansion, first_some, function_of, given, given_call, has_value, in_room, in_value, later, left_len, passed_to, put_all, statement_on, stays, valued_call}
use Rattle.c_grammar.proofs.BareTokens.{IsPlain, ArePlain, IsBare, either, one, some, plain_bare, same_bare, bare_both, plain_kept}
use Rattle.c_grammar.proofs.BarePassed.{AllPlain, ArgumentsPlain, PassedPlain, arguments_plain, bare_expanded, bare_of, found_bare, passed_to_plain, put_bare}

-- what stands before a call
abbrev IsPlainFront : Front → Type 0
IsPlainFront f = ArePlain f.left × ArePlain f.value

in_value_bare : (i : Item Terminal) (front value back : Items) → ArePlain front → ArePlain back
    → IsBare (in_value i front (bare value) back) (in_value i front value back)
in_value_bare i front value back h k =
    let first : Item Terminal = at i (Mark sign.OpenParen) in
    let rest : Items = at i (Mark sign.CloseParen) ∷ back in
    either (has_value front || has_value back) (front ++ (first ∷ (value ++ rest))) value
    (front ++ (first ∷ (bare value ++ rest))) (bare value)
    (some front (first ∷ (value ++ rest)) (first ∷ (bare value ++ rest)) h
    (ap (λ (v : Items). first ∷ v)
    (ap (λ (v : Items). bare value ++ v) (sym (plain_kept rest (refl, k))) ∙ sym (bare_both value rest)))) refl

given_bare : (i : Item Terminal) (f : Front) (value back : Items) → IsPlainFront f → ArePlain back
    → IsBare (given i f (bare value) back) (given i f value back)
given_bare i f value back h k =
    let end : Items = at i (Mark sign.Semicolon) ∷ [] in
    let new : Items = in_value i f.value value back in
    let seen : Items = in_value i f.value (bare value) back in
    either (has_value f.left) (f.left ++ (new ++ end)) [] (f.left ++ (seen ++ end)) []
    (some f.left (new ++ end) (seen ++ end) h.0
    (ap (λ (v : Items). v ++ end) (in_value_bare i f.value value back h.1 k) ∙ sym (bare_both new end))) refl

block_bare : (f : Function) (i : Item Terminal) (front : Front) (back : Items) (p : Passed) → IsPlainFront front
    → ArePlain back → ArePlain p.before → IsBare (block_of (bare_of f) i front back p) (block_of f i front back p)
block_bare f i front back p h b k =
    let value : Items = put_all p.puts stays f.value in
    let close : Items = at i (Mark sign.CloseBrace) ∷ [] in
    let body : Items = put_all p.puts stays f.body in
    ap (λ (v : Items). at i (Mark sign.OpenBrace) ∷ v) (some p.before (body ++ (given i front value back ++ close)) _ k
    (ap₂ (λ (b v : Items). b ++ (given i front v back ++ close)) (put_bare p.puts stays f.body)
    (put_bare p.puts stays f.value)
    ∙ ap (λ (v : Items). bare body ++ (v ++ close)) (given_bare i front value back h b)
    ∙ ap (λ (v : Items). bare body ++ v) (sym (bare_both (given i front value back) close))
    ∙ sym (bare_both body (given i front value back ++ close))))

abbrev Bares : Option Expanded → Option Expanded → Type 0
Bares o' o = o' ≡ option_map bare_expanded o

either_expanded : (b : Bool) (x y x' y' : Option Expanded) → Bares x' x → Bares y' y → Bares (cond b x' y') (cond b x y)
either_expanded true x y x' y' h k = h
either_expanded false x y x' y' h k = k

pub take_plain : (n : ℕ) (is : Items) → ArePlain is → ArePlain (take n is)
take_plain zero is h = tt
take_plain (suc n) [] h = tt
take_plain (suc n) (i ∷ is) h = (h.0, take_plain n is h.1)

pub drop_plain : (n : ℕ) (is : Items) → ArePlain is → ArePlain (drop n is)
drop_plain zero is h = h
drop_plain (suc n) [] h = tt
drop_plain (suc n) (i ∷ is) h = drop_plain n is h.1

by_bare : (f : Function) (i : Item Terminal) (front : Front) (back : Items) (len : ℕ) (o : Option Passed)
    → IsPlainFront front → ArePlain back → PassedPlain o
    → Bares (expanded_by (bare_of f) i front back len o) (expanded_by f i front back len o)
by_bare f i front back len None h b k = refl
by_bare f i front back len (Some p) h b k =
    ap (λ (is : Items). Some (record { len = len; items = is })) (block_bare f i front back p h b k)

to_bare : (globals : Names) (f : Function) (i : Item Terminal) (front : Front) (is : Items)
    (a : Arguments) (o : Option ℕ)
    → IsPlainFront front → ArePlain is → AllPlain a.list
    → Bares (expanded_to globals (bare_of f) i front is a o) (expanded_to globals f i front is a o)
to_bare globals f i front is a None h b k = refl
to_bare globals f i front is a (Some n) h b k =
    by_bare f i front (take n (drop a.len is)) (a.len + 3 + n) (passed_to globals f.parameters a.list) h
    (take_plain n (drop a.len is) (drop_plain a.len is b)) (passed_to_plain globals f.parameters a.list k)

with_bare : (globals : Names) (f : Function) (i : Item Terminal) (front : Front) (is : Items) (o : Option Arguments)
    → IsPlainFront front → ArePlain is → ArgumentsPlain o
    → Bares (expanded_with globals (bare_of f) i front is o) (expanded_with globals f i front is o)
with_bare globals f i front is None h b k = refl
with_bare globals f i front is (Some a) h b k = to_bare globals f i front is a (back_len front (drop a.len is)) h b k

of_bare : (globals : Names) (o : Option Function) (i : Item Terminal) (front : Front) (is : Items) → IsPlainFront front
    → ArePlain is → Bares (expanded_of globals (option_map bare_of o) i front is) (expanded_of globals o i front is)
of_bare globals None i front is h k = refl
of_bare globals (Some f) i front is h k =
    ap (λ (v : Items). cond (has_value front.left && not (has_value v)) None
    (expanded_with globals (bare_of f) i front is (arguments 0 [] [] 0 is))) (same_bare f.value)
    ∙ either_expanded (has_value front.left && not (has_value (bare f.value))) None _ None _ refl
    (with_bare globals f i front is (arguments 0 [] [] 0 is) h k (arguments_plain is 0 [] [] 0 k tt tt))

at_bare : (globals : Names) (fs : Functions) (t : Terminal) (i : Item Terminal) (front : Front) (is : Items)
    → IsPlainFront front → ArePlain is
    → Bares (expanded_at globals (map bare_of fs) t i front is) (expanded_at globals fs t i front is)
at_bare globals fs (Name x) i front is h k =
    ap (λ (o : Option Function). expanded_of globals o i front is) (found_bare fs x)
    ∙ of_bare globals (function_of fs x) i front is h k
at_bare globals fs (Fixed w) i front is h k = refl
at_bare globals fs (Mark s) i front is h k = refl
at_bare globals fs (Num n) i front is h k = refl
at_bare globals fs (Line ts) i front is h k = refl
at_bare globals fs Unknown i front is h k = refl
at_bare globals fs Unworked i front is h k = refl
at_bare globals fs End i front is h k = refl

call_bare : (globals : Names) (fs : Functions) (front : Front) (is : Items) → IsPlainFront front → ArePlain is
    → Bares (call globals (map bare_of fs) front is) (call globals fs front is)
call_bare globals fs front [] h k = refl
call_bare globals fs front (i ∷ []) h k = refl
call_bare globals fs front (i ∷ o ∷ is) h k =
    either_expanded (is_mark sign.OpenParen o) _ None _ None (at_bare globals fs i.terminal i front is h k.1.1) refl

later_bare : (k : ℕ) (before : Items) (o' o : Option Expanded) → ArePlain before → Bares o' o
    → Bares (later k before o') (later k before o)
later_bare k before o' None h e = ap (later k before) e
later_bare k before o' (Some x) h e =
    ap (later k before) e
    ∙ ap (λ (is : Items). Some (record { len = k + x.len; items = is })) (some before x.items (bare x.items) h refl)

first_call_bare : (globals : Names) (fs : Functions) (left is : Items) (o : Option ℕ) → ArePlain left → ArePlain is
    → Bares (given_call globals (map bare_of fs) left is o) (given_call globals fs left is o)
first_call_bare globals fs left is None h k = refl
first_call_bare globals fs left is (Some n) h k =
    let front : Front = record { left = left; value = take n is } in
    later_bare n [] _ (call globals fs front (drop n is)) tt
    (call_bare globals fs front (drop n is) (h, take_plain n is k) (drop_plain n is k))

valued_bare : (globals : Names) (fs : Functions) (left is : Items) → ArePlain left → ArePlain is
    → Bares (valued_call globals (map bare_of fs) left is) (valued_call globals fs left is)
valued_bare globals fs left is h k = first_call_bare globals fs left is (before_call 0 is) h k

assigned_bare : (globals : Names) (fs : Functions) (is : Items) (o : Option ℕ) → ArePlain is
    → Bares (assigned_call globals (map bare_of fs) is o) (assigned_call globals fs is o)
assigned_bare globals fs is None h = refl
assigned_bare globals fs is (Some k) h =
    let left : Items = take (k + 1) is in
    let value : Items = drop (k + 1) is in
    later_bare (k + 1) [] _ (valued_call globals fs left value) tt
    (valued_bare globals fs left value (take_plain (k + 1) is h) (drop_plain (k + 1) is h))

declared_bare : (globals : Names) (fs : Functions) (is : Items) → ArePlain is
    → Bares (declared_call globals (map bare_of fs) is) (declared_call globals fs is)
declared_bare globals fs [] h = refl
declared_bare globals fs (t ∷ []) h = refl
declared_bare globals fs (t ∷ x ∷ []) h = refl
declared_bare globals fs (t ∷ x ∷ e ∷ is) h =
    either_expanded (same (Fixed Uint64) t.terminal && is_name x.terminal && is_mark sign.Equal e) _ None _ None
    (later_bare 3 (declaration t x) _ (valued_call globals fs (x ∷ e ∷ []) is)
    (h.0, (h.1.0, (refl, (refl, (refl, tt)))))
    (valued_bare globals fs (x ∷ e ∷ []) is (h.1.0, (h.1.1.0, tt)) h.1.1.1)) refl

first_bare : (o' o p' p : Option Expanded) → Bares o' o → Bares p' p → Bares (first_some o' p') (first_some o p)
first_bare o' None p' p e f = ap (λ (v : Option Expanded). first_some v p') e ∙ f
first_bare o' (Some x) p' p e f = ap (λ (v : Option Expanded). first_some v p') e

expansion_bare : (globals : Names) (fs : Functions) (is : Items) → ArePlain is
    → Bares (expansion globals (map bare_of fs) is) (expansion globals fs is)
expansion_bare globals fs is h =
    first_bare _ (call globals fs alone is) _ _ (call_bare globals fs alone is (tt, tt) h)
    (first_bare _ (declared_call globals fs is) _ _ (declared_bare globals fs is h)
    (assigned_bare globals fs is (left_len is) h))

-- ---- statements

abbrev Statements : Type 0
Statements = Bool → ℕ → ℕ → Items

abbrev StatementsBare : Statements → Statements → Type 0
StatementsBare go' go = (b : Bool) (r k : ℕ) → IsBare (go' b r k) (go b r k)

room_bare : (i : Item Terminal) (room : ℕ) (o : Option Expanded) (go go' : Statements) → IsPlain i → StatementsBare go' go
    → IsBare (in_room i room (option_map bare_expanded o) go') (in_room i room o go)
room_bare i room None go go' h r = one i _ _ h (r _ _ _)
room_bare i room (Some e) go go' h r =
    ap (λ (v : Items). cond (nat_lt (length v) room) (bare e.items ++ go' true (room - length v) (e.len - 1))
    (i ∷ go' (is_boundary i.terminal) room 0)) (same_bare e.items)
    ∙ either (nat_lt (length (bare e.items)) room) _ _ _ _
    (ap (λ (v : Items). bare e.items ++ v) (r true (room - length (bare e.items)) (e.len - 1))
    ∙ sym (bare_both e.items (go true (room - length (bare e.items)) (e.len - 1))))
    (one i _ _ h (r _ _ _))

begun_bare : (b : Bool) (o' o : Option Expanded) → Bares o' o → Bares (cond b o' None) (cond b o None)
begun_bare true o' o e = e
begun_bare false o' o e = refl

statement_bare : (globals : Names) (fs : Functions) (b : Bool) (room k : ℕ) (i : Item Terminal) (is : Items)
    (go go' : Statements) → IsPlain i → ArePlain is → StatementsBare go' go
    → IsBare (statement_on globals (map bare_of fs) b room k i is go') (statement_on globals fs b room k i is go)
statement_bare globals fs b room (suc k) i is go go' h p r = r _ _ _
statement_bare globals fs b room zero i is go go' h p r =
    ap (λ (o : Option Expanded). in_room i room o go')
    (begun_bare b _ (expansion globals fs (i ∷ is)) (expansion_bare globals fs (i ∷ is) (h, p)))
    ∙ room_bare i room (cond b (expansion globals fs (i ∷ is)) None) go go' h r

pub called_bare : (is : Items) (globals : Names) (fs : Functions) (b : Bool) (room k : ℕ)
    → IsBare (called globals (map bare_of fs) b room k (bare is)) (called globals fs b room k is)
unfolding called
called_bare [] globals fs b room k = refl
called_bare (i ∷ is) globals fs b room k = step (called_bare is) (is_directive i.terminal) refl
  where
    step : ((globals : Names) (fs : Functions) (b : Bool) (room k : ℕ) →
        IsBare (called globals (map bare_of fs) b room k (bare is)) (called globals fs b room k is)) → (t : Bool) →
        is_directive i.terminal ≡ t →
        IsBare (called globals (map bare_of fs) b room k (bare (i ∷ is))) (called globals fs b room k (i ∷ is))
    step ih true e = rw e (rw e (ih globals fs b room k))
    step ih false e =
        rw e (rw e (ap (λ (js : Items). statement_on globals (map bare_of fs) b room k i js
        (λ b r k. called globals (map bare_of fs) b r k (bare is))) (same_bare is)
        ∙ statement_bare globals fs b room k i (bare is) (λ b r k. called globals fs b r k is)
        (λ b r k. called globals (map bare_of fs) b r k (bare is)) e (plain_bare is) (λ b r k. ih globals fs b r k)))
