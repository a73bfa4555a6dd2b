-- Calls of functions are expanded without a look at the lines of the tokens.
use Rattle.std.proofs.Common.{◌≡◌, ℕ, zero, suc, ◌+◌, ◌-◌, Bool, true, false, cond, List, [], ◌∷◌, ◌++◌, length, map, take, drop, Option, Some, None, refl, ap, ap₂, ◌∙◌}
use Rattle.std.specs.Prelude.{◌&&◌, ◌||◌, not, nat_lt}
use Rattle.std.specs.Option.{option_map}
use Rattle.std.specs.Str.{bytes_eq}
use Rattle.c_tokens.specs.declared.kind.Sign.TheVariants as sign
use Rattle.c_grammar.specs.Lexeme.{Uint64}
use Rattle.c_grammar.specs.Terminal.{Terminal, Fixed, Mark, Name, Num, Line, Unknown, Unworked, End, same}
use Rattle.c_grammar.specs.Texts.{Item}
use Rattle.c_grammar.specs.Blocks.{Items, is_directive, bare, at}
use Rattle.c_grammar.specs.Changes.{is_mark, is_boundary}
use Rattle.c_grammar.specs.Choices.{is_setting}
use Rattle.c_grammar.specs.Constants.{Names, is_name}
use Rattle.c_grammar.specs.Functions.{Arguments, Expanded, Front, Function, Functions, Passed, Statements, alone, arguments, assigned_call, back_len, before_call, behind_call, block_of, call, called, declaration, declared_call, ends_here, equal_behind, expanded_at, expanded_by, expanded_of, expanded_to, expanded_with, expansion, first_some, function_of, given, given_call, has_value, in_room, in_value, index_len, index_on, index_out, is_beside, later, left_len, opens_call, passed_to, put_all, statement_on, stays, valued_call}
use Rattle.same_text.specs.Laws.{unlined}
use Rattle.same_text.proofs.Unlined.{all_unlined, AreUnlined, either, one, some, bare_unlined}
use Rattle.same_text.proofs.UnlinedPassed.{arguments_same, arguments_unlined, bare_value, drop_unlined, has_unlined, length_unlined, passed_to_same, passed_unlined, picked, put_unlined, take_unlined}

-- a function, what stands before a call, and what the call is, without lines
abbrev pub function_unlined : Function → Function
function_unlined f =
    record { name = f.name; parameters = f.parameters; body = all_unlined f.body; value = all_unlined f.value }

abbrev front_unlined : Front → Front
front_unlined f = record { left = all_unlined f.left; value = all_unlined f.value }

abbrev expanded_unlined : Expanded → Expanded
expanded_unlined e = record { len = e.len; items = all_unlined e.items }

-- ---- a call

in_value_same : (i : Item Terminal) (front value back : Items) →
    AreUnlined (in_value (unlined i) (all_unlined front) (all_unlined value) (all_unlined back))
    (in_value i front value back)
in_value_same i front value back =
    let first : Item Terminal = at i (Mark sign.OpenParen) in
    let rest : Items = at i (Mark sign.CloseParen) ∷ back in
    either (has_value front || has_value back) _ (front ++ (first ∷ (value ++ rest))) value _ (all_unlined value)
    (ap₂ (λ (b c : Bool). b || c) (has_unlined front) (has_unlined back))
    (some front (all_unlined front) (first ∷ (value ++ rest)) _ refl
    (one first (value ++ rest) _ (some value (all_unlined value) rest (all_unlined rest) refl refl))) refl

given_same : (i : Item Terminal) (f : Front) (value back : Items) →
    AreUnlined (given (unlined i) (front_unlined f) (all_unlined value) (all_unlined back)) (given i f value back)
given_same i f value back =
    let end : Items = at i (Mark sign.Semicolon) ∷ [] in
    let new : Items = in_value i f.value value back in
    either (has_value f.left) _ (f.left ++ (new ++ end)) [] _ [] (has_unlined f.left)
    (some f.left (all_unlined f.left) (new ++ end) _ refl
    (some new _ end (all_unlined end) (in_value_same i f.value value back) refl)) refl

block_same : (f : Function) (i : Item Terminal) (front : Front) (back : Items) (p : Passed) →
    AreUnlined (block_of (function_unlined f) (unlined i) (front_unlined front) (all_unlined back) (passed_unlined p))
    (block_of f i front back p)
block_same f i front back p =
    let close : Items = at i (Mark sign.CloseBrace) ∷ [] in
    let body : Items = put_all p.puts stays f.body in
    let value : Items = put_all p.puts stays f.value in
    one (at i (Mark sign.OpenBrace)) _ _
    (some p.before (all_unlined p.before) (body ++ (given i front value back ++ close)) _ refl
    (some body _ (given i front value back ++ close) _ (put_unlined p.puts stays f.body)
    (some (given i front value back) _ close _
    (ap (λ (v : Items). given (unlined i) (front_unlined front) v (all_unlined back))
    (put_unlined p.puts stays f.value)
    ∙ given_same i front value back) refl)))

abbrev ExpandsSame : Option Expanded → Option Expanded → Type 0
ExpandsSame o' o = o' ≡ option_map expanded_unlined o

by_same : (f : Function) (i : Item Terminal) (front : Front) (back : Items) (len : ℕ) (o : Option Passed) →
    ExpandsSame
    (expanded_by (function_unlined f) (unlined i) (front_unlined front) (all_unlined back) len
    (option_map passed_unlined o))
    (expanded_by f i front back len o)
by_same f i front back len None = refl
by_same f i front back len (Some p) =
    ap (λ (is : Items). Some (record { len = len; items = is })) (block_same f i front back p)

to_same : (globals : Names) (f : Function) (i : Item Terminal) (front : Front) (is : Items) (a : Arguments)
    (o : Option ℕ) →
    ExpandsSame
    (expanded_to globals (function_unlined f) (unlined i) (front_unlined front) (all_unlined is)
    (arguments_unlined a) o)
    (expanded_to globals f i front is a o)
to_same globals f i front is a None = refl
to_same globals f i front is a (Some n) =
    ap₂
    (λ (v : Items) (o : Option Passed).
    expanded_by (function_unlined f) (unlined i) (front_unlined front) v (a.len + 3 + n) o)
    (ap (take n) (drop_unlined a.len is) ∙ take_unlined n (drop a.len is)) (passed_to_same globals f.parameters a.list)
    ∙ by_same f i front (take n (drop a.len is)) (a.len + 3 + n) (passed_to globals f.parameters a.list)

-- what stands before a call, and behind it

opens_same : (i : Item Terminal) (is : Items) → opens_call (unlined i) (all_unlined is) ≡ opens_call i is
opens_same i [] = refl
opens_same i (j ∷ is) = refl

before_same : (is : Items) (n : ℕ) → before_call n (all_unlined is) ≡ before_call n is
before_same [] n = refl
before_same (i ∷ is) n =
    ap₂ (λ (b : Bool) (o : Option ℕ). cond b (Some n) (cond (is_beside i.terminal) o None)) (opens_same i is)
    (before_same is (n + 1))

behind_same : (is : Items) (n : ℕ) → behind_call n (all_unlined is) ≡ behind_call n is
behind_same [] n = refl
behind_same (i ∷ is) n =
    ap₂ (λ (b : Bool) (o : Option ℕ). cond (is_mark sign.Semicolon i) (Some n)
    (cond (is_beside i.terminal && not b) o None))
    (opens_same i is) (behind_same is (n + 1))

ends_unlined : (is : Items) → ends_here (all_unlined is) ≡ ends_here is
ends_unlined [] = refl
ends_unlined (i ∷ is) = refl

back_same : (f : Front) (is : Items) → back_len (front_unlined f) (all_unlined is) ≡ back_len f is
back_same f is =
    ap₂ (λ (b : Bool) (o : Option ℕ). cond b o (cond (ends_here (all_unlined is)) (Some 0) None)) (has_unlined f.left)
    (behind_same is 0)
    ∙ ap (λ (b : Bool). cond (has_value f.left) (behind_call 0 is) (cond b (Some 0) None)) (ends_unlined is)

with_same : (globals : Names) (f : Function) (i : Item Terminal) (front : Front) (is : Items) (o : Option Arguments) →
    ExpandsSame
    (expanded_with globals (function_unlined f) (unlined i) (front_unlined front) (all_unlined is)
    (option_map arguments_unlined o))
    (expanded_with globals f i front is o)
with_same globals f i front is None = refl
with_same globals f i front is (Some a) =
    ap (expanded_to globals (function_unlined f) (unlined i) (front_unlined front) (all_unlined is)
    (arguments_unlined a))
    (ap (back_len (front_unlined front)) (drop_unlined a.len is) ∙ back_same front (drop a.len is))
    ∙ to_same globals f i front is a (back_len front (drop a.len is))

of_same : (globals : Names) (o : Option Function) (i : Item Terminal) (front : Front) (is : Items) →
    ExpandsSame
    (expanded_of globals (option_map function_unlined o) (unlined i) (front_unlined front) (all_unlined is))
    (expanded_of globals o i front is)
of_same globals None i front is = refl
of_same globals (Some f) i front is =
    let w : Option Arguments → Option Expanded =
    expanded_with globals (function_unlined f) (unlined i) (front_unlined front) (all_unlined is) in
    ap₂ (λ (b c : Bool). cond (b && not c) None (w (arguments 0 [] [] 0 (all_unlined is)))) (has_unlined front.left)
    (bare_value f.value)
    ∙ picked expanded_unlined (has_value front.left && not (has_value (bare f.value))) _ _ _ _ refl
    (ap w (arguments_same is 0 [] [] 0) ∙ with_same globals f i front is (arguments 0 [] [] 0 is))

found_same : (fs : Functions) (x : List ℕ) →
    function_of (map function_unlined fs) x ≡ option_map function_unlined (function_of fs x)
found_same [] x = refl
found_same (f ∷ fs) x = picked function_unlined (bytes_eq f.name x) _ _ _ _ refl (found_same fs x)

at_same : (globals : Names) (fs : Functions) (t : Terminal) (i : Item Terminal) (front : Front) (is : Items) →
    ExpandsSame (expanded_at globals (map function_unlined fs) t (unlined i) (front_unlined front) (all_unlined is))
    (expanded_at globals fs t i front is)
at_same globals fs (Name x) i front is =
    ap (λ (o : Option Function). expanded_of globals o (unlined i) (front_unlined front) (all_unlined is))
    (found_same fs x)
    ∙ of_same globals (function_of fs x) i front is
at_same globals fs (Fixed w) i front is = refl
at_same globals fs (Mark s) i front is = refl
at_same globals fs (Num n) i front is = refl
at_same globals fs (Line ts) i front is = refl
at_same globals fs Unknown i front is = refl
at_same globals fs Unworked i front is = refl
at_same globals fs End i front is = refl

call_same : (globals : Names) (fs : Functions) (front : Front) (is : Items) →
    ExpandsSame (call globals (map function_unlined fs) (front_unlined front) (all_unlined is))
    (call globals fs front is)
call_same globals fs front [] = refl
call_same globals fs front (i ∷ []) = refl
call_same globals fs front (i ∷ o ∷ is) =
    picked expanded_unlined (is_mark sign.OpenParen o) _ _ _ _ (at_same globals fs i.terminal i front is) refl

-- ---- what is given a value

pub index_same : (is : Items) (depth k : ℕ) → index_len depth k (all_unlined is) ≡ index_len depth k is
unfolding index_len
index_same [] depth k = refl
index_same (i ∷ is) depth k = on (λ d. index_same is d (k + 1))
  where
    on : ((d : ℕ) → index_len d (k + 1) (all_unlined is) ≡ index_len d (k + 1) is) →
        index_on depth (k + 1) (unlined i) (λ d. index_len d (k + 1) (all_unlined is))
        ≡ index_on depth (k + 1) i (λ d. index_len d (k + 1) is)
    on ih =
        let out : ℕ → Option ℕ = λ d. index_len d (k + 1) (all_unlined is) in
        ap₂
        (λ (x y : Option ℕ). cond (is_boundary i.terminal) None
        (cond (is_mark sign.OpenBracket i) x (cond (is_mark sign.CloseBracket i) (index_out depth (k + 1) out) y)))
        (ih (depth + 1)) (ih depth)
        ∙ ap
        (λ (x : Option ℕ). cond (is_boundary i.terminal) None
        (cond (is_mark sign.OpenBracket i) (index_len (depth + 1) (k + 1) is)
        (cond (is_mark sign.CloseBracket i) x (index_len depth (k + 1) is))))
        (closing depth)
      where
        closing : (d : ℕ) → index_out d (k + 1) (λ d. index_len d (k + 1) (all_unlined is))
            ≡ index_out d (k + 1) (λ d. index_len d (k + 1) is)
        closing zero = refl
        closing (suc zero) = refl
        closing (suc (suc d)) = ih (suc d)

equal_same : (is : Items) (o : Option ℕ) → equal_behind (all_unlined is) o ≡ equal_behind is o
equal_same is None = refl
equal_same is (Some k) = go (drop k is) (drop k (all_unlined is)) (drop_unlined k is)
  where
    ends : Items → Option ℕ
    ends [] = None
    ends (e ∷ es) = cond (is_setting e.terminal) (Some (k + 1)) None

    same_ends : (js : Items) → ends (all_unlined js) ≡ ends js
    same_ends [] = refl
    same_ends (e ∷ es) = refl

    go : (js js' : Items) → AreUnlined js' js → ends js' ≡ ends js
    go js js' e = ap ends e ∙ same_ends js

left_same : (is : Items) → left_len (all_unlined is) ≡ left_len is
left_same [] = refl
left_same (i ∷ []) = refl
left_same (i ∷ j ∷ is) =
    ap
    (λ (o : Option ℕ). cond (not (is_name i.terminal)) None
    (cond (is_setting j.terminal) (Some 1) (cond (is_mark sign.OpenBracket j) o None)))
    (ap (equal_behind (all_unlined (j ∷ is))) (index_same (j ∷ is) 0 0) ∙ equal_same (j ∷ is) (index_len 0 0 (j ∷ is)))

later_same : (k : ℕ) (before : Items) (o : Option Expanded) →
    ExpandsSame (later k (all_unlined before) (option_map expanded_unlined o)) (later k before o)
later_same k before None = refl
later_same k before (Some e) =
    ap (λ (is : Items). Some (record { len = k + e.len; items = is }))
    (some before (all_unlined before) e.items (all_unlined e.items) refl refl)

first_call_same : (globals : Names) (fs : Functions) (left is : Items) (o : Option ℕ) →
    ExpandsSame (given_call globals (map function_unlined fs) (all_unlined left) (all_unlined is) o)
    (given_call globals fs left is o)
first_call_same globals fs left is None = refl
first_call_same globals fs left is (Some n) =
    let front : Front = record { left = left; value = take n is } in
    ap (later n [])
    (ap₂ (λ (v w : Items). call globals (map function_unlined fs) (record { left = all_unlined left; value = v }) w)
    (take_unlined n is) (drop_unlined n is)
    ∙ call_same globals fs front (drop n is))
    ∙ later_same n [] (call globals fs front (drop n is))

valued_same : (globals : Names) (fs : Functions) (left is : Items) →
    ExpandsSame (valued_call globals (map function_unlined fs) (all_unlined left) (all_unlined is))
    (valued_call globals fs left is)
valued_same globals fs left is =
    ap (given_call globals (map function_unlined fs) (all_unlined left) (all_unlined is)) (before_same is 0)
    ∙ first_call_same globals fs left is (before_call 0 is)

assigned_same : (globals : Names) (fs : Functions) (is : Items) (o : Option ℕ) →
    ExpandsSame (assigned_call globals (map function_unlined fs) (all_unlined is) o) (assigned_call globals fs is o)
assigned_same globals fs is None = refl
assigned_same globals fs is (Some k) =
    let left : Items = take (k + 1) is in
    let value : Items = drop (k + 1) is in
    ap (later (k + 1) [])
    (ap₂ (valued_call globals (map function_unlined fs)) (take_unlined (k + 1) is) (drop_unlined (k + 1) is)
    ∙ valued_same globals fs left value)
    ∙ later_same (k + 1) [] (valued_call globals fs left value)

declared_same : (globals : Names) (fs : Functions) (is : Items) →
    ExpandsSame (declared_call globals (map function_unlined fs) (all_unlined is)) (declared_call globals fs is)
declared_same globals fs [] = refl
declared_same globals fs (t ∷ []) = refl
declared_same globals fs (t ∷ x ∷ []) = refl
declared_same globals fs (t ∷ x ∷ e ∷ is) =
    picked expanded_unlined (same (Fixed Uint64) t.terminal && is_name x.terminal && is_mark sign.Equal e) _ _ _ _
    (ap (later 3 (declaration (unlined t) (unlined x))) (valued_same globals fs (x ∷ e ∷ []) is)
    ∙ later_same 3 (declaration t x) (valued_call globals fs (x ∷ e ∷ []) is)) refl

first_same : (o p : Option Expanded) →
    ExpandsSame (first_some (option_map expanded_unlined o) (option_map expanded_unlined p)) (first_some o p)
first_same None p = refl
first_same (Some e) p = refl

expansion_same : (globals : Names) (fs : Functions) (is : Items) →
    ExpandsSame (expansion globals (map function_unlined fs) (all_unlined is)) (expansion globals fs is)
expansion_same globals fs is =
    let c : Option Expanded = call globals fs alone is in
    let d : Option Expanded = declared_call globals fs is in
    let a : Option Expanded = assigned_call globals fs is (left_len is) in
    ap₂ first_some (call_same globals fs alone is)
    (ap₂ first_some (declared_same globals fs is)
    (ap (assigned_call globals (map function_unlined fs) (all_unlined is)) (left_same is)
    ∙ assigned_same globals fs is (left_len is))
    ∙ first_same d a)
    ∙ first_same c (first_some d a)

-- ---- statements with their calls

abbrev GoesSame : Statements → Statements → Type 0
GoesSame go' go = (b : Bool) (room k : ℕ) → AreUnlined (go' b room k) (go b room k)

room_same : (i : Item Terminal) (room : ℕ) (o : Option Expanded) (go go' : Statements) → GoesSame go' go →
    AreUnlined (in_room (unlined i) room (option_map expanded_unlined o) go') (in_room i room o go)
room_same i room None go go' r = one i _ _ (r (is_boundary i.terminal) room 0)
room_same i room (Some e) go go' r =
    ap
    (λ (n : ℕ). cond (nat_lt n room) (all_unlined e.items ++ go' true (room - n) (e.len - 1))
    (unlined i ∷ go' (is_boundary i.terminal) room 0))
    (ap length (bare_unlined e.items) ∙ length_unlined (bare e.items))
    ∙ either (nat_lt (length (bare e.items)) room) _ _ _ _ _ refl
    (some e.items (all_unlined e.items) _ _ refl (r true (room - length (bare e.items)) (e.len - 1)))
    (one i _ _ (r (is_boundary i.terminal) room 0))

begun_same : (b : Bool) (o' o : Option Expanded) → ExpandsSame o' o → ExpandsSame (cond b o' None) (cond b o None)
begun_same b o' o e = picked expanded_unlined b o None o' None e refl

statement_same : (globals : Names) (fs : Functions) (b : Bool) (room k : ℕ) (i : Item Terminal) (is : Items)
    (go go' : Statements) → GoesSame go' go →
    AreUnlined (statement_on globals (map function_unlined fs) b room k (unlined i) (all_unlined is) go')
    (statement_on globals fs b room k i is go)
statement_same globals fs b room (suc k) i is go go' r = r b room k
statement_same globals fs b room zero i is go go' r =
    ap (λ (o : Option Expanded). in_room (unlined i) room o go')
    (begun_same b _ (expansion globals fs (i ∷ is)) (expansion_same globals fs (i ∷ is)))
    ∙ room_same i room (cond b (expansion globals fs (i ∷ is)) None) go go' r

pub called_unlined : (is : Items) (globals : Names) (fs : Functions) (b : Bool) (room k : ℕ) →
    AreUnlined (called globals (map function_unlined fs) b room k (all_unlined is)) (called globals fs b room k is)
unfolding called
called_unlined [] globals fs b room k = refl
called_unlined (i ∷ is) globals fs b room k =
    step (is_directive i.terminal) (λ b r k. called_unlined is globals fs b r k)
  where
    go : Statements
    go = λ b r k. called globals fs b r k is

    go' : Statements
    go' = λ b r k. called globals (map function_unlined fs) b r k (all_unlined is)

    step : (t : Bool) → GoesSame go' go →
        AreUnlined
        (cond t (unlined i ∷ go' b room k)
        (statement_on globals (map function_unlined fs) b room k (unlined i) (bare (all_unlined is)) go'))
        (cond t (i ∷ go b room k) (statement_on globals fs b room k i (bare is) go))
    step true ih = one i _ _ (ih b room k)
    step false ih =
        ap (λ (js : Items). statement_on globals (map function_unlined fs) b room k (unlined i) js go')
        (bare_unlined is)
        ∙ statement_same globals fs b room k i (bare is) go go' ih
