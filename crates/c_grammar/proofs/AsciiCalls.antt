-- Calls of functions keep all names ASCII.
use Rattle.std.proofs.Common.{ℕ, zero, suc, ◌+◌, Bool, true, false, cond, List, [], ◌∷◌, length, take, drop, Option, Some, None}
use Rattle.std.specs.Prelude.{◌&&◌, ◌||◌, not, nat_lt}
use Rattle.std.specs.Str.{bytes_eq}
use Rattle.c_tokens.specs.declared.kind.Sign.TheVariants as sign
use Rattle.c_grammar.specs.Lexeme.{Uint64}
use Rattle.c_grammar.specs.Terminal.{Terminal, Fixed, Mark, Name, Num, Line, Unknown, Unworked, End, same}
use Rattle.c_grammar.specs.Texts.{Item}
use Rattle.c_grammar.specs.Blocks.{Items, is_directive, bare}
use Rattle.c_grammar.specs.Changes.{is_mark}
use Rattle.c_grammar.specs.Constants.{Names, is_name}
use Rattle.c_grammar.specs.AsciiNames.{IsAsciiTerminal}
use Rattle.c_grammar.specs.Functions.{Arguments, Expanded, Front, Function, Functions, Passed, alone, arguments, assigned_call, back_len, before_call, block_of, call, called, declaration, declared_call, expanded_at, expanded_by, expanded_of, expanded_to, expanded_with, expansion, first_some, function_of, given, given_call, has_value, in_room, in_value, later, left_len, passed_to, put_all, statement_on, stays, valued_call}
use Rattle.c_grammar.proofs.AsciiTokens.{AreItemsText, chosen_text, both_text, bare_text}
use Rattle.c_grammar.proofs.AsciiPassed.{AllText, AreParametersText, ArePutsText, ArgumentsText, IsPassedText, arguments_text, passed_to_text, put_all_text, stays_text}

-- ---- functions

abbrev pub IsFunctionText : Function → Type 0
IsFunctionText f = AreParametersText f.parameters × (AreItemsText f.body × AreItemsText f.value)

abbrev pub AreFunctionsText : Functions → Type 0
AreFunctionsText [] = Unit {0}
AreFunctionsText (f ∷ fs) = IsFunctionText f × AreFunctionsText fs

-- what stands before a call
abbrev IsFrontText : Front → Type 0
IsFrontText f = AreItemsText f.left × AreItemsText f.value

in_value_text : (i : Item Terminal) (front value back : Items) → AreItemsText front → AreItemsText value
    → AreItemsText back
    → AreItemsText (in_value i front value back)
in_value_text i front value back h k b =
    chosen_text (has_value front || has_value back) _ _ (both_text front _ h (tt, both_text value _ k (tt, b))) k

given_text : (i : Item Terminal) (f : Front) (value back : Items) → IsFrontText f → AreItemsText value
    → AreItemsText back
    → AreItemsText (given i f value back)
given_text i f value back h k b =
    chosen_text (has_value f.left) _ _
    (both_text f.left _ h.0 (both_text (in_value i f.value value back) _
    (in_value_text i f.value value back h.1 k b) (tt, tt)))
    tt

block_text : (f : Function) (i : Item Terminal) (front : Front) (back : Items) (p : Passed) → IsFunctionText f
    → IsFrontText front → AreItemsText back → AreItemsText p.before → ArePutsText p.puts
    → AreItemsText (block_of f i front back p)
block_text f i front back p a h b k q = (
  tt,
  both_text p.before _ k (both_text (put_all p.puts stays f.body) _ (put_all_text p.puts stays f.body q stays_text a.1.0)
      (both_text (given i front (put_all p.puts stays f.value) back) _
      (given_text i front _ back h (put_all_text p.puts stays f.value q stays_text a.1.1) b) (tt, tt))),
)

abbrev IsExpandedText : Option Expanded → Type 0
IsExpandedText None = Unit {0}
IsExpandedText (Some e) = AreItemsText e.items

either_text : (b : Bool) (x y : Option Expanded) → IsExpandedText x → IsExpandedText y → IsExpandedText (cond b x y)
either_text true x y h k = h
either_text false x y h k = k

pub take_text : (n : ℕ) (is : Items) → AreItemsText is → AreItemsText (take n is)
take_text zero is h = tt
take_text (suc n) [] h = tt
take_text (suc n) (i ∷ is) h = (h.0, take_text n is h.1)

pub drop_text : (n : ℕ) (is : Items) → AreItemsText is → AreItemsText (drop n is)
drop_text zero is h = h
drop_text (suc n) [] h = tt
drop_text (suc n) (i ∷ is) h = drop_text n is h.1

by_text : (f : Function) (i : Item Terminal) (front : Front) (back : Items) (len : ℕ) (o : Option Passed)
    → IsFunctionText f
    → IsFrontText front → AreItemsText back → IsPassedText o → IsExpandedText (expanded_by f i front back len o)
by_text f i front back len None a h b k = tt
by_text f i front back len (Some p) a h b k = block_text f i front back p a h b k.0 k.1

to_text : (globals : Names) (f : Function) (i : Item Terminal) (front : Front) (is : Items)
    (g : Arguments) (o : Option ℕ)
    → IsFunctionText f → IsFrontText front → AreItemsText is → AllText g.list
    → IsExpandedText (expanded_to globals f i front is g o)
to_text globals f i front is g None a h b k = tt
to_text globals f i front is g (Some n) a h b k =
    by_text f i front (take n (drop g.len is)) (g.len + 3 + n) (passed_to globals f.parameters g.list) a h
    (take_text n (drop g.len is) (drop_text g.len is b)) (passed_to_text globals f.parameters g.list a.0 k)

with_text : (globals : Names) (f : Function) (i : Item Terminal) (front : Front) (is : Items) (o : Option Arguments)
    → IsFunctionText f → IsFrontText front → AreItemsText is → ArgumentsText o
    → IsExpandedText (expanded_with globals f i front is o)
with_text globals f i front is None a h b k = tt
with_text globals f i front is (Some g) a h b k =
    to_text globals f i front is g (back_len front (drop g.len is)) a h b k

abbrev IsSomeText : Option Function → Type 0
IsSomeText None = Unit {0}
IsSomeText (Some f) = IsFunctionText f

function_text : (fs : Functions) (x : List ℕ) → AreFunctionsText fs → IsSomeText (function_of fs x)
function_text [] x h = tt
function_text (f ∷ fs) x h = go (bytes_eq f.name x) (function_text fs x h.1)
  where
    go : (b : Bool) → IsSomeText (function_of fs x) → IsSomeText (cond b (Some f) (function_of fs x))
    go true k = h.0
    go false k = k

of_text : (globals : Names) (o : Option Function) (i : Item Terminal) (front : Front) (is : Items) → IsSomeText o
    → IsFrontText front → AreItemsText is → IsExpandedText (expanded_of globals o i front is)
of_text globals None i front is a h k = tt
of_text globals (Some f) i front is a h k =
    either_text (has_value front.left && not (has_value (bare f.value))) None _ tt
    (with_text globals f i front is (arguments 0 [] [] 0 is) a h k (arguments_text is 0 [] [] 0 k tt tt))

at_text : (globals : Names) (fs : Functions) (t : Terminal) (i : Item Terminal) (front : Front) (is : Items)
    → AreFunctionsText fs → IsFrontText front → AreItemsText is → IsExpandedText (expanded_at globals fs t i front is)
at_text globals fs (Name x) i front is a h k = of_text globals (function_of fs x) i front is (function_text fs x a) h k
at_text globals fs (Fixed w) i front is a h k = tt
at_text globals fs (Mark s) i front is a h k = tt
at_text globals fs (Num n) i front is a h k = tt
at_text globals fs (Line ts) i front is a h k = tt
at_text globals fs Unknown i front is a h k = tt
at_text globals fs Unworked i front is a h k = tt
at_text globals fs End i front is a h k = tt

call_text : (globals : Names) (fs : Functions) (front : Front) (is : Items) → AreFunctionsText fs → IsFrontText front
    → AreItemsText is → IsExpandedText (call globals fs front is)
call_text globals fs front [] a h k = tt
call_text globals fs front (i ∷ []) a h k = tt
call_text globals fs front (i ∷ o ∷ is) a h k =
    either_text (is_mark sign.OpenParen o) _ None (at_text globals fs i.terminal i front is a h k.1.1) tt

later_text : (k : ℕ) (before : Items) (o : Option Expanded) → AreItemsText before → IsExpandedText o
    → IsExpandedText (later k before o)
later_text k before None h q = tt
later_text k before (Some e) h q = both_text before e.items h q

first_call_text : (globals : Names) (fs : Functions) (left is : Items) (o : Option ℕ) → AreFunctionsText fs
    → AreItemsText left → AreItemsText is → IsExpandedText (given_call globals fs left is o)
first_call_text globals fs left is None a h k = tt
first_call_text globals fs left is (Some n) a h k =
    let front : Front = record { left = left; value = take n is } in
    later_text n [] (call globals fs front (drop n is)) tt
    (call_text globals fs front (drop n is) a (h, take_text n is k) (drop_text n is k))

valued_text : (globals : Names) (fs : Functions) (left is : Items) → AreFunctionsText fs → AreItemsText left
    → AreItemsText is → IsExpandedText (valued_call globals fs left is)
valued_text globals fs left is a h k = first_call_text globals fs left is (before_call 0 is) a h k

assigned_text : (globals : Names) (fs : Functions) (is : Items) (o : Option ℕ) → AreFunctionsText fs → AreItemsText is
    → IsExpandedText (assigned_call globals fs is o)
assigned_text globals fs is None a h = tt
assigned_text globals fs is (Some k) a h =
    let left : Items = take (k + 1) is in
    let value : Items = drop (k + 1) is in
    later_text (k + 1) [] (valued_call globals fs left value) tt
    (valued_text globals fs left value a (take_text (k + 1) is h) (drop_text (k + 1) is h))

declared_text : (globals : Names) (fs : Functions) (is : Items) → AreFunctionsText fs → AreItemsText is
    → IsExpandedText (declared_call globals fs is)
declared_text globals fs [] a h = tt
declared_text globals fs (t ∷ []) a h = tt
declared_text globals fs (t ∷ x ∷ []) a h = tt
declared_text globals fs (t ∷ x ∷ e ∷ is) a h =
    either_text (same (Fixed Uint64) t.terminal && is_name x.terminal && is_mark sign.Equal e) _ None
    (later_text 3 (declaration t x) (valued_call globals fs (x ∷ e ∷ []) is) (h.0, (h.1.0, (tt, (tt, (tt, tt)))))
    (valued_text globals fs (x ∷ e ∷ []) is a (h.1.0, (h.1.1.0, tt)) h.1.1.1)) tt

first_text : (o p : Option Expanded) → IsExpandedText o → IsExpandedText p → IsExpandedText (first_some o p)
first_text None p h k = k
first_text (Some e) p h k = h

expansion_text : (globals : Names) (fs : Functions) (is : Items) → AreFunctionsText fs → AreItemsText is
    → IsExpandedText (expansion globals fs is)
expansion_text globals fs is a h =
    first_text (call globals fs alone is) _ (call_text globals fs alone is a (tt, tt) h)
    (first_text (declared_call globals fs is) _ (declared_text globals fs is a h)
    (assigned_text globals fs is (left_len is) a h))

abbrev Statements : Type 0
Statements = Bool → ℕ → ℕ → Items

abbrev StatementsText : Statements → Type 0
StatementsText go = (b : Bool) (r k : ℕ) → AreItemsText (go b r k)

room_text : (i : Item Terminal) (room : ℕ) (o : Option Expanded) (go : Statements) → IsAsciiTerminal i.terminal
    → IsExpandedText o → StatementsText go → AreItemsText (in_room i room o go)
room_text i room None go h a r = (h, r _ _ _)
room_text i room (Some e) go h a r =
    chosen_text (nat_lt (length (bare e.items)) room) _ _ (both_text e.items _ a (r _ _ _)) (h, r _ _ _)

statement_text : (globals : Names) (fs : Functions) (b : Bool) (room k : ℕ) (i : Item Terminal) (is : Items)
    (go : Statements) → AreFunctionsText fs → IsAsciiTerminal i.terminal → AreItemsText is → StatementsText go
    → AreItemsText (statement_on globals fs b room k i is go)
statement_text globals fs b room (suc k) i is go a h p r = r _ _ _
statement_text globals fs b room zero i is go a h p r =
    room_text i room (cond b (expansion globals fs (i ∷ is)) None) go h
    (either_text b _ None (expansion_text globals fs (i ∷ is) a (h, p)) tt) r

pub called_text : (is : Items) (globals : Names) (fs : Functions) (b : Bool) (room k : ℕ) → AreFunctionsText fs
    → AreItemsText is → AreItemsText (called globals fs b room k is)
unfolding called
called_text [] globals fs b room k a h = tt
called_text (i ∷ is) globals fs b room k a h =
    chosen_text (is_directive i.terminal) _ _ (h.0, called_text is globals fs b room k a h.1)
    (statement_text globals fs b room k i (bare is) (λ b r k. called globals fs b r k is) a h.0 (bare_text is h.1)
    (λ b r k. called_text is globals fs b r k a h.1))
