-- Expanding functions keeps all names ASCII.
use Rattle.std.proofs.Common.{ℕ, zero, suc, ◌+◌, Bool, true, false, cond, List, [], ◌∷◌, ◌++◌, length, Option, Some, None}
use Rattle.std.specs.Prelude.{◌&&◌, ◌||◌, not, nat_lt, codes}
use Rattle.c_tokens.specs.declared.kind.Sign.TheVariants as sign
use Rattle.c_grammar.specs.Terminal.{Terminal, Name, same}
use Rattle.c_grammar.specs.Texts.{Item}
use Rattle.c_grammar.specs.Blocks.{Items, is_directive, bare}
use Rattle.c_grammar.specs.Changes.{is_mark, is_boundary}
use Rattle.c_grammar.specs.Constants.{Names, worked}
use Rattle.c_grammar.specs.AsciiNames.{IsAsciiTerminal}
use Rattle.c_grammar.specs.Functions.{array_names, Function, Functions, without_value, Known, Others, Puts, Returned, Where, Outside, InHead, InBody, added, closed, defined, expanded, function_with, has_function, has_value, headed_or, in_body, in_head, is_main, is_specifier, is_static, known_names, line_in, may_be_added, most_lines, names_in, other_name, nothing_known, out_of_body, outside, parameters_from, put_all, puts_from, raw_in, returned, returned_by, specifies, token_in, value_at, with_function, with_name}
use Rattle.c_grammar.specs.FunctionHeads.{Declared, Gives, NoValue, AValue, AStatus, Headed, head_at}
use Rattle.c_grammar.specs.Presence.{guarded}
use Rattle.c_grammar.proofs.AsciiPresence.{guarded_text}
use Rattle.c_grammar.proofs.AsciiTokens.{AreItemsText, chosen_text, both_text}
use Rattle.c_grammar.proofs.AsciiPassed.{AreOthersText, AreParametersText, ArePutsText, from_text, other_text, put_all_text, unspelled_text}
use Rattle.c_grammar.proofs.AsciiCalls.{AreFunctionsText, IsFunctionText, called_text}

-- ---- the source

parameters_text : (k : ℕ) (body : Items) (h : Headed) → AreParametersText (parameters_from k body h.declared)
parameters_text k body h = go k h.declared
  where
    go : (k : ℕ) (ds : List Declared) → AreParametersText (parameters_from k body ds)
    go k [] = tt
    go k (d ∷ ds) = (unspelled_text k, go (k + 1) ds)

abbrev IsKnownText : Known → Type 0
IsKnownText k = AreFunctionsText k.functions

made_text : (k : Known) (h : Headed) (r : Returned) → IsKnownText k → AreItemsText r.front → AreItemsText r.value
    → IsFunctionText (function_with k h r)
made_text k h r a p q =
    let arrays : Names = array_names k.next h.declared in
    let puts : Puts = puts_from k.next (names_in h r.front) in
    let other : Others = other_name (known_names k) in
    let puts_text : ArePutsText puts = from_text k.next (names_in h r.front) in
    let other_is : AreOthersText other = other_text (known_names k) in (
      parameters_text k.next (bare r.front) h,
      (
        called_text (guarded arrays (put_all puts other r.front)) k.globals k.functions true k.room 0 a
            (guarded_text arrays (put_all puts other r.front) (put_all_text puts other r.front puts_text other_is p)),
        put_all_text puts other r.value puts_text other_is q,
      ),
    )

added_functions : (fs : Functions) (f : Function) → AreFunctionsText fs → IsFunctionText f → AreFunctionsText (fs ++ f ∷ [])
added_functions [] f h k = (k, tt)
added_functions (g ∷ fs) f h k = (h.0, added_functions fs f h.1 k)

abbrev IsReturnedText : Option Returned → Type 0
IsReturnedText None = Unit {0}
IsReturnedText (Some r) = AreItemsText r.front × AreItemsText r.value

either_returned : (b : Bool) (x y : Option Returned) → IsReturnedText x → IsReturnedText y → IsReturnedText (cond b x y)
either_returned true x y h k = h
either_returned false x y h k = k

value_at_text : (is front value : Items) → AreItemsText is → AreItemsText front → AreItemsText value
    → IsReturnedText (value_at front value is)
value_at_text [] front value h f v = tt
value_at_text (i ∷ is) front value h f v =
    either_returned (is_mark sign.Semicolon i) _ _
    (either_returned (has_value (bare value) && not (has_value (bare is))) _ None (f, both_text value is v h.1) tt)
    (either_returned (is_boundary i.terminal) None _ tt
    (value_at_text is front (value ++ i ∷ []) h.1 f (both_text value (i ∷ []) v (h.0, tt))))

returned_text : (is front : Items) → AreItemsText is → AreItemsText front → IsReturnedText (returned front is)
returned_text [] front h f = tt
returned_text (i ∷ is) front h f =
    either_returned (same (Name (codes "return")) i.terminal) _ _ (value_at_text is front [] h.1 f tt)
    (returned_text is (front ++ i ∷ []) h.1 (both_text front (i ∷ []) f (h.0, tt)))

without_text : (o : Option Returned) → IsReturnedText o → IsReturnedText (without_value o)
without_text None h = tt
without_text (Some r) h = (h.0, tt)

returned_by_text : (gives : Gives) (body : Items) → AreItemsText body → IsReturnedText (returned_by gives body)
returned_by_text NoValue body h = (h, tt)
returned_by_text AValue body h = returned_text body [] h tt
returned_by_text AStatus body h = without_text (returned [] body) (returned_text body [] h tt)

abbrev IsAddedText : Option Known → Type 0
IsAddedText None = Unit {0}
IsAddedText (Some k) = IsKnownText k

added_text : (k : Known) (h : Headed) (o : Option Returned) → IsKnownText k → IsReturnedText o → IsAddedText (added k h o)
added_text k h None a q = tt
added_text k h (Some r) a q = go (may_be_added k h r.front)
  where
    go : (b : Bool) →
        IsAddedText (cond b (Some (with_function k (length (names_in h r.front)) (function_with k h r))) None)
    go true = added_functions k.functions (function_with k h r) a (made_text k h r a q.0 q.1)
    go false = tt

abbrev IsWhereText : Where → Type 0
IsWhereText (Outside b) = Unit {0}
IsWhereText (InHead h raw n) = AreItemsText raw
IsWhereText (InBody h raw body d l) = AreItemsText raw × AreItemsText body

abbrev Onward : Type 0
Onward = Known → Where → Items

abbrev OnwardText : Onward → Type 0
OnwardText go = (k : Known) (p : Where) → IsKnownText k → IsWhereText p → AreItemsText (go k p)

headed_text : (k : Known) (i : Item Terminal) (is : Items) (o : Option Headed) (go : Onward) → IsKnownText k
    → IsAsciiTerminal i.terminal → OnwardText go → AreItemsText (headed_or k i is o go)
headed_text k i is None go a h r = (h, r (with_name k i is) _ a tt)
headed_text k i is (Some d) go a h r = r k (InHead d (i ∷ []) d.len) a (h, tt)

outside_text : (k : Known) (b : Bool) (i : Item Terminal) (is : Items) (go : Onward) → IsKnownText k
    → IsAsciiTerminal i.terminal → OnwardText go → AreItemsText (outside k b i is go)
outside_text k false i is go a h r = (h, r (with_name k i is) _ a tt)
outside_text k true i is go a h r =
    chosen_text (is_specifier i.terminal && specifies is) _ _ (r k (Outside true) a tt)
    (headed_text k i is (head_at i.terminal is) go a h r)

head_text : (k : Known) (h : Headed) (raw : Items) (n : ℕ) (go : Onward) → IsKnownText k → AreItemsText raw
    → OnwardText go → AreItemsText (in_head k h raw n go)
head_text k h raw zero go a q r = r k (InBody h raw [] 0 0) a (q, tt)
head_text k h raw (suc zero) go a q r = r k (InBody h raw [] 0 0) a (q, tt)
head_text k h raw (suc (suc n)) go a q r = r k (InHead h raw (suc n)) a q

closed_text : (k : Known) (raw : Items) (o : Option Known) (go : Onward) → IsKnownText k → AreItemsText raw
    → IsAddedText o → OnwardText go → AreItemsText (closed k raw o go)
closed_text k raw None go a q p r = both_text raw _ q (r k (Outside true) a tt)
closed_text k raw (Some l) go a q p r = r l (Outside true) p tt

out_text : (k : Known) (h : Headed) (raw body : Items) (d : ℕ) (i : Item Terminal) (go : Onward) → IsKnownText k
    → AreItemsText raw → AreItemsText body → IsAsciiTerminal i.terminal → OnwardText go
    → AreItemsText (out_of_body k h raw body d i go)
out_text k h raw body zero i go a q b p r =
    closed_text k raw (added k h (returned_by h.gives body)) go a q
    (added_text k h (returned_by h.gives body) a (returned_by_text h.gives body b)) r
out_text k h raw body (suc d) i go a q b p r =
    r k (InBody h raw (body ++ i ∷ []) d 0) a (q, both_text body (i ∷ []) b (p, tt))

body_text : (k : Known) (h : Headed) (raw body : Items) (d : ℕ) (i : Item Terminal) (go : Onward) → IsKnownText k
    → AreItemsText raw → AreItemsText body → IsAsciiTerminal i.terminal → OnwardText go
    → AreItemsText (in_body k h raw body d i go)
body_text k h raw body d i go a q b p r =
    let more : AreItemsText (body ++ i ∷ []) = both_text body (i ∷ []) b (p, tt) in
    chosen_text (is_mark sign.OpenBrace i) _ _ (r k (InBody h raw (body ++ i ∷ []) (d + 1) 0) a (q, more))
    (chosen_text (is_mark sign.CloseBrace i) _ _ (out_text k h raw body d i go a q b p r)
    (r k (InBody h raw (body ++ i ∷ []) d 0) a (q, more)))

token_text : (k : Known) (p : Where) (i : Item Terminal) (is : Items) (go : Onward) → IsKnownText k → IsWhereText p
    → IsAsciiTerminal i.terminal → OnwardText go → AreItemsText (token_in k p i is go)
token_text k (Outside b) i is go a w h r = outside_text k b i is go a h r
token_text k (InHead d raw n) i is go a w h r = head_text k d (raw ++ i ∷ []) n go a (both_text raw (i ∷ []) w (h, tt)) r
token_text k (InBody d raw body e l) i is go a w h r =
    body_text k d (raw ++ i ∷ []) body e i go a (both_text raw (i ∷ []) w.0 (h, tt)) w.1 h r

line_text : (k : Known) (p : Where) (i : Item Terminal) (go : Onward) → IsKnownText k → IsWhereText p
    → IsAsciiTerminal i.terminal → OnwardText go → AreItemsText (line_in k p i go)
line_text k (Outside b) i go a w h r = (h, r k (Outside b) a w)
line_text k (InHead d raw n) i go a w h r = (h, r k (InHead d raw n) a w)
line_text k (InBody d raw body e l) i go a w h r =
    chosen_text (nat_lt l most_lines) _ _
    (r k (InBody d (raw ++ i ∷ []) (body ++ i ∷ []) e (l + 1)) a
    (both_text raw (i ∷ []) w.0 (h, tt), both_text body (i ∷ []) w.1 (h, tt)))
    (h, r k (InBody d raw body e l) a w)

raw_text : (p : Where) → IsWhereText p → AreItemsText (raw_in p)
raw_text (Outside b) w = tt
raw_text (InHead d raw n) w = w
raw_text (InBody d raw body e l) w = w.0

defined_text : (is : Items) (k : Known) (p : Where) → IsKnownText k → IsWhereText p → AreItemsText is
    → AreItemsText (defined k p is)
unfolding defined
defined_text [] k p a w h = raw_text p w
defined_text (i ∷ is) k p a w h =
    let on : OnwardText (λ k p. defined k p is) = λ k p a w. defined_text is k p a w h.1 in
    chosen_text (is_directive i.terminal) _ _ (line_text k p i (λ k p. defined k p is) a w h.0 on)
    (chosen_text (is_main p i (bare is)) _ _ (h.0, called_text is k.globals k.functions false k.room 0 a h.1)
    (token_text k p i (bare is) (λ k p. defined k p is) a w h.0 on))

-- with constants worked out behind it
pub expanded_text : ((is : Items) → AreItemsText is → AreItemsText (worked [] [] 0 is)) → (is : Items) → AreItemsText is
    → AreItemsText (expanded is)
expanded_text worked_text is h =
    chosen_text (has_function (bare is) || is_static (bare is)) _ _
    (worked_text (defined nothing_known (Outside true) is) (defined_text is nothing_known (Outside true) tt tt h)) h
