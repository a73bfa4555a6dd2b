-- What is passed to functions, and what stands for their names, is ASCII.
use Rattle.std.proofs.Common.{◌≡◌, ℕ, zero, suc, ◌+◌, ◌<◌, Bool, true, false, cond, List, [], ◌∷◌, ◌++◌, take, drop, Option, Some, None, refl, subst, arith}
use Rattle.std.specs.Prelude.{◌&&◌, ◌||◌, ◌==◌, ◌^◌, nat_lt}
use Rattle.std.specs.List.{list_all}
use Rattle.std.specs.Str.{IsAscii, bytes_eq}
use Rattle.std.proofs.lemmas.Bool.Decides.{nat_tests}
use Rattle.c_tokens.specs.declared.kind.Sign.TheVariants as sign
use Rattle.c_grammar.specs.Terminal.{Terminal, Fixed, Mark, Name, Num, Line, Unknown, Unworked, End}
use Rattle.c_grammar.specs.Texts.{Item}
use Rattle.c_grammar.specs.Blocks.{Items}
use Rattle.c_grammar.specs.Changes.{is_mark, is_boundary}
use Rattle.c_grammar.specs.Constants.{Names, is_among}
use Rattle.c_grammar.specs.AsciiNames.{IsAsciiTerminal}
use Rattle.c_grammar.specs.Functions.{Arguments, Others, Passed, Parameter, Put, stands_small, passes_as, Called, Counts, Puts, argument_closed, argument_on, arguments, both, closes, constant_in, flag_names, is_none, local, other_name, opens, passed, passed_to, passes, passes_array, passes_name, passes_one, passes_one_array, passes_value, put_all, put_for, put_terminal, puts_from, stays, terminal_for}
use Rattle.c_grammar.specs.FunctionHeads.{Scalar, Array, Small, Sort}
use Rattle.c_grammar.specs.Unspelled.{digits, unknown, unspelled}
use Rattle.c_grammar.proofs.AsciiTokens.{AreItemsText, both_text}

-- ---- names that no source can spell

abbrev pub AreLow : List ℕ → Type 0
AreLow [] = Unit {0}
AreLow (b ∷ bs) = (b < 128) × AreLow bs

low_byte : (b : ℕ) → nat_lt b 128 ≡ true → b < 128
low_byte b e = grind (arith, nat_tests)

both_true : (a b : Bool) → (a && b) ≡ true → (a ≡ true) × (b ≡ true)
both_true true b e = (refl, e)
both_true false b e = absurd cc

pub all_low : (bs : List ℕ) → list_all (λ b. nat_lt b 128) bs ≡ true → AreLow bs
all_low [] e = tt
all_low (b ∷ bs) e =
    let h = both_true (nat_lt b 128) (list_all (λ b. nat_lt b 128) bs) e in (low_byte b h.0, all_low bs h.1)

pub take_low : (n : ℕ) (bs : List ℕ) → AreLow bs → AreLow (take n bs)
take_low zero bs h = tt
take_low (suc n) [] h = tt
take_low (suc n) (b ∷ bs) h = (h.0, take_low n bs h.1)

pub drop_low : (n : ℕ) (bs : List ℕ) → AreLow bs → AreLow (drop n bs)
drop_low zero bs h = h
drop_low (suc n) [] h = tt
drop_low (suc n) (b ∷ bs) h = drop_low n bs h.1

pub low_text : (bs : List ℕ) → AreLow bs → IsAscii bs
low_text [] h i = omega arith
low_text (b ∷ bs) h zero = h.0
low_text (b ∷ bs) h (suc i) = low_text bs h.1 i

pub unspelled_text : (k : ℕ) → IsAscii (unspelled k)
unspelled_text k = low_text (unspelled k) (take_low 3 (drop k digits) (drop_low k digits (all_low digits refl)))

-- ---- what stands for names

abbrev IsPutText : Option Put → Type 0
IsPutText None = Unit {0}
IsPutText (Some (Called x)) = IsAscii x
IsPutText (Some (Counts n)) = Unit {0}

abbrev pub ArePutsText : Puts → Type 0
ArePutsText [] = Unit {0}
ArePutsText (p ∷ ps) = IsPutText (Some p.1) × ArePutsText ps

put_text : (b : Bool) (o p : Option Put) → IsPutText o → IsPutText p → IsPutText (cond b o p)
put_text true o p h k = h
put_text false o p h k = k

found_text : (ps : Puts) (x : List ℕ) → ArePutsText ps → IsPutText (put_for ps x)
found_text [] x h = tt
found_text (p ∷ ps) x h = put_text (bytes_eq p.0 x) (Some p.1) _ h.0 (found_text ps x h.1)

abbrev pub AreOthersText : Others → Type 0
AreOthersText other = (x : List ℕ) → IsAscii x → IsAscii (other x)

terminal_text : (ps : Puts) (other : Others) (t : Terminal) → ArePutsText ps → AreOthersText other → IsAsciiTerminal t
    → IsAsciiTerminal (put_terminal ps other t)
terminal_text ps other (Name x) h k a = go (put_for ps x) (found_text ps x h)
  where
    go : (o : Option Put) → IsPutText o → IsAsciiTerminal (terminal_for (other x) o)
    go None h = k x a
    go (Some (Called y)) h = h
    go (Some (Counts n)) h = tt
terminal_text ps other (Line ts) h k a = tt
terminal_text ps other (Fixed w) h k a = tt
terminal_text ps other (Mark s) h k a = tt
terminal_text ps other (Num n) h k a = tt
terminal_text ps other Unknown h k a = tt
terminal_text ps other Unworked h k a = tt
terminal_text ps other End h k a = tt

pub put_all_text : (ps : Puts) (other : Others) (is : Items) → ArePutsText ps → AreOthersText other → AreItemsText is
    → AreItemsText (put_all ps other is)
put_all_text ps other [] h k a = tt
put_all_text ps other (i ∷ is) h k a = (terminal_text ps other i.terminal h k a.0, put_all_text ps other is h k a.1)

pub stays_text : AreOthersText stays
stays_text x h = h

both_puts : (ps qs : Puts) → ArePutsText ps → ArePutsText qs → ArePutsText (ps ++ qs)
both_puts [] qs h k = k
both_puts (p ∷ ps) qs h k = (h.0, both_puts ps qs h.1 k)

pub from_text : (k : ℕ) (xs : Names) → ArePutsText (puts_from k xs)
from_text k [] = tt
from_text k (x ∷ xs) = (unspelled_text k, from_text (k + 1) xs)

pub other_text : (known : Names) → AreOthersText (other_name known)
other_text known x h = go (is_among known x || is_among flag_names x)
  where
    go : (b : Bool) → IsAscii (cond b x unknown)
    go true = h
    go false = unspelled_text 0

-- ---- calls

abbrev pub AllText : List Items → Type 0
AllText [] = Unit {0}
AllText (is ∷ all) = AreItemsText is × AllText all

all_more : (all : List Items) (is : Items) → AllText all → AreItemsText is → AllText (all ++ is ∷ [])
all_more [] is h k = (k, tt)
all_more (js ∷ all) is h k = (h.0, all_more all is h.1 k)

abbrev pub ArgumentsText : Option Arguments → Type 0
ArgumentsText None = Unit {0}
ArgumentsText (Some a) = AllText a.list

picked : (b : Bool) (x y : Option Arguments) → ArgumentsText x → ArgumentsText y → ArgumentsText (cond b x y)
picked true x y h k = h
picked false x y h k = k

argument_text : (depth : ℕ) (now : Items) (done : List Items) (k : ℕ) (i : Item Terminal)
    (go : ℕ → Items → List Items → Option Arguments) → IsAsciiTerminal i.terminal → AreItemsText now → AllText done
    → ((d : ℕ) (now : Items) (done : List Items) → AreItemsText now → AllText done → ArgumentsText (go d now done))
    → ArgumentsText (argument_on depth now done k i go)
argument_text depth now done k i go p h q r =
    let more : AreItemsText (now ++ i ∷ []) = both_text now (i ∷ []) h (p, tt) in
    picked (is_boundary i.terminal) _ _ tt
    (picked (opens i) _ _ (r _ _ done more q)
    (picked (closes i) _ _ (out depth more)
    (picked (is_mark sign.Comma i && (depth == 0)) _ _ (r 0 [] _ tt (all_more done now q h)) (r depth _ done more q))))
  where
    out : (d : ℕ) → AreItemsText (now ++ i ∷ []) → ArgumentsText (argument_closed d now done k i go)
    out zero more = picked (is_mark sign.CloseParen i) _ None (all_more done now q h) tt
    out (suc d) more = r d _ done more q

pub arguments_text : (is : Items) (depth : ℕ) (now : Items) (done : List Items) (k : ℕ) → AreItemsText is → AreItemsText now
    → AllText done → ArgumentsText (arguments depth now done k is)
unfolding arguments
arguments_text [] depth now done k p h q = tt
arguments_text (i ∷ is) depth now done k p h q =
    argument_text depth now done (k + 1) i (λ d now done. arguments d now done (k + 1) is) p.0 h q
    (λ d now done h q. arguments_text is d now done (k + 1) p.1 h q)

abbrev pub IsPassedText : Option Passed → Type 0
IsPassedText None = Unit {0}
IsPassedText (Some p) = AreItemsText p.before × ArePutsText p.puts

one_passed : (b : Bool) (o p : Option Passed) → IsPassedText o → IsPassedText p → IsPassedText (cond b o p)
one_passed true o p h k = h
one_passed false o p h k = k

local_text : (x : List ℕ) (is : Items) → IsAscii x → AreItemsText is → IsPassedText (local x is)
local_text x [] a h = tt
local_text x (i ∷ is) a h = ((tt, (a, (tt, (h.0, both_text is _ h.1 (tt, tt))))), tt)

one_text : (globals : Names) (x : List ℕ) (i : Item Terminal) (t : Terminal) → i.terminal ≡ t → IsAscii x
    → IsAsciiTerminal i.terminal → IsPassedText (passes_one globals x i t)
one_text globals x i (Name y) e a h =
    one_passed (is_among globals y) (local x (i ∷ [])) _ (local_text x (i ∷ []) a (h, tt))
    (tt, (subst (λ (t : Terminal). IsAsciiTerminal t) e h, tt))
one_text globals x i (Fixed w) e a h = local_text x (i ∷ []) a (h, tt)
one_text globals x i (Mark s) e a h = local_text x (i ∷ []) a (h, tt)
one_text globals x i (Num n) e a h = local_text x (i ∷ []) a (h, tt)
one_text globals x i (Line ts) e a h = local_text x (i ∷ []) a (h, tt)
one_text globals x i Unknown e a h = local_text x (i ∷ []) a (h, tt)
one_text globals x i Unworked e a h = local_text x (i ∷ []) a (h, tt)
one_text globals x i End e a h = local_text x (i ∷ []) a (h, tt)

name_text : (globals : Names) (x : List ℕ) (is : Items) → IsAscii x → AreItemsText is
    → IsPassedText (passes_name globals x is)
name_text globals x [] a h = tt
name_text globals x (i ∷ []) a h = one_text globals x i i.terminal refl a h.0
name_text globals x (i ∷ j ∷ is) a h = local_text x (i ∷ j ∷ is) a h

value_text : (globals : Names) (x : List ℕ) (is : Items) (o : Option ℕ) → IsAscii x → AreItemsText is
    → IsPassedText (passes_value globals x is o)
value_text globals x is (Some n) a h = (tt, (tt, tt))
value_text globals x is None a h = name_text globals x is a h

one_array : (x : List ℕ) (t : Terminal) → IsAsciiTerminal t → IsPassedText (passes_one_array x t)
one_array x (Name y) h = (tt, (h, tt))
one_array x (Fixed w) h = tt
one_array x (Mark s) h = tt
one_array x (Num n) h = tt
one_array x (Line ts) h = tt
one_array x Unknown h = tt
one_array x Unworked h = tt
one_array x End h = tt

array_text : (x : List ℕ) (is : Items) → AreItemsText is → IsPassedText (passes_array x is)
array_text x [] h = tt
array_text x (i ∷ []) h = one_array x i.terminal h.0
array_text x (i ∷ j ∷ is) h = tt

abbrev pub AreParametersText : List Parameter → Type 0
AreParametersText [] = Unit {0}
AreParametersText (p ∷ ps) = IsAscii p.name × AreParametersText ps

small_text : (x : List ℕ) (o : Option ℕ) → IsPassedText (stands_small x o)
small_text x None = tt
small_text x (Some n) = one_passed (nat_lt n (2 ^ 31)) _ None (tt, (tt, tt)) tt

as_text : (s : Sort) (globals : Names) (p : Parameter) (is : Items) → IsAscii p.name → AreItemsText is
    → IsPassedText (passes_as s globals p is)
as_text Scalar globals p is a h =
    one_passed p.assigned _ _ (local_text p.name is a h) (value_text globals p.name is (constant_in is) a h)
as_text Array globals p is a h = array_text p.name is h
as_text Small globals p is a h = one_passed p.assigned None _ tt (small_text p.name (constant_in is))

passes_text : (globals : Names) (p : Parameter) (is : Items) → IsAscii p.name → AreItemsText is
    → IsPassedText (passes globals p is)
passes_text globals p is a h = as_text p.sort globals p is a h

both_passed : (o p : Option Passed) → IsPassedText o → IsPassedText p → IsPassedText (both o p)
both_passed None p h k = tt
both_passed (Some a) None h k = tt
both_passed (Some a) (Some b) h k = (both_text a.before b.before h.0 k.0, both_puts a.puts b.puts h.1 k.1)

passed_text : (globals : Names) (ps : List Parameter) (all : List Items) → AreParametersText ps → AllText all
    → IsPassedText (passed globals ps all)
passed_text globals [] [] a h = (tt, tt)
passed_text globals [] (is ∷ all) a h = tt
passed_text globals (p ∷ ps) [] a h = tt
passed_text globals (p ∷ ps) (is ∷ all) a h =
    both_passed (passes globals p is) (passed globals ps all) (passes_text globals p is a.0 h.0)
    (passed_text globals ps all a.1 h.1)

pub passed_to_text : (globals : Names) (ps : List Parameter) (all : List Items) → AreParametersText ps → AllText all
    → IsPassedText (passed_to globals ps all)
passed_to_text globals [] all a h = one_passed (is_none all) _ None (tt, tt) tt
passed_to_text globals (p ∷ ps) all a h = passed_text globals (p ∷ ps) all a h
