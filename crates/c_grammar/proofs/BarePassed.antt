-- What is passed to functions, and what stands for their names, has no directive lines.
use Rattle.std.proofs.Common.{◌≡◌, ℕ, zero, suc, ◌+◌, ◌-◌, Bool, true, false, cond, List, [], ◌∷◌, ◌++◌, map, Option, Some, None, refl, ap}
use Rattle.std.specs.Prelude.{◌&&◌, ◌==◌, ◌^◌, nat_lt}
use Rattle.std.specs.Option.{option_map}
use Rattle.std.specs.Str.{bytes_eq}
use Rattle.c_tokens.specs.declared.kind.Sign.TheVariants as sign
use Rattle.c_grammar.specs.Lexeme.{Lexeme}
use Rattle.c_grammar.specs.Lines.{is_omp}
use Rattle.c_grammar.specs.Terminal.{Terminal, Fixed, Mark, Name, Num, Line, Unknown, Unworked, End}
use Rattle.c_grammar.specs.Texts.{Item}
use Rattle.c_grammar.specs.Blocks.{Items, is_directive, bare}
use Rattle.c_grammar.specs.Changes.{is_mark, is_boundary}
use Rattle.c_grammar.specs.Constants.{Names, is_among, with_terminal}
use Rattle.c_grammar.specs.Functions.{Arguments, Expanded, Function, Functions, Others, Passed, Parameter, Put, stands_for, stands_small, passes_as, Called, Counts, Puts, argument_closed, argument_on, arguments, both, closes, constant_in, function_of, is_none, local, opens, passed, passed_to, passes, passes_array, passes_name, passes_one, passes_one_array, passes_value, put_all, put_for, put_line, put_terminal, terminal_for}
use Rattle.c_grammar.specs.FunctionHeads.{Scalar, Array, Small, Sort}
use Rattle.c_grammar.proofs.BareTokens.{IsPlain, ArePlain, both_plain}

-- a function without the directives in it
abbrev pub bare_of : Function → Function
bare_of f = record { name = f.name; parameters = f.parameters; body = bare f.body; value = bare f.value }

abbrev pub bare_expanded : Expanded → Expanded
bare_expanded e = record { len = e.len; items = bare e.items }

pub found_bare : (fs : Functions) (x : List ℕ) → function_of (map bare_of fs) x ≡ option_map bare_of (function_of fs x)
found_bare [] x = refl
found_bare (f ∷ fs) x = go (bytes_eq f.name x) (found_bare fs x)
  where
    go : (b : Bool) → function_of (map bare_of fs) x ≡ option_map bare_of (function_of fs x) →
        cond b (Some (bare_of f)) (function_of (map bare_of fs) x) ≡
        option_map bare_of (cond b (Some f) (function_of fs x))
    go true e = refl
    go false e = e

-- ---- names

omp_put : (ps : Puts) (ts : List Lexeme) → is_omp (put_line ps ts) ≡ is_omp ts
unfolding is_omp
omp_put ps [] = refl
omp_put ps (t ∷ []) = refl
omp_put ps (t ∷ u ∷ ts) = refl

put_line_bare : (ps : Puts) (other : Others) (t : Terminal) → is_directive (put_terminal ps other t) ≡ is_directive t
put_line_bare ps other (Name x) = go (put_for ps x)
  where
    go : (o : Option Put) → is_directive (terminal_for (other x) o) ≡ false
    go None = refl
    go (Some (Called y)) = refl
    go (Some (Counts n)) = refl
put_line_bare ps other (Line ts) = omp_put ps ts
put_line_bare ps other (Fixed w) = refl
put_line_bare ps other (Mark s) = refl
put_line_bare ps other (Num n) = refl
put_line_bare ps other Unknown = refl
put_line_bare ps other Unworked = refl
put_line_bare ps other End = refl

pub put_bare : (ps : Puts) (other : Others) (is : Items) → put_all ps other (bare is) ≡ bare (put_all ps other is)
put_bare ps other [] = refl
put_bare ps other (i ∷ is) =
    rw (put_line_bare ps other i.terminal) (go (is_directive i.terminal) (put_bare ps other is))
  where
    j : Item Terminal
    j = with_terminal i (put_terminal ps other i.terminal)

    go : (b : Bool) → put_all ps other (bare is) ≡ bare (put_all ps other is) →
        put_all ps other (cond b (bare is) (i ∷ bare is)) ≡
        cond b (bare (put_all ps other is)) (j ∷ bare (put_all ps other is))
    go true e = e
    go false e = ap (λ (v : Items). j ∷ v) e

-- ---- calls

abbrev pub AllPlain : List Items → Type 0
AllPlain [] = Unit {0}
AllPlain (is ∷ all) = ArePlain is × AllPlain all

all_more : (all : List Items) (is : Items) → AllPlain all → ArePlain is → AllPlain (all ++ is ∷ [])
all_more [] is h k = (k, tt)
all_more (js ∷ all) is h k = (h.0, all_more all is h.1 k)

abbrev pub ArgumentsPlain : Option Arguments → Type 0
ArgumentsPlain None = Unit {0}
ArgumentsPlain (Some a) = AllPlain a.list

picked : (b : Bool) (x y : Option Arguments) → ArgumentsPlain x → ArgumentsPlain y → ArgumentsPlain (cond b x y)
picked true x y h k = h
picked false x y h k = k

argument_plain : (depth : ℕ) (now : Items) (done : List Items) (k : ℕ) (i : Item Terminal)
    (go : ℕ → Items → List Items → Option Arguments) → IsPlain i → ArePlain now → AllPlain done
    → ((d : ℕ) (now : Items) (done : List Items) → ArePlain now → AllPlain done → ArgumentsPlain (go d now done))
    → ArgumentsPlain (argument_on depth now done k i go)
argument_plain depth now done k i go p h q r =
    let more : ArePlain (now ++ i ∷ []) = both_plain now (i ∷ []) h (p, tt) in
    picked (is_boundary i.terminal) _ _ tt
    (picked (opens i) _ _ (r _ _ done more q)
    (picked (closes i) _ _ (out depth more)
    (picked (is_mark sign.Comma i && (depth == 0)) _ _ (r 0 [] _ tt (all_more done now q h)) (r depth _ done more q))))
  where
    out : (d : ℕ) → ArePlain (now ++ i ∷ []) → ArgumentsPlain (argument_closed d now done k i go)
    out zero more = picked (is_mark sign.CloseParen i) _ None (all_more done now q h) tt
    out (suc d) more = r d _ done more q

pub arguments_plain : (is : Items) (depth : ℕ) (now : Items) (done : List Items) (k : ℕ) → ArePlain is → ArePlain now
    → AllPlain done → ArgumentsPlain (arguments depth now done k is)
unfolding arguments
arguments_plain [] depth now done k p h q = tt
arguments_plain (i ∷ is) depth now done k p h q =
    argument_plain depth now done (k + 1) i (λ d now done. arguments d now done (k + 1) is) p.0 h q
    (λ d now done h q. arguments_plain is d now done (k + 1) p.1 h q)

abbrev pub PassedPlain : Option Passed → Type 0
PassedPlain None = Unit {0}
PassedPlain (Some p) = ArePlain p.before

local_plain : (x : List ℕ) (is : Items) → ArePlain is → PassedPlain (local x is)
local_plain x [] h = tt
local_plain x (i ∷ is) h = (refl, (refl, (refl, (h.0, both_plain is _ h.1 (refl, tt)))))

name_plain : (globals : Names) (x : List ℕ) (is : Items) → ArePlain is → PassedPlain (passes_name globals x is)
name_plain globals x [] h = tt
name_plain globals x (i ∷ []) h = go i.terminal
  where
    pick : (b : Bool) (o p : Option Passed) → PassedPlain o → PassedPlain p → PassedPlain (cond b o p)
    pick true o p h k = h
    pick false o p h k = k

    go : (t : Terminal) → PassedPlain (passes_one globals x i t)
    go (Name y) = pick (is_among globals y) (local x (i ∷ [])) _ (local_plain x (i ∷ []) h) tt
    go (Fixed w) = local_plain x (i ∷ []) h
    go (Mark s) = local_plain x (i ∷ []) h
    go (Num n) = local_plain x (i ∷ []) h
    go (Line ts) = local_plain x (i ∷ []) h
    go Unknown = local_plain x (i ∷ []) h
    go Unworked = local_plain x (i ∷ []) h
    go End = local_plain x (i ∷ []) h
name_plain globals x (i ∷ j ∷ is) h = local_plain x (i ∷ j ∷ is) h

value_plain : (globals : Names) (x : List ℕ) (is : Items) (o : Option ℕ) → ArePlain is
    → PassedPlain (passes_value globals x is o)
value_plain globals x is (Some n) h = tt
value_plain globals x is None h = name_plain globals x is h

array_plain : (x : List ℕ) (is : Items) → PassedPlain (passes_array x is)
array_plain x [] = tt
array_plain x (i ∷ []) = go i.terminal
  where
    go : (t : Terminal) → PassedPlain (passes_one_array x t)
    go (Name y) = tt
    go (Fixed w) = tt
    go (Mark s) = tt
    go (Num n) = tt
    go (Line ts) = tt
    go Unknown = tt
    go Unworked = tt
    go End = tt
array_plain x (i ∷ j ∷ is) = tt

one_plain : (b : Bool) (o p : Option Passed) → PassedPlain o → PassedPlain p → PassedPlain (cond b o p)
one_plain true o p h k = h
one_plain false o p h k = k

small_plain : (x : List ℕ) (o : Option ℕ) → PassedPlain (stands_small x o)
small_plain x None = tt
small_plain x (Some n) = one_plain (nat_lt n (2 ^ 31)) (stands_for x (Counts n)) None tt tt

as_plain : (s : Sort) (globals : Names) (p : Parameter) (is : Items) → ArePlain is → PassedPlain (passes_as s globals p is)
as_plain Scalar globals p is h =
    one_plain p.assigned _ _ (local_plain p.name is h) (value_plain globals p.name is (constant_in is) h)
as_plain Array globals p is h = array_plain p.name is
as_plain Small globals p is h = one_plain p.assigned None _ tt (small_plain p.name (constant_in is))

passes_plain : (globals : Names) (p : Parameter) (is : Items) → ArePlain is → PassedPlain (passes globals p is)
passes_plain globals p is h = as_plain p.sort globals p is h

both_passed : (o p : Option Passed) → PassedPlain o → PassedPlain p → PassedPlain (both o p)
both_passed None p h k = tt
both_passed (Some a) None h k = tt
both_passed (Some a) (Some b) h k = both_plain a.before b.before h k

passed_plain : (globals : Names) (ps : List Parameter) (all : List Items) → AllPlain all → PassedPlain (passed globals ps all)
passed_plain globals [] [] h = tt
passed_plain globals [] (is ∷ all) h = tt
passed_plain globals (p ∷ ps) [] h = tt
passed_plain globals (p ∷ ps) (is ∷ all) h =
    both_passed (passes globals p is) (passed globals ps all) (passes_plain globals p is h.0) (passed_plain globals ps all h.1)

pub passed_to_plain : (globals : Names) (ps : List Parameter) (all : List Items) → AllPlain all
    → PassedPlain (passed_to globals ps all)
passed_to_plain globals [] all h = one_plain (is_none all) _ None tt tt
passed_to_plain globals (p ∷ ps) all h = passed_plain globals (p ∷ ps) all h
