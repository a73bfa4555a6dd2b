-- What is passed to functions is found without a look at the lines of the tokens.
use Rattle.std.proofs.Common.{◌≡◌, ℕ, zero, suc, ◌+◌, Bool, true, false, cond, List, [], ◌∷◌, ◌++◌, length, map, take, drop, Option, Some, None, refl, ap, ap₂, ◌∙◌}
use Rattle.std.specs.Prelude.{◌&&◌, ◌==◌, ◌^◌, nat_lt}
use Rattle.std.specs.Option.{option_map}
use Rattle.c_tokens.specs.declared.kind.Sign.TheVariants as sign
use Rattle.c_grammar.specs.Lexeme.{Uint64}
use Rattle.c_grammar.specs.Terminal.{Terminal, Fixed, Mark, Name, Num, Line, Unknown, Unworked, End}
use Rattle.c_grammar.specs.Texts.{Item}
use Rattle.c_grammar.specs.Blocks.{Items, bare, at}
use Rattle.c_grammar.specs.Changes.{is_mark, is_boundary}
use Rattle.c_grammar.specs.Constants.{Names, is_among, with_terminal}
use Rattle.c_grammar.specs.Expressions.{Nothing, Worked, Number, Fault, expression}
use Rattle.c_grammar.specs.Functions.{Arguments, Others, Passed, Parameter, Puts, stands_small, argument_closed, argument_on, arguments, both, closes, constant_in, has_value, is_none, is_whole, local, nothing_passed, opens, passed, passed_to, passes, passes_array, passes_name, passes_one, passes_one_array, passes_as, passes_value, put_all, put_terminal}
use Rattle.c_grammar.specs.FunctionHeads.{Scalar, Array, Small, Sort}
use Rattle.same_text.specs.Laws.{unlined}
use Rattle.same_text.proofs.Unlined.{all_unlined, AreUnlined, one, some, bare_unlined}
use Rattle.same_text.proofs.UnlinedExpressions.{found_unlined, expression_same}

-- what is passed, and the arguments, without lines
abbrev pub passed_unlined : Passed → Passed
passed_unlined p = record { before = all_unlined p.before; puts = p.puts }

abbrev pub all_lists : List Items → List Items
all_lists all = map all_unlined all

abbrev pub arguments_unlined : Arguments → Arguments
arguments_unlined a = record { list = all_lists a.list; len = a.len }

-- either of two that are alike
pub picked : {A : Type 0} → (f : A → A) (b : Bool) (x y x' y' : Option A) → x' ≡ option_map f x → y' ≡ option_map f y →
    cond b x' y' ≡ option_map f (cond b x y)
picked f true x y x' y' h k = h
picked f false x y x' y' h k = k

-- ---- lists of tokens

pub put_unlined : (ps : Puts) (other : Others) (is : Items) →
    AreUnlined (put_all ps other (all_unlined is)) (put_all ps other is)
put_unlined ps other [] = refl
put_unlined ps other (i ∷ is) = one (with_terminal i (put_terminal ps other i.terminal)) _ _ (put_unlined ps other is)

-- behind one more token
pub more_unlined : (is : Items) (i : Item Terminal) → AreUnlined (all_unlined is ++ unlined i ∷ []) (is ++ i ∷ [])
more_unlined is i = some is (all_unlined is) (i ∷ []) _ refl refl

pub length_unlined : (is : Items) → length (all_unlined is) ≡ length is
length_unlined [] = refl
length_unlined (i ∷ is) = ap suc (length_unlined is)

pub take_unlined : (n : ℕ) (is : Items) → AreUnlined (take n (all_unlined is)) (take n is)
take_unlined zero is = refl
take_unlined (suc n) [] = refl
take_unlined (suc n) (i ∷ is) = one i _ _ (take_unlined n is)

pub drop_unlined : (n : ℕ) (is : Items) → AreUnlined (drop n (all_unlined is)) (drop n is)
drop_unlined zero is = refl
drop_unlined (suc n) [] = refl
drop_unlined (suc n) (i ∷ is) = drop_unlined n is

pub has_unlined : (is : Items) → has_value (all_unlined is) ≡ has_value is
has_unlined [] = refl
has_unlined (i ∷ is) = refl

pub bare_value : (is : Items) → has_value (bare (all_unlined is)) ≡ has_value (bare is)
bare_value is = ap has_value (bare_unlined is) ∙ has_unlined (bare is)

-- ---- arguments

lists_more : (all : List Items) (is : Items) → all_lists all ++ all_unlined is ∷ [] ≡ all_lists (all ++ is ∷ [])
lists_more [] is = refl
lists_more (js ∷ all) is = ap (λ (v : List Items). all_unlined js ∷ v) (lists_more all is)

abbrev Asked : Type 0
Asked = ℕ → Items → List Items → Option Arguments

abbrev AsksSame : Asked → Asked → Type 0
AsksSame go' go = (d : ℕ) (now : Items) (done : List Items) →
    go' d (all_unlined now) (all_lists done) ≡ option_map arguments_unlined (go d now done)

argument_same : (depth : ℕ) (now : Items) (done : List Items) (k : ℕ) (i : Item Terminal) (go go' : Asked) →
    AsksSame go' go →
    argument_on depth (all_unlined now) (all_lists done) k (unlined i) go'
    ≡ option_map arguments_unlined (argument_on depth now done k i go)
argument_same depth now done k i go go' r =
    picked arguments_unlined (is_boundary i.terminal) _ _ _ _ refl
    (picked arguments_unlined (opens i) _ _ _ _ (longer (depth + 1))
    (picked arguments_unlined (closes i) _ _ _ _ (out depth)
    (picked arguments_unlined (is_mark sign.Comma i && (depth == 0)) _ _ _ _
    (ap (go' 0 []) (lists_more done now) ∙ r 0 [] (done ++ now ∷ [])) (longer depth))))
  where
    longer : (d : ℕ) → go' d (all_unlined now ++ unlined i ∷ []) (all_lists done)
        ≡ option_map arguments_unlined (go d (now ++ i ∷ []) done)
    longer d = ap (λ (v : Items). go' d v (all_lists done)) (more_unlined now i) ∙ r d (now ++ i ∷ []) done

    out : (d : ℕ) → argument_closed d (all_unlined now) (all_lists done) k (unlined i) go'
        ≡ option_map arguments_unlined (argument_closed d now done k i go)
    out zero =
        picked arguments_unlined (is_mark sign.CloseParen i) _ _ _ _
        (ap (λ (v : List Items). Some (record { list = v; len = k })) (lists_more done now)) refl
    out (suc d) = longer d

pub arguments_same : (is : Items) (depth : ℕ) (now : Items) (done : List Items) (k : ℕ) →
    arguments depth (all_unlined now) (all_lists done) k (all_unlined is)
    ≡ option_map arguments_unlined (arguments depth now done k is)
unfolding arguments
arguments_same [] depth now done k = refl
arguments_same (i ∷ is) depth now done k =
    argument_same depth now done (k + 1) i (λ d now done. arguments d now done (k + 1) is)
    (λ d now done. arguments d now done (k + 1) (all_unlined is)) (λ d now done. arguments_same is d now done (k + 1))

-- ---- what is passed

abbrev PassesSame : Option Passed → Option Passed → Type 0
PassesSame o' o = o' ≡ option_map passed_unlined o

whole_same : (is : Items) (o : Option Worked) → is_whole (all_unlined is) (found_unlined o) ≡ is_whole is o
whole_same is None = refl
whole_same is (Some (Number k n)) = ap (λ (l : ℕ). cond (k == l) (Some n) None) (length_unlined is)
whole_same is (Some (Fault k p)) = refl

constant_same : (is : Items) → constant_in (all_unlined is) ≡ constant_in is
constant_same is =
    ap (λ (js : Items). is_whole (all_unlined is) (expression [] false Nothing [] 0 js)) (bare_unlined is)
    ∙ ap (is_whole (all_unlined is)) (expression_same (bare is) [] false Nothing [] 0)
    ∙ whole_same is (expression [] false Nothing [] 0 (bare is))

local_same : (x : List ℕ) (is : Items) → PassesSame (local x (all_unlined is)) (local x is)
local_same x [] = refl
local_same x (i ∷ is) =
    let j : Item Terminal = unlined i in
    ap
    (λ (v : Items). Some (record {
      before = at j (Fixed Uint64) ∷ at j (Name x) ∷ at j (Mark sign.Equal) ∷ j ∷ v;
      puts = [];
    }))
    (more_unlined is (at i (Mark sign.Semicolon)))

one_same : (globals : Names) (x : List ℕ) (i : Item Terminal) (t : Terminal) →
    PassesSame (passes_one globals x (unlined i) t) (passes_one globals x i t)
one_same globals x i (Name y) = picked passed_unlined (is_among globals y) _ _ _ _ (local_same x (i ∷ [])) refl
one_same globals x i (Fixed w) = local_same x (i ∷ [])
one_same globals x i (Mark s) = local_same x (i ∷ [])
one_same globals x i (Num n) = local_same x (i ∷ [])
one_same globals x i (Line ts) = local_same x (i ∷ [])
one_same globals x i Unknown = local_same x (i ∷ [])
one_same globals x i Unworked = local_same x (i ∷ [])
one_same globals x i End = local_same x (i ∷ [])

name_same : (globals : Names) (x : List ℕ) (is : Items) →
    PassesSame (passes_name globals x (all_unlined is)) (passes_name globals x is)
name_same globals x [] = refl
name_same globals x (i ∷ []) = one_same globals x i i.terminal
name_same globals x (i ∷ j ∷ is) = local_same x (i ∷ j ∷ is)

value_same : (globals : Names) (x : List ℕ) (is : Items) (o : Option ℕ) →
    PassesSame (passes_value globals x (all_unlined is) o) (passes_value globals x is o)
value_same globals x is (Some n) = refl
value_same globals x is None = name_same globals x is

one_array : (x : List ℕ) (t : Terminal) → PassesSame (passes_one_array x t) (passes_one_array x t)
one_array x (Name y) = refl
one_array x (Fixed w) = refl
one_array x (Mark s) = refl
one_array x (Num n) = refl
one_array x (Line ts) = refl
one_array x Unknown = refl
one_array x Unworked = refl
one_array x End = refl

array_same : (x : List ℕ) (is : Items) → PassesSame (passes_array x (all_unlined is)) (passes_array x is)
array_same x [] = refl
array_same x (i ∷ []) = one_array x i.terminal
array_same x (i ∷ j ∷ is) = refl

small_same : (x : List ℕ) (o : Option ℕ) → PassesSame (stands_small x o) (stands_small x o)
small_same x None = refl
small_same x (Some n) = picked passed_unlined (nat_lt n (2 ^ 31)) _ _ _ _ refl refl

as_same : (s : Sort) (globals : Names) (p : Parameter) (is : Items) →
    PassesSame (passes_as s globals p (all_unlined is)) (passes_as s globals p is)
as_same Scalar globals p is =
    picked passed_unlined p.assigned _ _ _ _ (local_same p.name is)
    (ap (passes_value globals p.name (all_unlined is)) (constant_same is)
    ∙ value_same globals p.name is (constant_in is))
as_same Array globals p is = array_same p.name is
as_same Small globals p is =
    picked passed_unlined p.assigned _ _ _ _ refl
    (ap (stands_small p.name) (constant_same is) ∙ small_same p.name (constant_in is))

passes_same : (globals : Names) (p : Parameter) (is : Items) →
    PassesSame (passes globals p (all_unlined is)) (passes globals p is)
passes_same globals p is = as_same p.sort globals p is

both_same : (o p : Option Passed) →
    PassesSame (both (option_map passed_unlined o) (option_map passed_unlined p)) (both o p)
both_same None p = refl
both_same (Some a) None = refl
both_same (Some a) (Some b) =
    ap (λ (v : Items). Some (record { before = v; puts = a.puts ++ b.puts }))
    (some a.before (all_unlined a.before) b.before (all_unlined b.before) refl refl)

passed_same : (globals : Names) (ps : List Parameter) (all : List Items) →
    PassesSame (passed globals ps (all_lists all)) (passed globals ps all)
passed_same globals [] [] = refl
passed_same globals [] (is ∷ all) = refl
passed_same globals (p ∷ ps) [] = refl
passed_same globals (p ∷ ps) (is ∷ all) =
    ap₂ both (passes_same globals p is) (passed_same globals ps all)
    ∙ both_same (passes globals p is) (passed globals ps all)

none_same : (all : List Items) → is_none (all_lists all) ≡ is_none all
none_same [] = refl
none_same ([] ∷ []) = refl
none_same ([] ∷ js ∷ all) = refl
none_same ((i ∷ is) ∷ all) = refl

pub passed_to_same : (globals : Names) (ps : List Parameter) (all : List Items) →
    PassesSame (passed_to globals ps (all_lists all)) (passed_to globals ps all)
passed_to_same globals [] all =
    ap (λ (b : Bool). cond b (Some nothing_passed) None) (none_same all)
    ∙ picked passed_unlined (is_none all) _ _ _ _ refl refl
passed_to_same globals (p ∷ ps) all = passed_same globals (p ∷ ps) all
