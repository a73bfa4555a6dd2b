-- The tokens of an expression.
use Rattle.std.proofs.Common.{◌≡◌, ℕ, ◌+◌, ◌-◌, ◌<◌, ◌≤◌, Bool, true, false, cond, List, ◌∷◌, length, Option, Some, None, refl, ap, ◌∙◌, arith}
use Rattle.std.proofs.lemmas.Bool.{or_left, or_right, or_from}
use Rattle.std.specs.Prelude.{nat_lt, nat_le, not, ◌||◌}
use Rattle.std.proofs.lemmas.Bool.Decides.{nat_tests}
use Rattle.c_tokens.specs.declared.kind.Sign.{Sign}
use Rattle.c_tokens.specs.declared.kind.Sign.TheVariants as sign
use Rattle.base.specs.declared.fault.ReadCode.TheVariants.{Undeclared, TooDeep, TooMany}
use Rattle.c_grammar.specs.LineRules.{max_name}
use Rattle.c_grammar.specs.Terminal.{Terminal, Fixed, Mark, Name, Num, Line, Unknown, Unworked, End, same}
use Rattle.c_grammar.specs.Texts.{Item, next_of}
use Rattle.c_grammar.specs.Machine.{run as machine_run}
use Rattle.c_grammar.specs.Grammar.{Inner, Operand, OpensBracket, ClosesBracket, for}
use Rattle.c_grammar.specs.Rules.{Context, Sort, enter, sort_of, is_array, is_scalar, max_tokens, max_brackets}
use Rattle.c_grammar.specs.Rules.{source_grammar, breaks}
use Rattle.c_grammar.specs.Program.{Stack, Want, advance, first_broken}
use Rattle.c_expressions.specs.declared.cursor.Cursor.{Cursor}
use Rattle.c_expressions.specs.declared.scope.Scope.{Scope}
use Rattle.c_expressions.specs.Means.{Items}
use Rattle.c_expressions.specs.Cursor.{items, first_item, behind}
use Rattle.c_expressions.specs.Scopes.{context_of, is_operand}
use Rattle.c_expressions.specs.Reading.{run, took, fault_at, IsSound}
use Rattle.c_expressions.proofs.Terminals.{same_mark}
use Rattle.c_expressions.proofs.Going.{put, put_is, put_same}

abbrev pub one_token : Context → Context
one_token c = record c { tokens = c.tokens + 1 }

-- ---- numbers and signs

item_many : (c : Context) (s : Stack) (i : Item Terminal) (t : Terminal) (is : Items) → IsSound t →
    nat_le max_tokens c.tokens ≡ true → took c (for Inner) s (put i t ∷ is) ≡ Some (fault_at i TooMany)
unfolding took first_broken breaks
item_many c s i (Mark x) is k h = rw h refl
item_many c s i (Num (Some n)) is k h = rw h refl
item_many c s i (Num None) is k h = absurd k
item_many c s i (Fixed w) is k h = absurd k
item_many c s i (Name x) is k h = absurd k
item_many c s i (Line ts) is k h = absurd k
item_many c s i Unknown is k h = absurd k
item_many c s i Unworked is k h = absurd k
item_many c s i End is k h = absurd k

item_inner : (c : Context) (s : Stack) (i : Item Terminal) (t : Terminal) (is : Items) → IsSound t →
    nat_le max_tokens c.tokens ≡ false → took c (for Inner) s (put i t ∷ is) ≡ run (one_token c) s is
unfolding took run first_broken breaks enter
item_inner c s i (Mark x) is k h = rw h refl
item_inner c s i (Num (Some n)) is k h = rw h refl
item_inner c s i (Num None) is k h = absurd k
item_inner c s i (Fixed w) is k h = absurd k
item_inner c s i (Name x) is k h = absurd k
item_inner c s i (Line ts) is k h = absurd k
item_inner c s i Unknown is k h = absurd k
item_inner c s i Unworked is k h = absurd k
item_inner c s i End is k h = absurd k

pub many_inner : (sc : Scope) (d n : ℕ) (s : Stack) (t : Cursor) → IsSound (first_item t).terminal →
    max_tokens ≤ n → took (context_of sc d n) (for Inner) s (items t) ≡ Some (fault_at (first_item t) TooMany)
many_inner sc d n s t k h = let many : nat_le max_tokens n ≡ true = grind (arith, nat_tests) in
    item_many (context_of sc d n) s (first_item t) (first_item t).terminal (behind t) k many

pub go_inner : (sc : Scope) (d n : ℕ) (s : Stack) (t t' : Cursor) → IsSound (first_item t).terminal →
    n < max_tokens → behind t ≡ items t' → took (context_of sc d n) (for Inner) s (items t) ≡
    run (context_of sc d (n + 1)) s (items t')
go_inner sc d n s t t' k h b =
    let few : nat_le max_tokens n ≡ false = grind (arith, nat_tests) in
    item_inner (context_of sc d n) s (first_item t) (first_item t).terminal (behind t) k few
    ∙ ap (run (context_of sc d (n + 1)) s) b

-- ---- brackets

item_deep : (c : Context) (s : Stack) (x : Sign) (i : Item Terminal) (is : Items) →
    nat_le max_brackets c.depth ≡ true → took c (for OpensBracket) s (put i (Mark x) ∷ is) ≡
    Some (fault_at i TooDeep)
unfolding took first_broken breaks
item_deep c s x i is h = rw h refl

item_many_open : (c : Context) (s : Stack) (x : Sign) (i : Item Terminal) (is : Items) →
    nat_le max_brackets c.depth ≡ false → nat_le max_tokens c.tokens ≡ true →
    took c (for OpensBracket) s (put i (Mark x) ∷ is) ≡ Some (fault_at i TooMany)
unfolding took first_broken breaks
item_many_open c s x i is g h = rw (g, h) refl

abbrev deeper : Context → Context
deeper c = record c { tokens = c.tokens + 1; depth = c.depth + 1 }

abbrev shallower : Context → Context
shallower c = record c { tokens = c.tokens + 1; depth = c.depth - 1 }

item_open : (c : Context) (s : Stack) (x : Sign) (i : Item Terminal) (is : Items) →
    nat_le max_brackets c.depth ≡ false → nat_le max_tokens c.tokens ≡ false →
    took c (for OpensBracket) s (put i (Mark x) ∷ is) ≡ run (deeper c) s is
unfolding took run first_broken breaks enter
item_open c s x i is g h = rw (g, h) refl

pub too_deep : (sc : Scope) (d n : ℕ) (s : Stack) (x : Sign) (t : Cursor) → (first_item t).terminal ≡ Mark x →
    max_brackets ≤ d → took (context_of sc d n) (for OpensBracket) s (items t) ≡
    Some (fault_at (first_item t) TooDeep)
too_deep sc d n s x t e h =
    let deep : nat_le max_brackets d ≡ true = grind (arith, nat_tests) in
    ap (λ (i : Item Terminal). took (context_of sc d n) (for OpensBracket) s (i ∷ behind t))
    (put_is (first_item t) (Mark x) e) ∙ item_deep (context_of sc d n) s x (first_item t) (behind t) deep

pub many_open : (sc : Scope) (d n : ℕ) (s : Stack) (x : Sign) (t : Cursor) → (first_item t).terminal ≡ Mark x →
    d < max_brackets → max_tokens ≤ n → took (context_of sc d n) (for OpensBracket) s (items t) ≡
    Some (fault_at (first_item t) TooMany)
many_open sc d n s x t e g h =
    let low : nat_le max_brackets d ≡ false = grind (arith, nat_tests) in
    let many : nat_le max_tokens n ≡ true = grind (arith, nat_tests) in
    ap (λ (i : Item Terminal). took (context_of sc d n) (for OpensBracket) s (i ∷ behind t))
    (put_is (first_item t) (Mark x) e) ∙ item_many_open (context_of sc d n) s x (first_item t) (behind t) low
    many

pub go_open : (sc : Scope) (d n : ℕ) (s : Stack) (x : Sign) (t t' : Cursor) → (first_item t).terminal ≡ Mark x →
    d < max_brackets → n < max_tokens → behind t ≡ items t' →
    took (context_of sc d n) (for OpensBracket) s (items t) ≡ run (context_of sc (d + 1) (n + 1)) s (items t')
go_open sc d n s x t t' e g h b =
    let low : nat_le max_brackets d ≡ false = grind (arith, nat_tests) in
    let few : nat_le max_tokens n ≡ false = grind (arith, nat_tests) in
    ap (λ (i : Item Terminal). took (context_of sc d n) (for OpensBracket) s (i ∷ behind t))
    (put_is (first_item t) (Mark x) e) ∙ item_open (context_of sc d n) s x (first_item t) (behind t) low few
    ∙ ap (run (context_of sc (d + 1) (n + 1)) s) b

item_many_close : (c : Context) (s : Stack) (x : Sign) (i : Item Terminal) (is : Items) →
    nat_le max_tokens c.tokens ≡ true → run c (Want (Mark x) (for ClosesBracket) ∷ s) (put i (Mark x) ∷ is) ≡
    Some (fault_at i TooMany)
unfolding run machine_run advance first_broken breaks
item_many_close c s x i is h = rw (same_mark x, h) refl

item_close : (c : Context) (s : Stack) (x : Sign) (i : Item Terminal) (is : Items) →
    nat_le max_tokens c.tokens ≡ false → run c (Want (Mark x) (for ClosesBracket) ∷ s) (put i (Mark x) ∷ is) ≡
    run (shallower c) s is
unfolding run machine_run advance first_broken breaks enter
item_close c s x i is h = rw (same_mark x, h) refl

pub many_close : (sc : Scope) (d n : ℕ) (s : Stack) (x : Sign) (t : Cursor) →
    same (Mark x) (first_item t).terminal ≡ true → max_tokens ≤ n →
    run (context_of sc d n) (Want (Mark x) (for ClosesBracket) ∷ s) (items t) ≡
    Some (fault_at (first_item t) TooMany)
many_close sc d n s x t e h =
    let many : nat_le max_tokens n ≡ true = grind (arith, nat_tests) in
    ap (λ (i : Item Terminal). run (context_of sc d n) (Want (Mark x) (for ClosesBracket) ∷ s) (i ∷ behind t))
    (put_same (Mark x) (first_item t) e) ∙ item_many_close (context_of sc d n) s x (first_item t) (behind t)
    many

pub go_close : (sc : Scope) (d n : ℕ) (s : Stack) (x : Sign) (t t' : Cursor) →
    same (Mark x) (first_item t).terminal ≡ true → n < max_tokens → behind t ≡ items t' →
    run (context_of sc (d + 1) n) (Want (Mark x) (for ClosesBracket) ∷ s) (items t) ≡
    run (context_of sc d (n + 1)) s (items t')
go_close sc d n s x t t' e h b =
    let few : nat_le max_tokens n ≡ false = grind (arith, nat_tests) in
    let back : d + 1 - 1 ≡ d = omega arith in
    ap (λ (i : Item Terminal). run (context_of sc (d + 1) n) (Want (Mark x) (for ClosesBracket) ∷ s)
    (i ∷ behind t)) (put_same (Mark x) (first_item t) e)
    ∙ item_close (context_of sc (d + 1) n) s x (first_item t) (behind t) few
    ∙ ap (λ (k : ℕ). run (context_of sc k (n + 1)) s (behind t)) back ∙ ap (run (context_of sc d (n + 1)) s) b

-- ---- names

undeclared : Terminal → Option Sort → Bool
undeclared next o = cond (same (Mark sign.OpenBracket) next) (not (is_array o)) (not (is_scalar o))

undeclared_is : (next : Terminal) (o : Option Sort) (b f : Bool) → same (Mark sign.OpenBracket) next ≡ b →
    is_operand b o ≡ f → undeclared next o ≡ not f
unfolding undeclared
undeclared_is next o true f e h = rw (e, h) refl
undeclared_is next o false f e h = rw (e, h) refl

item_undeclared : (c : Context) (s : Stack) (x : List ℕ) (i : Item Terminal) (is : Items) →
    undeclared (next_of source_grammar is) (sort_of c x) ≡ true →
    took c (for Operand) s (put i (Name x) ∷ is) ≡ Some (fault_at i Undeclared)
unfolding took first_broken breaks undeclared
item_undeclared c s x i is h = rw h refl

item_many_operand : (c : Context) (s : Stack) (x : List ℕ) (i : Item Terminal) (is : Items) →
    undeclared (next_of source_grammar is) (sort_of c x) ≡ false →
    (nat_lt max_name (length x) || nat_le max_tokens c.tokens) ≡ true →
    took c (for Operand) s (put i (Name x) ∷ is) ≡ Some (fault_at i TooMany)
unfolding took first_broken breaks undeclared
item_many_operand c s x i is h k = rw (h, k) refl

item_operand : (c : Context) (s : Stack) (x : List ℕ) (i : Item Terminal) (is : Items) →
    undeclared (next_of source_grammar is) (sort_of c x) ≡ false →
    (nat_lt max_name (length x) || nat_le max_tokens c.tokens) ≡ false →
    took c (for Operand) s (put i (Name x) ∷ is) ≡ run (one_token c) s is
unfolding took run first_broken breaks enter undeclared
item_operand c s x i is h k = rw (h, k) refl

pub bad_operand : (sc : Scope) (d n : ℕ) (s : Stack) (x : List ℕ) (b : Bool) (t t' : Cursor) →
    (first_item t).terminal ≡ Name x → behind t ≡ items t' →
    same (Mark sign.OpenBracket) (first_item t').terminal ≡ b →
    is_operand b (sort_of (context_of sc d n) x) ≡ false →
    took (context_of sc d n) (for Operand) s (items t) ≡ Some (fault_at (first_item t) Undeclared)
bad_operand sc d n s x b t t' e f g h =
    ap (λ (i : Item Terminal). took (context_of sc d n) (for Operand) s (i ∷ behind t))
    (put_is (first_item t) (Name x) e) ∙ ap (λ (is : Items). took (context_of sc d n) (for Operand) s
    (put (first_item t) (Name x) ∷ is)) f
    ∙ item_undeclared (context_of sc d n) s x (first_item t) (items t')
    (undeclared_is (first_item t').terminal (sort_of (context_of sc d n) x) b false g h)

over_operand : (sc : Scope) (d n : ℕ) (s : Stack) (x : List ℕ) (b : Bool) (t t' : Cursor) →
    (first_item t).terminal ≡ Name x → behind t ≡ items t' →
    same (Mark sign.OpenBracket) (first_item t').terminal ≡ b →
    is_operand b (sort_of (context_of sc d n) x) ≡ true →
    (nat_lt max_name (length x) || nat_le max_tokens n) ≡ true →
    took (context_of sc d n) (for Operand) s (items t) ≡ Some (fault_at (first_item t) TooMany)
over_operand sc d n s x b t t' e f g h k =
    ap (λ (i : Item Terminal). took (context_of sc d n) (for Operand) s (i ∷ behind t))
    (put_is (first_item t) (Name x) e) ∙ ap (λ (is : Items). took (context_of sc d n) (for Operand) s
    (put (first_item t) (Name x) ∷ is)) f
    ∙ item_many_operand (context_of sc d n) s x (first_item t) (items t')
    (undeclared_is (first_item t').terminal (sort_of (context_of sc d n) x) b true g h) k

pub long_operand : (sc : Scope) (d n : ℕ) (s : Stack) (x : List ℕ) (b : Bool) (t t' : Cursor) →
    (first_item t).terminal ≡ Name x → behind t ≡ items t' →
    same (Mark sign.OpenBracket) (first_item t').terminal ≡ b →
    is_operand b (sort_of (context_of sc d n) x) ≡ true → max_name < length x →
    took (context_of sc d n) (for Operand) s (items t) ≡ Some (fault_at (first_item t) TooMany)
long_operand sc d n s x b t t' e f g h k = let long : nat_lt max_name (length x) ≡ true =
    grind (arith, nat_tests) in over_operand sc d n s x b t t' e f g h
    (or_left (nat_lt max_name (length x)) (nat_le max_tokens n) long)

pub many_operand : (sc : Scope) (d n : ℕ) (s : Stack) (x : List ℕ) (b : Bool) (t t' : Cursor) →
    (first_item t).terminal ≡ Name x → behind t ≡ items t' →
    same (Mark sign.OpenBracket) (first_item t').terminal ≡ b →
    is_operand b (sort_of (context_of sc d n) x) ≡ true → max_tokens ≤ n →
    took (context_of sc d n) (for Operand) s (items t) ≡ Some (fault_at (first_item t) TooMany)
many_operand sc d n s x b t t' e f g h k = let many : nat_le max_tokens n ≡ true = grind (arith, nat_tests) in
    over_operand sc d n s x b t t' e f g h (or_right (nat_lt max_name (length x)) (nat_le max_tokens n) many)

pub go_operand : (sc : Scope) (d n : ℕ) (s : Stack) (x : List ℕ) (b : Bool) (t t' : Cursor) →
    (first_item t).terminal ≡ Name x → behind t ≡ items t' →
    same (Mark sign.OpenBracket) (first_item t').terminal ≡ b →
    is_operand b (sort_of (context_of sc d n) x) ≡ true → length x ≤ max_name → n < max_tokens →
    took (context_of sc d n) (for Operand) s (items t) ≡ run (context_of sc d (n + 1)) s (items t')
go_operand sc d n s x b t t' e f g h k l =
    let short : nat_lt max_name (length x) ≡ false = grind (arith, nat_tests) in
    let few : nat_le max_tokens n ≡ false = grind (arith, nat_tests) in
    ap (λ (i : Item Terminal). took (context_of sc d n) (for Operand) s (i ∷ behind t))
    (put_is (first_item t) (Name x) e) ∙ ap (λ (is : Items). took (context_of sc d n) (for Operand) s
    (put (first_item t) (Name x) ∷ is)) f
    ∙ item_operand (context_of sc d n) s x (first_item t) (items t')
    (undeclared_is (first_item t').terminal (sort_of (context_of sc d n) x) b true g h)
    (or_from (nat_lt max_name (length x)) (nat_le max_tokens n) short few)
