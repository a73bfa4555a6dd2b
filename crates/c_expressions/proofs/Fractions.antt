-- The machine at the number behind an operator that takes no other operand.
use Rattle.std.proofs.Common.{◌≡◌, ℕ, ◌+◌, ◌<◌, ◌≤◌, true, false, eqb, ◌∷◌, Some, None, refl, ap, ◌∙◌, arith}
use Rattle.std.specs.Prelude.{nat_lt, nat_le}
use Rattle.std.proofs.lemmas.Bool.Decides.{nat_tests}
use Rattle.base.specs.declared.fault.ReadCode.TheVariants.{BadNumber, BadOperand, TooMany}
use Rattle.base.specs.declared.tree.DivideOp.{DivideOp}
use Rattle.base.specs.declared.tree.DivideOp.TheVariants as divide
use Rattle.base.specs.declared.tree.ShiftOp.{ShiftOp}
use Rattle.base.specs.declared.tree.ShiftOp.TheVariants as shift
use Rattle.c_grammar.specs.Terminal.{Terminal, Fixed, Mark, Name, Num, Line, Unknown, Unworked, End}
use Rattle.c_grammar.specs.Texts.{Item}
use Rattle.c_grammar.specs.Machine.{run as machine_run}
use Rattle.c_grammar.specs.Grammar.{Fraction, ShiftLeft, ShiftRight, Divide, Remainder}
use Rattle.c_grammar.specs.Rules.{Context, breaks, enter, max_tokens, rule_here}
use Rattle.c_grammar.specs.Program.{Stack, Fractional, advance, place_code, first_broken}
use Rattle.c_expressions.specs.declared.cursor.Cursor.{Cursor}
use Rattle.c_expressions.specs.declared.scope.Scope.{Scope}
use Rattle.c_expressions.specs.Means.{Items, divide_of, shift_of}
use Rattle.c_expressions.specs.Cursor.{items, first_item, behind}
use Rattle.c_expressions.specs.Scopes.{context_of}
use Rattle.c_expressions.specs.Reading.{run, fault_at, misfit_at}
use Rattle.c_expressions.proofs.Going.{put, put_is, stop_at}
use Rattle.c_expressions.proofs.Numbers.{NoNumber}
use Rattle.c_expressions.proofs.Spending.{one_token}

-- ---- no good number

item_bad : (op : Fraction) (c : Context) (s : Stack) (i : Item Terminal) (is : Items) →
    run c (Fractional op ∷ s) (put i (Num None) ∷ is) ≡ Some (fault_at i BadNumber)
unfolding run machine_run advance first_broken breaks
item_bad ShiftLeft c s i is = refl
item_bad ShiftRight c s i is = refl
item_bad Divide c s i is = refl
item_bad Remainder c s i is = refl

pub bad_right_number : (op : Fraction) (c : Context) (s : Stack) (t : Cursor) →
    (first_item t).terminal ≡ Num None → run c (Fractional op ∷ s) (items t) ≡
    Some (fault_at (first_item t) BadNumber)
bad_right_number op c s t e = ap (λ (i : Item Terminal). run c (Fractional op ∷ s) (i ∷ behind t))
    (put_is (first_item t) (Num None) e) ∙ item_bad op c s (first_item t) (behind t)

fraction_none : (op : Fraction) (s : Stack) (t : Terminal) → NoNumber t → advance (Fractional op ∷ s) t ≡ None
unfolding advance
fraction_none op s (Fixed w) h = refl
fraction_none op s (Mark x) h = refl
fraction_none op s (Name x) h = refl
fraction_none op s (Num n) h = absurd h
fraction_none op s (Line ts) h = refl
fraction_none op s Unknown h = refl
fraction_none op s Unworked h = refl
fraction_none op s End h = refl

pub stop_right_number : (op : Fraction) (c : Context) (s : Stack) (t : Cursor) → NoNumber (first_item t).terminal →
    run c (Fractional op ∷ s) (items t) ≡ Some (misfit_at (Some (rule_here BadOperand)) (first_item t))
unfolding place_code
stop_right_number op c s t h = stop_at c (Fractional op ∷ s) BadOperand (first_item t) (behind t)
    (fraction_none op s (first_item t).terminal h) refl

-- ---- divisors

item_zero : (o : DivideOp) (c : Context) (s : Stack) (n : ℕ) (i : Item Terminal) (is : Items) → eqb n 0 ≡ true →
    run c (Fractional (divide_of o) ∷ s) (put i (Num (Some n)) ∷ is) ≡ Some (fault_at i BadOperand)
unfolding run machine_run advance first_broken breaks
item_zero divide.Quotient c s n i is h = rw h refl
item_zero divide.Remainder c s n i is h = rw h refl

item_many_divisor : (o : DivideOp) (c : Context) (s : Stack) (n : ℕ) (i : Item Terminal) (is : Items) →
    eqb n 0 ≡ false → nat_le max_tokens c.tokens ≡ true →
    run c (Fractional (divide_of o) ∷ s) (put i (Num (Some n)) ∷ is) ≡ Some (fault_at i TooMany)
unfolding run machine_run advance first_broken breaks
item_many_divisor divide.Quotient c s n i is h k = rw (h, k) refl
item_many_divisor divide.Remainder c s n i is h k = rw (h, k) refl

item_divisor : (o : DivideOp) (c : Context) (s : Stack) (n : ℕ) (i : Item Terminal) (is : Items) →
    eqb n 0 ≡ false → nat_le max_tokens c.tokens ≡ false →
    run c (Fractional (divide_of o) ∷ s) (put i (Num (Some n)) ∷ is) ≡ run (one_token c) s is
unfolding run machine_run advance first_broken breaks enter
item_divisor divide.Quotient c s n i is h k = rw (h, k) refl
item_divisor divide.Remainder c s n i is h k = rw (h, k) refl

pub zero_divisor : (o : DivideOp) (sc : Scope) (d k : ℕ) (s : Stack) (n : ℕ) (t : Cursor) →
    (first_item t).terminal ≡ Num (Some n) → n ≡ 0 → run (context_of sc d k) (Fractional (divide_of o) ∷ s)
    (items t) ≡ Some (fault_at (first_item t) BadOperand)
zero_divisor o sc d k s n t e z =
    let zero : eqb n 0 ≡ true = grind (arith, nat_tests) in
    ap (λ (i : Item Terminal). run (context_of sc d k) (Fractional (divide_of o) ∷ s) (i ∷ behind t))
    (put_is (first_item t) (Num (Some n)) e) ∙ item_zero o (context_of sc d k) s n (first_item t) (behind t)
    zero

pub many_divisor : (o : DivideOp) (sc : Scope) (d k : ℕ) (s : Stack) (n : ℕ) (t : Cursor) →
    (first_item t).terminal ≡ Num (Some n) → 1 ≤ n → max_tokens ≤ k →
    run (context_of sc d k) (Fractional (divide_of o) ∷ s) (items t) ≡ Some (fault_at (first_item t) TooMany)
many_divisor o sc d k s n t e z h =
    let more : eqb n 0 ≡ false = grind (arith, nat_tests) in
    let many : nat_le max_tokens k ≡ true = grind (arith, nat_tests) in
    ap (λ (i : Item Terminal). run (context_of sc d k) (Fractional (divide_of o) ∷ s) (i ∷ behind t))
    (put_is (first_item t) (Num (Some n)) e) ∙ item_many_divisor o (context_of sc d k) s n (first_item t)
    (behind t) more many

pub go_divisor : (o : DivideOp) (sc : Scope) (d k : ℕ) (s : Stack) (n : ℕ) (t t' : Cursor) →
    (first_item t).terminal ≡ Num (Some n) → 1 ≤ n → k < max_tokens → behind t ≡ items t' →
    run (context_of sc d k) (Fractional (divide_of o) ∷ s) (items t) ≡ run (context_of sc d (k + 1)) s (items t')
go_divisor o sc d k s n t t' e z h b =
    let more : eqb n 0 ≡ false = grind (arith, nat_tests) in
    let few : nat_le max_tokens k ≡ false = grind (arith, nat_tests) in
    ap (λ (i : Item Terminal). run (context_of sc d k) (Fractional (divide_of o) ∷ s) (i ∷ behind t))
    (put_is (first_item t) (Num (Some n)) e) ∙ item_divisor o (context_of sc d k) s n (first_item t) (behind t)
    more few
    ∙ ap (run (context_of sc d (k + 1)) s) b

-- ---- shift counts

item_large : (o : ShiftOp) (c : Context) (s : Stack) (n : ℕ) (i : Item Terminal) (is : Items) →
    nat_lt 63 n ≡ true → run c (Fractional (shift_of o) ∷ s) (put i (Num (Some n)) ∷ is) ≡
    Some (fault_at i BadOperand)
unfolding run machine_run advance first_broken breaks
item_large shift.Left c s n i is h = rw h refl
item_large shift.Right c s n i is h = rw h refl

item_many_count : (o : ShiftOp) (c : Context) (s : Stack) (n : ℕ) (i : Item Terminal) (is : Items) →
    nat_lt 63 n ≡ false → nat_le max_tokens c.tokens ≡ true →
    run c (Fractional (shift_of o) ∷ s) (put i (Num (Some n)) ∷ is) ≡ Some (fault_at i TooMany)
unfolding run machine_run advance first_broken breaks
item_many_count shift.Left c s n i is h k = rw (h, k) refl
item_many_count shift.Right c s n i is h k = rw (h, k) refl

item_count : (o : ShiftOp) (c : Context) (s : Stack) (n : ℕ) (i : Item Terminal) (is : Items) →
    nat_lt 63 n ≡ false → nat_le max_tokens c.tokens ≡ false →
    run c (Fractional (shift_of o) ∷ s) (put i (Num (Some n)) ∷ is) ≡ run (one_token c) s is
unfolding run machine_run advance first_broken breaks enter
item_count shift.Left c s n i is h k = rw (h, k) refl
item_count shift.Right c s n i is h k = rw (h, k) refl

pub large_count : (o : ShiftOp) (sc : Scope) (d k : ℕ) (s : Stack) (n : ℕ) (t : Cursor) →
    (first_item t).terminal ≡ Num (Some n) → 63 < n →
    run (context_of sc d k) (Fractional (shift_of o) ∷ s) (items t) ≡ Some (fault_at (first_item t) BadOperand)
large_count o sc d k s n t e z =
    let large : nat_lt 63 n ≡ true = grind (arith, nat_tests) in
    ap (λ (i : Item Terminal). run (context_of sc d k) (Fractional (shift_of o) ∷ s) (i ∷ behind t))
    (put_is (first_item t) (Num (Some n)) e) ∙ item_large o (context_of sc d k) s n (first_item t) (behind t)
    large

pub many_count : (o : ShiftOp) (sc : Scope) (d k : ℕ) (s : Stack) (n : ℕ) (t : Cursor) →
    (first_item t).terminal ≡ Num (Some n) → n ≤ 63 → max_tokens ≤ k →
    run (context_of sc d k) (Fractional (shift_of o) ∷ s) (items t) ≡ Some (fault_at (first_item t) TooMany)
many_count o sc d k s n t e z h =
    let fits : nat_lt 63 n ≡ false = grind (arith, nat_tests) in
    let many : nat_le max_tokens k ≡ true = grind (arith, nat_tests) in
    ap (λ (i : Item Terminal). run (context_of sc d k) (Fractional (shift_of o) ∷ s) (i ∷ behind t))
    (put_is (first_item t) (Num (Some n)) e) ∙ item_many_count o (context_of sc d k) s n (first_item t)
    (behind t) fits many

pub go_count : (o : ShiftOp) (sc : Scope) (d k : ℕ) (s : Stack) (n : ℕ) (t t' : Cursor) →
    (first_item t).terminal ≡ Num (Some n) → n ≤ 63 → k < max_tokens → behind t ≡ items t' →
    run (context_of sc d k) (Fractional (shift_of o) ∷ s) (items t) ≡ run (context_of sc d (k + 1)) s (items t')
go_count o sc d k s n t t' e z h b =
    let fits : nat_lt 63 n ≡ false = grind (arith, nat_tests) in
    let few : nat_le max_tokens k ≡ false = grind (arith, nat_tests) in
    ap (λ (i : Item Terminal). run (context_of sc d k) (Fractional (shift_of o) ∷ s) (i ∷ behind t))
    (put_is (first_item t) (Num (Some n)) e) ∙ item_count o (context_of sc d k) s n (first_item t) (behind t)
    fits few
    ∙ ap (run (context_of sc d (k + 1)) s) b
