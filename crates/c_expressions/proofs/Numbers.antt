-- Numbers outside expressions.
use Rattle.std.proofs.Common.{◌≡◌, ℕ, ◌+◌, ◌^◌, ◌<◌, ◌≤◌, true, false, eqb, ◌∷◌, Some, None, refl, ap, ◌∙◌, arith}
use Rattle.std.proofs.lemmas.Bool.{or_left, or_right}
use Rattle.std.specs.Prelude.{nat_lt, ◌||◌}
use Rattle.std.proofs.lemmas.Bool.Decides.{nat_tests}
use Rattle.base.specs.declared.fault.ReadCode.TheVariants.{Unexpected, BadNumber, BadOperand}
use Rattle.c_grammar.specs.Terminal.{Terminal, Fixed, Mark, Name, Num, Line, Unknown, Unworked, End}
use Rattle.c_grammar.specs.Texts.{Item}
use Rattle.c_grammar.specs.Machine.{run as machine_run}
use Rattle.c_grammar.specs.Grammar.{Act, Plain, DeclaresGlobal, DeclaresLocal, DeclaresLoop, MakesArray, MakesScalar, Length, Limit, Step, Starts, StartsIf, Prints, Assigned, StartsBlock, Otherwise, Reads, Opens, Closes, Alone, Over, Marks, Boxes, Operand, OpensBracket, ClosesBracket, Divisor, Count, Inner}
use Rattle.c_grammar.specs.Rules.{Context, enter, out, rule_here}
use Rattle.c_grammar.specs.Rules.{breaks}
use Rattle.c_grammar.specs.Program.{Stack, WantNum, advance, place_code, first_broken}
use Rattle.c_expressions.specs.declared.cursor.Cursor.{Cursor}
use Rattle.c_expressions.specs.Means.{Items}
use Rattle.c_expressions.specs.Cursor.{items, first_item, behind}
use Rattle.c_expressions.specs.Scopes.{limited}
use Rattle.c_expressions.specs.Reading.{run, fault_at, misfit_at, IsNumberAct}
use Rattle.c_expressions.proofs.Going.{put, put_is, stop}

item_bad : (act : Act) (c : Context) (s : Stack) (i : Item Terminal) (is : Items) → IsNumberAct act →
    run c (WantNum act ∷ s) (put i (Num None) ∷ is) ≡ Some (fault_at i BadNumber)
unfolding run machine_run advance first_broken breaks
item_bad Plain c s i is h = refl
item_bad Length c s i is h = refl
item_bad Limit c s i is h = refl
item_bad Step c s i is h = refl
item_bad DeclaresGlobal c s i is h = absurd h
item_bad DeclaresLocal c s i is h = absurd h
item_bad DeclaresLoop c s i is h = absurd h
item_bad MakesArray c s i is h = absurd h
item_bad MakesScalar c s i is h = absurd h
item_bad Starts c s i is h = absurd h
item_bad StartsIf c s i is h = absurd h
item_bad Prints c s i is h = absurd h
item_bad Assigned c s i is h = absurd h
item_bad StartsBlock c s i is h = absurd h
item_bad Otherwise c s i is h = absurd h
item_bad Reads c s i is h = absurd h
item_bad Opens c s i is h = absurd h
item_bad Closes c s i is h = absurd h
item_bad Alone c s i is h = absurd h
item_bad Over c s i is h = absurd h
item_bad Marks c s i is h = absurd h
item_bad Boxes c s i is h = absurd h
item_bad Operand c s i is h = absurd h
item_bad OpensBracket c s i is h = absurd h
item_bad ClosesBracket c s i is h = absurd h
item_bad Divisor c s i is h = absurd h
item_bad Count c s i is h = absurd h
item_bad Inner c s i is h = absurd h

pub bad_number : (act : Act) (c : Context) (s : Stack) (t : Cursor) → IsNumberAct act →
    (first_item t).terminal ≡ Num None → run c (WantNum act ∷ s) (items t) ≡
    Some (fault_at (first_item t) BadNumber)
bad_number act c s t h e = ap (λ (i : Item Terminal). run c (WantNum act ∷ s) (i ∷ behind t))
    (put_is (first_item t) (Num None) e) ∙ item_bad act c s (first_item t) (behind t) h

-- a token that is no number
abbrev pub NoNumber : Terminal → Type 0
NoNumber (Num n) = ⊥
NoNumber _ = Unit {0}

number_none : (act : Act) (s : Stack) (t : Terminal) → NoNumber t → advance (WantNum act ∷ s) t ≡ None
unfolding advance
number_none act s (Fixed w) h = refl
number_none act s (Mark x) h = refl
number_none act s (Name x) h = refl
number_none act s (Num n) h = absurd h
number_none act s (Line ts) h = refl
number_none act s Unknown h = refl
number_none act s Unworked h = refl
number_none act s End h = refl

pub stop_number : (act : Act) (c : Context) (s : Stack) (t : Cursor) → NoNumber (first_item t).terminal →
    run c (WantNum act ∷ s) (items t) ≡ Some (misfit_at (Some (rule_here Unexpected)) (first_item t))
unfolding place_code
stop_number act c s t h = stop c (WantNum act ∷ s) (first_item t) (behind t)
    (number_none act s (first_item t).terminal h) refl

-- ---- the number goes

item_plain : (c : Context) (s : Stack) (n : ℕ) (i : Item Terminal) (is : Items) →
    run c (WantNum Plain ∷ s) (put i (Num (Some n)) ∷ is) ≡ run (out c) s is
unfolding run machine_run advance first_broken breaks enter
item_plain c s n i is = refl

pub go_number : (c : Context) (s : Stack) (n : ℕ) (t t' : Cursor) → (first_item t).terminal ≡ Num (Some n) →
    behind t ≡ items t' → run c (WantNum Plain ∷ s) (items t) ≡ run (out c) s (items t')
go_number c s n t t' e b = ap (λ (i : Item Terminal). run c (WantNum Plain ∷ s) (i ∷ behind t))
    (put_is (first_item t) (Num (Some n)) e) ∙ item_plain c s n (first_item t) (behind t) ∙ ap (run (out c) s) b

item_limit : (c : Context) (s : Stack) (n : ℕ) (i : Item Terminal) (is : Items) →
    run c (WantNum Limit ∷ s) (put i (Num (Some n)) ∷ is) ≡ run (limited n c) s is
unfolding run machine_run advance first_broken breaks enter
item_limit c s n i is = refl

pub go_limit : (c : Context) (s : Stack) (n : ℕ) (t t' : Cursor) → (first_item t).terminal ≡ Num (Some n) →
    behind t ≡ items t' → run c (WantNum Limit ∷ s) (items t) ≡ run (limited n c) s (items t')
go_limit c s n t t' e b = ap (λ (i : Item Terminal). run c (WantNum Limit ∷ s) (i ∷ behind t))
    (put_is (first_item t) (Num (Some n)) e) ∙ item_limit c s n (first_item t) (behind t)
    ∙ ap (run (limited n c) s) b

item_step : (l : ℕ) (c : Context) (s : Stack) (n : ℕ) (i : Item Terminal) (is : Items) → eqb n 0 ≡ false →
    nat_lt (2 ^ 64) (l + n) ≡ false → run (limited l c) (WantNum Step ∷ s) (put i (Num (Some n)) ∷ is) ≡
    run (limited l c) s is
unfolding run machine_run advance first_broken breaks enter
item_step l c s n i is z w = rw (z, w) refl

item_bad_step : (l : ℕ) (c : Context) (s : Stack) (n : ℕ) (i : Item Terminal) (is : Items) →
    (eqb n 0 || nat_lt (2 ^ 64) (l + n)) ≡ true → run (limited l c) (WantNum Step ∷ s) (put i (Num (Some n)) ∷ is)
    ≡ Some (fault_at i BadOperand)
unfolding run machine_run advance first_broken breaks enter
item_bad_step l c s n i is h = rw h refl

pub go_step : (l : ℕ) (c : Context) (s : Stack) (n : ℕ) (t t' : Cursor) → (first_item t).terminal ≡ Num (Some n) →
    1 ≤ n → l + n ≤ 2 ^ 64 → behind t ≡ items t' → run (limited l c) (WantNum Step ∷ s) (items t) ≡
    run (limited l c) s (items t')
go_step l c s n t t' e low high b =
    let z : eqb n 0 ≡ false = grind (arith, nat_tests) in
    let w : nat_lt (2 ^ 64) (l + n) ≡ false = grind (arith, nat_tests) in
    ap (λ (i : Item Terminal). run (limited l c) (WantNum Step ∷ s) (i ∷ behind t))
    (put_is (first_item t) (Num (Some n)) e) ∙ item_step l c s n (first_item t) (behind t) z w
    ∙ ap (run (limited l c) s) b

pub zero_step : (l : ℕ) (c : Context) (s : Stack) (n : ℕ) (t : Cursor) → (first_item t).terminal ≡ Num (Some n) →
    n ≡ 0 → run (limited l c) (WantNum Step ∷ s) (items t) ≡ Some (fault_at (first_item t) BadOperand)
zero_step l c s n t e h =
    let z : eqb n 0 ≡ true = grind (arith, nat_tests) in
    ap (λ (i : Item Terminal). run (limited l c) (WantNum Step ∷ s) (i ∷ behind t))
    (put_is (first_item t) (Num (Some n)) e) ∙ item_bad_step l c s n (first_item t) (behind t)
    (or_left (eqb n 0) (nat_lt (2 ^ 64) (l + n)) z)

pub large_step : (l : ℕ) (c : Context) (s : Stack) (n : ℕ) (t : Cursor) → (first_item t).terminal ≡ Num (Some n) →
    2 ^ 64 < l + n → run (limited l c) (WantNum Step ∷ s) (items t) ≡ Some (fault_at (first_item t) BadOperand)
large_step l c s n t e h =
    let w : nat_lt (2 ^ 64) (l + n) ≡ true = grind (arith, nat_tests) in
    ap (λ (i : Item Terminal). run (limited l c) (WantNum Step ∷ s) (i ∷ behind t))
    (put_is (first_item t) (Num (Some n)) e) ∙ item_bad_step l c s n (first_item t) (behind t)
    (or_right (eqb n 0) (nat_lt (2 ^ 64) (l + n)) w)
