-- The machine at the length of an array.
use Rattle.std.proofs.Common.{◌≡◌, ℕ, ◌<◌, ◌≤◌, true, false, eqb, ◌∷◌, Some, refl, ap, ◌∙◌, arith}
use Rattle.std.proofs.lemmas.Bool.{or_left, or_right}
use Rattle.std.specs.Prelude.{nat_lt, ◌||◌}
use Rattle.std.proofs.lemmas.Bool.Decides.{nat_tests}
use Rattle.base.specs.declared.fault.ReadCode.TheVariants.{BadLength}
use Rattle.c_grammar.specs.Terminal.{Terminal, Num}
use Rattle.c_grammar.specs.Texts.{Item}
use Rattle.c_grammar.specs.Machine.{run as machine_run}
use Rattle.c_grammar.specs.Grammar.{Length}
use Rattle.c_grammar.specs.Rules.{Context, breaks, enter, out}
use Rattle.c_grammar.specs.Program.{Stack, WantNum, advance, first_broken}
use Rattle.c_expressions.specs.declared.cursor.Cursor.{Cursor}
use Rattle.c_expressions.specs.declared.scope.Scope.{Scope}
use Rattle.c_expressions.specs.Means.{Items}
use Rattle.c_expressions.specs.Cursor.{items, first_item, behind}
use Rattle.c_expressions.specs.Reading.{run, fault_at}
use Rattle.c_expressions.specs.Scopes.{context_of}
use Rattle.c_expressions.proofs.Going.{put, put_is}
use Rattle.c_read.specs.Globals.{with_cells}

item_length : (c : Context) (n : ℕ) (s : Stack) (i : Item Terminal) (is : Items) → eqb n 0 ≡ false →
    nat_lt 65536 n ≡ false → run c (WantNum Length ∷ s) (put i (Num (Some n)) ∷ is) ≡
    run (record (out c) { cells = n }) s is
unfolding run machine_run advance first_broken breaks enter
item_length c n s i is z l = rw (z, l) refl

item_bad_length : (c : Context) (n : ℕ) (s : Stack) (i : Item Terminal) (is : Items) →
    (eqb n 0 || nat_lt 65536 n) ≡ true → run c (WantNum Length ∷ s) (put i (Num (Some n)) ∷ is) ≡
    Some (fault_at i BadLength)
unfolding run machine_run advance first_broken breaks enter
item_bad_length c n s i is h = rw h refl

pub go_length : (sc : Scope) (n : ℕ) (s : Stack) (t t' : Cursor) → (first_item t).terminal ≡ Num (Some n) →
    1 ≤ n → n ≤ 65536 → behind t ≡ items t' → run (context_of sc 0 0) (WantNum Length ∷ s) (items t) ≡
    run (context_of (with_cells sc n) 0 0) s (items t')
go_length sc n s t t' e low high b =
    let z : eqb n 0 ≡ false = grind (arith, nat_tests) in
    let l : nat_lt 65536 n ≡ false = grind (arith, nat_tests) in
    ap (λ (i : Item Terminal). run (context_of sc 0 0) (WantNum Length ∷ s) (i ∷ behind t)) (put_is (first_item t) (Num (Some n)) e)
    ∙ item_length (context_of sc 0 0) n s (first_item t) (behind t) z l ∙ ap (run (context_of (with_cells sc n) 0 0) s) b

pub zero_length : (c : Context) (n : ℕ) (s : Stack) (t : Cursor) → (first_item t).terminal ≡ Num (Some n) →
    n ≡ 0 → run c (WantNum Length ∷ s) (items t) ≡ Some (fault_at (first_item t) BadLength)
zero_length c n s t e h =
    let z : eqb n 0 ≡ true = grind (arith, nat_tests) in
    ap (λ (i : Item Terminal). run c (WantNum Length ∷ s) (i ∷ behind t)) (put_is (first_item t) (Num (Some n)) e)
    ∙ item_bad_length c n s (first_item t) (behind t) (or_left (eqb n 0) (nat_lt 65536 n) z)

pub large_length : (c : Context) (n : ℕ) (s : Stack) (t : Cursor) → (first_item t).terminal ≡ Num (Some n) →
    65536 < n → run c (WantNum Length ∷ s) (items t) ≡ Some (fault_at (first_item t) BadLength)
large_length c n s t e h =
    let l : nat_lt 65536 n ≡ true = grind (arith, nat_tests) in
    ap (λ (i : Item Terminal). run c (WantNum Length ∷ s) (i ∷ behind t)) (put_is (first_item t) (Num (Some n)) e)
    ∙ item_bad_length c n s (first_item t) (behind t) (or_right (eqb n 0) (nat_lt 65536 n) l)
