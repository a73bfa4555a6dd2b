-- One token further, or not.
use Rattle.std.proofs.Common.{◌≡◌, ℕ, ◌≤◌, true, false, List, ◌∷◌, length, Some, None, refl, sym, ap, ◌∙◌, arith}
use Rattle.std.specs.Prelude.{nat_lt}
use Rattle.std.proofs.lemmas.Bool.Decides.{nat_tests}
use Rattle.c_tokens.specs.declared.kind.Sign.{Sign}
use Rattle.base.specs.declared.fault.ReadCode.{ReadCode as Code}
use Rattle.base.specs.declared.fault.ReadCode.TheVariants.{Unexpected}
use Rattle.c_grammar.specs.Lexeme.{Word}
use Rattle.c_grammar.specs.LineRules.{max_name}
use Rattle.c_grammar.specs.Terminal.{Terminal, Fixed, Mark, Name, same}
use Rattle.c_grammar.specs.Texts.{Item}
use Rattle.c_grammar.specs.Machine.{run as machine_run}
use Rattle.c_grammar.specs.Grammar.{Act, Plain, for}
use Rattle.c_grammar.specs.Rules.{Context, enter, out, rule_here}
use Rattle.c_grammar.specs.Rules.{breaks}
use Rattle.c_grammar.specs.Program.{Want, Stack, m, w, advance, place_code, first_broken}
use Rattle.c_expressions.specs.declared.cursor.Cursor.{Cursor}
use Rattle.c_expressions.specs.Means.{Items}
use Rattle.c_expressions.specs.Cursor.{items, first_item, behind}
use Rattle.c_expressions.specs.Reading.{run, misfit_at}
use Rattle.c_grammar.proofs.Terminals.{same-true, same_name}
use Rattle.c_expressions.proofs.Terminals.{same_mark, same_fixed}

abbrev pub put : Item Terminal → Terminal → Item Terminal
put i t = record { terminal = t; line = i.line; column = i.column; columns = i.columns }

pub put_same : (u : Terminal) (i : Item Terminal) → same u i.terminal ≡ true → i ≡ put i u
put_same u i e = ap (put i) (sym (same-true u i.terminal e))

pub put_is : (i : Item Terminal) (u : Terminal) → i.terminal ≡ u → i ≡ put i u
put_is i u e = ap (put i) e

-- where a token may not come
pub stop : (c : Context) (s : Stack) (i : Item Terminal) (is : Items) → advance s i.terminal ≡ None →
    place_code s ≡ None → run c s (i ∷ is) ≡ Some (misfit_at (Some (rule_here Unexpected)) i)
unfolding run machine_run misfit_at
stop c s i is e p = rw (e, p) refl

-- where the place has a code of its own
pub stop_at : (c : Context) (s : Stack) (code : Code) (i : Item Terminal) (is : Items) →
    advance s i.terminal ≡ None → place_code s ≡ Some code →
    run c s (i ∷ is) ≡ Some (misfit_at (Some (rule_here code)) i)
unfolding run machine_run misfit_at
stop_at c s code i is e p = rw (e, p) refl

stop_any : (c : Context) (s : Stack) (u : Terminal) (act : Act) (t : Cursor) →
    same u (first_item t).terminal ≡ false → run c (Want u (for act) ∷ s) (items t) ≡
    Some (misfit_at (Some (rule_here Unexpected)) (first_item t))
unfolding advance place_code
stop_any c s u act t e = stop c (Want u (for act) ∷ s) (first_item t) (behind t) (rw e refl) refl

pub stop_want : (c : Context) (s : Stack) (x : Sign) (act : Act) (t : Cursor) →
    same (Mark x) (first_item t).terminal ≡ false → run c (Want (Mark x) (for act) ∷ s) (items t) ≡
    Some (misfit_at (Some (rule_here Unexpected)) (first_item t))
stop_want c s x act t e = stop_any c s (Mark x) act t e

pub stop_fixed : (c : Context) (s : Stack) (x : Word) (act : Act) (t : Cursor) →
    same (Fixed x) (first_item t).terminal ≡ false → run c (Want (Fixed x) (for act) ∷ s) (items t) ≡
    Some (misfit_at (Some (rule_here Unexpected)) (first_item t))
stop_fixed c s x act t e = stop_any c s (Fixed x) act t e

pub stop_named : (c : Context) (s : Stack) (x : List ℕ) (act : Act) (t : Cursor) →
    same (Name x) (first_item t).terminal ≡ false → run c (Want (Name x) (for act) ∷ s) (items t) ≡
    Some (misfit_at (Some (rule_here Unexpected)) (first_item t))
stop_named c s x act t e = stop_any c s (Name x) act t e

-- where it may
item_plain : (c : Context) (s : Stack) (x : Sign) (i : Item Terminal) (is : Items) →
    run c (m x ∷ s) (put i (Mark x) ∷ is) ≡ run (out c) s is
unfolding run machine_run advance first_broken breaks enter
item_plain c s x i is = rw (same_mark x) refl

item_fixed : (c : Context) (s : Stack) (x : Word) (i : Item Terminal) (is : Items) →
    run c (w x ∷ s) (put i (Fixed x) ∷ is) ≡ run (out c) s is
unfolding run machine_run advance first_broken breaks enter
item_fixed c s x i is = rw (same_fixed x) refl

item_named : (c : Context) (s : Stack) (x : List ℕ) (i : Item Terminal) (is : Items) →
    nat_lt max_name (length x) ≡ false → run c (Want (Name x) (for Plain) ∷ s) (put i (Name x) ∷ is) ≡
    run (out c) s is
unfolding run machine_run advance first_broken breaks enter
item_named c s x i is h = rw (same_name x, h) refl

pub go_plain : (c : Context) (s : Stack) (x : Sign) (t t' : Cursor) →
    same (Mark x) (first_item t).terminal ≡ true → behind t ≡ items t' →
    run c (m x ∷ s) (items t) ≡ run (out c) s (items t')
go_plain c s x t t' e b = ap (λ (i : Item Terminal). run c (m x ∷ s) (i ∷ behind t))
    (put_same (Mark x) (first_item t) e) ∙ item_plain c s x (first_item t) (behind t) ∙ ap (run (out c) s) b

pub go_fixed : (c : Context) (s : Stack) (x : Word) (t t' : Cursor) →
    same (Fixed x) (first_item t).terminal ≡ true → behind t ≡ items t' →
    run c (w x ∷ s) (items t) ≡ run (out c) s (items t')
go_fixed c s x t t' e b = ap (λ (i : Item Terminal). run c (w x ∷ s) (i ∷ behind t))
    (put_same (Fixed x) (first_item t) e) ∙ item_fixed c s x (first_item t) (behind t) ∙ ap (run (out c) s) b

pub go_named : (c : Context) (s : Stack) (x : List ℕ) (t t' : Cursor) → length x ≤ max_name →
    same (Name x) (first_item t).terminal ≡ true → behind t ≡ items t' →
    run c (Want (Name x) (for Plain) ∷ s) (items t) ≡ run (out c) s (items t')
go_named c s x t t' h e b =
    let short : nat_lt max_name (length x) ≡ false = grind (arith, nat_tests) in
    ap (λ (i : Item Terminal). run c (Want (Name x) (for Plain) ∷ s) (i ∷ behind t))
    (put_same (Name x) (first_item t) e) ∙ item_named c s x (first_item t) (behind t) short
    ∙ ap (run (out c) s) b

pub went : (x : Terminal) (t : Cursor) → same x (first_item t).terminal ≡ true → (first_item t).terminal ≡ x
went x t e = sym (same-true x (first_item t).terminal e)

pub was_mark : (x : Sign) (t : Cursor) → same (Mark x) (first_item t).terminal ≡ true →
    (first_item t).terminal ≡ Mark x
was_mark x t e = went (Mark x) t e
