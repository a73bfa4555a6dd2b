-- The machine behind the line of a directive that a block or loop must follow.
use Rattle.std.proofs.Common.{◌≡◌, ℕ, zero, suc, Bool, arith, true, false, ◌∷◌, Some, None, refl, sym, ap, ◌∙◌}
use Rattle.std.specs.Prelude.{◌==◌, ◌&&◌}
use Rattle.std.proofs.lemmas.Bool.{and_parts, eqb-true}
use Rattle.c_tokens.specs.declared.kind.Sign.TheVariants as sign
use Rattle.base.specs.declared.fault.ReadCode.TheVariants.{NoBody}
use Rattle.c_grammar.specs.Lexeme.{For}
use Rattle.c_grammar.specs.Terminal.{Terminal, Fixed, Mark, same}
use Rattle.c_grammar.specs.Texts.{Item}
use Rattle.c_grammar.specs.Machine.{run as machine_run}
use Rattle.c_grammar.specs.Rules.{Context, breaks, enter, rule_here}
use Rattle.c_grammar.specs.Grammar.{deeper}
use Rattle.c_grammar.specs.Program.{Stack, Under, body, loop, advance, place_code, first_broken}
use Rattle.c_expressions.specs.declared.cursor.Cursor.{Cursor}
use Rattle.c_expressions.specs.declared.scope.Scope.{Scope}
use Rattle.c_expressions.specs.Means.{Items}
use Rattle.c_expressions.specs.Cursor.{items, first_item, behind}
use Rattle.c_expressions.specs.Reading.{run, misfit_at}
use Rattle.c_expressions.specs.Scopes.{context_of}
use Rattle.c_expressions.proofs.Going.{put, put_same, stop_at}

item_brace : (c : Context) (s : Stack) (i : Item Terminal) (is : Items) →
    run c (Under 0 ∷ s) (put i (Mark sign.OpenBrace) ∷ is) ≡ run c (body s) (put i (Mark sign.OpenBrace) ∷ is)
unfolding run machine_run advance first_broken breaks enter
item_brace c s i is = refl

pub under_brace : (c : Context) (s : Stack) (t : Cursor) → same (Mark sign.OpenBrace) (first_item t).terminal ≡ true →
    run c (Under 0 ∷ s) (items t) ≡ run c (body s) (items t)
under_brace c s t e =
    ap (λ (i : Item Terminal). run c (Under 0 ∷ s) (i ∷ behind t)) (put_same (Mark sign.OpenBrace) (first_item t) e)
    ∙ item_brace c s (first_item t) (behind t)
    ∙ ap (λ (i : Item Terminal). run c (body s) (i ∷ behind t)) (sym (put_same (Mark sign.OpenBrace) (first_item t) e))

pub no_nest : (d : ℕ) (b : Bool) → ((d == 0) && b) ≡ true → d ≡ 0
no_nest d b h = eqb-true d 0 (and_parts (d == 0) b h).0

-- where no nest must come
pub block_under : (c : Context) (d : ℕ) (s : Stack) (t : Cursor) →
    ((d == 0) && same (Mark sign.OpenBrace) (first_item t).terminal) ≡ true →
    run c (Under d ∷ s) (items t) ≡ run c (body s) (items t)
block_under c zero s t e = under_brace c s t e
block_under c (suc d) s t e = absurd (omega (arith, no_nest (suc d) (same (Mark sign.OpenBrace) (first_item t).terminal) e))

item_loop : (sc : Scope) (d : ℕ) (s : Stack) (i : Item Terminal) (is : Items) →
    run (context_of sc 0 0) (Under d ∷ s) (put i (Fixed For) ∷ is) ≡ run (context_of sc 0 0) (loop (deeper d) s) is
unfolding run machine_run advance first_broken breaks enter
item_loop sc zero s i is = refl
item_loop sc (suc d) s i is = refl

pub nest_under : (sc : Scope) (d : ℕ) (s : Stack) (t : Cursor) → same (Fixed For) (first_item t).terminal ≡ true →
    run (context_of sc 0 0) (Under d ∷ s) (items t) ≡ run (context_of sc 0 0) (loop (deeper d) s) (behind t)
nest_under sc d s t e =
    ap (λ (i : Item Terminal). run (context_of sc 0 0) (Under d ∷ s) (i ∷ behind t)) (put_same (Fixed For) (first_item t) e)
    ∙ item_loop sc d s (first_item t) (behind t)

pub under_loop : (sc : Scope) (s : Stack) (t : Cursor) → same (Fixed For) (first_item t).terminal ≡ true →
    run (context_of sc 0 0) (Under 0 ∷ s) (items t) ≡ run (context_of sc 0 0) (loop 0 s) (behind t)
under_loop sc s t e = nest_under sc 0 s t e

under_none : (d : ℕ) (s : Stack) (t : Terminal) → ((d == 0) && same (Mark sign.OpenBrace) t) ≡ false →
    same (Fixed For) t ≡ false → advance (Under d ∷ s) t ≡ None
unfolding advance
under_none zero s t e f = rw (e, f) refl
under_none (suc d) s t e f = rw f refl

pub stop_nest : (c : Context) (d : ℕ) (s : Stack) (t : Cursor) →
    ((d == 0) && same (Mark sign.OpenBrace) (first_item t).terminal) ≡ false → same (Fixed For) (first_item t).terminal ≡ false →
    run c (Under d ∷ s) (items t) ≡ Some (misfit_at (Some (rule_here NoBody)) (first_item t))
unfolding place_code
stop_nest c d s t e f = stop_at c (Under d ∷ s) NoBody (first_item t) (behind t) (under_none d s (first_item t).terminal e f) refl

pub stop_under : (c : Context) (s : Stack) (t : Cursor) → same (Mark sign.OpenBrace) (first_item t).terminal ≡ false →
    same (Fixed For) (first_item t).terminal ≡ false →
    run c (Under 0 ∷ s) (items t) ≡ Some (misfit_at (Some (rule_here NoBody)) (first_item t))
stop_under c s t e f = stop_nest c 0 s t e f
