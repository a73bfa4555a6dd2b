-- The machine at the words and braces with which blocks begin and end.
use Rattle.std.proofs.Common.{◌≡◌, ℕ, ◌<◌, ◌≤◌, true, false, List, ◌∷◌, length, reverse, Option, Some, None, refl, sym, ap, ◌∙◌, arith}
use Rattle.std.specs.Prelude.{nat_lt, nat_le}
use Rattle.std.proofs.lemmas.List.{length-map, length-reverse}
use Rattle.std.proofs.lemmas.Bool.Decides.{nat_tests}
use Rattle.c_tokens.specs.declared.kind.Sign.TheVariants as sign
use Rattle.base.specs.declared.fault.ReadCode.TheVariants.{Unexpected, TooDeep, TooMany}
use Rattle.c_grammar.specs.Lexeme.{Word, If, Else}
use Rattle.c_grammar.specs.Terminal.{Terminal, Fixed, Mark, same}
use Rattle.c_grammar.specs.Texts.{Item}
use Rattle.c_grammar.specs.Machine.{run as machine_run}
use Rattle.c_grammar.specs.Grammar.{Starts, StartsIf, StartsBlock, Opens, for}
use Rattle.c_grammar.specs.Rules.{Context, breaks, enter, out, begun, opened, below, max_braces, max_statements, rule_here}
use Rattle.c_grammar.specs.Program.{Stack, Want, Body, OrElse, body, advance, place_code, first_broken}
use Rattle.c_expressions.specs.declared.cursor.Cursor.{Cursor}
use Rattle.c_expressions.specs.declared.scope.Scope.{Scope}
use Rattle.c_expressions.specs.Means.{Items}
use Rattle.c_expressions.specs.Cursor.{items, first_item, behind}
use Rattle.c_expressions.specs.Reading.{run, took, fault_at, misfit_at}
use Rattle.c_expressions.specs.Scopes.{context_of, frames_of, seen_frame}
use Rattle.c_expressions.proofs.Going.{put, put_is, put_same, stop_want}
use Rattle.c_expressions.proofs.Terms.{same_run}
use Rattle.c_statements.specs.Simple.{counted}
use Rattle.c_statements.specs.Blocks.{turned, choosing, under_if}

frames_length : (sc : Scope) → length (frames_of sc) ≡ length sc.frames.items
frames_length sc = length-map (reverse sc.frames.items) seen_frame ∙ length-reverse sc.frames.items

-- ---- the brace of a body

item_deep : (c : Context) (s : Stack) (i : Item Terminal) (is : Items) → nat_lt max_braces (length c.frames) ≡
    true → run c (Want (Mark sign.OpenBrace) (for Opens) ∷ s) (put i (Mark sign.OpenBrace) ∷ is) ≡
    Some (fault_at i TooDeep)
unfolding run machine_run advance first_broken breaks
item_deep c s i is h = rw h refl

item_opens : (c : Context) (s : Stack) (i : Item Terminal) (is : Items) → nat_lt max_braces (length c.frames) ≡
    false → run c (Want (Mark sign.OpenBrace) (for Opens) ∷ s) (put i (Mark sign.OpenBrace) ∷ is) ≡
    run (opened (out c)) s is
unfolding run machine_run advance first_broken breaks enter
item_opens c s i is h = rw h refl

pub stop_opens : (sc : Scope) (y : Option (List ℕ)) (s : Stack) (t : Cursor) →
    same (Mark sign.OpenBrace) (first_item t).terminal ≡ false →
    run (turned y sc) (Want (Mark sign.OpenBrace) (for Opens) ∷ s) (items t) ≡
    Some (misfit_at (Some (rule_here Unexpected)) (first_item t))
stop_opens sc y s t e = stop_want (turned y sc) s sign.OpenBrace Opens t e

pub deep_opens : (sc : Scope) (y : Option (List ℕ)) (s : Stack) (t : Cursor) →
    same (Mark sign.OpenBrace) (first_item t).terminal ≡ true → max_braces < length sc.frames.items →
    run (turned y sc) (Want (Mark sign.OpenBrace) (for Opens) ∷ s) (items t) ≡ Some (fault_at (first_item t) TooDeep)
deep_opens sc y s t e h =
    let n : length (frames_of sc) ≡ length sc.frames.items = frames_length sc in
    let deep : nat_lt max_braces (length (frames_of sc)) ≡ true = ap (nat_lt max_braces) n ∙ grind (arith, nat_tests) in
    ap (λ (i : Item Terminal). run (turned y sc) (Want (Mark sign.OpenBrace) (for Opens) ∷ s) (i ∷ behind t))
    (put_same (Mark sign.OpenBrace) (first_item t) e) ∙ item_deep (turned y sc) s (first_item t) (behind t) deep

pub go_opens : (old new : Scope) (y : Option (List ℕ)) (s : Stack) (t t' : Cursor) →
    same (Mark sign.OpenBrace) (first_item t).terminal ≡ true → length old.frames.items ≤ max_braces → behind t ≡
    items t' → context_of new 0 0 ≡ opened (turned y old) → run (turned y old)
    (Want (Mark sign.OpenBrace) (for Opens) ∷ s) (items t) ≡ run (context_of new 0 0) s (items t')
go_opens old new y s t t' e h b k =
    let n : length (frames_of old) ≡ length old.frames.items = frames_length old in
    let low : nat_lt max_braces (length (frames_of old)) ≡ false = ap (nat_lt max_braces) n
    ∙ grind (arith, nat_tests) in
    ap (λ (i : Item Terminal). run (turned y old) (Want (Mark sign.OpenBrace) (for Opens) ∷ s) (i ∷ behind t))
    (put_same (Mark sign.OpenBrace) (first_item t) e) ∙ item_opens (turned y old) s (first_item t) (behind t) low
    ∙ ap (run (opened (turned y old)) s) b ∙ ap (λ (c : Context). run c s (items t')) (sym k)

-- ---- the brace that ends a block

item_closes : (c : Context) (s : Stack) (i : Item Terminal) (is : Items) →
    run c (Body ∷ s) (put i (Mark sign.CloseBrace) ∷ is) ≡ run (record (out c) { frames = below c.frames }) s is
unfolding run machine_run advance first_broken breaks enter
item_closes c s i is = refl

pub go_closes : (old new : Scope) (s : Stack) (t t' : Cursor) → (first_item t).terminal ≡ Mark sign.CloseBrace →
    behind t ≡ items t' → context_of new 0 0 ≡ record (context_of old 0 0) { frames = below (frames_of old) } →
    run (context_of old 0 0) (Body ∷ s) (items t) ≡ run (context_of new 0 0) s (items t')
go_closes old new s t t' e b k =
    ap (λ (i : Item Terminal). run (context_of old 0 0) (Body ∷ s) (i ∷ behind t))
    (put_is (first_item t) (Mark sign.CloseBrace) e) ∙ item_closes (context_of old 0 0) s (first_item t)
    (behind t)
    ∙ ap (run (record (context_of old 0 0) { frames = below (frames_of old) }) s) b
    ∙ ap (λ (c : Context). run c s (items t')) (sym k)

-- ---- the words for and if

item_many_starts : (c : Context) (s : Stack) (w : Word) (i : Item Terminal) (is : Items) →
    nat_le max_statements c.statements ≡ true → took c (for Starts) s (put i (Fixed w) ∷ is) ≡
    Some (fault_at i TooMany)
unfolding took first_broken breaks
item_many_starts c s w i is h = rw h refl

item_starts : (c : Context) (s : Stack) (w : Word) (i : Item Terminal) (is : Items) →
    nat_le max_statements c.statements ≡ false → took c (for Starts) s (put i (Fixed w) ∷ is) ≡
    run (begun (out c)) s is
unfolding took run first_broken breaks enter
item_starts c s w i is h = rw h refl

item_many_ifs : (c : Context) (s : Stack) (i : Item Terminal) (is : Items) → nat_le max_statements c.statements ≡
    true → took c (for StartsIf) s (put i (Fixed If) ∷ is) ≡ Some (fault_at i TooMany)
unfolding took first_broken breaks
item_many_ifs c s i is h = rw h refl

item_ifs : (c : Context) (s : Stack) (i : Item Terminal) (is : Items) → nat_le max_statements c.statements ≡ false →
    took c (for StartsIf) s (put i (Fixed If) ∷ is) ≡ run (record (begun (out c)) { choice = true }) s is
unfolding took run first_broken breaks enter
item_ifs c s i is h = rw h refl

pub many_starts : (sc : Scope) (w : Word) (s : Stack) (t : Cursor) → (first_item t).terminal ≡ Fixed w →
    max_statements ≤ sc.statements → took (context_of sc 0 0) (for Starts) s (items t) ≡
    Some (fault_at (first_item t) TooMany)
many_starts sc w s t e h =
    let many : nat_le max_statements sc.statements ≡ true = grind (arith, nat_tests) in
    ap (λ (i : Item Terminal). took (context_of sc 0 0) (for Starts) s (i ∷ behind t))
    (put_is (first_item t) (Fixed w) e) ∙ item_many_starts (context_of sc 0 0) s w (first_item t) (behind t) many

pub go_starts : (sc : Scope) (w : Word) (s : Stack) (t t' : Cursor) → (first_item t).terminal ≡ Fixed w →
    sc.statements < max_statements → behind t ≡ items t' → took (context_of sc 0 0) (for Starts) s (items t) ≡
    run (context_of (counted sc) 0 0) s (items t')
go_starts sc w s t t' e h b =
    let few : nat_le max_statements sc.statements ≡ false = grind (arith, nat_tests) in
    ap (λ (i : Item Terminal). took (context_of sc 0 0) (for Starts) s (i ∷ behind t))
    (put_is (first_item t) (Fixed w) e) ∙ item_starts (context_of sc 0 0) s w (first_item t) (behind t) few
    ∙ ap (run (context_of (counted sc) 0 0) s) b

pub many_ifs : (sc : Scope) (s : Stack) (t : Cursor) → (first_item t).terminal ≡ Fixed If →
    max_statements ≤ sc.statements → took (context_of sc 0 0) (for StartsIf) s (items t) ≡
    Some (fault_at (first_item t) TooMany)
many_ifs sc s t e h =
    let many : nat_le max_statements sc.statements ≡ true = grind (arith, nat_tests) in
    ap (λ (i : Item Terminal). took (context_of sc 0 0) (for StartsIf) s (i ∷ behind t))
    (put_is (first_item t) (Fixed If) e) ∙ item_many_ifs (context_of sc 0 0) s (first_item t) (behind t) many

pub go_ifs : (sc : Scope) (s : Stack) (t t' : Cursor) → (first_item t).terminal ≡ Fixed If →
    sc.statements < max_statements → behind t ≡ items t' → took (context_of sc 0 0) (for StartsIf) s (items t) ≡
    run (context_of (choosing sc) 0 0) s (items t')
go_ifs sc s t t' e h b =
    let few : nat_le max_statements sc.statements ≡ false = grind (arith, nat_tests) in
    ap (λ (i : Item Terminal). took (context_of sc 0 0) (for StartsIf) s (i ∷ behind t))
    (put_is (first_item t) (Fixed If) e) ∙ item_ifs (context_of sc 0 0) s (first_item t) (behind t) few
    ∙ ap (run (context_of (choosing sc) 0 0) s) b

-- ---- the brace with which a statement begins

item_deep_block : (c : Context) (s : Stack) (i : Item Terminal) (is : Items) → nat_lt max_braces (length c.frames) ≡
    true → took c (for StartsBlock) s (put i (Mark sign.OpenBrace) ∷ is) ≡ Some (fault_at i TooDeep)
unfolding took first_broken breaks
item_deep_block c s i is h = rw h refl

item_many_block : (c : Context) (s : Stack) (i : Item Terminal) (is : Items) → nat_lt max_braces (length c.frames) ≡
    false → nat_le max_statements c.statements ≡ true → took c (for StartsBlock) s
    (put i (Mark sign.OpenBrace) ∷ is) ≡ Some (fault_at i TooMany)
unfolding took first_broken breaks
item_many_block c s i is h k = rw (h, k) refl

item_block : (c : Context) (s : Stack) (i : Item Terminal) (is : Items) → nat_lt max_braces (length c.frames) ≡
    false → nat_le max_statements c.statements ≡ false → took c (for StartsBlock) s
    (put i (Mark sign.OpenBrace) ∷ is) ≡ run (opened (begun (out c))) s is
unfolding took run first_broken breaks enter
item_block c s i is h k = rw (h, k) refl

low_frames : (sc : Scope) → length sc.frames.items ≤ max_braces → nat_lt max_braces (length (frames_of sc)) ≡ false
low_frames sc h = ap (nat_lt max_braces) (frames_length sc) ∙ grind (arith, nat_tests)

pub deep_block : (sc : Scope) (s : Stack) (t : Cursor) → (first_item t).terminal ≡ Mark sign.OpenBrace →
    max_braces < length sc.frames.items → took (context_of sc 0 0) (for StartsBlock) s (items t) ≡
    Some (fault_at (first_item t) TooDeep)
deep_block sc s t e h =
    let deep : nat_lt max_braces (length (frames_of sc)) ≡ true = ap (nat_lt max_braces) (frames_length sc)
    ∙ grind (arith, nat_tests) in
    ap (λ (i : Item Terminal). took (context_of sc 0 0) (for StartsBlock) s (i ∷ behind t))
    (put_is (first_item t) (Mark sign.OpenBrace) e) ∙ item_deep_block (context_of sc 0 0) s (first_item t)
    (behind t) deep

pub many_block : (sc : Scope) (s : Stack) (t : Cursor) → (first_item t).terminal ≡ Mark sign.OpenBrace →
    length sc.frames.items ≤ max_braces → max_statements ≤ sc.statements →
    took (context_of sc 0 0) (for StartsBlock) s (items t) ≡ Some (fault_at (first_item t) TooMany)
many_block sc s t e h k =
    let many : nat_le max_statements sc.statements ≡ true = grind (arith, nat_tests) in
    ap (λ (i : Item Terminal). took (context_of sc 0 0) (for StartsBlock) s (i ∷ behind t))
    (put_is (first_item t) (Mark sign.OpenBrace) e) ∙ item_many_block (context_of sc 0 0) s (first_item t)
    (behind t) (low_frames sc h) many

pub go_block : (old new : Scope) (s : Stack) (t t' : Cursor) → (first_item t).terminal ≡ Mark sign.OpenBrace →
    length old.frames.items ≤ max_braces → old.statements < max_statements → behind t ≡ items t' →
    context_of new 0 0 ≡ opened (turned None (counted old)) →
    took (context_of old 0 0) (for StartsBlock) s (items t) ≡ run (context_of new 0 0) s (items t')
go_block old new s t t' e h k b q =
    let few : nat_le max_statements old.statements ≡ false = grind (arith, nat_tests) in
    ap (λ (i : Item Terminal). took (context_of old 0 0) (for StartsBlock) s (i ∷ behind t))
    (put_is (first_item t) (Mark sign.OpenBrace) e) ∙ item_block (context_of old 0 0) s (first_item t)
    (behind t) (low_frames old h) few
    ∙ ap (run (opened (turned None (counted old))) s) b ∙ ap (λ (c : Context). run c s (items t')) (sym q)

-- ---- the word else

item_else : (c : Context) (s : Stack) (i : Item Terminal) (is : Items) →
    run c (OrElse ∷ s) (put i (Fixed Else) ∷ is) ≡ run (record (out c) { choice = true }) (body s) is
unfolding run machine_run advance first_broken breaks enter
item_else c s i is = refl

pub go_else : (sc : Scope) (s : Stack) (t t' : Cursor) → (first_item t).terminal ≡ Fixed Else → behind t ≡
    items t' → run (context_of sc 0 0) (OrElse ∷ s) (items t) ≡ run (context_of (under_if sc) 0 0) (body s) (items t')
go_else sc s t t' e b =
    ap (λ (i : Item Terminal). run (context_of sc 0 0) (OrElse ∷ s) (i ∷ behind t))
    (put_is (first_item t) (Fixed Else) e) ∙ item_else (context_of sc 0 0) s (first_item t) (behind t)
    ∙ ap (run (context_of (under_if sc) 0 0) (body s)) b

no_else_step : (s : Stack) (t : Terminal) → same (Fixed Else) t ≡ false → advance (OrElse ∷ s) t ≡ advance s t
unfolding advance
no_else_step s t e = rw e refl

-- without it the branch is over
pub no_else : (c : Context) (s : Stack) (t : Cursor) → same (Fixed Else) (first_item t).terminal ≡ false →
    place_code s ≡ None → run c (OrElse ∷ s) (items t) ≡ run c s (items t)
unfolding place_code
no_else c s t e p = same_run c (OrElse ∷ s) s (first_item t) (behind t) (no_else_step s (first_item t).terminal e)
    (sym p)
