-- The machine and the reader at declarations.
use Rattle.std.proofs.Common.{◌≡◌, ℕ, ◌+◌, ◌<◌, ◌≤◌, true, false, List, ◌∷◌, length, Option, Some, None, refl, sym, ap, ◌∙◌, arith}
use Rattle.std.proofs.lemmas.Bool.{or_left, or_right, or_from}
use Rattle.std.specs.Prelude.{nat_lt, nat_le, ◌||◌}
use Rattle.std.specs.Borrow.{Bor}
use Rattle.std.proofs.lemmas.Bool.Decides.{nat_tests}
use Rattle.c_tokens.specs.declared.kind.Sign.TheVariants as sign
use Rattle.base.specs.declared.fault.ReadCode.TheVariants.{Unexpected, AlreadyDeclared, TooMany}
use Rattle.base.specs.declared.tree.ArrayId.{ArrayId}
use Rattle.base.specs.declared.tree.ScalarId.{ScalarId}
use Rattle.c_grammar.specs.LineRules.{max_name}
use Rattle.c_grammar.specs.Terminal.{Terminal, Fixed, Mark, Name, Num, Line, Unknown, Unworked, End}
use Rattle.c_grammar.specs.Texts.{Item}
use Rattle.c_grammar.specs.Machine.{run as machine_run}
use Rattle.c_grammar.specs.Grammar.{DeclaresLocal}
use Rattle.c_grammar.specs.Rules.{Context, Sort, breaks, enter, out, declared, inside, scalar_sort, is_visible, sort_of, max_scalars, rule_here}
use Rattle.c_grammar.specs.Program.{Stack, WantName, advance, place_code, first_broken}
use Rattle.c_expressions.specs.declared.cursor.Cursor.{Cursor}
use Rattle.c_expressions.specs.declared.scope.Scope.{Scope}
use Rattle.c_expressions.specs.Means.{Items}
use Rattle.c_expressions.specs.Cursor.{items, first_item, behind}
use Rattle.c_expressions.specs.Reading.{run, fault_at, misfit_at}
use Rattle.c_expressions.specs.Scopes.{context_of, fresh_name, sort_of_meaning}
use Rattle.c_expressions.proofs.Going.{put, put_is, stop}
use Rattle.c_statements.specs.Bodies.{naming}
use Rattle.c_statements.specs.Simple.{ending, env_of}
use Rattle.c_statements.specs.Statements.{box_for, scalar_or_box}
use Rattle.c_statements.proofs.Boxing.{boxed_sort}
use Rattle.c_statements.proofs.Heads.{NoName}

-- ---- the name

item_known : (c : Context) (s : Stack) (x : List ℕ) (i : Item Terminal) (is : Items) → is_visible (sort_of c x) ≡
    true → run c (WantName DeclaresLocal ∷ s) (put i (Name x) ∷ is) ≡ Some (fault_at i AlreadyDeclared)
unfolding run machine_run advance first_broken breaks
item_known c s x i is h = rw h refl

item_many : (c : Context) (s : Stack) (x : List ℕ) (i : Item Terminal) (is : Items) → is_visible (sort_of c x) ≡
    false → (nat_lt max_name (length x) || nat_le max_scalars c.scalars) ≡ true →
    run c (WantName DeclaresLocal ∷ s) (put i (Name x) ∷ is) ≡ Some (fault_at i TooMany)
unfolding run machine_run advance first_broken breaks
item_many c s x i is h k = rw (h, k) refl

abbrev pub named_next : List ℕ → Context → Context
named_next x c = record (out c) { fresh = Some x }

item_local : (c : Context) (s : Stack) (x : List ℕ) (i : Item Terminal) (is : Items) → is_visible (sort_of c x) ≡
    false → (nat_lt max_name (length x) || nat_le max_scalars c.scalars) ≡ false →
    run c (WantName DeclaresLocal ∷ s) (put i (Name x) ∷ is) ≡ run (named_next x c) s is
unfolding run machine_run advance first_broken breaks enter
item_local c s x i is h k = rw (h, k) refl

pub bad_local : (sc : Scope) (s : Stack) (x : List ℕ) (t : Cursor) → (first_item t).terminal ≡ Name x →
    is_visible (sort_of (context_of sc 0 0) x) ≡ true → run (context_of sc 0 0) (WantName DeclaresLocal ∷ s)
    (items t) ≡ Some (fault_at (first_item t) AlreadyDeclared)
bad_local sc s x t e h = ap (λ (i : Item Terminal). run (context_of sc 0 0) (WantName DeclaresLocal ∷ s)
    (i ∷ behind t)) (put_is (first_item t) (Name x) e) ∙ item_known (context_of sc 0 0) s x (first_item t)
    (behind t) h

pub long_local : (sc : Scope) (s : Stack) (x : List ℕ) (t : Cursor) → (first_item t).terminal ≡ Name x →
    is_visible (sort_of (context_of sc 0 0) x) ≡ false → max_name < length x →
    run (context_of sc 0 0) (WantName DeclaresLocal ∷ s) (items t) ≡ Some (fault_at (first_item t) TooMany)
long_local sc s x t e h k =
    let long : nat_lt max_name (length x) ≡ true = grind (arith, nat_tests) in
    ap (λ (i : Item Terminal). run (context_of sc 0 0) (WantName DeclaresLocal ∷ s) (i ∷ behind t))
    (put_is (first_item t) (Name x) e) ∙ item_many (context_of sc 0 0) s x (first_item t) (behind t) h
    (or_left (nat_lt max_name (length x)) (nat_le max_scalars sc.scalars) long)

pub many_local : (sc : Scope) (s : Stack) (x : List ℕ) (t : Cursor) → (first_item t).terminal ≡ Name x →
    is_visible (sort_of (context_of sc 0 0) x) ≡ false → max_scalars ≤ sc.scalars →
    run (context_of sc 0 0) (WantName DeclaresLocal ∷ s) (items t) ≡ Some (fault_at (first_item t) TooMany)
many_local sc s x t e h k =
    let many : nat_le max_scalars sc.scalars ≡ true = grind (arith, nat_tests) in
    ap (λ (i : Item Terminal). run (context_of sc 0 0) (WantName DeclaresLocal ∷ s) (i ∷ behind t))
    (put_is (first_item t) (Name x) e) ∙ item_many (context_of sc 0 0) s x (first_item t) (behind t) h
    (or_right (nat_lt max_name (length x)) (nat_le max_scalars sc.scalars) many)

pub go_local : (sc : Scope) (s : Stack) (x : Bor (List ℕ)) (t t' : Cursor) → (first_item t).terminal ≡ Name x.now →
    is_visible (sort_of (context_of sc 0 0) x.now) ≡ false → length x.now ≤ max_name → sc.scalars < max_scalars →
    behind t ≡ items t' → run (context_of sc 0 0) (WantName DeclaresLocal ∷ s) (items t) ≡
    run (context_of (naming sc x) 0 0) s (items t')
go_local sc s x t t' e h k l d =
    let short : nat_lt max_name (length x.now) ≡ false = grind (arith, nat_tests) in
    let few : nat_le max_scalars sc.scalars ≡ false = grind (arith, nat_tests) in
    ap (λ (i : Item Terminal). run (context_of sc 0 0) (WantName DeclaresLocal ∷ s) (i ∷ behind t))
    (put_is (first_item t) (Name x.now) e) ∙ item_local (context_of sc 0 0) s x.now (first_item t) (behind t) h
    (or_from (nat_lt max_name (length x.now)) (nat_le max_scalars sc.scalars) short few)
    ∙ ap (run (context_of (naming sc x) 0 0) s) d

name_none : (s : Stack) (t : Terminal) → NoName t → advance (WantName DeclaresLocal ∷ s) t ≡ None
unfolding advance
name_none s (Fixed w) h = refl
name_none s (Mark x) h = refl
name_none s (Name x) h = absurd h
name_none s (Num n) h = refl
name_none s (Line ts) h = refl
name_none s Unknown h = refl
name_none s Unworked h = refl
name_none s End h = refl

pub stop_local : (c : Context) (s : Stack) (t : Cursor) → NoName (first_item t).terminal →
    run c (WantName DeclaresLocal ∷ s) (items t) ≡ Some (misfit_at (Some (rule_here Unexpected)) (first_item t))
unfolding place_code
stop_local c s t h = stop c (WantName DeclaresLocal ∷ s) (first_item t) (behind t)
    (name_none s (first_item t).terminal h) refl

-- ---- the semicolon

abbrev scalar_more : Context → Context
scalar_more c = declared (scalar_sort c) (record (out c) { scalars = c.scalars + 1 })

item_declared : (c : Context) (s : Stack) (i : Item Terminal) (is : Items) →
    run c (ending true ∷ s) (put i (Mark sign.Semicolon) ∷ is) ≡ run (scalar_more c) s is
unfolding run machine_run advance first_broken breaks enter
item_declared c s i is = refl

abbrev declared_as : Scope → Sort → Option (List ℕ) → Context
declared_as sc u o = declared u (record (context_of sc 0 0) { fresh = o; scalars = sc.scalars + 1 })

pub go_declared : (old new : Scope) (x : List ℕ) (id : ScalarId) (o : Option ArrayId) (s : Stack) (t t' : Cursor) →
    (first_item t).terminal ≡ Mark sign.Semicolon → behind t ≡ items t' → o ≡ box_for x (env_of old) →
    context_of new 0 0 ≡ declared_as old (sort_of_meaning (scalar_or_box id (inside (context_of old 0 0)) o)) (Some x) →
    fresh_name old.fresh ≡ Some x →
    run (context_of old 0 0) (ending true ∷ s) (items t) ≡ run (context_of new 0 0) s (items t')
go_declared old new x id o s t t' e b g k f =
    let sort : scalar_sort (context_of old 0 0) ≡ sort_of_meaning (scalar_or_box id (inside (context_of old 0 0)) o) =
    boxed_sort old x id f
    ∙ ap (λ (u : Option ArrayId). sort_of_meaning (scalar_or_box id (inside (context_of old 0 0)) u)) (sym g) in
    ap (λ (i : Item Terminal). run (context_of old 0 0) (ending true ∷ s) (i ∷ behind t))
    (put_is (first_item t) (Mark sign.Semicolon) e) ∙ item_declared (context_of old 0 0) s (first_item t)
    (behind t)
    ∙ ap (run (scalar_more (context_of old 0 0)) s) b
    ∙ ap (λ (u : Sort). run (declared_as old u (fresh_name old.fresh)) s (items t')) sort
    ∙ ap (λ (u : Option (List ℕ)). run (declared_as old (sort_of_meaning (scalar_or_box id (inside (context_of old 0 0)) o)) u) s
    (items t')) f
    ∙ ap (λ (c : Context). run c s (items t')) (sym k)
