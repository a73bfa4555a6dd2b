-- The machine and the reader at the heads of loops.
use Rattle.std.proofs.Common.{◌≡◌, ℕ, ◌+◌, ◌<◌, ◌≤◌, true, false, List, [], ◌∷◌, ◌++◌, length, Option, Some, None, refl, sym, ap, ◌∙◌, append_assoc, arith, length-append}
use Rattle.std.specs.Prelude.{nat_lt, is_some}
use Rattle.std.specs.Option.{option_map}
use Rattle.std.proofs.lemmas.Bool.Decides.{nat_tests}
use Rattle.c_tokens.specs.declared.kind.Sign.TheVariants as sign
use Rattle.base.specs.declared.fault.ReadCode.TheVariants.{Unexpected, AlreadyDeclared, TooMany}
use Rattle.base.specs.declared.tree.Bounds.{Bounds}
use Rattle.c_grammar.specs.LineRules.{max_name}
use Rattle.c_grammar.specs.Terminal.{Terminal, Fixed, Mark, Name, Num, Line, Unknown, Unworked, End}
use Rattle.c_grammar.specs.Texts.{Item}
use Rattle.c_grammar.specs.Machine.{run as machine_run}
use Rattle.c_grammar.specs.Rules.{Context, breaks, enter, is_visible, sort_of, rule_here}
use Rattle.c_grammar.specs.Program.{Stack, Turn, advance, place_code, first_broken, head_of, loop_body}
use Rattle.c_expressions.specs.declared.cursor.Cursor.{Cursor}
use Rattle.c_expressions.specs.declared.scope.Meaning.{Meaning}
use Rattle.c_expressions.specs.declared.scope.Scope.{Scope}
use Rattle.c_expressions.specs.Means.{Items}
use Rattle.c_expressions.specs.Cursor.{items, first_item, behind}
use Rattle.c_expressions.specs.Reading.{run, fault_at, misfit_at, terminals}
use Rattle.c_expressions.specs.Scopes.{context_of, sort_of_meaning}
use Rattle.c_expressions.proofs.Going.{put, put_is, stop}
use Rattle.c_expressions.proofs.Expressions.{first_then, drops, drop_by, drop_one}
use Rattle.c_statements.specs.Loops.{IsGone, bounds_tokens, waiting}

pub visible_is : (o : Option Meaning) → is_some o ≡ is_visible (option_map sort_of_meaning o)
visible_is None = refl
visible_is (Some m) = refl

-- ---- the name of a loop

item_visible : (c : Context) (d : ℕ) (s : Stack) (x : List ℕ) (i : Item Terminal) (is : Items) → is_visible (sort_of c x) ≡
    true → run c (Turn d ∷ s) (put i (Name x) ∷ is) ≡ Some (fault_at i AlreadyDeclared)
unfolding run machine_run advance first_broken breaks
item_visible c d s x i is h = rw h refl

item_long : (c : Context) (d : ℕ) (s : Stack) (x : List ℕ) (i : Item Terminal) (is : Items) → is_visible (sort_of c x) ≡
    false → nat_lt max_name (length x) ≡ true → run c (Turn d ∷ s) (put i (Name x) ∷ is) ≡ Some (fault_at i TooMany)
unfolding run machine_run advance first_broken breaks
item_long c d s x i is h k = rw (h, k) refl

item_turn : (c : Context) (d : ℕ) (s : Stack) (x : List ℕ) (i : Item Terminal) (is : Items) → is_visible (sort_of c x) ≡
    false → nat_lt max_name (length x) ≡ false →
    run c (Turn d ∷ s) (put i (Name x) ∷ is) ≡ run (waiting x c) (head_of x (loop_body d s)) is
unfolding run machine_run advance first_broken breaks enter
item_turn c d s x i is h k = rw (h, k) refl

pub bad_turn : (sc : Scope) (d : ℕ) (s : Stack) (x : List ℕ) (t : Cursor) → (first_item t).terminal ≡ Name x →
    is_visible (sort_of (context_of sc 0 0) x) ≡ true → run (context_of sc 0 0) (Turn d ∷ s) (items t) ≡
    Some (fault_at (first_item t) AlreadyDeclared)
bad_turn sc d s x t e h = ap (λ (i : Item Terminal). run (context_of sc 0 0) (Turn d ∷ s) (i ∷ behind t))
    (put_is (first_item t) (Name x) e) ∙ item_visible (context_of sc 0 0) d s x (first_item t) (behind t) h

pub long_turn : (sc : Scope) (d : ℕ) (s : Stack) (x : List ℕ) (t : Cursor) → (first_item t).terminal ≡ Name x →
    is_visible (sort_of (context_of sc 0 0) x) ≡ false → max_name < length x →
    run (context_of sc 0 0) (Turn d ∷ s) (items t) ≡ Some (fault_at (first_item t) TooMany)
long_turn sc d s x t e h k =
    let long : nat_lt max_name (length x) ≡ true = grind (arith, nat_tests) in
    ap (λ (i : Item Terminal). run (context_of sc 0 0) (Turn d ∷ s) (i ∷ behind t)) (put_is (first_item t) (Name x) e)
    ∙ item_long (context_of sc 0 0) d s x (first_item t) (behind t) h long

pub go_turn : (sc : Scope) (d : ℕ) (s : Stack) (x : List ℕ) (t t' : Cursor) → (first_item t).terminal ≡ Name x →
    is_visible (sort_of (context_of sc 0 0) x) ≡ false → length x ≤ max_name → behind t ≡ items t' →
    run (context_of sc 0 0) (Turn d ∷ s) (items t) ≡
    run (waiting x (context_of sc 0 0)) (head_of x (loop_body d s)) (items t')
go_turn sc d s x t t' e h k b =
    let short : nat_lt max_name (length x) ≡ false = grind (arith, nat_tests) in
    ap (λ (i : Item Terminal). run (context_of sc 0 0) (Turn d ∷ s) (i ∷ behind t)) (put_is (first_item t) (Name x) e)
    ∙ item_turn (context_of sc 0 0) d s x (first_item t) (behind t) h short
    ∙ ap (run (waiting x (context_of sc 0 0)) (head_of x (loop_body d s))) b

abbrev pub NoName : Terminal → Type 0
NoName (Name x) = ⊥
NoName _ = Unit {0}

turn_none : (d : ℕ) (s : Stack) (t : Terminal) → NoName t → advance (Turn d ∷ s) t ≡ None
unfolding advance
turn_none d s (Fixed w) h = refl
turn_none d s (Mark x) h = refl
turn_none d s (Name x) h = absurd h
turn_none d s (Num n) h = refl
turn_none d s (Line ts) h = refl
turn_none d s Unknown h = refl
turn_none d s Unworked h = refl
turn_none d s End h = refl

pub stop_turn : (c : Context) (d : ℕ) (s : Stack) (t : Cursor) → NoName (first_item t).terminal →
    run c (Turn d ∷ s) (items t) ≡ Some (misfit_at (Some (rule_here Unexpected)) (first_item t))
unfolding place_code
stop_turn c d s t h = stop c (Turn d ∷ s) (first_item t) (behind t) (turn_none d s (first_item t).terminal h) refl

-- ---- tokens that are gone

pub gone_one : (u : Terminal) (t t' : Cursor) → (first_item t).terminal ≡ u → behind t ≡ items t' →
    IsGone (u ∷ []) (items t) (items t')
gone_one u t t' e b = record { tokens = first_then u t t' e b; rest = drop_one t t' b }

pub gone_then : (us vs : List Terminal) (a b c : Items) → IsGone us a b → IsGone vs b c → IsGone (us ++ vs) a c
gone_then us vs a b c g h =
    record {
      tokens = g.tokens ∙ ap (λ (ts : List Terminal). us ++ ts) h.tokens ∙ sym (append_assoc us vs (terminals c));
      rest = drop_by (length us + length vs) (length (us ++ vs)) a c (sym (length-append us vs))
          (drops (length us) (length vs) a b c g.rest h.rest);
    }

pub gone_three : (u0 u1 u2 : Terminal) (t0 t1 t2 t3 : Cursor) → (first_item t0).terminal ≡ u0 → behind t0 ≡
    items t1 → (first_item t1).terminal ≡ u1 → behind t1 ≡ items t2 → (first_item t2).terminal ≡ u2 → behind t2 ≡
    items t3 → IsGone (u0 ∷ u1 ∷ u2 ∷ []) (items t0) (items t3)
gone_three u0 u1 u2 t0 t1 t2 t3 e0 b0 e1 b1 e2 b2 =
    gone_then (u0 ∷ []) (u1 ∷ u2 ∷ []) (items t0) (items t1) (items t3) (gone_one u0 t0 t1 e0 b0)
    (gone_then (u1 ∷ []) (u2 ∷ []) (items t1) (items t2) (items t3) (gone_one u1 t1 t2 e1 b1) (gone_one u2 t2 t3 e2 b2))

pub gone_four : (u0 u1 u2 u3 : Terminal) (t0 t1 t2 t3 t4 : Cursor) → (first_item t0).terminal ≡ u0 → behind t0 ≡
    items t1 → (first_item t1).terminal ≡ u1 → behind t1 ≡ items t2 → (first_item t2).terminal ≡ u2 → behind t2 ≡
    items t3 → (first_item t3).terminal ≡ u3 → behind t3 ≡ items t4 →
    IsGone (u0 ∷ u1 ∷ u2 ∷ u3 ∷ []) (items t0) (items t4)
gone_four u0 u1 u2 u3 t0 t1 t2 t3 t4 e0 b0 e1 b1 e2 b2 e3 b3 =
    gone_then (u0 ∷ []) (u1 ∷ u2 ∷ u3 ∷ []) (items t0) (items t1) (items t4) (gone_one u0 t0 t1 e0 b0)
    (gone_three u1 u2 u3 t1 t2 t3 t4 e1 b1 e2 b2 e3 b3)

pub gone_bounds : (x : List ℕ) (b : Bounds) (i0 i1 i2 i3 : Items) →
    IsGone (Mark sign.Equal ∷ Num (Some b.first) ∷ Mark sign.Semicolon ∷ []) i0 i1 →
    IsGone (Name x ∷ Mark sign.Less ∷ Num (Some b.end) ∷ Mark sign.Semicolon ∷ []) i1 i2 →
    IsGone (Name x ∷ Mark sign.PlusEqual ∷ Num (Some b.step) ∷ Mark sign.CloseParen ∷ []) i2 i3 →
    IsGone (bounds_tokens x b) i0 i3
gone_bounds x b i0 i1 i2 i3 g h k =
    gone_then (Mark sign.Equal ∷ Num (Some b.first) ∷ Mark sign.Semicolon ∷ [])
    (Name x ∷ Mark sign.Less ∷ Num (Some b.end) ∷ Mark sign.Semicolon ∷ Name x ∷ Mark sign.PlusEqual ∷
    Num (Some b.step) ∷ Mark sign.CloseParen ∷ []) i0 i1 i3 g
    (gone_then (Name x ∷ Mark sign.Less ∷ Num (Some b.end) ∷ Mark sign.Semicolon ∷ [])
    (Name x ∷ Mark sign.PlusEqual ∷ Num (Some b.step) ∷ Mark sign.CloseParen ∷ []) i1 i2 i3 h k)

pub gone_head : (u0 u1 u2 : Terminal) (t0 t1 t2 : Cursor) (after : Items) → (first_item t0).terminal ≡ u0 →
    behind t0 ≡ items t1 → (first_item t1).terminal ≡ u1 → behind t1 ≡ items t2 →
    IsGone (u2 ∷ []) (items t2) after → IsGone (u0 ∷ u1 ∷ u2 ∷ []) (items t0) after
gone_head u0 u1 u2 t0 t1 t2 after e0 b0 e1 b1 g =
    gone_then (u0 ∷ []) (u1 ∷ u2 ∷ []) (items t0) (items t1) after (gone_one u0 t0 t1 e0 b0)
    (gone_then (u1 ∷ []) (u2 ∷ []) (items t1) (items t2) after (gone_one u1 t1 t2 e1 b1) g)
