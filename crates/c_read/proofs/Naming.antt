-- The machine behind the name of a global.
use Rattle.std.proofs.Common.{◌≡◌, ℕ, ◌+◌, Bool, true, false, cond, List, [], ◌∷◌, Some, refl, sym, ap, subst, ◌∙◌}
use Rattle.std.specs.Prelude.{◌&&◌, not}
use Rattle.base.specs.declared.tree.ScalarId.{ScalarId}
use Rattle.c_tokens.specs.declared.kind.Sign.TheVariants as sign
use Rattle.c_grammar.specs.Terminal.{Terminal, Mark, Num}
use Rattle.c_grammar.specs.Texts.{Item}
use Rattle.c_grammar.specs.Machine.{run as machine_run}
use Rattle.c_grammar.specs.Grammar.{Length}
use Rattle.c_grammar.specs.Rules.{Context, Sort, AnArray, AScalar, ABoxed, breaks, enter, declared, inside, is_boxes_name, is_visible, scalar_sort, sort_of, under_if}
use Rattle.c_grammar.specs.Program.{Stack, AfterGlobal, WantNum, m, advance, first_broken}
use Rattle.c_expressions.specs.declared.cursor.Cursor.{Cursor}
use Rattle.c_expressions.specs.declared.scope.Scope.{Scope}
use Rattle.c_expressions.specs.Means.{Items}
use Rattle.c_expressions.specs.Cursor.{items, first_item, behind}
use Rattle.c_expressions.specs.Reading.{run}
use Rattle.c_expressions.specs.declared.scope.Meaning.TheVariants as meaning
use Rattle.c_expressions.specs.Scopes.{box_numbers, context_of, names_of}
use Rattle.c_statements.specs.Loops.{IsGone}
use Rattle.c_statements.proofs.Heads.{gone_four}
use Rattle.c_expressions.proofs.Going.{put, put_is}
use Rattle.c_read.specs.Globals.{naming, with_cells, IsArrayNamed, IsScalarNamed, IsStill}

-- behind the bracket of an array, and behind the semicolon of a scalar
abbrev pub one_array_more : List ℕ → Context → Context
one_array_more x c = record (declared AnArray (record c { fresh = Some x })) { arrays = c.arrays + 1 }

abbrev pub one_scalar_more : List ℕ → Context → Context
one_scalar_more x c = declared (AScalar (inside c)) (record c { fresh = Some x; scalars = c.scalars + 1 })

item_array : (x : List ℕ) (sc : Scope) (s : Stack) (i : Item Terminal) (is : Items) →
    run (naming x (context_of sc 0 0)) (AfterGlobal ∷ s) (put i (Mark sign.OpenBracket) ∷ is) ≡
    run (one_array_more x (context_of sc 0 0)) (WantNum Length ∷ m sign.CloseBracket ∷ m sign.Semicolon ∷ s) is
unfolding run machine_run advance first_broken breaks enter
item_array x sc s i is = refl

-- with a scalar more, of that sort
abbrev sorted_more : List ℕ → Sort → Context → Context
sorted_more x u c = declared u (record c { fresh = Some x; scalars = c.scalars + 1 })

item_scalar : (x : List ℕ) (sc : Scope) (s : Stack) (i : Item Terminal) (is : Items) →
    run (naming x (context_of sc 0 0)) (AfterGlobal ∷ s) (put i (Mark sign.Semicolon) ∷ is) ≡
    run (sorted_more x (scalar_sort (naming x (context_of sc 0 0))) (context_of sc 0 0)) s is
unfolding run machine_run advance first_broken breaks enter
item_scalar x sc s i is = refl

not_boxed : (i v : Bool) → cond (not i && false && not v) ABoxed (AScalar i) ≡ AScalar i
not_boxed true v = refl
not_boxed false v = refl

-- no scalar is boxed yet
plain_sort : (x : List ℕ) (sc : Scope) → box_numbers sc ≡ [] →
    scalar_sort (naming x (context_of sc 0 0)) ≡ AScalar (inside (context_of sc 0 0))
plain_sort x sc e =
    let i : Bool = inside (context_of sc 0 0) in
    let v : Bool = is_visible (sort_of (naming x (context_of sc 0 0)) x) in
    ap (λ (bs : List (List ℕ × ℕ)). cond (not i && is_boxes_name bs x && not v) ABoxed (AScalar i)) e ∙ not_boxed i v

pub go_array : (x : List ℕ) (sc : Scope) (s : Stack) (t t' : Cursor) →
    (first_item t).terminal ≡ Mark sign.OpenBracket → behind t ≡ items t' →
    run (naming x (context_of sc 0 0)) (AfterGlobal ∷ s) (items t) ≡
    run (one_array_more x (context_of sc 0 0)) (WantNum Length ∷ m sign.CloseBracket ∷ m sign.Semicolon ∷ s) (items t')
go_array x sc s t t' e b =
    let after : Stack = WantNum Length ∷ m sign.CloseBracket ∷ m sign.Semicolon ∷ s in
    ap (λ (i : Item Terminal). run (naming x (context_of sc 0 0)) (AfterGlobal ∷ s) (i ∷ behind t))
    (put_is (first_item t) (Mark sign.OpenBracket) e) ∙ item_array x sc s (first_item t) (behind t)
    ∙ ap (run (one_array_more x (context_of sc 0 0)) after) b

pub go_scalar : (x : List ℕ) (sc new : Scope) (s : Stack) (t t' : Cursor) →
    (first_item t).terminal ≡ Mark sign.Semicolon → behind t ≡ items t' → box_numbers sc ≡ [] →
    context_of new 0 0 ≡ one_scalar_more x (context_of sc 0 0) →
    run (naming x (context_of sc 0 0)) (AfterGlobal ∷ s) (items t) ≡ run (context_of new 0 0) s (items t')
go_scalar x sc new s t t' e b n k =
    ap (λ (i : Item Terminal). run (naming x (context_of sc 0 0)) (AfterGlobal ∷ s) (i ∷ behind t))
    (put_is (first_item t) (Mark sign.Semicolon) e) ∙ item_scalar x sc s (first_item t) (behind t)
    ∙ ap (λ (u : Sort). run (sorted_more x u (context_of sc 0 0)) s (behind t)) (plain_sort x sc n)
    ∙ ap (run (one_scalar_more x (context_of sc 0 0)) s) b ∙ ap (λ (c : Context). run c s (items t')) (sym k)

-- ---- the scope with one name more

abbrev pub IsNamed : List ℕ → Sort → Scope → Scope → Type 0
IsNamed x kind old new = (d n : ℕ) → context_of new d n ≡ declared kind (record (context_of old d n) { fresh = Some x })

same_inside : (x : List ℕ) (kind : Sort) (old new : Scope) → IsNamed x kind old new →
    inside (context_of new 0 0) ≡ inside (context_of old 0 0)
same_inside x kind old new h = ap (λ (c : Context). inside c) (h 0 0)

still : (x : List ℕ) (kind : Sort) (old new : Scope) → IsNamed x kind old new → IsStill old new
still x kind old new h = record {
  target = ap (λ (c : Context). c.target) (h 0 0);
  choice = ap (λ (c : Context). c.choice) (h 0 0);
  always = ap (λ (c : Context). under_if c) (h 0 0);
}

pub array_context : (x : List ℕ) (k : ℕ) (old new : Scope) → k ≡ old.arrays + 1 → IsNamed x AnArray old new →
    record (context_of new 0 0) { arrays = k } ≡ one_array_more x (context_of old 0 0)
array_context x k old new e h = ap (λ (c : Context). record c { arrays = k }) (h 0 0)
    ∙ ap (λ (i : ℕ). record (declared AnArray (record (context_of old 0 0) { fresh = Some x })) { arrays = i }) e

pub begun_array : (x : List ℕ) (k : ℕ) (old new : Scope) (s : Stack) (t t' : Cursor) →
    (first_item t).terminal ≡ Mark sign.OpenBracket → behind t ≡ items t' → k ≡ old.arrays + 1 →
    IsNamed x AnArray old new → run (naming x (context_of old 0 0)) (AfterGlobal ∷ s) (items t) ≡
    run (record (context_of new 0 0) { arrays = k }) (WantNum Length ∷ m sign.CloseBracket ∷ m sign.Semicolon ∷ s)
    (items t')
begun_array x k old new s t t' e b f h = go_array x old s t t' e b
    ∙ ap (λ (c : Context). run c (WantNum Length ∷ m sign.CloseBracket ∷ m sign.Semicolon ∷ s) (items t'))
    (sym (array_context x k old new f h))

pub array_named : (x : List ℕ) (k : ℕ) (old new : Scope) → k ≡ old.arrays + 1 →
    IsNamed x AnArray old new → names_of new ≡ (x, meaning.Array (record { 0 = old.arrays })) ∷ names_of old →
    new.scalars ≡ old.scalars → IsArrayNamed x old (record new { arrays = k })
array_named x k old new e g n i =
    let s = still x AnArray old new g in
    record {
      names = n;
      arrays = e;
      next = i;
      boxes = ap (λ (c : Context). c.boxes) (g 0 0);
      inside_is = same_inside x AnArray old new g;
      still = record { target = s.target; choice = s.choice; always = s.always };
    }

pub array_with_cells : (x : List ℕ) (n : ℕ) (old mid new : Scope) → IsArrayNamed x old mid →
    new ≡ with_cells mid n → IsArrayNamed x old new
array_with_cells x n old mid new a e = subst (λ (s : Scope). IsArrayNamed x old s) (sym e)
    (record {
      names = a.names;
      arrays = a.arrays;
      next = a.next;
      boxes = a.boxes;
      inside_is = a.inside_is;
      still = record { target = a.still.target; choice = a.still.choice; always = a.still.always };
    })

pub gone_array : (n : ℕ) (t0 t1 t2 t3 t4 : Cursor) → (first_item t0).terminal ≡ Mark sign.OpenBracket → behind t0 ≡ items t1 →
    (first_item t1).terminal ≡ Num (Some n) → behind t1 ≡ items t2 → (first_item t2).terminal ≡ Mark sign.CloseBracket →
    behind t2 ≡ items t3 → (first_item t3).terminal ≡ Mark sign.Semicolon → behind t3 ≡ items t4 →
    IsGone (Mark sign.OpenBracket ∷ Num (Some n) ∷ Mark sign.CloseBracket ∷ Mark sign.Semicolon ∷ []) (items t0) (items t4)
gone_array n t0 t1 t2 t3 t4 e0 b0 e1 b1 e2 b2 e3 b3 =
    gone_four (Mark sign.OpenBracket) (Num (Some n)) (Mark sign.CloseBracket) (Mark sign.Semicolon) t0 t1 t2 t3 t4 e0 b0 e1 b1 e2 b2 e3 b3

pub begun_scalar : (x : List ℕ) (old new : Scope) (s : Stack) (t t' : Cursor) →
    (first_item t).terminal ≡ Mark sign.Semicolon → behind t ≡ items t' → box_numbers old ≡ [] →
    context_of new 0 0 ≡ one_scalar_more x (context_of old 0 0) →
    run (naming x (context_of old 0 0)) (AfterGlobal ∷ s) (items t) ≡ run (context_of new 0 0) s (items t')
begun_scalar x old new s t t' e b n h = go_scalar x old new s t t' e b n h

pub scalar_named : (x : List ℕ) (id : ScalarId) (old new : Scope) →
    context_of new 0 0 ≡ one_scalar_more x (context_of old 0 0) →
    names_of new ≡ (x, meaning.Scalar id (inside (context_of old 0 0))) ∷ names_of old → id.0 ≡ old.scalars →
    new.scalars ≡ old.scalars + 1 → IsScalarNamed x old new
scalar_named x id old new h n i m =
    record {
      names = n ∙ ap (λ (k : ℕ). (x, meaning.Scalar (record { 0 = k }) (inside (context_of old 0 0))) ∷ names_of old) i;
      arrays = ap (λ (c : Context). c.arrays) h;
      next = m;
      boxes = ap (λ (c : Context). c.boxes) h;
      inside_is = ap (λ (c : Context). inside c) h;
      still = record {
        target = ap (λ (c : Context). c.target) h;
        choice = ap (λ (c : Context). c.choice) h;
        always = ap (λ (c : Context). under_if c) h;
      };
    }
