-- Statements without statements in them, in a text that keeps the rules: what they do in a target, and what stands
-- behind them.
use Rattle.std.proofs.Common.{◌≡◌, ℕ, Bool, true, false, List, [], ◌∷◌, ◌++◌, Option, Some, None, refl, sym, ap, subst, ◌∙◌}
use Rattle.std.specs.Prelude.{◌||◌, ◌&&◌, not}
use Rattle.base.specs.declared.fault.ReadCode.TheVariants.{Undeclared, LoopNameAssigned, DirectiveInTarget, OuterAssigned, HostOnly}
use Rattle.base.specs.declared.tree.ScalarId.{ScalarId}
use Rattle.c_tokens.specs.declared.kind.Sign.TheVariants as sign
use Rattle.c_grammar.specs.Lexeme.{Lexeme, Uint64}
use Rattle.c_grammar.specs.Terminal.{Terminal, Fixed, Mark, Name, Line}
use Rattle.c_grammar.specs.Grammar.{DeclaresLocal, MakesScalar, Starts, Assigned, Marks, for, mark, Slots, Term, term, Source, Input, Value, source, end_mark, Stmt, Declare, Assign, Store, Show, Directive, Atomic, AtomicAssign, AtomicIf, stmt, stmt_in}
use Rattle.c_grammar.specs.Rules.{Context, with_name, Frame, Rule, Sort, top, below, inside, act, enter, breaks, scalar_sort, sort_of, is_array, is_scalar, is_visible, is_loop, is_outer}
use Rattle.c_expressions.specs.declared.scope.Meaning.{Meaning}
use Rattle.c_expressions.specs.declared.scope.Meaning.TheVariants as meaning
use Rattle.c_expressions.specs.Means.{meaning_of}
use Rattle.c_expressions.specs.Scopes.{as_boxes, sort_of_meaning}
use Rattle.c_statements.specs.Statements.{Env, box_for, scalar_or_box, behind, more}
use Rattle.erasure.proofs.Follows.{entered, entered_append, next_in, Keeps, keeps_split}
use Rattle.erased_meaning.proofs.Envs.{IsQuietSource, IsInside, IsQuiet}
use Rattle.erased_meaning.proofs.Outside.{IsSafe}
use Rattle.erased_meaning.proofs.Contexts.{flat, Stands, sort_is, sort_known, new_sort, are_still, kept_all, still_append, term_still, source_still, stands_kept}

-- what is known of a statement there
abbrev pub Known : Env → Stmt → Type 0
Known env s = (env.inside ≡ false → IsSafe env s) × (env.inside ≡ true → IsQuiet env s)

abbrev pub StmtKnown : Stmt → Type 0
StmtKnown s = (depth : ℕ) (c : Context) (env : Env) (n : Terminal) → Stands c env → Keeps c (stmt_in s depth) n →
    Known env s × Stands (entered c (stmt_in s depth)) (behind s env) ×
    (below (entered c (stmt_in s depth)).frames ≡ below c.frames)

-- ---- what the rules say

pub true_false : {A : Type 0} (b : Bool) → b ≡ true → b ≡ false → A
true_false true e f = absurd cc
true_false false e f = absurd cc

-- the right side of an assignment
quiet_source : (v : Source) (c : Context) (n : Terminal) → inside c ≡ true → Keeps c (source v) n → IsQuietSource v
unfolding breaks
quiet_source Input c n i k = true_false (inside c) i (k.0 (record { part = 0; code = HostOnly }))
quiet_source (Value e) c n i k = tt

own_sort : (o : Option Meaning) → is_visible (sort_known o) ≡ true → is_array (sort_known o) ≡ false →
    is_loop (sort_known o) ≡ false →
    is_outer (sort_known o) ≡ false → IsInside o
own_sort None v a l e = absurd cc
own_sort (Some (meaning.Array b)) v a l e = absurd cc
own_sort (Some (meaning.Loop n)) v a l e = absurd cc
own_sort (Some (meaning.Boxed b n)) v a l e = tt
own_sort (Some (meaning.Scalar n true)) v a l e = tt
own_sort (Some (meaning.Scalar n false)) v a l e = absurd cc

array_not : (v a o : Bool) → (not v || (true && a) || (false && o)) ≡ false → (v ≡ true) × (a ≡ false)
array_not true false o h = (refl, refl)
array_not true true o h = absurd cc
array_not false a o h = absurd cc

both_then : (a b : Bool) → (a && b) ≡ false → a ≡ true → b ≡ false
both_then true b h e = h
both_then false b h e = absurd cc

-- a scalar that is assigned in a target
quiet_name : (c : Context) (env : Env) (x : List ℕ) → Stands c env → inside c ≡ true →
    ((r : Rule) → breaks r c (Name x, for Assigned) (Mark sign.Equal) ≡ false) → IsInside (meaning_of env.names x)
unfolding breaks
quiet_name c env x s i k =
    let same = sort_is c env x s in
    let first = array_not (is_visible (sort_of c x)) (is_array (sort_of c x)) (is_scalar (sort_of c x))
    (k (record { part = 0; code = Undeclared })) in
    let loop : is_loop (sort_of c x) ≡ false = k (record { part = 0; code = LoopNameAssigned }) in
    let outer : is_outer (sort_of c x) ≡ false =
    both_then (inside c) (is_outer (sort_of c x)) (k (record { part = 0; code = OuterAssigned })) i in
    own_sort (meaning_of env.names x) (ap is_visible (sym same) ∙ first.0) (ap is_array (sym same) ∙ first.1)
    (ap is_loop (sym same) ∙ loop) (ap is_outer (sym same) ∙ outer)

pub stands_more : (c : Context) (env : Env) (n : ℕ) → Stands c env → Stands c (more n env)
stands_more c env n s =
    record { names = s.names; boxes = s.boxes; inside_is = s.inside_is; target = s.target; turn = s.turn }

pub inside_at : (c : Context) (env : Env) → Stands c env → env.inside ≡ true → inside c ≡ true
inside_at c env s e = s.inside_is ∙ e

-- ---- statements without statements in them

after_still : (xs : Slots) (c : Context) (env : Env) (n : ℕ) → are_still xs ≡ true → Stands c env →
    Stands (entered c xs) (more n env) × (below (entered c xs).frames ≡ below c.frames)
after_still xs c env n e s =
    let kept = kept_all xs c e in (
      stands_more (entered c xs) env n
          (stands_kept c (entered c xs) env kept s),
      ap below kept.frames,
    )

pub flat_top : (fs : List Frame) → (top fs).names ++ flat (below fs) ≡ flat fs
flat_top [] = refl
flat_top (f ∷ fs) = refl

module _ (x : List ℕ) (c d : Context) (env : Env) (s : Stands c env) (f : d.frames ≡ c.frames) (b : d.boxes ≡ c.boxes)
    (t : d.target ≡ c.target)
    (u : d.turn ≡ c.turn) (g : d.fresh ≡ Some x) where
  before : Stands d env
  before = record {
    names = ap flat f ∙ s.names;
    boxes = ap as_boxes b ∙ s.boxes;
    inside_is = ap (λ (fs : List Frame). (top fs).inside) f ∙ s.inside_is;
    target = t ∙ s.target;
    turn = u ∙ s.turn;
  }

  pub declares : Stands (act d (Mark sign.Semicolon) MakesScalar) (behind (Declare x Input) env)
  declares =
      let n : ScalarId = record { 0 = env.scalars } in
      record {
        names =
            ap (λ (o : Option (List ℕ)). with_name o (scalar_sort d) (top d.frames).names ++ flat (below d.frames)) g
            ∙ ap (λ (y : Sort). (x, y) ∷ ((top d.frames).names ++ flat (below d.frames))) (new_sort d env x n before g)
            ∙ ap (λ (ns : List (List ℕ × Sort)). (x, sort_of_meaning (scalar_or_box n env.inside (box_for x env))) ∷ ns)
            (flat_top d.frames ∙ before.names);
        boxes = before.boxes;
        inside_is = before.inside_is;
        target = before.target;
        turn = before.turn;
      }

pub declare_known : (x : List ℕ) (v : Source) → StmtKnown (Declare x v)
unfolding enter
declare_known x v depth c env n s k =
    let last : Slots = (Mark sign.Semicolon, for MakesScalar) ∷ [] in
    let front : Slots = (Fixed Uint64, for Starts) ∷ (Name x, for DeclaresLocal) ∷ mark sign.Equal ∷ [] in
    let d : Context = entered c front in
    let parts = keeps_split d (source v) last n k.1.1.1 in
    let kept = kept_all (source v) d (source_still v) in
    let whole : entered d (source v ++ last) ≡ entered (entered d (source v)) last = entered_append d
    (source v) last in (
      (λ e. tt {0}, λ e. quiet_source v d (next_in last n) (inside_at c env s e) parts.0),
      subst (λ (u : Context). Stands u (behind (Declare x v) env)) (sym whole)
          (declares x c (entered d (source v)) env s kept.frames kept.boxes kept.target kept.turn kept.fresh),
      ap (λ (u : Context). below u.frames) whole ∙ ap below kept.frames,
    )

pub assign_known : (x : List ℕ) (v : Source) → StmtKnown (Assign x v)
unfolding enter
assign_known x v depth c env n s k =
    let last : Slots = end_mark ∷ [] in
    let d : Context = entered c ((Name x, for Assigned) ∷ mark sign.Equal ∷ []) in
    let parts = keeps_split d (source v) last n k.1.1 in
    let after = after_still (stmt (Assign x v)) c env 0 (still_append (source v) last (source_still v) refl) s in (
      (
        λ e. tt {0},
        λ e. (
          quiet_source v d (next_in last n) (inside_at c env s e) parts.0,
          quiet_name c env x s
              (inside_at c env s e) k.0,
        ),
      ),
      after.0,
      after.1,
    )

pub store_known : (x : List ℕ) (i : Term) (v : Source) → StmtKnown (Store x i v)
unfolding enter
store_known x i v depth c env n s k =
    let last : Slots = end_mark ∷ [] in
    let value : Slots = mark sign.CloseBracket ∷ mark sign.Equal ∷ (source v ++ last) in
    let first : Context = entered c ((Name x, for Assigned) ∷ mark sign.OpenBracket ∷ []) in
    let parts = keeps_split first (term i) value n k.1.1 in
    let d : Context = entered (entered first (term i)) (mark sign.CloseBracket ∷ mark sign.Equal ∷ []) in
    let kept = kept_all (term i) first (term_still i) in
    let in_d : inside d ≡ inside c = ap (λ (fs : List Frame). (top fs).inside) kept.frames in
    let more_parts = keeps_split d (source v) last n parts.1.1.1 in
    let after = after_still (stmt (Store x i v)) c env 0
    (still_append (term i) value (term_still i) (still_append (source v) last (source_still v) refl)) s in
    ((λ e. tt {0}, λ e. quiet_source v d (next_in last n) (in_d ∙ inside_at c env s e) more_parts.0), after.0, after.1)

pub atomic_known : (l : List Lexeme) (x : List ℕ) (i : Term) (v : Source) → StmtKnown (Atomic l x i v)
unfolding enter
atomic_known l x i v depth c env n s k =
    store_known x i v depth (enter c (Line l, for Marks)) env n
    (record { names = s.names; boxes = s.boxes; inside_is = s.inside_is; target = s.target; turn = s.turn }) k.1

pub atomic_assign_known : (l : List Lexeme) (x : List ℕ) (v : Source) → StmtKnown (AtomicAssign l x v)
unfolding enter
atomic_assign_known l x v depth c env n s k =
    assign_known x v depth (enter c (Line l, for Marks)) env n
    (record { names = s.names; boxes = s.boxes; inside_is = s.inside_is; target = s.target; turn = s.turn }) k.1

pub atomic_if_known : (l : List Lexeme) (t : Stmt) → StmtKnown t → StmtKnown (AtomicIf l t)
unfolding enter
atomic_if_known l t known depth c env n s k =
    let one = known 0 (enter c (Line l, for Marks)) env n
    (record { names = s.names; boxes = s.boxes; inside_is = s.inside_is; target = s.target; turn = s.turn }) k.1 in
    ((λ e. tt {0}, one.0.1), one.1, one.2)

pub show_known : (e : Term) → StmtKnown (Show e)
unfolding breaks
show_known e depth c env n s k =
    let after = after_still (stmt (Show e)) c env 0 (still_append (term e) (mark sign.CloseParen ∷ end_mark ∷ [])
    (term_still e) refl) s in (
      (
        λ i. tt {0},
        λ i. true_false (inside c) (inside_at c env s i)
            (k.0 (record { part = 0; code = HostOnly })),
      ),
      after.0,
      after.1,
    )

pub alone_known : (l : List Lexeme) → StmtKnown (Directive l)
unfolding breaks
alone_known l depth c env n s k =
    let after = after_still (stmt (Directive l)) c env 0 refl s in (
      (
        λ i. tt {0},
        λ i. true_false (inside c) (inside_at c env s i)
            (k.0 (record { part = 0; code = DirectiveInTarget })),
      ),
      after.0,
      after.1,
    )
