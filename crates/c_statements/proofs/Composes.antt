-- Blocks, loops and branches, of the scopes before and behind their parts.
use Rattle.std.proofs.Common.{◌≡◌, ℕ, ◌+◌, Bool, true, false, List, [], ◌∷◌, ◌++◌, Option, Some, None, Vec, Global, ap, subst, ◌∙◌, arith}
use Rattle.std.specs.Prelude.{◌||◌}
use Rattle.std.specs.Borrow.{Bor}
use Rattle.c_tokens.specs.declared.kind.Sign.TheVariants as sign
use Rattle.base.specs.declared.tree.Bounds.{Bounds}
use Rattle.base.specs.declared.tree.Expr.{Expr}
use Rattle.base.specs.declared.tree.Stmt.{Stmt as Statement, Block as BlockOf, Loop as LoopOf, If as IfOf}
use Rattle.c_grammar.specs.Lexeme.{For, If, Else, Uint64}
use Rattle.c_grammar.specs.Terminal.{Fixed, Mark, Name}
use Rattle.c_grammar.specs.Rules.{inside, under_if, opened}
use Rattle.c_expressions.specs.declared.changes.Turn.{Turn}
use Rattle.c_expressions.specs.declared.cursor.Cursor.{Cursor}
use Rattle.c_expressions.specs.declared.scope.Scope.{Scope}
use Rattle.c_expressions.specs.Changes.{turn_name, turn_names}
use Rattle.c_expressions.specs.Means.{Items, Names}
use Rattle.c_expressions.specs.Cursor.{items, first_item, behind}
use Rattle.c_expressions.specs.Scopes.{context_of, names_of}
use Rattle.c_statements.specs.Blocks.{turned, choosing, under_if as behind_else, IsConditionRead}
use Rattle.c_statements.specs.Bodies.{inner_env, IsSameBlock, IsLeft, AreStmtsRead, IsBodyRead}
use Rattle.c_statements.specs.Loops.{IsGone, with_limit, bounds_tokens}
use Rattle.c_statements.specs.Simple.{counted, env_of, loops_in, IsMarkableRead, IsStmtRead}
use Rattle.c_statements.specs.Statements.{Env, in_loop, more}
use Rattle.c_statements.proofs.Levels.{same_again}
use Rattle.c_statements.proofs.Nesting.{IsBack, back_now, back_same, env_back, env_inner, inner_same, inner_turn}
use Rattle.c_statements.proofs.Wholes.{read_body, read_block, read_loop}
use Rattle.c_statements.proofs.Choices.{read_if, read_if_else}

-- where a directive may not stand it may not stand either behind a statement
pub within_same : (a b : Scope) → IsSameBlock a b → (inside (context_of a 0 0) || under_if (context_of a 0 0)) ≡ true →
    (inside (context_of b 0 0) || under_if (context_of b 0 0)) ≡ true
within_same a b p h = ap (λ (i : Bool). i || under_if (context_of b 0 0)) p.inside
    ∙ ap (λ (i : Bool). inside (context_of a 0 0) || i) p.choice ∙ h

pub next_after : (s0 s1 s2 : Scope) → IsBack s0 s2 → s1.scalars ≡ s0.scalars → (k : ℕ) → s2.scalars ≡
    s1.scalars + k →
    env_of s2 ≡ more k (env_of s0)
next_after s0 s1 s2 p n k e = env_back s0 s2 k p (omega (arith, n, e))

-- ---- a body

pub body_scope : (s0 s1 s2 : Scope) (t : Option Turn) → context_of s1 0 0 ≡ opened (turned (turn_name t) s0) →
    names_of s1 ≡ turn_names t ++ names_of s0 → IsLeft s1 s2 → IsSameBlock s0 s2
body_scope s0 s1 s2 t e h p = back_same s0 s2 (back_now s0 s1 s2 t e h p)

pub body_tree : (s0 s1 s2 : Scope) (t : Option Turn) (u u' : Cursor) (after : Items) (xs : List Statement) →
    context_of s1 0 0 ≡ opened (turned (turn_name t) s0) → names_of s1 ≡ turn_names t ++ names_of s0 →
    s1.scalars ≡ s0.scalars → IsLeft s1 s2 → (first_item u).terminal ≡ Mark sign.OpenBrace → behind u ≡
    items u' →
    AreStmtsRead (env_of s1) s2.scalars (items u') after xs →
    IsBodyRead (env_of s0) (inner_env t s0) (env_of s2) (items u) after xs
body_tree s0 s1 s2 t u u' after xs e h n p f b r =
    read_body (env_of s0) (inner_env t s0) (env_of s2) (env_of s1) s2.scalars u u' after xs f b
    (env_inner s0 s1 t e h n) r
    (next_after s0 s1 s2 (back_now s0 s1 s2 t e h p) n)

-- ---- a block

pub block_back : (s0 s1 s2 : Scope) → context_of s1 0 0 ≡ opened (turned None (counted s0)) → names_of s1 ≡
    names_of s0 → IsLeft s1 s2 → IsBack s0 s2
block_back s0 s1 s2 e h p =
    let q : IsBack (counted s0) s2 = back_now (counted s0) s1 s2 None e h p in
    record { frames = q.frames; names = q.names; target = q.target; waiting = q.waiting; statements = omega (arith, q.statements); boxes = q.boxes }

pub block_scope : (s0 s1 s2 : Scope) → context_of s1 0 0 ≡ opened (turned None (counted s0)) → names_of s1 ≡
    names_of s0 → IsLeft s1 s2 → IsSameBlock s0 s2
block_scope s0 s1 s2 e h p = back_same s0 s2 (block_back s0 s1 s2 e h p)

pub block_tree : (s0 s1 s2 : Scope) (u u' : Cursor) (after : Items) (all : Vec Statement Global) → s0.target ≡ false →
    context_of s1 0 0 ≡ opened (turned None (counted s0)) → names_of s1 ≡ names_of s0 → s1.scalars ≡
    s0.scalars →
    IsLeft s1 s2 → (first_item u).terminal ≡ Mark sign.OpenBrace → behind u ≡ items u' →
    AreStmtsRead (env_of s1) s2.scalars (items u') after all.items →
    IsStmtRead (env_of s0) (env_of s2) (items u) after (BlockOf all)
block_tree s0 s1 s2 u u' after all g e h n p f b r =
    read_block (env_of s0) (env_of s2) (env_of s1) s2.scalars u u' after all f b
    (env_inner (counted s0) s1 None e h n ∙ inner_same (counted s0) g) r
    (next_after s0 s1 s2 (block_back s0 s1 s2 e h p) n)

-- ---- a loop

pub loop_tree : (s0 s1 s3 s4 : Scope) (x : Bor (List ℕ)) (level : ℕ) (b : Bounds) (u u' : Cursor)
    (i2 i3 after : Items) (all : Vec Statement Global) →
    s0.target ≡ false → s1 ≡ counted s0 → s3 ≡ with_limit s1 b.end → level ≡ loops_in (names_of s3) →
    (first_item u).terminal ≡ Fixed For → behind u ≡ items u' →
    IsGone (Mark sign.OpenParen ∷ Fixed Uint64 ∷ Name x.now ∷ []) (items u') i2 → IsGone (bounds_tokens x.now b) i2 i3 →
    IsBodyRead (env_of s3) (inner_env (Some (record { name = x; level = level })) s3) (env_of s4) i3 after all.items →
    IsStmtRead (env_of s0) (env_of s4) (items u) after (LoopOf b all)
loop_tree s0 s1 s3 s4 x level b u u' i2 i3 after all g e1 e3 l f d g1 g2 r =
    let same : env_of s3 ≡ env_of s0 = ap env_of e3 ∙ ap env_of e1 in
    let quiet : s3.target ≡ false = ap (λ (s : Scope). s.target) e3 ∙ ap (λ (s : Scope). s.target) e1 ∙ g in
    let turn : Turn = record { name = x; level = level } in
    read_loop (env_of s0) (env_of s3) (inner_env (Some turn) s3) (env_of s4) x.now b u u' i2 i3 after all f d g1 g2 same
    (inner_turn s3 turn quiet l ∙ ap (in_loop x.now) same) r

-- ---- branches

-- behind a branch no other waits
pub choice_scope : (s0 s1 s2 : Scope) → s1 ≡ choosing s0 → IsSameBlock s1 s2 → s2.choice ≡ false → IsSameBlock s0 s2
choice_scope s0 s1 s2 e p w =
    let q : IsSameBlock (choosing s0) s2 = subst (λ (s : Scope). IsSameBlock s s2) e p in
    record { frames = q.frames; names = q.names; inside = q.inside; choice = q.choice; target = q.target; waiting = λ h. w; statements = omega (arith, q.statements); boxes = q.boxes }

pub else_scope : (s0 s2 s3 s4 : Scope) → IsSameBlock s0 s2 → s3 ≡ behind_else s2 → IsSameBlock s3 s4 → s4.choice ≡ false → IsSameBlock s0 s4
else_scope s0 s2 s3 s4 p e r w =
    let q : IsSameBlock (behind_else s2) s4 = subst (λ (s : Scope). IsSameBlock s s4) e r in
    same_again s0 s2 s4 p
    (record { frames = q.frames; names = q.names; inside = q.inside; choice = q.choice; target = q.target; waiting = λ h. w; statements = q.statements; boxes = q.boxes })

choosing_names : (s0 s1 : Scope) (before after : Items) (e : Expr) → s1 ≡ choosing s0 →
    IsConditionRead (names_of s1) before after e →
    IsConditionRead (names_of s0) before after e
choosing_names s0 s1 before after e h r = subst (λ (ns : Names). IsConditionRead ns before after e) (ap names_of h) r

pub if_tree : (s0 s1 s2 : Scope) (e : Expr) (u u' : Cursor) (i2 after : Items) (all none : Vec Statement Global) →
    s0.target ≡ false →
    s1 ≡ choosing s0 → (first_item u).terminal ≡ Fixed If → behind u ≡ items u' →
    IsConditionRead (names_of s1) (items u') i2 e →
    IsBodyRead (env_of s1) (inner_env None s1) (env_of s2) i2 after all.items → none.items ≡ [] →
    IsMarkableRead (env_of s0) (env_of s2) (items u) after (IfOf e all none)
if_tree s0 s1 s2 e u u' i2 after all none g h f b r p z =
    read_if (env_of s0) (env_of s1) (inner_env None s1) (env_of s2) e u u' i2 after all none f b
    (choosing_names s0 s1 (items u') i2 e h r)
    (ap env_of h) (inner_same s1 (ap (λ (s : Scope). s.target) h ∙ g) ∙ ap env_of h) p z

pub if_else_tree : (s0 s1 s2 s3 s4 : Scope) (e : Expr) (u u' w w' : Cursor) (i2 after : Items)
    (all other : Vec Statement Global) → s0.target ≡ false →
    s1 ≡ choosing s0 → (first_item u).terminal ≡ Fixed If → behind u ≡ items u' →
    IsConditionRead (names_of s1) (items u') i2 e →
    IsBodyRead (env_of s1) (inner_env None s1) (env_of s2) i2 (items w) all.items → s2.target ≡ false →
    (first_item w).terminal ≡ Fixed Else → behind w ≡ items w' → s3 ≡ behind_else s2 →
    IsBodyRead (env_of s3) (inner_env None s3) (env_of s4) (items w') after other.items →
    IsMarkableRead (env_of s0) (env_of s4) (items u) after (IfOf e all other)
if_else_tree s0 s1 s2 s3 s4 e u u' w w' i2 after all other g h f b r p z k d j q =
    let same : env_of s3 ≡ env_of s2 = ap env_of j in
    read_if_else (env_of s0) (env_of s1) (inner_env None s1) (env_of s2) (inner_env None s3) (env_of s4) e u u' w w'
    i2 after all other f b
    (choosing_names s0 s1 (items u') i2 e h r) (ap env_of h) (inner_same s1 (ap (λ (s : Scope). s.target) h ∙ g)
    ∙ ap env_of h) p k d
    (inner_same s3 (ap (λ (s : Scope). s.target) j ∙ z) ∙ same)
    (subst (λ (v : Env). IsBodyRead v (inner_env None s3) (env_of s4) (items w') after other.items) same q)
