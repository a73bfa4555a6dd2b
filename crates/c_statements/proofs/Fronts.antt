-- Statements one after another that were read.
use Rattle.std.proofs.Common.{◌≡◌, ℕ, ◌+◌, ◌≤◌, List, [], ◌∷◌, ◌++◌, length, drop, refl, sym, ap, subst, ◌∙◌, append_assoc, arith, length-append}
use Rattle.std.proofs.lemmas.List.{append-nil, drop-drop}
use Rattle.c_tokens.specs.declared.kind.Sign.TheVariants as sign
use Rattle.base.specs.declared.tree.Stmt.{Stmt as Statement}
use Rattle.c_grammar.specs.Terminal.{Terminal, Mark}
use Rattle.c_grammar.specs.Grammar.{Slots, Stmt, Stmts, Done, Then, Declare, Assign, Store, Repeat, Choose, ChooseElse, Show, Block, Directive, Atomic, AtomicAssign, AtomicIf, OverBlock, OverLoop, stmt, stmts, IsStmt, AreStmts}
use Rattle.c_expressions.specs.declared.cursor.Cursor.{Cursor}
use Rattle.c_expressions.specs.declared.scope.Scope.{Scope}
use Rattle.c_expressions.specs.Means.{Items}
use Rattle.c_expressions.specs.Cursor.{items, first_item, behind as behind_first}
use Rattle.c_expressions.specs.Reading.{terminals, kinds}
use Rattle.c_expressions.specs.Scopes.{names_of}
use Rattle.c_expressions.proofs.Expressions.{first_then, kinds_append, behind_less, one_more, drops, drop_by}
use Rattle.c_statements.specs.Bodies.{AreStmtsRead, IsReady, IsSameBlock}
use Rattle.c_statements.specs.Simple.{env_of, loops_in, IsStmtRead}
use Rattle.c_statements.specs.Statements.{Env, stmt_size, declared_by, declared_in, behind, IsStatement, AreStatements}

-- what stands behind some statements
abbrev pub behind_all : Stmts → Env → Env
behind_all Done env = env
behind_all (Then s ss) env = behind_all ss (behind s env)

-- some statements; env is what stands before them, next what stands behind them
pub record AreFront (env next : Env) (before after : Items) (xs : List Statement) : Type 0 where
  pub texts : Stmts
  pub tokens : terminals before ≡ kinds (stmts texts) ++ terminals after
  pub rest : after ≡ drop (length (stmts texts)) before
  pub are_texts : AreStmts texts
  pub no_more : length after ≤ length before
  pub means : AreStatements env before texts xs
  pub next_is : next ≡ behind_all texts env

unfoldable pub snoc : Stmts → Stmt → Stmts
snoc Done x = Then x Done
snoc (Then s ss) x = Then s (snoc ss x)

pub stmts_snoc : (ss : Stmts) (x : Stmt) → stmts (snoc ss x) ≡ stmts ss ++ stmt x
unfolding snoc
stmts_snoc Done x = append-nil (stmt x)
stmts_snoc (Then s ss) x = ap (λ (xs : Slots). stmt s ++ xs) (stmts_snoc ss x)
    ∙ sym (append_assoc (stmt s) (stmts ss) (stmt x))

pub are_snoc : (ss : Stmts) (x : Stmt) → AreStmts ss → IsStmt x → AreStmts (snoc ss x)
unfolding snoc
are_snoc Done x h k = (k, tt)
are_snoc (Then s ss) x h k = (h.0, are_snoc ss x h.1 k)

pub behind_snoc : (ss : Stmts) (x : Stmt) (env : Env) → behind x (behind_all ss env) ≡ behind_all (snoc ss x) env
unfolding snoc
behind_snoc Done x env = refl
behind_snoc (Then s ss) x env = behind_snoc ss x (behind s env)

means_snoc : (env : Env) (is : Items) (ss : Stmts) (xs : List Statement) (x : Stmt) (y : Statement) →
    AreStatements env is ss xs → IsStatement (behind_all ss env) (drop (length (stmts ss)) is) x y →
    AreStatements env is (snoc ss x) (xs ++ y ∷ [])
unfolding snoc
means_snoc env is Done [] x y m h = (h, tt)
means_snoc env is Done (z ∷ zs) x y m h = absurd m
means_snoc env is (Then s ss) [] x y m h = absurd m
means_snoc env is (Then s ss) (z ∷ zs) x y m h =
    let e : drop (length (stmts (Then s ss))) is ≡ drop (length (stmts ss)) (drop (stmt_size s) is) =
    ap (λ (n : ℕ). drop n is) (length-append (stmt s) (stmts ss))
    ∙ sym (drop-drop (length (stmts ss)) (stmt_size s) is) in (
      m.0,
      means_snoc (behind s env) (drop (stmt_size s) is) ss zs x y m.1
          (subst (λ (js : Items). IsStatement (behind_all ss (behind s env)) js x y) e h),
    )

pub front_none : (env : Env) (before : Items) → AreFront env env before before []
front_none env before = record {
  texts = Done;
  tokens = refl;
  rest = refl;
  are_texts = tt;
  no_more = omega arith;
  means = tt;
  next_is = refl;
}

pub front_more : (env mid_env next : Env) (before mid after : Items) (xs ys : List Statement) (x : Statement) →
    ys ≡ xs ++ x ∷ [] → AreFront env mid_env before mid xs → IsStmtRead mid_env next mid after x →
    AreFront env next before after ys
front_more env mid_env next before mid after xs ys x e f r =
    let m = length (stmts f.texts) in
    let all : stmts (snoc f.texts r.text) ≡ stmts f.texts ++ stmt r.text = stmts_snoc f.texts r.text in
    let size : length (stmts (snoc f.texts r.text)) ≡ m + stmt_size r.text =
    ap (λ (zs : Slots). length zs) all ∙ length-append (stmts f.texts) (stmt r.text) in
    subst (λ (zs : List Statement). AreFront env next before after zs) (sym e)
    (record {
      texts = snoc f.texts r.text;
      tokens = f.tokens ∙ ap (λ (ts : List Terminal). kinds (stmts f.texts) ++ ts) r.tokens
          ∙ sym (append_assoc (kinds (stmts f.texts)) (kinds (stmt r.text)) (terminals after))
          ∙ ap (λ (ts : List Terminal). ts ++ terminals after)
          (sym (kinds_append (stmts f.texts) (stmt r.text)) ∙ ap (λ (us : Slots). kinds us) (sym all));
      rest = drop_by (m + stmt_size r.text) (length (stmts (snoc f.texts r.text))) before after (sym size)
          (drops m (stmt_size r.text) before mid after f.rest r.rest);
      are_texts = are_snoc f.texts r.text f.are_texts r.is_text;
      no_more = omega (arith, f.no_more, r.fewer);
      means = means_snoc env before f.texts xs r.text x f.means
          (subst (λ (v : Env). IsStatement v (drop m before) r.text x) f.next_is
          (subst (λ (js : Items). IsStatement mid_env js r.text x) f.rest r.means));
      next_is = r.next_is ∙ ap (behind r.text) f.next_is ∙ behind_snoc f.texts r.text env;
    })

-- ---- what stands behind them

scalars_by : (s : Stmt) (env : Env) → (behind s env).scalars ≡ env.scalars + declared_by s
scalars_by (Declare x v) env = refl
scalars_by (Assign x v) env = refl
scalars_by (Store x i v) env = refl
scalars_by (Repeat h b) env = refl
scalars_by (Choose e a) env = refl
scalars_by (ChooseElse e a b) env = refl
scalars_by (Show e) env = refl
scalars_by (Block b) env = refl
scalars_by (Directive l) env = refl
scalars_by (Atomic l x i v) env = refl
scalars_by (AtomicAssign l x v) env = refl
scalars_by (AtomicIf l s) env = scalars_by s env
scalars_by (OverBlock l b) env = refl
scalars_by (OverLoop l h b) env = refl

pub scalars_behind : (ss : Stmts) (env : Env) → (behind_all ss env).scalars ≡ env.scalars + declared_in ss
scalars_behind Done env = omega arith
scalars_behind (Then s ss) env = omega (arith, scalars_behind ss (behind s env), scalars_by s env)

loops_by : (s : Stmt) (env : Env) → (behind s env).loops ≡ env.loops
loops_by (Declare x v) env = refl
loops_by (Assign x v) env = refl
loops_by (Store x i v) env = refl
loops_by (Repeat h b) env = refl
loops_by (Choose e a) env = refl
loops_by (ChooseElse e a b) env = refl
loops_by (Show e) env = refl
loops_by (Block b) env = refl
loops_by (Directive l) env = refl
loops_by (Atomic l x i v) env = refl
loops_by (AtomicAssign l x v) env = refl
loops_by (AtomicIf l s) env = loops_by s env
loops_by (OverBlock l b) env = refl
loops_by (OverLoop l h b) env = refl

pub loops_behind : (ss : Stmts) (env : Env) → (behind_all ss env).loops ≡ env.loops
loops_behind Done env = refl
loops_behind (Then s ss) env = loops_behind ss (behind s env) ∙ loops_by s env

pub front_ready : (a b : Scope) (before after : Items) (xs : List Statement) → IsReady a → IsSameBlock a b →
    AreFront (env_of a) (env_of b) before after xs → IsReady b
front_ready a b before after xs r p f =
    let same : loops_in (names_of b) ≡ loops_in (names_of a) =
    ap (λ (v : Env). v.loops) f.next_is ∙ loops_behind f.texts (env_of a) in
    record { target = p.target r.target; loops = omega (arith, same, r.loops, p.statements) }

pub front_ends : (env next : Env) (before : Items) (t t' : Cursor) (n : ℕ) (xs : List Statement) →
    AreFront env next before (items t) xs → (first_item t).terminal ≡ Mark sign.CloseBrace → behind_first t ≡ items t' →
    n ≡ next.scalars → AreStmtsRead env n before (items t') xs
front_ends env next before t t' n xs f e b h = record {
  texts = f.texts;
  tokens = f.tokens ∙ ap (λ (ts : List Terminal). kinds (stmts f.texts) ++ ts)
      (first_then (Mark sign.CloseBrace) t t' e b);
  rest = one_more (length (stmts f.texts)) before t t' f.rest b;
  are_texts = f.are_texts;
  fewer = omega (arith, f.no_more, behind_less t t' b);
  means = f.means;
  scalars = h ∙ ap (λ (v : Env). v.scalars) f.next_is ∙ scalars_behind f.texts env;
}

pub front_begins : (env : Env) (before : Items) (xs : List Statement) → xs ≡ [] → AreFront env env before before xs
front_begins env before xs e = subst (λ (ys : List Statement). AreFront env env before before ys) (sym e)
    (front_none env before)
