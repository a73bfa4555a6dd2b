-- What was read of the statements and directives of main.
use Rattle.std.specs.Prelude.{◌≡◌, ℕ, suc, ◌+◌, ◌<◌, ◌≤◌, true, false, List, [], ◌∷◌, ◌++◌, length, drop, ◌⊎◌, Vec}
use Rattle.std.specs.declared.alloc.Global.{Global}
use Rattle.c_tokens.specs.declared.kind.Sign.TheVariants as sign
use Rattle.c_tokens.specs.declared.limits.TheConstants.{MAX_STATEMENTS}
use Rattle.base.specs.declared.tree.Place.{Place}
use Rattle.base.specs.declared.tree.Region.{Region}
use Rattle.base.specs.declared.tree.Part.{Part, Data as DataOf}
use Rattle.base.specs.declared.tree.Part.TheVariants as part
use Rattle.base.specs.declared.tree.Stmt.{Stmt as Statement}
use Rattle.c_grammar.specs.Lexeme.{For}
use Rattle.c_grammar.specs.Terminal.{Fixed, Mark}
use Rattle.c_grammar.specs.Grammar.{Head, Stmt, Stmts, Repeat, stmt, stmts, IsStmt, AreStmts, IsNest, IsLoopNest, deeper, loop_slots}
use Rattle.c_grammar.specs.Rules.{inside, under_if}
use Rattle.c_expressions.specs.declared.scope.Scope.{Scope}
use Rattle.c_expressions.specs.Means.{Items, place_of}
use Rattle.c_expressions.specs.Reading.{terminals, kinds}
use Rattle.c_expressions.specs.Scopes.{context_of, names_of}
use Rattle.c_statements.specs.Statements.{Env, stmt_size, behind, declared_in, more}
use Rattle.c_statements.specs.Simple.{loops_in, IsStmtRead}
use Rattle.c_statements.specs.Bodies.{IsReady, IsBodyRead, AreStmtsRead}
use Rattle.c_constructs.specs.declared.resolved.Construct.{Construct}
use Rattle.c_constructs.specs.declared.resolved.Construct.TheVariants as construct
use Rattle.c_read.specs.declared.piece.Piece.{Piece}
use Rattle.c_read.specs.declared.piece.Piece.TheVariants as piece
use Rattle.c_read.specs.Parts.{Placed, in_target, pieces_of, AreLongest, ArePieces, IsPiece}

-- one more statement has begun than loops stand around
pub record HasBegun (s : Scope) : Type 0 where
  pub loops : loops_in (names_of s) + 1 ≤ s.statements
  pub few : s.statements ≤ MAX_STATEMENTS

-- outside targets and ifs, where a directive may stand
pub record IsOutside (s : Scope) : Type 0 where
  pub ready : IsReady s
  pub outside : inside (context_of s 0 0) ≡ false
  pub always : under_if (context_of s 0 0) ≡ false
  pub waiting : s.choice ≡ false

-- a statement or part; env is what stands before it, next what stands behind it
pub record IsPieceRead (env next : Env) (before after : Items) (p : Piece) : Type 0 where
  pub text : Stmt
  pub tokens : terminals before ≡ kinds (stmt text) ++ terminals after
  pub rest : after ≡ drop (stmt_size text) before
  pub is_text : IsStmt text
  pub fewer : length after < length before
  pub means : IsPiece env before text p
  pub next_is : next ≡ behind text env

-- a loop of a target, with a nest of so many loops in it
pub record IsNestRead (depth : ℕ) (env next : Env) (before after : Items) (x : Statement) : Type 0 where
  pub read : IsStmtRead env next before after x
  pub nest : IsLoopNest read.text depth

-- the body of such a loop
pub record IsNestBodyRead (depth : ℕ) (env inner next : Env) (before after : Items) (xs : List Statement) : Type 0 where
  pub read : IsBodyRead env inner next before after xs
  pub nest : IsNest read.texts depth

-- a loop with a nest of so many in it, and the brace that ends the body around it
pub record AreNestRead (depth : ℕ) (env : Env) (next : ℕ) (before after : Items) (xs : List Statement) : Type 0 where
  pub read : AreStmtsRead env next before after xs
  pub nest : IsNest read.texts (suc depth)

-- the statements and parts of a block and the brace that ends it; next is how many scalars are declared behind them
pub record AreInnerRead (env : Env) (next : ℕ) (before after : Items) (ps : List Placed) : Type 0 where
  pub texts : Stmts
  pub tokens : terminals before ≡ kinds (stmts texts) ++ (Mark sign.CloseBrace ∷ terminals after)
  pub rest : after ≡ drop (length (stmts texts) + 1) before
  pub are_texts : AreStmts texts
  pub fewer : length after < length before
  pub means : ArePieces env before texts ps
  pub scalars : next ≡ env.scalars + declared_in texts

-- in braces; inner is what stands behind the first brace
pub record IsBlockRead (env inner next : Env) (before after : Items) (ps : List Placed) : Type 0 where
  pub texts : Stmts
  pub tokens : terminals before ≡ Mark sign.OpenBrace ∷
      (kinds (stmts texts) ++ (Mark sign.CloseBrace ∷ terminals after))
  pub rest : after ≡ drop (length (stmts texts) + 2) before
  pub are_texts : AreStmts texts
  pub fewer : length after < length before
  pub means : ArePieces inner (drop 1 before) texts ps
  pub next_is : next ≡ more (declared_in texts) env

-- a loop behind its word
pub record IsLoopRead (env next : Env) (before after : Items) (p : Piece) : Type 0 where
  pub head : Head
  pub texts : Stmts
  pub tokens : terminals before ≡ kinds (loop_slots head texts) ++ terminals after
  pub rest : after ≡ drop (length (loop_slots head texts)) before
  pub are_texts : AreStmts texts
  pub fewer : length after < length before
  pub means : (is : Items) → drop 1 is ≡ before → IsPiece env is (Repeat head texts) p
  pub next_is : next ≡ more (declared_in texts) env

-- one statement or part alone, which stands at the place
abbrev pub AreAlone : Place → Piece → List Part → Type 0
AreAlone place (piece.Statement x) ps =
    (r : Region) × (ps ≡ part.Host r ∷ []) × (r.place ≡ place) × (r.body.items ≡ x ∷ []) × (r.depth ≡ 0)
AreAlone place (piece.Part p) ps = ps ≡ p ∷ []

-- the region of a target: a block, or so many nested loops, or any one loop
abbrev pub IsRegionRead : ℕ → Env → Env → Items → Items → List Statement → Type 0
IsRegionRead depth env next before after xs =
    ((depth ≡ 0) × IsBodyRead env (in_target env) next before after xs) ⊎ ((x : Statement) × (xs ≡ x ∷ []) ×
    IsNestRead (deeper depth) (in_target env) (in_target next) before after x)

-- the parts of a target data: those of a block, or of a loop
abbrev pub AreDataRead : Env → Env → Items → Items → List Part → Type 0
AreDataRead env next before after ps =
    IsBlockRead env env next before after (pieces_of ps) ⊎ ((p : Piece) × AreAlone (place_of before) p ps ×
    (terminals before ≡ Fixed For ∷ terminals (drop 1 before)) × IsLoopRead env next (drop 1 before) after p)

-- the next block is that of a target, and none around is; its directive has begun as a statement
pub record IsTargetNext (s : Scope) : Type 0 where
  pub target : s.target ≡ true
  pub begun : HasBegun s

-- behind the line of a directive that a block or loop must follow
abbrev pub IsOverNext : Construct → Scope → Type 0
IsOverNext (construct.Target g depth) s = IsTargetNext s
IsOverNext (construct.Data d) s = IsOutside s × HasBegun s

-- the part of such a directive, from behind its line on
abbrev pub IsOverRead : Env → Env → Construct → Items → Items → Part → Type 0
IsOverRead env next (construct.Target g depth) before after p =
    (r : Region) × (p ≡ part.Target g r) × (r.place ≡ place_of before) ×
    IsRegionRead depth env next before after r.body.items × (r.depth ≡ depth)
IsOverRead env next (construct.Data d) before after p =
    (v : Vec Part Global) × (p ≡ DataOf d v) × AreLongest false v.items × AreDataRead env next before after v.items
