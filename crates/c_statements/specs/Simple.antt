-- Statements without a body that were read.
use Rattle.std.specs.Prelude.{◌≡◌, ℕ, ◌+◌, ◌<◌, Bool, true, false, ◌&&◌, ◌||◌, nat_lt, nat_le, not, if◌then◌else◌, List, [], ◌∷◌, ◌++◌, length, drop, Option, Some, None}
use Rattle.c_tokens.specs.declared.kind.Sign.TheVariants as sign
use Rattle.base.specs.declared.tree.ArrayId.{ArrayId}
use Rattle.base.specs.declared.tree.Expr.{Expr}
use Rattle.base.specs.declared.tree.Expr.TheVariants.{Number}
use Rattle.base.specs.declared.tree.Place.{Place}
use Rattle.base.specs.declared.tree.ScalarId.{ScalarId}
use Rattle.base.specs.declared.tree.Source.{Source as Assigned}
use Rattle.base.specs.declared.tree.Stmt.{Stmt as Statement}
use Rattle.base.specs.declared.tree.Stmt.TheVariants as statement
use Rattle.base.specs.declared.fault.ReadCode.{ReadCode as Code}
use Rattle.base.specs.declared.fault.ReadCode.TheVariants.{Undeclared, LoopNameAssigned, TooMany, OuterAssigned}
use Rattle.c_grammar.specs.LineRules.{max_name}
use Rattle.c_grammar.specs.Lines.{is_atomic, is_omp}
use Rattle.c_grammar.specs.Terminal.{Terminal, Mark, Line, same}
use Rattle.c_grammar.specs.Grammar.{Act, Plain, MakesScalar, for, Source, Stmt, Assign, Store, Choose, ChooseElse, Term, source, stmt, term, IsRanked, IsRankedSource, IsStmt}
use Rattle.c_grammar.specs.Rules.{Sort, AnArray, AScalar, ABoxed, ALoop, inside, max_statements}
use Rattle.c_grammar.specs.Program.{Symbol, Stack, Want, Atom, Tail, Value, m}
use Rattle.c_expressions.specs.declared.fault.ReadError.{ReadError}
use Rattle.c_expressions.specs.declared.fault.ReadError.TheVariants as error
use Rattle.c_expressions.specs.declared.scope.Meaning.{Meaning}
use Rattle.c_expressions.specs.declared.scope.Meaning.TheVariants as meaning
use Rattle.c_expressions.specs.declared.scope.Scope.{Scope}
use Rattle.c_expressions.specs.Means.{Items, Names, term_size, IsExpr}
use Rattle.c_expressions.specs.Reading.{terminals, kinds}
use Rattle.c_expressions.specs.Scopes.{boxes_of, context_of, names_of}
use Rattle.directives.specs.declared.fault.DirectiveFault.{DirectiveFault}
use Rattle.directives.specs.declared.fault.DirectiveFault.TheVariants as fault
use Rattle.c_statements.specs.Statements.{Env, source_size, stmt_size, behind, IsSource, IsStatement}

-- how many loops some names are those of
abbrev pub loops_in : Names → ℕ
loops_in [] = 0
loops_in ((x, meaning.Loop n) ∷ ns) = loops_in ns + 1
loops_in ((x, meaning.Array a) ∷ ns) = loops_in ns
loops_in ((x, meaning.Scalar n i) ∷ ns) = loops_in ns
loops_in ((x, meaning.Boxed a n) ∷ ns) = loops_in ns

-- what stands before a statement
abbrev pub env_of : Scope → Env
env_of s =
    record {
      names = names_of s;
      boxes = boxes_of s;
      scalars = s.scalars;
      loops = loops_in (names_of s);
      inside = inside (context_of s 0 0);
    }

-- one statement more has begun
abbrev pub counted : Scope → Scope
counted s = record s { statements = s.statements + 1 }

-- the semicolon behind what is assigned; whether it ends a declaration
abbrev pub end_act : Bool → Act
end_act true = MakesScalar
end_act false = Plain

abbrev pub ending : Bool → Symbol
ending b = Want (Mark sign.Semicolon) (for (end_act b))

-- the line of an atomic update
abbrev pub is_atomic_line : Terminal → Bool
is_atomic_line (Line ts) = is_omp ts && is_atomic ts
is_atomic_line _ = false

-- a fault of a line of the source
abbrev pub seen_error : ℕ → DirectiveFault → ReadError
seen_error line fault.OutOfMemory = error.Memory
seen_error line (fault.Line f) = error.Fault (record { code = f.code; line = line; column = f.column })

-- behind the word print
abbrev pub print_rest : Stack → Stack
print_rest s = m sign.OpenParen ∷ Atom ∷ Tail 9 ∷ m sign.CloseParen ∷ m sign.Semicolon ∷ s

-- behind the name of the array in which is stored
abbrev pub store_rest : Stack → Stack
store_rest s = m sign.OpenBracket ∷ Atom ∷ Tail 9 ∷ m sign.CloseBracket ∷ m sign.Equal ∷ Value ∷ m sign.Semicolon ∷ s

-- these tokens are those of what is assigned and then these
pub record IsSourceRead (env : Env) (before after : Items) (v : Assigned) : Type 0 where
  pub text : Source
  pub tokens : terminals before ≡ kinds (source text) ++ terminals after
  pub rest : after ≡ drop (source_size text) before
  pub ranked : IsRankedSource text
  pub fewer : length after < length before
  pub means : IsSource env before text v

-- with a semicolon behind it
pub record IsSourceBefore (env : Env) (before after : Items) (v : Assigned) : Type 0 where
  pub text : Source
  pub tokens : terminals before ≡ kinds (source text) ++ (Mark sign.Semicolon ∷ terminals after)
  pub rest : after ≡ drop (source_size text + 1) before
  pub ranked : IsRankedSource text
  pub fewer : length after < length before
  pub means : IsSource env before text v

-- behind the word print: a value in brackets and the end of the statement
pub record IsPrintRead (names : Names) (before after : Items) (e : Expr) : Type 0 where
  pub value : Term
  pub tokens : terminals before ≡ Mark sign.OpenParen ∷ (kinds (term value) ++
      (Mark sign.CloseParen ∷ Mark sign.Semicolon ∷ terminals after))
  pub rest : after ≡ drop (term_size value + 3) before
  pub ranked : IsRanked value
  pub fewer : length after < length before
  pub means : IsExpr names (drop 1 before) value e

-- behind a scalar's name: what is assigned and its signs
pub record IsAssignRead (env : Env) (before after : Items) (v : Assigned) : Type 0 where
  pub value : Source
  pub tokens : terminals before ≡ Mark sign.Equal ∷ (kinds (source value) ++ (Mark sign.Semicolon ∷ terminals after))
  pub rest : after ≡ drop (source_size value + 2) before
  pub ranked : IsRankedSource value
  pub fewer : length after < length before
  pub means : IsSource env (drop 1 before) value v

-- behind an array's name: a subscript, what is stored and their signs
pub record IsStoreRead (env : Env) (before after : Items) (e : Expr) (v : Assigned) : Type 0 where
  pub index : Term
  pub value : Source
  pub tokens : terminals before ≡ Mark sign.OpenBracket ∷ (kinds (term index) ++
      (Mark sign.CloseBracket ∷ Mark sign.Equal ∷ (kinds (source value) ++ (Mark sign.Semicolon ∷ terminals after))))
  pub rest : after ≡ drop (term_size index + source_size value + 4) before
  pub ranked : IsRanked index
  pub value_ranked : IsRankedSource value
  pub fewer : length after < length before
  pub index_means : IsExpr env.names (drop 1 before) index e
  pub value_means : IsSource env (drop (term_size index + 3) before) value v

-- a statement; env is what stands before it, next what stands behind it
pub record IsStmtRead (env next : Env) (before after : Items) (x : Statement) : Type 0 where
  pub text : Stmt
  pub tokens : terminals before ≡ kinds (stmt text) ++ terminals after
  pub rest : after ≡ drop (stmt_size text) before
  pub is_text : IsStmt text
  pub fewer : length after < length before
  pub means : IsStatement env before text x
  pub next_is : next ≡ behind text env

-- an assignment to a scalar, a store or an if, before which the line of an atomic update may stand
abbrev pub IsMarkable : Stmt → Type 0
IsMarkable (Assign x v) = Unit {0}
IsMarkable (Store x i v) = Unit {0}
IsMarkable (Choose e a) = Unit {0}
IsMarkable (ChooseElse e a b) = Unit {0}
IsMarkable _ = ⊥

pub record IsMarkableRead (env next : Env) (before after : Items) (x : Statement) : Type 0 where
  pub read : IsStmtRead env next before after x
  pub markable : IsMarkable read.text

-- what the declaration of a scalar does, whose name stands at a place
abbrev pub declaration : ScalarId → Option ArrayId → Place → Assigned → Statement
declaration id None at v = statement.Declare id v
declaration id (Some a) at v = statement.Store a at (Number 0) v

-- ---- a name with which a statement begins

-- its fault, where an equals sign or a bracket follows, a limit is met, or a target is around
abbrev pub assign_code : Option Sort → Bool → Bool → Bool → Bool → Option Code
assign_code None equal bracket over within = Some Undeclared
assign_code (Some AnArray) equal bracket over within = if equal then Some Undeclared else
    (if over then Some TooMany else None)
assign_code (Some ALoop) equal bracket over within = if bracket then Some Undeclared else
    (if equal then Some LoopNameAssigned else (if over then Some TooMany else None))
assign_code (Some (AScalar i)) equal bracket over within = if bracket then Some Undeclared else
    (if over then Some TooMany else (if equal && within && not i then Some OuterAssigned else None))
assign_code (Some ABoxed) equal bracket over within = if bracket then Some Undeclared else
    (if over then Some TooMany else None)

-- a limit is met at a name
abbrev pub is_over : Scope → List ℕ → Bool
is_over s x = nat_lt max_name (length x) || nat_le max_statements s.statements

-- the fault of a name with which a statement begins, before a token
abbrev pub code_at : Scope → List ℕ → Option Sort → Terminal → Option Code
code_at sc x o next = assign_code o (same (Mark sign.Equal) next) (same (Mark sign.OpenBracket) next) (is_over sc x)
    (inside (context_of sc 0 0))

-- what a name may mean that has no fault, where an equals sign or a bracket follows
abbrev pub IsKept : Option Meaning → Bool → Bool → Type 0
IsKept None equal bracket = ⊥
IsKept (Some (meaning.Array a)) equal bracket = equal ≡ false
IsKept (Some (meaning.Scalar n i)) equal bracket = bracket ≡ false
IsKept (Some (meaning.Boxed a n)) equal bracket = bracket ≡ false
IsKept (Some (meaning.Loop n)) equal bracket = (equal ≡ false) × (bracket ≡ false)
