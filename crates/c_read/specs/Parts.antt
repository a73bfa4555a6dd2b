-- Which parts a text means: the longest runs of statements without a directive of a part are regions of the host. An
-- atomic update is such a statement.
use Rattle.std.specs.Prelude.{◌≡◌, ◌≢◌, ◌+◌, Bool, true, false, List, [], ◌∷◌, ◌++◌, drop, map, Option, Some, None, ◌⊎◌}
use Rattle.base.specs.declared.tree.Bounds.{Bounds}
use Rattle.base.specs.declared.tree.Place.{Place}
use Rattle.base.specs.declared.tree.Stmt.{Stmt as Statement}
use Rattle.base.specs.declared.tree.Part.{Part, items-the_row-Part}
use Rattle.base.specs.declared.tree.Part.TheVariants as part
use Rattle.c_grammar.specs.Lines.{depth_of}
use Rattle.c_grammar.specs.Grammar.{Head, Stmt, Repeat, Block, Directive, OverBlock, OverLoop, Stmts, Done, Then}
use Rattle.c_expressions.specs.Means.{Items, place_of}
use Rattle.c_statements.specs.Statements.{Env, IsHead, IsStatement, AreStatements, behind, in_loop, stmt_size, head_size}
use Rattle.c_constructs.specs.LineMeaning.{LineOf}
use Rattle.c_constructs.specs.Written.{IsAlone, IsTarget, IsData}
use Rattle.c_read.specs.declared.piece.Piece.{Piece}
use Rattle.c_read.specs.declared.piece.Piece.TheVariants as piece

-- inside a target
abbrev pub in_target : Env → Env
in_target env = record env { inside = true }

-- ---- what parts are made of

-- a statement or part with the place that a region which begins there has
abbrev pub Placed : Type 0
Placed = Option Place × Piece

abbrev pub plain : List Statement → List Placed
plain xs = map (λ x. (None, piece.Statement x)) xs

-- the statements of a region of the host
abbrev pub pieces_in : Place → List Statement → List Placed
pieces_in place [] = []
pieces_in place (x ∷ xs) = (Some place, piece.Statement x) ∷ plain xs

abbrev pub pieces_of : List Part → List Placed
pieces_of [] = []
pieces_of (part.Host r ∷ ps) = pieces_in r.place r.body.items ++ pieces_of ps
pieces_of (p ∷ ps) = (None, piece.Part p) ∷ pieces_of ps

abbrev pub is_host : Part → Bool
is_host (part.Host r) = true
is_host p = false

-- one of the parts is no region of the host
abbrev pub are_mixed : List Part → Bool
are_mixed [] = false
are_mixed (part.Host r ∷ ps) = are_mixed ps
are_mixed (p ∷ ps) = true

-- no region of the host is empty, none has turns that may run in any order, and none follows another; the first follows
-- one or not
abbrev pub AreLongest : Bool → List Part → Type 0
AreLongest follows [] = Unit {0}
AreLongest follows (part.Host r ∷ ps) = (follows ≡ false) × (r.body.items ≢ []) × AreLongest true ps × (r.depth ≡ 0)
AreLongest follows (p ∷ ps) = AreLongest false ps

-- the parts of a block or loop with a directive
abbrev pub AreMixed : List Part → Type 0
AreMixed ps = (are_mixed ps ≡ true) × AreLongest false ps

abbrev pub IsPlaceAt : Items → Option Place → Type 0
IsPlaceAt is None = Unit {0}
IsPlaceAt is (Some place) = place ≡ place_of is

-- a loop without a directive of a part is a region of the host
abbrev pub IsHostLoop : Env → Items → Head → Stmts → List Part → Type 0
IsHostLoop env is h b (part.Host r ∷ []) =
    (r.place ≡ place_of is) × AreStatements env is (Then (Repeat h b) Done) r.body.items × (r.depth ≡ 0)
IsHostLoop env is h b _ = ⊥

-- one loop, of whose bounds and parts this holds
abbrev pub OneLoop : (Bounds → List Part → Type 0) → List Part → Type 0
OneLoop holds (part.Loop' bounds shape row ∷ []) = holds bounds (items-the_row-Part _ row)
OneLoop holds _ = ⊥

-- ---- what a text means

abbrev mutual
  pub ArePieces : Env → Items → Stmts → List Placed → Type 0
  ArePieces env is Done ps = ps ≡ []
  ArePieces env is (Then s ss) [] = ⊥
  ArePieces env is (Then s ss) ((at, piece.Statement x) ∷ ps) =
      IsPlaceAt is at × IsStatement env is s x × ArePieces (behind s env) (drop (stmt_size s) is) ss ps
  ArePieces env is (Then s ss) ((at, piece.Part p) ∷ ps) =
      IsPlaceAt is at × IsPart env is s p × ArePieces (behind s env) (drop (stmt_size s) is) ss ps

  -- the part that a statement with a directive of a part means
  pub IsPart : Env → Items → Stmt → Part → Type 0
  IsPart env is (Block b) (part.Block' shape row) =
      AreMixed (items-the_row-Part _ row) × ArePieces env (drop 1 is) b (pieces_of (items-the_row-Part _ row))
  IsPart env is (Repeat h b) (part.Loop' bounds shape row) =
      IsHead h bounds × AreMixed (items-the_row-Part _ row) ×
      ArePieces (in_loop h.name env) (drop (head_size h) is) b (pieces_of (items-the_row-Part _ row))
  IsPart env is (Directive l) (part.Alone place d) =
      (u : LineOf l) × (place ≡ place_of is) × IsAlone env.names is u.text d
  IsPart env is (OverBlock l b) (part.Target t r) =
      (u : LineOf l) × IsTarget env.names is u.text t × (r.place ≡ place_of (drop 1 is)) ×
      AreStatements (in_target env) (drop 2 is) b r.body.items × (r.depth ≡ 0)
  IsPart env is (OverLoop l h b) (part.Target t r) =
      (u : LineOf l) × IsTarget env.names is u.text t × (r.place ≡ place_of (drop 1 is)) ×
      AreStatements (in_target env) (drop 1 is) (Then (Repeat h b) Done) r.body.items × (r.depth ≡ depth_of l)
  IsPart env is (OverBlock l b) (part.Data' d shape row) =
      (u : LineOf l) × IsData env.names is u.text d ×
      AreLongest false (items-the_row-Part _ row) × ArePieces env (drop 2 is) b (pieces_of (items-the_row-Part _ row))
  IsPart env is (OverLoop l h b) (part.Data' d shape row) =
      (u : LineOf l) × IsData env.names is u.text d ×
      (IsHostLoop env (drop 1 is) h b (items-the_row-Part _ row) ⊎
      OneLoop (λ bounds ps. IsHead h bounds × AreMixed ps ×
      ArePieces (in_loop h.name env) (drop (1 + head_size h) is) b (pieces_of ps)) (items-the_row-Part _ row))
  IsPart env is _ _ = ⊥

abbrev pub IsPiece : Env → Items → Stmt → Piece → Type 0
IsPiece env is s (piece.Statement x) = IsStatement env is s x
IsPiece env is s (piece.Part p) = IsPart env is s p

-- the parts that statements mean
pub record AreParts (env : Env) (is : Items) (ss : Stmts) (ps : List Part) : Type 0 where
  pub pieces : ArePieces env is ss (pieces_of ps)
  pub longest : AreLongest false ps
