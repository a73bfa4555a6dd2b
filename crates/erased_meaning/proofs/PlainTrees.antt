-- A text without directives means one region of the host, or none.
use Rattle.std.proofs.Common.{◌≡◌, false, List, [], ◌∷◌, ◌++◌, drop, refl}
use Rattle.std.proofs.lemmas.Bool.{both_ways}
use Rattle.base.specs.declared.tree.Place.{Place}
use Rattle.base.specs.declared.tree.Part.{Part, items-the_row-Part}
use Rattle.base.specs.declared.tree.Part.TheVariants as part
use Rattle.base.specs.declared.tree.Stmt.{Stmt as Statement}
use Rattle.c_grammar.specs.Grammar.{Stmt, Declare, Assign, Store, Repeat, Choose, ChooseElse, Show, Block, Directive, Atomic, AtomicAssign, AtomicIf, OverBlock, OverLoop, Stmts, Done, Then}
use Rattle.c_expressions.specs.Means.{Items}
use Rattle.c_statements.specs.Statements.{Env, AreStatements, behind, stmt_size, in_loop, head_size}
use Rattle.c_read.specs.declared.piece.Piece.TheVariants as piece
use Rattle.c_read.specs.Parts.{Placed, plain, pieces_in, pieces_of, are_mixed, AreLongest, ArePieces, IsPart}
use Rattle.erasure.specs.Plain.{plain_before, plain_stmts}

abbrev mutual
  pub IsBare : Stmt → Type 0
  IsBare (Repeat h b) = AreBare b
  IsBare (Block b) = AreBare b
  IsBare (Directive l) = ⊥
  IsBare (OverBlock l b) = ⊥
  IsBare (OverLoop l h b) = ⊥
  IsBare _ = Unit {0}

  pub AreBare : Stmts → Type 0
  AreBare Done = Unit {0}
  AreBare (Then s ss) = IsBare s × AreBare ss

mutual
  pub plain_bare : (b : Stmts) → AreBare (plain_stmts b)
  plain_bare Done = tt
  plain_bare (Then s ss) = bare_before s (plain_stmts ss) (plain_bare ss)

  bare_before : (s : Stmt) (ss : Stmts) → AreBare ss → AreBare (plain_before s ss)
  bare_before (Declare x v) ss h = (tt, h)
  bare_before (Assign x v) ss h = (tt, h)
  bare_before (Store x i v) ss h = (tt, h)
  bare_before (Repeat g b) ss h = (plain_bare b, h)
  bare_before (Choose e a) ss h = (tt, h)
  bare_before (ChooseElse e a b) ss h = (tt, h)
  bare_before (Show e) ss h = (tt, h)
  bare_before (Block b) ss h = (plain_bare b, h)
  bare_before (Directive l) ss h = h
  bare_before (Atomic l x i v) ss h = (tt, h)
  bare_before (AtomicAssign l x v) ss h = (tt, h)
  bare_before (AtomicIf l s) ss h = bare_before s ss h
  bare_before (OverBlock l b) ss h = (plain_bare b, h)
  bare_before (OverLoop l g b) ss h = (plain_bare b, h)

-- no piece is a part
abbrev NoParts : List Placed → Type 0
NoParts [] = Unit {0}
NoParts ((at, piece.Statement x) ∷ ps) = NoParts ps
NoParts ((at, piece.Part p) ∷ ps) = ⊥

no_parts_behind : (xs : List Statement) (ps : List Placed) → NoParts (plain xs ++ ps) → NoParts ps
no_parts_behind [] ps h = h
no_parts_behind (x ∷ xs) ps h = no_parts_behind xs ps h

no_parts_in : (place : Place) (xs : List Statement) (ps : List Placed) → NoParts (pieces_in place xs ++ ps) → NoParts ps
no_parts_in place [] ps h = h
no_parts_in place (x ∷ xs) ps h = no_parts_behind xs ps h

not_mixed : (ps : List Part) → NoParts (pieces_of ps) → are_mixed ps ≡ false
not_mixed [] h = refl
not_mixed (part.Host r ∷ ps) h = not_mixed ps (no_parts_in r.place r.body.items (pieces_of ps) h)
not_mixed (part.Block' c row ∷ ps) h = absurd h
not_mixed (part.Loop' a c row ∷ ps) h = absurd h
not_mixed (part.Target t r ∷ ps) h = absurd h
not_mixed (part.Data' g c row ∷ ps) h = absurd h
not_mixed (part.Alone at t ∷ ps) h = absurd h

mutual
  bare_no_parts : (b : Stmts) (env : Env) (is : Items) (ps : List Placed) → AreBare b → ArePieces env is b ps →
      NoParts ps
  bare_no_parts Done env is [] h k = tt
  bare_no_parts Done env is (p ∷ ps) h k = absurd cc
  bare_no_parts (Then s ss) env is [] h k = absurd k
  bare_no_parts (Then s ss) env is ((at, piece.Statement x) ∷ ps) h k =
      bare_no_parts ss (behind s env) (drop (stmt_size s) is) ps h.1 k.2
  bare_no_parts (Then s ss) env is ((at, piece.Part p) ∷ ps) h k = bare_no_part s env is p h.0 k.1

  bare_no_part : (s : Stmt) (env : Env) (is : Items) (p : Part) → IsBare s → IsPart env is s p → ⊥
  bare_no_part (Block b) env is (part.Block' c row) h k =
      both_ways (are_mixed (items-the_row-Part _ row))
      (not_mixed (items-the_row-Part _ row) (bare_no_parts b env (drop 1 is)
      (pieces_of (items-the_row-Part _ row)) h k.1))
      k.0.0
  bare_no_part (Block b) env is _ h k = absurd k
  bare_no_part (Repeat d b) env is (part.Loop' a c row) h k =
      both_ways (are_mixed (items-the_row-Part _ row))
      (not_mixed (items-the_row-Part _ row)
      (bare_no_parts b (in_loop d.name env) (drop (head_size d) is) (pieces_of (items-the_row-Part _ row)) h k.2)) k.1.0
  bare_no_part (Repeat d b) env is _ h k = absurd k
  bare_no_part (Declare x v) env is p h k = absurd k
  bare_no_part (Assign x v) env is p h k = absurd k
  bare_no_part (Store x i v) env is p h k = absurd k
  bare_no_part (Choose e a) env is p h k = absurd k
  bare_no_part (ChooseElse e a b) env is p h k = absurd k
  bare_no_part (Show e) env is p h k = absurd k
  bare_no_part (Directive l) env is p h k = absurd h
  bare_no_part (Atomic l x i v) env is p h k = absurd k
  bare_no_part (AtomicAssign l x v) env is p h k = absurd k
  bare_no_part (AtomicIf l s) env is p h k = absurd k
  bare_no_part (OverBlock l b) env is p h k = absurd h
  bare_no_part (OverLoop l g b) env is p h k = absurd h

-- ---- its statements

pieces_statements : (b : Stmts) (env : Env) (is : Items) (xs : List Statement) → ArePieces env is b (plain xs ++ []) →
    AreStatements env is b xs
pieces_statements Done env is [] h = tt
pieces_statements Done env is (x ∷ xs) h = absurd cc
pieces_statements (Then s ss) env is [] h = absurd h
pieces_statements (Then s ss) env is (x ∷ xs) h =
    (h.1, pieces_statements ss (behind s env) (drop (stmt_size s) is) xs h.2)

placed_statements : (b : Stmts) (env : Env) (is : Items) (place : Place) (xs : List Statement) →
    ArePieces env is b (pieces_in place xs ++ []) →
    AreStatements env is b xs
placed_statements Done env is place [] h = tt
placed_statements Done env is place (x ∷ xs) h = absurd cc
placed_statements (Then s ss) env is place [] h = absurd h
placed_statements (Then s ss) env is place (x ∷ xs) h =
    (h.1, pieces_statements ss (behind s env) (drop (stmt_size s) is) xs h.2)

-- no region, or one of these statements
abbrev pub AreOneRegion : Env → Items → Stmts → List Part → Type 0
AreOneRegion env is b [] = AreStatements env is b []
AreOneRegion env is b (part.Host r ∷ []) = AreStatements env is b r.body.items
AreOneRegion env is b _ = ⊥

pub one_region : (b : Stmts) (env : Env) (is : Items) (ps : List Part) → AreBare b →
    ArePieces env is b (pieces_of ps) → AreLongest false ps →
    AreOneRegion env is b ps
one_region b env is ps bare h l = go ps h l (bare_no_parts b env is (pieces_of ps) bare h)
  where
    none : (b : Stmts) → ArePieces env is b [] → AreStatements env is b []
    none Done h = tt
    none (Then s ss) h = absurd h

    go : (ps : List Part) → ArePieces env is b (pieces_of ps) → AreLongest false ps → NoParts (pieces_of ps) →
        AreOneRegion env is b ps
    go [] h l n = none b h
    go (part.Host r ∷ []) h l n = placed_statements b env is r.place r.body.items h
    go (part.Host r ∷ part.Host u ∷ ps) h l n = absurd (let bad = l.2.0 in cc)
    go (part.Host r ∷ part.Block' c row ∷ ps) h l n = absurd (no_parts_in r.place r.body.items _ n)
    go (part.Host r ∷ part.Loop' a c row ∷ ps) h l n = absurd (no_parts_in r.place r.body.items _ n)
    go (part.Host r ∷ part.Target t u ∷ ps) h l n = absurd (no_parts_in r.place r.body.items _ n)
    go (part.Host r ∷ part.Data' g c row ∷ ps) h l n = absurd (no_parts_in r.place r.body.items _ n)
    go (part.Host r ∷ part.Alone at t ∷ ps) h l n = absurd (no_parts_in r.place r.body.items _ n)
    go (part.Block' c row ∷ ps) h l n = absurd n
    go (part.Loop' a c row ∷ ps) h l n = absurd n
    go (part.Target t r ∷ ps) h l n = absurd n
    go (part.Data' g c row ∷ ps) h l n = absurd n
    go (part.Alone at t ∷ ps) h l n = absurd n
