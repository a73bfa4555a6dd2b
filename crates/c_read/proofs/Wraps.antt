-- Blocks and loops of what was gathered.
use Rattle.std.proofs.Common.{◌≡◌, true, false, List, [], ◌∷◌, ◌++◌, drop, Vec, Global, refl, sym, subst}
use Rattle.base.specs.declared.tree.Bounds.{Bounds}
use Rattle.base.specs.declared.tree.Stmt.{Stmt as Statement, Block as BlockOf, Loop as LoopOf}
use Rattle.base.specs.declared.tree.Place.{Place}
use Rattle.base.specs.declared.tree.Part.TheVariants as part
use Rattle.base.specs.declared.tree.Part.{Part, Block as PartBlock, Loop as PartLoop, items_hidden-the_row-Part-0}
use Rattle.c_grammar.specs.Grammar.{Head, Stmts, Block, Repeat}
use Rattle.c_expressions.specs.Means.{Items}
use Rattle.c_statements.specs.Statements.{Env, IsHead, head_size, in_loop, AreStatements}
use Rattle.c_statements.proofs.Wholes.{block_at, loop_at}
use Rattle.c_read.specs.declared.piece.Piece.TheVariants as piece
use Rattle.c_read.specs.declared.gathered.Gathered.{Gathered}
use Rattle.c_read.specs.Parts.{Placed, pieces_of, pieces_in, is_host, are_mixed, AreLongest, AreMixed, ArePieces, IsPiece}
use Rattle.c_read.specs.Gathering.{so_far, IsGathered, AreNoneOrMixed}
use Rattle.c_read.specs.Read.{AreAlone}
use Rattle.c_read.proofs.Gathering.{longest_alone}
use Rattle.c_read.proofs.Pieces.{plain_statements}

-- ---- without a directive

statements_in : (g : Gathered) (env : Env) (is : Items) (b : Stmts) → g.parts.items ≡ [] → ArePieces env is b (so_far g) →
    AreStatements env is b g.run.items
statements_in g env is b e m = plain_statements env is b g.place g.run.items
    (subst (λ (ps : List Part). ArePieces env is b (pieces_of ps ++ pieces_in g.place g.run.items)) e m)

pub block_statement : (g : Gathered) (env : Env) (is : Items) (b : Stmts) → g.parts.items ≡ [] →
    ArePieces env (drop 1 is) b (so_far g) → IsPiece env is (Block b) (piece.Statement (BlockOf g.run))
block_statement g env is b e m = block_at env is b g.run (statements_in g env (drop 1 is) b e m)

pub loop_statement : (g : Gathered) (bounds : Bounds) (env : Env) (is : Items) (h : Head) (b : Stmts) → g.parts.items ≡ [] →
    IsHead h bounds → ArePieces (in_loop h.name env) (drop (head_size h) is) b (so_far g) →
    IsPiece env is (Repeat h b) (piece.Statement (LoopOf bounds g.run))
loop_statement g bounds env is h b e k m =
    loop_at env is h b bounds g.run k (statements_in g (in_loop h.name env) (drop (head_size h) is) b e m)

-- ---- with one

some_mixed : (ps : List Part) → AreNoneOrMixed ps → (ps ≡ [] → ⊥) → are_mixed ps ≡ true
some_mixed [] h n = absurd (n refl)
some_mixed (p ∷ ps) h n = h

mixed_parts : (g : Gathered) (v : Vec Part Global) → IsGathered g → (g.parts.items ≡ [] → ⊥) → AreLongest false v.items →
    (are_mixed g.parts.items ≡ true → are_mixed v.items ≡ true) → AreMixed v.items
mixed_parts g v s n l k = (k (some_mixed g.parts.items s.mixed n), l)

pub block_part : (g : Gathered) (v : Vec Part Global) (env : Env) (is : Items) (b : Stmts) → IsGathered g →
    (g.parts.items ≡ [] → ⊥) → pieces_of v.items ≡ so_far g → AreLongest false v.items →
    (are_mixed g.parts.items ≡ true → are_mixed v.items ≡ true) → ArePieces env (drop 1 is) b (so_far g) →
    IsPiece env is (Block b) (piece.Part (PartBlock v))
block_part g v env is b s n e l k m =
    subst (λ (ps : List Part). AreMixed ps × ArePieces env (drop 1 is) b (pieces_of ps)) (sym (items_hidden-the_row-Part-0 v))
    (mixed_parts g v s n l k, subst (λ (ps : List Placed). ArePieces env (drop 1 is) b ps) (sym e) m)

pub loop_part : (g : Gathered) (v : Vec Part Global) (bounds : Bounds) (env : Env) (is : Items) (h : Head) (b : Stmts) → IsGathered g →
    (g.parts.items ≡ [] → ⊥) → pieces_of v.items ≡ so_far g → AreLongest false v.items →
    (are_mixed g.parts.items ≡ true → are_mixed v.items ≡ true) → IsHead h bounds →
    ArePieces (in_loop h.name env) (drop (head_size h) is) b (so_far g) →
    IsPiece env is (Repeat h b) (piece.Part (PartLoop bounds v))
loop_part g v bounds env is h b s n e l k i m =
    let t = in_loop h.name env in
    let js = drop (head_size h) is in
    subst (λ (ps : List Part). IsHead h bounds × AreMixed ps × ArePieces t js b (pieces_of ps)) (sym (items_hidden-the_row-Part-0 v))
    (i, mixed_parts g v s n l k, subst (λ (ps : List Placed). ArePieces t js b ps) (sym e) m)

-- ---- one alone

pub alone_host : (place : Place) (x : Statement) (body : Vec Statement Global) (ps : List Part) → body.items ≡ x ∷ [] →
    ps ≡ part.Host (record { place = place; body = body; depth = 0 }) ∷ [] → AreAlone place (piece.Statement x) ps
alone_host place x body ps e f = (record { place = place; body = body; depth = 0 }, f, refl, e, refl)

pub alone_part : (place : Place) (p : Part) (ps : List Part) → ps ≡ p ∷ [] → AreAlone place (piece.Part p) ps
alone_part place p ps e = e

some_item : (xs : List Statement) (x : Statement) → xs ≡ x ∷ [] → xs ≡ [] → ⊥
some_item xs x e n = absurd cc

pub longest_host : (place : Place) (x : Statement) (body : Vec Statement Global) (ps : List Part) → body.items ≡ x ∷ [] →
    ps ≡ part.Host (record { place = place; body = body; depth = 0 }) ∷ [] → AreLongest false ps
longest_host place x body ps e f =
    subst (λ (qs : List Part). AreLongest false qs) (sym f) (refl, some_item body.items x e, tt, refl)

pub longest_part : (p : Part) (ps : List Part) → is_host p ≡ false → ps ≡ p ∷ [] → AreLongest false ps
longest_part p ps n e = subst (λ (qs : List Part). AreLongest false qs) (sym e) (longest_alone false p n)
