-- Statements and parts one after another that were read.
use Rattle.std.proofs.Common.{◌≡◌, ℕ, ◌+◌, ◌≤◌, List, [], ◌∷◌, ◌++◌, length, drop, Option, Some, None, refl, sym, ap, subst, ◌∙◌, append_assoc, arith, length-append}
use Rattle.std.proofs.lemmas.List.{drop-drop}
use Rattle.c_tokens.specs.declared.kind.Sign.TheVariants as sign
use Rattle.base.specs.declared.tree.Place.{Place}
use Rattle.base.specs.declared.tree.Stmt.{Stmt as Statement}
use Rattle.c_grammar.specs.Terminal.{Terminal, Mark}
use Rattle.c_grammar.specs.Grammar.{Slots, Stmt, Stmts, Done, Then, stmt, stmts, AreStmts}
use Rattle.c_expressions.specs.declared.cursor.Cursor.{Cursor}
use Rattle.c_expressions.specs.declared.scope.Scope.{Scope}
use Rattle.c_expressions.specs.Means.{Items, place_of}
use Rattle.c_expressions.specs.Cursor.{items, first_item, behind as behind_first}
use Rattle.c_expressions.specs.Reading.{terminals, kinds}
use Rattle.c_expressions.specs.Scopes.{names_of}
use Rattle.c_expressions.proofs.Expressions.{first_then, kinds_append, behind_less, one_more, drops, drop_by}
use Rattle.c_statements.specs.Bodies.{IsSameBlock}
use Rattle.c_statements.specs.Simple.{env_of, loops_in, IsStmtRead}
use Rattle.c_statements.specs.Statements.{Env, stmt_size, behind, AreStatements}
use Rattle.c_statements.proofs.Fronts.{behind_all, snoc, stmts_snoc, are_snoc, behind_snoc, scalars_behind, loops_behind}
use Rattle.c_read.specs.declared.piece.Piece.{Piece}
use Rattle.c_read.specs.declared.piece.Piece.TheVariants as piece
use Rattle.c_read.specs.declared.gathered.Gathered.{Gathered}
use Rattle.c_read.specs.Parts.{Placed, plain, pieces_in, IsPlaceAt, IsPiece, ArePieces}
use Rattle.c_read.specs.Gathering.{so_far, Adds, IsAt}
use Rattle.c_read.specs.Read.{IsOutside, IsPieceRead, AreInnerRead}

-- some statements and parts; env is what stands before the first, next what stands behind the last
pub record IsFrontRead (env next : Env) (before after : Items) (ps : List Placed) : Type 0 where
  pub texts : Stmts
  pub tokens : terminals before ≡ kinds (stmts texts) ++ terminals after
  pub rest : after ≡ drop (length (stmts texts)) before
  pub are_texts : AreStmts texts
  pub no_more : length after ≤ length before
  pub means : ArePieces env before texts ps
  pub next_is : next ≡ behind_all texts env

piece_alone : (env : Env) (is : Items) (s : Stmt) (at : Option Place) (p : Piece) → IsPlaceAt is at → IsPiece env is s p →
    ArePieces env is (Then s Done) ((at, p) ∷ [])
piece_alone env is s at (piece.Statement x) h k = (h, k, refl)
piece_alone env is s at (piece.Part p) h k = (h, k, refl)

apart : (is : Items) (s : Stmt) (ss : Stmts) →
    drop (length (stmts (Then s ss))) is ≡ drop (length (stmts ss)) (drop (stmt_size s) is)
apart is s ss = ap (λ (n : ℕ). drop n is) (length-append (stmt s) (stmts ss))
    ∙ sym (drop-drop (length (stmts ss)) (stmt_size s) is)

pieces_snoc : (env : Env) (is : Items) (ss : Stmts) (ps : List Placed) (s : Stmt) (at : Option Place) (p : Piece) →
    ArePieces env is ss ps → IsPlaceAt (drop (length (stmts ss)) is) at →
    IsPiece (behind_all ss env) (drop (length (stmts ss)) is) s p → ArePieces env is (snoc ss s) (ps ++ (at, p) ∷ [])
unfolding snoc
pieces_snoc env is Done [] s at p m h k = piece_alone env is s at p h k
pieces_snoc env is Done (q ∷ ps) s at p m h k = absurd cc
pieces_snoc env is (Then r ss) [] s at p m h k = absurd m
pieces_snoc env is (Then r ss) ((to, piece.Statement x) ∷ ps) s at p m h k =
    let e : drop (length (stmts (Then r ss))) is ≡ drop (length (stmts ss)) (drop (stmt_size r) is) = apart is r ss in (
      m.0,
      m.1,
      pieces_snoc (behind r env) (drop (stmt_size r) is) ss ps s at p m.2
          (subst (λ (js : Items). IsPlaceAt js at) e h)
          (subst (λ (js : Items). IsPiece (behind_all ss (behind r env)) js s p) e k),
    )
pieces_snoc env is (Then r ss) ((to, piece.Part q) ∷ ps) s at p m h k =
    let e : drop (length (stmts (Then r ss))) is ≡ drop (length (stmts ss)) (drop (stmt_size r) is) = apart is r ss in (
      m.0,
      m.1,
      pieces_snoc (behind r env) (drop (stmt_size r) is) ss ps s at p m.2
          (subst (λ (js : Items). IsPlaceAt js at) e h)
          (subst (λ (js : Items). IsPiece (behind_all ss (behind r env)) js s p) e k),
    )

-- ---- one after another

pub front_none : (env : Env) (before : Items) (ps : List Placed) → ps ≡ [] → IsFrontRead env env before before ps
front_none env before ps e = record {
  texts = Done;
  tokens = refl;
  rest = refl;
  are_texts = tt;
  no_more = omega arith;
  means = e;
  next_is = refl;
}

placed : (is js : Items) (place : Place) (at : Option Place) → place ≡ place_of is → is ≡ js → IsAt place at → IsPlaceAt js at
placed is js place None e f h = tt
placed is js place (Some q) e f h = h ∙ e ∙ ap place_of f

pub front_more : (env mid_env next : Env) (before mid after : Items) (g h : Gathered) (place : Place) (p : Piece) →
    IsFrontRead env mid_env before mid (so_far g) → place ≡ place_of mid → Adds place p g h →
    IsPieceRead mid_env next mid after p → IsFrontRead env next before after (so_far h)
front_more env mid_env next before mid after g h place p f e a r =
    let m = length (stmts f.texts) in
    let all : stmts (snoc f.texts r.text) ≡ stmts f.texts ++ stmt r.text = stmts_snoc f.texts r.text in
    let size : length (stmts (snoc f.texts r.text)) ≡ m + stmt_size r.text =
    ap (λ (zs : Slots). length zs) all ∙ length-append (stmts f.texts) (stmt r.text) in
    record {
      texts = snoc f.texts r.text;
      tokens = f.tokens ∙ ap (λ (ts : List Terminal). kinds (stmts f.texts) ++ ts) r.tokens
          ∙ sym (append_assoc (kinds (stmts f.texts)) (kinds (stmt r.text)) (terminals after))
          ∙ ap (λ (ts : List Terminal). ts ++ terminals after) (sym (kinds_append (stmts f.texts) (stmt r.text)) ∙ ap (λ (us : Slots). kinds us) (sym all));
      rest = drop_by (m + stmt_size r.text) (length (stmts (snoc f.texts r.text))) before after (sym size)
          (drops m (stmt_size r.text) before mid after f.rest r.rest);
      are_texts = are_snoc f.texts r.text f.are_texts r.is_text;
      no_more = omega (arith, f.no_more, r.fewer);
      means = subst (λ (ps : List Placed). ArePieces env before (snoc f.texts r.text) ps) (sym a.pieces)
          (pieces_snoc env before f.texts (so_far g) r.text a.at p f.means (placed mid (drop m before) place a.at e f.rest a.is_at)
          (subst (λ (v : Env). IsPiece v (drop m before) r.text p) f.next_is
          (subst (λ (js : Items). IsPiece mid_env js r.text p) f.rest r.means)));
      next_is = r.next_is ∙ ap (behind r.text) f.next_is ∙ behind_snoc f.texts r.text env;
    }

pub front_ends : (env next : Env) (before : Items) (t t' : Cursor) (n : ℕ) (ps : List Placed) →
    IsFrontRead env next before (items t) ps → (first_item t).terminal ≡ Mark sign.CloseBrace → behind_first t ≡ items t' →
    n ≡ next.scalars → AreInnerRead env n before (items t') ps
front_ends env next before t t' n ps f e b h = record {
  texts = f.texts;
  tokens = f.tokens ∙ ap (λ (ts : List Terminal). kinds (stmts f.texts) ++ ts) (first_then (Mark sign.CloseBrace) t t' e b);
  rest = one_more (length (stmts f.texts)) before t t' f.rest b;
  are_texts = f.are_texts;
  fewer = omega (arith, f.no_more, behind_less t t' b);
  means = f.means;
  scalars = h ∙ ap (λ (v : Env). v.scalars) f.next_is ∙ scalars_behind f.texts env;
}

-- ---- where a directive may stand

pub front_outside : (a b : Scope) (before after : Items) (ps : List Placed) → IsOutside a → IsSameBlock a b →
    IsFrontRead (env_of a) (env_of b) before after ps → IsOutside b
front_outside a b before after ps r p f =
    let same : loops_in (names_of b) ≡ loops_in (names_of a) =
    ap (λ (v : Env). v.loops) f.next_is ∙ loops_behind f.texts (env_of a) in
    record {
      ready = record { target = p.target r.ready.target; loops = omega (arith, same, r.ready.loops, p.statements) };
      outside = p.inside ∙ r.outside;
      always = p.choice ∙ r.always;
      waiting = p.waiting r.waiting;
    }

-- ---- statements alone

pub read_statement : (env next : Env) (before after : Items) (x : Statement) → IsStmtRead env next before after x →
    IsPieceRead env next before after (piece.Statement x)
read_statement env next before after x r = record {
  text = r.text;
  tokens = r.tokens;
  rest = r.rest;
  is_text = r.is_text;
  fewer = r.fewer;
  means = r.means;
  next_is = r.next_is;
}

plain_means : (env : Env) (is : Items) (ss : Stmts) (xs : List Statement) → ArePieces env is ss (plain xs) → AreStatements env is ss xs
plain_means env is Done [] m = tt
plain_means env is Done (x ∷ xs) m = absurd cc
plain_means env is (Then s ss) [] m = absurd m
plain_means env is (Then s ss) (x ∷ xs) m = (m.1, plain_means (behind s env) (drop (stmt_size s) is) ss xs m.2)

-- statements without a directive
pub plain_statements : (env : Env) (is : Items) (ss : Stmts) (place : Place) (xs : List Statement) →
    ArePieces env is ss (pieces_in place xs) → AreStatements env is ss xs
plain_statements env is Done place [] m = tt
plain_statements env is Done place (x ∷ xs) m = absurd cc
plain_statements env is (Then s ss) place [] m = absurd m
plain_statements env is (Then s ss) place (x ∷ xs) m = (m.1, plain_means (behind s env) (drop (stmt_size s) is) ss xs m.2)
