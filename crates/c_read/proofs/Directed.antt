-- The directives of main that were read.
use Rattle.std.proofs.Common.{◌≡◌, ℕ, ◌+◌, Bool, true, false, List, [], ◌∷◌, ◌++◌, length, drop, Vec, Global, refl, sym, ap, subst, ◌∙◌, arith, inl, inr, ◌⊎◌}
use Rattle.c_tokens.specs.declared.kind.Sign.TheVariants as sign
use Rattle.base.specs.declared.tree.Data.{Data}
use Rattle.base.specs.declared.tree.Place.{Place}
use Rattle.base.specs.declared.tree.Region.{Region}
use Rattle.base.specs.declared.tree.Directive.{Directive as Alone}
use Rattle.base.specs.declared.tree.Target.{Target}
use Rattle.base.specs.declared.tree.Stmt.{Stmt as Statement}
use Rattle.base.specs.declared.tree.Part.{Part, Data as DataOf, items_hidden-the_row-Part-0}
use Rattle.base.specs.declared.tree.Part.TheVariants as part
use Rattle.c_grammar.specs.Lexeme.{Lexeme, For}
use Rattle.c_grammar.specs.Texts.{Item}
use Rattle.c_grammar.specs.Terminal.{Terminal, Fixed, Mark, Name, Num, Line, Unknown, Unworked, End}
use Rattle.c_grammar.specs.Rules.{Context, inside}
use Rattle.c_grammar.specs.LineGrammar.{AtomicUpdate}
use Rattle.c_grammar.specs.Lines.{depth_of, holds, is_atomic, is_atomic_kind, is_omp, kind_of}
use Rattle.c_grammar.specs.Program.{Stack, Body}
use Rattle.c_grammar.proofs.LineKinds.{kind_is}
use Rattle.c_grammar.specs.Grammar.{Head, Stmt, Stmts, Done, Then, Repeat, Directive, OverBlock, OverLoop, stmt, stmts, IsStmt as IsText, IsNest, for, deeper, loop_slots, nest_slots}
use Rattle.c_expressions.specs.declared.cursor.Cursor.{Cursor}
use Rattle.c_expressions.specs.declared.scope.Scope.{Scope}
use Rattle.c_expressions.specs.Means.{Items, Names, place_of}
use Rattle.c_expressions.specs.Cursor.{items, first_item, behind}
use Rattle.c_expressions.specs.Reading.{run, took, terminals, kinds, is_directive}
use Rattle.c_expressions.specs.Scopes.{context_of}
use Rattle.c_expressions.proofs.Expressions.{first_then, behind_less, drops, drop_by, drop_one}
use Rattle.c_statements.specs.Bodies.{IsBodyRead}
use Rattle.c_statements.specs.Simple.{env_of, is_atomic_line}
use Rattle.c_statements.proofs.Directives.{apart}
use Rattle.c_statements.specs.Statements.{Env, stmt_size, head_size, declared_in, more, in_loop, IsHead, IsStatement, AreStatements, behind as behind_of}
use Rattle.c_statements.proofs.Wholes.{kinds_ended, size_ended}
use Rattle.c_constructs.specs.declared.resolved.Construct.TheVariants as construct
use Rattle.c_constructs.specs.declared.resolved.Resolved.TheVariants as resolved
use Rattle.c_constructs.specs.LineMeaning.{IsRead, lexemes_on, scope_behind}
use Rattle.c_constructs.specs.Steps.{act_of, followed}
use Rattle.c_constructs.proofs.AtStatement.{directive_begins}
use Rattle.c_read.specs.declared.piece.Piece.{Piece}
use Rattle.c_read.specs.declared.piece.Piece.TheVariants as piece
use Rattle.c_read.specs.Parts.{in_target, pieces_of, AreLongest, AreMixed, ArePieces, IsHostLoop, IsPiece, OneLoop}
use Rattle.c_read.specs.Read.{AreAlone, IsBlockRead, IsLoopRead, IsNestRead, IsPieceRead}
use Rattle.c_statements.proofs.Prints.{more_none}
use Rattle.c_read.proofs.Nests.{nest_kinds, nest_length, nest_text}

line_is : (t : Terminal) → is_directive t ≡ true → t ≡ Line (lexemes_on t)
line_is (Line ts) d = refl
line_is (Fixed w) d = absurd cc
line_is (Mark x) d = absurd cc
line_is (Name x) d = absurd cc
line_is (Num n) d = absurd cc
line_is Unknown d = absurd cc
line_is Unworked d = absurd cc
line_is End d = absurd cc

-- ---- a directive that is no atomic update

pub apart_line : (t : Terminal) → is_directive t ≡ true → is_atomic_line t ≡ false → is_atomic (lexemes_on t) ≡ false
apart_line (Line ts) d a = apart (is_omp ts) (is_atomic ts) d a
apart_line (Fixed w) d a = absurd cc
apart_line (Mark x) d a = absurd cc
apart_line (Name x) d a = absurd cc
apart_line (Num n) d a = absurd cc
apart_line Unknown d a = absurd cc
apart_line Unworked d a = absurd cc
apart_line End d a = absurd cc

pub no_update : (names : Names) (i : Item Terminal) (is : Items) → is_directive i.terminal ≡ true →
    is_atomic_line i.terminal ≡ false → IsRead names i is resolved.Atomic → ⊥
unfolding is_atomic
no_update names i is d a r =
    let kind : kind_of (lexemes_on i.terminal) ≡ AtomicUpdate = ap kind_of (sym r.line.tokens)
    ∙ kind_is r.line.text.kind r.line.text.clauses ∙ r.means in
    let marks : is_atomic (lexemes_on i.terminal) ≡ true = ap is_atomic_kind kind in
    let no : is_atomic (lexemes_on i.terminal) ≡ false = apart_line i.terminal d a in
    absurd (let e : true ≡ false = sym marks ∙ no in cc)

pub directive_comes : (c : Context) (s : Stack) (t : Cursor) → is_directive (first_item t).terminal ≡ true →
    is_atomic_line (first_item t).terminal ≡ false → run c (Body ∷ s) (items t) ≡
    took c (for (act_of (holds (lexemes_on (first_item t).terminal))))
    (followed (holds (lexemes_on (first_item t).terminal)) (depth_of (lexemes_on (first_item t).terminal)) (Body ∷ s))
    (items t)
directive_comes c s t d a = directive_begins c s t d (apart_line (first_item t).terminal d a)

-- ---- a directive that stands alone

pub read_alone : (old new : Scope) (u u' : Cursor) (at : Place) (d : Alone) → is_directive (first_item u).terminal ≡ true →
    is_atomic_line (first_item u).terminal ≡ false → behind u ≡ items u' → new ≡ scope_behind (resolved.Alone at d) old →
    IsRead (env_of old).names (first_item u) (behind u) (resolved.Alone at d) →
    IsPieceRead (env_of old) (env_of new) (items u) (items u') (piece.Part (part.Alone at d))
read_alone old new u u' at d e a b s r =
    let l = lexemes_on (first_item u).terminal in
    record {
      text = Directive l;
      tokens = first_then (Line l) u u' (line_is (first_item u).terminal e) b;
      rest = drop_one u u' b;
      is_text = (r.words, r.over, apart_line (first_item u).terminal e a);
      fewer = behind_less u u' b;
      means = (r.line, r.means.0, r.means.1);
      next_is = ap env_of s ∙ more_none (env_of old);
    }

-- ---- a directive over a block

-- behind the line of a directive: these tokens and then the block in braces
block_tokens : (l : List Lexeme) (u u' : Cursor) (b : Stmts) (after : Items) → (first_item u).terminal ≡ Line l →
    behind u ≡ items u' → terminals (items u') ≡ Mark sign.OpenBrace ∷ (kinds (stmts b) ++ (Mark sign.CloseBrace ∷ terminals after)) →
    terminals (items u) ≡ kinds (stmt (OverBlock l b)) ++ terminals after
block_tokens l u u' b after e d f = first_then (Line l) u u' e d
    ∙ ap (λ (ts : List Terminal). Line l ∷ ts) (f ∙ ap (λ (ts : List Terminal). Mark sign.OpenBrace ∷ ts) (sym (kinds_ended b (terminals after))))

block_rest : (l : List Lexeme) (u u' : Cursor) (b : Stmts) (after : Items) → behind u ≡ items u' →
    after ≡ drop (length (stmts b) + 2) (items u') → after ≡ drop (stmt_size (OverBlock l b)) (items u)
block_rest l u u' b after d r = drop_by (1 + (length (stmts b) + 2)) (stmt_size (OverBlock l b)) (items u) after
    (omega (arith, size_ended b)) (drops 1 (length (stmts b) + 2) (items u) (items u') after (drop_one u u' d) r)

loop_rest : (l : List Lexeme) (u u' : Cursor) (n : ℕ) (after : Items) → behind u ≡ items u' → after ≡ drop n (items u') →
    after ≡ drop (1 + n) (items u)
loop_rest l u u' n after d r = drops 1 n (items u) (items u') after (drop_one u u' d) r

-- ---- a target

pub read_region_block : (depth : ℕ) (old mid new : Scope) (u u' : Cursor) (after : Items) (g : Target) (r : Region) →
    is_directive (first_item u).terminal ≡ true → behind u ≡ items u' → env_of mid ≡ env_of old →
    IsRead (env_of old).names (first_item u) (behind u) (resolved.Over (construct.Target g depth)) →
    r.place ≡ place_of (items u') → depth ≡ 0 → r.depth ≡ depth →
    IsBodyRead (env_of mid) (in_target (env_of mid)) (env_of new) (items u') after r.body.items →
    IsPieceRead (env_of old) (env_of new) (items u) after (piece.Part (part.Target g r))
read_region_block depth old mid new u u' after g r e d same line place flat deep q0 =
    let l = lexemes_on (first_item u).terminal in
    let q : IsBodyRead (env_of old) (in_target (env_of old)) (env_of new) (items u') after r.body.items =
    subst (λ (v : Env). IsBodyRead v (in_target v) (env_of new) (items u') after r.body.items) same q0 in
    record {
      text = OverBlock l q.texts;
      tokens = block_tokens l u u' q.texts after (line_is (first_item u).terminal e) d q.tokens;
      rest = block_rest l u u' q.texts after d q.rest;
      is_text = (line.words, line.over, q.are_texts, line.depth ∙ flat);
      fewer = omega (arith, behind_less u u' d, q.fewer);
      means = (
        line.line,
        line.means,
        place ∙ ap place_of (sym d),
        subst (λ (is : Items). AreStatements (in_target (env_of old)) (drop 1 is) q.texts r.body.items) (sym d) q.means,
        deep ∙ flat,
      );
      next_is = q.next_is;
    }

more_of : (n : ℕ) (env next : Env) → in_target next ≡ more n (in_target env) → next.inside ≡ env.inside → next ≡ more n env
more_of n env next e i = ap (λ (v : Env). (let w : Env = record v { inside = next.inside } in w)) e
    ∙ ap (λ (b : Bool). (let w : Env = record (more n env) { inside = b } in w)) i

pub read_region_loop : (depth : ℕ) (old mid new : Scope) (u u' : Cursor) (after : Items) (g : Target) (r : Region) (x : Statement) →
    is_directive (first_item u).terminal ≡ true → behind u ≡ items u' → env_of mid ≡ env_of old →
    IsRead (env_of old).names (first_item u) (behind u) (resolved.Over (construct.Target g depth)) →
    r.place ≡ place_of (items u') → r.body.items ≡ x ∷ [] → r.depth ≡ depth →
    inside (context_of new 0 0) ≡ inside (context_of mid 0 0) →
    IsNestRead (deeper depth) (in_target (env_of mid)) (in_target (env_of new)) (items u') after x →
    IsPieceRead (env_of old) (env_of new) (items u) after (piece.Part (part.Target g r))
read_region_loop depth old mid new u u' after g r x e d same line place one deep within q0 =
    let l = lexemes_on (first_item u).terminal in
    let nest : IsNestRead (deeper depth) (in_target (env_of old)) (in_target (env_of new)) (items u') after x =
    subst (λ (v : Env). IsNestRead (deeper depth) (in_target v) (in_target (env_of new)) (items u') after x) same q0 in
    let q = nest.read in
    let t = nest_text q.text (deeper depth) nest.nest in
    let is_loop : q.text ≡ Repeat t.0 t.1 = t.2 in
    let text : Stmt = Repeat t.0 t.1 in
    let n = deeper (depth_of l) in
    let whole : length (nest_slots t.0 t.1 n) ≡ length (nest_slots t.0 t.1 0) = nest_length t.0 t.1 n in
    record {
      text = OverLoop l t.0 t.1;
      tokens = first_then (Line l) u u' (line_is (first_item u).terminal e) d
          ∙ ap (λ (ts : List Terminal). Line l ∷ ts) (q.tokens ∙ ap (λ (s : Stmt). kinds (stmt s) ++ terminals after) is_loop
          ∙ ap (λ (ts : List Terminal). Fixed For ∷ (ts ++ terminals after)) (sym (nest_kinds t.0 t.1 n)));
      rest = drop_by (1 + stmt_size text) (stmt_size (OverLoop l t.0 t.1)) (items u) after (omega (arith, whole)) (loop_rest l u u' (stmt_size text) after d (q.rest ∙ ap (λ (s : Stmt). drop (stmt_size s) (items u')) is_loop));
      is_text = (
        line.words,
        line.over,
        subst (λ (s : Stmt). IsText s) is_loop q.is_text,
        subst (λ (k : ℕ). IsNest t.1 (deeper k)) (sym line.depth) t.3,
      );
      fewer = omega (arith, behind_less u u' d, q.fewer);
      means = (
        line.line,
        line.means,
        place ∙ ap place_of (sym d),
        subst (λ (xs : List Statement). AreStatements (in_target (env_of old)) (behind u) (Then text Done) xs) (sym one) (
          subst (λ (is : Items). IsStatement (in_target (env_of old)) is text x) (sym d)
              (subst (λ (s : Stmt). IsStatement (in_target (env_of old)) (items u') s x) is_loop q.means),
          tt,
        ),
        deep ∙ sym line.depth,
      );
      next_is = more_of (declared_in t.1) (env_of old) (env_of new)
          (q.next_is ∙ ap (λ (s : Stmt). behind_of s (in_target (env_of old))) is_loop)
          (within ∙ ap (λ (v : Env). v.inside) same);
    }

-- ---- a target data

pub read_data_block : (old mid new : Scope) (u u' : Cursor) (after : Items) (g : Data) (v : Vec Part Global) →
    is_directive (first_item u).terminal ≡ true → behind u ≡ items u' → env_of mid ≡ env_of old →
    IsRead (env_of old).names (first_item u) (behind u) (resolved.Over (construct.Data g)) → AreLongest false v.items →
    IsBlockRead (env_of mid) (env_of mid) (env_of new) (items u') after (pieces_of v.items) →
    IsPieceRead (env_of old) (env_of new) (items u) after (piece.Part (DataOf g v))
read_data_block old mid new u u' after g v e d same line longest q0 =
    let l = lexemes_on (first_item u).terminal in
    let hidden = items_hidden-the_row-Part-0 v in
    let q : IsBlockRead (env_of old) (env_of old) (env_of new) (items u') after (pieces_of v.items) =
    subst (λ (w : Env). IsBlockRead w w (env_of new) (items u') after (pieces_of v.items)) same q0 in
    record {
      text = OverBlock l q.texts;
      tokens = block_tokens l u u' q.texts after (line_is (first_item u).terminal e) d q.tokens;
      rest = block_rest l u u' q.texts after d q.rest;
      is_text = (line.words, line.over, q.are_texts, line.depth);
      fewer = omega (arith, behind_less u u' d, q.fewer);
      means = (
        line.line,
        line.means,
        subst (λ (ps : List Part). AreLongest false ps) (sym hidden) longest,
        subst (λ (ps : List Part). ArePieces (env_of old) (drop 1 (behind u)) q.texts (pieces_of ps)) (sym hidden)
            (subst (λ (is : Items). ArePieces (env_of old) (drop 1 is) q.texts (pieces_of v.items)) (sym d) q.means),
      );
      next_is = q.next_is;
    }

-- what a loop alone means in a target data
data_loop : (env : Env) (i : Item Terminal) (is : Items) (h : Head) (b : Stmts) (p : Piece) (ps : List Part) →
    AreAlone (place_of is) p ps → IsPiece env is (Repeat h b) p → IsHostLoop env is h b ps ⊎
    OneLoop (λ bounds qs. IsHead h bounds × AreMixed qs ×
    ArePieces (in_loop h.name env) (drop (1 + head_size h) (i ∷ is)) b (pieces_of qs)) ps
data_loop env i is h b (piece.Statement x) ps a m =
    inl (subst (λ (qs : List Part). IsHostLoop env is h b qs) (sym a.1)
    (a.2, subst (λ (xs : List Statement). AreStatements env is (Then (Repeat h b) Done) xs) (sym a.3) (m, tt), a.4))
data_loop env i is h b (piece.Part (part.Loop' bounds shape row)) ps a m =
    inr (subst (λ (qs : List Part). OneLoop (λ bounds us. IsHead h bounds × AreMixed us ×
    ArePieces (in_loop h.name env) (drop (1 + head_size h) (i ∷ is)) b (pieces_of us)) qs) (sym a) m)
data_loop env i is h b (piece.Part (part.Host r)) ps a m = absurd m
data_loop env i is h b (piece.Part (part.Block' shape row)) ps a m = absurd m
data_loop env i is h b (piece.Part (part.Target t r)) ps a m = absurd m
data_loop env i is h b (piece.Part (part.Data' d shape row)) ps a m = absurd m
data_loop env i is h b (piece.Part (part.Alone at d)) ps a m = absurd m

pub read_data_loop : (old mid new : Scope) (u u' : Cursor) (after : Items) (g : Data) (v : Vec Part Global) (p : Piece) →
    is_directive (first_item u).terminal ≡ true → behind u ≡ items u' → env_of mid ≡ env_of old →
    IsRead (env_of old).names (first_item u) (behind u) (resolved.Over (construct.Data g)) →
    AreAlone (place_of (items u')) p v.items → terminals (items u') ≡ Fixed For ∷ terminals (behind u') →
    IsLoopRead (env_of mid) (env_of new) (behind u') after p →
    IsPieceRead (env_of old) (env_of new) (items u) after (piece.Part (DataOf g v))
read_data_loop old mid new u u' after g v p e d same line one word q0 =
    let l = lexemes_on (first_item u).terminal in
    let hidden = items_hidden-the_row-Part-0 v in
    let q : IsLoopRead (env_of old) (env_of new) (behind u') after p =
    subst (λ (w : Env). IsLoopRead w (env_of new) (behind u') after p) same q0 in
    let n = length (loop_slots q.head q.texts) in
    let k = deeper (depth_of l) in
    let whole : length (nest_slots q.head q.texts k) ≡ length (nest_slots q.head q.texts 0) = nest_length q.head q.texts k in
    record {
      text = OverLoop l q.head q.texts;
      tokens = first_then (Line l) u u' (line_is (first_item u).terminal e) d
          ∙ ap (λ (ts : List Terminal). Line l ∷ ts) (word ∙ ap (λ (ts : List Terminal). Fixed For ∷ ts) (q.tokens
          ∙ ap (λ (ts : List Terminal). ts ++ terminals after) (sym (nest_kinds q.head q.texts k))));
      rest = drop_by (1 + (1 + n)) (stmt_size (OverLoop l q.head q.texts)) (items u) after (omega (arith, whole))
          (loop_rest l u u' (1 + n) after d (drops 1 n (items u') (behind u') after refl q.rest));
      is_text = (
        line.words,
        line.over,
        q.are_texts,
        subst (λ (j : ℕ). IsNest q.texts (deeper j)) (sym line.depth) tt,
      );
      fewer = omega (arith, behind_less u u' d, q.fewer);
      means = (
        line.line,
        line.means,
        subst (λ (ps : List Part). DataMeans (behind u) q.head q.texts ps) (sym hidden)
            (subst (λ (is : Items). DataMeans is q.head q.texts v.items) (sym d)
            (data_loop (env_of old) (first_item u) (items u') q.head q.texts p v.items one (q.means (items u') refl))),
      );
      next_is = q.next_is;
    }
  where
    DataMeans : Items → Head → Stmts → List Part → Type 0
    DataMeans is h b ps = IsHostLoop (env_of old) is h b ps ⊎ OneLoop (λ bounds qs. IsHead h bounds × AreMixed qs ×
        ArePieces (in_loop h.name (env_of old)) (drop (1 + head_size h) (first_item u ∷ is)) b (pieces_of qs)) ps
