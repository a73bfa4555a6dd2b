-- Blocks, loops and directives of main that were read.
use Rattle.std.proofs.Common.{◌≡◌, ℕ, ◌+◌, false, List, [], ◌∷◌, ◌++◌, length, drop, Option, Some, None, refl, sym, ap, subst, ◌∙◌, append_assoc, arith}
use Rattle.std.specs.Borrow.{Bor}
use Rattle.c_tokens.specs.declared.kind.Sign.TheVariants as sign
use Rattle.base.specs.declared.tree.Bounds.{Bounds}
use Rattle.c_grammar.specs.Lexeme.{For, Uint64}
use Rattle.c_grammar.specs.Terminal.{Terminal, Fixed, Mark, Name}
use Rattle.c_grammar.specs.Rules.{opened}
use Rattle.c_grammar.specs.Grammar.{Slots, Head, Stmts, Repeat, Block, head_slots, body_opening, stmts, loop_slots}
use Rattle.c_expressions.specs.declared.changes.Turn.{Turn}
use Rattle.c_expressions.specs.declared.cursor.Cursor.{Cursor}
use Rattle.c_expressions.specs.declared.scope.Scope.{Scope}
use Rattle.c_expressions.specs.Changes.{turn_name, turn_names}
use Rattle.c_expressions.specs.Means.{Items}
use Rattle.c_expressions.specs.Cursor.{items, first_item, behind}
use Rattle.c_expressions.specs.Reading.{terminals, kinds}
use Rattle.c_expressions.specs.Scopes.{context_of, names_of}
use Rattle.c_expressions.proofs.Expressions.{first_then, kinds_append, behind_less, drops, drop_by, drop_one}
use Rattle.c_statements.specs.Blocks.{turned}
use Rattle.c_statements.specs.Bodies.{inner_env, IsLeft}
use Rattle.c_statements.specs.Loops.{IsGone, bounds_tokens, with_limit}
use Rattle.c_statements.specs.Simple.{counted, env_of, loops_in}
use Rattle.c_statements.specs.Statements.{Env, stmt_size, head_size, declared_in, more, in_loop, IsHead}
use Rattle.c_statements.proofs.Composes.{next_after, block_back}
use Rattle.c_statements.proofs.Nesting.{back_now, env_inner, inner_same, inner_turn}
use Rattle.c_statements.proofs.Wholes.{ended, kinds_ended, size_ended, gone_less}
use Rattle.c_read.specs.declared.piece.Piece.{Piece}
use Rattle.c_read.specs.Parts.{Placed, ArePieces, IsPiece}
use Rattle.c_read.specs.Read.{AreInnerRead, IsBlockRead, IsLoopRead, IsPieceRead}

-- ---- in braces

pub read_braces : (env inner next first : Env) (n : ℕ) (t t' : Cursor) (after : Items) (ps : List Placed) →
    (first_item t).terminal ≡ Mark sign.OpenBrace → behind t ≡ items t' → first ≡ inner →
    AreInnerRead first n (items t') after ps → ((k : ℕ) → n ≡ first.scalars + k → next ≡ more k env) →
    IsBlockRead env inner next (items t) after ps
read_braces env inner next first n t t' after ps e b f r h =
    let k = length (stmts r.texts) in
    record {
      texts = r.texts;
      tokens = first_then (Mark sign.OpenBrace) t t' e b ∙ ap (λ (ts : List Terminal). Mark sign.OpenBrace ∷ ts) r.tokens;
      rest = drop_by (1 + (k + 1)) (k + 2) (items t) after (omega arith) (drops 1 (k + 1) (items t) (items t') after (drop_one t t' b) r.rest);
      are_texts = r.are_texts;
      fewer = omega (arith, behind_less t t' b, r.fewer);
      means = subst (λ (is : Items). ArePieces inner is r.texts ps) (drop_one t t' b) (subst (λ (v : Env). ArePieces v (items t') r.texts ps) f r.means);
      next_is = h (declared_in r.texts) r.scalars;
    }

-- ---- a block

abbrev pub MakesBlock : List Placed → Piece → Type 0
MakesBlock ps p = (env : Env) (is : Items) (b : Stmts) → ArePieces env (drop 1 is) b ps → IsPiece env is (Block b) p

block_piece : (env next : Env) (before after : Items) (ps : List Placed) (p : Piece) → IsBlockRead env env next before after ps →
    MakesBlock ps p → IsPieceRead env next before after p
block_piece env next before after ps p r m =
    let k = length (stmts r.texts) in
    record {
      text = Block r.texts;
      tokens = r.tokens ∙ ap (λ (ts : List Terminal). Mark sign.OpenBrace ∷ ts) (sym (kinds_ended r.texts (terminals after)));
      rest = drop_by (k + 2) (stmt_size (Block r.texts)) before after (omega (arith, size_ended r.texts)) r.rest;
      is_text = r.are_texts;
      fewer = r.fewer;
      means = m env before r.texts r.means;
      next_is = r.next_is;
    }

pub read_block : (s0 s1 s2 : Scope) (u u' : Cursor) (after : Items) (ps : List Placed) (p : Piece) → s0.target ≡ false →
    context_of s1 0 0 ≡ opened (turned None (counted s0)) → names_of s1 ≡ names_of s0 → s1.scalars ≡ s0.scalars →
    IsLeft s1 s2 → (first_item u).terminal ≡ Mark sign.OpenBrace → behind u ≡ items u' →
    AreInnerRead (env_of s1) s2.scalars (items u') after ps → MakesBlock ps p →
    IsPieceRead (env_of s0) (env_of s2) (items u) after p
read_block s0 s1 s2 u u' after ps p g e h n l f b r m =
    block_piece (env_of s0) (env_of s2) (items u) after ps p
    (read_braces (env_of s0) (env_of s0) (env_of s2) (env_of s1) s2.scalars u u' after ps f b
    (env_inner (counted s0) s1 None e h n ∙ inner_same (counted s0) g) r
    (next_after s0 s1 s2 (block_back s0 s1 s2 e h l) n)) m

-- in a body that is opened, that of a loop with its name
pub body_braces : (s0 s1 s2 : Scope) (t : Option Turn) (u u' : Cursor) (after : Items) (ps : List Placed) →
    context_of s1 0 0 ≡ opened (turned (turn_name t) s0) → names_of s1 ≡ turn_names t ++ names_of s0 →
    s1.scalars ≡ s0.scalars → IsLeft s1 s2 → (first_item u).terminal ≡ Mark sign.OpenBrace → behind u ≡ items u' →
    AreInnerRead (env_of s1) s2.scalars (items u') after ps →
    IsBlockRead (env_of s0) (inner_env t s0) (env_of s2) (items u) after ps
body_braces s0 s1 s2 t u u' after ps e h n p f b r =
    read_braces (env_of s0) (inner_env t s0) (env_of s2) (env_of s1) s2.scalars u u' after ps f b (env_inner s0 s1 t e h n) r
    (next_after s0 s1 s2 (back_now s0 s1 s2 t e h p) n)

pub same_inner : (env inner inner' next : Env) (before after : Items) (ps : List Placed) → inner ≡ inner' →
    IsBlockRead env inner next before after ps → IsBlockRead env inner' next before after ps
same_inner env inner inner' next before after ps e r = subst (λ (v : Env). IsBlockRead env v next before after ps) e r

-- ---- a loop

abbrev pub MakesLoop : Bounds → List Placed → Piece → Type 0
MakesLoop b ps p =
    (env : Env) (is : Items) (h : Head) (body : Stmts) → IsHead h b →
    ArePieces (in_loop h.name env) (drop (head_size h) is) body ps → IsPiece env is (Repeat h body) p

read_turns : (env mid inner next : Env) (x : List ℕ) (b : Bounds) (i1 i2 i3 after : Items) (ps : List Placed) (p : Piece) →
    IsGone (Mark sign.OpenParen ∷ Fixed Uint64 ∷ Name x ∷ []) i1 i2 → IsGone (bounds_tokens x b) i2 i3 →
    mid ≡ env → inner ≡ in_loop x env → IsBlockRead mid inner next i3 after ps → MakesLoop b ps p →
    IsLoopRead env next i1 after p
read_turns env mid inner next x b i1 i2 i3 after ps p g h m f r makes =
    let head : Head = record { name = x; first = Some b.first; limit = Some b.end; step = Some b.step } in
    let k = length (stmts r.texts) in
    let rest : List Terminal = terminals after in
    let rear : Slots = body_opening ∷ ended r.texts in
    let split : kinds (head_slots head ++ rear) ++ rest ≡ kinds (head_slots head) ++ (Mark sign.OpenBrace ∷ (kinds (stmts r.texts) ++ (Mark sign.CloseBrace ∷ rest))) =
    ap (λ (ts : List Terminal). ts ++ rest) (kinds_append (head_slots head) rear) ∙ append_assoc (kinds (head_slots head)) (kinds rear) rest
    ∙ ap (λ (ts : List Terminal). kinds (head_slots head) ++ (Mark sign.OpenBrace ∷ ts)) (kinds_ended r.texts rest) in
    let at3 : i3 ≡ drop 14 i1 = drops 3 11 i1 i2 i3 g.rest h.rest in
    record {
      head = head;
      texts = r.texts;
      tokens = g.tokens ∙ ap (λ (ts : List Terminal). Mark sign.OpenParen ∷ Fixed Uint64 ∷ Name x ∷ ts)
          (h.tokens ∙ ap (λ (ts : List Terminal). bounds_tokens x b ++ ts) r.tokens) ∙ sym split;
      rest = drop_by (14 + (k + 2)) (length (loop_slots head r.texts)) i1 after (omega (arith, size_ended r.texts)) (drops 14 (k + 2) i1 i3 after at3 r.rest);
      are_texts = r.are_texts;
      fewer = omega (arith, gone_less (Mark sign.OpenParen ∷ Fixed Uint64 ∷ Name x ∷ []) i1 i2 g, gone_less (bounds_tokens x b) i2 i3 h, r.fewer);
      means = λ is e. makes env is head r.texts (record { first = refl; limit = refl; step = refl })
          (subst (λ (js : Items). ArePieces (in_loop x env) js r.texts ps) (back is e at3)
          (subst (λ (v : Env). ArePieces v (drop 1 i3) r.texts ps) f r.means));
      next_is = r.next_is ∙ ap (more (declared_in r.texts)) m;
    }
  where
    back : (is : Items) → drop 1 is ≡ i1 → i3 ≡ drop 14 i1 → drop 1 i3 ≡ drop 16 is
    back is e a = drops 15 1 is i3 (drop 1 i3) (drops 1 14 is i1 i3 (sym e) a) refl

pub loop_turns : (s0 s1 s2 s3 : Scope) (x : Bor (List ℕ)) (level : ℕ) (b : Bounds) (u u' : Cursor) (i1 i2 after : Items) (ps : List Placed) (p : Piece) →
    s0.target ≡ false → s1 ≡ with_limit s0 b.end → level ≡ loops_in (names_of s1) →
    IsGone (Mark sign.OpenParen ∷ Fixed Uint64 ∷ Name x.now ∷ []) i1 i2 → IsGone (bounds_tokens x.now b) i2 (items u) →
    context_of s2 0 0 ≡ opened (turned (Some x.now) s1) → names_of s2 ≡ turn_names (Some (record { name = x; level = level })) ++ names_of s1 →
    s2.scalars ≡ s1.scalars → IsLeft s2 s3 → (first_item u).terminal ≡ Mark sign.OpenBrace → behind u ≡ items u' →
    AreInnerRead (env_of s2) s3.scalars (items u') after ps → MakesLoop b ps p →
    IsLoopRead (env_of s0) (env_of s3) i1 after p
loop_turns s0 s1 s2 s3 x level b u u' i1 i2 after ps p g e l g1 g2 o names n left f d r makes =
    let same : env_of s1 ≡ env_of s0 = ap env_of e in
    let quiet : s1.target ≡ false = ap (λ (s : Scope). s.target) e ∙ g in
    let turn : Turn = record { name = x; level = level } in
    read_turns (env_of s0) (env_of s1) (inner_env (Some turn) s1) (env_of s3) x.now b i1 i2 (items u) after ps p g1 g2 same
    (inner_turn s1 turn quiet l ∙ ap (in_loop x.now) same)
    (body_braces s1 s2 s3 (Some turn) u u' after ps o names n left f d r) makes

-- the word of a loop, and the loop
pub read_loop : (env mid next : Env) (t t' : Cursor) (after : Items) (p : Piece) → (first_item t).terminal ≡ Fixed For →
    behind t ≡ items t' → mid ≡ env → IsLoopRead mid next (items t') after p → IsPieceRead env next (items t) after p
read_loop env mid next t t' after p e b m q =
    let r : IsLoopRead env next (items t') after p = subst (λ (v : Env). IsLoopRead v next (items t') after p) m q in
    record {
      text = Repeat r.head r.texts;
      tokens = first_then (Fixed For) t t' e b ∙ ap (λ (ts : List Terminal). Fixed For ∷ ts) r.tokens;
      rest = drop_by (1 + length (loop_slots r.head r.texts)) (stmt_size (Repeat r.head r.texts)) (items t) after (omega arith)
          (drops 1 (length (loop_slots r.head r.texts)) (items t) (items t') after (drop_one t t' b) r.rest);
      is_text = r.are_texts;
      fewer = omega (arith, behind_less t t' b, r.fewer);
      means = r.means (items t) b;
      next_is = r.next_is;
    }
