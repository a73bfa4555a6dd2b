-- The blocks, loops and branches that were read.
use Rattle.std.proofs.Common.{◌≡◌, ℕ, ◌+◌, ◌≤◌, List, [], ◌∷◌, ◌++◌, length, drop, Some, Vec, Global, refl, sym, ap, subst, ◌∙◌, append_assoc, arith, length-append}
use Rattle.c_tokens.specs.declared.kind.Sign.TheVariants as sign
use Rattle.base.specs.declared.tree.Bounds.{Bounds}
use Rattle.base.specs.declared.tree.Stmt.{Stmt as Statement, Block as BlockOf, Loop as LoopOf, items_hidden-the_row-Stmt-0}
use Rattle.c_grammar.specs.Lexeme.{For, Uint64}
use Rattle.c_grammar.specs.Terminal.{Terminal, Fixed, Mark, Name}
use Rattle.c_grammar.specs.Grammar.{Slots, Head, Stmt, Stmts, Repeat, Block, head_slots, body_opening, body_closing, stmts}
use Rattle.c_expressions.specs.declared.cursor.Cursor.{Cursor}
use Rattle.c_expressions.specs.Means.{Items}
use Rattle.c_expressions.specs.Cursor.{items, first_item, behind}
use Rattle.c_expressions.specs.Reading.{terminals, kinds}
use Rattle.c_expressions.proofs.Expressions.{first_then, kinds_append, behind_less, drops, drop_by, drop_one}
use Rattle.c_statements.specs.Bodies.{AreStmtsRead, IsBodyRead}
use Rattle.c_statements.specs.Loops.{IsGone, bounds_tokens}
use Rattle.c_statements.specs.Simple.{IsStmtRead}
use Rattle.c_statements.specs.Statements.{Env, stmt_size, head_size, declared_in, more, in_loop, IsHead, IsStatement, AreStatements}

-- ---- statements and a brace

abbrev pub ended : Stmts → Slots
ended ss = stmts ss ++ body_closing ∷ []

pub kinds_ended : (ss : Stmts) (ts : List Terminal) → kinds (ended ss) ++ ts ≡
    kinds (stmts ss) ++ (Mark sign.CloseBrace ∷ ts)
kinds_ended ss ts = ap (λ (us : List Terminal). us ++ ts) (kinds_append (stmts ss) (body_closing ∷ []))
    ∙ append_assoc (kinds (stmts ss)) (Mark sign.CloseBrace ∷ []) ts

pub size_ended : (ss : Stmts) → length (ended ss) ≡ length (stmts ss) + 1
size_ended ss = length-append (stmts ss) (body_closing ∷ [])

-- ---- in braces

-- with the statements of which it is
pub told_body : (env inner next first : Env) (n : ℕ) (t t' : Cursor) (after : Items) (xs : List Statement) →
    (first_item t).terminal ≡ Mark sign.OpenBrace → behind t ≡ items t' → first ≡ inner →
    (r : AreStmtsRead first n (items t') after xs) → ((k : ℕ) → n ≡ first.scalars + k → next ≡ more k env) →
    (q : IsBodyRead env inner next (items t) after xs) × (q.texts ≡ r.texts)
told_body env inner next first n t t' after xs e b f r h =
    let k = length (stmts r.texts) in (
      record {
        texts = r.texts;
        tokens = first_then (Mark sign.OpenBrace) t t' e b ∙ ap (λ (ts : List Terminal). Mark sign.OpenBrace ∷ ts)
            r.tokens;
        rest = drop_by (1 + (k + 1)) (k + 2) (items t) after (omega arith)
            (drops 1 (k + 1) (items t) (items t') after (drop_one t t' b) r.rest);
        are_texts = r.are_texts;
        fewer = omega (arith, behind_less t t' b, r.fewer);
        means = subst (λ (is : Items). AreStatements inner is r.texts xs) (drop_one t t' b)
            (subst (λ (v : Env). AreStatements v (items t') r.texts xs) f r.means);
        next_is = h (declared_in r.texts) r.scalars;
      },
      refl,
    )

pub read_body : (env inner next first : Env) (n : ℕ) (t t' : Cursor) (after : Items) (xs : List Statement) →
    (first_item t).terminal ≡ Mark sign.OpenBrace → behind t ≡ items t' → first ≡ inner →
    AreStmtsRead first n (items t') after xs →
    ((k : ℕ) → n ≡ first.scalars + k → next ≡ more k env) → IsBodyRead env inner next (items t) after xs
read_body env inner next first n t t' after xs e b f r h =
    (told_body env inner next first n t t' after xs e b f r h).0

-- ---- a block

pub block_at : (env : Env) (is : Items) (b : Stmts) (all : Vec Statement Global) →
    AreStatements env (drop 1 is) b all.items → IsStatement env is (Block b) (BlockOf all)
block_at env is b all m = subst (λ (xs : List Statement). AreStatements env (drop 1 is) b xs)
    (sym (items_hidden-the_row-Stmt-0 all)) m

pub read_block : (env next first : Env) (n : ℕ) (t t' : Cursor) (after : Items) (all : Vec Statement Global) →
    (first_item t).terminal ≡ Mark sign.OpenBrace → behind t ≡ items t' → first ≡ env →
    AreStmtsRead first n (items t') after all.items → ((k : ℕ) → n ≡ first.scalars + k → next ≡ more k env) →
    IsStmtRead env next (items t) after (BlockOf all)
read_block env next first n t t' after all e b f r h =
    let k = length (stmts r.texts) in
    let text : Stmt = Block r.texts in
    record {
      text = text;
      tokens = first_then (Mark sign.OpenBrace) t t' e b ∙ ap (λ (ts : List Terminal). Mark sign.OpenBrace ∷ ts)
          (r.tokens ∙ sym (kinds_ended r.texts (terminals after)));
      rest = drop_by (1 + (k + 1)) (stmt_size text) (items t) after (omega (arith, size_ended r.texts))
          (drops 1 (k + 1) (items t) (items t') after (drop_one t t' b) r.rest);
      is_text = r.are_texts;
      fewer = omega (arith, behind_less t t' b, r.fewer);
      means = block_at env (items t) r.texts all
          (subst (λ (is : Items). AreStatements env is r.texts all.items) (drop_one t t' b)
          (subst (λ (v : Env). AreStatements v (items t') r.texts all.items) f r.means));
      next_is = h (declared_in r.texts) r.scalars;
    }

-- ---- a loop

pub loop_at : (env : Env) (is : Items) (h : Head) (body : Stmts) (b : Bounds) (all : Vec Statement Global) → IsHead h b →
    AreStatements (in_loop h.name env) (drop (head_size h) is) body all.items →
    IsStatement env is (Repeat h body) (LoopOf b all)
loop_at env is h body b all k m = (
  k,
  subst (λ (xs : List Statement). AreStatements (in_loop h.name env) (drop (head_size h) is) body xs)
      (sym (items_hidden-the_row-Stmt-0 all)) m,
)

length_terminals : (is : Items) → length (terminals is) ≡ length is
length_terminals [] = refl
length_terminals (i ∷ is) = omega (arith, length_terminals is)

pub gone_less : (us : List Terminal) (a b : Items) → IsGone us a b → length b ≤ length a
gone_less us a b g = omega (
  arith,
  length_terminals a,
  length_terminals b,
  ap (λ (ts : List Terminal). length ts)
      g.tokens,
  length-append us (terminals b),
)

-- with the text of which it is
pub told_loop : (env mid inner next : Env) (x : List ℕ) (b : Bounds) (t t' : Cursor) (i2 i3 after : Items)
    (all : Vec Statement Global) →
    (first_item t).terminal ≡ Fixed For → behind t ≡ items t' →
    IsGone (Mark sign.OpenParen ∷ Fixed Uint64 ∷ Name x ∷ []) (items t') i2 → IsGone (bounds_tokens x b) i2 i3 →
    mid ≡ env → inner ≡ in_loop x env → (r : IsBodyRead mid inner next i3 after all.items) →
    (q : IsStmtRead env next (items t) after (LoopOf b all)) ×
    (q.text ≡ Repeat (record { name = x; first = Some b.first; limit = Some b.end; step = Some b.step }) r.texts)
told_loop env mid inner next x b t t' i2 i3 after all e d g h m f r =
    let head : Head = record { name = x; first = Some b.first; limit = Some b.end; step = Some b.step } in
    let text : Stmt = Repeat head r.texts in
    let k = length (stmts r.texts) in
    let rest : List Terminal = terminals after in
    let rear : Slots = body_opening ∷ ended r.texts in
    let split : kinds (head_slots head ++ rear) ++ rest ≡ kinds (head_slots head) ++
    (Mark sign.OpenBrace ∷ (kinds (stmts r.texts) ++ (Mark sign.CloseBrace ∷ rest))) =
    ap (λ (ts : List Terminal). ts ++ rest) (kinds_append (head_slots head) rear)
    ∙ append_assoc (kinds (head_slots head)) (kinds rear) rest
    ∙ ap (λ (ts : List Terminal). kinds (head_slots head) ++ (Mark sign.OpenBrace ∷ ts)) (kinds_ended r.texts rest) in
    let at2 : i2 ≡ drop 4 (items t) = drops 1 3 (items t) (items t') i2 (drop_one t t' d) g.rest in
    let at3 : i3 ≡ drop 15 (items t) = drops 4 11 (items t) i2 i3 at2 h.rest in
    let back : drop 1 i3 ≡ drop 16 (items t) = drops 15 1 (items t) i3 (drop 1 i3) at3 refl in (
      record {
        text = text;
        tokens = first_then (Fixed For) t t' e d ∙ ap (λ (ts : List Terminal). Fixed For ∷ ts)
            (g.tokens ∙ ap (λ (ts : List Terminal). Mark sign.OpenParen ∷ Fixed Uint64 ∷ Name x ∷ ts)
            (h.tokens ∙ ap (λ (ts : List Terminal). bounds_tokens x b ++ ts) r.tokens) ∙ sym split);
        rest = drop_by (15 + (k + 2)) (stmt_size text) (items t) after (omega (arith, size_ended r.texts))
            (drops 15 (k + 2) (items t) i3 after at3 r.rest);
        is_text = r.are_texts;
        fewer = omega (
          arith,
          behind_less t t' d,
          gone_less (Mark sign.OpenParen ∷ Fixed Uint64 ∷ Name x ∷ [])
              (items t') i2 g,
          gone_less (bounds_tokens x b) i2 i3 h,
          r.fewer,
        );
        means = loop_at env (items t) head r.texts b all (record { first = refl; limit = refl; step = refl })
            (subst (λ (is : Items). AreStatements (in_loop x env) is r.texts all.items) back
            (subst (λ (v : Env). AreStatements v (drop 1 i3) r.texts all.items) f r.means));
        next_is = r.next_is ∙ ap (more (declared_in r.texts)) m;
      },
      refl,
    )

pub read_loop : (env mid inner next : Env) (x : List ℕ) (b : Bounds) (t t' : Cursor) (i2 i3 after : Items)
    (all : Vec Statement Global) →
    (first_item t).terminal ≡ Fixed For → behind t ≡ items t' →
    IsGone (Mark sign.OpenParen ∷ Fixed Uint64 ∷ Name x ∷ []) (items t') i2 → IsGone (bounds_tokens x b) i2 i3 →
    mid ≡ env → inner ≡ in_loop x env → IsBodyRead mid inner next i3 after all.items →
    IsStmtRead env next (items t) after (LoopOf b all)
read_loop env mid inner next x b t t' i2 i3 after all e d g h m f r =
    (told_loop env mid inner next x b t t' i2 i3 after all e d g h m f r).0
