-- The branches that were read.
use Rattle.std.proofs.Common.{◌≡◌, ℕ, suc, ◌+◌, List, [], ◌∷◌, ◌++◌, length, drop, Vec, Global, refl, sym, ap, subst, ◌∙◌, append_assoc, arith, length-append}
use Rattle.c_tokens.specs.declared.kind.Sign.TheVariants as sign
use Rattle.base.specs.declared.tree.Expr.{Expr}
use Rattle.base.specs.declared.tree.Stmt.{Stmt as Statement, If as IfOf, items_hidden-the_row-Stmt-0}
use Rattle.c_grammar.specs.Lexeme.{If, Else}
use Rattle.c_grammar.specs.Terminal.{Terminal, Fixed, Mark}
use Rattle.c_grammar.specs.Grammar.{Slots, Stmt, Stmts, Choose, ChooseElse, Otherwise, Term, mark, term, body_opening, body_closing, for, stmts}
use Rattle.c_expressions.specs.declared.cursor.Cursor.{Cursor}
use Rattle.c_expressions.specs.Means.{Items, term_size, IsExpr}
use Rattle.c_expressions.specs.Cursor.{items, first_item, behind}
use Rattle.c_expressions.specs.Reading.{terminals, kinds}
use Rattle.c_expressions.proofs.Expressions.{first_then, kinds_append, behind_less, one_more, drops, drop_by, drop_one}
use Rattle.c_statements.specs.Bodies.{IsBodyRead}
use Rattle.c_statements.specs.Blocks.{IsConditionRead}
use Rattle.c_statements.specs.Simple.{IsMarkableRead}
use Rattle.c_statements.specs.Statements.{Env, stmt_size, declared_in, more, IsStatement, AreStatements}
use Rattle.c_statements.proofs.Wholes.{ended, kinds_ended, size_ended}

if_at : (env : Env) (is : Items) (t : Term) (a : Stmts) (e : Expr) (all none : Vec Statement Global) →
    IsExpr env.names (drop 2 is) t e →
    AreStatements env (drop (term_size t + 4) is) a all.items → none.items ≡ [] →
    IsStatement env is (Choose t a) (IfOf e all none)
if_at env is t a e all none m h n = (
  m,
  subst (λ (xs : List Statement). AreStatements env (drop (term_size t + 4) is) a xs)
      (sym (items_hidden-the_row-Stmt-0 all)) h,
  items_hidden-the_row-Stmt-0 none ∙ n,
)

if_else_at : (env : Env) (is : Items) (t : Term) (a b : Stmts) (e : Expr) (all other : Vec Statement Global) →
    IsExpr env.names (drop 2 is) t e →
    AreStatements env (drop (term_size t + 4) is) a all.items →
    AreStatements (more (declared_in a) env) (drop (term_size t + length (stmts a) + 7) is) b other.items →
    IsStatement env is (ChooseElse t a b) (IfOf e all other)
if_else_at env is t a b e all other m h n = (
  m,
  subst (λ (xs : List Statement). AreStatements env (drop (term_size t + 4) is) a xs)
      (sym (items_hidden-the_row-Stmt-0 all)) h,
  subst (λ (xs : List Statement). AreStatements (more (declared_in a) env)
      (drop (term_size t + length (stmts a) + 7) is) b xs) (sym (items_hidden-the_row-Stmt-0 other)) n,
)

pub read_if : (env mid inner next : Env) (e : Expr) (t t' : Cursor) (i2 after : Items)
    (all none : Vec Statement Global) →
    (first_item t).terminal ≡ Fixed If → behind t ≡ items t' → IsConditionRead env.names (items t') i2 e →
    mid ≡ env → inner ≡ env → IsBodyRead mid inner next i2 after all.items → none.items ≡ [] →
    IsMarkableRead env next (items t) after (IfOf e all none)
read_if env mid inner next e t t' i2 after all none h b r m f p z =
    let n = term_size r.value in
    let k = length (stmts p.texts) in
    let text : Stmt = Choose r.value p.texts in
    let rest : List Terminal = terminals after in
    let rear : Slots = mark sign.CloseParen ∷ body_opening ∷ ended p.texts in
    let split : kinds (term r.value ++ rear) ++ rest ≡ kinds (term r.value) ++
    (Mark sign.CloseParen ∷ Mark sign.OpenBrace ∷ (kinds (stmts p.texts) ++ (Mark sign.CloseBrace ∷ rest))) =
    ap (λ (ts : List Terminal). ts ++ rest) (kinds_append (term r.value) rear)
    ∙ append_assoc (kinds (term r.value)) (kinds rear) rest
    ∙ ap (λ (ts : List Terminal). kinds (term r.value) ++ (Mark sign.CloseParen ∷ Mark sign.OpenBrace ∷ ts))
    (kinds_ended p.texts rest) in
    let size : length (term r.value ++ rear) ≡ n + suc (suc (length (ended p.texts))) = length-append (term r.value)
    rear in
    let at2 : i2 ≡ drop (n + 3) (items t) = drop_by (1 + (n + 2)) (n + 3) (items t) i2 (omega arith)
    (drops 1 (n + 2) (items t) (items t') i2 (drop_one t t' b) r.rest) in
    let back : drop 1 i2 ≡ drop (n + 4) (items t) = drop_by (n + 3 + 1) (n + 4) (items t) (drop 1 i2) (omega arith)
    (drops (n + 3) 1 (items t) i2 (drop 1 i2) at2 refl) in
    record {
      read = record {
        text = text;
        tokens = first_then (Fixed If) t t' h b ∙ ap (λ (ts : List Terminal). Fixed If ∷ ts)
            (r.tokens ∙ ap (λ (ts : List Terminal). Mark sign.OpenParen ∷
            (kinds (term r.value) ++ (Mark sign.CloseParen ∷ ts))) p.tokens
            ∙ ap (λ (ts : List Terminal). Mark sign.OpenParen ∷ ts) (sym split));
        rest = drop_by (n + 3 + (k + 2)) (stmt_size text) (items t) after (omega (arith, size, size_ended p.texts))
            (drops (n + 3) (k + 2) (items t) i2 after at2 p.rest);
        is_text = (r.ranked, p.are_texts);
        fewer = omega (arith, behind_less t t' b, r.fewer, p.fewer);
        means = if_at env (items t) r.value p.texts e all none
            (subst (λ (is : Items). IsExpr env.names (drop 1 is) r.value e) (drop_one t t' b) r.means)
            (subst (λ (is : Items). AreStatements env is p.texts all.items) back
            (subst (λ (v : Env). AreStatements v (drop 1 i2) p.texts all.items) f p.means)) z;
        next_is = p.next_is ∙ ap (more (declared_in p.texts)) m;
      };
      markable = tt;
    }

more_more : (a b : ℕ) (env : Env) → more b (more a env) ≡ more (a + b) env
more_more a b env = (let e : env.scalars + a + b ≡ env.scalars + (a + b) = omega arith in
    ap (λ (n : ℕ). (let v : Env = record env { scalars = n } in v)) e)

pub read_if_else : (env mid inner mid' inner' next : Env) (e : Expr) (t t' u u' : Cursor) (i2 after : Items)
    (all other : Vec Statement Global) →
    (first_item t).terminal ≡ Fixed If → behind t ≡ items t' → IsConditionRead env.names (items t') i2 e →
    mid ≡ env → inner ≡ env → IsBodyRead mid inner mid' i2 (items u) all.items →
    (first_item u).terminal ≡ Fixed Else → behind u ≡ items u' → inner' ≡ mid' →
    IsBodyRead mid' inner' next (items u') after other.items →
    IsMarkableRead env next (items t) after (IfOf e all other)
read_if_else env mid inner mid' inner' next e t t' u u' i2 after all other h b r m f p g d f' q =
    let n = term_size r.value in
    let k = length (stmts p.texts) in
    let l = length (stmts q.texts) in
    let text : Stmt = ChooseElse r.value p.texts q.texts in
    let rest : List Terminal = terminals after in
    let last : Slots = body_closing ∷ (Fixed Else, for Otherwise) ∷ body_opening ∷ ended q.texts in
    let rear : Slots = mark sign.CloseParen ∷ body_opening ∷ (stmts p.texts ++ last) in
    let split2 : kinds (stmts p.texts ++ last) ++ rest ≡ kinds (stmts p.texts) ++
    (Mark sign.CloseBrace ∷ Fixed Else ∷ Mark sign.OpenBrace ∷
    (kinds (stmts q.texts) ++ (Mark sign.CloseBrace ∷ rest))) =
    ap (λ (ts : List Terminal). ts ++ rest) (kinds_append (stmts p.texts) last)
    ∙ append_assoc (kinds (stmts p.texts)) (kinds last) rest
    ∙ ap (λ (ts : List Terminal). kinds (stmts p.texts) ++ (Mark sign.CloseBrace ∷ Fixed Else ∷ Mark sign.OpenBrace
    ∷ ts)) (kinds_ended q.texts rest) in
    let split : kinds (term r.value ++ rear) ++ rest ≡ kinds (term r.value) ++
    (Mark sign.CloseParen ∷ Mark sign.OpenBrace ∷ (kinds (stmts p.texts) ++
    (Mark sign.CloseBrace ∷ Fixed Else ∷ Mark sign.OpenBrace ∷
    (kinds (stmts q.texts) ++ (Mark sign.CloseBrace ∷ rest))))) =
    ap (λ (ts : List Terminal). ts ++ rest) (kinds_append (term r.value) rear)
    ∙ append_assoc (kinds (term r.value)) (kinds rear) rest
    ∙ ap (λ (ts : List Terminal). kinds (term r.value) ++ (Mark sign.CloseParen ∷ Mark sign.OpenBrace ∷ ts)) split2 in
    let size : length (term r.value ++ rear) ≡ n + suc (suc (length (stmts p.texts ++ last))) = length-append
    (term r.value) rear in
    let size2 : length (stmts p.texts ++ last) ≡ k + suc (suc (suc (length (ended q.texts)))) = length-append
    (stmts p.texts) last in
    let at2 : i2 ≡ drop (n + 3) (items t) = drop_by (1 + (n + 2)) (n + 3) (items t) i2 (omega arith)
    (drops 1 (n + 2) (items t) (items t') i2 (drop_one t t' b) r.rest) in
    let back : drop 1 i2 ≡ drop (n + 4) (items t) = drop_by (n + 3 + 1) (n + 4) (items t) (drop 1 i2) (omega arith)
    (drops (n + 3) 1 (items t) i2 (drop 1 i2) at2 refl) in
    let at3 : items u ≡ drop (n + 3 + (k + 2)) (items t) = drops (n + 3) (k + 2) (items t) i2 (items u) at2 p.rest in
    let at4 : items u' ≡ drop (n + 3 + (k + 2) + 1) (items t) = one_more (n + 3 + (k + 2)) (items t) u u' at3 d in
    let back2 : drop 1 (items u') ≡ drop (n + k + 7) (items t) = drop_by (n + 3 + (k + 2) + 1 + 1) (n + k + 7)
    (items t) (drop 1 (items u')) (omega arith) (drops (n + 3 + (k + 2) + 1) 1 (items t) (items u')
    (drop 1 (items u')) at4 refl) in
    let second : mid' ≡ more (declared_in p.texts) env = p.next_is ∙ ap (more (declared_in p.texts)) m in
    record {
      read = record {
        text = text;
        tokens = first_then (Fixed If) t t' h b ∙ ap (λ (ts : List Terminal). Fixed If ∷ ts)
            (r.tokens ∙ ap (λ (ts : List Terminal). Mark sign.OpenParen ∷
            (kinds (term r.value) ++ (Mark sign.CloseParen ∷ ts)))
            (p.tokens ∙ ap (λ (ts : List Terminal). Mark sign.OpenBrace ∷
            (kinds (stmts p.texts) ++ (Mark sign.CloseBrace ∷ ts)))
            (first_then (Fixed Else) u u' g d ∙ ap (λ (ts : List Terminal). Fixed Else ∷ ts) q.tokens))
            ∙ ap (λ (ts : List Terminal). Mark sign.OpenParen ∷ ts) (sym split));
        rest = drop_by (n + 3 + (k + 2) + 1 + (l + 2)) (stmt_size text) (items t) after
            (omega (arith, size, size2, size_ended q.texts)) (drops (n + 3 + (k + 2) + 1) (l + 2) (items t) (items u')
            after at4 q.rest);
        is_text = (r.ranked, p.are_texts, q.are_texts);
        fewer = omega (arith, behind_less t t' b, r.fewer, p.fewer, behind_less u u' d, q.fewer);
        means = if_else_at env (items t) r.value p.texts q.texts e all other
            (subst (λ (is : Items). IsExpr env.names (drop 1 is) r.value e) (drop_one t t' b) r.means)
            (subst (λ (is : Items). AreStatements env is p.texts all.items) back
            (subst (λ (v : Env). AreStatements v (drop 1 i2) p.texts all.items) f p.means))
            (subst (λ (is : Items). AreStatements (more (declared_in p.texts) env) is q.texts other.items) back2
            (subst (λ (v : Env). AreStatements v (drop 1 (items u')) q.texts other.items) (f' ∙ second) q.means));
        next_is = q.next_is ∙ ap (more (declared_in q.texts)) second
            ∙ more_more (declared_in p.texts) (declared_in q.texts) env;
      };
      markable = tt;
    }
