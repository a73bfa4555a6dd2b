-- The machine and the reader at prints.
use Rattle.std.proofs.Common.{◌≡◌, ℕ, ◌+◌, ◌<◌, ◌≤◌, true, false, List, [], ◌∷◌, ◌++◌, length, drop, Some, refl, sym, ap, subst, ◌∙◌, append_assoc, arith, length-append}
use Rattle.std.specs.Prelude.{nat_le}
use Rattle.std.proofs.lemmas.Bool.Decides.{nat_tests}
use Rattle.c_tokens.specs.declared.kind.Sign.TheVariants as sign
use Rattle.base.specs.declared.tree.Expr.{Expr}
use Rattle.base.specs.declared.tree.Stmt.TheVariants as statement
use Rattle.base.specs.declared.fault.ReadCode.TheVariants.{TooMany, HostOnly}
use Rattle.c_grammar.specs.Lexeme.{Print}
use Rattle.c_grammar.specs.Terminal.{Terminal, Fixed, Mark}
use Rattle.c_grammar.specs.Texts.{Item}
use Rattle.c_grammar.specs.Grammar.{Slots, mark, end_mark, term, Show, Prints, for}
use Rattle.c_grammar.specs.Rules.{Context, breaks, enter, inside, begun, out, max_statements}
use Rattle.c_grammar.specs.Program.{Stack, first_broken}
use Rattle.c_expressions.specs.declared.cursor.Cursor.{Cursor}
use Rattle.c_expressions.specs.declared.scope.Scope.{Scope}
use Rattle.c_expressions.specs.Means.{Items, Names, term_size, IsExpr}
use Rattle.c_expressions.specs.Cursor.{items, first_item, behind}
use Rattle.c_expressions.specs.Reading.{run, took, fault_at, terminals, kinds}
use Rattle.c_expressions.specs.Scopes.{context_of, names_of}
use Rattle.c_expressions.specs.Trees.{IsReadBefore}
use Rattle.c_expressions.proofs.Going.{put, put_is}
use Rattle.c_expressions.proofs.Expressions.{first_then, kinds_append, behind_less, one_more, drops, drop_by, drop_one}
use Rattle.c_statements.specs.Statements.{Env, stmt_size, more}
use Rattle.c_statements.specs.Simple.{env_of, counted, IsPrintRead, IsStmtRead}

item_many_prints : (c : Context) (s : Stack) (i : Item Terminal) (is : Items) → nat_le max_statements c.statements ≡
    true → took c (for Prints) s (put i (Fixed Print) ∷ is) ≡ Some (fault_at i TooMany)
unfolding took first_broken breaks
item_many_prints c s i is h = rw h refl

item_host_prints : (c : Context) (s : Stack) (i : Item Terminal) (is : Items) → nat_le max_statements c.statements ≡
    false → inside c ≡ true → took c (for Prints) s (put i (Fixed Print) ∷ is) ≡ Some (fault_at i HostOnly)
unfolding took first_broken breaks
item_host_prints c s i is h k = rw (h, k) refl

item_prints : (c : Context) (s : Stack) (i : Item Terminal) (is : Items) → nat_le max_statements c.statements ≡
    false → inside c ≡ false → took c (for Prints) s (put i (Fixed Print) ∷ is) ≡ run (begun (out c)) s is
unfolding took run first_broken breaks enter
item_prints c s i is h k = rw (h, k) refl

pub many_prints : (sc : Scope) (s : Stack) (t : Cursor) → (first_item t).terminal ≡ Fixed Print →
    max_statements ≤ sc.statements → took (context_of sc 0 0) (for Prints) s (items t) ≡
    Some (fault_at (first_item t) TooMany)
many_prints sc s t e h =
    let many : nat_le max_statements sc.statements ≡ true = grind (arith, nat_tests) in
    ap (λ (i : Item Terminal). took (context_of sc 0 0) (for Prints) s (i ∷ behind t))
    (put_is (first_item t) (Fixed Print) e) ∙ item_many_prints (context_of sc 0 0) s (first_item t) (behind t)
    many

pub host_prints : (sc : Scope) (s : Stack) (t : Cursor) → (first_item t).terminal ≡ Fixed Print →
    sc.statements < max_statements → inside (context_of sc 0 0) ≡ true →
    took (context_of sc 0 0) (for Prints) s (items t) ≡ Some (fault_at (first_item t) HostOnly)
host_prints sc s t e h k =
    let few : nat_le max_statements sc.statements ≡ false = grind (arith, nat_tests) in
    ap (λ (i : Item Terminal). took (context_of sc 0 0) (for Prints) s (i ∷ behind t))
    (put_is (first_item t) (Fixed Print) e) ∙ item_host_prints (context_of sc 0 0) s (first_item t) (behind t)
    few k

pub go_prints : (sc : Scope) (s : Stack) (t t' : Cursor) → (first_item t).terminal ≡ Fixed Print →
    sc.statements < max_statements → inside (context_of sc 0 0) ≡ false → behind t ≡ items t' →
    took (context_of sc 0 0) (for Prints) s (items t) ≡ run (context_of (counted sc) 0 0) s (items t')
go_prints sc s t t' e h k b =
    let few : nat_le max_statements sc.statements ≡ false = grind (arith, nat_tests) in
    ap (λ (i : Item Terminal). took (context_of sc 0 0) (for Prints) s (i ∷ behind t))
    (put_is (first_item t) (Fixed Print) e) ∙ item_prints (context_of sc 0 0) s (first_item t) (behind t) few k
    ∙ ap (run (context_of (counted sc) 0 0) s) b

pub read_print_rest : (names : Names) (t1 t2 t3 t4 : Cursor) (e : Expr) → (first_item t1).terminal ≡
    Mark sign.OpenParen → behind t1 ≡ items t2 → IsReadBefore names sign.CloseParen (items t2) (items t3) e →
    (first_item t3).terminal ≡ Mark sign.Semicolon → behind t3 ≡ items t4 → IsPrintRead names (items t1) (items t4) e
read_print_rest names t1 t2 t3 t4 e h1 b1 r h3 b3 =
    let n = term_size r.tree in
    let at4 : items t4 ≡ drop (n + 1 + 1) (items t2) = one_more (n + 1) (items t2) t3 t4 r.rest b3 in
    record {
      value = r.tree;
      tokens = first_then (Mark sign.OpenParen) t1 t2 h1 b1 ∙ ap (λ (ts : List Terminal). Mark sign.OpenParen ∷ ts)
          (r.tokens ∙ ap (λ (ts : List Terminal). kinds (term r.tree) ++ (Mark sign.CloseParen ∷ ts))
          (first_then (Mark sign.Semicolon) t3 t4 h3 b3));
      rest = drop_by (1 + (n + 1 + 1)) (n + 3) (items t1) (items t4) (omega arith)
          (drops 1 (n + 1 + 1) (items t1) (items t2) (items t4) (drop_one t1 t2 b1) at4);
      ranked = r.ranked;
      fewer = omega (arith, behind_less t1 t2 b1, r.fewer, behind_less t3 t4 b3);
      means = subst (λ (is : Items). IsExpr names is r.tree e) (drop_one t1 t2 b1) r.means;
    }

pub more_none : (env : Env) → env ≡ more 0 env
more_none env = let e : env.scalars ≡ env.scalars + 0 = omega arith in
    ap (λ (k : ℕ). (let v : Env = record env { scalars = k } in v)) e

pub read_print : (old new : Scope) (t t1 : Cursor) (after : Items) (e : Expr) → new ≡ counted old →
    (first_item t).terminal ≡ Fixed Print → behind t ≡ items t1 → IsPrintRead (names_of new) (items t1) after e →
    IsStmtRead (env_of old) (env_of new) (items t) after (statement.Print e)
read_print old new t t1 after e q h b p =
    let r : IsPrintRead (names_of old) (items t1) after e =
    subst (λ (sc : Scope). IsPrintRead (names_of sc) (items t1) after e) q p in
    let n = term_size r.value in
    let end : Slots = mark sign.CloseParen ∷ end_mark ∷ [] in
    let rest : List Terminal = terminals after in
    let split : kinds (term r.value ++ end) ++ rest ≡ kinds (term r.value) ++
    (Mark sign.CloseParen ∷ Mark sign.Semicolon ∷ rest) = ap (λ (ts : List Terminal). ts ++ rest)
    (kinds_append (term r.value) end) ∙ append_assoc (kinds (term r.value)) (kinds end) rest in
    let size : length (term r.value ++ end) ≡ n + 2 = length-append (term r.value) end in
    record {
      text = Show r.value;
      tokens = first_then (Fixed Print) t t1 h b ∙ ap (λ (ts : List Terminal). Fixed Print ∷ ts)
          (r.tokens ∙ ap (λ (ts : List Terminal). Mark sign.OpenParen ∷ ts) (sym split));
      rest = drop_by (1 + (n + 3)) (stmt_size (Show r.value)) (items t) after (omega (arith, size))
          (drops 1 (n + 3) (items t) (items t1) after (drop_one t t1 b) r.rest);
      is_text = r.ranked;
      fewer = omega (arith, behind_less t t1 b, r.fewer);
      means = subst (λ (is : Items). IsExpr (names_of old) (drop 1 is) r.value e) (sym b) r.means;
      next_is = ap env_of q ∙ more_none (env_of old);
    }
