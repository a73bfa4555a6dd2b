-- The assignments that were read.
use Rattle.std.proofs.Common.{◌≡◌, ℕ, suc, ◌+◌, Bool, List, [], ◌∷◌, ◌++◌, length, drop, Option, Some, refl, sym, ap, subst, ◌∙◌, append_assoc, arith, length-append}
use Rattle.c_tokens.specs.declared.kind.Sign.TheVariants as sign
use Rattle.base.specs.declared.tree.Place.{Place}
use Rattle.base.specs.declared.tree.ArrayId.{ArrayId}
use Rattle.base.specs.declared.tree.ScalarId.{ScalarId}
use Rattle.base.specs.declared.tree.Expr.{Expr}
use Rattle.base.specs.declared.tree.Expr.TheVariants.{Number}
use Rattle.base.specs.declared.tree.Source.{Source as Assigned}
use Rattle.base.specs.declared.tree.Stmt.{Stmt as Statement}
use Rattle.base.specs.declared.tree.Stmt.TheVariants as statement
use Rattle.c_grammar.specs.Terminal.{Terminal, Mark, Name}
use Rattle.c_grammar.specs.Grammar.{Slots, mark, end_mark, term, Source, source, Stmt, Assign, Store}
use Rattle.c_expressions.specs.declared.cursor.Cursor.{Cursor}
use Rattle.c_expressions.specs.declared.scope.Meaning.{Meaning}
use Rattle.c_expressions.specs.declared.scope.Meaning.TheVariants as meaning
use Rattle.c_expressions.specs.declared.scope.Scope.{Scope}
use Rattle.c_expressions.specs.Means.{Items, meaning_of, place_of, term_size, IsExpr, MeansBoxed, MeansScalar}
use Rattle.c_expressions.specs.Cursor.{items, first_item, behind}
use Rattle.c_expressions.specs.Reading.{terminals, kinds}
use Rattle.c_expressions.specs.Scopes.{names_of}
use Rattle.c_expressions.specs.Trees.{IsReadBefore}
use Rattle.c_expressions.proofs.Expressions.{first_then, kinds_append, behind_less, drops, drop_by, drop_one}
use Rattle.c_statements.specs.Statements.{Env, source_size, stmt_size, IsAssign, IsSource}
use Rattle.c_statements.specs.Simple.{env_of, counted, IsSourceBefore, IsAssignRead, IsMarkableRead, IsStoreRead}
use Rattle.c_statements.proofs.Prints.{more_none}

pub read_assign_rest : (env : Env) (t0 t1 : Cursor) (after : Items) (v : Assigned) → (first_item t0).terminal ≡
    Mark sign.Equal → behind t0 ≡ items t1 → IsSourceBefore env (items t1) after v →
    IsAssignRead env (items t0) after v
read_assign_rest env t0 t1 after v h b r =
    let n = source_size r.text in
    record {
      value = r.text;
      tokens = first_then (Mark sign.Equal) t0 t1 h b ∙ ap (λ (ts : List Terminal). Mark sign.Equal ∷ ts) r.tokens;
      rest = drop_by (1 + (n + 1)) (n + 2) (items t0) after (omega arith)
          (drops 1 (n + 1) (items t0) (items t1) after (drop_one t0 t1 b) r.rest);
      ranked = r.ranked;
      fewer = omega (arith, behind_less t0 t1 b, r.fewer);
      means = subst (λ (is : Items). IsSource env is r.text v) (drop_one t0 t1 b) r.means;
    }

-- an assignment whose name and value are read means the statement that its value makes of it
read_named : (old new : Scope) (x : List ℕ) (t t1 : Cursor) (after : Items) (v : Assigned) (y : Statement) →
    new ≡ counted old → (first_item t).terminal ≡ Name x → behind t ≡ items t1 →
    IsAssignRead (env_of new) (items t1) after v →
    ((u : Source) → IsSource (env_of old) (drop 2 (items t)) u v → IsAssign (env_of old) (items t) x u y) →
    IsMarkableRead (env_of old) (env_of new) (items t) after y
read_named old new x t t1 after v y q first b p h =
    let r : IsAssignRead (env_of old) (items t1) after v =
    subst (λ (sc : Scope). IsAssignRead (env_of sc) (items t1) after v) q p in
    let n = source_size r.value in
    let end : Slots = end_mark ∷ [] in
    let rest : List Terminal = terminals after in
    let split : kinds (source r.value ++ end) ++ rest ≡ kinds (source r.value) ++ (Mark sign.Semicolon ∷ rest) =
    ap (λ (ts : List Terminal). ts ++ rest) (kinds_append (source r.value) end)
    ∙ append_assoc (kinds (source r.value)) (kinds end) rest in
    let size : length (source r.value ++ end) ≡ n + 1 = length-append (source r.value) end in
    let text : Stmt = Assign x r.value in
    let back : items t1 ≡ drop 1 (items t) = drop_one t t1 b in
    record {
      read = record {
        text = text;
        tokens = first_then (Name x) t t1 first b ∙ ap (λ (ts : List Terminal). Name x ∷ ts)
            (r.tokens ∙ ap (λ (ts : List Terminal). Mark sign.Equal ∷ ts) (sym split));
        rest = drop_by (1 + (n + 2)) (stmt_size text) (items t) after (omega (arith, size))
            (drops 1 (n + 2) (items t) (items t1) after back r.rest);
        is_text = r.ranked;
        fewer = omega (arith, behind_less t t1 b, r.fewer);
        means = h r.value (subst (λ (is : Items). IsSource (env_of old) (drop 1 is) r.value v) back r.means);
        next_is = ap env_of q ∙ more_none (env_of old);
      };
      markable = tt;
    }

scalar_is : (old : Scope) (x : List ℕ) (id : ScalarId) (i : Bool) → Some (meaning.Scalar id i) ≡
    meaning_of (names_of old) x → MeansScalar (meaning_of (names_of old) x) id
scalar_is old x id i e = subst (λ (o : Option Meaning). MeansScalar o id) e refl

pub read_assign : (old new : Scope) (x : List ℕ) (id : ScalarId) (i : Bool) (t t1 : Cursor) (after : Items)
    (v : Assigned) → new ≡ counted old → (first_item t).terminal ≡ Name x → behind t ≡ items t1 →
    Some (meaning.Scalar id i) ≡ meaning_of (names_of old) x → IsAssignRead (env_of new) (items t1) after v →
    IsMarkableRead (env_of old) (env_of new) (items t) after (statement.Assign id v)
read_assign old new x id i t t1 after v q first b named p =
    read_named old new x t t1 after v (statement.Assign id v) q first b p (λ u h. (scalar_is old x id i named, h))

boxed_is : (old : Scope) (x : List ℕ) (a : ArrayId) (n : ScalarId) → Some (meaning.Boxed a n) ≡
    meaning_of (names_of old) x → MeansBoxed (meaning_of (names_of old) x) a
boxed_is old x a n e = subst (λ (o : Option Meaning). MeansBoxed o a) e refl

pub read_boxed : (old new : Scope) (x : List ℕ) (a : ArrayId) (n : ScalarId) (place : Place) (t t1 : Cursor)
    (after : Items) (v : Assigned) → new ≡ counted old → (first_item t).terminal ≡ Name x → behind t ≡ items t1 →
    place ≡ place_of (items t) → Some (meaning.Boxed a n) ≡ meaning_of (names_of old) x →
    IsAssignRead (env_of new) (items t1) after v →
    IsMarkableRead (env_of old) (env_of new) (items t) after (statement.Store a place (Number 0) v)
read_boxed old new x a n place t t1 after v q first b w named p =
    read_named old new x t t1 after v (statement.Store a place (Number 0) v) q first b p
    (λ u h. (boxed_is old x a n named, w, refl, h))

pub read_store_rest : (sc : Scope) (t0 t1 : Cursor) (middle after : Items) (e : Expr) (v : Assigned) →
    (first_item t0).terminal ≡ Mark sign.OpenBracket → behind t0 ≡ items t1 →
    IsReadBefore (names_of sc) sign.CloseBracket (items t1) middle e → IsAssignRead (env_of sc) middle after v →
    IsStoreRead (env_of sc) (items t0) after e v
read_store_rest sc t0 t1 middle after e v h b i r =
    let m = term_size i.tree in
    let n = source_size r.value in
    let at : middle ≡ drop (m + 2) (items t0) = drop_by (1 + (m + 1)) (m + 2) (items t0) middle (omega arith)
    (drops 1 (m + 1) (items t0) (items t1) middle (drop_one t0 t1 b) i.rest) in
    let value : drop 1 middle ≡ drop (m + 3) (items t0) = drop_by (m + 2 + 1) (m + 3) (items t0) (drop 1 middle)
    (omega arith) (drops (m + 2) 1 (items t0) middle (drop 1 middle) at refl) in
    record {
      index = i.tree;
      value = r.value;
      tokens = first_then (Mark sign.OpenBracket) t0 t1 h b
          ∙ ap (λ (ts : List Terminal). Mark sign.OpenBracket ∷ ts)
          (i.tokens ∙ ap (λ (ts : List Terminal). kinds (term i.tree) ++ (Mark sign.CloseBracket ∷ ts)) r.tokens);
      rest = drop_by (m + 2 + (n + 2)) (m + n + 4) (items t0) after (omega arith)
          (drops (m + 2) (n + 2) (items t0) middle after at r.rest);
      ranked = i.ranked;
      value_ranked = r.ranked;
      fewer = omega (arith, behind_less t0 t1 b, i.fewer, r.fewer);
      index_means = subst (λ (is : Items). IsExpr (names_of sc) is i.tree e) (drop_one t0 t1 b) i.means;
      value_means = subst (λ (is : Items). IsSource (env_of sc) is r.value v) value r.means;
    }

pub read_store : (old new : Scope) (x : List ℕ) (id : ArrayId) (place : Place) (t t1 : Cursor) (after : Items)
    (e : Expr) (v : Assigned) → new ≡ counted old → (first_item t).terminal ≡ Name x → behind t ≡ items t1 → place ≡
    place_of (items t) → Some (meaning.Array id) ≡ meaning_of (names_of old) x →
    IsStoreRead (env_of new) (items t1) after e v → IsMarkableRead (env_of old) (env_of new) (items t) after
    (statement.Store id place e v)
read_store old new x id place t t1 after e v q first b w named p =
    let r : IsStoreRead (env_of old) (items t1) after e v =
    subst (λ (sc : Scope). IsStoreRead (env_of sc) (items t1) after e v) q p in
    let m = term_size r.index in
    let n = source_size r.value in
    let rest : List Terminal = terminals after in
    let end : Slots = end_mark ∷ [] in
    let tail : Slots = mark sign.CloseBracket ∷ mark sign.Equal ∷ (source r.value ++ end) in
    let text : Stmt = Store x r.index r.value in
    let inner : kinds (source r.value ++ end) ++ rest ≡ kinds (source r.value) ++ (Mark sign.Semicolon ∷ rest) =
    ap (λ (ts : List Terminal). ts ++ rest) (kinds_append (source r.value) end)
    ∙ append_assoc (kinds (source r.value)) (kinds end) rest in
    let split : kinds (term r.index ++ tail) ++ rest ≡ kinds (term r.index) ++
    (Mark sign.CloseBracket ∷ Mark sign.Equal ∷ (kinds (source r.value) ++ (Mark sign.Semicolon ∷ rest))) =
    ap (λ (ts : List Terminal). ts ++ rest) (kinds_append (term r.index) tail)
    ∙ append_assoc (kinds (term r.index)) (kinds tail) rest
    ∙ ap (λ (ts : List Terminal). kinds (term r.index) ++
    (Mark sign.CloseBracket ∷ Mark sign.Equal ∷ ts)) inner in
    let size : stmt_size text ≡ suc (suc (length (term r.index ++ tail))) = refl in
    let size1 : length (term r.index ++ tail) ≡ m + suc (suc (length (source r.value ++ end))) = length-append
    (term r.index) tail in
    let size2 : length (source r.value ++ end) ≡ n + 1 = length-append (source r.value) end in
    let back : items t1 ≡ drop 1 (items t) = drop_one t t1 b in
    let four : m + 4 ≡ suc (m + 3) = omega arith in
    record {
      read = record {
        text = text;
        tokens = first_then (Name x) t t1 first b ∙ ap (λ (ts : List Terminal). Name x ∷ ts)
            (r.tokens ∙ ap (λ (ts : List Terminal). Mark sign.OpenBracket ∷ ts) (sym split));
        rest = drop_by (1 + (m + n + 4)) (stmt_size text) (items t) after (omega (arith, size, size1, size2))
            (drops 1 (m + n + 4) (items t) (items t1) after back r.rest);
        is_text = (r.ranked, r.value_ranked);
        fewer = omega (arith, behind_less t t1 b, r.fewer);
        means = (
          sym named,
          w,
          subst (λ (is : Items). IsExpr (names_of old) (drop 1 is) r.index e) back r.index_means,
          subst (λ (k : ℕ). IsSource (env_of old) (drop k (items t)) r.value v) (sym four)
              (subst (λ (is : Items). IsSource (env_of old) (drop (m + 3) is) r.value v) back r.value_means),
        );
        next_is = ap env_of q ∙ more_none (env_of old);
      };
      markable = tt;
    }
