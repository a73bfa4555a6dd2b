-- The terms that were read.
use Rattle.std.proofs.Common.{◌≡◌, ℕ, ◌+◌, ◌<◌, ◌≤◌, Bool, List, [], ◌∷◌, ◌++◌, length, drop, Option, Some, refl, sym, ap, subst, ◌∙◌, append_assoc, arith, length-append}
use Rattle.std.proofs.lemmas.List.{map-append, drop-drop}
use Rattle.c_tokens.specs.declared.kind.Sign.{Sign}
use Rattle.c_tokens.specs.declared.kind.Sign.TheVariants as sign
use Rattle.base.specs.declared.tree.ArrayId.{ArrayId}
use Rattle.base.specs.declared.tree.ScalarId.{ScalarId}
use Rattle.base.specs.declared.tree.Place.{Place}
use Rattle.base.specs.declared.tree.UnaryOp.{UnaryOp}
use Rattle.base.specs.declared.tree.Expr.{Expr}
use Rattle.base.specs.declared.tree.Expr.TheVariants as expr
use Rattle.c_grammar.specs.Terminal.{Terminal, Mark, Name, Num}
use Rattle.c_grammar.specs.Grammar.{Slot, Slots, Term, Literal, Named, Element, Group, Prefixed, Both, By, term, closing as closing_slot, prefix_sign, level_of}
use Rattle.c_grammar.proofs.Goes.{level_high, fraction_high}
use Rattle.c_expressions.specs.declared.cursor.Cursor.{Cursor}
use Rattle.c_expressions.specs.declared.scope.Meaning.{Meaning}
use Rattle.c_expressions.specs.declared.scope.Meaning.TheVariants as meaning
use Rattle.c_expressions.specs.Means.{Items, Names, meaning_of, place_of, prefix_of, term_size, IsExpr, MeansBoxed, MeansScalar}
use Rattle.c_expressions.specs.Cursor.{items, first_item, behind}
use Rattle.c_expressions.specs.Reading.{terminals, kinds}
use Rattle.c_expressions.specs.Signs.{Stops}
use Rattle.c_expressions.specs.Trees.{IsUnaryOf, IsCellOf, IsRead, IsIndexRead, IsReadBefore, IsTermRead}
use Rattle.c_expressions.proofs.Signs.{stops_none}

pub first_then : (x : Terminal) (t t' : Cursor) → (first_item t).terminal ≡ x → behind t ≡ items t' →
    terminals (items t) ≡ x ∷ terminals (items t')
first_then x t t' e b = ap (λ (y : Terminal). y ∷ terminals (behind t)) e ∙ ap (λ (is : Items). x ∷ terminals is) b

pub kinds_append : (xs ys : Slots) → kinds (xs ++ ys) ≡ kinds xs ++ kinds ys
kinds_append xs ys = map-append (λ (x : Slot). x.0) xs ys

pub behind_less : (t t' : Cursor) → behind t ≡ items t' → length (items t') < length (items t)
behind_less t t' b = omega (arith, ap (λ (is : Items). length is) b)

-- one token further than a part of the tokens
pub one_more : (n : ℕ) (is : Items) (t t' : Cursor) → items t ≡ drop n is → behind t ≡ items t' →
    items t' ≡ drop (n + 1) is
one_more n is t t' e b = sym b ∙ ap (λ (js : Items). drop 1 js) e ∙ drop-drop 1 n is

pub drops : (m n : ℕ) (is js ks : Items) → js ≡ drop m is → ks ≡ drop n js → ks ≡ drop (m + n) is
drops m n is js ks e f = f ∙ ap (λ (us : Items). drop n us) e ∙ drop-drop n m is

pub drop_by : (m n : ℕ) (is js : Items) → m ≡ n → js ≡ drop m is → js ≡ drop n is
drop_by m n is js e f = f ∙ ap (λ (k : ℕ). drop k is) e

pub drop_one : (t t' : Cursor) → behind t ≡ items t' → items t' ≡ drop 1 (items t)
drop_one t t' b = sym b

level_most : (e : Term) → level_of e ≤ 10
level_most (Literal n) = omega arith
level_most (Named x) = omega arith
level_most (Element x i) = omega arith
level_most (Group e) = omega arith
level_most (Prefixed op e) = omega arith
level_most (Both op a b) = omega (arith, level_high op)
level_most (By op a n) = omega (arith, fraction_high op)

-- behind an operand any operator may stand
high : (t : Terminal) → Stops 11 9 t
high t = stops_none 11 9 t (omega arith)

-- ---- operands

pub read_number : (names : Names) (n : ℕ) (t t' : Cursor) → (first_item t).terminal ≡ Num (Some n) →
    behind t ≡ items t' → IsRead names 10 9 (items t) (items t') (expr.Number n)
read_number names n t t' e b = record {
  tree = Literal (Some n);
  tokens = first_then (Num (Some n)) t t' e b;
  rest = sym b;
  ranked = tt;
  tight = omega arith;
  stops = high (first_item t').terminal;
  fewer =
      behind_less t t' b;
  means = refl;
}

scalar_means : (o : Option Meaning) (id : ScalarId) (inside : Bool) → o ≡ Some (meaning.Scalar id inside) →
    MeansScalar o id
scalar_means o id inside e = subst (λ (u : Option Meaning). MeansScalar u id) (sym e) refl

pub read_scalar : (names : Names) (x : List ℕ) (id : ScalarId) (inside : Bool) (t t' : Cursor) →
    (first_item t).terminal ≡ Name x → meaning_of names x ≡ Some (meaning.Scalar id inside) → behind t ≡ items t' →
    IsRead names 10 9 (items t) (items t') (expr.Scalar id)
read_scalar names x id inside t t' e h b = record {
  tree = Named x;
  tokens = first_then (Name x) t t' e b;
  rest =
      sym b;
  ranked = tt;
  tight = omega arith;
  stops = high (first_item t').terminal;
  fewer = behind_less t t' b;
  means = scalar_means (meaning_of names x) id inside h;
}

boxed_means : (names : Names) (x : List ℕ) (id : ArrayId) (n : ScalarId) (place : Place) (is : Items) (f : Expr) →
    meaning_of names x ≡ Some (meaning.Boxed id n) → place ≡ place_of is → IsCellOf id place (expr.Number 0) f →
    IsExpr names is (Named x) f
boxed_means names x id n place is (expr.Cell' a at p g) h w c = (
  subst (λ (o : Option Meaning). MeansBoxed o a) (sym h) (sym c.0),
  c.1 ∙ w,
  c.2,
)
boxed_means names x id n place is (expr.Number k) h w c = absurd c
boxed_means names x id n place is (expr.Scalar k) h w c = absurd c
boxed_means names x id n place is (expr.LoopName k) h w c = absurd c
boxed_means names x id n place is (expr.Unary' u p g) h w c = absurd c
boxed_means names x id n place is (expr.Binary' u p g q k) h w c = absurd c
boxed_means names x id n place is (expr.And' p g q k) h w c = absurd c
boxed_means names x id n place is (expr.Or' p g q k) h w c = absurd c
boxed_means names x id n place is (expr.Shift' u p g k) h w c = absurd c
boxed_means names x id n place is (expr.Divide' u p g k) h w c = absurd c

pub read_boxed : (names : Names) (x : List ℕ) (id : ArrayId) (n : ScalarId) (place : Place) (t t' : Cursor) (f : Expr) →
    (first_item t).terminal ≡ Name x → meaning_of names x ≡ Some (meaning.Boxed id n) → place ≡ place_of (items t) →
    behind t ≡ items t' → IsCellOf id place (expr.Number 0) f → IsRead names 10 9 (items t) (items t') f
read_boxed names x id n place t t' f e h w b c = record {
  tree = Named x;
  tokens = first_then (Name x) t t' e b;
  rest = sym b;
  ranked = tt;
  tight = omega arith;
  stops = high (first_item t').terminal;
  fewer = behind_less t t' b;
  means = boxed_means names x id n place (items t) f h w c;
}

pub read_loop : (names : Names) (x : List ℕ) (n : ℕ) (t t' : Cursor) → (first_item t).terminal ≡ Name x →
    meaning_of names x ≡ Some (meaning.Loop n) → behind t ≡ items t' →
    IsRead names 10 9 (items t) (items t') (expr.LoopName n)
read_loop names x n t t' e h b = record {
  tree = Named x;
  tokens = first_then (Name x) t t' e b;
  rest = sym b;
  ranked = tt;
  tight = omega arith;
  stops = high (first_item t').terminal;
  fewer = behind_less t t' b;
  means = h;
}

pub read_index : (names : Names) (k top : ℕ) (t t1 t2 t3 : Cursor) (e : Expr) →
    (first_item t).terminal ≡ Mark sign.OpenBracket → behind t ≡ items t1 →
    IsRead names k top (items t1) (items t2) e → (first_item t2).terminal ≡ Mark sign.CloseBracket →
    behind t2 ≡ items t3 → IsIndexRead names (items t) (items t3) e
read_index names k top t t1 t2 t3 e f b r g d =
    let n = term_size r.tree in
    record {
      tree = r.tree;
      tokens = first_then (Mark sign.OpenBracket) t t1 f b
          ∙ ap (λ (ts : List Terminal). Mark sign.OpenBracket ∷ ts) (r.tokens
          ∙ ap (λ (ts : List Terminal). kinds (term r.tree) ++ ts) (first_then (Mark sign.CloseBracket) t2 t3 g d));
      rest = drop_by (1 + (n + 1)) (n + 2) (items t) (items t3) (omega arith)
          (drops 1 (n + 1) (items t) (items t1) (items t3) (drop_one t t1 b)
          (one_more n (items t1) t2 t3 r.rest d));
      ranked = r.ranked;
      fewer = omega (arith, behind_less t t1 b, r.fewer, behind_less t2 t3 d);
      means = subst (λ (is : Items). IsExpr names is r.tree e) (sym b) r.means;
    }

cell_means : (names : Names) (x : List ℕ) (id : ArrayId) (i : Term) (place : Place) (t t1 : Cursor) (e f : Expr) →
    meaning_of names x ≡ Some (meaning.Array id) → place ≡ place_of (items t) → behind t ≡ items t1 →
    IsExpr names (drop 1 (items t1)) i e → IsCellOf id place e f → IsExpr names (items t) (Element x i) f
cell_means names x id i place t t1 e (expr.Cell' a at p g) h w b m c =
    let here : IsExpr names (drop 1 (behind t)) i e =
    subst (λ (is : Items). IsExpr names (drop 1 is) i e) (sym b) m in (
      h ∙ ap (λ (n : ArrayId). Some (meaning.Array n)) (sym c.0),
      c.1
          ∙ w,
      subst (λ (u : Expr). IsExpr names (drop 1 (behind t)) i u) (sym c.2) here,
    )
cell_means names x id i place t t1 e (expr.Number n) h w b m c = absurd c
cell_means names x id i place t t1 e (expr.Scalar n) h w b m c = absurd c
cell_means names x id i place t t1 e (expr.LoopName n) h w b m c = absurd c
cell_means names x id i place t t1 e (expr.Unary' o p g) h w b m c = absurd c
cell_means names x id i place t t1 e (expr.Binary' o p g q k) h w b m c = absurd c
cell_means names x id i place t t1 e (expr.And' p g q k) h w b m c = absurd c
cell_means names x id i place t t1 e (expr.Or' p g q k) h w b m c = absurd c
cell_means names x id i place t t1 e (expr.Shift' o p g n) h w b m c = absurd c
cell_means names x id i place t t1 e (expr.Divide' o p g n) h w b m c = absurd c

-- a term with a slot behind it, and then the rest
split_end : (e : Term) (x : Slot) (after : List Terminal) →
    kinds (term e ++ x ∷ []) ++ after ≡ kinds (term e) ++ (x.0 ∷ after)
split_end e x after = ap (λ (ts : List Terminal). ts ++ after) (kinds_append (term e) (x ∷ []))
    ∙ append_assoc (kinds (term e)) (x.0 ∷ []) after

pub read_cell : (names : Names) (x : List ℕ) (id : ArrayId) (place : Place) (t t1 t2 : Cursor) (e f : Expr) →
    (first_item t).terminal ≡ Name x → meaning_of names x ≡ Some (meaning.Array id) → place ≡ place_of (items t) →
    behind t ≡ items t1 → IsIndexRead names (items t1) (items t2) e → IsCellOf id place e f →
    IsRead names 10 9 (items t) (items t2) f
read_cell names x id place t t1 t2 e f first h w b r c =
    let end : Slots = closing_slot sign.CloseBracket ∷ [] in
    let after : List Terminal = terminals (items t2) in
    let n = term_size r.tree in
    let size : length (term r.tree ++ end) ≡ n + 1 = length-append (term r.tree) end in
    record {
      tree = Element x r.tree;
      tokens = first_then (Name x) t t1 first b ∙ ap (λ (ts : List Terminal). Name x ∷ ts) (r.tokens
          ∙ ap (λ (ts : List Terminal). Mark sign.OpenBracket ∷ ts)
          (sym (split_end r.tree (closing_slot sign.CloseBracket) after)));
      rest = drop_by (1 + (n + 2)) (term_size (Element x r.tree)) (items t) (items t2) (omega (arith, size))
          (drops 1 (n + 2) (items t) (items t1) (items t2) (drop_one t t1 b) r.rest);
      ranked = r.ranked;
      tight = omega arith;
      stops = high (first_item t2).terminal;
      fewer = omega (arith, behind_less t t1 b, r.fewer);
      means = cell_means names x id r.tree place t t1 e f h w b r.means c;
    }

pub read_group : (names : Names) (k top : ℕ) (t t1 t2 t3 : Cursor) (e : Expr) →
    (first_item t).terminal ≡ Mark sign.OpenParen → behind t ≡ items t1 →
    IsRead names k top (items t1) (items t2) e → (first_item t2).terminal ≡ Mark sign.CloseParen →
    behind t2 ≡ items t3 → IsRead names 10 9 (items t) (items t3) e
read_group names k top t t1 t2 t3 e f b r g d =
    let end : Slots = closing_slot sign.CloseParen ∷ [] in
    let after : List Terminal = terminals (items t3) in
    let n = term_size r.tree in
    let size : length (term r.tree ++ end) ≡ n + 1 = length-append (term r.tree) end in
    record {
      tree = Group r.tree;
      tokens = first_then (Mark sign.OpenParen) t t1 f b
          ∙ ap (λ (ts : List Terminal). Mark sign.OpenParen ∷ ts) (r.tokens
          ∙ ap (λ (ts : List Terminal). kinds (term r.tree) ++ ts) (first_then (Mark sign.CloseParen) t2 t3 g d)
          ∙ sym (split_end r.tree (closing_slot sign.CloseParen) after));
      rest = drop_by (1 + (n + 1)) (term_size (Group r.tree)) (items t) (items t3) (omega (arith, size))
          (drops 1 (n + 1) (items t) (items t1) (items t3) (drop_one t t1 b)
          (one_more n (items t1) t2 t3 r.rest d));
      ranked = r.ranked;
      tight = omega arith;
      stops = high (first_item t3).terminal;
      fewer = omega (arith, behind_less t t1 b, r.fewer, behind_less t2 t3 d);
      means = subst (λ (is : Items). IsExpr names is r.tree e) (sym b) r.means;
    }

unary_means : (names : Names) (o : UnaryOp) (i : Term) (t t1 : Cursor) (e f : Expr) → behind t ≡ items t1 →
    IsExpr names (items t1) i e → IsUnaryOf o e f → IsExpr names (items t) (Prefixed (prefix_of o) i) f
unary_means names o i t t1 e (expr.Unary' u p g) b m c = (
  ap prefix_of (sym c.0),
  subst (λ (k : Expr). IsExpr names (behind t) i k) (sym c.1)
      (subst (λ (is : Items). IsExpr names is i e) (sym b) m),
)
unary_means names o i t t1 e (expr.Cell' a at p g) b m c = absurd c
unary_means names o i t t1 e (expr.Number n) b m c = absurd c
unary_means names o i t t1 e (expr.Scalar n) b m c = absurd c
unary_means names o i t t1 e (expr.LoopName n) b m c = absurd c
unary_means names o i t t1 e (expr.Binary' u p g q k) b m c = absurd c
unary_means names o i t t1 e (expr.And' p g q k) b m c = absurd c
unary_means names o i t t1 e (expr.Or' p g q k) b m c = absurd c
unary_means names o i t t1 e (expr.Shift' u p g n) b m c = absurd c
unary_means names o i t t1 e (expr.Divide' u p g n) b m c = absurd c

pub read_prefix : (names : Names) (o : UnaryOp) (t t1 t2 : Cursor) (e f : Expr) →
    (first_item t).terminal ≡ Mark (prefix_sign (prefix_of o)) → behind t ≡ items t1 →
    IsRead names 10 9 (items t1) (items t2) e → IsUnaryOf o e f → IsRead names 10 9 (items t) (items t2) f
read_prefix names o t t1 t2 e f first b r c =
    let n = term_size r.tree in
    record {
      tree = Prefixed (prefix_of o) r.tree;
      tokens = first_then (Mark (prefix_sign (prefix_of o))) t t1 first b
          ∙ ap (λ (ts : List Terminal). Mark (prefix_sign (prefix_of o)) ∷ ts) r.tokens;
      rest = drop_by (1 + n) (term_size (Prefixed (prefix_of o) r.tree)) (items t) (items t2) (omega arith)
          (drops 1 n (items t) (items t1) (items t2) (drop_one t t1 b) r.rest);
      ranked = (omega (arith, r.tight, level_most r.tree), r.ranked);
      tight = omega arith;
      stops = high (first_item t2).terminal;
      fewer = omega (arith, behind_less t t1 b, r.fewer);
      means = unary_means names o r.tree t t1 e f b r.means c;
    }

-- ---- whole expressions

pub read_term : (names : Names) (k top : ℕ) (before after : Items) (e : Expr) → IsRead names k top before after e →
    IsTermRead names before after e
read_term names k top before after e r = record {
  tree = r.tree;
  tokens = r.tokens;
  rest = r.rest;
  ranked = r.ranked;
  fewer = r.fewer;
  means = r.means;
}

pub read_before : (names : Names) (x : Sign) (before : Items) (t t' : Cursor) (e : Expr) →
    IsTermRead names before (items t) e → (first_item t).terminal ≡ Mark x → behind t ≡ items t' →
    IsReadBefore names x before (items t') e
read_before names x before t t' e r first b = record {
  tree = r.tree;
  tokens =
      r.tokens ∙ ap (λ (ts : List Terminal). kinds (term r.tree) ++ ts) (first_then (Mark x) t t' first b);
  rest = one_more (term_size r.tree) before t t' r.rest b;
  ranked = r.ranked;
  fewer = omega (arith, r.fewer, behind_less t t' b);
  means = r.means;
}
