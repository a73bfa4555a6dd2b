-- What a region touches depends on the loops alone that it names in a subscript or a condition.
use Rattle.std.proofs.Common.{◌≡◌, ℕ, zero, suc, ◌+◌, ◌<◌, ◌≤◌, Bool, true, false, List, [], ◌∷◌, ◌++◌, refl, sym, ap, ap₂, ◌∙◌, arith, length, Some, None, ⊎_elim, length-append}
use Rattle.std.specs.Prelude.{◌&&◌, ◌||◌, ◌==◌, nat_lt, flat_map, map, filter, slice_index, if◌then◌else◌}
use Rattle.std.proofs.lemmas.Bool.{or_left, or_right, cases_lt}
use Rattle.std.proofs.lemmas.Bool.Decides.{nat_tests}
use Rattle.std.proofs.lemmas.List.{get_or_append_left, get_or-append_right, get_or_past}
use Rattle.base.specs.declared.tree.Expr.{Expr}
use Rattle.base.specs.declared.tree.Expr.TheVariants.{Number, Scalar, LoopName, Cell', Unary', Binary', And', Or', Shift', Divide'}
use Rattle.base.specs.declared.tree.Source.{Source}
use Rattle.base.specs.declared.tree.Source.TheVariants.{Value, Read}
use Rattle.base.specs.declared.tree.Stmt.{Stmt, Row_of-Stmt, end_of-Stmt, more_of-Stmt}
use Rattle.base.specs.declared.tree.Stmt.TheVariants.{Declare, Assign, Store, Combine, Print, Block', Loop', If'}
use Rattle.base.specs.Meaning.{turns_of}
use Rattle.base.specs.Interval.{exactly, known, interval, interval_unary, interval_binary, interval_shift, interval_divide, is_known_zero, is_known_nonzero}
use Rattle.base.specs.Footprint.{Touch, expr_touches, source_touches, turns_touch, stmt_touches, row_touches, turns_in, leaves_array}
use Rattle.regions.specs.Deciding.{expr_decides, source_decides, stmt_decides, row_decides, list_decides, AgreeWhere}

-- lists that agree at a level that decides
same_index : (p : ℕ → Bool) (xs ys : List ℕ) (i : ℕ) → AgreeWhere p xs ys → p i ≡ true →
    slice_index xs i ≡ slice_index ys i
same_index p xs ys i s h =
    ⊎_elim (λ (inside : i < length xs). s.values i inside h)
    (λ (past : length xs ≤ i).
    get_or_past xs i 0 past ∙ sym (get_or_past ys i 0 (let c = s.count in omega (arith, past, c))))
    (cases_lt i (length xs))

pub same_push : (p : ℕ → Bool) (xs ys : List ℕ) (v : ℕ) → AgreeWhere p xs ys → AgreeWhere p (xs ++ v ∷ []) (ys ++ v ∷ [])
same_push p xs ys v s = record {
  count = length-append xs (v ∷ []) ∙ ap (λ n. n + 1) s.count ∙ sym (length-append ys (v ∷ []));
  values = λ i inside h. ⊎_elim (λ (old : i < length xs).
      get_or_append_left xs (v ∷ []) 0 i old ∙ s.values i old h
      ∙ sym (get_or_append_left ys (v ∷ []) 0 i (let c = s.count in omega (arith, old, c))))
      (λ (new : length xs ≤ i).
      get_or-append_right xs (v ∷ []) (length xs) i 0 refl new
      ∙ sym (get_or-append_right ys (v ∷ []) (length xs) i 0 (sym s.count) new))
      (cases_lt i (length xs));
}

-- of two tests of which one has to hold
first_test : (p q : ℕ → Bool) (xs ys : List ℕ) → AgreeWhere (λ i. p i || q i) xs ys → AgreeWhere p xs ys
first_test p q xs ys s = record {
  count = s.count;
  values = λ i inside h. s.values i inside (or_left (p i) (q i) h);
}

second_test : (p q : ℕ → Bool) (xs ys : List ℕ) → AgreeWhere (λ i. p i || q i) xs ys → AgreeWhere q xs ys
second_test p q xs ys s = record {
  count = s.count;
  values = λ i inside h. s.values i inside (or_right (p i) (q i) h);
}

expr_interval : (xs ys : List ℕ) (e : Expr) → AgreeWhere (λ i. expr_decides true i e) xs ys →
    interval e xs ≡ interval e ys
expr_interval xs ys (Number k) s = refl
expr_interval xs ys (Scalar x) s = refl
expr_interval xs ys (LoopName level) s =
    ap exactly (same_index (λ i. level == i) xs ys level s (grind (arith, nat_tests)))
expr_interval xs ys (Cell' a place p e) s = refl
expr_interval xs ys (Unary' op p e) s = ap (interval_unary op) (expr_interval xs ys e s)
expr_interval xs ys (Binary' op p e q f) s =
    ap₂ (interval_binary op)
    (expr_interval xs ys e (first_test (λ i. expr_decides true i e) (λ i. expr_decides true i f) xs ys s))
    (expr_interval xs ys f (second_test (λ i. expr_decides true i e) (λ i. expr_decides true i f) xs ys s))
expr_interval xs ys (And' p e q f) s =
    ap₂
    (λ x y. known (is_known_nonzero x && is_known_nonzero y) (is_known_zero x || is_known_zero y))
    (expr_interval xs ys e (first_test (λ i. expr_decides true i e) (λ i. expr_decides true i f) xs ys s))
    (expr_interval xs ys f (second_test (λ i. expr_decides true i e) (λ i. expr_decides true i f) xs ys s))
expr_interval xs ys (Or' p e q f) s =
    ap₂
    (λ x y. known (is_known_nonzero x || is_known_nonzero y) (is_known_zero x && is_known_zero y))
    (expr_interval xs ys e (first_test (λ i. expr_decides true i e) (λ i. expr_decides true i f) xs ys s))
    (expr_interval xs ys f (second_test (λ i. expr_decides true i e) (λ i. expr_decides true i f) xs ys s))
expr_interval xs ys (Shift' op p e k) s = ap (λ i. interval_shift op i k.count) (expr_interval xs ys e s)
expr_interval xs ys (Divide' op p e k) s = ap (λ i. interval_divide op i k.value) (expr_interval xs ys e s)

pub expr_alike : (xs ys : List ℕ) (certain d : Bool) (e : Expr) → AgreeWhere (λ i. expr_decides d i e) xs ys →
    expr_touches e xs certain ≡ expr_touches e ys certain
expr_alike xs ys certain d (Number k) s = refl
expr_alike xs ys certain d (Scalar x) s = refl
expr_alike xs ys certain d (LoopName level) s = refl
expr_alike xs ys certain d (Cell' a place p e) s =
    ap₂ (λ ts i. ts ++ record {
      array = a;
      cells = i;
      is_write = false;
      certain = certain;
      combines = None;
      place = place;
    } ∷ [])
    (expr_alike xs ys certain true e s) (expr_interval xs ys e s)
expr_alike xs ys certain d (Unary' op p e) s = expr_alike xs ys certain d e s
expr_alike xs ys certain d (Binary' op p e q f) s =
    ap₂ (λ (us vs : List Touch). us ++ vs)
    (expr_alike xs ys certain d e (first_test (λ i. expr_decides d i e) (λ i. expr_decides d i f) xs ys s))
    (expr_alike xs ys certain d f (second_test (λ i. expr_decides d i e) (λ i. expr_decides d i f) xs ys s))
expr_alike xs ys certain d (And' p e q f) s =
    ap₂ (λ (us vs : List Touch). us ++ vs)
    (expr_alike xs ys certain d e (first_test (λ i. expr_decides d i e) (λ i. expr_decides d i f) xs ys s))
    (expr_alike xs ys certain d f (second_test (λ i. expr_decides d i e) (λ i. expr_decides d i f) xs ys s))
expr_alike xs ys certain d (Or' p e q f) s =
    ap₂ (λ (us vs : List Touch). us ++ vs)
    (expr_alike xs ys certain d e (first_test (λ i. expr_decides d i e) (λ i. expr_decides d i f) xs ys s))
    (expr_alike xs ys certain d f (second_test (λ i. expr_decides d i e) (λ i. expr_decides d i f) xs ys s))
expr_alike xs ys certain d (Shift' op p e k) s = expr_alike xs ys certain d e s
expr_alike xs ys certain d (Divide' op p e k) s = expr_alike xs ys certain d e s

pub source_alike : (xs ys : List ℕ) (certain : Bool) (v : Source) → AgreeWhere (λ i. source_decides i v) xs ys →
    source_touches v xs certain ≡ source_touches v ys certain
source_alike xs ys certain (Value e) s = expr_alike xs ys certain false e s
source_alike xs ys certain Read s = refl

pub turns_alike : (k v step : ℕ) (f g : ℕ → List Touch) → ((x : ℕ) → f x ≡ g x) →
    turns_touch k v step f ≡ turns_touch k v step g
turns_alike zero v step f g h = refl
turns_alike (suc k) v step f g h = ap₂ (λ (us vs : List Touch). us ++ vs) (h v) (turns_alike k (v + step) step f g h)

mutual
  pub stmt_alike : (xs ys : List ℕ) (certain : Bool) (st : Stmt) → AgreeWhere (λ i. stmt_decides i st) xs ys →
      stmt_touches st xs certain ≡ stmt_touches st ys certain
  stmt_alike xs ys certain (Declare x v) s = source_alike xs ys certain v s
  stmt_alike xs ys certain (Assign x v) s = source_alike xs ys certain v s
  stmt_alike xs ys certain (Store a place e v) s =
      let subscript = first_test (λ i. expr_decides true i e) (λ i. source_decides i v) xs ys s in
      let source = second_test (λ i. expr_decides true i e) (λ i. source_decides i v) xs ys s in
      rw (
        expr_alike xs ys certain true e subscript,
        source_alike xs ys certain v source,
        expr_interval xs ys e subscript,
      ) refl
  stmt_alike xs ys certain (Combine op a place e v) s =
      let subscript = first_test (λ i. expr_decides true i e) (λ i. expr_decides false i v) xs ys s in
      let source = second_test (λ i. expr_decides true i e) (λ i. expr_decides false i v) xs ys s in
      rw (
        expr_alike xs ys certain true e subscript,
        expr_alike xs ys certain false v source,
        expr_interval xs ys e subscript,
      ) refl
  stmt_alike xs ys certain (Print e) s = expr_alike xs ys certain false e s
  stmt_alike xs ys certain (Block' shape all) s = row_alike xs ys certain all s
  stmt_alike xs ys certain (Loop' b shape all) s =
      turns_alike (turns_of b) b.first b.step (λ v. row_touches all (xs ++ v ∷ []) certain)
      (λ v. row_touches all (ys ++ v ∷ []) certain)
      (λ v. row_alike (xs ++ v ∷ []) (ys ++ v ∷ []) certain all (same_push (λ i. row_decides i all) xs ys v s))
  stmt_alike xs ys certain (If' c shape all shape' all') s =
      let condition = first_test (λ i. expr_decides true i c) (λ i. row_decides i all || row_decides i all') xs ys s in
      let branches = second_test (λ i. expr_decides true i c) (λ i. row_decides i all || row_decides i all') xs ys s in
      let one = first_test (λ i. row_decides i all) (λ i. row_decides i all') xs ys branches in
      let two = second_test (λ i. row_decides i all) (λ i. row_decides i all') xs ys branches in
      let i = interval c ys in
      rw (
        expr_alike xs ys certain true c condition,
        expr_interval xs ys c condition,
        row_alike xs ys (certain && is_known_nonzero i) all one,
        row_alike xs ys (certain && is_known_zero i) all' two,
      ) refl

  pub row_alike : {m : _} (xs ys : List ℕ) (certain : Bool) (row : Row_of-Stmt m) →
      AgreeWhere (λ i. row_decides i row) xs ys →
      row_touches row xs certain ≡ row_touches row ys certain
  row_alike xs ys certain end_of-Stmt s = refl
  row_alike xs ys certain (more_of-Stmt first rest) s =
      ap₂ (λ (us vs : List Touch). us ++ vs)
      (stmt_alike xs ys certain first (first_test (λ i. stmt_decides i first) (λ i. row_decides i rest) xs ys s))
      (row_alike xs ys certain rest (second_test (λ i. stmt_decides i first) (λ i. row_decides i rest) xs ys s))

-- a list of statements
pub list_alike : (xs ys : List ℕ) (certain : Bool) (all : List Stmt) → AgreeWhere (λ i. list_decides i all) xs ys →
    flat_map (λ st. stmt_touches st xs certain) all ≡ flat_map (λ st. stmt_touches st ys certain) all
list_alike xs ys certain [] s = refl
list_alike xs ys certain (first ∷ rest) s =
    ap₂ (λ (us vs : List Touch). us ++ vs)
    (stmt_alike xs ys certain first (first_test (λ i. stmt_decides i first) (λ i. list_decides i rest) xs ys s))
    (list_alike xs ys certain rest (second_test (λ i. stmt_decides i first) (λ i. list_decides i rest) xs ys s))
