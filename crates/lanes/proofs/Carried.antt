-- A turn that carries a scalar on, beside the turn that assigns it what is added.
use Rattle.std.proofs.Common.{◌≡◌, ℕ, ◌==◌, Bool, true, false, List, [], ◌∷◌, ◌++◌, Option, Some, None, refl, sym, ap, ap₂, ◌∙◌, if◌then◌else◌, eqb-true, arith}
use Rattle.std.specs.Prelude.{zero, suc, not, ◌&&◌, ◌||◌, option_and_then, option_map}
use Rattle.std.proofs.lemmas.Bool.{and_parts, false≢true}
use Rattle.std.proofs.lemmas.Bool.Decides.{nat_tests}
use mathlib.Core.Former.{Count}
use mathlib.Core.Path.{fun_ext}
use Rattle.base.specs.declared.tree.ArrayId.{ArrayId}
use Rattle.base.specs.declared.tree.ScalarId.{ScalarId}
use Rattle.base.specs.declared.tree.Expr.{Expr}
use Rattle.base.specs.declared.tree.Source.TheVariants.{Value, Read}
use Rattle.base.specs.declared.tree.Stmt.{Stmt, Row_of-Stmt}
use Rattle.base.specs.declared.tree.Stmt.TheVariants.{Declare, Assign, Store, Combine, Print, Block', Loop', If'}
use Rattle.base.specs.Memory.{View, Scalars}
use Rattle.base.specs.Value.{on_both, value}
use Rattle.base.specs.Meaning.{Run, names_in, set_scalar, assigned, stored, choose, run_stmt, run_row, run_list}
use Rattle.lanes.specs.Apart.{Set, Kept, Places, NamesPlaces, is_apart, stmt_apart, row_apart, loose_after, loose_body, body_apart, assigned_by, row_assigned, assigned_in}
use Rattle.lanes.specs.Sums.{CarriesOn, ended}
use Rattle.lanes.proofs.Branches.{items, AllOf, OfBranches, of_body, run_items, apart_items, assigned_items}
use Rattle.lanes.proofs.Deltas.{set_kept, stmt_kept, body_kept}
use Rattle.lanes.proofs.Alike.{Alike, value_same}

pub same_is : (x : ℕ) → (x == x) ≡ true
same_is x = grind (arith, nat_tests)

-- a run with another number in a scalar
abbrev pub over : ℕ → ℕ → Run → Run
over x a t = record t { scalars = set_scalar x a t.scalars }

pub set_twice : (x a b : ℕ) (f : Scalars) → set_scalar x b (set_scalar x a f) ≡ set_scalar x b f
set_twice x a b f = fun_ext (λ (y : ℕ). go y (x == y))
  where
    go : (y : ℕ) (q : Bool) → (if q then b else (if q then a else f y)) ≡ (if q then b else f y)
    go y true = refl
    go y false = refl

pub set_own : (x a : ℕ) (f : Scalars) → set_scalar x a f x ≡ a
set_own x a f = ap (λ q. if q then a else f x) (same_is x)

-- a scalar takes the number that it has
pub over_own : (x : ℕ) (t : Run) → over x (t.scalars x) t ≡ t
over_own x t = ap (λ (f : Scalars). record t { scalars = f }) (fun_ext (λ (y : ℕ). go y (x == y) refl))
  where
    go : (y : ℕ) (q : Bool) → (x == y) ≡ q → (if q then t.scalars x else t.scalars y) ≡ t.scalars y
    go y true e = ap t.scalars (eqb-true x y e)
    go y false e = refl

set_apart : (x y a n : ℕ) (f : Scalars) → (y == x) ≡ false →
    set_scalar y n (set_scalar x a f) ≡ set_scalar x a (set_scalar y n f)
set_apart x y a n f h = fun_ext (λ (z : ℕ). go z (y == z) (x == z) refl refl)
  where
    go : (z : ℕ) (p q : Bool) → (y == z) ≡ p → (x == z) ≡ q →
        (if p then n else (if q then a else f z)) ≡ (if q then a else (if p then n else f z))
    go z true true i j =
        absurd (false≢true (sym h ∙ ap (λ w. w == x) (eqb-true y z i) ∙ ap (λ w. z == w) (eqb-true x z j) ∙ same_is z))
    go z true false i j = refl
    go z false true i j = refl
    go z false false i j = refl

neither : (p q : Bool) → (p || q) ≡ false → (p ≡ false) × (q ≡ false)
neither false q h = (refl, h)
neither true q h = absurd (false≢true (sym h))

-- a scalar that a statement does not assign stays loose
stays_loose : (loose : Set) (s : Stmt) (x : ℕ) → assigned_by s x ≡ false → loose x ≡ true →
    loose_after loose s x ≡ true
stays_loose loose (Declare y v) x h l = ap₂ (λ p q. not p && q) h l
stays_loose loose (Assign y v) x h l = ap₂ (λ p q. not p && q) h l
stays_loose loose (Store a place e v) x h l = l
stays_loose loose (Combine op c place e v) x h l = l
stays_loose loose (Print e) x h l = l
stays_loose loose (Block' shape all) x h l = l
stays_loose loose (Loop' b shape all) x h l = l
stays_loose loose (If' c shape all shape' all') x h l = l

module _ (taken own : Set) (view : View) (here : Expr → Bool) (pl : Places) (loops : List ℕ) (before : Scalars)
    (named : NamesPlaces here pl own before loops) (v x : ℕ) (its : own x ≡ true) where
  alike_over : (loose : Set) (a : ℕ) (t : Run) → loose x ≡ true → Alike taken view loose (λ i. i ≡ pl.place v) (over x a t) t
  alike_over loose a t l =
      record { scalars = λ y k. go y (x == y) refl k; others = λ c k. refl; mine = λ c k. refl }
    where
      go : (y : ℕ) (q : Bool) → (x == y) ≡ q → loose y ≡ false → (if q then a else t.scalars y) ≡ t.scalars y
      go y true e k = absurd (false≢true (sym k ∙ ap loose (sym (eqb-true x y e)) ∙ l))
      go y false e k = refl

  -- an expression that does not name the scalar
  pub value_over : (loose : Set) (a : ℕ) (t : Run) (e : Expr) → Kept own before t.scalars → loose x ≡ true → is_apart taken loose here e ≡ true →
      value e (names_in view (loops ++ v ∷ []) (over x a t)) ≡ value e (names_in view (loops ++ v ∷ []) t)
  value_over loose a t e kept l k =
      value_same taken view here pl loops own before named v loose (over x a t) t (alike_over loose a t l) kept e k

  set_over : (a : ℕ) (t : Run) (y : ℕ) (o : Option ℕ) → (y == x) ≡ false →
      assigned y (option_map (λ n. (n, over x a t)) o) ≡ option_map (over x a) (assigned y (option_map (λ n. (n, t)) o))
  set_over a t y None h = refl
  set_over a t y (Some n) h = ap (λ (f : Scalars). Some (record t { scalars = f })) (set_apart x y a n t.scalars h)

  store_over : (a : ℕ) (t : Run) (r : ArrayId) (oi ov : Option ℕ) →
      option_and_then (λ i. stored view (record { array = r; index = i }) (option_map (λ n. (n, over x a t)) ov)) oi
      ≡ option_map (over x a) (option_and_then (λ i. stored view (record { array = r; index = i }) (option_map (λ n. (n, t)) ov)) oi)
  store_over a t r None ov = refl
  store_over a t r (Some i) None = refl
  store_over a t r (Some i) (Some n) = go (view (record { array = r; index = i }))
    where
      go : (there : Option ℕ) →
          option_map (λ old. record (over x a t) { stores = t.stores ++ (record { array = r; index = i }, n) ∷ [] }) there
          ≡ option_map (over x a) (option_map (λ old. record t { stores = t.stores ++ (record { array = r; index = i }, n) ∷ [] }) there)
      go None = refl
      go (Some old) = refl

  assigned_over : (loose : Set) (a : ℕ) (t : Run) (y : ScalarId) (e : Expr) → Kept own before t.scalars → (own y.0 && is_apart taken loose here e) ≡ true →
      (y.0 == x) ≡ false → loose x ≡ true →
      assigned y.0 (option_map (λ n. (n, over x a t)) (value e (names_in view (loops ++ v ∷ []) (over x a t))))
      ≡ option_map (over x a) (assigned y.0 (option_map (λ n. (n, t)) (value e (names_in view (loops ++ v ∷ []) t))))
  assigned_over loose a t y e kept ok m l =
      ap (λ o. assigned y.0 (option_map (λ n. (n, over x a t)) o))
      (value_over loose a t e kept l (and_parts (own y.0) (is_apart taken loose here e) ok).1)
      ∙ set_over a t y.0 (value e (names_in view (loops ++ v ∷ []) t)) m

  choice_over : (a : ℕ) (t : Run) (o p : Option ℕ) (f g : Run → Option Run) → o ≡ p →
      f (over x a t) ≡ option_map (over x a) (f t) → g (over x a t) ≡ option_map (over x a) (g t) →
      choose o f g (over x a t) ≡ option_map (over x a) (choose p f g t)
  choice_over a t o p f g e h k = ap (λ q. choose q f g (over x a t)) e ∙ go p
    where
      go : (p : Option ℕ) → choose p f g (over x a t) ≡ option_map (over x a) (choose p f g t)
      go None = refl
      go (Some zero) = k
      go (Some (suc n)) = h

  -- a statement that does not assign the scalar does the same, whatever its number is
  abbrev IsOver : Stmt → Type 0
  IsOver first =
      (loose : Set) (a : ℕ) (t : Run) → Kept own before t.scalars → stmt_apart taken own loose here first ≡ true →
      assigned_by first x ≡ false → loose x ≡ true →
      run_stmt first view (loops ++ v ∷ []) (over x a t) ≡ option_map (over x a) (run_stmt first view (loops ++ v ∷ []) t)

  all_over : (front : List Stmt) → AllOf IsOver front → (loose : Set) (a : ℕ) (t : Run) → Kept own before t.scalars →
      body_apart taken own loose here front ≡ true → assigned_in front x ≡ false → loose x ≡ true →
      run_list front view (loops ++ v ∷ []) (over x a t) ≡ option_map (over x a) (run_list front view (loops ++ v ∷ []) t)
  all_over [] each loose a t kept ok m l = refl
  all_over (first ∷ rest) each loose a t kept ok m l =
      let k = and_parts (stmt_apart taken own loose here first)
      (body_apart taken own (loose_after loose first) here rest) ok in
      let n = neither (assigned_by first x) (assigned_in rest x) m in
      ap (option_and_then (run_list rest view (loops ++ v ∷ []))) (each.0 loose a t kept k.0 n.0 l)
      ∙ go (λ u is. all_over rest each.1 (loose_after loose first) a u
      (stmt_kept taken own view here pl loops before named v loose t u first kept k.0 is) k.1 n.1
      (stays_loose loose first x n.0 l))
      (run_stmt first view (loops ++ v ∷ []) t) refl
    where
      go : ((u : Run) → run_stmt first view (loops ++ v ∷ []) t ≡ Some u → run_list rest view (loops ++ v ∷ []) (over x a u) ≡ option_map (over x a) (run_list rest view (loops ++ v ∷ []) u)) →
          (o : Option Run) → run_stmt first view (loops ++ v ∷ []) t ≡ o →
          option_and_then (run_list rest view (loops ++ v ∷ [])) (option_map (over x a) o)
          ≡ option_map (over x a) (option_and_then (run_list rest view (loops ++ v ∷ [])) o)
      go next None is = refl
      go next (Some u) is = next u is

  row_over : (n : Count) (row : Row_of-Stmt n) → AllOf IsOver (items row) → (loose : Set) (a : ℕ) (t : Run) →
      Kept own before t.scalars →
      row_apart taken own loose here row ≡ true → row_assigned row x ≡ false → loose x ≡ true →
      run_row row view (loops ++ v ∷ []) (over x a t) ≡ option_map (over x a) (run_row row view (loops ++ v ∷ []) t)
  row_over n row each loose a t kept ok m l =
      run_items n row view (loops ++ v ∷ []) (over x a t)
      ∙ all_over (items row) each loose a t kept (sym (apart_items n row taken own loose here) ∙ ok)
      (sym (assigned_items n row x) ∙ m) l
      ∙ ap (option_map (over x a)) (sym (run_items n row view (loops ++ v ∷ []) t))

  one_over : (first : Stmt) → OfBranches IsOver first → IsOver first
  one_over (Declare y (Value e)) each loose a t kept ok m l = assigned_over loose a t y e kept ok m l
  one_over (Declare y Read) each loose a t kept ok m l = absurd (false≢true (and_parts (own y.0) false ok).1)
  one_over (Assign y (Value e)) each loose a t kept ok m l = assigned_over loose a t y e kept ok m l
  one_over (Assign y Read) each loose a t kept ok m l = absurd (false≢true (and_parts (own y.0) false ok).1)
  one_over (Store r place e (Value g)) each loose a t kept ok m l =
      let k = and_parts (taken r.0) (here e && is_apart taken loose here g) ok in
      let q = and_parts (here e) (is_apart taken loose here g) k.1 in
      ap₂ (λ oi ov. option_and_then (λ i. stored view (record { array = r; index = i }) (option_map (λ n. (n, over x a t)) ov)) oi)
      (named v e (names_in view (loops ++ v ∷ []) (over x a t)) refl (set_kept own before t.scalars x a its kept) q.0
      ∙ sym (named v e (names_in view (loops ++ v ∷ []) t) refl kept q.0))
      (value_over loose a t g kept l q.1)
      ∙ store_over a t r (value e (names_in view (loops ++ v ∷ []) t)) (value g (names_in view (loops ++ v ∷ []) t))
  one_over (Store r place e Read) each loose a t kept ok m l =
      absurd (false≢true (and_parts (here e) false (and_parts (taken r.0) (here e && false) ok).1).1)
  one_over (Combine op c place e v) each loose a t kept ok m l = absurd (false≢true ok)
  one_over (Print e) each loose a t kept ok m l = absurd (false≢true ok)
  one_over (Block' shape all) each loose a t kept ok m l = absurd (false≢true ok)
  one_over (Loop' b shape all) each loose a t kept ok m l = absurd (false≢true ok)
  one_over (If' c shape all shape' all') each loose a t kept ok m l =
      let k = and_parts (is_apart taken loose here c)
      (row_apart taken own loose here all && row_apart taken own loose here all') ok in
      let q = and_parts (row_apart taken own loose here all) (row_apart taken own loose here all') k.1 in
      let n = neither (row_assigned all x) (row_assigned all' x) m in
      choice_over a t (value c (names_in view (loops ++ v ∷ []) (over x a t)))
      (value c (names_in view (loops ++ v ∷ []) t))
      (run_row all view (loops ++ v ∷ [])) (run_row all' view (loops ++ v ∷ [])) (value_over loose a t c kept l k.0)
      (row_over _ all each.0 loose a t kept q.0 n.0 l) (row_over _ all' each.1 loose a t kept q.1 n.1 l)

  front_over : (loose : Set) (a : ℕ) (t : Run) (front : List Stmt) → Kept own before t.scalars → body_apart taken own loose here front ≡ true →
      assigned_in front x ≡ false → loose x ≡ true →
      run_list front view (loops ++ v ∷ []) (over x a t) ≡ option_map (over x a) (run_list front view (loops ++ v ∷ []) t)
  front_over loose a t front kept ok m l = all_over front (of_body IsOver one_over front) loose a t kept ok m l

and_done : (o : Option Run) → option_and_then (λ s. Some s) o ≡ o
and_done None = refl
and_done (Some s) = refl

-- statements with one behind them
pub run_ended : (front : List Stmt) (last : Stmt) (view : View) (loops : List ℕ) (s : Run) →
    run_list (front ++ last ∷ []) view loops s ≡ option_and_then (run_stmt last view loops) (run_list front view loops s)
run_ended [] last view loops s = and_done (run_stmt last view loops s)
run_ended (first ∷ rest) last view loops s =
    go (λ t. run_ended rest last view loops t) (run_stmt first view loops s)
  where
    go : ((t : Run) → run_list (rest ++ last ∷ []) view loops t
        ≡ option_and_then (run_stmt last view loops) (run_list rest view loops t)) →
        (o : Option Run) → option_and_then (run_list (rest ++ last ∷ []) view loops) o
        ≡ option_and_then (run_stmt last view loops) (option_and_then (run_list rest view loops) o)
    go next None = refl
    go next (Some t) = next t

pub apart_ended : (taken own loose : Set) (here : Expr → Bool) (front : List Stmt) (last : Stmt) →
    body_apart taken own loose here (front ++ last ∷ []) ≡ true →
    (body_apart taken own loose here front ≡ true) × (stmt_apart taken own (loose_body loose front) here last ≡ true)
apart_ended taken own loose here [] last h = (refl, (and_parts (stmt_apart taken own loose here last) true h).0)
apart_ended taken own loose here (first ∷ rest) last h =
    let k = and_parts (stmt_apart taken own loose here first) (body_apart taken own (loose_after loose first) here (rest ++ last ∷ [])) h in
    let r = apart_ended taken own (loose_after loose first) here rest last k.1 in
    (ap₂ (λ p q. p && q) k.0 r.0, r.1)

-- a turn that carries the scalar on
pub turn_over : (taken own : Set) (view : View) (here : Expr → Bool) (pl : Places) (loops : List ℕ) (before : Scalars)
    (named : NamesPlaces here pl own before loops) (v : ℕ) (f : ℕ → ℕ → ℕ) (front : List Stmt) (x : ScalarId) (e c : Expr) →
    CarriesOn f x e c → body_apart taken own own here (ended front x e) ≡ true → loose_body own front x.0 ≡ true →
    assigned_in front x.0 ≡ false → (a : ℕ) (t : Run) → Kept own before t.scalars →
    run_list (ended front x c) view (loops ++ v ∷ []) (over x.0 a t)
    ≡ option_map (λ u. over x.0 (f a (u.scalars x.0)) u) (run_list (ended front x e) view (loops ++ v ∷ []) t)
turn_over taken own view here pl loops before named v f front x e c carries ok loose free a t kept =
    run_ended front (Assign x (Value c)) view (loops ++ v ∷ []) (over x.0 a t)
    ∙ ap (option_and_then (run_stmt (Assign x (Value c)) view (loops ++ v ∷ [])))
    (front_over taken own view here pl loops before named v x.0 its own a t front kept parts.0 free its)
    ∙ go (run_list front view (loops ++ v ∷ []) t) refl
    ∙ sym (ap (option_map (λ u. over x.0 (f a (u.scalars x.0)) u)) (run_ended front (Assign x (Value e)) view (loops ++ v ∷ []) t))
  where
    parts : (body_apart taken own own here front ≡ true)
        × (stmt_apart taken own (loose_body own front) here (Assign x (Value e)) ≡ true)
    parts = apart_ended taken own own here front (Assign x (Value e)) ok

    its : own x.0 ≡ true
    its = (and_parts (own x.0) (is_apart taken (loose_body own front) here e) parts.1).0

    carried : (u : Run) (o : Option ℕ) →
        assigned x.0 (option_map (λ n. (n, over x.0 a u)) (on_both f (Some a) o))
        ≡ option_map (λ (w : Run). over x.0 (f a (w.scalars x.0)) w) (assigned x.0 (option_map (λ n. (n, u)) o))
    carried u None = refl
    carried u (Some n) =
        ap (λ (g : Scalars). Some (record u { scalars = g }))
        (set_twice x.0 a (f a n) u.scalars
        ∙ sym (set_twice x.0 n (f a n) u.scalars)
        ∙ ap (λ m. set_scalar x.0 (f a m) (set_scalar x.0 n u.scalars)) (sym (set_own x.0 n u.scalars)))

    now : (u : Run) → Kept own before u.scalars → value c (names_in view (loops ++ v ∷ []) (over x.0 a u))
        ≡ on_both f (Some a) (value e (names_in view (loops ++ v ∷ []) u))
    now u ku =
        carries (names_in view (loops ++ v ∷ []) (over x.0 a u))
        ∙ ap₂ (λ m o. on_both f (Some m) o) (set_own x.0 a u.scalars)
        (value_over taken own view here pl loops before named v x.0 its (loose_body own front) a u e ku loose
        (and_parts (own x.0) (is_apart taken (loose_body own front) here e) parts.1).1)

    go : (o : Option Run) → run_list front view (loops ++ v ∷ []) t ≡ o →
        option_and_then (run_stmt (Assign x (Value c)) view (loops ++ v ∷ [])) (option_map (over x.0 a) o)
        ≡ option_map (λ (w : Run). over x.0 (f a (w.scalars x.0)) w) (option_and_then (run_stmt (Assign x (Value e)) view (loops ++ v ∷ [])) o)
    go None is = refl
    go (Some u) is =
        ap (λ o. assigned x.0 (option_map (λ n. (n, over x.0 a u)) o)) (now u
        (body_kept taken own view here pl loops before named v own t u front kept parts.0 is))
        ∙ carried u (value e (names_in view (loops ++ v ∷ []) u))
