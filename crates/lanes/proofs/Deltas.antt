-- What a turn adds: its run is that, and it lies in the turn's own cells and scalars.
use Rattle.std.proofs.Common.{◌≡◌, ℕ, ◌==◌, Bool, true, false, List, [], ◌∷◌, ◌++◌, length, Option, Some, None, refl, sym, ap, ap₂, ◌∙◌, arith, subst, if◌then◌else◌, eqb-true, append_assoc, append-nil}
use Rattle.std.specs.Prelude.{zero, suc, ◌&&◌, option_and_then, option_map, slice_index}
use mathlib.Core.Former.{Count}
use Rattle.std.proofs.lemmas.Bool.{and_parts, false≢true}
use Rattle.std.proofs.lemmas.Bool.Decides.{nat_tests}
use Rattle.std.proofs.lemmas.Option.{same_Some}
use Rattle.base.specs.declared.item.Cell.{Cell}
use Rattle.base.specs.declared.tree.Expr.{Expr}
use Rattle.base.specs.declared.tree.Expr.TheVariants.{Number, Scalar, LoopName, Cell', Unary', Binary', And', Or', Shift', Divide'}
use Rattle.base.specs.declared.tree.ArrayId.{ArrayId}
use Rattle.base.specs.declared.tree.Source.TheVariants.{Value, Read}
use Rattle.base.specs.declared.tree.Stmt.{Stmt, Row_of-Stmt}
use Rattle.base.specs.declared.tree.Stmt.TheVariants.{Declare, Assign, Store, Combine, Print, Block', Loop', If'}
use Rattle.base.specs.Memory.{View, Scalars, Stores, same_cell, last_stored}
use Rattle.base.specs.Value.{Names, value}
use Rattle.base.specs.Meaning.{Run, names_in, set_scalar, assigned, stored, choose, run_stmt, run_row, run_list}
use Rattle.lanes.specs.Apart.{Set, Kept, Places, NamesPlaces, HavePlaces, own_value_places, is_turn, is_apart, source_apart, stmt_apart, row_apart, loose_after, body_apart, Delta, apply, idle, join, own_value, setting, storing, store_delta, chosen_delta, stmt_delta, row_delta, join_all, body_delta}
use Rattle.lanes.proofs.Branches.{items, AllOf, OfBranches, of_stmt, of_body, run_items, apart_items, delta_items}

pub apply_idle : (s : Run) → apply s idle ≡ s
apply_idle s = ap (λ (xs : Stores). record s { stores = xs }) (append-nil s.stores)

pub apply_join : (s : Run) (d e : Delta) → apply (apply s d) e ≡ apply s (join d e)
apply_join s d e =
    ap (λ (xs : Stores). record s { stores = xs; scalars = e.set (d.set s.scalars) }) (append_assoc s.stores d.stores e.stores)

pub apply_all : (s : Run) (d : Delta) (o : Option Delta) →
    option_map (apply (apply s d)) o ≡ option_map (apply s) (option_map (join d) o)
apply_all s d None = refl
apply_all s d (Some e) = ap Some (apply_join s d e)

set_is : (s : Run) (x : ℕ) (o : Option ℕ) →
    assigned x (option_map (λ v. (v, s)) o) ≡ option_map (apply s) (option_map (setting x) o)
set_is s x None = refl
set_is s x (Some n) = ap (λ (xs : Stores). Some (record s { stores = xs; scalars = set_scalar x n s.scalars })) (sym (append-nil s.stores))

store_there : (s : Run) (c : Cell) (n : ℕ) (there : Option ℕ) →
    option_map (λ old. record s { stores = s.stores ++ (c, n) ∷ [] }) there
    ≡ option_map (apply s) (option_map (λ old. storing c n) there)
store_there s c n None = refl
store_there s c n (Some old) = refl

store_is : (view : View) (s : Run) (a : ArrayId) (oi ov : Option ℕ) →
    option_and_then (λ i. stored view (record { array = a; index = i }) (option_map (λ v. (v, s)) ov)) oi
    ≡ option_map (apply s) (option_and_then (λ i. store_delta view (record { array = a; index = i }) ov) oi)
store_is view s a None ov = refl
store_is view s a (Some i) None = refl
store_is view s a (Some i) (Some n) = store_there s (record { array = a; index = i }) n (view (record { array = a; index = i }))

-- the deltas of a choice
choice_is : (s : Run) (o : Option ℕ) (f g : Run → Option Run) (d e : Option Delta) →
    f s ≡ option_map (apply s) d → g s ≡ option_map (apply s) e →
    choose o f g s ≡ option_map (apply s) (chosen_delta o d e)
choice_is s None f g d e h k = refl
choice_is s (Some zero) f g d e h k = k
choice_is s (Some (suc n)) f g d e h k = h

module _ (taken own : Set) (view : View) where
  rest_is : (s : Run) (f : Run → Option Run) (g : Delta → Option Delta) (o : Option Delta) →
      ((d : Delta) → f (apply s d) ≡ option_map (apply (apply s d)) (g d)) →
      option_and_then f (option_map (apply s) o) ≡ option_map (apply s) (join_all o g)
  rest_is s f g None h = refl
  rest_is s f g (Some d) h = h d ∙ apply_all s d (g d)

  module _ (here : Expr → Bool) (loops : List ℕ) where
    -- the run of a statement is its delta
    abbrev IsDelta : Stmt → Type 0
    IsDelta first =
        (loose : Set) (s : Run) → stmt_apart taken own loose here first ≡ true →
        run_stmt first view loops s ≡ option_map (apply s) (stmt_delta first view loops s)

    all_are : (body : List Stmt) → AllOf IsDelta body → (loose : Set) (s : Run) →
        body_apart taken own loose here body ≡ true →
        run_list body view loops s ≡ option_map (apply s) (body_delta body view loops s)
    all_are [] each loose s h = ap Some (sym (apply_idle s))
    all_are (first ∷ rest) each loose s h =
        let k = and_parts (stmt_apart taken own loose here first)
        (body_apart taken own (loose_after loose first) here rest) h in
        ap (option_and_then (run_list rest view loops)) (each.0 loose s k.0)
        ∙ rest_is s (run_list rest view loops) (λ d. body_delta rest view loops (apply s d))
        (stmt_delta first view loops s)
        (λ d. all_are rest each.1 (loose_after loose first) (apply s d) k.1)

    row_is : (n : Count) (row : Row_of-Stmt n) → AllOf IsDelta (items row) → (loose : Set) (s : Run) →
        row_apart taken own loose here row ≡ true →
        run_row row view loops s ≡ option_map (apply s) (row_delta row view loops s)
    row_is n row each loose s h =
        run_items n row view loops s
        ∙ all_are (items row) each loose s (sym (apart_items n row taken own loose here) ∙ h)
        ∙ ap (option_map (apply s)) (sym (delta_items n row view loops s))

    one_is : (first : Stmt) → OfBranches IsDelta first → IsDelta first
    one_is (Declare x (Value e)) each loose s h = set_is s x.0 (value e (names_in view loops s))
    one_is (Declare x Read) each loose s h = absurd (false≢true (and_parts (own x.0) false h).1)
    one_is (Assign x (Value e)) each loose s h = set_is s x.0 (value e (names_in view loops s))
    one_is (Assign x Read) each loose s h = absurd (false≢true (and_parts (own x.0) false h).1)
    one_is (Store a place e (Value f)) each loose s h =
        store_is view s a (value e (names_in view loops s)) (value f (names_in view loops s))
    one_is (Store a place e Read) each loose s h =
        absurd (false≢true (and_parts (here e) false (and_parts (taken a.0) (here e && false) h).1).1)
    one_is (Combine op c place e v) each loose s h = absurd (false≢true h)
    one_is (Print e) each loose s h = absurd (false≢true h)
    one_is (Block' shape all) each loose s h = absurd (false≢true h)
    one_is (Loop' b shape all) each loose s h = absurd (false≢true h)
    one_is (If' c shape all shape' all') each loose s h =
        let k = and_parts (is_apart taken loose here c)
        (row_apart taken own loose here all && row_apart taken own loose here all') h in
        let l = and_parts (row_apart taken own loose here all) (row_apart taken own loose here all') k.1 in
        choice_is s (value c (names_in view loops s)) (run_row all view loops) (run_row all' view loops)
        (row_delta all view loops s) (row_delta all' view loops s)
        (row_is _ all each.0 loose s l.0) (row_is _ all' each.1 loose s l.1)

  stmt_is : (loose : Set) (here : Expr → Bool) (loops : List ℕ) (s : Run) (first : Stmt) →
      stmt_apart taken own loose here first ≡ true →
      run_stmt first view loops s ≡ option_map (apply s) (stmt_delta first view loops s)
  stmt_is loose here loops s first h = of_stmt (IsDelta here loops) (one_is here loops) first loose s h

  pub body_is : (loose : Set) (here : Expr → Bool) (loops : List ℕ) (s : Run) (body : List Stmt) →
      body_apart taken own loose here body ≡ true →
      run_list body view loops s ≡ option_map (apply s) (body_delta body view loops s)
  body_is loose here loops s body h =
      all_are here loops body (of_body (IsDelta here loops) (one_is here loops) body) loose s h

-- later stores that leave a cell alone
pub last_over : (xs ys : Stores) (c : Cell) → last_stored ys c ≡ None → last_stored (xs ++ ys) c ≡ last_stored xs c
last_over [] ys c h = h
last_over (x ∷ xs) ys c h =
    ap (λ o. elim o as (λ q. Option ℕ) [ Some v ↦ Some v | None ↦ if same_cell x.0 c then Some x.1 else None ])
    (last_over xs ys c h)

at_seam : (xs : List ℕ) (v : ℕ) → slice_index (xs ++ v ∷ []) (length xs) ≡ v
at_seam [] v = refl
at_seam (x ∷ xs) v = at_seam xs v

-- the loop's own value
pub turn_value : (loops : List ℕ) (v : ℕ) (e : Expr) (names : Names) → names.loops ≡ loops ++ v ∷ [] →
    is_turn (length loops) e ≡ true → value e names ≡ Some v
turn_value loops v (LoopName l) names is h =
    ap Some (ap₂ slice_index is (eqb-true l (length loops) h) ∙ at_seam loops v)
turn_value loops v (Number n) names is h = absurd (false≢true h)
turn_value loops v (Scalar x) names is h = absurd (false≢true h)
turn_value loops v (Cell' a place p e) names is h = absurd (false≢true h)
turn_value loops v (Unary' op p e) names is h = absurd (false≢true h)
turn_value loops v (Binary' op p e q f) names is h = absurd (false≢true h)
turn_value loops v (And' p e q f) names is h = absurd (false≢true h)
turn_value loops v (Or' p e q f) names is h = absurd (false≢true h)
turn_value loops v (Shift' op p e n) names is h = absurd (false≢true h)
turn_value loops v (Divide' op p e n) names is h = absurd (false≢true h)

-- a scalar of the turn takes a number
pub set_kept : (own : Set) (before f : Scalars) (x n : ℕ) → own x ≡ true → Kept own before f →
    Kept own before (set_scalar x n f)
set_kept own before f x n its kept y o = go (x == y) refl
  where
    go : (q : Bool) → (x == y) ≡ q → (if q then n else f y) ≡ before y
    go true e = absurd (false≢true (sym o ∙ ap own (sym (eqb-true x y e)) ∙ its))
    go false e = kept y o

-- so the loop's own value names the place of each turn
pub turn_names : (own : Set) (before : Scalars) (loops : List ℕ) →
    NamesPlaces (is_turn (length loops)) own_value_places own before loops
turn_names own before loops v e names is kept h = turn_value loops v e names is h

pub turn_places : (inside : ℕ → Bool) → HavePlaces inside own_value_places
turn_places inside = record { back = λ v h. refl; forth = λ i h. refl }

module _ (taken own : Set) (view : View) where
  -- the cells of a turn, by its place
  abbrev pub is_mine : ℕ → Cell → Bool
  is_mine v c = taken c.array.0 && (c.index == v)

  -- a delta of a turn's own cells and scalars
  pub record Within (v : ℕ) (d : Delta) : Type 0 where
    pub sets : (f : Scalars) (x : ℕ) → own x ≡ false → d.set f x ≡ f x
    pub clear : (c : Cell) → is_mine v c ≡ false → last_stored d.stores c ≡ None

  abbrev pub AllWithin : ℕ → Option Delta → Type 0
  AllWithin v None = Unit {0}
  AllWithin v (Some d) = Within v d

  idle_within : (v : ℕ) → Within v idle
  idle_within v = record { sets = λ f x h. refl; clear = λ c h. refl }

  join_within : (v : ℕ) (d e : Delta) → Within v d → Within v e → Within v (join d e)
  join_within v d e h k =
      record {
        sets = λ f x o. k.sets (d.set f) x o ∙ h.sets f x o;
        clear = λ c o. last_over d.stores e.stores c (k.clear c o) ∙ h.clear c o;
      }

  all_join : (v : ℕ) (d : Delta) (o : Option Delta) → Within v d → AllWithin v o → AllWithin v (option_map (join d) o)
  all_join v d None h k = tt
  all_join v d (Some e) h k = join_within v d e h k

  all_then : (v : ℕ) (o : Option Delta) (f : Delta → Option Delta) → AllWithin v o → ((d : Delta) → Within v d → AllWithin v (f d)) →
      AllWithin v (join_all o f)
  all_then v None f h k = tt
  all_then v (Some d) f h k = all_join v d (f d) h (k d h)

  set_within : (v x : ℕ) (o : Option ℕ) → own x ≡ true → AllWithin v (option_map (setting x) o)
  set_within v x None h = tt
  set_within v x (Some n) h = record { sets = λ f y k. go f y k (x == y) refl; clear = λ c k. refl }
    where
      go : (f : Scalars) (y : ℕ) → own y ≡ false → (b : Bool) → (x == y) ≡ b → (if b then n else f y) ≡ f y
      go f y k true e = absurd (false≢true (sym k ∙ ap own (sym (eqb-true x y e)) ∙ h))
      go f y k false e = refl

  one_within : (v : ℕ) (c : Cell) (n : ℕ) (there : Option ℕ) → taken c.array.0 ≡ true → c.index ≡ v →
      AllWithin v (option_map (λ old. storing c n) there)
  one_within v c n None h k = tt
  one_within v c n (Some old) h k = record { sets = λ f x o. refl; clear = λ d o. go d o (same_cell c d) refl }
    where
      go : (d : Cell) → is_mine v d ≡ false → (b : Bool) → same_cell c d ≡ b → (if b then Some n else None) ≡ None
      go d o false e = refl
      go d o true e =
          let p = and_parts (c.array.0 == d.array.0) (c.index == d.index) e in
          let a = eqb-true c.array.0 d.array.0 p.0 in
          let i = eqb-true c.index d.index p.1 in
          let here : taken d.array.0 ≡ true = ap taken (sym a) ∙ h in
          let at : (d.index == v) ≡ true = let j : d.index ≡ v = sym i ∙ k in grind (arith, nat_tests) in
          absurd (false≢true (sym o ∙ ap₂ (λ x y. x && y) here at))

  store_within : (v : ℕ) (a : ArrayId) (oi ov : Option ℕ) → taken a.0 ≡ true → oi ≡ Some v →
      AllWithin v (option_and_then (λ i. store_delta view (record { array = a; index = i }) ov) oi)
  store_within v a oi ov h k =
      subst (λ o. AllWithin v (option_and_then (λ i. store_delta view (record { array = a; index = i }) ov) o)) (sym k) (go ov)
    where
      go : (ov : Option ℕ) → AllWithin v (store_delta view (record { array = a; index = v }) ov)
      go None = tt
      go (Some n) = one_within v (record { array = a; index = v }) n (view (record { array = a; index = v })) h refl

  module _ (here : Expr → Bool) (pl : Places) (loops : List ℕ) (before : Scalars)
      (named : NamesPlaces here pl own before loops) (v : ℕ) where
    -- what a statement adds is that of the turn
    abbrev IsWithin : Stmt → Type 0
    IsWithin first =
        (loose : Set) (s : Run) → Kept own before s.scalars → stmt_apart taken own loose here first ≡ true →
        AllWithin (pl.place v) (stmt_delta first view (loops ++ v ∷ []) s)

    all_within : (body : List Stmt) → AllOf IsWithin body → (loose : Set) (s : Run) → Kept own before s.scalars →
        body_apart taken own loose here body ≡ true →
        AllWithin (pl.place v) (body_delta body view (loops ++ v ∷ []) s)
    all_within [] each loose s kept h = idle_within (pl.place v)
    all_within (first ∷ rest) each loose s kept h =
        let k = and_parts (stmt_apart taken own loose here first)
        (body_apart taken own (loose_after loose first) here rest) h in
        all_then (pl.place v) (stmt_delta first view (loops ++ v ∷ []) s) (λ d. body_delta rest view (loops ++ v ∷ []) (apply s d))
        (each.0 loose s kept k.0)
        (λ d w. all_within rest each.1 (loose_after loose first) (apply s d)
        (λ x o. w.sets s.scalars x o ∙ kept x o) k.1)

    row_within : (n : Count) (row : Row_of-Stmt n) → AllOf IsWithin (items row) → (loose : Set) (s : Run) →
        Kept own before s.scalars →
        row_apart taken own loose here row ≡ true →
        AllWithin (pl.place v) (row_delta row view (loops ++ v ∷ []) s)
    row_within n row each loose s kept h =
        subst (λ o. AllWithin (pl.place v) o) (sym (delta_items n row view (loops ++ v ∷ []) s))
        (all_within (items row) each loose s kept (sym (apart_items n row taken own loose here) ∙ h))

    choice_within : (o : Option ℕ) (d e : Option Delta) → AllWithin (pl.place v) d → AllWithin (pl.place v) e →
        AllWithin (pl.place v) (chosen_delta o d e)
    choice_within None d e h k = tt
    choice_within (Some zero) d e h k = k
    choice_within (Some (suc n)) d e h k = h

    one_of : (first : Stmt) → OfBranches IsWithin first → IsWithin first
    one_of (Declare x w) each loose s kept h =
        set_within (pl.place v) x.0 (own_value w view (loops ++ v ∷ []) s)
        (and_parts (own x.0) (source_apart taken loose here w) h).0
    one_of (Assign x w) each loose s kept h =
        set_within (pl.place v) x.0 (own_value w view (loops ++ v ∷ []) s)
        (and_parts (own x.0) (source_apart taken loose here w) h).0
    one_of (Store a place e w) each loose s kept h =
        let k = and_parts (taken a.0) (here e && source_apart taken loose here w) h in
        let l = and_parts (here e) (source_apart taken loose here w) k.1 in
        store_within (pl.place v) a (value e (names_in view (loops ++ v ∷ []) s)) (own_value w view (loops ++ v ∷ []) s) k.0
        (named v e (names_in view (loops ++ v ∷ []) s) refl kept l.0)
    one_of (Combine op c place e v) each loose s kept h = tt
    one_of (Print e) each loose s kept h = tt
    one_of (Block' shape all) each loose s kept h = tt
    one_of (Loop' b shape all) each loose s kept h = tt
    one_of (If' c shape all shape' all') each loose s kept h =
        let k = and_parts (is_apart taken loose here c)
        (row_apart taken own loose here all && row_apart taken own loose here all') h in
        let l = and_parts (row_apart taken own loose here all) (row_apart taken own loose here all') k.1 in
        choice_within (value c (names_in view (loops ++ v ∷ []) s)) (row_delta all view (loops ++ v ∷ []) s)
        (row_delta all' view (loops ++ v ∷ []) s)
        (row_within _ all each.0 loose s kept l.0) (row_within _ all' each.1 loose s kept l.1)

    pub stmt_within : (loose : Set) (s : Run) (first : Stmt) → Kept own before s.scalars →
        stmt_apart taken own loose here first ≡ true →
        AllWithin (pl.place v) (stmt_delta first view (loops ++ v ∷ []) s)
    stmt_within loose s first kept h = of_stmt IsWithin one_of first loose s kept h

    pub body_within : (loose : Set) (s : Run) (body : List Stmt) → Kept own before s.scalars →
        body_apart taken own loose here body ≡ true →
        AllWithin (pl.place v) (body_delta body view (loops ++ v ∷ []) s)
    body_within loose s body kept h = all_within body (of_body IsWithin one_of body) loose s kept h

    -- a turn leaves the scalars that it does not assign
    run_kept : (s u : Run) (o : Option Delta) → AllWithin (pl.place v) o → Kept own before s.scalars →
        option_map (apply s) o ≡ Some u → Kept own before u.scalars
    run_kept s u None w kept is = absurd cc
    run_kept s u (Some d) w kept is =
        λ x o. ap (λ (r : Run). r.scalars x) (sym (same_Some (apply s d) u is)) ∙ w.sets s.scalars x o ∙ kept x o

    pub stmt_kept : (loose : Set) (s u : Run) (first : Stmt) → Kept own before s.scalars →
        stmt_apart taken own loose here first ≡ true →
        run_stmt first view (loops ++ v ∷ []) s ≡ Some u → Kept own before u.scalars
    stmt_kept loose s u first kept h is =
        run_kept s u (stmt_delta first view (loops ++ v ∷ []) s) (stmt_within loose s first kept h) kept
        (sym (stmt_is taken own view loose here (loops ++ v ∷ []) s first h) ∙ is)

    pub body_kept : (loose : Set) (s u : Run) (body : List Stmt) → Kept own before s.scalars →
        body_apart taken own loose here body ≡ true →
        run_list body view (loops ++ v ∷ []) s ≡ Some u → Kept own before u.scalars
    body_kept loose s u body kept h is =
        run_kept s u (body_delta body view (loops ++ v ∷ []) s) (body_within loose s body kept h) kept
        (sym (body_is taken own view loose here (loops ++ v ∷ []) s body h) ∙ is)
