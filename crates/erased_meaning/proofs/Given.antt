-- What both runs read, assign and store.
use Rattle.std.proofs.Common.{◌≡◌, ℕ, ◌+◌, ◌<◌, Bool, true, List, [], ◌∷◌, ◌++◌, drop, Option, Some, None, refl, sym, ap, subst, ◌∙◌, arith}
use Rattle.std.specs.Prelude.{option_and_then, option_map}
use Rattle.std.proofs.lemmas.Option.{same_Some, none-some}
use Rattle.base.specs.declared.item.Cell.{Cell}
use Rattle.base.specs.declared.tree.ArrayId.{ArrayId}
use Rattle.base.specs.declared.tree.ScalarId.{ScalarId}
use Rattle.base.specs.declared.tree.Expr.{Expr}
use Rattle.base.specs.declared.tree.Expr.TheVariants.{Number}
use Rattle.base.specs.declared.tree.Source.{Source as Given}
use Rattle.base.specs.declared.tree.Source.TheVariants as from
use Rattle.base.specs.declared.tree.Stmt.{Stmt as Statement}
use Rattle.base.specs.declared.tree.Stmt.TheVariants as statement
use Rattle.base.specs.Memory.{Memory, View, is_cell, with_stores, view_of}
use Rattle.base.specs.Value.{value}
use Rattle.base.specs.Meaning.{Run, names_in, read_next, source_of, set_scalar, assigned, stored, printed, run_stmt}
use Rattle.c_grammar.specs.Grammar.{Source, Input, Value, Term, Declare}
use Rattle.c_expressions.specs.declared.scope.Meaning.TheVariants as meaning
use Rattle.c_expressions.specs.Means.{Items, Names, meaning_of, term_size, IsExpr}
use Rattle.c_expressions.specs.Scopes.{box_of}
use Rattle.c_statements.specs.Statements.{Env, box_for, scalar_or_box, with_scalar, IsSource, IsAssign, IsStore, IsStatement}
use Rattle.erased_meaning.proofs.Entries.{Each, each_at}
use Rattle.erased_meaning.proofs.Boxes.{Layout, IsHeld, IsSame, box_cell}
use Rattle.erased_meaning.proofs.Apart.{Fits, IsSound, fits_at, box_is, sound_scalar}
use Rattle.erased_meaning.proofs.Values.{Alike as AlikeNames, plain_names, scalar_is, same_scalar, same_array, box_scalar, no_box, same_value}
use Rattle.erased_meaning.proofs.Likeness.{Mode, OnHost, InTarget, IsPassed, Like, Both, seen_same, seen_box, stored_same}
use Rattle.erased_meaning.proofs.Assigned.{IsOwn, set_like, declare_like, box_like, declare_box, box_stored}
use Rattle.erased_meaning.proofs.Envs.{plain_env, plain_box, IsQuietSource, IsInside, IsFree, AreOwn, IsPlaced, own_scalar}

abbrev pub MaySource : Mode → Source → Type 0
MaySource (OnHost before) v = Unit {0}
MaySource (InTarget kept input printed scalars) v = IsQuietSource v

abbrev pub MayAssign : Mode → Env → List ℕ → Type 0
MayAssign (OnHost before) env x = Unit {0}
MayAssign (InTarget kept input printed scalars) env x = IsInside (meaning_of env.names x)

own_declared : (mode : Mode) (env : Env) → AreOwn mode env → IsOwn mode env.scalars
own_declared (OnHost before) env p = tt
own_declared (InTarget kept input printed scalars) env p = p.0 env.scalars (omega arith)

own_assigned : (mode : Mode) (env : Env) (x : List ℕ) (n : ScalarId) (i : Bool) → AreOwn mode env →
    MayAssign mode env x →
    meaning_of env.names x ≡ Some (meaning.Scalar n i) → IsOwn mode n.0
own_assigned (OnHost before) env x n i p may e = tt
own_assigned (InTarget kept input printed scalars) env x n i p may e = own_scalar kept env.names x n i p.1 e may

own_box : (mode : Mode) (env : Env) (x : List ℕ) (a : ArrayId) (n : ScalarId) → AreOwn mode env →
    meaning_of env.names x ≡ Some (meaning.Boxed a n) → IsOwn mode n.0
own_box (OnHost before) env x a n p e = tt
own_box (InTarget kept input printed scalars) env x a n p e =
    each_at (IsFree kept) env.names x (meaning.Boxed a n) p.1 e

module _ (d : Layout) (m w : Memory) (mode : Mode) where
  abbrev Alike : Names → Run → Run → Type 0
  Alike names r q = Like d m w mode names r q

  abbrev Ends : Names → Option Run → Option Run → Type 0
  Ends names o p = Both d m w mode names o p

  abbrev here : View
  here = view_of d.first m

  abbrev there : View
  there = view_of d.second w

  module _ (env : Env) (sound : IsSound d env) where
    box_there : (x : List ℕ) (a : ArrayId) (n : ScalarId) → meaning_of env.names x ≡ Some (meaning.Boxed a n) →
        box_of d.boxes x ≡ Some a
    box_there x a n e = (each_at (IsHeld d env.scalars) env.names x (meaning.Boxed a n) sound.held e).1

    array_there : (x : List ℕ) (a : ArrayId) → meaning_of env.names x ≡ Some (meaning.Array a) → a.0 < d.arrays
    array_there x a e = each_at (IsHeld d env.scalars) env.names x (meaning.Array a) sound.held e

    pub values_same : (t : Term) (is js : Items) (e u : Expr) (loops : List ℕ) (r q : Run) → Alike env.names r q →
        IsExpr env.names is t e →
        IsExpr (plain_names env.names) js t u → value e (names_in here loops r) ≡ value u (names_in there loops q)
    values_same t is js e u loops r q l h k =
        same_value env.names (names_in here loops r) (names_in there loops q) alike t is js e u h k
      where
        alike : AlikeNames env.names (names_in here loops r) (names_in there loops q)
        alike = record {
          loops = refl;
          scalars = λ x n i e. each_at (IsSame (with_stores r.stores m) r.scalars q.scalars) env.names x
              (meaning.Scalar n i) l.scalars e;
          boxed = λ x a n e. seen_box d m w r a (d.there x a (box_there x a n e))
              ∙ ap (λ (v : ℕ). Some v)
              (each_at (IsSame (with_stores r.stores m) r.scalars q.scalars) env.names x
              (meaning.Boxed a n) l.scalars e);
          cells = λ x a i e. seen_same d m w mode env.names r q l (record { array = a; index = i }) (array_there x a e);
        }

  -- ---- what is assigned

  abbrev AreGiven : Names → Option (ℕ × Run) → Option (ℕ × Run) → Type 0
  AreGiven names None None = Unit {0}
  AreGiven names (Some r) (Some q) = (r.0 ≡ q.0) × Alike names r.1 q.1
  AreGiven names _ _ = ⊥

  value_given : (names : Names) (o p : Option ℕ) (r q : Run) → o ≡ p → Alike names r q →
      AreGiven names (option_map (λ v. (v, r)) o) (option_map (λ v. (v, q)) p)
  value_given names None None r q e l = tt
  value_given names (Some v) (Some u) r q e l = (cc, l)
  value_given names None (Some u) r q e l = absurd cc
  value_given names (Some v) None r q e l = absurd cc

  input_given : (names : Names) (r q : Run) → MaySource mode Input → Alike names r q →
      AreGiven names (Some (read_next r)) (Some (read_next q))
  input_given names r q may l = on mode refl may
    where
      read_both : (before : List ℕ) → mode ≡ OnHost before → (input : List ℕ) → r.input ≡ input → q.input ≡ input →
          AreGiven names (Some (elim input [ [] ↦ (0, r) | x ∷ rest ↦ (x, record r { input = rest }) ]))
          (Some (elim input [ [] ↦ (0, q) | x ∷ rest ↦ (x, record q { input = rest }) ]))
      read_both before e [] f g = (refl, l)
      read_both before e (x ∷ rest) f g = (
        refl,
        record {
          memory = l.memory;
          scalars = l.scalars;
          passed = subst (λ (d : Mode). IsPassed d (record r { input = rest }) (record q { input = rest })) (sym e)
              (refl, (subst (λ (d : Mode). IsPassed d r q) e l.passed).1);
        },
      )

      on : (d : Mode) → mode ≡ d → MaySource d Input → AreGiven names (Some (read_next r)) (Some (read_next q))
      on (InTarget kept input printed scalars) e may = absurd may
      on (OnHost before) e may =
          let inputs = (subst (λ (d : Mode). IsPassed d r q) e l.passed).0 in
          let next : Run → List ℕ → Option (ℕ × Run) =
          λ s input. Some (elim input [ [] ↦ (0, s) | x ∷ rest ↦ (x, record s { input = rest }) ]) in
          subst (λ (input : List ℕ). AreGiven names (Some (read_next r)) (next q input)) inputs
          (read_both before e r.input refl (sym inputs))

  sources_given : (env : Env) → IsSound d env → (v : Source) (is js : Items) (x y : Given) (loops : List ℕ)
      (r q : Run) → MaySource mode v →
      Alike env.names r q → IsSource env is v x → IsSource (plain_env env) js v y →
      AreGiven env.names (source_of x here loops r) (source_of y there loops q)
  sources_given env s Input is js from.Read from.Read loops r q may l h k = input_given env.names r q may l
  sources_given env s (Value t) is js (from.Value e) (from.Value u) loops r q may l h k =
      value_given env.names (value e (names_in here loops r)) (value u (names_in there loops q)) r q
      (values_same env s t is js e u loops r q l h k) l
  sources_given env s Input is js from.Read (from.Value u) loops r q may l h k = absurd k
  sources_given env s Input is js (from.Value e) y loops r q may l h k = absurd h
  sources_given env s (Value t) is js (from.Value e) from.Read loops r q may l h k = absurd k
  sources_given env s (Value t) is js from.Read y loops r q may l h k = absurd h

  -- a scalar is set in both runs
  set_ends : (names other : Names) (n j k : ℕ) (o p : Option (ℕ × Run)) → j ≡ n → k ≡ n →
      ((v : ℕ) (r q : Run) → Alike names r q →
      Alike other (record r { scalars = set_scalar n v r.scalars }) (record q { scalars = set_scalar n v q.scalars })) →
      AreGiven names o p → Ends other (assigned j o) (assigned k p)
  set_ends names other n j k None None e f go g = tt
  set_ends names other n j k (Some r) (Some q) e f go g =
      subst (λ (i : ℕ). Alike other (record (r.1) { scalars = set_scalar i r.0 r.1.scalars })
      (record (q.1) { scalars = set_scalar k q.0 q.1.scalars })) (sym e)
      (subst (λ (i : ℕ). Alike other (record (r.1) { scalars = set_scalar n r.0 r.1.scalars })
      (record (q.1) { scalars = set_scalar i q.0 q.1.scalars })) (sym f)
      (subst (λ (v : ℕ). Alike other (record (r.1) { scalars = set_scalar n r.0 r.1.scalars })
      (record (q.1) { scalars = set_scalar n v q.1.scalars })) g.0
      (go r.0 r.1 q.1 g.1)))
  set_ends names other n j k None (Some q) e f go g = absurd g
  set_ends names other n j k (Some r) None e f go g = absurd g

  -- the cell of a box is set in the first run, the scalar in the second
  box_ends : (names other : Names) (a : ArrayId) (n k : ℕ) (o p : Option (ℕ × Run)) →
      is_cell d.first (box_cell a) ≡ true → k ≡ n →
      ((v : ℕ) (r q : Run) → Alike names r q →
      Alike other (record r { stores = r.stores ++ (box_cell a, v) ∷ [] })
      (record q { scalars = set_scalar n v q.scalars })) →
      AreGiven names o p → Ends other (stored here (box_cell a) o) (assigned k p)
  box_ends names other a n k None None e f go g = tt
  box_ends names other a n k (Some r) (Some q) e f go g =
      subst (λ (u : Option Run). Ends other u (assigned k (Some q))) (sym (box_stored d m a r.0 r.1 e))
      (subst (λ (i : ℕ). Alike other (record (r.1) { stores = r.1.stores ++ (box_cell a, r.0) ∷ [] })
      (record (q.1) { scalars = set_scalar i q.0 q.1.scalars })) (sym f)
      (subst (λ (v : ℕ). Alike other (record (r.1) { stores = r.1.stores ++ (box_cell a, r.0) ∷ [] })
      (record (q.1) { scalars = set_scalar n v q.1.scalars })) g.0
      (go r.0 r.1 q.1 g.1)))
  box_ends names other a n k None (Some q) e f go g = absurd g
  box_ends names other a n k (Some r) None e f go g = absurd g

  -- the store in a box
  box_run : (names : Names) (a : ArrayId) (e : Expr) (c : Given) (loops : List ℕ) (r : Run) (p : Option Run) →
      e ≡ Number 0 →
      Ends names (stored here (box_cell a) (source_of c here loops r)) p →
      Ends names
      (option_and_then (λ i. stored here (record { array = a; index = i }) (source_of c here loops r))
      (value e (names_in here loops r))) p
  box_run names a e c loops r p is h =
      subst (λ (u : Expr). Ends names (option_and_then (λ i. stored here (record { array = a; index = i })
      (source_of c here loops r)) (value u (names_in here loops r))) p)
      (sym is) h

  module _ (env : Env) (placed : IsPlaced d mode env) (x : List ℕ) (v : Source) (is js : Items) (loops : List ℕ)
      (r q : Run)
      (source : MaySource mode v) (l : Alike env.names r q) where
    pub assigns_end : (s y : Statement) → MayAssign mode env x → IsAssign env is x v s →
        IsAssign (plain_env env) js x v y →
        Ends env.names (run_stmt s here loops r) (run_stmt y there loops q)
    assigns_end (statement.Assign n a) (statement.Assign k b) may h g =
        let known = scalar_is (meaning_of env.names x) n h.0 in
        set_ends env.names env.names n.0 n.0 k.0 (source_of a here loops r) (source_of b there loops q) refl
        (ap (λ (i : ScalarId). i.0) (sym (same_scalar env.names x n k h.0 g.0)))
        (λ u r q l. set_like d m w mode env.names u r q l n known.0
        (own_assigned mode env x n known.0 placed.own may known.1)
        (fits_at env.names x (meaning.Scalar n known.0) placed.sound.fit known.1))
        (sources_given env placed.sound v (drop 2 is) (drop 2 js) a b loops r q source l h.1 g.1)
    assigns_end (statement.Store a at e c) (statement.Assign k b) may h g =
        let known = box_scalar env.names x a k h.0 g.0 in
        let box = box_there env placed.sound x a k known in
        box_run env.names a e c loops r (assigned k.0 (source_of b there loops q)) h.2
        (box_ends env.names env.names a k.0 k.0 (source_of c here loops r) (source_of b there loops q)
        (d.there x a box) refl
        (λ u r q l. box_like d m w mode env.names u r q l a k (own_box mode env x a k placed.own known)
        (fits_at env.names x (meaning.Boxed a k) placed.sound.fit known) (d.behind x a box))
        (sources_given env placed.sound v (drop 2 is) (drop 2 js) c b loops r q source l h.3 g.1))
    assigns_end s (statement.Store b to u c) may h g = absurd (no_box env.names x b g.0)
    assigns_end (statement.Assign n a) _ may h g = absurd g
    assigns_end (statement.Store a at e c) _ may h g = absurd g
    assigns_end _ y may h g = absurd h

    abbrev next : ScalarId
    next = record { 0 = env.scalars }

    new_fits : (o : Option ArrayId) → box_for x env ≡ o → Each (Fits (scalar_or_box next env.inside o)) env.names
    new_fits o e =
        subst (λ (o : Option ArrayId). Each (Fits (scalar_or_box next env.inside o)) env.names) e
        (sound_scalar d env x placed.sound).fit.0

    pub declares_end : (s y : Statement) → IsStatement env is (Declare x v) s →
        IsStatement (plain_env env) js (Declare x v) y →
        Ends (with_scalar x env).names (run_stmt s here loops r) (run_stmt y there loops q)
    declares_end (statement.Declare n a) (statement.Declare k b) h g =
        subst (λ (o : Option ArrayId). Ends ((x, scalar_or_box next env.inside o) ∷ env.names)
        (assigned n.0 (source_of a here loops r))
        (assigned k.0 (source_of b there loops q))) (sym h.0)
        (set_ends env.names ((x, meaning.Scalar next env.inside) ∷ env.names) env.scalars n.0 k.0
        (source_of a here loops r)
        (source_of b there loops q) h.1 g.1
        (λ u r q l. declare_like d m w mode env.names u r q l x next env.inside (own_declared mode env placed.own)
        (new_fits None h.0))
        (sources_given env placed.sound v (drop 3 is) (drop 3 js) a b loops r q source l h.2 g.2))
    declares_end (statement.Store a at e c) (statement.Declare k b) h g =
        let box : box_of d.boxes x ≡ Some a = ap (λ bs. box_of bs x) (sym placed.sound.boxes)
        ∙ (box_is x env a h.0).1 in
        subst (λ (o : Option ArrayId). Ends ((x, scalar_or_box next env.inside o) ∷ env.names)
        (run_stmt (statement.Store a at e c) here loops r)
        (assigned k.0 (source_of b there loops q))) (sym h.0)
        (box_run ((x, meaning.Boxed a next) ∷ env.names) a e c loops r (assigned k.0 (source_of b there loops q)) h.2
        (box_ends env.names ((x, meaning.Boxed a next) ∷ env.names) a env.scalars k.0 (source_of c here loops r)
        (source_of b there loops q)
        (d.there x a box) g.1
        (λ u r q l. declare_box d m w mode env.names u r q l a next (own_declared mode env placed.own)
        (new_fits (Some a) h.0)
        (d.behind x a box) x)
        (sources_given env placed.sound v (drop 3 is) (drop 3 js) c b loops r q source l h.3 g.2)))
    declares_end s (statement.Store b to u c) h g = absurd (none-some b (sym (plain_box x env) ∙ g.0))
    declares_end (statement.Declare n a) _ h g = absurd g
    declares_end (statement.Store a at e c) _ h g = absurd g
    declares_end _ y h g = absurd h

  -- ---- what is stored

  stored_ends : (env : Env) → IsSound d env → (c : Cell) (o p : Option (ℕ × Run)) → c.array.0 < d.arrays →
      AreGiven env.names o p →
      Ends env.names (stored here c o) (stored there c p)
  stored_ends env s c None None h g = tt
  stored_ends env s c (Some r) (Some q) h g =
      subst (λ (v : ℕ). Ends env.names (stored here c (Some r)) (stored there c (Some (v, q.1)))) g.0
      (stored_same d m w mode env.scalars env.names c r.0 r.1 q.1 h s.held g.1)
  stored_ends env s c None (Some q) h g = absurd g
  stored_ends env s c (Some r) None h g = absurd g

  store_ends : (env : Env) → IsSound d env → (a b : ArrayId) (i j : Option ℕ) (o p : Option (ℕ × Run)) →
      a.0 < d.arrays → a ≡ b → i ≡ j →
      AreGiven env.names o p →
      Ends env.names (option_and_then (λ i. stored here (record { array = a; index = i }) o) i)
      (option_and_then (λ i. stored there (record { array = b; index = i }) p) j)
  store_ends env s a b None None o p h e f g = tt
  store_ends env s a b (Some i) (Some j) o p h e f g =
      let same : i ≡ j = same_Some i j f in
      subst (λ (c : ArrayId). Ends env.names (stored here (record { array = a; index = i }) o)
      (stored there (record { array = c; index = j }) p)) e
      (subst (λ (k : ℕ). Ends env.names (stored here (record { array = a; index = i }) o)
      (stored there (record { array = a; index = k }) p)) same
      (stored_ends env s (record { array = a; index = i }) o p h g))
  store_ends env s a b None (Some j) o p h e f g = absurd cc
  store_ends env s a b (Some i) None o p h e f g = absurd cc

  pub stores_end : (env : Env) → IsSound d env → (x : List ℕ) (i : Term) (v : Source) (is js : Items)
      (s y : Statement) (loops : List ℕ) (r q : Run) →
      MaySource mode v → Alike env.names r q → IsStore env is x i v s → IsStore (plain_env env) js x i v y →
      Ends env.names (run_stmt s here loops r) (run_stmt y there loops q)
  stores_end env sound x i v is js (statement.Store a at e c) (statement.Store b to u d) loops r q may l h g =
      store_ends env sound a b (value e (names_in here loops r)) (value u (names_in there loops q))
      (source_of c here loops r) (source_of d there loops q)
      (array_there env sound x a h.0) (same_array env.names x a b h.0 g.0)
      (values_same env sound i (drop 2 is) (drop 2 js) e u loops r q l h.2 g.2)
      (sources_given env sound v (drop (term_size i + 4) is) (drop (term_size i + 4) js) c d loops r q may l h.3 g.3)
  stores_end env sound x i v is js (statement.Store a at e c) _ loops r q may l h g = absurd g
  stores_end env sound x i v is js _ y loops r q may l h g = absurd h
