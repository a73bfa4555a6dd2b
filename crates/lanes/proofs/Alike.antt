-- Two states that look alike to a turn: it adds the same to both.
use Rattle.std.proofs.Common.{◌≡◌, ℕ, Bool, true, false, List, [], ◌∷◌, ◌++◌, Option, Some, None, refl, sym, ap, ap₂, ◌∙◌, if◌then◌else◌, append_assoc, append-nil}
use Rattle.std.specs.Prelude.{not, ◌&&◌, ◌||◌, option_and_then, option_map, unwrap_or, slice_index}
use Rattle.std.proofs.lemmas.Bool.{and_parts}
use mathlib.Core.Former.{Count}
use Rattle.base.specs.declared.item.Cell.{Cell}
use Rattle.base.specs.declared.tree.Expr.{Expr}
use Rattle.base.specs.declared.tree.Expr.TheVariants.{Number, Scalar, LoopName, Cell', Unary', Binary', And', Or', Shift', Divide'}
use Rattle.base.specs.declared.tree.Source.{Source}
use Rattle.base.specs.declared.tree.Source.TheVariants.{Value, Read}
use Rattle.base.specs.declared.tree.Stmt.{Stmt, Row_of-Stmt}
use Rattle.base.specs.declared.tree.Stmt.TheVariants.{Declare, Assign, Store, Combine, Print, Block', Loop', If'}
use Rattle.base.specs.Memory.{View, Scalars, Stores, same_cell, last_stored}
use Rattle.base.specs.Value.{Names, value, on_one, on_both, and_of, or_of, unary, binary, shifted, divided}
use Rattle.base.specs.Meaning.{Run, names_in, seen}
use Rattle.regions.proofs.StatementsDone.{last_push}
use Rattle.lanes.proofs.Branches.{items, AllOf, OfBranches, of_body, apart_items, delta_items}
use Rattle.lanes.proofs.Deltas.{AllWithin, stmt_within}
use Rattle.lanes.proofs.Settled.{Settles, AllSettle, stmt_settles}
use Rattle.lanes.specs.Apart.{Set, Kept, Places, NamesPlaces, is_apart, source_apart, stmt_apart, row_apart, loose_after, body_apart, Delta, apply, join, own_value, setting, store_delta, chosen_delta, stmt_delta, row_delta, join_all, body_delta}

not_is : (b : Bool) → not b ≡ true → b ≡ false
not_is true h = sym h
not_is false h = refl

-- an index that both have finds the same
cell_same : (o : Option ℕ) (f g : ℕ → Option ℕ) → ((i : ℕ) → o ≡ Some i → f i ≡ g i) →
    option_and_then f o ≡ option_and_then g o
cell_same None f g h = refl
cell_same (Some i) f g h = h i refl

some_is : (i v : ℕ) → ◌≡◌ {A = Option ℕ} (Some i) (Some v) → i ≡ v
some_is i v e = cc

-- the same scalars but for the loose ones, and the same in each cell of the other arrays and at each such index
pub record Looks (taken loose : Set) (at : ℕ → Type 0) (f g : Scalars) (p q : View) : Type 0 where
  pub scalars : (x : ℕ) → loose x ≡ false → f x ≡ g x
  pub others : (c : Cell) → taken c.array.0 ≡ false → p c ≡ q c
  pub mine : (c : Cell) → at c.index → p c ≡ q c

module _ (taken : Set) (view : View) where
  -- the same scalars but for the loose ones, and the same in each cell of the other arrays and at each such index
  pub record Alike (loose : Set) (at : ℕ → Type 0) (s t : Run) : Type 0 where
    pub scalars : (x : ℕ) → loose x ≡ false → s.scalars x ≡ t.scalars x
    pub others : (c : Cell) → taken c.array.0 ≡ false → seen view s.stores c ≡ seen view t.stores c
    pub mine : (c : Cell) → at c.index → seen view s.stores c ≡ seen view t.stores c

  -- the same store in both leaves a cell alike that was alike
  push_same : (st tt' : Stores) (c d : Cell) (n : ℕ) → seen view st d ≡ seen view tt' d →
      seen view (st ++ (c, n) ∷ []) d ≡ seen view (tt' ++ (c, n) ∷ []) d
  push_same st tt' c d n h =
      ap look (last_push st c n d) ∙ go (same_cell c d) ∙ sym (ap look (last_push tt' c n d))
    where
      look : Option ℕ → Option ℕ
      look l = option_map (λ old. unwrap_or l old) (view d)

      go : (b : Bool) → look (if b then Some n else last_stored st d) ≡ look (if b then Some n else last_stored tt' d)
      go true = refl
      go false = h

  -- so do more stores
  seen_after : (st tt' ys : Stores) (c : Cell) → seen view st c ≡ seen view tt' c →
      seen view (st ++ ys) c ≡ seen view (tt' ++ ys) c
  seen_after st tt' [] c h =
      ap (λ zs. seen view zs c) (append-nil st) ∙ h ∙ sym (ap (λ zs. seen view zs c) (append-nil tt'))
  seen_after st tt' (y ∷ ys) c h =
      ap (λ zs. seen view zs c) (sym (append_assoc st (y ∷ []) ys))
      ∙ seen_after (st ++ y ∷ []) (tt' ++ y ∷ []) ys c (push_same st tt' y.0 c y.1 h)
      ∙ ap (λ zs. seen view zs c) (append_assoc tt' (y ∷ []) ys)

  -- the same in both leaves them alike, but for the scalars that are still loose
  apply_alike : (loose still : Set) (at : ℕ → Type 0) (s t : Run) (d : Delta) → Alike loose at s t →
      Settles loose still d →
      Alike still at (apply s d) (apply t d)
  apply_alike loose still at s t d h settles =
      record {
        scalars = λ x o. settles s.scalars t.scalars (λ y k. h.scalars y k) x o;
        others = λ c o. seen_after s.stores t.stores d.stores c (h.others c o);
        mine = λ c o. seen_after s.stores t.stores d.stores c (h.mine c o);
      }

  module _ (here : Expr → Bool) (pl : Places) (loops : List ℕ) (own : Set) (before : Scalars)
      (named : NamesPlaces here pl own before loops) (v : ℕ) where
    abbrev at_turn : ℕ → Type 0
    at_turn i = i ≡ pl.place v

    -- the same over any two sets of names that look alike
    pub value_alike : (loose : Set) (a b : Names) → Looks taken loose at_turn a.scalars b.scalars a.cells b.cells →
        a.loops ≡ loops ++ v ∷ [] → b.loops ≡ loops ++ v ∷ [] → Kept own before b.scalars → (e : Expr) →
        is_apart taken loose here e ≡ true →
        value e a ≡ value e b
    value_alike loose a b h al bl kept (Number n) k = refl
    value_alike loose a b h al bl kept (Scalar x) k = ap Some (h.scalars x.0 (not_is (loose x.0) k))
    value_alike loose a b h al bl kept (LoopName l) k = ap (λ ls. Some (slice_index ls l)) (al ∙ sym bl)
    value_alike loose a b h al bl kept (Cell' r place p e) k =
        let l = and_parts (here e || not (taken r.0)) (is_apart taken loose here e) k in
        ap (option_and_then (λ i. a.cells (record { array = r; index = i }))) (value_alike loose a b h al bl kept e l.1)
        ∙ cell_same (value e b)
        (λ i. a.cells (record { array = r; index = i }))
        (λ i. b.cells (record { array = r; index = i }))
        (λ i is. go (here e) refl l.0 i is)
      where
        go : (q : Bool) → here e ≡ q → (q || not (taken r.0)) ≡ true → (i : ℕ) →
            value e b ≡ Some i →
            a.cells (record { array = r; index = i }) ≡ b.cells (record { array = r; index = i })
        go true f l i is =
            h.mine (record { array = r; index = i }) (some_is i (pl.place v) (sym is ∙ named v e b bl kept f))
        go false f l i is = h.others (record { array = r; index = i }) (not_is (taken r.0) l)
    value_alike loose a b h al bl kept (Unary' op p e) k = ap (on_one (unary op)) (value_alike loose a b h al bl kept e k)
    value_alike loose a b h al bl kept (Binary' op p e q f) k =
        let l = and_parts (is_apart taken loose here e) (is_apart taken loose here f) k in
        ap₂ (on_both (binary op)) (value_alike loose a b h al bl kept e l.0) (value_alike loose a b h al bl kept f l.1)
    value_alike loose a b h al bl kept (And' p e q f) k =
        let l = and_parts (is_apart taken loose here e) (is_apart taken loose here f) k in
        ap₂ and_of (value_alike loose a b h al bl kept e l.0) (value_alike loose a b h al bl kept f l.1)
    value_alike loose a b h al bl kept (Or' p e q f) k =
        let l = and_parts (is_apart taken loose here e) (is_apart taken loose here f) k in
        ap₂ or_of (value_alike loose a b h al bl kept e l.0) (value_alike loose a b h al bl kept f l.1)
    value_alike loose a b h al bl kept (Shift' op p e n) k =
        ap (on_one (λ x. shifted op x n.count)) (value_alike loose a b h al bl kept e k)
    value_alike loose a b h al bl kept (Divide' op p e n) k =
        ap (on_one (λ x. divided op x n.value)) (value_alike loose a b h al bl kept e k)

    pub value_same : (loose : Set) (s t : Run) → Alike loose at_turn s t → Kept own before t.scalars → (e : Expr) →
        is_apart taken loose here e ≡ true →
        value e (names_in view (loops ++ v ∷ []) s) ≡ value e (names_in view (loops ++ v ∷ []) t)
    value_same loose s t h kept e k =
        value_alike loose (names_in view (loops ++ v ∷ []) s) (names_in view (loops ++ v ∷ []) t)
        (record { scalars = h.scalars; others = h.others; mine = h.mine }) refl refl kept e k

    source_same : (loose : Set) (s t : Run) → Alike loose at_turn s t → Kept own before t.scalars → (w : Source) →
        source_apart taken loose here w ≡ true →
        own_value w view (loops ++ v ∷ []) s ≡ own_value w view (loops ++ v ∷ []) t
    source_same loose s t h kept (Value e) k = value_same loose s t h kept e k
    source_same loose s t h kept Read k = refl

    -- a statement adds the same to both
    abbrev IsSame : Stmt → Type 0
    IsSame first =
        (loose : Set) (s t : Run) → Alike loose at_turn s t → Kept own before s.scalars → Kept own before t.scalars →
        stmt_apart taken own loose here first ≡ true →
        stmt_delta first view (loops ++ v ∷ []) s ≡ stmt_delta first view (loops ++ v ∷ []) t

    all_same : (body : List Stmt) → AllOf IsSame body → (loose : Set) (s t : Run) → Alike loose at_turn s t →
        Kept own before s.scalars → Kept own before t.scalars → body_apart taken own loose here body ≡ true →
        body_delta body view (loops ++ v ∷ []) s ≡ body_delta body view (loops ++ v ∷ []) t
    all_same [] each loose s t h ks kt k = refl
    all_same (first ∷ rest) each loose s t h ks kt k =
        ap (λ o. join_all o (λ d. body_delta rest view (loops ++ v ∷ []) (apply s d))) (each.0 loose s t h ks kt l.0)
        ∙ go (λ d a ku kw. all_same rest each.1 (loose_after loose first) (apply s d) (apply t d) a ku kw l.1)
        (stmt_delta first view (loops ++ v ∷ []) t) (stmt_settles view (loops ++ v ∷ []) loose t first)
        (stmt_within taken own view here pl loops before named v loose t first kt l.0)
      where
        l : (stmt_apart taken own loose here first ≡ true)
            × (body_apart taken own (loose_after loose first) here rest ≡ true)
        l =
            and_parts (stmt_apart taken own loose here first)
            (body_apart taken own (loose_after loose first) here rest) k

        go : ((d : Delta) → Alike (loose_after loose first) at_turn (apply s d) (apply t d) →
            Kept own before (apply s d).scalars → Kept own before (apply t d).scalars →
            body_delta rest view (loops ++ v ∷ []) (apply s d) ≡ body_delta rest view (loops ++ v ∷ []) (apply t d)) →
            (o : Option Delta) → AllSettle loose (loose_after loose first) o →
            AllWithin taken own view (pl.place v) o →
            join_all o (λ d. body_delta rest view (loops ++ v ∷ []) (apply s d))
            ≡ join_all o (λ d. body_delta rest view (loops ++ v ∷ []) (apply t d))
        go next None st w = refl
        go next (Some d) st w =
            ap (option_map (join d))
            (next d (apply_alike loose (loose_after loose first) at_turn s t d h st)
            (λ x o. w.sets s.scalars x o ∙ ks x o) (λ x o. w.sets t.scalars x o ∙ kt x o))

    row_same : (n : Count) (row : Row_of-Stmt n) → AllOf IsSame (items row) → (loose : Set) (s t : Run) →
        Alike loose at_turn s t →
        Kept own before s.scalars → Kept own before t.scalars → row_apart taken own loose here row ≡ true →
        row_delta row view (loops ++ v ∷ []) s ≡ row_delta row view (loops ++ v ∷ []) t
    row_same n row each loose s t h ks kt k =
        delta_items n row view (loops ++ v ∷ []) s
        ∙ all_same (items row) each loose s t h ks kt (sym (apart_items n row taken own loose here) ∙ k)
        ∙ sym (delta_items n row view (loops ++ v ∷ []) t)

    one_same : (first : Stmt) → OfBranches IsSame first → IsSame first
    one_same (Declare x w) each loose s t h ks kt k =
        let l = and_parts (own x.0) (source_apart taken loose here w) k in
        ap (option_map (setting x.0)) (source_same loose s t h kt w l.1)
    one_same (Assign x w) each loose s t h ks kt k =
        let l = and_parts (own x.0) (source_apart taken loose here w) k in
        ap (option_map (setting x.0)) (source_same loose s t h kt w l.1)
    one_same (Store a place e w) each loose s t h ks kt k =
        let l = and_parts (taken a.0) (here e && source_apart taken loose here w) k in
        let q = and_parts (here e) (source_apart taken loose here w) l.1 in
        ap₂ (λ oi ov. option_and_then (λ i. store_delta view (record { array = a; index = i }) ov) oi)
        (named v e (names_in view (loops ++ v ∷ []) s) refl ks q.0
        ∙ sym (named v e (names_in view (loops ++ v ∷ []) t) refl kt q.0))
        (source_same loose s t h kt w q.1)
    one_same (Combine op c place e v) each loose s t h ks kt k = refl
    one_same (Print e) each loose s t h ks kt k = refl
    one_same (Block' shape all) each loose s t h ks kt k = refl
    one_same (Loop' b shape all) each loose s t h ks kt k = refl
    one_same (If' c shape all shape' all') each loose s t h ks kt k =
        let l = and_parts (is_apart taken loose here c)
        (row_apart taken own loose here all && row_apart taken own loose here all') k in
        let q = and_parts (row_apart taken own loose here all) (row_apart taken own loose here all') l.1 in
        ap (λ o. chosen_delta o (row_delta all view (loops ++ v ∷ []) s) (row_delta all' view (loops ++ v ∷ []) s))
        (value_same loose s t h kt c l.0)
        ∙ ap₂ (λ d e. chosen_delta (value c (names_in view (loops ++ v ∷ []) t)) d e)
        (row_same _ all each.0 loose s t h ks kt q.0) (row_same _ all' each.1 loose s t h ks kt q.1)

    pub body_same : (loose : Set) (s t : Run) → Alike loose at_turn s t →
        Kept own before s.scalars → Kept own before t.scalars → (body : List Stmt) →
        body_apart taken own loose here body ≡ true →
        body_delta body view (loops ++ v ∷ []) s ≡ body_delta body view (loops ++ v ∷ []) t
    body_same loose s t h ks kt body k = all_same body (of_body IsSame one_same body) loose s t h ks kt k
