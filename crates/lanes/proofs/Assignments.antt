-- A block of turns, assignment by assignment.
use Rattle.std.proofs.Common.{◌≡◌, ℕ, ◌==◌, Bool, true, false, List, [], ◌∷◌, ◌++◌, Option, Some, None, refl, sym, ap, ap₂, ◌∙◌, arith, subst, if◌then◌else◌, eqb-true}
use Rattle.std.specs.Prelude.{not, ◌&&◌, option_and_then, option_map, unwrap_or}
use Rattle.std.proofs.lemmas.Bool.{and_parts, false≢true}
use Rattle.std.proofs.lemmas.Bool.Decides.{nat_tests}
use Rattle.std.proofs.lemmas.Option.{same_Some}
use mathlib.Core.Former.{Count}
use mathlib.Core.Path.{fun_ext}
use Rattle.base.specs.declared.item.Cell.{Cell}
use Rattle.base.specs.declared.tree.ArrayId.{ArrayId}
use Rattle.base.specs.declared.tree.Expr.{Expr}
use Rattle.base.specs.declared.tree.Source.TheVariants.{Value, Read}
use Rattle.base.specs.declared.tree.Stmt.{Stmt, Row_of-Stmt}
use Rattle.base.specs.declared.tree.Stmt.TheVariants.{Declare, Assign, Store, Combine, Print, Block', Loop', If'}
use Rattle.base.specs.Memory.{View, same_cell, last_stored}
use Rattle.base.specs.Value.{value, is_zero}
use Rattle.base.specs.Meaning.{Run, names_in, seen, set_scalar, assigned, stored, choose, run_stmt, run_row, run_list}
use Rattle.regions.proofs.StatementsDone.{last_push}
use Rattle.lanes.specs.Apart.{Set, Kept, Places, NamesPlaces, HavePlaces, is_apart, stmt_apart, row_apart, loose_after, body_apart, Block, names_at, numbers, set_lanes, store_lanes, where_true, where_false, block_stmt, block_row, block_body, block_start, StandsFor, RunAlone, ByAssignments}
use Rattle.lanes.proofs.Branches.{items, AllOf, OfBranches, of_stmt, of_row, of_body, run_items, apart_items, block_items}
use Rattle.lanes.proofs.Choices.{fewer_places, between, first_branch, second_branch}
use Rattle.lanes.proofs.Deltas.{set_kept}
use Rattle.lanes.proofs.Alike.{value_alike}

module _ (taken own : Set) (view : View) (here : Expr → Bool) (pl : Places) (loops : List ℕ) (s : Run)
    (named : NamesPlaces here pl own s.scalars loops) where
  -- each turn sees the others' cells as at the beginning
  abbrev pub Keeps : (ℕ → Run) → Type 0
  Keeps lane = (v : ℕ) (c : Cell) → (taken c.array.0 && (c.index == pl.place v)) ≡ false → seen view (lane v).stores c ≡ seen view s.stores c

  other : (v : ℕ) (c : Cell) → taken c.array.0 ≡ false → (taken c.array.0 && (c.index == pl.place v)) ≡ false
  other v c h = ap (λ b. b && (c.index == pl.place v)) h

  -- a turn's expression has the turn's own value
  pub lane_value : (inside : ℕ → Bool) → HavePlaces inside pl → (loose : Set) (b : Block) (lane : ℕ → Run) →
      StandsFor pl view b lane → Keeps lane → (v : ℕ) → inside v ≡ true → Kept own s.scalars (lane v).scalars →
      (e : Expr) → is_apart taken loose here e ≡ true →
      value e (names_at b loops v) ≡ value e (names_in view (loops ++ v ∷ []) (lane v))
  lane_value inside places loose b lane h k v i kept e is =
      value_alike taken view here pl loops own s.scalars named v loose (names_at b loops v) (names_in view (loops ++ v ∷ []) (lane v))
      (record {
        scalars = λ x o. h.scalars v x;
        others = λ c o. h.cells c ∙ k (pl.turn_of c.index) c (other (pl.turn_of c.index) c o) ∙ sym (k v c (other v c o));
        mine = λ c o. h.cells c ∙ ap (λ w. seen view (lane w).stores c) (ap pl.turn_of o ∙ places.back v i);
      }) refl refl kept e is

  pub record Assigned (x : ℕ) (o : Option ℕ) (now next : Run) : Type 0 where
    pub n : ℕ
    pub is : o ≡ Some n
    pub becomes : next ≡ record now { scalars = set_scalar x n now.scalars }

  pub assigned_by : (x : ℕ) (o : Option ℕ) (now next : Run) →
      assigned x (option_map (λ n. (n, now)) o) ≡ Some next → Assigned x o now next
  assigned_by x None now next h = absurd cc
  assigned_by x (Some n) now next h =
      record { n = n; is = refl; becomes = sym (same_Some (record now { scalars = set_scalar x n now.scalars }) next h) }

  pub record Pushed (c : Cell) (o : Option ℕ) (now next : Run) : Type 0 where
    pub n : ℕ
    pub old : ℕ
    pub is : o ≡ Some n
    pub there : view c ≡ Some old
    pub becomes : next ≡ record now { stores = now.stores ++ (c, n) ∷ [] }

  pub pushed_by : (c : Cell) (o : Option ℕ) (now next : Run) →
      stored view c (option_map (λ n. (n, now)) o) ≡ Some next → Pushed c o now next
  pushed_by c None now next h = absurd cc
  pushed_by c (Some n) now next h = go (view c) refl h
    where
      go : (o : Option ℕ) → view c ≡ o →
          option_map (λ old. record now { stores = now.stores ++ (c, n) ∷ [] }) o ≡ Some next → Pushed c (Some n) now next
      go None e h = absurd cc
      go (Some old) e h =
          record {
            n = n;
            old = old;
            is = refl;
            there = e;
            becomes = sym (same_Some (record now { stores = now.stores ++ (c, n) ∷ [] }) next h);
          }

  -- what a statement makes of the block's lanes
  pub record Stands (b : Block) (lane : ℕ → Run) : Type 0 where
    pub is : StandsFor pl view b lane
    pub keeps : Keeps lane
    pub kept : (v : ℕ) → Kept own s.scalars (lane v).scalars

  module _ (inside : ℕ → Bool) (places : HavePlaces inside pl)
      (loose : Set) (b : Block) (lane next : ℕ → Run) (h : StandsFor pl view b lane) (k : Keeps lane)
      (kept : (v : ℕ) → Kept own s.scalars (lane v).scalars) (out : (v : ℕ) → inside v ≡ false → next v ≡ lane v) where
    set_stands : (x : ℕ) (e : Expr) → own x ≡ true → is_apart taken loose here e ≡ true →
        ((v : ℕ) → inside v ≡ true → Assigned x (value e (names_in view (loops ++ v ∷ []) (lane v))) (lane v) (next v)) →
        Stands (set_lanes inside x (numbers e b loops) b) next
    set_stands x e its ok does =
        record {
          is =
              record {
                scalars = λ v y. scalar v y (inside v) refl;
                cells = λ c. h.cells c ∙ ap (λ st. seen view st c) (stores (pl.turn_of c.index) (inside (pl.turn_of c.index)) refl);
                stored = λ c. h.stored c ∙ ap (λ st. last_stored st c) (stores (pl.turn_of c.index) (inside (pl.turn_of c.index)) refl);
              };
          keeps = λ v c o. ap (λ st. seen view st c) (sym (stores v (inside v) refl)) ∙ k v c o;
          kept = λ v y o. left v y o (inside v) refl;
        }
      where
        left : (v y : ℕ) → own y ≡ false → (q : Bool) → inside v ≡ q → (next v).scalars y ≡ s.scalars y
        left v y o true f =
            ap (λ (r : Run). r.scalars y) (does v f).becomes
            ∙ set_kept own s.scalars (lane v).scalars x (does v f).n its (kept v) y o
        left v y o false f = ap (λ (r : Run). r.scalars y) (out v f) ∙ kept v y o

        stores : (v : ℕ) (q : Bool) → inside v ≡ q → (lane v).stores ≡ (next v).stores
        stores v true f = ap (λ (r : Run). r.stores) (sym (does v f).becomes)
        stores v false f = ap (λ (r : Run). r.stores) (sym (out v f))

        scalar : (v y : ℕ) (q : Bool) → inside v ≡ q →
            (if q then set_scalar x (numbers e b loops v) (b.scalars v) else b.scalars v) y ≡ (next v).scalars y
        scalar v y true f =
            let d = does v f in
            ap (λ n. set_scalar x n (b.scalars v) y)
            (ap (λ o. unwrap_or o 0) (lane_value inside places loose b lane h k v f (kept v) e ok ∙ d.is))
            ∙ ap (λ old. if x == y then d.n else old) (h.scalars v y)
            ∙ sym (ap (λ (r : Run). r.scalars y) d.becomes)
        scalar v y false f = h.scalars v y ∙ sym (ap (λ (r : Run). r.scalars y) (out v f))

    store_stands : (a : ArrayId) (f : Expr) → taken a.0 ≡ true → is_apart taken loose here f ≡ true →
        ((v : ℕ) → inside v ≡ true →
        Pushed (record { array = a; index = pl.place v }) (value f (names_in view (loops ++ v ∷ []) (lane v))) (lane v) (next v)) →
        Stands (store_lanes pl inside a.0 (numbers f b loops) b) next
    store_stands a f its ok does =
        record {
          is =
              record {
                scalars = λ v y. h.scalars v y ∙ scalar v y (inside v) refl;
                cells = λ c. cell c (a.0 == c.array.0) (inside (pl.turn_of c.index)) refl refl;
                stored = λ c. mark c (a.0 == c.array.0) (inside (pl.turn_of c.index)) refl refl;
              };
          keeps = λ v c o. keep v c o (inside v) refl;
          kept = λ v y o. sym (scalar v y (inside v) refl) ∙ kept v y o;
        }
      where
        scalar : (v y : ℕ) (q : Bool) → inside v ≡ q → (lane v).scalars y ≡ (next v).scalars y
        scalar v y true i = ap (λ (r : Run). r.scalars y) (sym (does v i).becomes)
        scalar v y false i = ap (λ (r : Run). r.scalars y) (sym (out v i))

        -- what was stored last in a cell by the turn of its index
        last : (c : Cell) (i : inside (pl.turn_of c.index) ≡ true) → last_stored (next (pl.turn_of c.index)).stores c
            ≡ (if a.0 == c.array.0 then Some (does (pl.turn_of c.index) i).n else last_stored (lane (pl.turn_of c.index)).stores c)
        last c i =
            ap (λ (r : Run). last_stored r.stores c) (does (pl.turn_of c.index) i).becomes
            ∙ last_push (lane (pl.turn_of c.index)).stores (record { array = a; index = pl.place (pl.turn_of c.index) }) (does (pl.turn_of c.index) i).n c
            ∙ ap (λ q. if q then Some (does (pl.turn_of c.index) i).n else last_stored (lane (pl.turn_of c.index)).stores c) (now (a.0 == c.array.0))
          where
            now : (q : Bool) → (q && (pl.place (pl.turn_of c.index) == c.index)) ≡ q
            now q = let e = places.forth c.index i in grind (arith, nat_tests)

        number : (v : ℕ) (i : inside v ≡ true) → numbers f b loops v ≡ (does v i).n
        number v i =
            ap (λ o. unwrap_or o 0) (lane_value inside places loose b lane h k v i (kept v) f ok ∙ (does v i).is)

        mark : (c : Cell) (q r : Bool) → (a.0 == c.array.0) ≡ q → inside (pl.turn_of c.index) ≡ r →
            (if q && r then Some (numbers f b loops (pl.turn_of c.index)) else b.stored c) ≡ last_stored (next (pl.turn_of c.index)).stores c
        mark c true true e i =
            ap Some (number (pl.turn_of c.index) i)
            ∙ sym (last c i ∙ ap (λ q. if q then Some (does (pl.turn_of c.index) i).n else last_stored (lane (pl.turn_of c.index)).stores c) e)
        mark c false true e i =
            h.stored c ∙ sym (last c i ∙ ap (λ q. if q then Some (does (pl.turn_of c.index) i).n else last_stored (lane (pl.turn_of c.index)).stores c) e)
        mark c true false e i = h.stored c ∙ ap (λ (r : Run). last_stored r.stores c) (sym (out (pl.turn_of c.index) i))
        mark c false false e i = h.stored c ∙ ap (λ (r : Run). last_stored r.stores c) (sym (out (pl.turn_of c.index) i))

        look : Cell → Option ℕ → Option ℕ
        look c l = option_map (λ old. unwrap_or l old) (view c)

        same : (c : Cell) → (a.0 == c.array.0) ≡ true → inside (pl.turn_of c.index) ≡ true →
            ◌≡◌ {A = Cell} (record { array = a; index = pl.place (pl.turn_of c.index) }) c
        same c e h =
            let p = eqb-true a.0 c.array.0 e in
            let q = places.forth c.index h in λ i. record { array = record { 0 = p i }; index = q i }

        cell : (c : Cell) (q r : Bool) → (a.0 == c.array.0) ≡ q → inside (pl.turn_of c.index) ≡ r →
            (if q && r then Some (numbers f b loops (pl.turn_of c.index)) else b.cells c) ≡ seen view (next (pl.turn_of c.index)).stores c
        cell c true true e i =
            let d = does (pl.turn_of c.index) i in
            ap Some (number (pl.turn_of c.index) i)
            ∙ sym (ap (look c) (last c i ∙ ap (λ q. if q then Some d.n else last_stored (lane (pl.turn_of c.index)).stores c) e)
            ∙ ap (λ o. option_map (λ old. unwrap_or (Some d.n) old) o) (ap view (sym (same c e i)) ∙ d.there))
        cell c false true e i =
            h.cells c
            ∙ sym (ap (look c) (last c i ∙ ap (λ q. if q then Some (does (pl.turn_of c.index) i).n else last_stored (lane (pl.turn_of c.index)).stores c) e))
        cell c true false e i = h.cells c ∙ ap (λ (r : Run). seen view r.stores c) (sym (out (pl.turn_of c.index) i))
        cell c false false e i = h.cells c ∙ ap (λ (r : Run). seen view r.stores c) (sym (out (pl.turn_of c.index) i))

        keep : (v : ℕ) (c : Cell) → (taken c.array.0 && (c.index == pl.place v)) ≡ false → (q : Bool) → inside v ≡ q →
            seen view (next v).stores c ≡ seen view s.stores c
        keep v c o false i = ap (λ (r : Run). seen view r.stores c) (out v i) ∙ k v c o
        keep v c o true i =
            let d = does v i in
            ap (λ (r : Run). seen view r.stores c) d.becomes
            ∙ ap (look c) (last_push (lane v).stores (record { array = a; index = pl.place v }) d.n c
            ∙ ap (λ q. if q then Some d.n else last_stored (lane v).stores c) (apart (same_cell (record { array = a; index = pl.place v }) c) refl))
            ∙ k v c o
          where
            apart : (q : Bool) → same_cell (record { array = a; index = pl.place v }) c ≡ q → q ≡ false
            apart false e = refl
            apart true e =
                let p = and_parts (a.0 == c.array.0) (pl.place v == c.index) e in
                let j : (c.index == pl.place v) ≡ true = let w = eqb-true (pl.place v) c.index p.1 in grind (arith, nat_tests) in
                let l : taken c.array.0 ≡ true = ap taken (sym (eqb-true a.0 c.array.0 p.0)) ∙ its in
                absurd (false≢true (sym o ∙ ap₂ (λ x y. x && y) l j))

  -- the block of a statement stands for the runs of the statement
  abbrev pub IsStanding : Stmt → Type 0
  IsStanding first =
      (inside : ℕ → Bool) (places : HavePlaces inside pl) (loose : Set) (b : Block) (lane next : ℕ → Run) →
      Stands b lane →
      stmt_apart taken own loose here first ≡ true →
      RunAlone inside (λ v. run_stmt first view (loops ++ v ∷ [])) lane next →
      Stands (block_stmt pl inside loops first b) next

  -- where a statement leads, and what comes after it
  pub then_parts : (o : Option Run) (f : Run → Option Run) (d end : Run) → option_and_then f o ≡ Some end →
      (o ≡ Some (unwrap_or o d)) × (f (unwrap_or o d) ≡ Some end)
  then_parts None f d end h = absurd cc
  then_parts (Some t) f d end h = (refl, h)

  abbrev pub stepped : Bool → Option Run → Run → Run
  stepped q o d = if q then unwrap_or o d else d

  -- some turns, each of which does a statement and then others
  module _ (inside : ℕ → Bool) (first : Stmt) (rest : List Stmt) (lane end : ℕ → Run)
      (alone : RunAlone inside (λ v. run_list (first ∷ rest) view (loops ++ v ∷ [])) lane end) where
    abbrev pub after_first : ℕ → Run
    after_first v = stepped (inside v) (run_stmt first view (loops ++ v ∷ []) (lane v)) (lane v)

    at : (v : ℕ) → inside v ≡ true →
        after_first v ≡ unwrap_or (run_stmt first view (loops ++ v ∷ []) (lane v)) (lane v)
    at v i = ap (λ q. stepped q (run_stmt first view (loops ++ v ∷ []) (lane v)) (lane v)) i

    parts : (v : ℕ) → inside v ≡ true →
        (run_stmt first view (loops ++ v ∷ []) (lane v)
        ≡ Some (unwrap_or (run_stmt first view (loops ++ v ∷ []) (lane v)) (lane v)))
        × (run_list rest view (loops ++ v ∷ []) (unwrap_or (run_stmt first view (loops ++ v ∷ []) (lane v)) (lane v))
        ≡ Some (end v))
    parts v i =
        then_parts (run_stmt first view (loops ++ v ∷ []) (lane v)) (run_list rest view (loops ++ v ∷ [])) (lane v)
        (end v)
        (alone.there v i)

    pub first_alone : RunAlone inside (λ v. run_stmt first view (loops ++ v ∷ [])) lane after_first
    first_alone =
        record {
          there = λ v i. (parts v i).0 ∙ ap Some (sym (at v i));
          elsewhere = λ v i. ap (λ q. stepped q (run_stmt first view (loops ++ v ∷ []) (lane v)) (lane v)) i;
        }

    pub rest_alone : RunAlone inside (λ v. run_list rest view (loops ++ v ∷ [])) after_first end
    rest_alone =
        record {
          there = λ v i. ap (run_list rest view (loops ++ v ∷ [])) (at v i) ∙ (parts v i).1;
          elsewhere =
              λ v i. alone.elsewhere v i
              ∙ sym (ap (λ q. stepped q (run_stmt first view (loops ++ v ∷ []) (lane v)) (lane v)) i);
        }

  -- turns that do nothing
  stand_still : (inside : ℕ → Bool) (b : Block) (lane end : ℕ → Run) → Stands b lane →
      RunAlone inside (λ v. run_list [] view (loops ++ v ∷ [])) lane end → Stands b end
  stand_still inside b lane end h alone =
      subst (λ (l : ℕ → Run). Stands b l) (fun_ext (λ (v : ℕ). same v (inside v) refl)) h
    where
      same : (v : ℕ) (q : Bool) → inside v ≡ q → lane v ≡ end v
      same v true i = same_Some (lane v) (end v) (alone.there v i)
      same v false i = sym (alone.elsewhere v i)

  all_stand : (body : List Stmt) → AllOf IsStanding body → (inside : ℕ → Bool) (places : HavePlaces inside pl)
      (loose : Set) (b : Block) (lane end : ℕ → Run) → Stands b lane → body_apart taken own loose here body ≡ true →
      RunAlone inside (λ v. run_list body view (loops ++ v ∷ [])) lane end →
      Stands (block_body pl inside loops body b) end
  all_stand [] each inside places loose b lane end h ok alone = stand_still inside b lane end h alone
  all_stand (first ∷ rest) each inside places loose b lane end h ok alone =
      let l = and_parts (stmt_apart taken own loose here first)
      (body_apart taken own (loose_after loose first) here rest) ok in
      all_stand rest each.1 inside places (loose_after loose first) (block_stmt pl inside loops first b)
      (after_first inside first rest lane end alone) end
      (each.0 inside places loose b lane (after_first inside first rest lane end alone) h l.0
      (first_alone inside first rest lane end alone)) l.1
      (rest_alone inside first rest lane end alone)

  -- a branch
  row_stand : (n : Count) (row : Row_of-Stmt n) → AllOf IsStanding (items row) →
      (inside : ℕ → Bool) (places : HavePlaces inside pl)
      (loose : Set) (b : Block) (lane end : ℕ → Run) → Stands b lane → row_apart taken own loose here row ≡ true →
      RunAlone inside (λ v. run_row row view (loops ++ v ∷ [])) lane end →
      Stands (block_row pl inside loops row b) end
  row_stand n row each inside places loose b lane end h ok alone =
      subst (λ (c : Block). Stands c end) (sym (block_items n row pl inside loops b))
      (all_stand (items row) each inside places loose b lane end h (sym (apart_items n row taken own loose here) ∙ ok)
      (record {
        there = λ v i. sym (run_items n row view (loops ++ v ∷ []) (lane v)) ∙ alone.there v i;
        elsewhere = λ v i. alone.elsewhere v i;
      }))

  -- a choice
  module _ (c : Expr) {m n : Count} (all : Row_of-Stmt m) (all' : Row_of-Stmt n) (inside : ℕ → Bool)
      (places : HavePlaces inside pl) (loose : Set) (b : Block) (lane next : ℕ → Run) (h : Stands b lane)
      (ok : is_apart taken loose here c ≡ true)
      (there : (v : ℕ) → inside v ≡ true →
      choose (value c (names_in view (loops ++ v ∷ []) (lane v))) (run_row all view (loops ++ v ∷ []))
      (run_row all' view (loops ++ v ∷ [])) (lane v) ≡ Some (next v))
      (elsewhere : (v : ℕ) → inside v ≡ false → next v ≡ lane v) where
    pub number_is : (v : ℕ) → inside v ≡ true →
        numbers c b loops v ≡ unwrap_or (value c (names_in view (loops ++ v ∷ []) (lane v))) 0
    number_is v i = ap (λ o. unwrap_or o 0) (lane_value inside places loose b lane h.is h.keeps v i (h.kept v) c ok)

    abbrev pub amid : ℕ → Run
    amid =
        between inside (numbers c b loops) (λ v. value c (names_in view (loops ++ v ∷ []) (lane v)))
        (λ v. run_row all view (loops ++ v ∷ [])) (λ v. run_row all' view (loops ++ v ∷ []))
        lane next number_is there elsewhere

    pub first_done : RunAlone (where_true inside c b loops) (λ v. run_row all view (loops ++ v ∷ [])) lane amid
    first_done =
        first_branch inside (numbers c b loops) (λ v. value c (names_in view (loops ++ v ∷ []) (lane v)))
        (λ v. run_row all view (loops ++ v ∷ [])) (λ v. run_row all' view (loops ++ v ∷ []))
        lane next number_is there elsewhere

    pub second_done : RunAlone (where_false inside c b loops) (λ v. run_row all' view (loops ++ v ∷ [])) amid next
    second_done =
        second_branch inside (numbers c b loops) (λ v. value c (names_in view (loops ++ v ∷ []) (lane v)))
        (λ v. run_row all view (loops ++ v ∷ [])) (λ v. run_row all' view (loops ++ v ∷ []))
        lane next number_is there elsewhere

    pub true_places : HavePlaces (where_true inside c b loops) pl
    true_places =
        fewer_places pl inside (where_true inside c b loops)
        (λ v i. (and_parts (inside v) (not (is_zero (numbers c b loops v))) i).0) places

    pub false_places : HavePlaces (where_false inside c b loops) pl
    false_places =
        fewer_places pl inside (where_false inside c b loops)
        (λ v i. (and_parts (inside v) (is_zero (numbers c b loops v)) i).0) places

    choice_stands : AllOf IsStanding (items all) → AllOf IsStanding (items all') →
        row_apart taken own loose here all ≡ true →
        row_apart taken own loose here all' ≡ true →
        Stands (block_row pl (where_false inside c b loops) loops all'
        (block_row pl (where_true inside c b loops) loops all b)) next
    choice_stands each other p q =
        row_stand _ all' other (where_false inside c b loops) false_places loose
        (block_row pl (where_true inside c b loops) loops all b) amid next
        (row_stand _ all each (where_true inside c b loops) true_places loose b lane amid h p first_done) q second_done

  one_stands : (first : Stmt) → OfBranches IsStanding first → IsStanding first
  one_stands (Declare x (Value e)) each inside places loose b lane next h ok alone =
      set_stands inside places loose b lane next h.is h.keeps h.kept alone.elsewhere x.0 e
      (and_parts (own x.0) (is_apart taken loose here e) ok).0
      (and_parts (own x.0) (is_apart taken loose here e) ok).1
      (λ v i. assigned_by x.0 (value e (names_in view (loops ++ v ∷ []) (lane v))) (lane v) (next v)
      (alone.there v i))
  one_stands (Declare x Read) each inside places loose b lane next h ok alone =
      absurd (false≢true (and_parts (own x.0) false ok).1)
  one_stands (Assign x (Value e)) each inside places loose b lane next h ok alone =
      set_stands inside places loose b lane next h.is h.keeps h.kept alone.elsewhere x.0 e
      (and_parts (own x.0) (is_apart taken loose here e) ok).0
      (and_parts (own x.0) (is_apart taken loose here e) ok).1
      (λ v i. assigned_by x.0 (value e (names_in view (loops ++ v ∷ []) (lane v))) (lane v) (next v)
      (alone.there v i))
  one_stands (Assign x Read) each inside places loose b lane next h ok alone =
      absurd (false≢true (and_parts (own x.0) false ok).1)
  one_stands (Store a place e (Value f)) each inside places loose b lane next h ok alone =
      let l = and_parts (taken a.0) (here e && is_apart taken loose here f) ok in
      let q = and_parts (here e) (is_apart taken loose here f) l.1 in
      store_stands inside places loose b lane next h.is h.keeps h.kept alone.elsewhere a f l.0 q.1
      (λ v i. pushed_by (record { array = a; index = pl.place v })
      (value f (names_in view (loops ++ v ∷ []) (lane v))) (lane v) (next v)
      (sym (ap (option_and_then (λ j. stored view (record { array = a; index = j })
      (option_map (λ n. (n, lane v)) (value f (names_in view (loops ++ v ∷ []) (lane v))))))
      (named v e (names_in view (loops ++ v ∷ []) (lane v)) refl (h.kept v) q.0)) ∙ alone.there v i))
  one_stands (Store a place e Read) each inside places loose b lane next h ok alone =
      absurd (false≢true (and_parts (here e) false (and_parts (taken a.0) (here e && false) ok).1).1)
  one_stands (Combine op c place e v) each inside places loose b lane next h ok alone = absurd (false≢true ok)
  one_stands (Print e) each inside places loose b lane next h ok alone = absurd (false≢true ok)
  one_stands (Block' shape all) each inside places loose b lane next h ok alone = absurd (false≢true ok)
  one_stands (Loop' c shape all) each inside places loose b lane next h ok alone = absurd (false≢true ok)
  one_stands (If' c shape all shape' all') each inside places loose b lane next h ok alone =
      let k = and_parts (is_apart taken loose here c)
      (row_apart taken own loose here all && row_apart taken own loose here all') ok in
      let l = and_parts (row_apart taken own loose here all) (row_apart taken own loose here all') k.1 in
      choice_stands c all all' inside places loose b lane next h k.0 alone.there alone.elsewhere each.0 each.1 l.0 l.1

  pub stmt_stands : (first : Stmt) → IsStanding first
  stmt_stands first = of_stmt IsStanding one_stands first

  pub row_stands : (n : Count) (row : Row_of-Stmt n) → (inside : ℕ → Bool) (places : HavePlaces inside pl)
      (loose : Set) (b : Block) (lane end : ℕ → Run) → Stands b lane → row_apart taken own loose here row ≡ true →
      RunAlone inside (λ v. run_row row view (loops ++ v ∷ [])) lane end →
      Stands (block_row pl inside loops row b) end
  row_stands n row = row_stand n row (of_row IsStanding one_stands n row)

pub by_assignments : ByAssignments
by_assignments body view here at loops stored own inside s end named places ok alone =
    (all_stand stored own view here at loops s named body
    (of_body (IsStanding stored own view here at loops s named)
    (one_stands stored own view here at loops s named) body)
    inside places own (block_start view s) (λ v. s) end
    (record {
      is = record { scalars = λ v x. refl; cells = λ c. refl; stored = λ c. refl };
      keeps = λ v c o. refl;
      kept = λ v x o. refl;
    }) ok alone).is
