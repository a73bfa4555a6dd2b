-- What a region surely writes it has stored when it comes to its end.
use Rattle.std.proofs.Common.{◌≡◌, ◌⊎◌, ℕ, zero, suc, ◌+◌, ◌<◌, ◌≤◌, ◌^◌, Bool, true, false, List, [], ◌∷◌, ◌++◌, refl, sym, ap, ◌∙◌, subst, arith, Option, Some, None, ⊎_elim}
use Rattle.std.specs.Prelude.{◌&&◌, flat_map, option_and_then, option_map, if◌then◌else◌}
use Rattle.std.proofs.lemmas.Bool.{false≢true, and_right, or_cases}
use Rattle.std.proofs.lemmas.List.Folds.{list_any-append}
use Rattle.std.proofs.lemmas.Option.{same_Some, none-some}
use Rattle.base.specs.declared.item.Cell.{Cell}
use Rattle.base.specs.declared.fault.Interval.{Interval}
use Rattle.base.specs.declared.tree.ArrayId.{ArrayId}
use Rattle.base.specs.declared.tree.Place.{Place}
use Rattle.base.specs.declared.tree.CombineOp.{CombineOp}
use Rattle.base.specs.declared.tree.Bounds.{Bounds}
use Rattle.base.specs.declared.tree.Expr.{Expr}
use Rattle.base.specs.declared.tree.Source.{Source}
use Rattle.base.specs.declared.tree.Stmt.{Stmt, Row_of-Stmt, end_of-Stmt, more_of-Stmt}
use Rattle.base.specs.declared.tree.Stmt.TheVariants.{Declare, Assign, Store, Combine, Print, Block', Loop', If'}
use Rattle.base.specs.Memory.{View, Stores, last_stored, same_cell}
use Rattle.base.specs.Value.{value}
use Rattle.base.specs.Meaning.{Run, names_in, run_stmt, run_row, run_list, source_of, set_scalar, assigned, stored, updated_by, printed, turn, turns_of, turns_left, choose}
use Rattle.base.specs.Interval.{interval, is_known_zero, is_known_nonzero}
use Rattle.base.specs.Footprint.{Touch, is_sure, surely_writes, expr_touches, source_touches, update_touch, stmt_touches, row_touches, turns_touch, unless}
use Rattle.regions.specs.Certain.{IsStored, SureWritesAreStored}
use Rattle.regions.proofs.Intervals.{Has}
use Rattle.regions.proofs.Needs.{Every, Unsure, expr_reads}
use Rattle.regions.proofs.ExprValues.{in_cells}
use Rattle.regions.proofs.StatementsDone.{AllSmall, small_push, SmallView, small_list, last_push, sure_is}
use Rattle.regions.proofs.StatementOutcomes.{Met, Sound, source_known, updated_known, value_known}
use Rattle.regions.proofs.RegionsDone.{reads_unsure, source_unsure, update_reads, unless_unsure, row_unsure, turn_below}
use Rattle.regions.proofs.FootprintsHold.{all_met, not_nonzero, not_zero, stmt_outcome, row_outcome}

-- of touches of which none is sure, none is a sure write
none_sure : (xs : List Touch) (c : Cell) → Every Unsure xs → surely_writes xs c ≡ true → ⊥
none_sure [] c u h = false≢true h
none_sure (t ∷ xs) c u h = ⊎_elim (λ e. false≢true (sym (u.0 c) ∙ e)) (λ e. none_sure xs c u.1 e)
    (or_cases (is_sure c t) (surely_writes xs c) h)

in_either : (xs ys : List Touch) (c : Cell) → surely_writes (xs ++ ys) c ≡ true →
    (surely_writes xs c ≡ true) ⊎ (surely_writes ys c ≡ true)
in_either xs ys c h = or_cases (surely_writes xs c) (surely_writes ys c)
    (sym (list_any-append (is_sure c) xs ys) ∙ h)

within_unless : (b : Bool) (xs : List Touch) (c : Cell) → surely_writes (unless b xs) c ≡ true →
    surely_writes xs c ≡ true
within_unless true xs c h = absurd (false≢true h)
within_unless false xs c h = h

-- one more store keeps what is stored, and stores its cell
push_stored : (st : Stores) (c : Cell) (n : ℕ) (d : Cell) → IsStored st d → IsStored (st ++ (c, n) ∷ []) d
push_stored st c n d h = go (same_cell c d) (last_push st c n d)
  where
    go : (b : Bool) → last_stored (st ++ (c, n) ∷ []) d ≡ (if b then Some n else last_stored st d) →
        IsStored (st ++ (c, n) ∷ []) d
    go true e = (n, e)
    go false e = (h.0, e ∙ h.1)

push_here : (st : Stores) (c : Cell) (n : ℕ) (d : Cell) → same_cell c d ≡ true → IsStored (st ++ (c, n) ∷ []) d
push_here st c n d h = (n, last_push st c n d ∙ ap (λ b. if b then Some n else last_stored st d) h)

module _ (view : View) (small_view : SmallView view) where
  abbrev anywhere : Cell → Bool
  anywhere c = true

  fits : (xs : List Touch) → Every (Met view view anywhere) xs
  fits xs = all_met view view anywhere xs (λ c h. refl) (λ c h. refl) (λ c h. refl)

  -- from one run to another what was stored stays so, and what is surely written is stored
  record Covers (xs : List Touch) (s t : Run) : Type 0 where
    kept : (c : Cell) → IsStored s.stores c → IsStored t.stores c
    sure : (c : Cell) → surely_writes xs c ≡ true → IsStored t.stores c

  abbrev Covered : (Run → Option Run) → List Touch → Type 0
  Covered f xs = (s : Run) → Sound view view anywhere s → (t : Run) → f s ≡ Some t → Covers xs s t

  -- nothing is stored, and nothing surely written
  same_stores : (xs : List Touch) (s t : Run) → Every Unsure xs → t.stores ≡ s.stores → Covers xs s t
  same_stores xs s t u e =
      record {
        kept = λ c h. subst (λ (st : Stores). IsStored st c) (sym e) h;
        sure = λ c h. absurd (none_sure xs c u h);
      }

  then_covers : (xs ys : List Touch) (s m t : Run) → Covers xs s m → Covers ys m t → Covers (xs ++ ys) s t
  then_covers xs ys s m t p q =
      record {
        kept = λ c h. q.kept c (p.kept c h);
        sure = λ c h. ⊎_elim (λ e. q.kept c (p.sure c e)) (λ e. q.sure c e) (in_either xs ys c h);
      }

  -- one after the other
  both_covered : (xs ys : List Touch) (s : Run) (o : Option Run) (g : Run → Option Run) (t : Run) →
      ((m : Run) → o ≡ Some m → Covers xs s m) →
      ((m : Run) → o ≡ Some m → g m ≡ Some t → Covers ys m t) →
      option_and_then g o ≡ Some t →
      Covers (xs ++ ys) s t
  both_covered xs ys s None g t p q e = absurd (none-some t e)
  both_covered xs ys s (Some m) g t p q e = then_covers xs ys s m t (p m refl) (q m refl e)

  assign_covered : (loops : List ℕ) (x : ℕ) (src : Source) (certain : Bool) → AllSmall loops →
      Covered (λ s. assigned x (source_of src view loops s)) (source_touches src loops certain)
  assign_covered loops x src certain l s f t e =
      let k = source_known view view anywhere small_view s loops src certain f.fine l (fits _) in
      same_stores (source_touches src loops certain) s t (source_unsure src loops certain)
      (go (source_of src view loops s) k.stores e)
    where
      go : (o : Option (ℕ × Run)) → ((r : ℕ × Run) → o ≡ Some r → r.1.stores ≡ s.stores) → assigned x o ≡ Some t →
          t.stores ≡ s.stores
      go None h i = absurd (none-some t i)
      go (Some r) h i =
          let next : Run = record (r.1) { scalars = set_scalar x r.0 r.1.scalars } in
          ap (λ (y : Run). y.stores) (sym (same_Some next t i)) ∙ h r refl

  print_covered : (loops : List ℕ) (e : Expr) (certain : Bool) →
      Covered (λ s. option_map (printed s) (value e (names_in view loops s))) (expr_touches e loops certain)
  print_covered loops e certain s f t i =
      same_stores (expr_touches e loops certain) s t (reads_unsure _ (expr_reads e loops certain))
      (go (value e (names_in view loops s)) i)
    where
      go : (o : Option ℕ) → option_map (printed s) o ≡ Some t → t.stores ≡ s.stores
      go None h = absurd (none-some t h)
      go (Some n) h = ap (λ (y : Run). y.stores) (sym (same_Some (printed s n) t h))

  -- a store of what is given for its cell
  module _ (loops : List ℕ) (a : ArrayId) (place : Place) (e : Expr) (mark : Option CombineOp) (ss : List Touch)
      (unsure : Every Unsure ss) (given : Run → Cell → Option (ℕ × Run)) (certain : Bool)
    where
      abbrev written : Touch
      written = record {
        array = a;
        cells = interval e loops;
        is_write = true;
        certain = certain;
        combines = mark;
        place = place;
      }

      abbrev cell_at : ℕ → Cell
      cell_at i = record { array = a; index = i }

      -- of what a store touches only the store itself can be sure
      only_written : (c : Cell) →
          surely_writes (expr_touches e loops certain ++ (ss ++ written ∷ [])) c ≡ true →
          is_sure c written ≡ true
      only_written c h =
          let es = expr_touches e loops certain in
          ⊎_elim (λ k. absurd (none_sure es c (reads_unsure es (expr_reads e loops certain)) k))
          (λ k. ⊎_elim (λ j. absurd (none_sure ss c unsure j)) here (in_either ss _ c k))
          (in_either es (ss ++ written ∷ []) c h)
        where
          here : surely_writes (written ∷ []) c ≡ true → is_sure c written ≡ true
          here h = ⊎_elim (λ k. k) (λ k. absurd (false≢true k)) (or_cases (is_sure c written) false h)

      store_covered : AllSmall loops →
          ((s : Run) → Sound view view anywhere s → (i : ℕ) → Has (interval e loops) i → (r : ℕ × Run) → given s
          (cell_at i) ≡ Some r → r.1.stores ≡ s.stores) →
          Covered (λ s. option_and_then (λ i. stored view (cell_at i) (given s (cell_at i)))
          (value e (names_in view loops s)))
          (expr_touches e loops certain ++ (ss ++ written ∷ []))
      store_covered l known s f t h =
          let k = value_known view view anywhere small_view s loops e certain f.fine l (fits _) in
          indexed (value e (names_in view loops s)) k.has (known s f) h
        where
          touches : List Touch
          touches = expr_touches e loops certain ++ (ss ++ written ∷ [])

          pushed : (i : ℕ) (r : ℕ × Run) → Has (interval e loops) i → r.1.stores ≡ s.stores →
              t.stores ≡ r.1.stores ++ (cell_at i, r.0) ∷ [] → Covers touches s t
          pushed i r has same eq =
              record {
                kept =
                    λ c g. subst (λ (st : Stores). IsStored st c) (sym eq)
                    (push_stored r.1.stores (cell_at i) r.0 c (subst (λ (st : Stores). IsStored st c) (sym same) g));
                sure =
                    λ c g. subst (λ (st : Stores). IsStored st c) (sym eq)
                    (push_here r.1.stores (cell_at i) r.0 c (here c (only_written c g)));
              }
            where
              here : (c : Cell) → is_sure c written ≡ true → same_cell (cell_at i) c ≡ true
              here c g = go (same_cell (cell_at i) c) refl
                where
                  go : (b : Bool) → same_cell (cell_at i) c ≡ b → b ≡ true
                  go true k = refl
                  go false k =
                      absurd (false≢true (sym (sure_is view view small_view (cell_at i) c written
                      (in_cells a (interval e loops) i written refl refl has) k) ∙ g))

          viewed : (i : ℕ) (r : ℕ × Run) (old : Option ℕ) → Has (interval e loops) i → r.1.stores ≡ s.stores →
              option_map (λ (x : ℕ). let next : Run = record (r.1) { stores = r.1.stores ++ (cell_at i, r.0) ∷ [] } in
              next) old ≡ Some t → Covers touches s t
          viewed i r None has same k = absurd (none-some t k)
          viewed i r (Some x) has same k =
              let next : Run = record (r.1) { stores = r.1.stores ++ (cell_at i, r.0) ∷ [] } in
              pushed i r has same (ap (λ (y : Run). y.stores) (sym (same_Some next t k)))

          at : (i : ℕ) → Has (interval e loops) i →
              (q : Option (ℕ × Run)) → ((r : ℕ × Run) → q ≡ Some r → r.1.stores ≡ s.stores) →
              stored view (cell_at i) q ≡ Some t →
              Covers touches s t
          at i has None same k = absurd (none-some t k)
          at i has (Some r) same k = viewed i r (view (cell_at i)) has (same r refl) k

          indexed : (o : Option ℕ) → ((n : ℕ) → o ≡ Some n → Has (interval e loops) n) →
              ((i : ℕ) → Has (interval e loops) i → (r : ℕ × Run) → given s (cell_at i) ≡ Some r →
              r.1.stores ≡ s.stores) →
              option_and_then (λ i. stored view (cell_at i) (given s (cell_at i))) o ≡ Some t →
              Covers touches s t
          indexed None has same k = absurd (none-some t k)
          indexed (Some i) has same k = at i (has i refl) (given s (cell_at i)) (same i (has i refl)) k

  if_covered : (o : Option ℕ) (i : Interval) (f g : Run → Option Run) (xs ys : List Touch) →
      ((n : ℕ) → o ≡ Some n → Has i n) →
      (is_known_nonzero i ≡ false → Every Unsure xs) →
      (is_known_zero i ≡ false → Every Unsure ys) →
      Covered f xs →
      Covered g ys →
      Covered (choose o f g) (unless (is_known_zero i) xs ++ unless (is_known_nonzero i) ys)
  if_covered None i f g xs ys has ux uy cf cg s h t e = absurd (none-some t e)
  if_covered (Some zero) i f g xs ys has ux uy cf cg s h t e =
      let d = cg s h t e in
      let no = unless_unsure (is_known_zero i) xs (ux (not_nonzero i (has 0 refl))) in
      record {
        kept = d.kept;
        sure =
            λ c k. ⊎_elim (λ j. absurd (none_sure (unless (is_known_zero i) xs) c no j))
            (λ j. d.sure c (within_unless (is_known_nonzero i) ys c j))
            (in_either (unless (is_known_zero i) xs) (unless (is_known_nonzero i) ys) c k);
      }
  if_covered (Some (suc n)) i f g xs ys has ux uy cf cg s h t e =
      let d = cf s h t e in
      let no = unless_unsure (is_known_nonzero i) ys (uy (not_zero i n (has (suc n) refl))) in
      record {
        kept = d.kept;
        sure =
            λ c k. ⊎_elim (λ j. d.sure c (within_unless (is_known_zero i) xs c j))
            (λ j. absurd (none_sure (unless (is_known_nonzero i) ys) c no j))
            (in_either (unless (is_known_zero i) xs) (unless (is_known_nonzero i) ys) c k);
      }

  turns_covered : (b : Bounds) (loops : List ℕ) (certain : Bool) {m : _} (row : Row_of-Stmt m) →
      AllSmall loops →
      ((n : ℕ) → n < 2 ^ 64 → Covered (run_row row view (loops ++ n ∷ [])) (row_touches row (loops ++ n ∷ []) certain)) →
      (n at : ℕ) → n ≤ turns_left at b →
      Covered (turn n at b.step (λ k. run_row row view (loops ++ k ∷ [])))
      (turns_touch n at b.step (λ k. row_touches row (loops ++ k ∷ []) certain))
  turns_covered b loops certain row l each zero at le s h t e = same_stores [] s t tt
      (ap (λ (y : Run). y.stores) (sym (same_Some s t e)))
  turns_covered b loops certain row l each (suc n) at le s h t e =
      let below = turn_below b at n le in
      let here = loops ++ at ∷ [] in
      both_covered (row_touches row here certain) _ s (run_row row view here s)
      (turn n (at + b.step) b.step (λ k. run_row row view (loops ++ k ∷ []))) t
      (λ m i. each at below.0 s h m i)
      (λ m i j. turns_covered b loops certain row l each n (at + b.step) below.1 m
      ((row_outcome view view anywhere small_view row here certain (small_push loops at l below.0) s h (fits _)).sound
      m i) t j)
      e

  mutual
    stmt_covered : (st : Stmt) (loops : List ℕ) (certain : Bool) → AllSmall loops →
        Covered (run_stmt st view loops) (stmt_touches st loops certain)
    stmt_covered (Declare x src) loops certain l s h t e = assign_covered loops x.0 src certain l s h t e
    stmt_covered (Assign x src) loops certain l s h t e = assign_covered loops x.0 src certain l s h t e
    stmt_covered (Store a place e' src) loops certain l s h t e =
        store_covered loops a place e' None (source_touches src loops certain) (source_unsure src loops certain)
        (λ s c. source_of src view loops s) certain l
        (λ s f i _. (source_known view view anywhere small_view s loops src certain f.fine l (fits _)).stores) s h t e
    stmt_covered (Combine op a place e' x) loops certain l s h t e =
        let xs = expr_touches x loops certain ++ update_touch op a (interval e' loops) false certain place ∷ [] in
        store_covered loops a place e' (Some op) xs (reads_unsure xs (update_reads op a e' x place loops certain))
        (λ s c. updated_by op x c view loops s) certain l
        (λ s f i k. (updated_known view view anywhere small_view s loops op a place e' x certain f.fine l (fits xs)
        i k).stores) s h t e
    stmt_covered (Print e') loops certain l s h t e = print_covered loops e' certain s h t e
    stmt_covered (Block' shape all) loops certain l s h t e = row_covered all loops certain l s h t e
    stmt_covered (Loop' b shape all) loops certain l s h t e =
        turns_covered b loops certain all l (λ n below. row_covered all (loops ++ n ∷ []) certain
        (small_push loops n l below)) (turns_of b) b.first (omega arith) s h t e
    stmt_covered (If' c shape all shape' all') loops certain l s h t e =
        let i = interval c loops in
        let es = expr_touches c loops certain in
        let k = value_known view view anywhere small_view s loops c certain h.fine l (fits _) in
        let xs = row_touches all loops (certain && is_known_nonzero i) in
        let ys = row_touches all' loops (certain && is_known_zero i) in
        then_covers es _ s s t
        (same_stores es s s (reads_unsure es (expr_reads c loops certain)) refl)
        (if_covered (value c (names_in view loops s)) i (run_row all view loops) (run_row all' view loops) xs ys k.has
        (λ e. subst (λ b. Every Unsure (row_touches all loops b)) (sym (and_right certain (is_known_nonzero i) e))
        (row_unsure all loops))
        (λ e. subst (λ b. Every Unsure (row_touches all' loops b)) (sym (and_right certain (is_known_zero i) e))
        (row_unsure all' loops))
        (row_covered all loops (certain && is_known_nonzero i) l)
        (row_covered all' loops (certain && is_known_zero i) l) s h t e)

    row_covered : {m : _} (row : Row_of-Stmt m) (loops : List ℕ) (certain : Bool) → AllSmall loops →
        Covered (run_row row view loops) (row_touches row loops certain)
    row_covered end_of-Stmt loops certain l s h t e = same_stores [] s t tt
        (ap (λ (y : Run). y.stores) (sym (same_Some s t e)))
    row_covered (more_of-Stmt first rest) loops certain l s h t e =
        both_covered (stmt_touches first loops certain) (row_touches rest loops certain) s (run_stmt first view loops s)
        (run_row rest view loops) t
        (λ m i. stmt_covered first loops certain l s h m i)
        (λ m i j. row_covered rest loops certain l m
        ((stmt_outcome view view anywhere small_view first loops certain l s h (fits _)).sound m i) t j)
        e

  list_covered : (all : List Stmt) (loops : List ℕ) → AllSmall loops →
      Covered (run_list all view loops) (flat_map (λ st. stmt_touches st loops true) all)
  list_covered [] loops l s h t e = same_stores [] s t tt (ap (λ (y : Run). y.stores) (sym (same_Some s t e)))
  list_covered (first ∷ rest) loops l s h t e =
      both_covered (stmt_touches first loops true) (flat_map (λ st. stmt_touches st loops true) rest) s
      (run_stmt first view loops s) (run_list rest view loops) t
      (λ m i. stmt_covered first loops true l s h m i)
      (λ m i j. list_covered rest loops l m
      ((stmt_outcome view view anywhere small_view first loops true l s h (fits _)).sound m i) t j)
      e

-- what a region surely writes it has stored at its end
pub sure_writes_are_stored : SureWritesAreStored
sure_writes_are_stored r loops view scalars input run l bv bs bi e c h =
    (list_covered view bv r.body.items loops (small_list loops l)
    (record { scalars = scalars; stores = []; input = input; printed = [] })
    (record {
      fine = record { scalars = bs; input = small_list input bi; stores = λ c n e. absurd (none-some n e) };
      within = tt;
    })
    run e).sure
    c h
