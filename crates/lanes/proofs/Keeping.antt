-- Turns leave the scalars that they do not assign.
use Rattle.std.proofs.Common.{◌≡◌, ℕ, zero, suc, ◌+◌, Bool, true, false, List, [], ◌∷◌, ◌++◌, Option, Some, None, refl, sym, ap, ◌∙◌}
use Rattle.std.specs.Prelude.{◌&&◌, option_and_then, option_map}
use Rattle.std.proofs.lemmas.Bool.{and_parts, false≢true}
use Rattle.std.proofs.lemmas.Option.{same_Some}
use mathlib.Core.Former.{Count}
use Rattle.base.specs.declared.item.Cell.{Cell}
use Rattle.base.specs.declared.tree.ArrayId.{ArrayId}
use Rattle.base.specs.declared.tree.Source.TheVariants.{Value, Read}
use Rattle.base.specs.declared.tree.Stmt.{Stmt, Row_of-Stmt, end_of-Stmt, more_of-Stmt}
use Rattle.base.specs.declared.tree.Stmt.TheVariants.{Declare, Assign, Store, Combine, Print, Block', Loop', If'}
use Rattle.base.specs.Memory.{View}
use Rattle.base.specs.Value.{value}
use Rattle.base.specs.Meaning.{Run, names_in, set_scalar, assigned, stored, choose, turn, run_stmt, run_row, run_list}
use Rattle.lanes.specs.Apart.{Set, Kept}
use Rattle.lanes.proofs.Branches.{items, AllOf, OfBranches, of_body, run_items}
use Rattle.lanes.proofs.Deltas.{set_kept}

abbrev mutual
  -- an assignment, of one of these scalars where it is of a scalar, or a choice of such
  pub assigns_only : Set → Stmt → Bool
  assigns_only own (Declare x (Value e)) = own x.0
  assigns_only own (Declare x Read) = false
  assigns_only own (Assign x (Value e)) = own x.0
  assigns_only own (Assign x Read) = false
  assigns_only own (Store a place e (Value f)) = true
  assigns_only own (Store a place e Read) = false
  assigns_only own (Combine op c place e v) = false
  assigns_only own (Print e) = false
  assigns_only own (Block' shape all) = false
  assigns_only own (Loop' b shape all) = false
  assigns_only own (If' c shape all shape' all') = row_assigns own all && row_assigns own all'

  pub row_assigns : {m : _} → Set → Row_of-Stmt m → Bool
  row_assigns own end_of-Stmt = true
  row_assigns own (more_of-Stmt first rest) = assigns_only own first && row_assigns own rest

abbrev pub all_assign : Set → List Stmt → Bool
all_assign own [] = true
all_assign own (first ∷ rest) = assigns_only own first && all_assign own rest

pub assigns_items : (own : Set) (n : Count) (row : Row_of-Stmt n) → row_assigns own row ≡ all_assign own (items row)
assigns_items own n end_of-Stmt = refl
assigns_items own n (more_of-Stmt first rest) = ap (λ b. assigns_only own first && b) (assigns_items own _ rest)

module _ (own : Set) where
  abbrev pub Keep : (Run → Option Run) → Type 0
  Keep f = (s t : Run) → f s ≡ Some t → Kept own s.scalars t.scalars

  assigned_keeps : (x : ℕ) (o : Option ℕ) → own x ≡ true → (s t : Run) →
      assigned x (option_map (λ n. (n, s)) o) ≡ Some t → Kept own s.scalars t.scalars
  assigned_keeps x None its s t h = absurd cc
  assigned_keeps x (Some n) its s t h =
      let e = same_Some (record s { scalars = set_scalar x n s.scalars }) t h in
      λ y o. ap (λ (r : Run). r.scalars y) (sym e) ∙ set_kept own s.scalars s.scalars x n its (λ z k. refl) y o

  stored_keeps : (view : View) (a : ArrayId) (oi ov : Option ℕ) (s t : Run) →
      option_and_then (λ i. stored view (record { array = a; index = i }) (option_map (λ n. (n, s)) ov)) oi ≡ Some t →
      Kept own s.scalars t.scalars
  stored_keeps view a None ov s t h = absurd cc
  stored_keeps view a (Some i) None s t h = absurd cc
  stored_keeps view a (Some i) (Some n) s t h = go (record { array = a; index = i }) (view (record { array = a; index = i })) h
    where
      go : (c : Cell) (there : Option ℕ) →
          option_map (λ old. record s { stores = s.stores ++ (c, n) ∷ [] }) there ≡ Some t → Kept own s.scalars t.scalars
      go c None h = absurd cc
      go c (Some old) h =
          λ y o. ap (λ (r : Run). r.scalars y) (sym (same_Some (record s { stores = s.stores ++ (c, n) ∷ [] }) t h))

  then_keeps : (f g : Run → Option Run) → Keep f → Keep g → Keep (λ s. option_and_then g (f s))
  then_keeps f g h k s t e = go (f s) refl e
    where
      go : (o : Option Run) → f s ≡ o → option_and_then g o ≡ Some t → Kept own s.scalars t.scalars
      go None is e = absurd cc
      go (Some u) is e = λ x o. k u t e x o ∙ h s u is x o

  module _ (view : View) (loops : List ℕ) where
    abbrev IsKeeping : Stmt → Type 0
    IsKeeping first = assigns_only own first ≡ true → Keep (run_stmt first view loops)

    all_keep : (body : List Stmt) → AllOf IsKeeping body → all_assign own body ≡ true →
        Keep (run_list body view loops)
    all_keep [] each its s t h = λ x o. ap (λ (r : Run). r.scalars x) (sym (same_Some s t h))
    all_keep (first ∷ rest) each its s t h =
        let p = and_parts (assigns_only own first) (all_assign own rest) its in
        then_keeps (run_stmt first view loops) (run_list rest view loops) (each.0 p.0)
        (λ u w e. all_keep rest each.1 p.1 u w e) s t h

    row_keeps : (n : Count) (row : Row_of-Stmt n) → AllOf IsKeeping (items row) → row_assigns own row ≡ true →
        Keep (run_row row view loops)
    row_keeps n row each its s t h =
        all_keep (items row) each (sym (assigns_items own n row) ∙ its) s t (sym (run_items n row view loops s) ∙ h)

    choice_keeps : (o : Option ℕ) (f g : Run → Option Run) → Keep f → Keep g → Keep (choose o f g)
    choice_keeps None f g h k s t e = absurd cc
    choice_keeps (Some zero) f g h k s t e = k s t e
    choice_keeps (Some (suc n)) f g h k s t e = h s t e

    one_keeps : (first : Stmt) → OfBranches IsKeeping first → IsKeeping first
    one_keeps (Declare x (Value e)) each its s t h = assigned_keeps x.0 (value e (names_in view loops s)) its s t h
    one_keeps (Declare x Read) each its s t h = absurd (false≢true its)
    one_keeps (Assign x (Value e)) each its s t h = assigned_keeps x.0 (value e (names_in view loops s)) its s t h
    one_keeps (Assign x Read) each its s t h = absurd (false≢true its)
    one_keeps (Store a place e (Value f)) each its s t h =
        stored_keeps view a (value e (names_in view loops s)) (value f (names_in view loops s)) s t h
    one_keeps (Store a place e Read) each its s t h = absurd (false≢true its)
    one_keeps (Combine op c place e v) each its s t h = absurd (false≢true its)
    one_keeps (Print e) each its s t h = absurd (false≢true its)
    one_keeps (Block' shape all) each its s t h = absurd (false≢true its)
    one_keeps (Loop' b shape all) each its s t h = absurd (false≢true its)
    one_keeps (If' c shape all shape' all') each its s t h =
        let p = and_parts (row_assigns own all) (row_assigns own all') its in
        choice_keeps (value c (names_in view loops s)) (run_row all view loops) (run_row all' view loops)
        (row_keeps _ all each.0 p.0) (row_keeps _ all' each.1 p.1) s t h

  pub body_keeps : (view : View) (loops : List ℕ) (body : List Stmt) → all_assign own body ≡ true →
      Keep (run_list body view loops)
  body_keeps view loops body its =
      all_keep view loops body (of_body (IsKeeping view loops) (one_keeps view loops) body) its

  pub turns_keep : (step : ℕ) (f : ℕ → Run → Option Run) → ((v : ℕ) → Keep (f v)) → (n v : ℕ) → Keep (turn n v step f)
  turns_keep step f h zero v s t e = λ x o. ap (λ (r : Run). r.scalars x) (sym (same_Some s t e))
  turns_keep step f h (suc n) v s t e = go (λ u k. turns_keep step f h n (v + step) u t k) (f v s) refl e
    where
      go : ((u : Run) → turn n (v + step) step f u ≡ Some t → Kept own u.scalars t.scalars) →
          (o : Option Run) → f v s ≡ o →
          elim o as (λ q. Option Run) [ None ↦ None | Some u ↦ turn n (v + step) step f u ] ≡ Some t → Kept own s.scalars t.scalars
      go again None is e = absurd cc
      go again (Some u) is e = λ x o. again u e x o ∙ h v s u is x o
