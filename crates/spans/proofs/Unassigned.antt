-- Statements leave alone the scalars that they do not assign, and an input that is used up.
use Rattle.std.proofs.Common.{◌≡◌, ℕ, zero, suc, ◌+◌, ◌==◌, Bool, true, false, List, [], ◌∷◌, ◌++◌, Option, Some, None, refl, sym, ◌∙◌, ap, subst}
use Rattle.std.specs.Prelude.{◌||◌, option_map, option_and_then}
use Rattle.std.specs.List.{list_any}
use Rattle.std.proofs.lemmas.Bool.{false≢true, eqb-true, or_parts, cond-false, false_from_ne_true}
use Rattle.std.proofs.lemmas.Option.{same_Some, none-some}
use Rattle.std.proofs.lemmas.List.Folds.{list_any-append}
use Rattle.base.specs.declared.item.Cell.{Cell}
use Rattle.base.specs.declared.tree.CombineOp.{CombineOp}
use Rattle.base.specs.declared.tree.Expr.{Expr}
use Rattle.base.specs.declared.tree.Source.{Source}
use Rattle.base.specs.declared.tree.Source.TheVariants.{Value, Read}
use Rattle.base.specs.declared.tree.Stmt.{Stmt, Row_of-Stmt, end_of-Stmt, more_of-Stmt}
use Rattle.base.specs.declared.tree.Stmt.TheVariants.{Declare, Assign, Store, Combine, Print, Block', Loop', If'}
use Rattle.base.specs.Memory.{View}
use Rattle.base.specs.Value.{value, on_both, combined}
use Rattle.base.specs.Meaning.{Run, seen, names_in, read_next, source_of, updated_by, set_scalar, assigned, stored, printed, choose, turn, turns_of, run_stmt, run_row}
use Rattle.base.specs.ScalarUse.{stmt_assigned, row_assigned}
use Rattle.spans.proofs.Known.{then_parts, map_parts}
use Rattle.spans.proofs.ScalarNeeds.{read_none, read_one}

-- of some scalars none is assigned
module _ (view : View) (kept : ℕ → Bool) where
  pub record Leaves (s t : Run) : Type 0 where
    pub scalars : (x : ℕ) → kept x ≡ true → t.scalars x ≡ s.scalars x
    pub input : s.input ≡ [] → t.input ≡ []

  stays : (s t : Run) → Some s ≡ Some t → Leaves s t
  stays s t e = subst (Leaves s) (same_Some s t e) (record { scalars = λ x h. refl; input = λ h. h })

  after : (s t u : Run) → Leaves s t → Leaves t u → Leaves s u
  after s t u a b =
      record { scalars = λ x h. b.scalars x h ∙ a.scalars x h; input = λ h. b.input (a.input h) }

  read_leaves : (s : Run) → Leaves s (read_next s).1
  read_leaves s = go s.input refl
    where
      go : (i : List ℕ) → s.input ≡ i → Leaves s (read_next s).1
      go [] e = subst (λ (p : ℕ × Run). Leaves s p.1) (sym (read_none s e)) (stays s s refl)
      go (x ∷ rest) e =
          subst (λ (p : ℕ × Run). Leaves s p.1) (sym (read_one s x rest e))
          (record { scalars = λ x h. refl; input = λ h. absurd (cc) })

  source_leaves : (v : Source) (loops : List ℕ) (s : Run) (r : ℕ × Run) → source_of v view loops s ≡ Some r →
      Leaves s r.1
  source_leaves (Value e) loops s r h =
      let p = map_parts (λ v. (v, s)) (value e (names_in view loops s)) r h in
      subst (λ (r : ℕ × Run). Leaves s r.1) p.2 (stays s s refl)
  source_leaves Read loops s r h =
      subst (λ (r : ℕ × Run). Leaves s r.1) (same_Some (read_next s) r h) (read_leaves s)

  set_leaves : (y n : ℕ) (s : Run) → kept y ≡ false → Leaves s (record s { scalars = set_scalar y n s.scalars })
  set_leaves y n s h = record {
    scalars = λ x k. cond-false (y == x) n (s.scalars x)
        (false_from_ne_true (y == x) (λ e. false≢true (sym h ∙ (ap kept (eqb-true y x e) ∙ k))));
    input = λ e. e;
  }

  assign_leaves : (y : ℕ) (v : Source) (loops : List ℕ) (s t : Run) → (kept y || false) ≡ false →
      assigned y (source_of v view loops s) ≡ Some t → Leaves s t
  assign_leaves y v loops s t h e =
      let p = map_parts (λ (r : ℕ × Run). record (r.1) { scalars = set_scalar y r.0 r.1.scalars })
      (source_of v view loops s) t e in
      let next : Run = record (p.0.1) { scalars = set_scalar y p.0.0 p.0.1.scalars } in
      subst (Leaves s) p.2
      (after s p.0.1 next (source_leaves v loops s p.0 p.1) (set_leaves y p.0.0 p.0.1 (or_parts (kept y) false h).0))

  updated_leaves : (op : CombineOp) (e : Expr) (d : Cell) (loops : List ℕ) (s : Run) (r : ℕ × Run) →
      updated_by op e d view loops s ≡ Some r → Leaves s r.1
  updated_leaves op e d loops s r h =
      let p = map_parts (λ v. (v, s)) (on_both (combined op) (seen view s.stores d) (value e (names_in view loops s))) r
      h in
      subst (λ (r : ℕ × Run). Leaves s r.1) p.2 (stays s s refl)

  store_leaves : (c : ℕ → Cell) (e : Expr) (given : Cell → Option (ℕ × Run)) (loops : List ℕ) (s t : Run) →
      ((d : Cell) (r : ℕ × Run) → given d ≡ Some r → Leaves s r.1) →
      option_and_then (λ i. stored view (c i) (given (c i))) (value e (names_in view loops s)) ≡ Some t →
      Leaves s t
  store_leaves c e given loops s t leaves h =
      let p = then_parts (λ i. stored view (c i) (given (c i))) (value e (names_in view loops s)) t h in
      let q = then_parts
      (λ (r : ℕ × Run). option_map (λ old. record (r.1) { stores = r.1.stores ++ (c p.0, r.0) ∷ [] }) (view (c p.0)))
      (given (c p.0)) t p.2 in
      let r : ℕ × Run = q.0 in
      let o = map_parts (λ old. record (r.1) { stores = r.1.stores ++ (c p.0, r.0) ∷ [] }) (view (c p.0)) t q.2 in
      let a = leaves (c p.0) r q.1 in
      subst (Leaves s) o.2 (record { scalars = a.scalars; input = a.input })

  turns_leave : (f : ℕ → Run → Option Run) → ((v : ℕ) (s t : Run) → f v s ≡ Some t → Leaves s t) →
      (n v step : ℕ) (s t : Run) → turn n v step f s ≡ Some t → Leaves s t
  turns_leave f each zero v step s t e = stays s t e
  turns_leave f each (suc n) v step s t e = go (f v s) refl e (λ u g. turns_leave f each n (v + step) step u t g)
    where
      go : (o : Option Run) → f v s ≡ o → elim o [ None ↦ None | Some u ↦ turn n (v + step) step f u ] ≡ Some t →
          ((u : Run) → turn n (v + step) step f u ≡ Some t → Leaves u t) → Leaves s t
      go None is g again = absurd (none-some t g)
      go (Some u) is g again = after s u t (each v s u is) (again u g)

  if_leaves : (o : Option ℕ) (f g : Run → Option Run) (s t : Run) → choose o f g s ≡ Some t →
      (f s ≡ Some t → Leaves s t) → (g s ≡ Some t → Leaves s t) → Leaves s t
  if_leaves None f g s t e one two = absurd (none-some t e)
  if_leaves (Some zero) f g s t e one two = two e
  if_leaves (Some (suc n)) f g s t e one two = one e

  both_free : (xs ys : List ℕ) → list_any kept (xs ++ ys) ≡ false →
      (list_any kept xs ≡ false) × (list_any kept ys ≡ false)
  both_free xs ys h = or_parts (list_any kept xs) (list_any kept ys) (sym (list_any-append kept xs ys) ∙ h)

  mutual
    pub stmt_leaves : (st : Stmt) (loops : List ℕ) (s t : Run) → list_any kept (stmt_assigned st) ≡ false →
        run_stmt st view loops s ≡ Some t → Leaves s t
    stmt_leaves (Declare y v) loops s t h e = assign_leaves y.0 v loops s t h e
    stmt_leaves (Assign y v) loops s t h e = assign_leaves y.0 v loops s t h e
    stmt_leaves (Store a place i v) loops s t h e =
        store_leaves (λ i. record { array = a; index = i }) i (λ d. source_of v view loops s) loops s t
        (λ d r k. source_leaves v loops s r k) e
    stmt_leaves (Combine op a place i v) loops s t h e =
        store_leaves (λ i. record { array = a; index = i }) i (λ d. updated_by op v d view loops s) loops s t
        (λ d r k. updated_leaves op v d loops s r k) e
    stmt_leaves (Print i) loops s t h e =
        let q = map_parts (printed s) (value i (names_in view loops s)) t e in
        subst (Leaves s) q.2 (record { scalars = λ x h. refl; input = λ h. h })
    stmt_leaves (Block' shape all) loops s t h e = row_leaves all loops s t h e
    stmt_leaves (Loop' b shape all) loops s t h e =
        turns_leave (λ v. run_row all view (loops ++ v ∷ []))
        (λ v s t e. row_leaves all (loops ++ v ∷ []) s t h e) (turns_of b) b.first b.step s t e
    stmt_leaves (If' c shape all shape' all') loops s t h e =
        let p = both_free (row_assigned all) (row_assigned all') h in
        if_leaves (value c (names_in view loops s)) (run_row all view loops) (run_row all' view loops) s t e
        (λ e. row_leaves all loops s t p.0 e) (λ e. row_leaves all' loops s t p.1 e)

    row_leaves : {m : _} (row : Row_of-Stmt m) (loops : List ℕ) (s t : Run) →
        list_any kept (row_assigned row) ≡ false → run_row row view loops s ≡ Some t → Leaves s t
    row_leaves end_of-Stmt loops s t h e = stays s t e
    row_leaves (more_of-Stmt first rest) loops s t h e =
        let p = both_free (stmt_assigned first) (row_assigned rest) h in
        let q = then_parts (run_row rest view loops) (run_stmt first view loops s) t e in
        after s q.0 t (stmt_leaves first loops s q.0 p.0 q.1) (row_leaves rest loops q.0 t p.1 q.2)
