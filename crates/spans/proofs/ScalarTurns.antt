-- Statements that are done beside each other on scalars that are alike where they are needed.
use Rattle.std.proofs.Common.{◌≡◌, ℕ, zero, suc, Bool, true, false, List, [], ◌∷◌, ◌++◌, Option, Some, None, refl, sym, ◌∙◌, ap, subst, arith}
use Rattle.std.specs.Prelude.{◌&&◌, ◌||◌, nat_lt, option_map, option_and_then}
use Rattle.std.proofs.lemmas.Bool.{false≢true, or_left, or_right, and_parts, and_from}
use Rattle.std.proofs.lemmas.Bool.Decides.{nat_tests}
use Rattle.std.proofs.lemmas.Option.{none-some}
use Rattle.base.specs.declared.item.Cell.{Cell}
use Rattle.base.specs.declared.tree.Expr.{Expr}
use Rattle.base.specs.declared.tree.Stmt.{Stmt, Row_of-Stmt, end_of-Stmt, more_of-Stmt}
use Rattle.base.specs.declared.tree.Stmt.TheVariants.{Declare, Assign, Store, Combine, Print, Block', Loop', If'}
use Rattle.base.specs.Memory.{View, Scalars}
use Rattle.base.specs.Value.{value}
use Rattle.base.specs.Meaning.{Run, names_in, source_of, stored, updated_by, printed, choose, turn, turns_of, run_stmt, run_row}
use Rattle.base.specs.ScalarUse.{expr_reads, source_reads, sets, stmt_needs, row_needs, list_needs}
use Rattle.spans.proofs.Known.{then_parts, map_parts}
use Rattle.spans.proofs.DoneBeside.{DoesBeside, same_end, fewer_follow, then_beside, some, turns_beside}
use Rattle.spans.specs.Spans.{sure_by, row_sure}
use Rattle.base.proofs.LoopTurns.{one_turn_less}
use Rattle.base.specs.declared.tree.Bounds.{Bounds}
use Rattle.spans.proofs.ScalarNeeds.{Beside, Follows, Sourced, names_alike, source_follows, updated_follows, assign_follows}

module _ (view : View) where
  -- a store of what is given for its cell
  store_beside : (c : ℕ → Cell) (loops : List ℕ) (e : Expr) (needed : ℕ → Bool)
      (given : Run → Cell → Option (ℕ × Run)) →
      ((s s' : Run) (b : Beside s s') → ((x : ℕ) → needed x ≡ true → s'.scalars x ≡ s.scalars x) → (d : Cell)
      (r : ℕ × Run) → given s d ≡ Some r → Sourced view loops s s' b r (given s' d)) →
      DoesBeside (λ x. expr_reads x e || needed x) (λ x. false)
      (λ s. option_and_then (λ i. stored view (c i) (given s (c i))) (value e (names_in view loops s)))
  store_beside c loops e needed given follows s s' t b h k =
      let p = then_parts (λ i. stored view (c i) (given s (c i))) (value e (names_in view loops s)) t k in
      let q = then_parts
      (λ (r : ℕ × Run). option_map (λ old. record (r.1) { stores = r.1.stores ++ (c p.0, r.0) ∷ [] }) (view (c p.0)))
      (given s (c p.0)) t p.2 in
      let r : ℕ × Run = q.0 in
      let o = map_parts (λ old. record (r.1) { stores = r.1.stores ++ (c p.0, r.0) ∷ [] }) (view (c p.0)) t q.2 in
      let f = follows s s' b (λ x k. h x (or_right (expr_reads x e) (needed x) k)) (c p.0) r q.1 in
      let same : value e (names_in view loops s') ≡ Some p.0 = names_alike view loops s s' b e
      (λ x k. h x (or_left (expr_reads x e) (needed x) k)) ∙ p.1 in
      subst (λ (t : Run). Follows s s' t (λ x. false) (option_and_then
      (λ i. stored view (c i) (given s' (c i))) (value e (names_in view loops s')))) o.2
      (record {
        end = record (f.end) { stores = f.end.stores ++ (c p.0, r.0) ∷ [] };
        is =
            ap (option_and_then (λ i. stored view (c i) (given s' (c i)))) same
            ∙ (ap (stored view (c p.0)) f.is
            ∙ ap (option_map (λ old. record (f.end) { stores = f.end.stores ++ (c p.0, r.0) ∷ [] })) o.1);
        beside = record {
          stores = ap (λ st. st ++ (c p.0, r.0) ∷ []) f.beside.stores;
          input = f.beside.input;
          printed = f.beside.printed;
        };
        kept =
            λ x k. ap (λ (g : Scalars). g x) f.there ∙ (k ∙ sym (ap (λ (g : Scalars). g x) f.here));
        alike = λ x k. absurd (false≢true k);
      })

  print_beside : (loops : List ℕ) (e : Expr) → DoesBeside (λ x. expr_reads x e) (λ x. false)
      (λ s. option_map (printed s) (value e (names_in view loops s)))
  print_beside loops e s s' t b h k =
      let q = map_parts (printed s) (value e (names_in view loops s)) t k in
      subst (λ (t : Run). Follows s s' t (λ x. false) (option_map (printed s') (value e (names_in view loops s')))) q.2
      (record {
        end = printed s' q.0;
        is = ap (option_map (printed s')) (names_alike view loops s s' b e h ∙ q.1);
        beside = record {
          stores = b.stores;
          input = b.input;
          printed = ap (λ (ns : List ℕ). ns ++ q.0 ∷ []) b.printed;
        };
        kept = λ x k. k;
        alike = λ x k. absurd (false≢true k);
      })

  if_beside : (loops : List ℕ) (c : Expr) (n n' sure sure' : ℕ → Bool) (f g : Run → Option Run) →
      DoesBeside n sure f → DoesBeside n' sure' g →
      DoesBeside (λ x. expr_reads x c || (n x || n' x)) (λ x. sure x && sure' x)
      (λ s. choose (value c (names_in view loops s)) f g s)
  if_beside loops c n n' sure sure' f g one two s s' t b h e = go (value c (names_in view loops s)) refl e
    where
      both : ℕ → Bool
      both x = sure x && sure' x

      same : value c (names_in view loops s') ≡ value c (names_in view loops s)
      same = names_alike view loops s s' b c (λ x k. h x (or_left (expr_reads x c) (n x || n' x) k))

      moved : (o : Option ℕ) → value c (names_in view loops s) ≡ o → Follows s s' t both (choose o f g s') →
          Follows s s' t both (choose (value c (names_in view loops s')) f g s')
      moved o is w =
          subst (λ o. Follows s s' t both (choose o f g s')) (sym (same ∙ is)) w

      go : (o : Option ℕ) → value c (names_in view loops s) ≡ o → choose o f g s ≡ Some t →
          Follows s s' t both (choose (value c (names_in view loops s')) f g s')
      go None is k = absurd (none-some t k)
      go (Some zero) is k =
          moved (Some zero) is (fewer_follow sure' both s s' t (g s') (λ x q. (and_parts (sure x) (sure' x) q).1)
          (two s s' t b (λ x q. h x (or_right (expr_reads x c) (n x || n' x) (or_right (n x) (n' x) q))) k))
      go (Some (suc m)) is k =
          moved (Some (suc m)) is (fewer_follow sure both s s' t (f s') (λ x q. (and_parts (sure x) (sure' x) q).0)
          (one s s' t b (λ x q. h x (or_right (expr_reads x c) (n x || n' x) (or_left (n x) (n' x) q))) k))

  -- a loop that has turns
  has_turns : (b : Bounds) → nat_lt b.first b.end ≡ true → some (turns_of b) ≡ true
  has_turns b h = ap some (one_turn_less b.first b (grind (arith, nat_tests)))

  loop_beside : (b : Bounds) (needed sure : ℕ → Bool) (f : ℕ → Run → Option Run) →
      ((v : ℕ) → DoesBeside needed sure (f v)) →
      DoesBeside needed (λ x. nat_lt b.first b.end && sure x) (turn (turns_of b) b.first b.step f)
  loop_beside b needed sure f each s s' t d h e =
      fewer_follow (λ x. some (turns_of b) && sure x) (λ x. nat_lt b.first b.end && sure x) s s' t
      (turn (turns_of b) b.first b.step f s')
      (λ x k. let p = and_parts (nat_lt b.first b.end) (sure x) k in
      and_from (some (turns_of b)) (sure x) (has_turns b p.0) p.1)
      (turns_beside needed sure f each (turns_of b) b.first b.step s s' t d h e)

  -- what is assigned is assigned for certain
  sets_sure : (x : ℕ) (st : Stmt) → sets x st ≡ true → sure_by x st ≡ true
  sets_sure x (Declare y v) h = h
  sets_sure x (Assign y v) h = h
  sets_sure x (Store a place e v) h = absurd (false≢true h)
  sets_sure x (Combine op a place e v) h = absurd (false≢true h)
  sets_sure x (Print e) h = absurd (false≢true h)
  sets_sure x (Block' shape all) h = absurd (false≢true h)
  sets_sure x (Loop' b shape all) h = absurd (false≢true h)
  sets_sure x (If' c shape all shape' all') h = absurd (false≢true h)

  mutual
    pub stmt_beside : (st : Stmt) (loops : List ℕ) →
        DoesBeside (λ x. stmt_needs x st) (λ x. sure_by x st) (run_stmt st view loops)
    stmt_beside (Declare y v) loops = λ s s' t b h e. assign_follows view loops s s' b y.0 v t h e
    stmt_beside (Assign y v) loops = λ s s' t b h e. assign_follows view loops s s' b y.0 v t h e
    stmt_beside (Store a place e v) loops =
        store_beside (λ i. record { array = a; index = i }) loops e (λ x. source_reads x v)
        (λ s d. source_of v view loops s) (λ s s' b h d r k. source_follows view loops s s' b v r h k)
    stmt_beside (Combine op a place e v) loops =
        store_beside (λ i. record { array = a; index = i }) loops e (λ x. expr_reads x v)
        (λ s d. updated_by op v d view loops s) (λ s s' b h d r k. updated_follows view loops s s' b op v d r h k)
    stmt_beside (Print e) loops = print_beside loops e
    stmt_beside (Block' shape all) loops = row_beside all loops
    stmt_beside (Loop' d shape all) loops =
        loop_beside d (λ x. row_needs x all) (λ x. row_sure x all) (λ v. run_row all view (loops ++ v ∷ []))
        (λ v. row_beside all (loops ++ v ∷ []))
    stmt_beside (If' c shape all shape' all') loops =
        if_beside loops c (λ x. row_needs x all) (λ x. row_needs x all') (λ x. row_sure x all) (λ x. row_sure x all')
        (run_row all view loops) (run_row all' view loops) (row_beside all loops) (row_beside all' loops)

    row_beside : {m : _} (row : Row_of-Stmt m) (loops : List ℕ) →
        DoesBeside (λ x. row_needs x row) (λ x. row_sure x row) (run_row row view loops)
    row_beside end_of-Stmt loops = λ s s' t b h e. same_end s s' t b e
    row_beside (more_of-Stmt first rest) loops =
        then_beside (λ x. stmt_needs x first) (λ x. sets x first) (λ x. sure_by x first) (λ x. row_needs x rest)
        (λ x. row_sure x rest) (run_stmt first view loops) (run_row rest view loops) (λ x. sets_sure x first)
        (stmt_beside first loops) (row_beside rest loops)
