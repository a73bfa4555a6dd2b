use Rattle.std.proofs.Common.{rules, ◌≡◌, ◌∙◌, false, true, ◌∷◌, [], ap, arith, length, refl, subst, sym, take, ℕ, ◌<◌, List}
use Rattle.std.proofs.Math.Seq.{take-length}
use Rattle.base.specs.declared.tree.Stmt.{Stmt}
use Rattle.base.specs.declared.tree.Stmt.TheViews.{the_lemmas}
use Rattle.base.specs.Footprint.{expr_touches, source_touches, stmt_touches, update_touch}
use Rattle.base.specs.Interval.{interval}
use Rattle.ranges.specs.Seen.{list_touches}
use Rattle.ranges.specs.Strides.{Holds, HoldsAsMuch}
use Rattle.ranges.specs.declared.touched.Touched.TheVariants.{Nothing}
use Rattle.ranges.proofs.HeldStatements.{held_Block, held_If, held_Loop, held_more, held_no_turn, held_turns}
use Rattle.ranges.proofs.HeldTouches.{appended, less, one_held, store_touch}
use Rattle.ranges.proofs.SettledStatements.{if_ok}
use Rattle.ranges.proofs.touched.+touched.Goals as goal

pub touched_all-loop-s-init : goal.touched_all-loop-s-init
touched_all-loop-s-init t c = record { lows = refl; highs = refl; all = λ loops certain between. tt }

pub touched_all-touched_stmt-requires : goal.touched_all-touched_stmt-requires
touched_all-touched_stmt-requires t c =
    (search (rules, the_lemmas), subst (λ (xs : List ℕ). c.args.q.level < length xs) (sym c.loop-s.invariant.lows) c.requires.level)

pub touched_all-loop-s-preserved : goal.touched_all-loop-s-preserved
touched_all-loop-s-preserved t c =
    let q = c.args.q in
    let lows = c.args.span.now.lows.items in
    let highs = c.args.span.now.highs.items in
    let r = c.with-touched.result in
    record {
      lows = c.in_ok-touched_stmt.ensures.lows ∙ c.loop-s.invariant.lows;
      highs = c.in_ok-touched_stmt.ensures.highs ∙ c.loop-s.invariant.highs;
      all =
          held_more q lows highs r c.args.all.now c.loop-s.s-index c.s-item.result c.loop-s-test.true c.s-item.is
          (less q lows highs r c.loop-s.touched _ c.with-touched.ensures.left c.loop-s.invariant.all)
          (less q lows highs r c.in_ok-touched_stmt.field-0 (stmt_touches c.s-item.result) c.with-touched.ensures.right
          (subst (λ (xs : List ℕ). Holds q xs highs c.in_ok-touched_stmt.field-0 (stmt_touches c.s-item.result)) c.loop-s.invariant.lows
          (subst (λ (xs : List ℕ). Holds q c.loop-s.span.lows.items xs c.in_ok-touched_stmt.field-0 (stmt_touches c.s-item.result))
          c.loop-s.invariant.highs c.in_ok-touched_stmt.ensures.holds)));
    }

pub touched_all-returns-clause-lows : goal.touched_all-returns-clause-lows
touched_all-returns-clause-lows t c = c.loop-s.invariant.lows

pub touched_all-returns-clause-highs : goal.touched_all-returns-clause-highs
touched_all-returns-clause-highs t c = c.loop-s.invariant.highs

pub touched_all-returns-clause-holds : goal.touched_all-returns-clause-holds
touched_all-returns-clause-holds t c =
    subst (λ (xs : List Stmt). Holds c.args.q c.args.span.now.lows.items c.args.span.now.highs.items c.loop-s.touched (list_touches xs))
    (ap (λ n. take n c.args.all.now) (omega (arith, c.loop-s-test.false, c.loop-s.auto.s-index-end)) ∙ take-length c.args.all.now)
    c.loop-s.invariant.all

pub touched_stmt-returns-then-bounds-clause-holds :
    goal.touched_stmt-returns-then-bounds-clause-holds
touched_stmt-returns-then-bounds-clause-holds t c =
    held_no_turn c.args.q c.args.span.now.lows.items c.args.span.now.highs.items Nothing c.args.s.now c.in-Loop.bounds c.in-Loop.body
    c.in-Loop.is c.if-bounds.true

pub touched_stmt-returns-in-Store-clause-holds : goal.touched_stmt-returns-in-Store-clause-holds
touched_stmt-returns-in-Store-clause-holds t c =
    let q = c.args.q in
    let lows = c.args.span.now.lows.items in
    let highs = c.args.span.now.highs.items in
    let it = c.in-Store in
    let r = c.with-in-Store.result in
    let f = expr_touches c.in-Store.e in
    let g = source_touches c.in-Store.v in
    let before : HoldsAsMuch c.with.result r = c.with-in-Store.ensures.left in
    subst (λ (x : Stmt). Holds q lows highs r (stmt_touches x)) (sym c.in-Store.is)
    (appended q lows highs r f _
    (less q lows highs r c.touched_expr.result f (λ q s t a. before q s t (c.with.ensures.left q s t a)) c.touched_expr.ensures)
    (appended q lows highs r g _
    (less q lows highs r c.touched_source.result g (λ q s t a. before q s t (c.with.ensures.right q s t a)) c.touched_source.ensures)
    (less q lows highs r c.touched_access.result (λ loops d. store_touch it.array (interval it.e loops) d it.field-1 ∷ [])
    c.with-in-Store.ensures.right
    (one_held q lows highs c.touched_access.result (λ loops d. store_touch it.array (interval it.e loops) d it.field-1)
    (λ loops d between. c.touched_access.ensures loops (store_touch it.array (interval it.e loops) d it.field-1) between refl refl)))))

pub touched_stmt-returns-in-Combine-clause-holds :
    goal.touched_stmt-returns-in-Combine-clause-holds
touched_stmt-returns-in-Combine-clause-holds t c =
    let q = c.args.q in
    let lows = c.args.span.now.lows.items in
    let highs = c.args.span.now.highs.items in
    let it = c.in-Combine in
    let r = c.with-in-Combine-2.result in
    let f = expr_touches c.in-Combine.e in
    let g = expr_touches c.in-Combine.v in
    let before : HoldsAsMuch c.with-in-Combine.result r = c.with-in-Combine-2.ensures.left in
    let cell = c.touched_access-in-Combine.ensures in
    subst (λ (x : Stmt). Holds q lows highs r (stmt_touches x)) (sym c.in-Combine.is)
    (appended q lows highs r f _
    (less q lows highs r c.touched_expr-in-Combine.result f (λ q s t a. before q s t (c.with-in-Combine.ensures.left q s t a))
    c.touched_expr-in-Combine.ensures)
    (appended q lows highs r _ _
    (appended q lows highs r g _
    (less q lows highs r c.touched_expr-in-Combine-2.result g (λ q s t a. before q s t (c.with-in-Combine.ensures.right q s t a))
    c.touched_expr-in-Combine-2.ensures)
    (less q lows highs r c.touched_access-in-Combine.result
    (λ loops d. update_touch it.field-0 it.array (interval it.e loops) false d it.field-2 ∷ []) c.with-in-Combine-2.ensures.right
    (one_held q lows highs c.touched_access-in-Combine.result (λ loops d. update_touch it.field-0 it.array (interval it.e loops) false d it.field-2)
    (λ loops d between. cell loops (update_touch it.field-0 it.array (interval it.e loops) false d it.field-2) between refl refl))))
    (less q lows highs r c.touched_access-in-Combine.result
    (λ loops d. update_touch it.field-0 it.array (interval it.e loops) true d it.field-2 ∷ []) c.with-in-Combine-2.ensures.right
    (one_held q lows highs c.touched_access-in-Combine.result (λ loops d. update_touch it.field-0 it.array (interval it.e loops) true d it.field-2)
    (λ loops d between. cell loops (update_touch it.field-0 it.array (interval it.e loops) true d it.field-2) between refl refl)))))

pub touched_stmt-returns-in-Block-clause-holds : goal.touched_stmt-returns-in-Block-clause-holds
touched_stmt-returns-in-Block-clause-holds t c =
    if_ok c.touched_all.result _ _ c.touched_all.ensures.holds
    (λ h k. held_Block c.args.q c.args.span.now.lows.items c.args.span.now.highs.items h
    c.args.s.now c.in-Block.all c.deref.result.now c.in-Block.is c.deref.ensures.value k)

pub touched_stmt-returns-else-bounds-clause-holds :
    goal.touched_stmt-returns-else-bounds-clause-holds
touched_stmt-returns-else-bounds-clause-holds t c =
    if_ok c.touched_turns.result _ _ c.touched_turns.ensures.holds
    (λ h k. held_Loop c.args.q c.args.span.now.lows.items c.args.span.now.highs.items h
    c.args.s.now c.in-Loop.bounds c.in-Loop.body c.deref-in-Loop.result.now c.in-Loop.is c.deref-in-Loop.ensures.value k)

pub touched_stmt-returns-in_ok-other-in-If-clause-holds :
    goal.touched_stmt-returns-in_ok-other-in-If-clause-holds
touched_stmt-returns-in_ok-other-in-If-clause-holds t c =
    let q = c.args.q in
    let lows = c.args.span.now.lows.items in
    let highs = c.args.span.now.highs.items in
    let r = c.with-in-If-2.result in
    let one = list_touches c.deref-in-If.result.now in
    let two = list_touches c.deref-in-If-2.result.now in
    let before : HoldsAsMuch c.with-in-If.result r = c.with-in-If-2.ensures.left in
    held_If q lows highs r c.args.s.now c.in-If.c c.in-If.first c.in-If.second c.deref-in-If.result.now c.deref-in-If-2.result.now
    c.in-If.is c.deref-in-If.ensures.value c.deref-in-If-2.ensures.value
    (less q lows highs r c.touched_expr-condition.result (expr_touches c.in-If.c)
    (λ q s t a. before q s t (c.with-in-If.ensures.left q s t a)) c.touched_expr-condition.ensures)
    (less q lows highs r c.in_ok-branch-in-If.branch one (λ q s t a. before q s t (c.with-in-If.ensures.right q s t a))
    c.in_ok-branch-in-If.ensures.holds)
    (less q lows highs r c.in_ok-other-in-If.other two c.with-in-If-2.ensures.right
    (subst (λ (xs : List ℕ). Holds q xs highs c.in_ok-other-in-If.other two) c.in_ok-branch-in-If.ensures.lows
    (subst (λ (xs : List ℕ). Holds q c.touched_all-in-If.new.span.lows.items xs c.in_ok-other-in-If.other two)
    c.in_ok-branch-in-If.ensures.highs c.in_ok-other-in-If.ensures.holds)))

pub touched_turns-returns-clause-holds : goal.touched_turns-returns-clause-holds
touched_turns-returns-clause-holds t c =
    held_turns c.args.q c.args.span.now.lows.items c.args.span.now.highs.items c.in_ok-touched.touched c.args.bounds c.args.body.now
    c.push.new.self.lows.items c.push.new.self.highs.items c.requires.level
    c.in_ok-push.ensures.lows c.in_ok-push.ensures.highs c.in_ok-touched.ensures.holds
