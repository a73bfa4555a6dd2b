use Rattle.std.proofs.Common.{◌≡◌, ◌+◌, ◌++◌, ◌∷◌, [], ◌≤◌, ◌∙◌, sym, ap, subst, arith}
use Rattle.std.proofs.lemmas.Bool.{both_ways}
use Rattle.base.specs.Items.{plan}
use Rattle.graph.specs.Nexts.{AreNexts, IsBehindSome}
use Rattle.graph.proofs.Found.{FoundBelow, added, are_nexts, found_none, left_out, none_left}
use Rattle.graph.proofs.ordered.nexts.Goals.{then-before+then-not-is_behind_some+in_ok-push+else-after_all-next, else-before, else-before-via-then-before+else-not-is_behind_some, else-before-via-else-before}
use Rattle.graph.proofs.ordered.nexts.Goals as goal

pub loop-next-preserved : goal.loop-next-preserved
loop-next-preserved c =
    let p = plan c.args.order.now in
    let i = c.args.item in
    let next = c.loop-next.next in
    let found = c.loop-next.found.items in
    let h = c.loop-next.invariant in
    let asked = c.before-in-loop-next.ensures in
    elim c.if-before.branch [
      | then-before+then-not-is_behind_some+in_ok-push+else-after_all-next w ↦
          subst (FoundBelow p i (next + 1)) (sym (ap (λ v. v.items) w.found-is ∙ w.in_ok-push.ensures.items))
          (added p i next found h (asked.0 w.if-before.true)
          (λ s. both_ways w.is_behind_some.result w.if-not-is_behind_some.true
          (w.is_behind_some.ensures.1 (subst (λ xs. IsBehindSome p xs next) (sym w.deref.ensures.value) s))))
      | else-before w ↦
          subst (FoundBelow p i (next + 1)) (sym (ap (λ v. v.items) w.found-is))
          (left_out p i next found h (elim w.else-before.branch [
            | else-before-via-then-before+else-not-is_behind_some v ↦
                (λ b. subst (λ xs. IsBehindSome p xs next) v.deref.ensures.value
                (v.is_behind_some.ensures.0 v.if-not-is_behind_some.false))
            | else-before-via-else-before v ↦
                (λ b. absurd (both_ways c.before-in-loop-next.result v.if-before.false (asked.1 b)))
          ]))
    ]

pub returns : goal.returns
returns c =
    let p = plan c.args.order.now in
    let found = c.loop-next.found.items in
    let least : c.loop-next.next ≤ c.args.end = c.loop-next.auto.next-end c.requires in
    let e : c.loop-next.next ≡ c.args.end = omega (arith, c.loop-next-test.false) in
    are_nexts p c.args.item c.args.end found
    (subst (λ k. FoundBelow p c.args.item k found) e c.loop-next.invariant)

pub loop-next-init : goal.loop-next-init
loop-next-init c =
    let p = plan c.args.order.now in
    let i = c.args.item in
    subst (FoundBelow p i i) (sym c.new-found.ensures.items) (found_none p i)

pub returns-then-after_all-next : goal.returns-then-after_all-next
returns-then-after_all-next c =
    let p = plan c.args.order.now in
    let i = c.args.item in
    let end = c.args.end in
    let next = c.loop-next.next in
    let found = c.loop-next.found.items in
    let all = found ++ next ∷ [] in
    let more : FoundBelow p i (next + 1) all = added p i next found c.loop-next.invariant
    (c.before-in-loop-next.ensures.0 c.if-before.true)
    (λ s. both_ways c.is_behind_some.result c.if-not-is_behind_some.true
    (c.is_behind_some.ensures.1 (subst (λ xs. IsBehindSome p xs next) (sym c.deref.ensures.value) s))) in
    subst (AreNexts p i end) (sym c.in_ok-push.ensures.items) (are_nexts p i end all
    (none_left p i next end c.after_all.result found more c.loop-next-test.true c.after_all.ensures c.if-after_all-next.true))
