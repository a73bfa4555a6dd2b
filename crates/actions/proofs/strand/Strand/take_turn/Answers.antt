use Rattle.std.proofs.Common.{ap, ◌∙◌, ◌++◌, ◌∷◌, []}
use Rattle.std.proofs.lemmas.Result.{on_ok_weaker}
use Rattle.actions.specs.declared.frame.Frame.TheVariants as frame
use Rattle.actions.proofs.Takes.{takes_no_turn, takes_turn}
use Rattle.actions.proofs.strand.Strand.take_turn.Goals as goal

pub returns-then-turns-eq0 : goal.returns-then-turns-eq0
returns-then-turns-eq0 c =
    takes_no_turn c.args.turns c.args.body.now c.args.self.now c.leave_loop.new.loops c.if-turns-eq0.true c.leave_loop.ensures

pub returns : goal.returns
returns c =
    on_ok_weaker c.push-3.result
    (λ pushed.
    takes_turn c.args.turns c.after.result c.args.body c.args.self.now c.push-3.new.self c.push.new.self c.after.ensures.left
    c.after.ensures.next c.after.ensures.step
    (c.in_ok-push.ensures.items ∙ ap (λ xs. xs ++ c.args.turns.next ∷ []) c.leave_loop.ensures)
    (pushed ∙ ap (λ fs. frame.Rest c.args.body ∷ fs) c.in_ok-push-2.ensures.pushed)) c.push-3.ensures.pushed
