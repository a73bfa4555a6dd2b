use Rattle.std.proofs.Common.{ap, ◌∙◌, []}
use Rattle.std.proofs.lemmas.Result.{on_ok_weaker}
use Rattle.actions.specs.Strand.{left_of}
use Rattle.actions.proofs.Answered.{answers_exit, exits_next, removal_next}
use Rattle.actions.proofs.strand.Strand.left.Goals as goal
use Rattle.actions.proofs.strand.Strand.left.Goals.{then-removes+in_ok-push-2, else-removes}

pub returns : goal.returns
returns c =
    on_ok_weaker c.copy_out.result
    (answers_exit c.args.maps c.args.copies c.args.removes c.in-Some.item c.in-Some.rest c.args.self.now c.if-removes.self
    c.copy_out.new.self [] c.in-Some.ensures.some.items
    (elim c.if-removes.branch [
      | then-removes+in_ok-push-2 w ↦
          ap left_of w.self-is
          ∙ removal_next c.in-Some.rest _ c.args.self.now w.push-then-removes.new.self c.push.new.self c.args.removes
          w.if-removes.true c.requires c.in_ok-push.ensures.pushed w.in_ok-push-2.ensures.pushed
      | else-removes w ↦
          ap left_of w.self-is
          ∙ exits_next c.in-Some.rest c.args.self.now c.push.new.self c.args.removes _ w.if-removes.false
          c.in_ok-push.ensures.pushed
    ])) c.copy_out.ensures
