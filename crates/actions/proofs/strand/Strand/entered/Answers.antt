use Rattle.std.proofs.Common.{refl}
use Rattle.std.proofs.lemmas.Result.{on_ok_weaker}
use Rattle.actions.proofs.Answered.{answers_entry}
use Rattle.actions.proofs.strand.Strand.entered.Goals as goal

pub returns : goal.returns
returns c =
    on_ok_weaker c.copy_in.result
    (answers_entry c.args.maps c.args.copies c.in-Some.item c.in-Some.rest c.args.self.now _ c.copy_in.new.self c.push.new.self
    c.in-Some.ensures.some.items refl c.in_ok-push.ensures.pushed) c.copy_in.ensures
