use Rattle.std.proofs.Common.{◌∙◌, ap}
use Rattle.std.proofs.lemmas.Result.{IfOk-weaker}
use Rattle.c_terminals.specs.Seen.{seen, seen_all}
use Rattle.c_terminals.proofs.Lists.{seen_more}
use Rattle.c_written.proofs.SourceSteps.{body_to, head_to, head_to_body, outside_to}
use Rattle.c_written.proofs.functions.Source.take.Goals as goal

pub returns-then-left-gt1 : goal.returns-then-left-gt1
returns-then-left-gt1 c =
    head_to c.args.self.now c.push.new.self c.args.place c.in-InHead.head c.in-InHead.left (seen c.args.token) (seen_all c.args.behind.now)
    c.in-InHead.is c.requires.token c.requires.main
    (ap seen_all c.in_ok-push-in-InHead.ensures.items ∙ seen_more c.args.self.now.raw.items c.args.token) c.if-left-gt1.true

pub returns-in-Outside : goal.returns-in-Outside
returns-in-Outside c =
    IfOk-weaker c.outside.result _ _
    (λ q f. outside_to c.args.self.now c.outside.new.self c.args.place q c.in-Outside.begins (seen c.args.token)
    (seen_all c.args.behind.now) c.in-Outside.is c.requires.token c.requires.main f)
    c.outside.ensures

pub returns-else-left-gt1 : goal.returns-else-left-gt1
returns-else-left-gt1 c =
    head_to_body c.args.self.now c.push.new.self c.clear.new.self c.args.place c.in-InHead.head c.in-InHead.left (seen c.args.token) (seen_all c.args.behind.now)
    c.in-InHead.is c.requires.token c.requires.main
    (ap seen_all c.in_ok-push-in-InHead.ensures.items ∙ seen_more c.args.self.now.raw.items c.args.token)
    (ap seen_all c.clear.ensures.items) c.if-left-gt1.false

pub returns-in_ok-push-in-InBody : goal.returns-in_ok-push-in-InBody
returns-in_ok-push-in-InBody c =
    IfOk-weaker c.in_body.result _ _
    (λ q f. body_to c.args.self.now c.in_body.new.self c.args.place q c.in-InBody.head c.in-InBody.depth c.in-InBody.field-2
    (seen c.args.token) (seen_all c.args.behind.now) (seen_all c.push-in-InBody.new.self.items)
    c.in-InBody.is c.requires.token c.requires.main
    (ap seen_all c.in_ok-push-in-InBody.ensures.items ∙ seen_more c.args.self.now.raw.items c.args.token) f)
    c.in_body.ensures
