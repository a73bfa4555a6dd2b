use Rattle.std.proofs.Common.{refl}
use Rattle.std.proofs.lemmas.Result.{on_ok_weaker}
use Rattle.actions.proofs.Takes.{takes_no_rest, takes_rest, first_of}
use Rattle.actions.proofs.strand.Strand.take_first.Goals as goal

pub returns-in-empty : goal.returns-in-empty
returns-in-empty c = takes_no_rest c.args.all.now c.args.self.now c.in-empty.len_below

pub returns-in_ok-push-in-len1-up : goal.returns-in_ok-push-in-len1-up
returns-in_ok-push-in-len1-up c =
    on_ok_weaker c.begin_stmt.result
    (takes_rest c.args.all.now c.first-item.result _ c.args.self.now _ c.begin_stmt.new.self c.push.new.self
    (first_of c.args.all.now c.first-item.result c.in-len1-up.len_at_least c.first-item.is) refl
    c.in_ok-push-in-len1-up.ensures.pushed) c.begin_stmt.ensures
