use Rattle.std.proofs.lemmas.Result.{on_ok_weaker}
use Rattle.actions.proofs.Stmts.{begins_set, begins_print, begins_store, begins_combine, begins_block, begins_loop, begins_if}
use Rattle.actions.proofs.strand.Strand.begin_stmt.Goals as goal

pub returns-in-Store : goal.returns-in-Store
returns-in-Store c =
    on_ok_weaker c.begin.result (begins_store c.args.s.now _ _ _ _ c.args.self.now c.begin.new.self c.in-Store.is)
    c.begin.ensures

pub returns-in-Combine : goal.returns-in-Combine
returns-in-Combine c =
    on_ok_weaker c.begin-in-Combine.result
    (begins_combine c.args.s.now _ _ _ _ _ c.args.self.now c.begin-in-Combine.new.self c.in-Combine.is)
    c.begin-in-Combine.ensures

pub returns-in-Print : goal.returns-in-Print
returns-in-Print c =
    on_ok_weaker c.begin-in-Print.result (begins_print c.args.s.now _ c.args.self.now c.begin-in-Print.new.self c.in-Print.is)
    c.begin-in-Print.ensures

pub returns-in-Block : goal.returns-in-Block
returns-in-Block c =
    on_ok_weaker c.push.result
    (begins_block c.args.s.now c.in-Block.all _ c.args.self.now c.push.new.self c.in-Block.is c.deref.ensures.value)
    c.push.ensures.pushed

pub returns-in_ok-push-in-Loop-2 : goal.returns-in_ok-push-in-Loop-2
returns-in_ok-push-in-Loop-2 c =
    begins_loop c.args.s.now c.in-Loop.bounds c.in-Loop.body c.turns_of.result _ c.args.self.now c.push-in-Loop.new.self
    c.push-in-Loop-2.new.self c.in-Loop.is c.turns_of.ensures.left c.turns_of.ensures.next c.turns_of.ensures.step
    c.deref-in-Loop.ensures.value c.in_ok-push-in-Loop.ensures.pushed c.in_ok-push-in-Loop-2.ensures.items

pub returns-in-If : goal.returns-in-If
returns-in-If c =
    on_ok_weaker c.begin-in-If.result
    (begins_if c.args.s.now c.in-If.c c.in-If.first c.in-If.second _ _ c.args.self.now c.begin-in-If.new.self c.in-If.is
    c.deref-in-If.ensures.value c.deref-in-If-2.ensures.value) c.begin-in-If.ensures

pub returns-in-Declare : goal.returns-in-Declare
returns-in-Declare c =
    on_ok_weaker c.begin_source.result
    (begins_set c.args.s.now c.in-Declare.x _ c.args.self.now c.begin_source.new.self c.in-Declare.is)
    c.begin_source.ensures
