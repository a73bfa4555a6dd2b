use Rattle.std.proofs.Common.{sym, subst}
use Rattle.std.proofs.lemmas.Result.{on_ok_weaker}
use Rattle.base.specs.declared.item.Event.{Event}
use Rattle.base.specs.declared.item.Event.TheVariants as event
use Rattle.device.proofs.Outcomes.{ok_as}
use Rattle.device.proofs.Reaching.{IsNext, is_after, is_opened_next, takes}
use Rattle.device.proofs.state.RunState.take.Goals as goal

pub returns-in-Gen-clause-taken : goal.returns-in-Gen-clause-taken
returns-in-Gen-clause-taken c =
    ok_as c.generate.result c.or_out_of_memory.result c.or_out_of_memory.ensures.same
    (λ d. takes c.args.self.now c.generate.new.self c.args.event c.is_reached.ensures.reached c.requires
    (subst (λ (e : Event). IsNext c.args.self.now c.generate.new.self e) (sym c.in-Gen.is) (is_after c.args.self.now c.generate.new.self (event.Gen c.in-Gen.item) d))) c.generate.ensures.generated

pub returns-in-Open-clause-taken : goal.returns-in-Open-clause-taken
returns-in-Open-clause-taken c =
    on_ok_weaker c.open_item.result (λ d. takes c.args.self.now c.open_item.new.self c.args.event c.is_reached.ensures.reached c.requires
    (subst (λ (e : Event). IsNext c.args.self.now c.open_item.new.self e) (sym c.in-Open.is) (is_opened_next c.args.self.now c.open_item.new.self c.in-Open.item d))) c.open_item.ensures.opened

pub returns-in-Close-clause-taken : goal.returns-in-Close-clause-taken
returns-in-Close-clause-taken c =
    ok_as c.close_item.result c.or_out_of_memory-in-Close.result c.or_out_of_memory-in-Close.ensures.same
    (λ d. takes c.args.self.now c.close_item.new.self c.args.event c.is_reached.ensures.reached c.requires
    (subst (λ (e : Event). IsNext c.args.self.now c.close_item.new.self e) (sym c.in-Close.is) (is_after c.args.self.now c.close_item.new.self (event.Close c.in-Close.item) d))) c.close_item.ensures.closed

pub returns-in-Wait-clause-taken : goal.returns-in-Wait-clause-taken
returns-in-Wait-clause-taken c =
    ok_as c.wait.result c.or_out_of_memory-in-Wait.result c.or_out_of_memory-in-Wait.ensures.same
    (λ d. takes c.args.self.now c.wait.new.self c.args.event c.is_reached.ensures.reached c.requires
    (subst (λ (e : Event). IsNext c.args.self.now c.wait.new.self e) (sym c.in-Wait.is) (is_after c.args.self.now c.wait.new.self (event.Wait c.in-Wait.item) d))) c.wait.ensures.passed

pub returns-in-End-clause-taken : goal.returns-in-End-clause-taken
returns-in-End-clause-taken c =
    ok_as c.end.result c.or_out_of_memory-in-End.result c.or_out_of_memory-in-End.ensures.same
    (λ d. takes c.args.self.now c.end.new.self c.args.event c.is_reached.ensures.reached c.requires
    (subst (λ (e : Event). IsNext c.args.self.now c.end.new.self e) (sym c.in-End.is) (is_after c.args.self.now c.end.new.self event.End d))) c.end.ensures.ended
