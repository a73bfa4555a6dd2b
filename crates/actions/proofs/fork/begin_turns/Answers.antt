use Rattle.std.proofs.Common.{Some, ap, sym, ◌∙◌}
use Rattle.actions.specs.Control.{all_turns}
use Rattle.actions.specs.Strand.{run_of}
use Rattle.actions.proofs.Forks.{begun_more, begun_none}
use Rattle.actions.proofs.fork.begin_turns.Goals as goal

pub turns-init : goal.turns-init
turns-init c = begun_none (run_of c.args.from.now) (all_turns c.args.kernel) c.args.kernel.next c.args.turns.now.items

pub returns-then-not-is_empty-clause-begun : goal.returns-then-not-is_empty-clause-begun
returns-then-not-is_empty-clause-begun c = c.turns.invariant

pub turns-preserved : goal.turns-preserved
turns-preserved c =
    begun_more (run_of c.args.from.now) (all_turns c.args.kernel) c.args.kernel.next c.turns.next
    (record { loops = c.deref.result.now; body = c.in_ok-around.body.now }) c.args.turns.now.items c.turns.turns.items
    c.begin_turn.new.turns.items c.turns.invariant
    (c.in_ok-around.ensures
    ∙ ap (λ ls. Some (record { loops = ls; body = c.in_ok-around.body.now })) (sym c.deref.ensures.value))
    c.in_ok-begin_turn.ensures

pub returns-clause-begun : goal.returns-clause-begun
returns-clause-begun c = c.turns.invariant
