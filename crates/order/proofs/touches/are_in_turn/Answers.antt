use Rattle.std.proofs.Common.{rules}
use Rattle.std.proofs.lemmas.List.Sorted.{answers_always}
use Rattle.order.specs.Touches.{is_in_turn}
use Rattle.order.proofs.Turns.{sorted_turns}
use Rattle.order.proofs.touches.are_in_turn.Goals as goal

pub returns : goal.returns
returns c = sorted_turns c.args.touches.now c.is_sorted_by.result
    (c.is_sorted_by.ensures.cases is_in_turn (answers_always _ _ _ (λ f a r g h. search rules)))
