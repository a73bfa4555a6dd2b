use Rattle.std.proofs.Common.{rules}
use Rattle.std.proofs.lemmas.List.Sorted.{answers_always}
use Rattle.order.specs.Apart.{is_same_or_behind}
use Rattle.order.proofs.Behind.{sorted_apart}
use Rattle.order.proofs.apart.are_apart.Goals as goal

pub returns : goal.returns
returns c = sorted_apart c.args.sections.now c.is_sorted_by.result
    (c.is_sorted_by.ensures.cases is_same_or_behind (answers_always _ _ _ (λ f a r g h. search rules)))
