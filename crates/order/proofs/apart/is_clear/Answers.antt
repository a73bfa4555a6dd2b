use Rattle.std.proofs.Common.{subst}
use Rattle.std.proofs.lemmas.List.Sorted.{Contains-permutation}
use Rattle.order.specs.Apart.{AreApart}
use Rattle.order.proofs.Behind.{apart_none}
use Rattle.order.proofs.apart.is_clear.Goals as goal

pub returns : goal.returns
returns c = λ yes.
    let its = c.args.items.now in
    let old = c.in_ok-sections.sections.items in
    let new = c.sort_unstable_by_key.new.self.items in
    let moved = c.sort_unstable_by_key.ensures.permutation in
    let apart : AreApart new = subst AreApart c.deref.ensures.value (c.are_apart.ensures yes) in
    apart_none its (subst AreApart c.in_ok-sections.ensures
    (λ s t has has'. apart s t (Contains-permutation old new s moved has) (Contains-permutation old new t moved has')))
