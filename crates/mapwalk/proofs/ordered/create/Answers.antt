use Rattle.std.proofs.Common.{◌≡◌, ℕ, ◌∙◌, List, length, not, sym, ap, subst, arith}
use Rattle.std.specs.Prelude.{insert}
use Rattle.std.proofs.lemmas.Bool.{cond-true}
use Rattle.mapwalk.specs.declared.blocks.Block.{Block}
use Rattle.mapwalk.specs.declared.spots.Spot.{Spot}
use Rattle.mapwalk.specs.Spots.{AreOrdered}
use Rattle.mapwalk.proofs.OrderedBlocks.{order_of, ordered_by}
use Rattle.mapwalk.proofs.Respots.{created}
use Rattle.mapwalk.proofs.ordered.create.Goals as goal

pub returns-clause-order : goal.returns-clause-order
returns-clause-order c =
    let bs = c.args.blocks.now.items in
    let spots = c.args.spots.now.items in
    let s = c.args.section in
    let b : Block = record { section = s; count = 1 } in
    let done = c.is_err.ensures.negation ∙ ap not c.if-is_err.false in
    let number : c.len-number.result ≡ length bs = omega (arith, c.len-number.ensures, c.args.blocks.now.ok.0) in
    let spotted : c.insert.new.self.items ≡ insert spots c.args.at (record { section = s; number = length bs }) =
    c.insert.ensures.items ∙ cond-true _ _ _ done
    ∙ ap (λ (xs : List Spot). insert xs c.args.at (record { section = s; number = c.len-number.result })) c.in_ok-reserve.ensures.items
    ∙ ap (λ (n : ℕ). insert spots c.args.at (record { section = s; number = n })) number in
    subst (λ (xs : List Spot). AreOrdered c.push.new.self.items xs) (sym spotted)
    (subst (λ (xs : List Block). AreOrdered xs (insert spots c.args.at (record { section = s; number = length bs })))
    (sym c.in_ok-push.ensures.items)
    (ordered_by _ _ (created bs spots (order_of bs spots c.requires.ordered) c.args.at b c.requires.absent)))
