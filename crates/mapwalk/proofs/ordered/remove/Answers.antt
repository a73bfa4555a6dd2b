use Rattle.std.proofs.Common.{◌≡◌, ◌∙◌, ℕ, List, Some, get_or, length, map, sym, ap, subst, arith}
use Rattle.std.specs.Prelude.{remove, slice_get}
use Rattle.std.proofs.lemmas.List.{with_items_is}
use Rattle.std.proofs.lemmas.Option.{same_Some, slice_get-get_or, slice_get_within}
use Rattle.mapwalk.specs.declared.blocks.Block.{Block}
use Rattle.mapwalk.specs.declared.spots.Spot.{Spot}
use Rattle.mapwalk.specs.Spots.{AreOrdered, lower}
use Rattle.mapwalk.proofs.OrderedBlocks.{order_of, ordered_by}
use Rattle.mapwalk.proofs.Respots.{dropped}
use Rattle.mapwalk.proofs.ordered.remove.Goals as goal

read : (spots : List Spot) (n : ℕ) (x r : Spot) → slice_get spots n ≡ Some x → r ≡ get_or spots n r → r ≡ x
read spots n x r e f =
    same_Some r x (ap (λ (y : Spot). Some y) f ∙ sym (slice_get-get_or spots n r (slice_get_within spots n x e)) ∙ e)

pub remove-requires : goal.remove-requires
remove-requires c =
    let x = c.requires.inside.spot in
    let h = (order_of c.args.blocks.now.items c.args.spots.now.items c.requires.ordered).block c.args.at x c.requires.inside.is in
    let l = slice_get_within c.args.blocks.now.items x.number h.block h.is in
    let e : c.index.result.now.number ≡ x.number =
    ap (λ (y : Spot). y.number) (read c.args.spots.now.items c.args.at x c.index.result.now c.requires.inside.is c.index.ensures) in
    omega (arith, l, e, c.args.blocks.now.ok.0)

pub remove-requires-2 : goal.remove-requires-2
remove-requires-2 c =
    let l = slice_get_within c.args.spots.now.items c.args.at c.requires.inside.spot c.requires.inside.is in
    omega (arith, l, c.args.spots.now.ok.0)

pub returns-clause-removed : goal.returns-clause-removed
returns-clause-removed c x e =
    c.remove.ensures.items
    ∙ ap (λ (y : Spot). remove c.args.blocks.now.items y.number) (read c.args.spots.now.items c.args.at x c.index.result.now e c.index.ensures)

pub returns-clause-order : goal.returns-clause-order
returns-clause-order c =
    let bs = c.args.blocks.now.items in
    let spots = c.args.spots.now.items in
    let x = c.requires.inside.spot in
    let is = read spots c.args.at x c.index.result.now c.requires.inside.is c.index.ensures in
    let long = ap length c.lower_all.ensures in
    let same = with_items_is c.remove-2.new.self c.lower_all.new.spots
    (omega (arith, c.lower_all.auto.spots, ap length c.deref_mut.ensures.value, c.remove-2.new.self.ok.0)) in
    let lowered = same ∙ c.lower_all.ensures ∙ ap (map (lower c.index.result.now.number)) (c.deref_mut.ensures.value ∙ c.remove-2.ensures.items)
    ∙ ap (λ (y : Spot). map (lower y.number) (remove spots c.args.at)) is in
    subst (λ (xs : List Spot). AreOrdered c.remove.new.self.items xs) (sym lowered)
    (subst (λ (xs : List Block). AreOrdered xs (map (lower x.number) (remove spots c.args.at)))
    (sym (c.remove.ensures.items ∙ ap (λ (y : Spot). remove bs y.number) is))
    (ordered_by _ _ (dropped bs spots (order_of bs spots c.requires.ordered) c.args.at x c.requires.inside.is c.requires.inside.some)))
