use Rattle.std.proofs.Common.{◌≡◌, ◌++◌, ◌∙◌, ap, ap₂, sym, List, map, rules, tests}
use Rattle.std.proofs.lemmas.Iterator.Adapters.{items_from_extend}
use Rattle.std.proofs.lemmas.Iterator.{YieldsList-from_map, YieldsList-from_slice}
use Rattle.std.proofs.lemmas.Iterator.Consumers.{YieldsList-at}
use Rattle.base.specs.declared.item.Depend.{Depend}
use Rattle.base.specs.declared.item.Item.{Item}
use Rattle.base.specs.declared.item.Section.{Section}
use Rattle.order.proofs.Behind.{sections_more}
use Rattle.order.proofs.apart.sections_of.Goals as goal

pub loop-item-preserved : goal.loop-item-preserved
loop-item-preserved c =
    let its = c.args.items.now in
    let i = c.loop-item.item-index in
    let h = items_from_extend c.extend.result c.extend.ensures.ran
    (YieldsList-from_map _ (λ d. d.section)
    (YieldsList-at c.map.ensures.source (YieldsList-from_slice c.deref.result.now cc))
    c.map.ensures.closure (λ x r q k. search (rules, tests))) in
    let added : c.extend.new.self.items ≡ c.loop-item.sections.items ++ map (λ d. d.section) c.deref.result.now
    = search rules in
    added
    ∙ ap₂ (λ (ss : List Section) (ds : List Depend). ss ++ map (λ d. d.section) ds) c.loop-item.invariant
    (c.deref.ensures ∙ ap (λ (it : Item). it.depends.items) c.item-item.is)
    ∙ sym (sections_more its i c.item-item.result c.loop-item-test.true)
