use Rattle.std.proofs.Common.{◌∙◌, sym, ap}
use Rattle.c_grammar.specs.Grids.{Ranges, range_of}
use Rattle.c_written.specs.declared.range.Range.{Range}
use Rattle.c_written.specs.Ranges.{seen_range}
use Rattle.c_written.proofs.Ranging.{range_is, range_not, all_names}
use Rattle.c_written.proofs.indices.Ranges.range.Goals as goal
use Rattle.c_written.proofs.indices.Ranges.range.Goals.{then-eq, else-eq}

pub names-preserved : goal.names-preserved
names-preserved c = elim c.if-eq.branch [
  | then-eq w ↦ ap (λ (r : Range). seen_range r) w.found-is
      ∙ sym (range_is c.args.self.now.names.items c.deref-named-items.result.now
      c.names.named-index c.named-item.result c.args.name.now c.deref-named-items.ensures.value c.names-test.true
      c.named-item.is (sym c.eq.ensures ∙ w.if-eq.true))
  | else-eq w ↦ ap (λ (r : Range). seen_range r) w.found-is ∙ c.names.invariant
      ∙ sym (range_not c.args.self.now.names.items c.deref-named-items.result.now
      c.names.named-index c.named-item.result c.args.name.now c.deref-named-items.ensures.value c.names-test.true
      c.named-item.is (sym c.eq.ensures ∙ w.if-eq.false))
]

pub returns : goal.returns
returns c = c.names.invariant ∙ ap (λ (rs : Ranges). range_of rs c.args.name.now)
    (all_names c.args.self.now.names.items c.deref-named-items.result.now c.names.named-index
    c.deref-named-items.ensures.value c.names-test.false)
