use Rattle.std.proofs.Common.{◌∙◌, sym, ap}
use Rattle.c_grammar.specs.Constants.{Names, is_among}
use Rattle.c_terminals.proofs.Among.{all_names, among_is, among_not}
use Rattle.c_written.proofs.definitions.Definitions.is_global.Goals as goal
use Rattle.c_written.proofs.definitions.Definitions.is_global.Goals.{then-eq, else-eq}

pub names-preserved : goal.names-preserved
names-preserved c = elim c.if-eq.branch [
  | then-eq w ↦ w.found-is ∙ sym (among_is c.args.self.now.names.items c.deref-own-items.result.now
      c.names.own-index _ c.args.name.now c.deref-own-items.ensures.value c.names-test.true
      (sym c.eq.ensures ∙ w.if-eq.true))
  | else-eq w ↦ w.found-is ∙ c.names.invariant ∙ sym (among_not c.args.self.now.names.items
      c.deref-own-items.result.now c.names.own-index _ c.args.name.now
      c.deref-own-items.ensures.value c.names-test.true (sym c.eq.ensures ∙ w.if-eq.false))
]

pub returns : goal.returns
returns c = c.names.invariant ∙ ap (λ (vs : Names). is_among vs c.args.name.now)
    (all_names c.args.self.now.names.items c.deref-own-items.result.now c.names.own-index
    c.deref-own-items.ensures.value c.names-test.false)
