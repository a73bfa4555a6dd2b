use Rattle.std.proofs.Common.{◌∙◌, arith}
use Rattle.directives.specs.Kinds.{seen_kind}
use Rattle.directives.specs.Cursor.{items}
use Rattle.directives.proofs.Modifying.{modifier_less, read_modifiers_more, takes_modifiers_more}
use Rattle.directives.proofs.line.Line.modifiers.Goals as goal

pub modifiers-preserved : goal.modifiers-preserved
modifiers-preserved c = record {
  read = λ s. c.modifiers.invariant.read s ∙ c.in_ok-modifier.ensures.read s;
  tree = read_modifiers_more c.modifiers.modifiers.items c.push.new.self.items c.in-Some.modifier
      (items c.args.self.now) (items c.modifiers.self) (items c.modifier.new.self) c.in_ok-push.ensures.items
      c.modifiers.invariant.tree c.in_ok-modifier.ensures.tree;
  takes = takes_modifiers_more (seen_kind c.args.kind) c.modifiers.modifiers.items c.push.new.self.items
      c.in-Some.modifier c.in_ok-push.ensures.items c.modifiers.invariant.takes c.in-Some.ensures.takes;
}

pub modifiers-smaller : goal.modifiers-smaller
modifiers-smaller c = grind (arith, modifier_less)
