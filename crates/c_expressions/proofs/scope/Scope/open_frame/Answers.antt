use Rattle.std.proofs.Common.{◌∙◌, ap, map, reverse, List}
use Rattle.c_expressions.specs.declared.scope.Name.{Name}
use Rattle.c_expressions.specs.Scopes.{seen_name}
use Rattle.c_expressions.proofs.Blocks.{opened_is}
use Rattle.c_expressions.proofs.scope.Scope.open_frame.Goals as goal

pub returns-clause-opened : goal.returns-clause-opened
returns-clause-opened c = opened_is c.args.self.now c.push.new.self.items c.next_frame-frame.result c.args.turn
    c.in_ok-push.ensures.items
    (ap (λ (ns : List Name). map seen_name (reverse ns)) c.next_frame-frame.ensures.names ∙ c.in_ok-names.ensures)
    c.next_frame-frame.ensures.inside c.next_frame-frame.ensures.choice
