use Rattle.std.proofs.Common.{◌∙◌, ap}
use Rattle.c_grammar.specs.Rules.{is_visible}
use Rattle.c_statements.proofs.Heads.{visible_is}
use Rattle.c_statements.proofs.head.is_visible.Goals as goal

pub returns : goal.returns
returns c = c.is_some.ensures ∙ visible_is c.meaning-meant.result ∙ ap is_visible (c.meaning-meant.ensures.sort 0 0)
