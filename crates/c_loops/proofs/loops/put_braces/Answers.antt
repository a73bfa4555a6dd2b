use Rattle.std.proofs.Common.{◌∙◌, ◌-◌, ◌∷◌, ap, sym}
use Rattle.c_grammar.specs.Terminal.{Terminal}
use Rattle.c_grammar.specs.Texts.{Item}
use Rattle.c_grammar.specs.Blocks.{braces_at}
use Rattle.c_terminals.proofs.Lists.{written_one}
use Rattle.c_terminals.specs.Seen.{seen}
use Rattle.c_loops.proofs.Passing.{one_brace}
use Rattle.c_loops.proofs.loops.put_braces.Goals as goal

pub braces-preserved : goal.braces-preserved
braces-preserved c =
    sym (written_one c.braces.done.items c.push.new.self.items _ (braces_at c.braces.left (seen c.args.token))
    (braces_at (c.braces.left - 1) (seen c.args.token)) c.in_ok-push.ensures.items
    (one_brace c.braces.left (seen c.args.token) c.braces-test.true
    ∙ ap (λ (i : Item Terminal). i ∷ braces_at (c.braces.left - 1) (seen c.args.token)) (sym c.at.ensures)))
    ∙ c.braces.invariant
