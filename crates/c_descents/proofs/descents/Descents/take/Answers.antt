use Rattle.std.proofs.Common.{◌≡◌, ◌∙◌, OnOk, subst, sym, arith}
use Rattle.c_grammar.specs.Blocks.{Items}
use Rattle.c_terminals.specs.Held.{written_all}
use Rattle.c_terminals.specs.Seen.{seen, seen_all}
use Rattle.c_descents.specs.State.{seen_state, with_descents}
use Rattle.c_descents.proofs.Heading.{for_begins}
use Rattle.c_descents.proofs.descents.Descents.take.Goals as goal

pub returns-then-is_word : goal.returns-then-is_word
returns-then-is_word c =
    subst (λ (is : Items). OnOk c.take_for.result (is ≡ with_descents c.take_for.new.self (seen_all c.args.rest.now)))
    (sym (for_begins (seen_state c.args.self.now) c.args.self.now.left (seen c.args.token) (seen_all c.args.rest.now)
    (written_all c.args.self.now.done.items) (sym c.is_directive.ensures ∙ c.if-is_directive.false)
    (omega (arith, c.if-self-gt0.false)) (sym c.is_word.ensures ∙ c.if-is_word.true)))
    c.take_for.ensures
