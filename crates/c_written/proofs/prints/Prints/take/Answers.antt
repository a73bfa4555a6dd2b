use Rattle.std.proofs.Common.{◌∙◌, ◌++◌, ◌∷◌, ap, sym, arith}
use Rattle.c_grammar.specs.Terminal.{Terminal}
use Rattle.c_grammar.specs.Texts.{Item}
use Rattle.c_grammar.specs.Prints.{printed}
use Rattle.c_terminals.specs.Seen.{seen_all}
use Rattle.c_terminals.proofs.Lists.{written_one}
use Rattle.c_written.proofs.Printing.{printed_line, printed_stays, printed_left, printed_one, printed_more}
use Rattle.c_written.proofs.prints.Prints.take.Goals as goal

pub returns-then-is_directive : goal.returns-then-is_directive
returns-then-is_directive c =
    written_one _ _ c.args.token _ _ c.in_ok-push.ensures.items
    (printed_line _ _ _ (sym c.is_directive.ensures ∙ c.if-is_directive.true))

pub returns-then-stays : goal.returns-then-stays
returns-then-stays c =
    written_one _ _ c.args.token _ _ c.in_ok-push-2.ensures.items
    (printed_stays _ _ _ (sym c.is_directive.ensures ∙ c.if-is_directive.false) c.if-self-gt0.true
    (sym c.stays.ensures ∙ c.if-stays.true))

pub returns-then-self-gt0 : goal.returns-then-self-gt0
returns-then-self-gt0 c =
    ap (λ is. seen_all c.args.self.now.done.items ++ is)
    (printed_left _ _ _ (sym c.is_directive.ensures ∙ c.if-is_directive.false) c.if-self-gt0.true
    (sym c.stays.ensures ∙ c.if-stays.false))

pub returns-then-count-gt0 : goal.returns-then-count-gt0
returns-then-count-gt0 c =
    written_one _ _ _ _ _ c.in_ok-push-3.ensures.items
    (printed_more _ _ _ _ (omega (arith, c.if-self-gt0.false)) (sym c.is_directive.ensures ∙ c.if-is_directive.false)
    c.text_len-count.ensures c.if-count-gt0.true ∙ ap (λ (i : Item Terminal). i ∷ printed c.text_len-count.result (seen_all c.args.rest.now)) (sym c.at.ensures))

pub returns : goal.returns
returns c =
    written_one _ _ _ _ _ c.in_ok-push-4.ensures.items
    (printed_one _ _ _ _ (omega (arith, c.if-self-gt0.false)) (sym c.is_directive.ensures ∙ c.if-is_directive.false)
    c.text_len-count.ensures (omega (arith, c.if-count-gt0.false))
    ∙ ap (λ (i : Item Terminal). i ∷ printed c.args.self.now.left (seen_all c.args.rest.now)) (sym c.alone.ensures))
