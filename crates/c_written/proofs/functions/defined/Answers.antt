use Rattle.std.proofs.Common.{◌∙◌, sym, ap}
use Rattle.std.proofs.lemmas.Result.{IfOk-weaker}
use Rattle.c_written.specs.Functions.{with_source}
use Rattle.c_terminals.specs.Held.{written_all}
use Rattle.c_terminals.specs.Seen.{seen, seen_all}
use Rattle.c_written.proofs.CallWalk.{begins_with, behind}
use Rattle.c_written.proofs.SourceSteps.{end_to, line_to, main_to, none_left}
use Rattle.c_written.proofs.functions.defined.Goals as goal

pub tokens-preserved-then-is_directive : goal.tokens-preserved-then-is_directive
tokens-preserved-then-is_directive c =
    sym (ap (with_source c.tokens.source c.tokens.place)
    (begins_with c.tokens.rest.now c.token-item.result c.in-len1-up.len_at_least c.token-item.is)
    ∙ line_to c.tokens.source c.line.new.self c.tokens.place c.in_ok-place.place (seen c.token-item.result)
    (seen_all (behind c.tokens.rest.now)) (sym c.is_directive.ensures ∙ c.if-is_directive.true) c.in_ok-place.ensures)
    ∙ c.tokens.invariant

pub returns-then-is_main : goal.returns-then-is_main
returns-then-is_main c =
    IfOk-weaker c.main.result _ _
    (λ v f. main_to c.tokens.source c.tokens.place (seen c.token-item.result) (seen_all (behind c.tokens.rest.now))
    (written_all v.items) c.is_main.result (sym c.is_directive.ensures ∙ c.if-is_directive.false)
    c.is_main.ensures c.if-is_main.true f
    ∙ sym (ap (with_source c.tokens.source c.tokens.place)
    (begins_with c.tokens.rest.now c.token-item.result c.in-len1-up.len_at_least c.token-item.is))
    ∙ c.tokens.invariant)
    c.main.ensures

pub returns : goal.returns
returns c =
    IfOk-weaker c.end.result _ _
    (λ v f. end_to c.tokens.source c.tokens.place (seen_all c.tokens.rest.now) (written_all v.items)
    (none_left c.tokens.rest.now c.in_default.len_below) f
    ∙ c.tokens.invariant)
    c.end.ensures
