use Rattle.std.proofs.Common.{◌∙◌}
use Rattle.c_written.proofs.RawTokens.{raw_all, raw_item, raw_more}
use Rattle.c_written.proofs.source.raw.Goals as goal

pub tokens-preserved : goal.tokens-preserved
tokens-preserved c =
    raw_more c.tokens.written.items c.push.new.self.items _ _ _ c.in-Some.token c.args.bytes.now c.in_ok-push.ensures.items
    c.in-Some.ensures.next
    (raw_item c.in_ok-terminal_of.field-0 c.args.bytes.now c.in-Some.token c.in_ok-terminal_of.ensures.terminal
    c.in_ok-terminal_of.ensures.columns)
    ∙ c.tokens.invariant

pub returns : goal.returns
returns c = raw_all _ _ _ c.args.bytes.now c.in_default.ensures.next.0 c.tokens.invariant
