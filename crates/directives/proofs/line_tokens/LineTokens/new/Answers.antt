use Rattle.std.proofs.Common.{◌≡◌, ◌∙◌, ap, map, true}
use Rattle.directives.specs.Seen.{seen_placed, is_whole}
use Rattle.directives.proofs.Wholes.{line_whole}
use Rattle.directives.proofs.line_tokens.LineTokens.new.Goals as goal

pub invariant_of-result : goal.invariant_of-result
invariant_of-result c =
    let ends : is_whole (map seen_placed c.in_ok-tokens.tokens.items) ≡ true =
    ap is_whole (c.in_ok-tokens.ensures ∙ c.new.ensures.ahead) ∙ line_whole c.args.line.now c.args.column in
    record { ends = ends }
