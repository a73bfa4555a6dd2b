use Rattle.std.proofs.Common.{◌≡◌, ◌∙◌, ◌++◌, Some, ap, rules}
use Rattle.c_grammar.specs.Blocks.{Items, bare}
use Rattle.c_grammar.specs.Expressions.{Number}
use Rattle.c_grammar.specs.Constants.{at_wanted, wanted}
use Rattle.c_terminals.specs.Seen.{seen, seen_all}
use Rattle.c_terminals.specs.Held.{written_all}
use Rattle.c_written.specs.Past.{past_of}
use Rattle.c_written.specs.Values.{seen_values}
use Rattle.c_written.specs.Constants.{behind}
use Rattle.c_written.proofs.Blocking.{on_ok}
use Rattle.c_written.proofs.Working.{expressed_number, number_item}
use Rattle.c_written.proofs.constants.Constants.work.Goals as goal

pub returns-in-Some-Number-clause-gone : goal.returns-in-Some-Number-clause-gone
returns-in-Some-Number-clause-gone c =
    let w : Some (Number c.in-Some-Number.count c.in-Some-Number.value) ≡
    at_wanted (seen_values c.args.self.now.values) (bare (seen_all c.args.tokens.now)) (wanted (past_of c.args.self.now.past)) =
    search rules in
    on_ok c.go_on-in-Some-Number.result _ _
    (λ h is. ap (λ (js : Items). written_all c.args.self.now.done.items ++ js)
    (expressed_number (seen_values c.args.self.now.values) (past_of c.args.self.now.past) (seen c.args.token) (seen c.at.result) _
    c.in-Some-Number.count c.in-Some-Number.value c.saturating_sub.result (behind is) w
    (c.at.ensures ∙ number_item (seen_values c.args.self.now.values) (wanted (past_of c.args.self.now.past)) c.args.token
    (bare (seen_all c.args.tokens.now)) _ c.in-Some-Number.count c.in-Some-Number.value c.requires.first w)
    c.saturating_sub.ensures)
    ∙ h is)
    c.go_on-in-Some-Number.ensures.gone
