use Rattle.std.proofs.Common.{◌∙◌, ap, sym}
use Rattle.std.specs.Option.{option_map}
use Rattle.c_macros.specs.Text.{seen_state}
use Rattle.c_terminals.specs.Seen.{seen_all}
use Rattle.c_macros.proofs.Steps.{replaced_read}
use Rattle.c_macros.proofs.text.replaced.Goals as goal

pub returns-in-Some-whole : goal.returns-in-Some-whole
returns-in-Some-whole c =
    replaced_read (seen_all c.args.tokens.now) (seen_all c.in-Some-whole.done.items) (seen_state c.in-Some.state)
    (sym c.has_any.ensures ∙ c.if-has_any.true)
    (sym c.in_ok-state.ensures ∙ ap (option_map seen_state) c.in-Some.is)
    (sym c.whole.ensures ∙ ap (option_map (λ v. seen_all v.items)) c.in-Some-whole.is)
