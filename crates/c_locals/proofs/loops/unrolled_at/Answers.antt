use Rattle.std.proofs.Common.{◌≡◌, ◌∙◌, IfOk, Option, ap, subst, sym, take}
use Rattle.std.specs.Option.{option_map}
use Rattle.c_grammar.specs.Blocks.{Items, bare}
use Rattle.c_grammar.specs.Locals.{Put, max_ahead}
use Rattle.c_terminals.specs.Seen.{seen, seen_all}
use Rattle.c_locals.specs.Puts.{seen_put, seen_state}
use Rattle.c_locals.proofs.Unrolling.{at_for}
use Rattle.c_locals.proofs.loops.unrolled_at.Goals as goal

pub returns : goal.returns
returns c =
    subst (λ (p : Option Put). IfOk c.loop_put.result (λ o. option_map (seen_put (seen_state c.args.state.now)) o ≡ p))
    (at_for (seen_state c.args.state.now) (seen c.args.token) (bare (seen_all c.args.rest.now)) (seen_all c.deref.result.now)
    (sym c.is_word.ensures ∙ c.if-not-is_word.false) (sym c.has_array.ensures ∙ c.if-not-has_array.false)
    (ap seen_all c.deref.ensures.value ∙ c.in_ok-tokens.ensures ∙ ap (λ (is : Items). take max_ahead is) c.new.ensures)) c.loop_put.ensures
