use Rattle.std.proofs.Common.{◌∙◌, Option, ap, arith, sym}
use Rattle.std.specs.Option.{option_map}
use Rattle.c_ints.specs.declared.values.Value.{Value}
use Rattle.c_ints.specs.Parts.{seen_kind, seen_value}
use Rattle.c_terminals.specs.Ahead.{ahead}
use Rattle.c_terminals.specs.Seen.{seen}
use Rattle.c_ints.proofs.SmallValues.{broken, ended, longer, none_left, too_long}
use Rattle.c_ints.proofs.values.small_from.Goals as goal

pub returns-in_default : goal.returns-in_default
returns-in_default c =
    none_left c.tokens.left (seen_kind c.args.kind) (seen_value c.tokens.value) (ahead c.tokens.ahead)
    (omega (arith, c.tokens-test.true)) c.in_default.ensures ∙ c.tokens.invariant

pub returns-then-ends : goal.returns-then-ends
returns-then-ends c =
    c.is_small.ensures
    ∙ ended c.tokens.left (seen_kind c.args.kind) (seen_value c.tokens.value) (seen c.in-Some.token)
    (ahead c.tokens.ahead) (ahead c.next.new.self) (omega (arith, c.tokens-test.true))
    c.in-Some.ensures (sym c.ends.ensures ∙ c.if-ends.true)
    ∙ c.tokens.invariant

pub returns-in-None : goal.returns-in-None
returns-in-None c =
    broken c.tokens.left (seen_kind c.args.kind) (seen_value c.tokens.value) (seen c.in-Some.token)
    (ahead c.tokens.ahead) (ahead c.next.new.self) (omega (arith, c.tokens-test.true))
    c.in-Some.ensures (sym c.ends.ensures ∙ c.if-ends.false)
    (sym c.in_ok-value_by.ensures ∙ ap (λ (o : Option Value). option_map seen_value o) c.in-None.is)
    ∙ c.tokens.invariant

pub tokens-preserved : goal.tokens-preserved
tokens-preserved c =
    sym (longer c.tokens.left (seen_kind c.args.kind) (seen_value c.tokens.value) (seen_value c.in-Some-2.next)
    (seen c.in-Some.token) (ahead c.tokens.ahead) (ahead c.next.new.self) (omega (arith, c.tokens-test.true))
    c.in-Some.ensures (sym c.ends.ensures ∙ c.if-ends.false)
    (sym c.in_ok-value_by.ensures ∙ ap (λ (o : Option Value). option_map seen_value o) c.in-Some-2.is))
    ∙ c.tokens.invariant

pub returns : goal.returns
returns c =
    too_long c.tokens.left (seen_kind c.args.kind) (seen_value c.tokens.value) (ahead c.tokens.ahead)
    (omega (arith, c.tokens-test.false)) ∙ c.tokens.invariant
