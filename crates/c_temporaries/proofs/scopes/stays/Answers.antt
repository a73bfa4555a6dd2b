use Rattle.std.proofs.Common.{◌≡◌, ◌∙◌, ◌-◌, ℕ, arith, sym}
use Rattle.c_temporaries.specs.Temporaries.{stays}
use Rattle.c_terminals.specs.Ahead.{ahead}
use Rattle.c_terminals.specs.Seen.{seen}
use Rattle.c_temporaries.proofs.Staying.{assigned, closes, declared, inner_closes, none_left, other, read, too_long}
use Rattle.c_temporaries.proofs.scopes.stays.Goals as goal

pub returns-in_default : goal.returns-in_default
returns-in_default c =
    none_left c.tokens.left c.args.name.now c.tokens.typed c.tokens.depth (ahead c.tokens.ahead)
    (omega (arith, c.tokens-test.true)) c.in_default.ensures ∙ c.tokens.invariant

pub returns-then-depth-eq0 : goal.returns-then-depth-eq0
returns-then-depth-eq0 c =
    closes c.tokens.left c.args.name.now c.tokens.typed c.tokens.depth (seen c.in-Some.token) (ahead c.tokens.ahead)
    (ahead c.next.new.self) (omega (arith, c.tokens-test.true)) c.in-Some.ensures
    (sym c.is_sign.ensures ∙ c.if-is_sign.true) (omega (arith, c.if-depth-eq0.true)) ∙ c.tokens.invariant

pub tokens-preserved-then-is_sign : goal.tokens-preserved-then-is_sign
tokens-preserved-then-is_sign c =
    sym (inner_closes c.tokens.left c.args.name.now c.tokens.typed c.tokens.depth (seen c.in-Some.token) (ahead c.tokens.ahead)
    (ahead c.next.new.self) (omega (arith, c.tokens-test.true)) c.in-Some.ensures
    (sym c.is_sign.ensures ∙ c.if-is_sign.true) (omega (arith, c.if-depth-eq0.false))) ∙ c.tokens.invariant

pub returns-then-typed : goal.returns-then-typed
returns-then-typed c =
    declared c.tokens.left c.args.name.now c.tokens.typed c.tokens.depth (seen c.in-Some.token) (ahead c.tokens.ahead)
    (ahead c.next.new.self) (omega (arith, c.tokens-test.true)) c.in-Some.ensures
    (sym c.is_sign.ensures ∙ c.if-is_sign.false) (sym c.is_named.ensures ∙ c.if-is_named.true) c.if-typed.true
    ∙ c.tokens.invariant

pub returns-then-is_assigned : goal.returns-then-is_assigned
returns-then-is_assigned c =
    assigned c.tokens.left c.args.name.now c.tokens.typed c.tokens.depth (seen c.in-Some.token) (ahead c.tokens.ahead)
    (ahead c.next.new.self) (omega (arith, c.tokens-test.true)) c.in-Some.ensures
    (sym c.is_sign.ensures ∙ c.if-is_sign.false) (sym c.is_named.ensures ∙ c.if-is_named.true) c.if-typed.false
    (sym c.is_assigned.ensures ∙ c.if-is_assigned.true) ∙ c.tokens.invariant

pub tokens-preserved-else-is_assigned : goal.tokens-preserved-else-is_assigned
tokens-preserved-else-is_assigned c =
    sym (read c.tokens.left c.args.name.now c.tokens.typed c.tokens.depth (seen c.in-Some.token) (ahead c.tokens.ahead)
    (ahead c.next.new.self) (omega (arith, c.tokens-test.true)) c.in-Some.ensures
    (sym c.is_sign.ensures ∙ c.if-is_sign.false) (sym c.is_named.ensures ∙ c.if-is_named.true) c.if-typed.false
    (sym c.is_assigned.ensures ∙ c.if-is_assigned.false)) ∙ c.tokens.invariant

pub tokens-preserved : goal.tokens-preserved
tokens-preserved c =
    let left : ℕ = c.tokens.left - 1 in
    (λ k. stays left c.args.name.now (c.is_type-typed.ensures k) (c.in_ok-depth.ensures k) (ahead c.next.new.self))
    ∙ sym (other c.tokens.left c.args.name.now c.tokens.typed c.tokens.depth (seen c.in-Some.token) (ahead c.tokens.ahead)
    (ahead c.next.new.self) (omega (arith, c.tokens-test.true)) c.in-Some.ensures
    (sym c.is_sign.ensures ∙ c.if-is_sign.false) (sym c.is_named.ensures ∙ c.if-is_named.false)) ∙ c.tokens.invariant

pub returns : goal.returns
returns c =
    too_long c.tokens.left c.args.name.now c.tokens.typed c.tokens.depth (ahead c.tokens.ahead)
    (omega (arith, c.tokens-test.false)) ∙ c.tokens.invariant
