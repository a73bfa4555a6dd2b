use Rattle.std.proofs.Common.{◌∙◌, ◌-◌, ℕ, arith, sym}
use Rattle.c_ints.specs.Ints.{keeps}
use Rattle.c_ints.specs.Parts.{seen_kind}
use Rattle.c_terminals.specs.Ahead.{ahead}
use Rattle.c_terminals.specs.Seen.{seen}
use Rattle.c_ints.proofs.Keeping.{closes, declared, grown, inner_closes, kept, none_left, other, too_long}
use Rattle.c_ints.proofs.scopes.keeps.Goals as goal

pub returns-in_default : goal.returns-in_default
returns-in_default c =
    none_left c.tokens.left (seen_kind c.args.kind) c.args.name.now c.tokens.typed c.tokens.depth (ahead c.tokens.ahead)
    (omega (arith, c.tokens-test.true)) c.in_default.ensures ∙ c.tokens.invariant

pub returns-then-depth-eq0 : goal.returns-then-depth-eq0
returns-then-depth-eq0 c =
    closes c.tokens.left (seen_kind c.args.kind) c.args.name.now c.tokens.typed c.tokens.depth
    (seen c.in-Some.token) (ahead c.tokens.ahead) (ahead c.next.new.self) (omega (arith, c.tokens-test.true))
    c.in-Some.ensures
    (sym c.is_sign.ensures ∙ c.if-is_sign.true) (omega (arith, c.if-depth-eq0.true)) ∙ c.tokens.invariant

pub tokens-preserved-then-is_sign : goal.tokens-preserved-then-is_sign
tokens-preserved-then-is_sign c =
    sym (inner_closes c.tokens.left (seen_kind c.args.kind) c.args.name.now c.tokens.typed c.tokens.depth
    (seen c.in-Some.token) (ahead c.tokens.ahead) (ahead c.next.new.self) (omega (arith, c.tokens-test.true))
    c.in-Some.ensures
    (sym c.is_sign.ensures ∙ c.if-is_sign.true) (omega (arith, c.if-depth-eq0.false))) ∙ c.tokens.invariant

pub returns-then-typed : goal.returns-then-typed
returns-then-typed c =
    declared c.tokens.left (seen_kind c.args.kind) c.args.name.now c.tokens.typed c.tokens.depth
    (seen c.in-Some.token) (ahead c.tokens.ahead) (ahead c.next.new.self) (omega (arith, c.tokens-test.true))
    c.in-Some.ensures
    (sym c.is_sign.ensures ∙ c.if-is_sign.false) (sym c.is_named.ensures ∙ c.if-is_named.true) c.if-typed.true
    ∙ c.tokens.invariant

pub returns-then-not-branch : goal.returns-then-not-branch
returns-then-not-branch c =
    grown c.tokens.left (seen_kind c.args.kind) c.args.name.now c.tokens.typed c.tokens.depth
    (seen c.in-Some.token) (ahead c.tokens.ahead) (ahead c.next.new.self) (omega (arith, c.tokens-test.true))
    c.in-Some.ensures
    (sym c.is_sign.ensures ∙ c.if-is_sign.false) (sym c.is_named.ensures ∙ c.if-is_named.true) c.if-typed.false
    (sym c.in_ok-stays_small.ensures ∙ c.if-not-branch.true) ∙ c.tokens.invariant

pub tokens-preserved-else-not-branch : goal.tokens-preserved-else-not-branch
tokens-preserved-else-not-branch c =
    sym (kept c.tokens.left (seen_kind c.args.kind) c.args.name.now c.tokens.typed c.tokens.depth
    (seen c.in-Some.token) (ahead c.tokens.ahead) (ahead c.next.new.self) (omega (arith, c.tokens-test.true))
    c.in-Some.ensures
    (sym c.is_sign.ensures ∙ c.if-is_sign.false) (sym c.is_named.ensures ∙ c.if-is_named.true) c.if-typed.false
    (sym c.in_ok-stays_small.ensures ∙ c.if-not-branch.false)) ∙ c.tokens.invariant

pub tokens-preserved : goal.tokens-preserved
tokens-preserved c =
    let left : ℕ = c.tokens.left - 1 in
    (λ k. keeps left (seen_kind c.args.kind) c.args.name.now (c.is_any_type-typed.ensures k)
    (c.in_ok-depth.ensures k) (ahead c.next.new.self))
    ∙ sym (other c.tokens.left (seen_kind c.args.kind) c.args.name.now c.tokens.typed c.tokens.depth
    (seen c.in-Some.token) (ahead c.tokens.ahead) (ahead c.next.new.self) (omega (arith, c.tokens-test.true))
    c.in-Some.ensures
    (sym c.is_sign.ensures ∙ c.if-is_sign.false) (sym c.is_named.ensures ∙ c.if-is_named.false)) ∙ c.tokens.invariant

pub returns : goal.returns
returns c =
    too_long c.tokens.left (seen_kind c.args.kind) c.args.name.now c.tokens.typed c.tokens.depth (ahead c.tokens.ahead)
    (omega (arith, c.tokens-test.false)) ∙ c.tokens.invariant
