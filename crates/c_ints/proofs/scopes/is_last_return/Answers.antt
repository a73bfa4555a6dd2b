use Rattle.std.proofs.Common.{◌≡◌, ◌∙◌, ◌-◌, Bool, false, ap, arith, sym}
use Rattle.std.specs.Prelude.{◌&&◌}
use Rattle.c_tokens.specs.declared.kind.Sign.TheVariants as sign
use Rattle.c_grammar.specs.Constants.{is_mark}
use Rattle.c_ints.specs.Ints.{is_last_return}
use Rattle.c_terminals.specs.Ahead.{ahead}
use Rattle.c_terminals.specs.Seen.{seen}
use Rattle.c_ints.proofs.Returning.{broken, called, ended, longer, neither, none_left, too_long, unnamed, with_bracket}
use Rattle.c_ints.proofs.scopes.is_last_return.Goals.{else-named-via-then-named+else-is_sign-2, else-named-via-else-named}
use Rattle.c_ints.proofs.scopes.is_last_return.Goals as goal

pub returns-in_default : goal.returns-in_default
returns-in_default c =
    none_left c.tokens.left c.tokens.named (ahead c.tokens.ahead) (omega (arith, c.tokens-test.true))
    c.in_default.ensures ∙ c.tokens.invariant

pub returns-then-is_sign : goal.returns-then-is_sign
returns-then-is_sign c =
    c.is_last_brace.ensures
    ∙ ended c.tokens.left c.tokens.named (seen c.in-Some.token) (ahead c.tokens.ahead) (ahead c.next.new.self)
    (omega (arith, c.tokens-test.true)) c.in-Some.ensures (sym c.is_sign.ensures ∙ c.if-is_sign.true)
    ∙ c.tokens.invariant

pub returns-then-not-is_returned : goal.returns-then-not-is_returned
returns-then-not-is_returned c =
    broken c.tokens.left c.tokens.named (seen c.in-Some.token) (ahead c.tokens.ahead) (ahead c.next.new.self)
    (omega (arith, c.tokens-test.true)) c.in-Some.ensures (sym c.is_sign.ensures ∙ c.if-is_sign.false)
    (sym c.is_returned.ensures ∙ c.if-not-is_returned.true) ∙ c.tokens.invariant

pub returns-then-is_sign-2 : goal.returns-then-is_sign-2
returns-then-is_sign-2 c =
    called c.tokens.left c.tokens.named (seen c.in-Some.token) (ahead c.tokens.ahead) (ahead c.next.new.self)
    (omega (arith, c.tokens-test.true)) c.in-Some.ensures (sym c.is_sign.ensures ∙ c.if-is_sign.false)
    (sym c.is_returned.ensures ∙ c.if-not-is_returned.false)
    (with_bracket c.tokens.named (is_mark sign.OpenParen (seen c.in-Some.token)) c.if-named.true
    (sym c.is_sign-then-named.ensures ∙ c.if-is_sign-2.true)) ∙ c.tokens.invariant

pub tokens-preserved : goal.tokens-preserved
tokens-preserved c =
    let bracket : Bool = is_mark sign.OpenParen (seen c.in-Some.token) in
    let free : (c.tokens.named && bracket) ≡ false = elim c.else-named.branch [
      | else-named-via-then-named+else-is_sign-2 w ↦
          neither c.tokens.named bracket (sym w.is_sign-then-named.ensures ∙ w.if-is_sign-2.false)
      | else-named-via-else-named w ↦ unnamed c.tokens.named bracket w.if-named.false
    ] in
    ap (λ (b : Bool). is_last_return (c.tokens.left - 1) b (ahead c.next.new.self)) c.is_name-named.ensures
    ∙ sym (longer c.tokens.left c.tokens.named (seen c.in-Some.token) (ahead c.tokens.ahead) (ahead c.next.new.self)
    (omega (arith, c.tokens-test.true)) c.in-Some.ensures (sym c.is_sign.ensures ∙ c.if-is_sign.false)
    (sym c.is_returned.ensures ∙ c.if-not-is_returned.false) free) ∙ c.tokens.invariant

pub returns : goal.returns
returns c =
    too_long c.tokens.left c.tokens.named (ahead c.tokens.ahead) (omega (arith, c.tokens-test.false))
    ∙ c.tokens.invariant
