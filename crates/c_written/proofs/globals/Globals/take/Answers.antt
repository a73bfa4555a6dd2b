use Rattle.std.proofs.Common.{◌∙◌, ◌++◌, ap, sym, arith}
use Rattle.c_grammar.specs.Blocks.{Items, bare}
use Rattle.c_grammar.specs.Initial.{Onward, begun, declared, initial, initialized, set_late}
use Rattle.c_written.specs.Globals.{state_of}
use Rattle.c_terminals.specs.Seen.{seen, seen_all}
use Rattle.c_written.proofs.Declaring.{global_taken, globals_inside, globals_left, globals_line, globals_outside, outside_begun, outside_declared, outside_set}
use Rattle.c_terminals.proofs.Lists.{written_one}
use Rattle.c_written.proofs.globals.Globals.take.Goals as goal

pub returns-then-is_directive : goal.returns-then-is_directive
returns-then-is_directive c =
    written_one _ _ c.args.token _ _ c.in_ok-push.ensures.items
    (globals_line _ _ _ _ (sym c.is_directive.ensures ∙ c.if-is_directive.true))

pub returns-then-self-gt0 : goal.returns-then-self-gt0
returns-then-self-gt0 c =
    ap (λ (is : Items). seen_all c.args.self.now.done.items ++ is)
    (globals_left _ _ _ _ (sym c.is_directive.ensures ∙ c.if-is_directive.false) c.if-self-gt0.true)

pub returns-then-self : goal.returns-then-self
returns-then-self c =
    written_one _ _ c.args.token _ _ c.in_ok-push-2.ensures.items
    (globals_inside _ _ _ _ (sym c.is_directive.ensures ∙ c.if-is_directive.false) (omega (arith, c.if-self-gt0.false))
    c.if-self.true)

pub returns-then-is_sign : goal.returns-then-is_sign
returns-then-is_sign c =
    let old = c.args.self.now in
    let i = seen c.args.token in
    let is = seen_all c.args.rest.now in
    global_taken c.begin.result old c.begin.new.self (begun i (state_of old)) i is
    (globals_outside (state_of old) old.left i is (sym c.is_directive.ensures ∙ c.if-is_directive.false)
    (omega (arith, c.if-self-gt0.false)) c.if-self.false
    ∙ outside_begun i (bare is) (state_of old) (λ g k. initialized g k is) (sym c.is_sign.ensures ∙ c.if-is_sign.true))
    c.begin.ensures

pub returns-then-is_sign-2 : goal.returns-then-is_sign-2
returns-then-is_sign-2 c =
    let old = c.args.self.now in
    let i = seen c.args.token in
    let is = seen_all c.args.rest.now in
    global_taken c.set.result old c.set.new.self
    (λ (go : Onward). set_late i (state_of old) (initial (seen_all old.since.items) (bare is)) go) i is
    (globals_outside (state_of old) old.left i is (sym c.is_directive.ensures ∙ c.if-is_directive.false)
    (omega (arith, c.if-self-gt0.false)) c.if-self.false
    ∙ outside_set i (bare is) (state_of old) (λ g k. initialized g k is) (sym c.is_sign.ensures ∙ c.if-is_sign.false)
    (sym c.is_sign-2.ensures ∙ c.if-is_sign-2.true))
    c.set.ensures

pub returns : goal.returns
returns c =
    let old = c.args.self.now in
    let i = seen c.args.token in
    let is = seen_all c.args.rest.now in
    global_taken c.declare.result old c.declare.new.self (declared i (state_of old)) i is
    (globals_outside (state_of old) old.left i is (sym c.is_directive.ensures ∙ c.if-is_directive.false)
    (omega (arith, c.if-self-gt0.false)) c.if-self.false
    ∙ outside_declared i (bare is) (state_of old) (λ g k. initialized g k is) (sym c.is_sign.ensures ∙ c.if-is_sign.false)
    (sym c.is_sign-2.ensures ∙ c.if-is_sign-2.false))
    c.declare.ensures
