use Rattle.std.proofs.Common.{◌≡◌, ◌∙◌, ◌++◌, Some, None, sym, ap, rules}
use Rattle.c_grammar.specs.Blocks.{Items, bare}
use Rattle.c_grammar.specs.Expressions.{Values}
use Rattle.c_grammar.specs.Constants.{Defines, Misdefines, at_wanted, definition, expressed, wanted, worked}
use Rattle.c_terminals.specs.Seen.{seen, seen_all, seen_terminal}
use Rattle.c_terminals.specs.Held.{written_all}
use Rattle.c_written.specs.Past.{past_of}
use Rattle.c_written.specs.Values.{seen_values}
use Rattle.c_written.specs.Work.{seen_operator}
use Rattle.c_written.specs.Constants.{behind, with_constants}
use Rattle.c_written.proofs.Blocking.{on_ok}
use Rattle.c_written.proofs.Working.{bare_other, worked_line, worked_left, worked_defines, worked_misdefines, worked_other}
use Rattle.c_written.proofs.constants.Constants.take.Goals as goal

pub returns-then-is_directive-clause-taken : goal.returns-then-is_directive-clause-taken
returns-then-is_directive-clause-taken c =
    on_ok c.write_line.result _ _
    (λ h. ap (λ (is : Items). with_constants c.args.self.now is) c.requires.rest
    ∙ ap (λ (is : Items). written_all c.args.self.now.done.items ++ is)
    (worked_line (seen_values c.args.self.now.values) (past_of c.args.self.now.past) c.args.self.now.left
    (seen c.args.token) (seen_all c.args.behind.now)
    (sym c.if-is_directive.ensures))
    ∙ h (seen_all c.args.behind.now))
    c.write_line.ensures.gone

pub returns-then-self-gt0-clause-taken : goal.returns-then-self-gt0-clause-taken
returns-then-self-gt0-clause-taken c =
    ap (λ (is : Items). with_constants c.args.self.now is) c.requires.rest
    ∙ ap (λ (is : Items). written_all c.args.self.now.done.items ++ is)
    (worked_left (seen_values c.args.self.now.values) (past_of c.args.self.now.past) c.args.self.now.left
    (seen c.args.token) (seen_all c.args.behind.now)
    (sym c.if-is_directive.ensures) c.if-self-gt0.true)

pub returns-in-Some-Defines-clause-taken : goal.returns-in-Some-Defines-clause-taken
returns-in-Some-Defines-clause-taken c =
    let d : Some (Defines c.in-Some-Defines.constant.name.now c.in-Some-Defines.constant.value) ≡
    definition (seen_values c.args.self.now.values) (seen c.args.token) (seen_terminal c.args.token.terminal) =
    search rules in
    on_ok c.define.result _ _
    (λ h. ap (λ (is : Items). with_constants c.args.self.now is) c.requires.rest
    ∙ ap (λ (is : Items). written_all c.args.self.now.done.items ++ is)
    (worked_defines (seen_values c.args.self.now.values) (past_of c.args.self.now.past) c.args.self.now.left
    (seen c.args.token) (seen_all c.args.behind.now)
    c.in-Some-Defines.constant.name.now c.in-Some-Defines.constant.value (sym c.if-is_directive.ensures) c.if-self-gt0.false d
    ∙ ap (λ (vs : Values). worked vs (past_of c.args.self.now.past) c.args.self.now.left (seen_all c.args.behind.now)) (sym h)))
    c.define.ensures

pub returns-in-Some-Misdefines-clause-taken : goal.returns-in-Some-Misdefines-clause-taken
returns-in-Some-Misdefines-clause-taken c =
    let d : Some (Misdefines (seen_operator c.in-Some-Misdefines.operator)) ≡
    definition (seen_values c.args.self.now.values) (seen c.args.token) (seen_terminal c.args.token.terminal) =
    search rules in
    on_ok c.fail.result _ _
    (λ h. ap (λ (is : Items). with_constants c.args.self.now is) c.requires.rest
    ∙ ap (λ (is : Items). written_all c.args.self.now.done.items ++ is)
    (worked_misdefines (seen_values c.args.self.now.values) (past_of c.args.self.now.past) c.args.self.now.left
    (seen c.args.token) (seen_all c.args.behind.now)
    (seen_operator c.in-Some-Misdefines.operator) (sym c.if-is_directive.ensures) c.if-self-gt0.false d)
    ∙ h (seen_all c.args.behind.now))
    c.fail.ensures.gone

pub returns-in-None-clause-taken : goal.returns-in-None-clause-taken
returns-in-None-clause-taken c =
    let d : None ≡ definition (seen_values c.args.self.now.values) (seen c.args.token) (seen_terminal c.args.token.terminal) =
    search rules in
    let first = ap bare c.requires.rest
    ∙ bare_other (seen c.args.token) (seen_all c.args.behind.now) (sym c.if-is_directive.ensures) in
    on_ok c.work.result _ _
    (λ h. ap (λ (is : Items). with_constants c.args.self.now is) c.requires.rest
    ∙ ap (λ (is : Items). written_all c.args.self.now.done.items ++ is)
    (worked_other (seen_values c.args.self.now.values) (past_of c.args.self.now.past) c.args.self.now.left
    (seen c.args.token) (seen_all c.args.behind.now)
    (sym c.if-is_directive.ensures) c.if-self-gt0.false d
    ∙ ap (λ (js : Items). expressed (seen_values c.args.self.now.values) (past_of c.args.self.now.past) (seen c.args.token)
    (at_wanted (seen_values c.args.self.now.values) js (wanted (past_of c.args.self.now.past)))
    (behind (seen_all c.args.behind.now))) (sym first))
    ∙ h (seen_all c.args.behind.now))
    c.work.ensures.gone
