use Rattle.std.proofs.Common.{◌≡◌, ◌∙◌, rules}
use Rattle.c_grammar.specs.Clauses.{Keep, LeaveOut, PutType, step_at}
use Rattle.directives.specs.Seen.{seen_placed}
use Rattle.c_written.specs.Clauses.{seen_place, seen_scope}
use Rattle.c_written.specs.Forms.{all_placed}
use Rattle.c_written.proofs.Blocking.{on_ok}
use Rattle.c_written.proofs.ClauseSteps.{took_left, took_step}
use Rattle.c_written.proofs.clauses.Clauses.take.Goals as goal

pub returns-then-self-gt0-clause-taken : goal.returns-then-self-gt0-clause-taken
returns-then-self-gt0-clause-taken c =
    took_left c.args.self.now (seen_placed c.args.placed) _ _ c.requires.rest c.if-self-gt0.true

pub returns-in-Keep-clause-taken : goal.returns-in-Keep-clause-taken
returns-in-Keep-clause-taken c =
    let e : Keep ≡ step_at (seen_scope c.args.self.now.scope) (seen_place c.args.self.now.place) (all_placed c.args.rest.now) =
    search rules in
    on_ok c.keep.result _ _
    (λ h. took_step c.args.self.now (seen_placed c.args.placed) (all_placed c.args.rest.now) (all_placed c.args.behind.now) Keep
    c.requires.rest c.if-self-gt0.false e ∙ h (all_placed c.args.behind.now))
    c.keep.ensures.gone

pub returns-in-LeaveOut-clause-taken : goal.returns-in-LeaveOut-clause-taken
returns-in-LeaveOut-clause-taken c =
    let e : LeaveOut c.in-LeaveOut.more ≡
    step_at (seen_scope c.args.self.now.scope) (seen_place c.args.self.now.place) (all_placed c.args.rest.now) = search rules in
    took_step c.args.self.now (seen_placed c.args.placed) (all_placed c.args.rest.now) (all_placed c.args.behind.now)
    (LeaveOut c.in-LeaveOut.more) c.requires.rest c.if-self-gt0.false e

pub returns-in-PutType-clause-taken : goal.returns-in-PutType-clause-taken
returns-in-PutType-clause-taken c =
    let e : PutType (seen_placed c.in-PutType.bracket) c.in-PutType.column ≡
    step_at (seen_scope c.args.self.now.scope) (seen_place c.args.self.now.place) (all_placed c.args.rest.now) = search rules in
    on_ok c.put_type.result _ _
    (λ h. took_step c.args.self.now (seen_placed c.args.placed) (all_placed c.args.rest.now) (all_placed c.args.behind.now)
    (PutType (seen_placed c.in-PutType.bracket) c.in-PutType.column) c.requires.rest c.if-self-gt0.false e
    ∙ h (all_placed c.args.behind.now))
    c.put_type.ensures.gone
