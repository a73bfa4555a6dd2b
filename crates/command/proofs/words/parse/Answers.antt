use Rattle.std.proofs.Common.{ap, map, subst}
use Rattle.clap.specs.Faults.{fault_of, is_simple_and_free}
use Rattle.clap.specs.Kinds.{HasKind}
use Rattle.clap.specs.Simple.{App}
use Rattle.clap.proofs.FaultLemmas.{failed_up}
use Rattle.command.specs.CommandLine.{ompc}
use Rattle.command.proofs.Named.{asked, meets}
use Rattle.command.proofs.words.parse.Goals as goal

pub request_of-requires : goal.request_of-requires
request_of-requires c = (meets c.in_ok-program.program c.in_ok-given.given (map (λ w. w.now) c.args.words.now) c.in_ok-program.ensures
    c.in_ok-given.ensures.parsed c.in_ok-given.ensures.matches c.in_ok-given.ensures.kinds).named

pub returns-clause-asks : goal.returns-clause-asks
returns-clause-asks c = asked (map (λ w. w.now) c.args.words.now) c.in_ok-given.given c.request_of.result
    (meets c.in_ok-program.program c.in_ok-given.given (map (λ w. w.now) c.args.words.now) c.in_ok-program.ensures
    c.in_ok-given.ensures.parsed c.in_ok-given.ensures.matches c.in_ok-given.ensures.kinds) c.request_of.ensures

pub returns-clause-fails : goal.returns-clause-fails
returns-clause-fails c = (meets c.in_ok-program.program c.in_ok-given.given (map (λ w. w.now) c.args.words.now) c.in_ok-program.ensures
    c.in_ok-given.ensures.parsed c.in_ok-given.ensures.matches c.in_ok-given.ensures.kinds).no_fault

pub returns-in_err-given-clause-fails : goal.returns-in_err-given-clause-fails
returns-in_err-given-clause-fails c =
    let words = map (λ w. w.now) c.args.words.now in
    let e = c.in_err-given.field-0.0 in
    let is = c.in_ok-program.ensures.0 in
    failed_up c.from_residual-in_err-given.result e _ (fault_of ompc words) c.from_residual-in_err-given.ensures.1
    (subst (λ (a : App). HasKind (fault_of a words) e) is (c.in_err-given.ensures.kinds (ap is_simple_and_free is)))
