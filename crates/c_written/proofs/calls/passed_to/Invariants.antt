use Rattle.std.proofs.Common.{◌≡◌, Some, drop, map}
use Rattle.c_grammar.specs.Functions.{both, passed}
use Rattle.c_written.specs.Functions.{all_parameters, seen_passed}
use Rattle.c_terminals.specs.Seen.{seen_all}
use Rattle.c_written.proofs.calls.passed_to.Given as goal

abbrev pub invariant-parameters : goal.invariant-parameters
invariant-parameters l =
    both (Some (seen_passed l.passed))
    (passed (map (λ x. x.now) l.globals) (drop l.k (all_parameters l.parameters)) (drop l.k (map (λ v. seen_all v.items) l.list)))
    ≡ passed (map (λ x. x.now) l.globals) (all_parameters l.parameters) (map (λ v. seen_all v.items) l.list)
