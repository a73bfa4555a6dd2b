use Rattle.std.proofs.Common.{◌≡◌, ◌++◌, drop, map}
use Rattle.c_written.specs.Functions.{all_declared}
use Rattle.c_written.proofs.functions.Source.declared.Given as goal

abbrev pub invariant-declared : goal.invariant-declared
invariant-declared l =
    map (λ x. x.now) l.names.items ++ map (λ d. d.name) (all_declared (drop l.declared-index l.head.declared.items))
    ≡ map (λ d. d.name) (all_declared l.head.declared.items)
