use Rattle.std.proofs.Common.{◌≡◌, [], length}
use Rattle.maps.specs.Shown.{tables_in}
use Rattle.maps.proofs.tables.empty_tables.Given as goal

abbrev pub invariant-devices : goal.invariant-devices
invariant-devices l = record { count : length l.tables.items ≡ l.counter; empty : tables_in l.tables.items ≡ (λ d. []) }
