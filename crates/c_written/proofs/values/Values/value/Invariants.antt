use Rattle.std.proofs.Common.{◌≡◌, take}
use Rattle.c_grammar.specs.Expressions.{value_of}
use Rattle.c_written.specs.Values.{values_of}
use Rattle.c_written.proofs.values.Values.value.Given as goal

abbrev pub invariant-constants : goal.invariant-constants
invariant-constants l = l.found ≡ value_of (values_of (take l.constant-index l.self.constants.items)) l.name
