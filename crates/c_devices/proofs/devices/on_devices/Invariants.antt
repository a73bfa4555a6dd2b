use Rattle.std.proofs.Common.{◌≡◌, length}
use Rattle.c_grammar.specs.Devices.{on_devices}
use Rattle.c_terminals.specs.Seen.{seen_all}
use Rattle.c_devices.specs.State.{with_devices}
use Rattle.c_devices.proofs.devices.on_devices.Given as goal

abbrev pub invariant-tokens : goal.invariant-tokens
invariant-tokens l = with_devices l.devices (seen_all l.rest) ≡ on_devices (seen_all l.fn.tokens)

abbrev pub decreases-tokens : goal.decreases-tokens
decreases-tokens l = length l.rest
