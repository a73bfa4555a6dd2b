use Rattle.std.proofs.Common.{◌≡◌, false, take}
use Rattle.outline.specs.Walk.{is_named}
use Rattle.outline.proofs.items.is_named.Given as goal

abbrev pub invariant-written : goal.invariant-written
invariant-written l = is_named (take l.text-index l.written) l.array.0 ≡ false
