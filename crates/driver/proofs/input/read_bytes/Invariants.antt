use Rattle.std.specs.Io.KnownBytes.{Consumes}
use Rattle.driver.proofs.input.read_bytes.Given as goal

abbrev pub invariant-parts : goal.invariant-parts
invariant-parts g l = Consumes (g.R.Read.remaining l.initial.input) (g.R.Read.remaining l.input) l.bytes.items
