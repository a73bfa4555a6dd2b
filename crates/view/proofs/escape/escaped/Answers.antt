use Rattle.std.proofs.Common.{subst, sym, take}
use Rattle.view.specs.Escaped.{IsHarmless}
use Rattle.view.proofs.Harmless.{harmless}
use Rattle.view.proofs.escape.escaped.Goals as goal

pub returns-clause-harmless : goal.returns-clause-harmless
returns-clause-harmless c = subst IsHarmless (sym c.bytes.invariant) (harmless c.is_ok-is_text.result (take c.bytes.byte-index c.args.bytes.now))
