use Rattle.std.proofs.Common.{subst, sym}
use Rattle.std.specs.Prelude.{IfSome}
use Rattle.driver.specs.Printed.{IsInput}
use Rattle.witness.specs.Witnesses.{IsFound}
use Rattle.driver.proofs.witnessed.print_found.Goals as goal

pub returns-in-Ok-clause-done : goal.returns-in-Ok-clause-done
returns-in-Ok-clause-done g c =
    λ _. record {
      input = c.deref.result.now;
      is_input = subst (IsInput (g.R.Read.remaining c.args.input.now)) (sym c.deref.ensures.value) c.in_ok-numbers.ensures.numbers;
      found = c.in-Ok-Some.found.witness;
      plain = c.in-Ok-Some.found.plain;
      is = subst (λ found. IfSome found (IsFound c.args.source.bytes.now c.deref.result.now 4194304)) c.in-Ok-Some.field-0-is
          c.in-Ok-Some.ensures;
      written = c.in-Ok.ensures;
    }
