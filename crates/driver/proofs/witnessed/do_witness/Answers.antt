use Rattle.std.proofs.Common.{◌≡◌, ℕ, List, Option}
use Rattle.std.specs.Prelude.{Result, Ok, Err, IfOk, IfSome}
use Rattle.c_lines.specs.Spliced.{spliced}
use Rattle.driver.specs.Printed.{IsWitnessed, OfSource}
use Rattle.driver.proofs.Refusals.{of_refused}
use Rattle.driver.proofs.Requests.{of_source}
use Rattle.driver.proofs.witnessed.do_witness.Goals as goal

-- what is done of the bytes that were found is done of the source
of_done : {E : Type 0} (r : Result ℕ E) (source : Option (List ℕ)) (P : List ℕ → Type 0) (found bytes : List ℕ) →
    IfSome source (λ xs. found ≡ spliced xs) → bytes ≡ found → IfOk r (λ s. s ≡ 0 → P bytes) →
    IfOk r (λ s. s ≡ 0 → OfSource source P)
of_done (Ok s) source P found bytes are same h = λ e. of_source source P found bytes are same (h e)
of_done (Err x) source P found bytes are same h = tt

pub returns-clause-refused : goal.returns-clause-refused
returns-clause-refused g c =
    of_refused c.print_witness.result (g.S.Sources.known c.args.sources.now c.args.name.now) c.in_ok-bytes.bytes.items
    c.deref-2.result.now c.in_ok-bytes.ensures.bytes c.deref-2.ensures.value c.print_witness.ensures.refused

pub returns-clause-done : goal.returns-clause-done
returns-clause-done g c =
    of_done c.print_witness.result (g.S.Sources.known c.args.sources.now c.args.name.now)
    (λ bytes. IsWitnessed c.args.name.now bytes (g.R.Read.remaining c.args.input.now) (g.W.Write.contents c.args.out.now)
    (g.W.Write.contents c.print_witness.new.out))
    c.in_ok-bytes.bytes.items c.deref-2.result.now c.in_ok-bytes.ensures.bytes c.deref-2.ensures.value c.print_witness.ensures.done
