use Rattle.std.proofs.Common.{◌∙◌}
use Rattle.witness.proofs.Sources.{differing}
use Rattle.witness.proofs.search.find.Goals as goal

pub returns-in-Ok-Some : goal.returns-in-Ok-Some
returns-in-Ok-Some c =
    let trial = rw c.in-Ok-Some.field-0-is at c.in-Ok-Some.ensures.trial in
    let told = rw c.in-Ok-Some.field-0-is at c.in-Ok-Some.ensures.told in
    differing _ c.args.bytes.now _ c.in-Ok-Some.witness c.deref.result.now c.in-Ok-run_source_fine.plain c.new-source.ensures
    (c.deref.ensures.value ∙ c.in-Ok.ensures.erased) c.in-Ok-run_source_fine.ensures.answer c.deref-2.ensures.value c.requires.spelled
    trial told
