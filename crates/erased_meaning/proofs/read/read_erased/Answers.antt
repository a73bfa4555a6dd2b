use Rattle.std.proofs.Common.{◌∙◌, List, ℕ, subst}
use Rattle.std.specs.Prelude.{IfOk, IfErr}
use Rattle.c_source.specs.Source.{IsFirstFault}
use Rattle.c_read.specs.Spells.{OnText, Spells}
use Rattle.erased_meaning.proofs.Reading.{on_erased, on_memory}
use Rattle.erased_meaning.proofs.read.read_erased.Goals as goal

pub returns : goal.returns
returns c = record {
  found = subst (λ (t : List ℕ). IfOk c.read_program.result (λ q. Spells t q))
      (c.deref-erased.ensures.value ∙ c.in-Ok.ensures.erased) c.read_program.ensures.found;
  erased = on_erased c.read_program.result c.args.bytes.now c.deref-erased.result.now
      (c.deref-erased.ensures.value ∙ c.in-Ok.ensures.erased) c.read_program.ensures.found;
  memory = on_memory c.read_program.result c.args.bytes.now c.deref-erased.result.now c.in-Ok.text.items
      c.deref-erased.ensures.value c.in-Ok.ensures.tree c.read_program.ensures.unspelled;
  fault = subst (λ (t : List ℕ). IfErr c.read_program.result (OnText (λ f. IsFirstFault t f)))
      (c.deref-erased.ensures.value ∙ c.in-Ok.ensures.erased) c.read_program.ensures.fault;
}
