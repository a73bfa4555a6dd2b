use Rattle.std.proofs.Common.{sym, ◌∙◌, ap, subst, Some}
use Rattle.actions.specs.Strand.{IsNext}
use Rattle.actions.proofs.Nexts.{next_none, next_load, next_store, next_combine, next_remove, next_copy_in, next_copy_out, next_enter, next_leave}
use Rattle.actions.proofs.strand.Strand.next.Goals as goal

pub returns-in_err-array : goal.returns-in_err-array
returns-in_err-array c stopped =
    subst (λ o. IsNext c.args.self.now o) (sym c.from_residual.ensures)
    (next_none c.args.self.now (sym c.top.ensures ∙ c.in_err-array.was))

pub returns-in-Load : goal.returns-in-Load
returns-in-Load c stopped = next_load c.args.self.now c.in-Load.array (sym c.top.ensures ∙ c.in_ok-array.was ∙ ap (λ f. Some f) c.in-Load.is)

pub returns-in-Store : goal.returns-in-Store
returns-in-Store c stopped = next_store c.args.self.now c.in-Store.array c.in-Store.index (sym c.top.ensures ∙ c.in_ok-array.was ∙ ap (λ f. Some f) c.in-Store.is)

pub returns-in-Combine : goal.returns-in-Combine
returns-in-Combine c stopped = next_combine c.args.self.now c.in-Combine.op c.in-Combine.array c.in-Combine.index (sym c.top.ensures ∙ c.in_ok-array.was ∙ ap (λ f. Some f) c.in-Combine.is)

pub returns-in_ok-first-in-Entries : goal.returns-in_ok-first-in-Entries
returns-in_ok-first-in-Entries c stopped = next_enter c.args.self.now c.in-Entries.maps _
    (sym c.top.ensures ∙ c.in_ok-array.was ∙ ap (λ f. Some f) c.in-Entries.is) (sym c.in_ok-first-in-Entries.ensures.value)

pub returns-in_ok-first-in-Exits : goal.returns-in_ok-first-in-Exits
returns-in_ok-first-in-Exits c stopped = next_leave c.args.self.now c.in-Exits.maps _
    (sym c.top.ensures ∙ c.in_ok-array.was ∙ ap (λ f. Some f) c.in-Exits.is) (sym c.in_ok-first-in-Exits.ensures.value)

pub returns-in-CopyIn : goal.returns-in-CopyIn
returns-in-CopyIn c stopped = next_copy_in c.args.self.now c.in-CopyIn.cells (sym c.top.ensures ∙ c.in_ok-array.was ∙ ap (λ f. Some f) c.in-CopyIn.is) stopped

pub returns-in-CopyOut : goal.returns-in-CopyOut
returns-in-CopyOut c stopped = next_copy_out c.args.self.now c.in-CopyOut.cells (sym c.top.ensures ∙ c.in_ok-array.was ∙ ap (λ f. Some f) c.in-CopyOut.is) stopped

pub returns-in-Remove : goal.returns-in-Remove
returns-in-Remove c stopped = next_remove c.args.self.now c.in-Remove.held (sym c.top.ensures ∙ c.in_ok-array.was ∙ ap (λ f. Some f) c.in-Remove.is)
