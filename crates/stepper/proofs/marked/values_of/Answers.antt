use Rattle.std.proofs.Common.{◌≡◌, ◌+◌, ap, sym, ◌∙◌}
use Rattle.std.proofs.lemmas.Result.{IfOk-weaker}
use Rattle.stepper.proofs.Rows.{none_in, nought, row_values, whole_row}
use Rattle.stepper.proofs.marked.values_of.Goals as goal

pub returns-then-length-eq0 : goal.returns-then-length-eq0
returns-then-length-eq0 c =
    c.new.ensures.items
    ∙ sym (row_values c.args.host.now c.args.array ∙ none_in _ (sym c.length-length.ensures ∙ c.if-length-eq0.true))

pub returns : goal.returns
returns c =
    IfOk-weaker c.from_slice.result (λ v. v.items ≡ c.section.result.now) _
    (λ v is.
    is ∙ c.section.ensures ∙ whole_row _ _ (ap (λ n. 0 + n) c.length-length.ensures ∙ nought _)
    ∙ sym (row_values c.args.host.now c.args.array)) c.from_slice.ensures.items
