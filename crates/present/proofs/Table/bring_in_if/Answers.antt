use Rattle.std.proofs.Common.{◌∙◌, sym, subst}
use Rattle.present.specs.Found.{IsAbsentAt, IsInPart}
use Rattle.present.proofs.Entries.{is_absent_at, is_in_part}
use Rattle.present.proofs.Table.bring_in_if.Goals as goal

pub returns-in-Absent-clause-brought : goal.returns-in-Absent-clause-brought
returns-in-Absent-clause-brought c d b sh e =
    let t = c.args.self.now in
    let s = c.args.section.now in
    let h = subst (λ bs. IsAbsentAt bs s c.in-Absent.field-0) c.deref.ensures.value c.in-Absent.ensures in
    absurd (cc (sym (is_absent_at t s c.requires.section c.in-Absent.field-0 h d sh) ∙ e))

pub returns-in-InPart-clause-brought : goal.returns-in-InPart-clause-brought
returns-in-InPart-clause-brought c d b sh e =
    let t = c.args.self.now in
    let s = c.args.section.now in
    let h = subst (λ bs. IsInPart bs s) c.deref.ensures.value c.in-InPart.ensures in
    absurd (cc (sym (is_in_part t s c.requires.section h d sh) ∙ e))
