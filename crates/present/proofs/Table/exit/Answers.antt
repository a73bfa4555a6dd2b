use Rattle.std.proofs.Common.{refl, sym, subst}
use Rattle.std.specs.Prelude.{IsSomeAnd}
use Rattle.present.specs.Found.{IsAbsentAt, IsInsideAt, IsInPart}
use Rattle.present.specs.Table.{Are, memories}
use Rattle.present.proofs.Entries.{is_absent_at, is_in_part}
use Rattle.present.proofs.Rules.{leave_absent, leave_part}
use Rattle.present.proofs.Table.exit.Goals as goal

pub returns-in-Absent-clause-left : goal.returns-in-Absent-clause-left
returns-in-Absent-clause-left c d sh =
    let t = c.args.self.now in
    let s = c.args.item.now.section in
    let h = subst (λ bs. IsAbsentAt bs s c.in-Absent.field-0) c.deref.ensures.value c.in-Absent.ensures in
    subst (λ o. IsSomeAnd o (Are c.args.host.now t))
    (sym (leave_absent c.args.item.now (memories c.args.host.now d)
    (is_absent_at t s c.requires.section c.in-Absent.field-0 h d sh)))
    (record { host = refl; shown = sh })

pub leave_at-requires-clause-inside : goal.leave_at-requires-clause-inside
leave_at-requires-clause-inside c =
    subst (λ bs. IsInsideAt bs c.args.item.now.section c.in-Inside.at) c.deref.ensures.value c.in-Inside.ensures

pub returns-in-InPart-clause-fault : goal.returns-in-InPart-clause-fault
returns-in-InPart-clause-fault c =
    let t = c.args.self.now in
    let s = c.args.item.now.section in
    let h = subst (λ bs. IsInPart bs s) c.deref.ensures.value c.in-InPart.ensures in
    (refl, λ d sh. leave_part c.args.item.now (memories c.args.host.now d) (is_in_part t s c.requires.section h d sh))
