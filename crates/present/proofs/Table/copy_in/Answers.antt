use Rattle.std.proofs.Common.{refl, sym, subst}
use Rattle.std.specs.Prelude.{IsSomeAnd}
use Rattle.present.specs.Found.{IsAbsentAt, IsInsideAt, IsInPart}
use Rattle.present.specs.Blocks.{present}
use Rattle.present.specs.Table.{Are, item_to, memories}
use Rattle.present.proofs.Entries.{is_absent_at, is_inside_at, is_in_part}
use Rattle.base.proofs.Moves.{update_absent, update_part}
use Rattle.present.proofs.Rules.{update_to}
use Rattle.present.proofs.Table.copy_in.Goals as goal

pub returns-in-Absent-clause-copied : goal.returns-in-Absent-clause-copied
returns-in-Absent-clause-copied c d sh =
    let t = c.args.self.now in
    let s = c.args.section.now in
    let h = subst (λ bs. IsAbsentAt bs s c.in-Absent.field-0) c.deref.ensures.value c.in-Absent.ensures in
    subst (λ o. IsSomeAnd o (Are c.args.host.now t))
    (sym (update_absent (item_to s) (memories c.args.host.now d)
    (is_absent_at t s c.requires.section c.in-Absent.field-0 h d sh) refl))
    (record { host = refl; shown = sh })

pub bring_in_at-requires-clause-inside : goal.bring_in_at-requires-clause-inside
bring_in_at-requires-clause-inside c =
    subst (λ bs. IsInsideAt bs c.args.section.now c.in-Inside.at) c.deref.ensures.value c.in-Inside.ensures

pub returns-in-Inside-clause-copied : goal.returns-in-Inside-clause-copied
returns-in-Inside-clause-copied c d sh =
    let t = c.args.self.now in
    let s = c.args.section.now in
    let h = subst (λ bs. IsInsideAt bs s c.in-Inside.at) c.deref.ensures.value c.in-Inside.ensures in
    subst (λ o. IsSomeAnd o (Are c.bring_in_at.new.host c.bring_in_at.new.self))
    (sym (update_to s (memories c.args.host.now d) (present h.block)
    (is_inside_at t s c.requires.section c.in-Inside.at h.block h.is h.inside d sh)))
    (record { host = sym c.bring_in_at.ensures.same.memory; shown = c.bring_in_at.ensures.brought d sh })

pub returns-in-InPart-clause-fault : goal.returns-in-InPart-clause-fault
returns-in-InPart-clause-fault c =
    let t = c.args.self.now in
    let s = c.args.section.now in
    let h = subst (λ bs. IsInPart bs s) c.deref.ensures.value c.in-InPart.ensures in
    (refl, λ d sh. update_part (item_to s) (memories c.args.host.now d) (is_in_part t s c.requires.section h d sh))
