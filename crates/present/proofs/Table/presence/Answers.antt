use Rattle.std.proofs.Common.{ap, subst}
use Rattle.present.specs.Found.{IsAbsentAt, IsInsideAt, IsInPart}
use Rattle.present.specs.Table.{place_of}
use Rattle.present.proofs.Entries.{is_absent_at, is_inside_at, is_in_part}
use Rattle.present.proofs.Table.presence.Goals as goal

pub returns-in-Absent : goal.returns-in-Absent
returns-in-Absent c d sh =
    let t = c.args.self.now in
    let s = c.args.section.now in
    let h = subst (λ bs. IsAbsentAt bs s c.in-Absent.field-0) c.deref.ensures.value c.in-Absent.ensures in
    ap place_of (is_absent_at t s c.requires c.in-Absent.field-0 h d sh)

pub returns-in-Inside : goal.returns-in-Inside
returns-in-Inside c d sh =
    let t = c.args.self.now in
    let s = c.args.section.now in
    let h = subst (λ bs. IsInsideAt bs s c.in-Inside.field-0) c.deref.ensures.value c.in-Inside.ensures in
    ap place_of (is_inside_at t s c.requires c.in-Inside.field-0 h.block h.is h.inside d sh)

pub returns-in-InPart : goal.returns-in-InPart
returns-in-InPart c d sh =
    let t = c.args.self.now in
    let s = c.args.section.now in
    let h = subst (λ bs. IsInPart bs s) c.deref.ensures.value c.in-InPart.ensures in
    ap place_of (is_in_part t s c.requires h d sh)
