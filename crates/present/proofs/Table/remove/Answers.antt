use Rattle.std.proofs.Common.{sym, subst}
use Rattle.std.proofs.lemmas.Option.{slice_get_within}
use Rattle.present.specs.Found.{IsAbsentAt, IsInsideAt, IsInPart}
use Rattle.present.specs.Blocks.{present}
use Rattle.present.specs.Table.{Shows}
use Rattle.present.proofs.Entries.{is_absent_at, is_inside_at, is_in_part}
use Rattle.present.proofs.Rules.{removed_absent, removed_part, removed_inside, removed_shown}
use Rattle.present.proofs.Table.remove.Goals as goal

pub returns-in-Absent-clause-removed : goal.returns-in-Absent-clause-removed
returns-in-Absent-clause-removed c d sh =
    let t = c.args.self.now in
    let s = c.args.section.now in
    let h = subst (λ bs. IsAbsentAt bs s c.in-Absent.field-0) c.deref.ensures.value c.in-Absent.ensures in
    subst (Shows t) (sym (removed_absent s d (is_absent_at t s c.requires c.in-Absent.field-0 h d sh))) sh

pub drop_block-requires : goal.drop_block-requires
drop_block-requires c =
    let t = c.args.self.now in
    let s = c.args.section.now in
    let h = subst (λ bs. IsInsideAt bs s c.in-Inside.at) c.deref.ensures.value c.in-Inside.ensures in
    slice_get_within t.blocks.items c.in-Inside.at h.block h.is

pub returns-in-Inside-clause-removed : goal.returns-in-Inside-clause-removed
returns-in-Inside-clause-removed c d sh =
    let t = c.args.self.now in
    let s = c.args.section.now in
    let h = subst (λ bs. IsInsideAt bs s c.in-Inside.at) c.deref.ensures.value c.in-Inside.ensures in
    let r = c.drop_block.ensures.removed in
    subst (Shows c.drop_block.new.self)
    (sym (removed_inside s d (present h.block)
    (is_inside_at t s c.requires c.in-Inside.at h.block h.is h.inside d sh)))
    (removed_shown t c.drop_block.new.self c.in-Inside.at h.block h.is r.blocks d sh)

pub returns-in-InPart-clause-removed : goal.returns-in-InPart-clause-removed
returns-in-InPart-clause-removed c d sh =
    let t = c.args.self.now in
    let s = c.args.section.now in
    let h = subst (λ bs. IsInPart bs s) c.deref.ensures.value c.in-InPart.ensures in
    subst (Shows t) (sym (removed_part s d (is_in_part t s c.requires h d sh))) sh
