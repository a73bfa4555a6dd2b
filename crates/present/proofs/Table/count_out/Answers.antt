use Rattle.std.proofs.Common.{◌≡◌, ◌∙◌, refl, ap, subst}
use Rattle.std.specs.Prelude.{slice_get, slice_set}
use Rattle.std.proofs.lemmas.Option.{slice_get_within}
use Rattle.base.specs.Map.{exit_count}
use Rattle.present.specs.declared.block.Block.{Block}
use Rattle.present.specs.Found.{IsAbsentAt, IsInsideAt, IsInPart}
use Rattle.present.specs.Change.{with_count}
use Rattle.present.proofs.Founds.{one_block}
use Rattle.base.proofs.Moves.{exit_part}
use Rattle.present.proofs.Entries.{is_absent_at, is_in_part}
use Rattle.present.proofs.Rules.{counts_out, counts_out_absent}
use Rattle.present.proofs.Table.count_out.Goals as goal

pub returns-in-Absent-clause-counted : goal.returns-in-Absent-clause-counted
returns-in-Absent-clause-counted c d sh =
    let t = c.args.self.now in
    let s = c.args.item.now.section in
    let h = subst (λ bs. IsAbsentAt bs s c.in-Absent.field-0) c.deref.ensures.value c.in-Absent.ensures in
    counts_out_absent t c.args.item.now d (is_absent_at t s c.requires c.in-Absent.field-0 h d sh) sh

pub count_of-requires : goal.count_of-requires
count_of-requires c =
    let t = c.args.self.now in
    let s = c.args.item.now.section in
    let h = subst (λ bs. IsInsideAt bs s c.in-Inside.at) c.deref.ensures.value c.in-Inside.ensures in
    slice_get_within t.blocks.items c.in-Inside.at h.block h.is

pub set_count-requires : goal.set_count-requires
set_count-requires c =
    let t = c.args.self.now in
    let s = c.args.item.now.section in
    let h = subst (λ bs. IsInsideAt bs s c.in-Inside.at) c.deref.ensures.value c.in-Inside.ensures in
    slice_get_within t.blocks.items c.in-Inside.at h.block h.is

pub returns-in-Inside-clause-counted : goal.returns-in-Inside-clause-counted
returns-in-Inside-clause-counted c d sh =
    let t = c.args.self.now in
    let s = c.args.item.now.section in
    let bs = t.blocks.items in
    let h = subst (λ bs. IsInsideAt bs s c.in-Inside.at) c.deref.ensures.value c.in-Inside.ensures in
    let k = c.count_of.ensures in
    let r = c.set_count.ensures.counted in
    let n = c.left-count.result in
    let same : k.block ≡ h.block = one_block (slice_get bs c.in-Inside.at) k.block h.block k.is h.is in
    let other : r.before ≡ h.block = one_block (slice_get bs c.in-Inside.at) r.before h.block r.is h.is in
    let count = c.left-count.ensures ∙ ap (exit_count c.args.item.now.kind) (k.count'
    ∙ ap (λ (b : Block). b.count) same) in
    counts_out t c.set_count.new.self c.args.item.now c.in-Inside.at n _ _ h.block c.requires h.is h.inside count
    c.copies_out.ensures refl (r.blocks ∙ ap (λ (b : Block). slice_set bs c.in-Inside.at (with_count b n)) other) d sh

pub returns-in-InPart-clause-fault : goal.returns-in-InPart-clause-fault
returns-in-InPart-clause-fault c =
    let t = c.args.self.now in
    let s = c.args.item.now.section in
    let h = subst (λ bs. IsInPart bs s) c.deref.ensures.value c.in-InPart.ensures in
    (refl, λ d sh. exit_part c.args.item.now d.blocks (is_in_part t s c.requires h d sh))
