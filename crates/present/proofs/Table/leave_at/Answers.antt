use Rattle.std.proofs.Common.{◌≡◌, ◌∙◌, ◌==◌, ap, eq-eqb}
use Rattle.std.specs.Prelude.{slice_get, slice_set}
use Rattle.std.proofs.lemmas.Bool.{eqb-true, false_from_ne_true}
use Rattle.std.proofs.lemmas.Option.{slice_get_within}
use Rattle.base.specs.Map.{exit_count}
use Rattle.present.specs.declared.block.Block.{Block}
use Rattle.present.specs.Change.{with_count}
use Rattle.present.proofs.Founds.{one_block}
use Rattle.present.proofs.Rules.{leaves_gone, leaves_kept}
use Rattle.present.proofs.SameHost.{same_count, shows_unchanged, unchanged_back}
use Rattle.present.proofs.Table.leave_at.Goals as goal

pub count_of-requires : goal.count_of-requires
count_of-requires c =
    let h = c.requires.inside in slice_get_within c.args.self.now.blocks.items c.args.at h.block h.is

pub drop_block-requires : goal.drop_block-requires
drop_block-requires c =
    let h = c.bring_out_if.ensures.inside in slice_get_within c.bring_out_if.new.self.blocks.items c.args.at h.block h.is

pub set_count-requires : goal.set_count-requires
set_count-requires c =
    let h = c.bring_out_if.ensures.inside in slice_get_within c.bring_out_if.new.self.blocks.items c.args.at h.block h.is

pub returns-then-count-eq0-clause-left : goal.returns-then-count-eq0-clause-left
returns-then-count-eq0-clause-left c d sh =
    let t = c.args.self.now in
    let mid = c.bring_out_if.new.self in
    let same = c.bring_out_if.ensures.unchanged in
    let h = c.bring_out_if.ensures.inside in
    let n = c.left-count.result in
    let count = c.left-count.ensures ∙ ap (exit_count c.args.item.now.kind)
    (same_count t mid c.args.item.now.section c.args.at c.requires.section c.requires.inside h same c.count_of.result
    c.count_of.ensures) in
    leaves_gone mid c.drop_block.new.self c.args.item.now c.args.host.now c.bring_out_if.new.host c.args.at n
    c.copies_out.result
    h.block c.requires.section h.is h.inside count c.copies_out.ensures
    (λ x shown. c.bring_out_if.ensures.brought x (shows_unchanged mid t (unchanged_back t mid same) x shown)) d
    (shows_unchanged t mid same d sh)
    (eq-eqb n 0 c.if-count-eq0.true) c.drop_block.ensures.removed.blocks

pub returns-else-count-eq0-clause-left : goal.returns-else-count-eq0-clause-left
returns-else-count-eq0-clause-left c d sh =
    let t = c.args.self.now in
    let mid = c.bring_out_if.new.self in
    let same = c.bring_out_if.ensures.unchanged in
    let h = c.bring_out_if.ensures.inside in
    let r = c.set_count.ensures.counted in
    let n = c.left-count.result in
    let other : r.before ≡ h.block = one_block (slice_get mid.blocks.items c.args.at) r.before h.block r.is h.is in
    let count = c.left-count.ensures ∙ ap (exit_count c.args.item.now.kind)
    (same_count t mid c.args.item.now.section c.args.at c.requires.section c.requires.inside h same c.count_of.result
    c.count_of.ensures) in
    leaves_kept mid c.set_count.new.self c.args.item.now c.args.host.now c.bring_out_if.new.host c.args.at n
    c.copies_out.result
    h.block c.requires.section h.is h.inside count c.copies_out.ensures
    (λ x shown. c.bring_out_if.ensures.brought x (shows_unchanged mid t (unchanged_back t mid same) x shown)) d
    (shows_unchanged t mid same d sh)
    (false_from_ne_true (n == 0) (λ e. c.if-count-eq0.false (eqb-true n 0 e)))
    (r.blocks ∙ ap (λ (b : Block). slice_set mid.blocks.items c.args.at (with_count b n)) other)
