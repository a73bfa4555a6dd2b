use Rattle.std.proofs.Common.{arith, sym, ap, ◌∙◌}
use Rattle.mapwalk.specs.Acts.{entries_after}
use Rattle.mapwalk.specs.Seen.{entry_mets, exit_mets, seen_all}
use Rattle.mapwalk.specs.Table.{blocks_of}
use Rattle.mapwalk.proofs.RowLists.{seen_append}
use Rattle.std.proofs.lemmas.Grind.{common_steps}
use Rattle.mapwalk.proofs.table.Blocks.target.Goals as goal

pub returns-clause-seen : goal.returns-clause-seen
returns-clause-seen c =
    let maps = c.args.maps.now in
    let old = blocks_of c.args.self.now in
    c.in_ok-after.ensures.seen
    ∙ ap (λ bs. seen_all (exit_mets maps bs) c.enter_all.new.seen) c.in_ok-before.ensures.blocks
    ∙ ap (λ s. seen_all (exit_mets maps (entries_after maps old)) s) c.in_ok-before.ensures.seen
    ∙ sym (seen_append (entry_mets maps old) (exit_mets maps (entries_after maps old)) c.args.seen.now)

pub returns-clause-after : goal.returns-clause-after
returns-clause-after c = grind (arith, common_steps)
