use Rattle.present.proofs.Rules.{done, done_room, counts, entry_fault}
use Rattle.present.proofs.Entries.{refused_entry}
use Rattle.present.proofs.Table.count_in.Goals as goal

pub returns-in-Err-clause-fault : goal.returns-in-Err-clause-fault
returns-in-Err-clause-fault c =
    entry_fault c.args.self.now c.args.item.now _ c.requires.section
    (refused_entry c.args.self.now c.args.item.now c.requires.section)
    c.in-Err.fault c.in-Err.ensures.fault

pub returns-in-Ok-clause-counted : goal.returns-in-Ok-clause-counted
returns-in-Ok-clause-counted c d sh =
    let k = c.in-Ok.counted in
    counts c.args.self.now c.count.new.self c.args.item.now k.copies d
    (done c.args.self.now c.count.new.self c.args.item.now k.at k.copies c.requires.section k.creates
    c.in-Ok.ensures.counted d sh)

pub returns-in-Ok-clause-room : goal.returns-in-Ok-clause-room
returns-in-Ok-clause-room c =
    let k = c.in-Ok.counted in
    done_room c.args.self.now c.count.new.self c.args.item.now k.at k.copies c.requires.section k.creates
    c.in-Ok.ensures.counted
