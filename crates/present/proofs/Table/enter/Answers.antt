use Rattle.present.proofs.Rules.{done, done_inside, done_room, entered_plain, entered_copied, entry_fault, no_enter}
use Rattle.base.specs.Map.{enter}
use Rattle.present.specs.Table.{fill_of, memories}
use Rattle.present.proofs.SameHost.{same_host}
use Rattle.present.proofs.Table.enter.Goals as goal

pub returns-in-Err-clause-fault : goal.returns-in-Err-clause-fault
returns-in-Err-clause-fault c =
    entry_fault c.args.self.now c.args.item.now _ c.requires.section
    (no_enter c.args.self.now c.args.item.now c.args.host.now c.requires.section) c.in-Err.fault
    c.in-Err.ensures.fault

pub bring_in_at-requires-clause-inside : goal.bring_in_at-requires-clause-inside
bring_in_at-requires-clause-inside c =
    let k = c.in-Ok.counted in
    done_inside c.args.self.now c.count.new.self c.args.item.now k.at k.copies c.requires.section k.creates
    c.in-Ok.ensures.counted

pub returns-then-counted-clause-entered : goal.returns-then-counted-clause-entered
returns-then-counted-clause-entered c d sh =
    let k = c.in-Ok.counted in
    same_host (enter (fill_of c.args.self.now) c.args.item.now (memories c.args.host.now d)) c.args.host.now
    c.bring_in_at.new.host c.bring_in_at.new.self c.bring_in_at.ensures.same.memory
    (entered_copied c.args.self.now c.count.new.self c.args.item.now k.copies c.args.host.now d
    (done c.args.self.now c.count.new.self c.args.item.now k.at k.copies c.requires.section k.creates
    c.in-Ok.ensures.counted d sh)
    c.bring_in_at.new.self c.if-counted.true c.bring_in_at.ensures.brought)

pub returns-else-counted-clause-entered : goal.returns-else-counted-clause-entered
returns-else-counted-clause-entered c d sh =
    let k = c.in-Ok.counted in
    entered_plain c.args.self.now c.count.new.self c.args.item.now k.copies c.args.host.now d
    (done c.args.self.now c.count.new.self c.args.item.now k.at k.copies c.requires.section k.creates
    c.in-Ok.ensures.counted d sh)
    c.if-counted.false

pub returns-then-counted-clause-room : goal.returns-then-counted-clause-room
returns-then-counted-clause-room c =
    let k = c.in-Ok.counted in
    done_room c.args.self.now c.count.new.self c.args.item.now k.at k.copies c.requires.section k.creates
    c.in-Ok.ensures.counted

pub returns-else-counted-clause-room : goal.returns-else-counted-clause-room
returns-else-counted-clause-room c =
    let k = c.in-Ok.counted in
    done_room c.args.self.now c.count.new.self c.args.item.now k.at k.copies c.requires.section k.creates
    c.in-Ok.ensures.counted
