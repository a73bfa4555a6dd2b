use Rattle.std.proofs.Common.{ap}
use Rattle.base.specs.Map.{copies_from, copies_to}
use Rattle.host_memory.proofs.HostRows.{same_within}
use Rattle.device.proofs.Updating.{both_ways, done_first, done_second, fails_second, never_back, no_way}
use Rattle.device.proofs.moves.update_one.Goals as goal

pub copy_out-requires-clause-within : goal.copy_out-requires-clause-within
copy_out-requires-clause-within c =
    same_within c.args.host.now c.copy_in.new.host c.args.item.now.section c.copy_in.ensures.same_host.lengths
    c.requires.within

pub returns-in-Ok-copy_out-clause-updated : goal.returns-in-Ok-copy_out-clause-updated
returns-in-Ok-copy_out-clause-updated c =
    let item = c.args.item.now in
    let t = c.args.table.now in
    let t' = c.copy_in.new.self in
    let h = c.args.host.now in
    let k = c.copy_in.new.host in
    let same = c.copy_in.ensures.same_host.memory in
    let first = c.in-Ok.ensures.copied in
    both_ways item c.in-ToFrom.is t t' c.copy_out.new.self h c.copy_out.new.host (done_first item t t' h k same first)
    (done_second item t t' h k same first c.copy_out.new.self c.copy_out.new.host c.in-Ok-copy_out.ensures.copied)

pub returns-in-Alloc-clause-updated : goal.returns-in-Alloc-clause-updated
returns-in-Alloc-clause-updated c =
    no_way c.args.item.now (ap copies_from c.in-Alloc.is) (ap copies_to c.in-Alloc.is) c.args.table.now c.args.host.now

pub returns-in-Release-clause-updated : goal.returns-in-Release-clause-updated
returns-in-Release-clause-updated c =
    no_way c.args.item.now (ap copies_from c.in-Release.is) (ap copies_to c.in-Release.is) c.args.table.now c.args.host.now

pub returns-in-Delete-clause-updated : goal.returns-in-Delete-clause-updated
returns-in-Delete-clause-updated c =
    no_way c.args.item.now (ap copies_from c.in-Delete.is) (ap copies_to c.in-Delete.is) c.args.table.now c.args.host.now

pub returns-in-Err-copy_out-clause-updated : goal.returns-in-Err-copy_out-clause-updated
returns-in-Err-copy_out-clause-updated c d m shown e =
    let item = c.args.item.now in
    let t = c.args.table.now in
    let t' = c.copy_in.new.self in
    let h = c.args.host.now in
    let k = c.copy_in.new.host in
    let same = c.copy_in.ensures.same_host.memory in
    let first = c.in-Ok.ensures.copied in
    absurd (never_back item t t' h (done_first item t t' h k same first)
    (fails_second item t t' h k same first c.in-Err-copy_out.ensures.fault.1) d shown)
