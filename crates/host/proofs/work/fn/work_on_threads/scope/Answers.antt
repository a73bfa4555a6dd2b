use denote.Param.Send.{IsSync, sendable}
use Rattle.std.proofs.Common.{rules}
use Rattle.std.proofs.Crossing as crossing
use Rattle.std.proofs.alloc.Global.TheSendSync as global
use Rattle.std.proofs.sync.Mutex.TheSendSync as mutex
use Rattle.host.proofs.Crossing.{board_send, job_send}
use Rattle.host.proofs.channel.Inbox.TheSendSync as inbox
use Rattle.host.proofs.work.Calls.TheSendSync as calls
use Rattle.host.proofs.work.fn.work_on_threads.scope.Goals as goal

pub spawn_scoped-requires-send-F : goal.spawn_scoped-requires-send-F
spawn_scoped-requires-send-F g c κs within =
    let r : IsSync g.row.R = search (rules, c.requires) in
    let s : IsSync g.row.G = search (rules, c.requires) in
    search (board_send, inbox.the_send, job_send, global.the_send, calls.the_sync, mutex.the_sync, crossing.crosses, sendable) depth 60 fits 20000
