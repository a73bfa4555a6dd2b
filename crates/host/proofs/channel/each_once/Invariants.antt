use Rattle.std.proofs.Common.{◌≡◌, [], replicate}
use Rattle.crossbeam_channel.specs.Claims.{view, IsSeatAt}
use Rattle.crossbeam_channel.specs.Ends.{receives_on, sends_on}
use Rattle.host.specs.Once.{sending}
use Rattle.host.proofs.channel.each_once.Given as goal

abbrev pub invariant-loop : goal.invariant-loop
invariant-loop g l =
    IsSeatAt (sends_on l.sender) l.pass × (view l.pass ≡ sending []) × (receives_on l.receiver ≡ sends_on l.sender)
    × (l.pass.table_id ≡ g.B.Origin.table) × (g.T.Numbered.told l.pass.me.0.of ≡ g.B.Origin.key)
    × (l.inboxes.items ≡ replicate l.counter [])
