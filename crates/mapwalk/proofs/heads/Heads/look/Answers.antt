use Rattle.std.proofs.Common.{sym, ◌∙◌}
use Rattle.mapwalk.proofs.Snapshots.{same_state}
use Rattle.mapwalk.proofs.heads.Heads.look.Goals as goal

pub returns-in_ok-new : goal.returns-in_ok-new
returns-in_ok-new c history is held s shot =
    same_state c.in_ok-new.field-0 s c.args.state.now shot c.in_ok-new.ensures ∙ sym is
