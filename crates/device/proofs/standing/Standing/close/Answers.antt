use Rattle.device.proofs.Closings.{closed}
use Rattle.std.proofs.Common.{refl, ap, ◌∙◌, map}
use Rattle.std.proofs.lemmas.List.{map-set}
use Rattle.std.specs.Prelude.{None}
use Rattle.std.specs.List.{slice_set}
use Rattle.device.specs.Standing.{issue_of}
use Rattle.device.proofs.standing.Standing.close.Goals as goal

pub returns-clause-issued : goal.returns-clause-issued
returns-clause-issued c =
    map-set issue_of c.leave.new.self.held.items c.args.item _
    ∙ ap (λ hs. slice_set (map issue_of hs.items) c.args.item None) c.in_ok-leave.ensures.held

pub returns-clause-closed : goal.returns-clause-closed
returns-clause-closed c plan s t w at is of has hosts left e =
    closed plan c.args.self.now c.leave.new.self s t at c.requires.going c.args.item c.args.it.now w _ is of has hosts left e
    c.in_ok-leave.ensures.left c.closed.new.self _ c.in_ok-leave.ensures.held c.in_ok-leave.ensures.graph c.closed.ensures refl
    c.requires.inside
