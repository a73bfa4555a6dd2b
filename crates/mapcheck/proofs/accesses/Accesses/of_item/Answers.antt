use Rattle.std.proofs.Common.{ℕ, [], sym, subst}
use Rattle.mapcheck.specs.Accesses.{AreAccesses}
use Rattle.mapcheck.proofs.ItemFaults.{device_shown}
use Rattle.mapcheck.proofs.accesses.Accesses.of_item.Goals as goal

pub returns : goal.returns
returns c entries w e t =
    c.in_ok-add_item.ensures entries w e t w.device []
    (subst (λ (d : ℕ). AreAccesses c.new-accesses.result d []) (sym (device_shown entries c.args.item.now w e)) c.new-accesses.ensures)
