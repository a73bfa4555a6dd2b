use Rattle.std.proofs.Common.{List, ℕ, subst}
use Rattle.std.specs.Prelude.{OnOk}
use Rattle.std.specs.Io.KnownBytes.{Appends}
use Rattle.maps.proofs.Roles.{run_is}
use Rattle.maps.proofs.tables.outlined_text.Goals as goal

pub returns : goal.returns
returns g c =
    subst (λ (bs : List ℕ). OnOk c.maps_text.result (Appends (g.W.Write.contents c.args.out.now) (g.W.Write.contents c.maps_text.new.out) bs))
    (run_is c.args.outlined.now c.program.result.now c.items.result.now c.args.history.now c.program.ensures c.items.ensures.shown)
    c.maps_text.ensures
