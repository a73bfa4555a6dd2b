use Rattle.std.proofs.Common.{sym, subst}
use Rattle.std.specs.Prelude.{OnOk}
use Rattle.base.specs.declared.item.ItemKind.{ItemKind}
use Rattle.present.specs.Table.{fill_of}
use Rattle.device.specs.Moves.{Leads, opens_with}
use Rattle.device.proofs.moves.open_maps.Goals as goal

pub returns-in-Target-clause-done : goal.returns-in-Target-clause-done
returns-in-Target-clause-done c =
    subst (λ (k : ItemKind). OnOk c.enter_all.result (Leads (opens_with (fill_of c.args.table.now) k c.args.maps.now) c.args.table.now
    c.args.host.now c.enter_all.new.table c.enter_all.new.host)) (sym c.in-Target.is) c.enter_all.ensures.entered

pub returns-in-Begin-clause-done : goal.returns-in-Begin-clause-done
returns-in-Begin-clause-done c =
    subst (λ (k : ItemKind). OnOk c.enter_all-in-Begin.result (Leads (opens_with (fill_of c.args.table.now) k c.args.maps.now) c.args.table.now
    c.args.host.now c.enter_all-in-Begin.new.table c.enter_all-in-Begin.new.host)) (sym c.in-Begin.is) c.enter_all-in-Begin.ensures.entered

pub returns-in-Enter-clause-done : goal.returns-in-Enter-clause-done
returns-in-Enter-clause-done c =
    subst (λ (k : ItemKind). OnOk c.enter_all-in-Enter.result (Leads (opens_with (fill_of c.args.table.now) k c.args.maps.now) c.args.table.now
    c.args.host.now c.enter_all-in-Enter.new.table c.enter_all-in-Enter.new.host)) (sym c.in-Enter.is) c.enter_all-in-Enter.ensures.entered

pub returns-in-End-clause-done : goal.returns-in-End-clause-done
returns-in-End-clause-done c =
    subst (λ (k : ItemKind). Leads (opens_with (fill_of c.args.table.now) k c.args.maps.now) c.args.table.now
    c.args.host.now c.exit_all.new.table c.exit_all.new.host) (sym c.in-End.is) c.exit_all.ensures.left

pub returns-in-Exit-clause-done : goal.returns-in-Exit-clause-done
returns-in-Exit-clause-done c =
    subst (λ (k : ItemKind). Leads (opens_with (fill_of c.args.table.now) k c.args.maps.now) c.args.table.now
    c.args.host.now c.exit_all-in-Exit.new.table c.exit_all-in-Exit.new.host) (sym c.in-Exit.is) c.exit_all-in-Exit.ensures.left

pub returns-in-Update-clause-done : goal.returns-in-Update-clause-done
returns-in-Update-clause-done c =
    subst (λ (k : ItemKind). Leads (opens_with (fill_of c.args.table.now) k c.args.maps.now) c.args.table.now
    c.args.host.now c.update_all.new.table c.update_all.new.host) (sym c.in-Update.is) c.update_all.ensures.updated
