use Rattle.std.proofs.Common.{◌≡◌, ◌∙◌, sym, ⊎_elim}
use Rattle.base.specs.declared.item.ItemKind.TheVariants as kind
use Rattle.mapwalk.proofs.ShownItems.{shown_of}
use Rattle.mapcheck.proofs.Building.{of_kind, on_ok}
use Rattle.mapcheck.proofs.accesses.Accesses.add_item.Goals as goal

pub returns-in-Host : goal.returns-in-Host
returns-in-Host c entries w e t =
    let is = shown_of entries c.args.item.now w e in
    on_ok c.add_on_host.result
    (of_kind w c.args.row.now c.args.self.now c.add_on_host.new.self c.args.item.now.maps.items kind.Host (is.kind ∙ c.in-Host.is) is.maps)
    (c.add_on_host.ensures w t)

pub returns-in-Target : goal.returns-in-Target
returns-in-Target c entries w e t =
    let is = shown_of entries c.args.item.now w e in
    on_ok c.add_target.result
    (of_kind w c.args.row.now c.args.self.now c.add_target.new.self c.deref.result.now kind.Target
    (is.kind ∙ c.in-Target.is) (is.maps ∙ sym c.deref.ensures))
    (c.add_target.ensures w t)

pub returns-in-Begin : goal.returns-in-Begin
returns-in-Begin c entries w e t =
    let is = shown_of entries c.args.item.now w e in
    let maps = c.deref-in-Begin.result.now in
    let same = is.maps ∙ sym c.deref-in-Begin.ensures in
    on_ok c.add_row.result
    (⊎_elim (λ (k : c.args.item.now.kind ≡ kind.Begin).
    of_kind w c.args.row.now c.args.self.now c.add_row.new.self maps kind.Begin (is.kind ∙ k) same)
    (λ (k : c.args.item.now.kind ≡ kind.Enter).
    of_kind w c.args.row.now c.args.self.now c.add_row.new.self maps kind.Enter (is.kind ∙ k) same) c.in-Begin.is)
    c.add_row.ensures

pub returns-in-End : goal.returns-in-End
returns-in-End c entries w e t =
    let is = shown_of entries c.args.item.now w e in
    let maps = c.deref-in-End.result.now in
    let same = is.maps ∙ sym c.deref-in-End.ensures in
    on_ok c.add_row-in-End.result
    (⊎_elim (λ (k : c.args.item.now.kind ≡ kind.End).
    of_kind w c.args.row.now c.args.self.now c.add_row-in-End.new.self maps kind.End (is.kind ∙ k) same)
    (λ (k : c.args.item.now.kind ≡ kind.Exit).
    of_kind w c.args.row.now c.args.self.now c.add_row-in-End.new.self maps kind.Exit (is.kind ∙ k) same) c.in-End.is)
    c.add_row-in-End.ensures

pub returns-in-Update : goal.returns-in-Update
returns-in-Update c entries w e t =
    let is = shown_of entries c.args.item.now w e in
    on_ok c.add_row-in-Update.result
    (of_kind w c.args.row.now c.args.self.now c.add_row-in-Update.new.self c.deref-in-Update.result.now kind.Update
    (is.kind ∙ c.in-Update.is) (is.maps ∙ sym c.deref-in-Update.ensures))
    c.add_row-in-Update.ensures
