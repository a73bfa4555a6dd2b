use Rattle.std.proofs.Common.{◌≡◌, ◌∙◌, ◌+◌, List, Some, ap, map, refl, subst, sym}
use Rattle.std.specs.List.{slice_set}
use Rattle.base.specs.declared.item.MapItem.{MapItem}
use Rattle.present.specs.declared.Table.{Table}
use Rattle.device.specs.Devices.{OpensOn}
use Rattle.device.specs.Moves.{entered_by, opens_with}
use Rattle.present.specs.Table.{fill_of}
use Rattle.device.specs.Opening.{IsFilled}
use Rattle.std.proofs.lemmas.List.{map-set}
use Rattle.kernel.specs.declared.frames.Frame.{Frame}
use Rattle.device.specs.Standing.{frame_parts, issue_of}
use Rattle.device.proofs.Blanks.{blank_for}
use Rattle.device.proofs.OpenedItems.{at_place}
use Rattle.device.proofs.Openings.{opened}
use Rattle.device.proofs.Refilled.{becomes_again, kept_again, leads_again}
use Rattle.device.proofs.Tables.{here}
use Rattle.device.proofs.standing.Standing.open.Goals as goal

pub returns-clause-opened : goal.returns-clause-opened
returns-clause-opened c plan s t w at is of serves e =
    let old = c.args.self.now in
    let it = c.args.it.now in
    let d = it.device.number in
    let new = c.open.new.self in
    let done =
    subst (λ (ms : List MapItem). OpensOn d it.kind ms old.devices old.host new c.open.new.host) c.deref.ensures
    c.in-Ok.ensures.done in
    let number =
    subst (λ (ms : List MapItem). c.open.new.entered ≡ old.entered + entered_by it.kind ms) c.deref.ensures
    c.in-Ok.ensures.number in
    let same = c.fill-frame.ensures.same in
    let b = becomes_again d old.devices new c.fill-frame.new.self done.after done.becomes same in
    let filled = c.fill-frame.ensures.filled same.after (here d new c.fill-frame.new.self same.after same.becomes) in
    opened plan old s t at c.requires.going c.args.item it w is of e _ _ c.fill-frame.new.self same.after c.open.new.host
    c.open.new.entered c.args.unfilled c.owners-kept.result.0 b
    c.opened.ensures refl c.requires.inside
    (leads_again d old.devices new c.fill-frame.new.self done.after done.becomes same
    (λ (t : Table). opens_with (fill_of t) it.kind it.maps.items) old.host c.open.new.host done.leads)
    c.in-Ok.ensures.lengths number serves
    (subst (λ (f : Frame). IsFilled it.kind c.args.unfilled same.after f) (sym c.owners-kept.ensures.kept) filled)

pub returns-clause-issued : goal.returns-clause-issued
returns-clause-issued c = record {
  frame = c.fill-frame.result;
  is =
      map-set issue_of c.args.self.now.held.items c.args.item _
      ∙ ap (λ (f : Frame). slice_set (map issue_of c.args.self.now.held.items) c.args.item (Some (frame_parts f))) c.owners-kept.ensures.kept;
}

pub owners-kept-requires : goal.owners-kept-requires
owners-kept-requires c =
    let same = c.fill-frame.ensures.same in
    let at = here c.args.it.now.device.number c.open.new.self c.fill-frame.new.self same.after same.becomes in
    blank_for c.args.it.now.kind c.args.unfilled same.after c.fill-frame.result c.args.blank
    (c.fill-frame.ensures.filled same.after at)
    c.fill-frame.ensures.fits c.requires.blank

pub returns-clause-job : goal.returns-clause-job
returns-clause-job c =
    at_place c.args.self.now.held.items c.args.item c.owners-kept.result.0 c.fill-frame.result c.owners-kept.result.1 c.requires.inside
    c.owners-kept.ensures.kept c.owners-kept.ensures.job

pub returns-clause-kept : goal.returns-clause-kept
returns-clause-kept c =
    kept_again c.args.it.now.device.number c.args.self.now.devices c.open.new.self c.fill-frame.new.self
    c.open.ensures.kept c.fill-frame.ensures.same
