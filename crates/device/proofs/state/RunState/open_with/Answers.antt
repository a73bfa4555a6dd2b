use Rattle.std.proofs.Common.{◌∙◌, refl, sym, ap, map, subst}
use Rattle.base.specs.declared.item.Event.TheVariants as event
use Rattle.device.specs.Run.{IsOpenFault, is_over, opened, state_of}
use Rattle.device.specs.Running.{IsRunning, run_of}
use Rattle.device.specs.Standing.{frame_parts, issue_of}
use Rattle.device.proofs.MayOpen.{facts, has_room, inside_open, is_full, open_fault, same_but, same_work, unchanged}
use Rattle.device.proofs.OpenedItems.{may_close}
use Rattle.device.proofs.Reaching.{goes_to}
use Rattle.device.proofs.Tables.{own_table}
use Rattle.device.proofs.state.RunState.open_with.Goals as goal

pub bounds-items-item : goal.bounds-items-item
bounds-items-item c =
    inside_open c.self.inside c.args.self.now c.args.item _ c.items.result.now c.self.view_is c.self.invariant c.requires
    c.items.ensures.shown

pub frame-requires-clause-inside : goal.frame-requires-clause-inside
frame-requires-clause-inside c =
    let s = c.self.inside in
    let f = facts s c.args.self.now c.args.item _ c.items.result.now c.index-items-item.result c.self.view_is c.self.invariant c.requires
    c.items.ensures.shown c.index-items-item.is in
    f.item.inside

pub frame-requires-clause-same : goal.frame-requires-clause-same
frame-requires-clause-same c = c.self.invariant.at.slots

pub frame-requires-clause-lengths : goal.frame-requires-clause-lengths
frame-requires-clause-lengths c = c.self.invariant.at.lengths

pub open-requires-clause-empty : goal.open-requires-clause-empty
open-requires-clause-empty c = c.in-Ok.ensures.empty

pub open-requires-clause-here : goal.open-requires-clause-here
open-requires-clause-here c =
    let s = c.self.inside in
    let f = facts s c.args.self.now c.args.item _ c.items.result.now c.index-items-item.result c.self.view_is c.self.invariant c.requires
    c.items.ensures.shown c.index-items-item.is in
    f.open'.allowed

pub open-requires-clause-inside : goal.open-requires-clause-inside
open-requires-clause-inside c =
    let s = c.self.inside in
    let f = facts s c.args.self.now c.args.item _ c.items.result.now c.index-items-item.result c.self.view_is c.self.invariant c.requires
    c.items.ensures.shown c.index-items-item.is in
    f.item.inside

pub open-requires-clause-going : goal.open-requires-clause-going
open-requires-clause-going c =
    let s = c.self.inside in
    let f = facts s c.args.self.now c.args.item _ c.items.result.now c.index-items-item.result c.self.view_is c.self.invariant c.requires
    c.items.ensures.shown c.index-items-item.is in
    f.open'.going

pub open-requires-clause-sections : goal.open-requires-clause-sections
open-requires-clause-sections c =
    let s = c.self.inside in
    let f = facts s c.args.self.now c.args.item _ c.items.result.now c.index-items-item.result c.self.view_is c.self.invariant c.requires
    c.items.ensures.shown c.index-items-item.is in
    f.item.sections

pub open-requires-clause-within : goal.open-requires-clause-within
open-requires-clause-within c =
    let s = c.self.inside in
    let f = facts s c.args.self.now c.args.item _ c.items.result.now c.index-items-item.result c.self.view_is c.self.invariant c.requires
    c.items.ensures.shown c.index-items-item.is in
    f.item.within

pub open-requires-clause-counted : goal.open-requires-clause-counted
open-requires-clause-counted c =
    let s = c.self.inside in
    let f = facts s c.args.self.now c.args.item _ c.items.result.now c.index-items-item.result c.self.view_is c.self.invariant c.requires
    c.items.ensures.shown c.index-items-item.is in
    f.item.counted

pub open-requires-clause-goes : goal.open-requires-clause-goes
open-requires-clause-goes c =
    let s = c.self.inside in
    let f = facts s c.args.self.now c.args.item _ c.items.result.now c.index-items-item.result c.self.view_is c.self.invariant c.requires
    c.items.ensures.shown c.index-items-item.is in
    f.goes

pub invariant_of-self-in-Ok-open : goal.invariant_of-self-in-Ok-open
invariant_of-self-in-Ok-open c =
    let s = c.self.inside in
    let f = facts s c.args.self.now c.args.item _ c.items.result.now c.index-items-item.result c.self.view_is c.self.invariant c.requires
    c.items.ensures.shown c.index-items-item.is in
    goes_to (run_of s) _ s.standing c.open.new.self (event.Open c.args.item) c.self.invariant f.open'.next
    (c.in-Ok-open.ensures.opened _ (state_of (run_of s)) f.open'.next.state f.item.work c.self.invariant.at f.item.is f.item.of
    (c.in-Ok.ensures.serves (state_of (run_of s)) f.item.work c.self.invariant.at f.item.bounded f.item.fine f.item.is f.item.of
    (same_work s c.args.item c.index-items-item.result f))
    f.open'.next.step)
    (record {
      program = refl;
      input = refl;
      capacity = refl;
      fresh = c.in-Ok-open.ensures.kept.fresh;
      history = c.in-Ok-note.ensures.noted;
    })
    c.in-Ok-open.ensures.kept

pub invariant_of-self-in-Err : goal.invariant_of-self-in-Err
invariant_of-self-in-Err c =
    let s = c.self.inside in
    let f = facts s c.args.self.now c.args.item _ c.items.result.now c.index-items-item.result c.self.view_is c.self.invariant c.requires
    c.items.ensures.shown c.index-items-item.is in
    let same = c.in-Err.ensures.unchanged in
    let back = same_but (run_of (record s { standing = c.open.new.self; history = c.forget.new.history })) (run_of s) refl refl refl
    c.open.ensures.kept.fresh
    (c.forget.ensures s.history.items (event.Open c.args.item) c.in-Ok-note.ensures.noted)
    (ap (λ z. map issue_of z.held.items) same.rest) in
    subst (λ r. IsRunning r c.open.new.self) (sym back) (unchanged (run_of s) c.index-items-item.result.device.number s.standing c.open.new.self c.self.invariant same)

pub returns-in-Ok-open-clause-opened : goal.returns-in-Ok-open-clause-opened
returns-in-Ok-open-clause-opened c =
    let s = c.self.inside in
    let f = facts s c.args.self.now c.args.item _ c.items.result.now c.index-items-item.result c.self.view_is c.self.invariant c.requires
    c.items.ensures.shown c.index-items-item.is in
    record {
      frame = frame_parts c.in-Ok-open.ensures.issued.frame;
      is =
          same_but (run_of (record s { standing = c.open.new.self; history = c.note.new.history }))
          (opened (run_of s) c.args.item (frame_parts c.in-Ok-open.ensures.issued.frame)) refl refl refl
          c.in-Ok-open.ensures.kept.fresh
          c.in-Ok-note.ensures.noted c.in-Ok-open.ensures.issued.is
          ∙ ap (λ r. opened r c.args.item (frame_parts c.in-Ok-open.ensures.issued.frame)) c.self.view_is;
    }

pub returns-in-Ok-open-clause-room : goal.returns-in-Ok-open-clause-room
returns-in-Ok-open-clause-room c =
    let s = c.self.inside in
    let f = facts s c.args.self.now c.args.item _ c.items.result.now c.index-items-item.result c.self.view_is c.self.invariant c.requires
    c.items.ensures.shown c.index-items-item.is in
    let it = c.index-items-item.result in
    let own = own_table s.standing.devices c.self.invariant.at.alike it.device.number it.device.in_range in
    ap (λ r. is_over r c.args.item) (sym c.self.view_is) ∙ has_room (run_of s) s.standing c.args.item c.index-items-item.result c.self.invariant f.item own.0 own.1
    (λ e. c.in-Ok-open.ensures.room e own.0 own.1)

pub returns-in-Err-clause-fault : goal.returns-in-Err-clause-fault
returns-in-Err-clause-fault c =
    let s = c.self.inside in
    let f = facts s c.args.self.now c.args.item _ c.items.result.now c.index-items-item.result c.self.view_is c.self.invariant c.requires
    c.items.ensures.shown c.index-items-item.is in
    let it = c.index-items-item.result in
    let own = own_table s.standing.devices c.self.invariant.at.alike it.device.number it.device.in_range in
    subst (λ r. IsOpenFault r c.args.item c.in-Err.fault) c.self.view_is
    (open_fault (run_of s) c.args.item own.0 c.index-items-item.result.kind c.index-items-item.result.maps.items c.in-Err.fault
    (is_full (run_of s) s.standing c.args.item c.index-items-item.result c.self.invariant f.item own.0 own.1)
    (c.in-Err.ensures.fault own.0 own.1))

pub returns-in-Ok-open-clause-is_open : goal.returns-in-Ok-open-clause-is_open
returns-in-Ok-open-clause-is_open c =
    let s = c.self.inside in
    let f = facts s c.args.self.now c.args.item _ c.items.result.now c.index-items-item.result c.self.view_is c.self.invariant c.requires
    c.items.ensures.shown c.index-items-item.is in
    may_close (run_of s) (run_of (record s { standing = c.open.new.self; history = c.note.new.history })) c.args.item f.item.work
    c.self.invariant.reached f.open'.next f.item.is
    (record {
      program = refl;
      input = refl;
      capacity = refl;
      fresh = c.in-Ok-open.ensures.kept.fresh;
      history = c.in-Ok-note.ensures.noted;
    })
