use Rattle.std.proofs.Common.{◌≡◌, ◌∙◌, true, false, Option, Some, sym, ap, subst, arith}
use Rattle.std.specs.Prelude.{IsSome, slice_get}
use Rattle.std.proofs.lemmas.Option.{slice_get-get_or, slice_get_within}
use Rattle.base.specs.Items.{plan}
use Rattle.base.specs.declared.item.Event.TheVariants as event
use Rattle.device.specs.declared.standing.Held.{Held}
use Rattle.device.specs.Jobs.{IsIssuedDone}
use Rattle.base.specs.Machine.{is_open}
use Rattle.device.specs.Run.{state_of}
use Rattle.device.specs.Running.{run_of}
use Rattle.device.specs.Standing.{Keeps, done_on}
use Rattle.kernel.specs.declared.frames.Frame.{Frame}
use Rattle.device.proofs.Kept.{kept_alike}
use Rattle.device.proofs.OpenedItems.{open_is_issued}
use Rattle.device.proofs.Openings.{on_work}
use Rattle.device.proofs.IssuedFrames.{held_issued, is_issued_done, of_item}
use Rattle.device.proofs.MayClose.{close_facts, inside_close, runs}
use Rattle.device.proofs.Reaching.{asked}
use Rattle.device.proofs.state.RunState.close_item.Goals as goal

pub bounds-items-item : goal.bounds-items-item
bounds-items-item c =
    inside_close c.self.inside c.args.self.now c.args.item _ c.items.result.now c.self.view_is c.self.invariant c.requires
    c.items.ensures.shown

pub code-code-requires : goal.code-code-requires
code-code-requires c =
    let s = c.self.inside in
    let f = close_facts s c.args.self.now c.args.item _ c.items.result.now c.index-items-item.result c.self.view_is c.self.invariant c.requires
    c.items.ensures.shown c.index-items-item.is in
    slice_get_within (plan s.image.now).items c.args.item f.item.work f.item.is

pub index-requires : goal.index-requires
index-requires c =
    let f = close_facts c.self.inside c.args.self.now c.args.item _ c.items.result.now c.index-items-item.result c.self.view_is c.self.invariant c.requires
    c.items.ensures.shown c.index-items-item.is in
    let inside = f.item.inside in
    omega (arith, inside)

pub run-requires : goal.run-requires
run-requires c =
    let s = c.self.inside in
    let it = c.index-items-item.result in
    let f = close_facts s c.args.self.now c.args.item _ c.items.result.now it c.self.view_is c.self.invariant c.requires
    c.items.ensures.shown c.index-items-item.is in
    let at_i : slice_get s.standing.held.items c.args.item ≡ Some c.index.result.now =
    slice_get-get_or s.standing.held.items c.args.item c.index.result.now f.item.inside ∙ ap (λ (x : Held). Some x) (sym c.index.ensures) in
    let at_f = at_i ∙ ap (λ (x : Held). Some x) c.in-Issued.is in
    let of = c.code-code.ensures f.item.work f.item.is in
    subst (λ (x : Frame). IsSome (done_on c.code-code.result.now x)) (sym c.deref.ensures)
    (runs s c.args.item it c.self.invariant f c.code-code.result.now c.in-Issued.frame of at_f)

pub finish-requires : goal.finish-requires
finish-requires c =
    let s = c.self.inside in
    let it = c.index-items-item.result in
    let f = close_facts s c.args.self.now c.args.item _ c.items.result.now it c.self.view_is c.self.invariant c.requires
    c.items.ensures.shown c.index-items-item.is in
    let at_i : slice_get s.standing.held.items c.args.item ≡ Some c.index.result.now =
    slice_get-get_or s.standing.held.items c.args.item c.index.result.now f.item.inside ∙ ap (λ (x : Held). Some x) (sym c.index.ensures) in
    let at_f = at_i ∙ ap (λ (x : Held). Some x) c.in-Issued.is in
    let of = c.code-code.ensures f.item.work f.item.is in
    let e = held_issued s.standing c.args.item c.in-Issued.frame at_f in
    let d = c.in_ok-done.done in
    record {
      region = c.code-code.result.now;
      frame = c.in-Issued.frame;
      of_item = of_item s c.args.item it c.self.invariant f c.code-code.result.now c.in-Issued.frame of e;
      issued =
          subst (λ r. IsIssuedDone r c.code-code.result.now c.in-Issued.frame) c.self.view_is
          (is_issued_done s c.args.item it c.self.invariant f c.code-code.result.now c.in-Issued.frame of e
          (asked s c.args.self.now (event.Close c.args.item) c.self.view_is c.requires));
      kept =
          kept_alike d.region.now c.code-code.result.now d.frame.now c.in-Issued.frame d.scalars.value c.deref-2.result.now d.rows.items
          c.deref-3.result.now d.input.now d.printed.items c.deref-4.result.now c.in_ok-done.ensures.region
          (c.in_ok-done.ensures.frame ∙ c.deref.ensures) c.deref-2.ensures c.deref-3.ensures.value c.deref-4.ensures.value d.is_meaning;
    }

pub unreachable-requires : goal.unreachable-requires
unreachable-requires c =
    let s = c.self.inside in
    let f = close_facts s c.args.self.now c.args.item _ c.items.result.now c.index-items-item.result c.self.view_is c.self.invariant c.requires
    c.items.ensures.shown c.index-items-item.is in
    let at_i : slice_get s.standing.held.items c.args.item ≡ Some c.index.result.now =
    slice_get-get_or s.standing.held.items c.args.item c.index.result.now f.item.inside ∙ ap (λ (x : Held). Some x) (sym c.index.ensures) in
    let state = state_of (run_of s) in
    let opened : is_open (state.condition c.args.item) ≡ true =
    sym (on_work (plan s.image.now) c.args.item f.item.work false (λ v. is_open (state.condition c.args.item)) f.item.is)
    ∙ asked s c.args.self.now (event.Close c.args.item) c.self.view_is c.requires in
    open_is_issued c.args.item f.item.work state.input (state.condition c.args.item) c.index.result.now opened
    (subst (λ (o : Option Held). Keeps c.args.item f.item.work state.input (state.condition c.args.item) o) at_i
    (c.self.invariant.at.held c.args.item f.item.work f.item.is)) c.in_default.not-Issued
