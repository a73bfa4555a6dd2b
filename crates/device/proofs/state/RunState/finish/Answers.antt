use Rattle.std.proofs.Common.{◌∙◌, refl, ap, map, subst, sym, length, arith}
use Rattle.std.specs.Prelude.{Vec}
use Rattle.std.specs.declared.alloc.Global.{Global}
use Rattle.base.specs.declared.item.Event.TheVariants as event
use Rattle.device.specs.declared.standing.Held.{Held}
use Rattle.device.specs.Run.{after}
use Rattle.device.specs.Running.{IsRunning, run_of}
use Rattle.device.specs.Standing.{issue_of}
use Rattle.device.proofs.IssuedFrames.{can_close, inside_left}
use Rattle.device.proofs.MayOpen.{same_but}
use Rattle.device.proofs.Reaching.{goes_to}
use Rattle.device.proofs.state.RunState.finish.Goals as goal

pub bounds-items-item : goal.bounds-items-item
bounds-items-item c =
    inside_left c.self.inside c.args.self.now c.args.item _ c.items.result.now _ c.self.view_is c.self.invariant c.requires
    c.items.ensures.shown

pub close-requires-clause-here : goal.close-requires-clause-here
close-requires-clause-here c =
    (can_close c.self.inside c.args.self.now c.args.item _ c.items.result.now c.index-items-item.result _ c.self.view_is c.self.invariant c.requires
    c.items.ensures.shown c.index-items-item.is).facts.allowed

pub close-requires-clause-inside : goal.close-requires-clause-inside
close-requires-clause-inside c =
    (can_close c.self.inside c.args.self.now c.args.item _ c.items.result.now c.index-items-item.result _ c.self.view_is c.self.invariant c.requires
    c.items.ensures.shown c.index-items-item.is).facts.item.inside

pub close-requires-clause-going : goal.close-requires-clause-going
close-requires-clause-going c =
    (can_close c.self.inside c.args.self.now c.args.item _ c.items.result.now c.index-items-item.result _ c.self.view_is c.self.invariant c.requires
    c.items.ensures.shown c.index-items-item.is).facts.going

pub close-requires-clause-sections : goal.close-requires-clause-sections
close-requires-clause-sections c =
    (can_close c.self.inside c.args.self.now c.args.item _ c.items.result.now c.index-items-item.result _ c.self.view_is c.self.invariant c.requires
    c.items.ensures.shown c.index-items-item.is).facts.item.sections

pub close-requires-clause-within : goal.close-requires-clause-within
close-requires-clause-within c =
    (can_close c.self.inside c.args.self.now c.args.item _ c.items.result.now c.index-items-item.result _ c.self.view_is c.self.invariant c.requires
    c.items.ensures.shown c.index-items-item.is).facts.item.within

pub close-requires-clause-few : goal.close-requires-clause-few
close-requires-clause-few c =
    let n = ap (λ ls. length ls) c.self.invariant.at.lengths in
    let m = ap (λ ls. length ls) c.lengths-lengths.ensures.lengths in
    let few = c.lengths-lengths.ensures.few in
    omega arith

pub close-requires-clause-cells : goal.close-requires-clause-cells
close-requires-clause-cells c =
    (can_close c.self.inside c.args.self.now c.args.item _ c.items.result.now c.index-items-item.result _ c.self.view_is c.self.invariant c.requires
    c.items.ensures.shown c.index-items-item.is).cells

pub close-requires-clause-goes : goal.close-requires-clause-goes
close-requires-clause-goes c =
    (can_close c.self.inside c.args.self.now c.args.item _ c.items.result.now c.index-items-item.result _ c.self.view_is c.self.invariant c.requires
    c.items.ensures.shown c.index-items-item.is).goes

pub invariant_of-self-in-Ok : goal.invariant_of-self-in-Ok
invariant_of-self-in-Ok c =
    let s = c.self.inside in
    let f = can_close s c.args.self.now c.args.item _ c.items.result.now c.index-items-item.result _ c.self.view_is c.self.invariant c.requires
    c.items.ensures.shown c.index-items-item.is in
    goes_to (run_of s) _ s.standing c.close.new.self (event.Close c.args.item) c.self.invariant f.facts.next
    (f.follows c.close.new.self c.in-Ok.ensures.closed)
    (record {
      program = refl;
      input = refl;
      capacity = refl;
      fresh = c.in-Ok.ensures.kept.fresh;
      history = c.in_ok-note.ensures.noted;
    })
    c.in-Ok.ensures.kept

pub returns-in-Ok-clause-closed : goal.returns-in-Ok-clause-closed
returns-in-Ok-clause-closed c =
    let s = c.self.inside in
    same_but (run_of (record s { standing = c.close.new.self; history = c.note.new.history })) (after (run_of s) (event.Close c.args.item))
    refl refl refl c.in-Ok.ensures.kept.fresh c.in_ok-note.ensures.noted
    c.in-Ok.ensures.issued
    ∙ ap (λ r. after r (event.Close c.args.item)) c.self.view_is

pub invariant_of-self-in-Err : goal.invariant_of-self-in-Err
invariant_of-self-in-Err c =
    let s = c.self.inside in
    let back = same_but (run_of (record s { standing = c.close.new.self; history = c.forget.new.history })) (run_of s) refl refl refl
    c.close.ensures.kept.fresh
    (c.forget.ensures s.history.items (event.Close c.args.item) c.in_ok-note.ensures.noted)
    (ap (λ (h : Vec Held Global). map issue_of h.items) c.in-Err.ensures.held) in
    subst (λ r. IsRunning r c.close.new.self) (sym back) (record {
      reached = c.self.invariant.reached;
      at = c.in-Err.ensures.unchanged _ _ c.self.invariant.at;
      room = c.close.ensures.kept.room s.capacity c.self.invariant.room;
      stayed = c.self.invariant.stayed;
    })

pub returns-in-Err-clause-unchanged : goal.returns-in-Err-clause-unchanged
returns-in-Err-clause-unchanged c =
    let s = c.self.inside in
    let back = same_but (run_of (record s { standing = c.close.new.self; history = c.forget.new.history })) (run_of s) refl refl refl
    c.close.ensures.kept.fresh
    (c.forget.ensures s.history.items (event.Close c.args.item) c.in_ok-note.ensures.noted)
    (ap (λ (h : Vec Held Global). map issue_of h.items) c.in-Err.ensures.held) in
    back ∙ c.self.view_is
