use Rattle.std.proofs.Common.{◌≡◌, ◌+◌, ◌≤◌, ◌∷◌, [], length, map, sym, ap, ◌∙◌, subst, arith, refl}
use Rattle.std.specs.Prelude.{IfSome}
use Rattle.std.proofs.lemmas.List.{length-map, map-append}
use Rattle.base.specs.Items.{plan}
use Rattle.outline.specs.Regions.{entries_of}
use Rattle.outline.proofs.Builds.{as_many}
use Rattle.mapwalk.specs.declared.heads.Head.{Head}
use Rattle.mapwalk.specs.declared.heads.Head.TheVariants.{Repeated}
use Rattle.mapwalk.specs.declared.steps.Step.{Step}
use Rattle.mapwalk.specs.Found.{all_found}
use Rattle.mapwalk.specs.Heads.{IsHeld, state_of}
use Rattle.mapwalk.specs.Regions.{IsWithin}
use Rattle.mapwalk.specs.Steps.{IsDone, current_of, tables_of}
use Rattle.mapwalk.specs.Walk.{IsFirstAlone, row_items}
use Rattle.mapwalk.proofs.Endings.{marked_at_end}
use Rattle.mapwalk.proofs.Prints.{at_inside, found_at}
use Rattle.mapwalk.proofs.Refusals.{first_alone, none_refused}
use Rattle.mapwalk.proofs.SideRows.{lengths_count}
use Rattle.mapwalk.proofs.Turns.{before_item}
use Rattle.mapwalk.proofs.Walking.{work_at}
use Rattle.mapwalk.proofs.Walks.{Stands, reached_now, repeated, stepped, with_head}
use Rattle.mapwalk.proofs.walk.Goals as goal

pub items-preserved-in-Some : goal.items-preserved-in-Some
items-preserved-in-Some c =
    let p = c.args.outlined.now in
    let k = current_of c.in_ok-state.state.host.items c.in_ok-state.state.devices.items in
    let s = state_of c.items.state in
    let number = c.items.number in
    let m = c.in-Some.period in
    let rows = map row_items c.items.acts.items in
    let stands = c.items.invariant.stands in
    let many : c.len.result ≡ length rows = c.len.ensures ∙ c.items.acts.ok.0 ∙ sym (length-map c.items.acts.items row_items) in
    let ahead = stands.ahead in
    let n : length rows ≡ number = let le = c.if-number-len.false in omega (arith, many, ahead, le) in
    let noted : IsHeld (before_item (plan p) k) number c.note.new.self.head =
    subst (λ (h : Head). IsHeld (before_item (plan p) k) number h) (sym c.note.ensures)
    (subst (λ x. IsHeld (before_item (plan p) k) x c.items.heads.head) n stands.held) in
    let looked = c.in_ok-look.ensures (before_item (plan p) k) (sym (stands.now ∙ ap (before_item (plan p) k) n)) noted in
    let held : IsHeld (before_item (plan p) k) (length rows) (Repeated m) =
    subst (λ x. IsHeld (before_item (plan p) k) x (Repeated m)) (sym n)
    (subst (λ (h : Head). IsHeld (before_item (plan p) k) number h) c.in-Some.ensures.same looked) in
    let all = repeated (plan p) k number m s rows (entries_of p) c.items-items.result.now (all_found c.args.found.now)
    c.requires.fine c.items-items.ensures.shown c.requires.found
    (as_many (entries_of p) c.items-items.result.now (plan p).items c.items-items.ensures.shown) (omega (arith, n))
    c.in-Some.ensures.turn (with_head (plan p) k number s c.items.heads.head (Repeated m) rows held stands) in
    record {
      stands =
          subst (λ (h : Head). Stands (plan p) k (number + 1) s h (map row_items c.copy_rows.new.acts.items))
          (sym c.in-Some.ensures.repeated)
          (subst (Stands (plan p) k (number + 1) s (Repeated m)) (sym c.in_ok-copy_rows.ensures) all);
      entries = λ d. let before = c.items.invariant.entries d in omega (arith, before);
      few = c.items.invariant.few;
      lengths = c.items.invariant.lengths;
    }

pub step-requires-clause-within : goal.step-requires-clause-within
step-requires-clause-within c =
    let p = c.args.outlined.now in
    let i = c.items.number in
    let at = work_at (entries_of p) c.items-items.result.now (plan p).items i c.index-items-number-in-items.result
    c.items-items.ensures.shown c.items-test.true c.index-items-number-in-items.is in
    let inside = at_inside (plan p) i at.work (all_found c.args.found.now) i c.requires.found at.there refl in
    let found = found_at (plan p) (all_found c.args.found.now) i i at.work c.get.result.now c.requires.found at.there refl
    inside c.get.ensures in
    subst (λ ls. IfSome c.get.result.now (IsWithin ls)) (sym c.items.invariant.lengths) found.within

pub returns-in-Refused-clause-fault : goal.returns-in-Refused-clause-fault
returns-in-Refused-clause-fault c =
    let p = c.args.outlined.now in
    let k = current_of c.in_ok-state.state.host.items c.in_ok-state.state.devices.items in
    let i = c.items.number in
    let at = work_at (entries_of p) c.items-items.result.now (plan p).items i c.index-items-number-in-items.result
    c.items-items.ensures.shown c.items-test.true c.index-items-number-in-items.is in
    let rows = map row_items c.items.acts.items in
    let stands = c.items.invariant.stands in
    let many : c.len.result ≡ length rows = c.len.ensures ∙ c.items.acts.ok.0 ∙ sym (length-map c.items.acts.items row_items) in
    let ahead = stands.ahead in
    let n : length rows ≡ i = let le = c.if-number-len.false in omega (arith, many, ahead, le) in
    let inside = at_inside (plan p) i at.work (all_found c.args.found.now) i c.requires.found at.there refl in
    let found = found_at (plan p) (all_found c.args.found.now) i i at.work c.get.result.now c.requires.found at.there refl
    inside c.get.ensures in
    subst (IsFirstAlone (plan p)) (sym c.refusal-fault.ensures)
    (first_alone (plan p) i (tables_of c.items.state.devices.items) (current_of c.items.state.host.items c.items.state.devices.items) rows at.work c.in-Refused.cause
    c.requires.fine at.there (reached_now (plan p) k i i (state_of c.items.state) c.items.heads.head rows n stands)
    (subst (λ (s : Step). IsDone at.work (tables_of c.items.state.devices.items) (tables_of c.step.new.self.devices.items)
    (current_of c.items.state.host.items c.items.state.devices.items)
    (current_of c.step.new.self.host.items c.step.new.self.devices.items) s) c.in-Refused.is (c.in_ok-row.ensures.step (entries_of p) at.work at.is found.touches)))

pub items-preserved : goal.items-preserved
items-preserved c =
    let p = c.args.outlined.now in
    let k = current_of c.in_ok-state.state.host.items c.in_ok-state.state.devices.items in
    let number = c.items.number in
    let at = work_at (entries_of p) c.items-items.result.now (plan p).items number c.index-items-number-in-items.result
    c.items-items.ensures.shown c.items-test.true c.index-items-number-in-items.is in
    let rows = map row_items c.items.acts.items in
    let stands = c.items.invariant.stands in
    let many : c.len.result ≡ length rows = c.len.ensures ∙ c.items.acts.ok.0 ∙ sym (length-map c.items.acts.items row_items) in
    let ahead = stands.ahead in
    let n : length rows ≡ number = let le = c.if-number-len.false in omega (arith, many, ahead, le) in
    let noted : IsHeld (before_item (plan p) k) number c.note.new.self.head =
    subst (λ (h : Head). IsHeld (before_item (plan p) k) number h) (sym c.note.ensures)
    (subst (λ x. IsHeld (before_item (plan p) k) x c.items.heads.head) n stands.held) in
    let looked = c.in_ok-look.ensures (before_item (plan p) k) (sym (stands.now ∙ ap (before_item (plan p) k) n)) noted in
    let inside = at_inside (plan p) number at.work (all_found c.args.found.now) number c.requires.found at.there refl in
    let found = found_at (plan p) (all_found c.args.found.now) number number at.work c.get.result.now c.requires.found at.there refl
    inside c.get.ensures in
    let done = subst (λ (s : Step). IsDone at.work (tables_of c.items.state.devices.items) (tables_of c.step.new.self.devices.items)
    (current_of c.items.state.host.items c.items.state.devices.items)
    (current_of c.step.new.self.host.items c.step.new.self.devices.items) s) c.in-Done.is
    (c.in_ok-row.ensures.step (entries_of p) at.work at.is found.touches) in
    let all = stepped (plan p) k number (state_of c.items.state) (state_of c.step.new.self) c.items.heads.head
    c.turn.new.self.head rows c.in-Done.row.items at.work c.requires.fine at.there (omega (arith, n))
    (λ j. c.in_default.ensures.held (before_item (plan p) k) j looked) done stands in
    let same = c.in_ok-row.ensures.lengths in
    let host : length c.step.new.self.host.items ≡ length c.items.state.host.items =
    sym (lengths_count c.step.new.self.host.items) ∙ ap (λ ls. length ls) same
    ∙ lengths_count c.items.state.host.items in
    let few = c.items.invariant.few in
    record {
      stands =
          subst (Stands (plan p) k (number + 1) (state_of c.step.new.self) c.turn.new.self.head)
          (sym (ap (map row_items) c.in_ok-push-in-Done.ensures.items ∙ map-append row_items c.items.acts.items (c.in-Done.row ∷ [])))
          all;
      entries = λ d.
          let before = c.items.invariant.entries d in
          let more = c.in_ok-row.ensures.entries d in
          omega (arith, before, more);
      few = omega arith;
      lengths = same ∙ c.items.invariant.lengths;
    }

pub returns-clause-sound : goal.returns-clause-sound
returns-clause-sound c =
    let p = c.args.outlined.now in
    let k = current_of c.in_ok-state.state.host.items c.in_ok-state.state.devices.items in
    let rows = map row_items c.items.acts.items in
    let same = as_many (entries_of p) c.items-items.result.now (plan p).items c.items-items.ensures.shown in
    let ahead = c.items.invariant.stands.ahead in
    let last : length (plan p).items ≤ length rows = let out = c.items-test.false in omega (arith, same, out, ahead) in
    none_refused (plan p) (length rows) (tables_of c.items.state.devices.items) (current_of c.items.state.host.items c.items.state.devices.items)
    rows last (reached_now (plan p) k c.items.number (length rows) (state_of c.items.state) c.items.heads.head rows refl c.items.invariant.stands)

pub returns-clause-current : goal.returns-clause-current
returns-clause-current c =
    let p = c.args.outlined.now in
    let k = current_of c.in_ok-state.state.host.items c.in_ok-state.state.devices.items in
    let rows = map row_items c.items.acts.items in
    let same = as_many (entries_of p) c.items-items.result.now (plan p).items c.items-items.ensures.shown in
    let ahead = c.items.invariant.stands.ahead in
    let last : length (plan p).items ≤ length rows = let out = c.items-test.false in omega (arith, same, out, ahead) in
    c.in_ok-current.ensures
    ∙ marked_at_end (plan p) (length rows) (tables_of c.items.state.devices.items) c.items.state.host.items
    c.items.state.devices.items rows c.items.invariant.lengths last
    (reached_now (plan p) k c.items.number (length rows) (state_of c.items.state) c.items.heads.head rows refl c.items.invariant.stands)
