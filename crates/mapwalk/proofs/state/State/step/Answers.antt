use Rattle.std.proofs.Common.{◌≡◌, ◌<◌, ◌+◌, ◌≤◌, ◌^◌, ℕ, rules, length, false, List, Option, refl, sym, ap, ◌∙◌, subst, arith}
use Rattle.std.specs.Prelude.{slice_get, slice_set, IfSome}
use Rattle.std.proofs.lemmas.List.{length-set, with_items_is, places}
use Rattle.std.specs.Vec.{with_item, with_items}
use Rattle.base.specs.Memory.{is_cell}
use Rattle.ranges.specs.declared.cells.Footprint.{Footprint}
use Rattle.ranges.specs.Cells.{has}
use Rattle.mapwalk.specs.declared.marks.Marks.{Marks}
use Rattle.mapwalk.specs.declared.state.State.{State}
use Rattle.mapwalk.specs.declared.steps.DeviceState.{DeviceState}
use Rattle.mapwalk.specs.Current.{row_lengths}
use Rattle.mapwalk.specs.Regions.{IsFootprintOf, IsWithin}
use Rattle.mapwalk.specs.Sides.{shown_by}
use Rattle.mapwalk.specs.Steps.{AreAlike, IsDone, IsDoneHere, current_of, entries_of, marks_of, spoiled, tables_of}
use Rattle.mapwalk.specs.Table.{blocks_of}
use Rattle.mapwalk.proofs.Lifting.{cut, lifted_at, untouched}
use Rattle.mapwalk.proofs.ShownItems.{shown_of}
use Rattle.mapwalk.proofs.SideRows.{lengths_count}
use Rattle.mapwalk.proofs.Spoiling.{alike_set, device_at, entries_set}
use Rattle.mapwalk.proofs.state.State.step.Goals as goal
use Rattle.mapwalk.proofs.state.State.step.Goals.{in-Some, in_default}

pub invariant_of-self : goal.invariant_of-self
invariant_of-self c =
    let s = c.args.self.now in
    let n = c.args.item.now.device.number in
    let lengths = row_lengths s.host.items in
    let at = device_at s.devices.items n 4 c.index_mut.result.now s.count c.args.item.now.device.in_range c.index_mut.ensures.value in
    let own : row_lengths c.step.new.self.current.items ≡ lengths = c.step.ensures.device ∙ s.same n c.index_mut.result.now at in
    let host : lengths ≡ row_lengths c.step.new.host = sym (c.step.ensures.host ∙ ap row_lengths c.deref_mut.ensures.value) in
    record {
      count = length-set s.devices.items n c.step.new.self ∙ s.count;
      same = λ d x there.
          alike_set lengths s.devices.items n c.step.new.self s.same own d x there
          ∙ host ∙ ap row_lengths (sym (with_items_is s.host c.step.new.host (search (rules, places))));
    }

pub spoil_others-requires : goal.spoil_others-requires
spoil_others-requires c d x there =
    let s = c.args.self.now in
    let n = c.args.item.now.device.number in
    let lengths = row_lengths s.host.items in
    let at = device_at s.devices.items n 4 c.index_mut.result.now s.count c.args.item.now.device.in_range c.index_mut.ensures.value in
    let own : row_lengths c.step.new.self.current.items ≡ lengths = c.step.ensures.device ∙ s.same n c.index_mut.result.now at in
    let same : row_lengths x.current.items ≡ lengths =
    alike_set lengths s.devices.items n c.step.new.self s.same own d x
    (ap (λ (xs : List DeviceState). slice_get xs d) (sym c.deref_mut-in-Some.ensures.value) ∙ there) in
    let many = ap (λ ls. length ls) same ∙ lengths_count s.host.items in
    let few = c.requires.few in
    let within : IsWithin lengths c.in-Some.found = subst (λ (o : Option Footprint). IfSome o (IsWithin lengths)) c.in-Some.is
    c.requires.within in
    record {
      few = omega (arith, many, few);
      inside = λ cell in_set. ap (λ ls. is_cell ls cell) same ∙ within.write cell in_set;
    }

pub invariant_of-self-in-Some : goal.invariant_of-self-in-Some
invariant_of-self-in-Some c =
    let s = c.args.self.now in
    let n = c.args.item.now.device.number in
    let lengths = row_lengths s.host.items in
    let at = device_at s.devices.items n 4 c.index_mut.result.now s.count c.args.item.now.device.in_range c.index_mut.ensures.value in
    let own : row_lengths c.step.new.self.current.items ≡ lengths = c.step.ensures.device ∙ s.same n c.index_mut.result.now at in
    let host : lengths ≡ row_lengths c.step.new.host = sym (c.step.ensures.host ∙ ap row_lengths c.deref_mut.ensures.value) in
    let devices = with_items_is (with_item s.devices n c.step.new.self) c.spoil_others.new.devices
    (search (rules, places)) in
    let kept : AreAlike lengths c.deref_mut-in-Some.result.now =
    subst (AreAlike lengths) (sym c.deref_mut-in-Some.ensures.value) (alike_set lengths s.devices.items n c.step.new.self s.same own) in
    record {
      count = ap (λ xs. length xs) devices ∙ c.spoil_others.ensures.count ∙ ap (λ xs. length xs) c.deref_mut-in-Some.ensures.value
          ∙ length-set s.devices.items n c.step.new.self ∙ s.count;
      same = λ d x there.
          c.spoil_others.ensures.same lengths kept d x (ap (λ (xs : List DeviceState). slice_get xs d) (sym devices) ∙ there)
          ∙ host ∙ ap row_lengths (sym (with_items_is s.host c.step.new.host (search (rules, places))));
    }

pub invariant_of-self-in_default : goal.invariant_of-self-in_default
invariant_of-self-in_default c =
    let s = c.args.self.now in
    let n = c.args.item.now.device.number in
    let lengths = row_lengths s.host.items in
    let at = device_at s.devices.items n 4 c.index_mut.result.now s.count c.args.item.now.device.in_range c.index_mut.ensures.value in
    let own : row_lengths c.step.new.self.current.items ≡ lengths = c.step.ensures.device ∙ s.same n c.index_mut.result.now at in
    let host : lengths ≡ row_lengths c.step.new.host = sym (c.step.ensures.host ∙ ap row_lengths c.deref_mut.ensures.value) in
    record {
      count = length-set s.devices.items n c.step.new.self ∙ s.count;
      same = λ d x there.
          alike_set lengths s.devices.items n c.step.new.self s.same own d x there
          ∙ host ∙ ap row_lengths (sym (with_items_is s.host c.step.new.host (search (rules, places))));
    }

pub returns-clause-step : goal.returns-clause-step
returns-clause-step c entries w e t =
    let s = c.args.self.now in
    let n = c.args.item.now.device.number in
    let x = c.index_mut.result.now in
    let y = c.step.new.self in
    let xs = s.devices.items in
    let is = shown_of entries c.args.item.now w e in
    let at = device_at xs n 4 x s.count c.args.item.now.device.in_range c.index_mut.ensures.value in
    let inside : n < length xs = let many = s.count in let low = c.args.item.now.device.in_range in omega (arith, many, low) in
    let here : IsDoneHere w (blocks_of x.blocks) (blocks_of y.blocks) (shown_by s.host.items x.current.items)
    (shown_by c.step.new.host y.current.items) c.in_ok-step.step =
    subst (λ (h : List Marks). IsDoneHere w (blocks_of x.blocks) (blocks_of y.blocks) (shown_by h x.current.items)
    (shown_by c.step.new.host y.current.items) c.in_ok-step.step) c.deref_mut.ensures.value
    (c.in_ok-step.ensures.step entries w e t) in
    let done = λ (h : List Marks) (ys : List DeviceState).
    IsDone w (tables_of xs) (tables_of ys) (current_of s.host.items xs) (current_of h ys) c.in_ok-step.step in
    let host = with_items_is s.host c.step.new.host (search (rules, places)) in
    elim c.match-found.branch [
      | in-Some v ↦
          subst (λ (z : State). done z.host.items z.devices.items) (sym v.self-is)
          (subst (λ h. done h (with_items (with_item s.devices n y) v.spoil_others.new.devices).items)
          (sym host)
          (subst (λ ys. done c.step.new.host ys)
          (sym (with_items_is (with_item s.devices n y) v.spoil_others.new.devices (search (rules, places))))
          (lifted_at w s.host.items c.step.new.host xs v.spoil_others.new.devices x y (has v.in-Some.found.write) n is.device at inside
          (v.spoil_others.ensures.tables ∙ ap tables_of v.deref_mut-in-Some.ensures.value)
          (cut (subst (λ (o : Option Footprint). IsFootprintOf w o) v.in-Some.is t).write
          (v.spoil_others.ensures.marks
          ∙ (λ i. spoiled (sym is.device i) (has v.in-Some.found.write) (marks_of (v.deref_mut-in-Some.ensures.value i)))))
          c.in_ok-step.step here)))
      | in_default v ↦
          subst (λ (z : State). done z.host.items z.devices.items) (sym v.self-is)
          (subst (λ h. done h (slice_set xs n y)) (sym host)
          (lifted_at w s.host.items c.step.new.host xs (slice_set xs n y) x y (λ c. false) n is.device at inside refl
          (untouched (subst (λ (o : Option Footprint). IsFootprintOf w o) v.in_default.is t) refl) c.in_ok-step.step here))
    ]

pub returns-clause-entries : goal.returns-clause-entries
returns-clause-entries c d =
    let s = c.args.self.now in
    let n = c.args.item.now.device.number in
    let x = c.index_mut.result.now in
    let y = c.step.new.self in
    let at = device_at s.devices.items n 4 x s.count c.args.item.now.device.in_range c.index_mut.ensures.value in
    let more = entries_set s.devices.items n x y (2 ^ 64) at c.in_ok-step.ensures.entries d in
    elim c.match-found.branch [
      | in-Some v ↦
          subst (λ (z : State). entries_of z.devices.items d ≤ entries_of s.devices.items d + 2 ^ 64) (sym v.self-is)
          (subst (λ k. k ≤ entries_of s.devices.items d + 2 ^ 64)
          (sym (ap (λ ys. entries_of ys d) (with_items_is (with_item s.devices n y)
          v.spoil_others.new.devices (search (rules, places)))
          ∙ ap (λ (f : ℕ → ℕ). f d) (v.spoil_others.ensures.entries ∙ ap entries_of v.deref_mut-in-Some.ensures.value))) more)
      | in_default v ↦
          subst (λ (z : State). entries_of z.devices.items d ≤ entries_of s.devices.items d + 2 ^ 64) (sym v.self-is) more
    ]
