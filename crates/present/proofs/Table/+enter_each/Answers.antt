use Rattle.std.proofs.Common.{◌+◌, ◌<◌, length, drop, get_or, false, sym, ◌∙◌, subst, arith}
use Rattle.std.proofs.lemmas.Option.{slice_get-get_or}
use Rattle.std.specs.Prelude.{IsSomeAnd}
use Rattle.base.specs.declared.item.MapItem.{MapItem}
use Rattle.base.specs.declared.item.MapKind.TheVariants.{To}
use Rattle.base.specs.Map.{enter, in_turn}
use Rattle.host_memory.proofs.HostRows.{same_within}
use Rattle.present.specs.Table.{Are, Does, Fails, IsPartFault, Shows, SomeRoom, fill_of, memories, with_host_if}
use Rattle.present.proofs.SameHost.{same_host}
use Rattle.present.proofs.NeededCells.{drop_item}
use Rattle.present.proofs.Undone.{can_uncount, uncounted}
use Rattle.present.proofs.EachTurn.{part_fault, later_fault, no_first, counts_left, room_left, turn_fails, turn_done}
use Rattle.std.proofs.lemmas.Grind.{common_steps}
use Rattle.present.proofs.Table.+enter_each.Goals as goal

abbrev other : MapItem
other = record {
  kind = To;
  always = false;
  present = false;
  section = record { array = record { 0 = 0 }; first = 0; length = 0 };
  line = 0;
  column = 0;
}

pub returns-in-Err-clause-fault : goal.returns-in-Err-clause-fault
returns-in-Err-clause-fault m c =
    let items = c.args.items.now in
    let t = c.args.self.now in
    let host = c.args.host.now in
    let within : c.args.from < length items = omega arith in
    let item = get_or items c.args.from other in
    let rest = drop (c.args.from + 1) items in
    let split = drop_item items c.args.from other within in
    let w = c.requires.sections c.args.from item (slice_get-get_or items c.args.from other within) in
    let room = subst (SomeRoom t) split c.requires.room in
    subst (λ xs. IsPartFault (Fails (in_turn (enter (fill_of t)) xs) t host) c.in-Err.fault) (sym split)
    (part_fault t item rest _ w room (no_first t item rest host w) c.in-Err.fault c.in-Err.ensures.fault)

pub enter_each-requires : goal.enter_each-requires
enter_each-requires m c =
    let items = c.args.items.now in
    let t = c.args.self.now in
    let k = c.in-Ok.counted in
    let within : c.args.from < length items = omega arith in
    let item = get_or items c.args.from other in
    let rest = drop (c.args.from + 1) items in
    let split = drop_item items c.args.from other within in
    let w = c.requires.sections c.args.from item (slice_get-get_or items c.args.from other within) in
    let room = subst (SomeRoom t) split c.requires.room in (
      omega arith,
      (
        c.requires.sections,
        (
          c.requires.within,
          (
            omega arith,
            (
              counts_left t c.count.new.self item k.at k.copies w k.creates c.in-Ok.ensures.counted items c.args.from
                  within c.requires.counts,
              room_left t c.count.new.self item k.at k.copies w k.creates c.in-Ok.ensures.counted
                  c.in-Ok.ensures.kept.capacity rest room,
            ),
          ),
        ),
      ),
    )

pub uncount-requires : goal.uncount-requires
uncount-requires m c =
    let k = c.in-Ok.counted in
    can_uncount c.args.self.now c.count.new.self (get_or c.args.items.now c.args.from other) k.at k.copies k.creates
    c.in-Ok.ensures.counted c.enter_each.new.self c.in-Err-enter_each.ensures.unchanged.0

pub bring_in_if-requires-clause-section : goal.bring_in_if-requires-clause-section
bring_in_if-requires-clause-section m c =
    let items = c.args.items.now in
    let within : c.args.from < length items = omega arith in
    c.requires.sections c.args.from (get_or items c.args.from other) (slice_get-get_or items c.args.from other within)

pub bring_in_if-requires-clause-within : goal.bring_in_if-requires-clause-within
bring_in_if-requires-clause-within m c =
    let items = c.args.items.now in
    let within : c.args.from < length items = omega arith in
    same_within c.args.host.now c.enter_each.new.host _ c.enter_each.ensures.same_host.lengths
    (c.requires.within c.args.from (get_or items c.args.from other) (slice_get-get_or items c.args.from other within))

pub returns-in-Err-enter_each-clause-fault : goal.returns-in-Err-enter_each-clause-fault
returns-in-Err-enter_each-clause-fault m c =
    let items = c.args.items.now in
    let t = c.args.self.now in
    let host = c.args.host.now in
    let k = c.in-Ok.counted in
    let within : c.args.from < length items = omega arith in
    let item = get_or items c.args.from other in
    let rest = drop (c.args.from + 1) items in
    let w = c.requires.sections c.args.from item (slice_get-get_or items c.args.from other within) in
    subst (λ xs. IsPartFault (Fails (in_turn (enter (fill_of t)) xs) t host) c.in-Err-enter_each.fault)
    (sym (drop_item items c.args.from other within))
    (later_fault _ _ (λ fails d sh. turn_fails t c.count.new.self item k.at k.copies w k.creates
    c.in-Ok.ensures.counted host rest d sh
    c.in-Ok.ensures.kept.fill fails) c.in-Err-enter_each.fault c.in-Err-enter_each.ensures.fault)

pub returns-in-Err-enter_each-clause-unchanged : goal.returns-in-Err-enter_each-clause-unchanged
returns-in-Err-enter_each-clause-unchanged m c =
    let k = c.in-Ok.counted in (
      uncounted c.args.self.now c.count.new.self (get_or c.args.items.now c.args.from other) k.at k.copies k.creates
          c.in-Ok.ensures.counted c.enter_each.new.self c.uncount.new.self c.in-Err-enter_each.ensures.unchanged.0
          c.uncount.ensures.uncounted,
      c.in-Err-enter_each.ensures.unchanged.1,
    )

pub returns-in-Ok-enter_each-clause-entered : goal.returns-in-Ok-enter_each-clause-entered
returns-in-Ok-enter_each-clause-entered m c d sh =
    let items = c.args.items.now in
    let t = c.args.self.now in
    let host = c.args.host.now in
    let k = c.in-Ok.counted in
    let within : c.args.from < length items = omega arith in
    let item = get_or items c.args.from other in
    let rest = drop (c.args.from + 1) items in
    let w = c.requires.sections c.args.from item (slice_get-get_or items c.args.from other within) in
    let mid = c.enter_each.new.host in
    let same = c.enter_each.ensures.same_host.memory in
    let does : Does (in_turn (enter (fill_of c.count.new.self)) rest) c.count.new.self host c.enter_each.new.self host =
    λ x shown. same_host (in_turn (enter (fill_of c.count.new.self)) rest (memories host x)) mid host
    c.enter_each.new.self (sym same) (c.in-Ok-enter_each.ensures.entered x shown) in
    same_host (in_turn (enter (fill_of t)) (drop c.args.from items) (memories host d)) host c.bring_in_if.new.host c.bring_in_if.new.self
    (c.bring_in_if.ensures.same.memory ∙ same)
    (subst (λ xs. IsSomeAnd (in_turn (enter (fill_of t)) xs (memories host d)) (Are host c.bring_in_if.new.self))
    (sym (drop_item items c.args.from other within))
    (turn_done t c.count.new.self item k.at k.copies w k.creates c.in-Ok.ensures.counted host rest d sh
    c.in-Ok.ensures.kept.fill
    c.enter_each.new.self c.bring_in_if.new.self does
    (λ x b shown there. subst (λ m. Shows c.bring_in_if.new.self (with_host_if k.copies item.section m x)) same
    (c.bring_in_if.ensures.brought x b shown there))))

pub returns-then-from-items-clause-entered : goal.returns-then-from-items-clause-entered
returns-then-from-items-clause-entered t c = grind (arith, common_steps)
