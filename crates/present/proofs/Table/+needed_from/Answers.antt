use Rattle.std.proofs.Common.{◌+◌, ◌<◌, ◌≤◌, length, drop, get_or, Some, None, false, sym, ap, subst, arith}
use Rattle.std.proofs.lemmas.List.{drop_all}
use Rattle.base.specs.Map.{need}
use Rattle.std.proofs.lemmas.Option.{slice_get-get_or}
use Rattle.base.specs.declared.item.MapItem.{MapItem}
use Rattle.base.specs.declared.item.MapKind.TheVariants.{To}
use Rattle.present.specs.Needed.{Needs, sections_in}
use Rattle.present.proofs.NeededCells.{drop_item, needs_new, needs_old}
use Rattle.present.proofs.Table.+needed_from.Goals as goal

abbrev other : MapItem
other = record {
  kind = To;
  always = false;
  present = false;
  section = record { array = record { 0 = 0 }; first = 0; length = 0 };
  line = 0;
  column = 0;
}

pub returns-in-None : goal.returns-in-None
returns-in-None t c =
    let items = c.args.items.now in
    let within : c.args.from < length items = omega arith in
    let item = get_or items c.args.from other in
    let w = c.requires.items c.args.from item (slice_get-get_or items c.args.from other within) in
    let cs = sections_in c.args.created.now in
    subst (λ xs. Needs c.args.self.now cs xs None) (sym (drop_item items c.args.from other within))
    (λ blocks k. (let n = needs_new c.args.self.now cs item (drop
    (c.args.from + 1) items) w c.if-is_new.ensures None c.in-None.ensures blocks k in
    let big = n.1 in let is = n.2 in omega (arith, big, is)))

pub returns-then-section-cells : goal.returns-then-section-cells
returns-then-section-cells t c =
    let items = c.args.items.now in
    let within : c.args.from < length items = omega arith in
    let item = get_or items c.args.from other in
    let w = c.requires.items c.args.from item (slice_get-get_or items c.args.from other within) in
    let cs = sections_in c.args.created.now in
    subst (λ xs. Needs c.args.self.now cs xs None) (sym (drop_item items c.args.from other within))
    (λ blocks k. (let n = needs_new c.args.self.now cs item (drop (c.args.from + 1) items) w c.if-is_new.ensures
    (Some c.in-Some.cells) c.in-Some.ensures blocks k in
    let count = n.1 in let is = n.2 in let over = c.if-section-cells.true in let end = w.end in omega
    (arith, count, is, over, end)))

pub returns-else-section-cells : goal.returns-else-section-cells
returns-else-section-cells t c =
    let items = c.args.items.now in
    let within : c.args.from < length items = omega arith in
    let item = get_or items c.args.from other in
    let w = c.requires.items c.args.from item (slice_get-get_or items c.args.from other within) in
    let cs = sections_in c.args.created.now in
    subst (λ xs. Needs c.args.self.now cs xs (Some (c.in-Some.cells + item.section.length))) (sym
    (drop_item items c.args.from other within))
    (λ blocks k. (let n = needs_new c.args.self.now cs item (drop (c.args.from + 1) items) w c.if-is_new.ensures
    (Some c.in-Some.cells) c.in-Some.ensures blocks k in
    let count = n.1 in let is = n.2 in omega (arith, count, is)))

pub returns-else-is_new : goal.returns-else-is_new
returns-else-is_new t c =
    let items = c.args.items.now in
    let within : c.args.from < length items = omega arith in
    let item = get_or items c.args.from other in
    let w = c.requires.items c.args.from item (slice_get-get_or items c.args.from other within) in
    let cs = sections_in c.args.created.now in
    subst (λ xs. Needs c.args.self.now cs xs c.needed_from-else-is_new.result) (sym
    (drop_item items c.args.from other within))
    (needs_old c.args.self.now cs item (drop
    (c.args.from + 1) items) w c.if-is_new.ensures c.needed_from-else-is_new.result
    c.needed_from-else-is_new.ensures)

pub needed_from-requires : goal.needed_from-requires
needed_from-requires t c =
    let items = c.args.items.now in
    let within : c.args.from < length items = omega arith in
    let w = c.requires.items c.args.from (get_or items c.args.from other)
    (slice_get-get_or items c.args.from other within) in
    (omega arith, (c.requires.items, (omega arith, (w, c.requires.created))))

pub needed_from-requires-else-is_new : goal.needed_from-requires-else-is_new
needed_from-requires-else-is_new t c = (omega arith, (c.requires.items, (omega arith, c.requires.created)))

pub returns-then-from-items : goal.returns-then-from-items
returns-then-from-items t c =
    let items = c.args.items.now in
    let past : length items ≤ c.args.from = omega arith in
    λ blocks k. sym (ap (λ xs. need xs blocks) (drop_all c.args.from items past))
