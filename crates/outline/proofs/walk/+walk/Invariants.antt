use Rattle.std.proofs.Common.{◌≡◌, ◌-◌, ◌++◌, take, drop}
use Rattle.outline.specs.Parts.{parts_items, turns_items}
use Rattle.outline.specs.Shown.{all_shown, as_shown}
use Rattle.outline.specs.Walk.{Added, PartsAreAt, entries_in}
use Rattle.outline.proofs.walk.+walk.Given as goal

abbrev pub invariant-add_all-parts : goal.invariant-add_all-parts
invariant-add_all-parts l = record {
  loops : l.loops.items ≡ l.initial.loops.items;
  here : PartsAreAt l.known l.next (drop l.part-index l.parts);
  items : Added (entries_in l.known) l.initial.items.items l.items.items
      (parts_items (take l.part-index l.parts) l.known.lengths.now l.initial.loops.items);
}

abbrev pub invariant-add_turns-turns : goal.invariant-add_turns-turns
invariant-add_turns-turns l = record {
  loops : l.loops.items ≡ l.initial.loops.items;
  items : all_shown (entries_in l.known) l.items.items
      ++ as_shown (turns_items l.v l.bounds l.body l.known.lengths.now l.initial.loops.items)
      ≡ all_shown (entries_in l.known) l.initial.items.items
      ++ as_shown (turns_items l.bounds.first l.bounds l.body l.known.lengths.now l.initial.loops.items);
}

abbrev pub decreases-add_turns-turns : goal.decreases-add_turns-turns
decreases-add_turns-turns l = l.bounds.end - l.v
