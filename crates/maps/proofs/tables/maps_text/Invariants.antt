use Rattle.std.proofs.Common.{◌≡◌, [], length, map, take}
use Rattle.std.specs.Io.KnownBytes.{Appends}
use Rattle.maps.specs.Maps.{after, after_event, event_lines, role_of, told}
use Rattle.maps.specs.Shown.{tables_in}
use Rattle.maps.proofs.tables.maps_text.Given as goal

abbrev pub invariant-events : goal.invariant-events
invariant-events g l = record {
  lines : Appends (g.W.Write.contents l.initial.out) (g.W.Write.contents l.out)
      (told (event_lines l.program (map role_of l.items)) (after_event (map role_of l.items)) (take l.event-index l.history) (λ d. []));
  tables : tables_in l.tables.items ≡ after (after_event (map role_of l.items)) (take l.event-index l.history) (λ d. []);
  four : length l.tables.items ≡ 4;
}
