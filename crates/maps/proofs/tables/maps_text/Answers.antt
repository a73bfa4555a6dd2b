use Rattle.std.proofs.Common.{◌<◌, [], arith, length, map}
use Rattle.base.specs.declared.item.Event.TheVariants.{Gen}
use Rattle.maps.specs.Maps.{Tables, after_event, event_lines, role_of}
use Rattle.maps.specs.Shown.{tables_in}
use Rattle.maps.proofs.Turns.{after_next, told_next}
use Rattle.maps.proofs.tables.maps_text.Goals as goal

abbrev empty : Tables
empty = λ d. []

pub events-preserved : goal.events-preserved
events-preserved g c =
    let tell = event_lines c.args.program.now (map role_of c.args.items.now) in
    let next = after_event (map role_of c.args.items.now) in
    let within : c.events.event-index < length c.args.history.now = omega arith in
    record {
      lines = told_next tell next _ _ _ c.args.history.now c.events.event-index (Gen 0) empty
          (tables_in c.events.tables.items) within c.events.invariant.lines c.events.invariant.tables
          c.in_ok-tell_event.ensures.lines;
      tables = after_next tell next c.args.history.now c.events.event-index (Gen 0) empty
          (tables_in c.events.tables.items) (tables_in c.tell_event.new.tables.items) within
          c.events.invariant.tables c.in_ok-tell_event.ensures.tables;
      four = c.in_ok-tell_event.ensures.four;
    }
