-- Where a token stands, as the definition has it.
use Rattle.c_grammar.specs.Types as spec
use Rattle.c_types.specs.declared.kinds.Kind.{Kind}
use Rattle.c_types.specs.declared.kinds.Kind.TheVariants as kinds
use Rattle.c_types.specs.declared.states.Mode.{Mode}
use Rattle.c_types.specs.declared.states.Mode.TheVariants as modes
use Rattle.c_types.specs.declared.states.Heading.{Heading}
use Rattle.c_types.specs.declared.states.Heading.TheVariants as headings
use Rattle.c_types.specs.declared.states.State.{State}

abbrev pub seen_kind : Kind → spec.Kind
seen_kind kinds.Count = spec.Count
seen_kind kinds.Flag = spec.Flag
seen_kind kinds.Wide = spec.Wide

abbrev pub seen_mode : Mode → spec.Mode
seen_mode modes.Free = spec.Free
seen_mode (modes.Typed k star) = spec.Typed (seen_kind k) star
seen_mode (modes.Listed k n) = spec.Listed (seen_kind k) n

abbrev pub seen_heading : Heading → spec.Heading
seen_heading headings.Out = spec.Out
seen_heading headings.At = spec.At
seen_heading headings.In = spec.In
seen_heading headings.AtMain = spec.AtMain
seen_heading headings.InMain = spec.InMain

abbrev pub seen_state : State → spec.State
seen_state s = record {
  mode = seen_mode s.mode;
  heading = seen_heading s.heading;
  round = s.round;
  depth = s.depth;
  stepped = s.stepped;
}
