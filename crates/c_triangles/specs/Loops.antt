-- A loop with bounds that are understood.
use Rattle.std.specs.Prelude.{nat_lt, if◌then◌else◌, List, length, Option, None}
use Rattle.c_grammar.specs.Blocks.{Items}
use Rattle.c_grammar.specs.Triangles.{Loop, Open, cut, loop_of, max_open}
use Rattle.c_triangles.specs.Bounds.{seen_bound}
use Rattle.c_triangles.specs.Heads.{seen_parts, seen_step}
use Rattle.c_triangles.specs.declared.loops.Loop.{Loop as Given}

abbrev pub seen_loop : Given → Loop
seen_loop l = record {
  parts = seen_parts l.parts;
  name = l.name.now;
  start = seen_bound l.start;
  limit = seen_bound l.limit;
  step = seen_step l.step;
  end = l.end;
}

-- the one whose head these tokens begin
abbrev pub loop_within : List Open → Items → Option Loop
loop_within os is = if nat_lt (length os) max_open then loop_of os (cut is) else None
