-- A loop that counts down.
use Rattle.std.specs.Prelude.{◌∷◌, ◌++◌, nat_lt, if◌then◌else◌, List, length, map, Option, None}
use Rattle.c_tokens.specs.declared.kind.Sign.TheVariants as sign
use Rattle.c_grammar.specs.Terminal.{Mark}
use Rattle.c_grammar.specs.Blocks.{Items, at}
use Rattle.c_grammar.specs.Descents.{Loop, Open, loop_of, step, upward_step}
use Rattle.c_grammar.specs.Triangles.{cut, max_open}
use Rattle.c_terminals.specs.Seen.{seen_all}
use Rattle.c_descents.specs.Heads.{seen_parts}
use Rattle.c_descents.specs.declared.loops.Loop.{Loop as Given}

abbrev pub seen_loop : Given → Loop
seen_loop l = record {
  parts = seen_parts l.parts;
  name = l.name.now;
  small = l.small;
  first = seen_all l.first.items;
  last = seen_all l.last.items;
}

-- the one whose head these tokens begin
abbrev pub loop_within : List Open → Items → Option Loop
loop_within os is = if nat_lt (length os) max_open then loop_of os (cut is) else None

-- the tokens of a step
abbrev pub upward_steps : Items → Items
upward_steps is = map upward_step is

-- ( TYPE NAME =, the first number and ; NAME
abbrev pub front_of : Loop → Items
front_of l = l.parts.front ++ (l.first ++ l.parts.middle)

-- <=, the last number and the step
abbrev pub back_of : Loop → Items
back_of l = at l.parts.compares (Mark sign.LessEqual) ∷ (l.last ++ step l)
