-- The parts of a head.
use Rattle.c_grammar.specs.Triangles.{Parts}
use Rattle.c_descents.specs.declared.heads.Parts.{Parts as Given}
use Rattle.c_terminals.specs.Seen.{seen, seen_all}

abbrev pub seen_parts : Given → Parts
seen_parts p = record {
  front = seen_all p.front.now;
  start = seen_all p.start.now;
  middle = seen_all p.middle.now;
  compares = seen p.compares;
  limit = seen_all p.limit.now;
  back = seen_all p.back.now;
}
