use Rattle.std.proofs.Common.{◌≡◌, length, map}
use Rattle.c_grammar.specs.Macros.{put_body}
use Rattle.c_macros.specs.Macros.{lists_of, names_of, seen_reading}
use Rattle.c_terminals.specs.Seen.{seen, seen_terminal}
use Rattle.c_macros.proofs.reading.Reading.put_body.Given as goal

abbrev pub invariant-body : goal.invariant-body
invariant-body l =
    put_body (seen l.fn.place) (names_of l.fn.parameters) (lists_of l.fn.arguments) (map seen_terminal l.rest) (seen_reading l.self) ≡
    put_body (seen l.fn.place) (names_of l.fn.parameters) (lists_of l.fn.arguments) (map seen_terminal l.fn.body)
    (seen_reading l.fn.self)

abbrev pub decreases-body : goal.decreases-body
decreases-body l = length l.rest
