use Rattle.std.proofs.Common.{◌≡◌, take, flat_map}
use Rattle.graph.specs.Escaped.{escape_of}
use Rattle.graph.proofs.escape.escaped.Given as goal

abbrev pub invariant-bytes : goal.invariant-bytes
invariant-bytes l = l.text.items ≡ flat_map (escape_of l.is_text) (take l.byte-index l.bytes)
