use Rattle.std.proofs.Common.{◌≡◌, take, flat_map, string_bytes}
use Rattle.report.specs.Checked.{current_line}
use Rattle.report.proofs.checked.current_lines.Given as goal

abbrev pub invariant-arrays : goal.invariant-arrays
invariant-arrays l = string_bytes l.text ≡ flat_map (current_line l.program) (take l.array-index l.arrays)
