use Rattle.std.proofs.Common.{◌≡◌, drop, fold}
use Rattle.c_tokens.specs.Piece.{add_hex, hexadecimal}
use Rattle.c_tokens.proofs.piece.hex_number_of.Given as goal

abbrev pub invariant-loop-d : goal.invariant-loop-d
invariant-loop-d l = fold add_hex l.value (drop l.d-index l.digits) ≡ hexadecimal l.digits
