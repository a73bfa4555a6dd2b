use Rattle.std.proofs.Common.{◌≡◌, true, ◌≤◌, length, sym, ap, ◌∙◌, subst, take, arith, flat_map}
use Rattle.std.specs.Prelude.{◌↔◌}
use Rattle.std.proofs.lemmas.List.{take_all}
use Rattle.std.specs.Str.{IsUtf8}
use Rattle.graph.specs.Escaped.{IsOneLine, StaysInside, escape_of}
use Rattle.graph.proofs.Inside.{inside, is_text, one_line}
use Rattle.graph.proofs.escape.escaped.Goals as goal

pub returns-clause-escaped : goal.returns-clause-escaped
returns-clause-escaped c =
    let bytes = c.args.bytes.now in
    let all : length bytes ≤ c.bytes.byte-index = omega (arith, c.bytes-test.false) in (
      c.is_ok-is_text.result,
      subst (λ b. (b ≡ true) ↔ IsUtf8 bytes) (sym c.is_ok-is_text.ensures.value)
          (is_text c.from_utf8.result (IsUtf8 bytes) _ _ c.from_utf8.ensures.cases),
      c.bytes.invariant ∙ ap (flat_map (escape_of c.is_ok-is_text.result)) (take_all c.bytes.byte-index bytes all),
    )

pub returns-clause-inside : goal.returns-clause-inside
returns-clause-inside c =
    subst StaysInside (sym c.bytes.invariant) (inside c.is_ok-is_text.result (take c.bytes.byte-index c.args.bytes.now))

pub returns-clause-one_line : goal.returns-clause-one_line
returns-clause-one_line c =
    subst IsOneLine (sym c.bytes.invariant) (one_line c.is_ok-is_text.result (take c.bytes.byte-index c.args.bytes.now))
