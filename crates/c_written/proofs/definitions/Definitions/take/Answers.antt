use Rattle.std.proofs.Common.{◌≡◌, ◌∙◌, ◌++◌, ◌∷◌, [], ap, sym, append_assoc, arith}
use Rattle.c_grammar.specs.Blocks.{bare}
use Rattle.c_grammar.specs.Constants.{depth_behind, undefined, with_global}
use Rattle.c_written.specs.Definitions.{names_of}
use Rattle.c_terminals.specs.Seen.{seen, seen_all}
use Rattle.c_terminals.proofs.Lists.{written_one}
use Rattle.c_written.proofs.Undefining.{all_four, undefined_definition, undefined_inside, undefined_left, undefined_line, undefined_none}
use Rattle.c_written.proofs.definitions.Definitions.take.Goals as goal
use Rattle.c_written.proofs.definitions.Definitions.take.Goals.{then-self-le1+in_default, else-self-le1}

pub returns-then-is_directive : goal.returns-then-is_directive
returns-then-is_directive c =
    written_one _ _ c.args.token _ _ c.in_ok-push.ensures.items
    (undefined_line _ _ _ _ _ (sym c.is_directive.ensures ∙ c.if-is_directive.true))

pub returns-then-self-gt0 : goal.returns-then-self-gt0
returns-then-self-gt0 c =
    ap (λ is. seen_all c.args.self.now.done.items ++ is)
    (undefined_left _ _ _ _ _ (sym c.is_directive.ensures ∙ c.if-is_directive.false) c.if-self-gt0.true)

pub returns-in-Some : goal.returns-in-Some
returns-in-Some c =
    ap (λ is. seen_all c.args.self.now.done.items ++ is)
    (undefined_definition _ _ _ _ _ _ (omega (arith, c.if-self-gt0.false)) c.if-self-le1.true
    (sym c.is_directive.ensures ∙ c.if-is_directive.false) (sym c.definition_len.ensures ∙ c.in-Some.is))

pub returns : goal.returns
returns c =
    let old = c.args.self.now in
    let new = c.keep.new.self in
    let i = seen c.args.token in
    let is = seen_all c.args.rest.now in
    let plain = sym c.is_directive.ensures ∙ c.if-is_directive.false in
    let none : old.left ≡ 0 = omega (arith, c.if-self-gt0.false) in
    let step : undefined (names_of old) old.depth old.left (i ∷ is)
    ≡ i ∷ undefined (with_global i.terminal (bare is) (names_of old)) (depth_behind i.terminal old.depth) old.left is =
    elim c.if-self-le1.branch [
      | then-self-le1+in_default w ↦
          undefined_none _ _ _ _ _ none plain (sym w.definition_len.ensures ∙ w.in_default.is)
      | else-self-le1 w ↦ undefined_inside _ _ _ _ _ none w.if-self-le1.false plain
    ] in
    all_four c.keep.result c.keep.ensures.done c.keep.ensures.names c.keep.ensures.depth c.keep.ensures.left
    (λ done names depth left.
    ap (λ js. seen_all old.done.items ++ js)
    (step ∙ (λ k. i ∷ undefined (sym names k) (sym depth k) (sym left k) is))
    ∙ sym (append_assoc (seen_all old.done.items) (i ∷ []) (undefined (names_of new) new.depth new.left is))
    ∙ ap (λ js. js ++ undefined (names_of new) new.depth new.left is) (sym done))
