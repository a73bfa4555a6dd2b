use Rattle.std.proofs.Common.{◌∙◌, List, ◌++◌, sym, ap}
use Rattle.std.specs.Prelude.{true, false}
use Rattle.c_grammar.specs.Nesting.{targeted}
use Rattle.directives.specs.declared.lexeme.PlacedLexeme.{PlacedLexeme}
use Rattle.c_written.specs.Forms.{all_placed}
use Rattle.c_written.proofs.OwnIfs.{conditioned_put}
use Rattle.c_written.proofs.own_ifs.conditioned.Goals as goal

pub returns-then-has : goal.returns-then-has
returns-then-has c =
    ap all_placed c.in_ok-all.ensures.items
    ∙ conditioned_put c.args.tokens.now c.split_at.result.1.now c.name_len-len.result true c.split_at.ensures.back
    c.name_len-len.ensures.value (sym c.if-has.true ∙ c.has.ensures)

pub returns : goal.returns
returns c =
    c.in_ok-put_targeted.ensures
    ∙ ap (λ (ts : List PlacedLexeme). all_placed ts ++ targeted false 0 (all_placed c.split_at.result.1.now))
    (c.in_ok-put.ensures.items ∙ c.split_at.ensures.front)
    ∙ conditioned_put c.args.tokens.now c.split_at.result.1.now c.name_len-len.result false c.split_at.ensures.back
    c.name_len-len.ensures.value (sym c.if-has.false ∙ c.has.ensures)
