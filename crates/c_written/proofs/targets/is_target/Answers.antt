use Rattle.std.proofs.Common.{◌≡◌, ◌∙◌, true, sym}
use Rattle.std.specs.Prelude.{◌&&◌}
use Rattle.c_tokens.specs.declared.kind.Sign.TheVariants as sign
use Rattle.c_grammar.specs.Constants.{is_name}
use Rattle.c_grammar.specs.Changes.{is_mark}
use Rattle.c_terminals.specs.Seen.{seen}
use Rattle.c_written.proofs.Targeting.{both, target_cell}
use Rattle.c_written.proofs.targets.is_target.Goals as goal
use Rattle.c_written.proofs.targets.is_target.Goals.{then-is_name, else-is_name}

pub returns-then-is_sign : goal.returns-then-is_sign
returns-then-is_sign c =
    let opens : (is_name (seen c.name-item-2.result).terminal && is_mark sign.OpenBracket (seen c.open-item.result)) ≡ true =
    elim c.if-is_name.branch [
      | then-is_name w ↦ both _ _ (sym c.is_name-in-len3-up.ensures ∙ w.if-is_name.true)
          (sym w.is_sign.ensures ∙ sym w.value-is ∙ c.if-is_sign.true)
      | else-is_name w ↦ absurd cc
    ] in
    c.is_sign-then-is_sign.ensures
    ∙ sym (target_cell c.args.tokens.now _ _ _ c.in-len3-up.len_at_least c.name-item-2.is c.open-item.is c.close-item.is opens)
