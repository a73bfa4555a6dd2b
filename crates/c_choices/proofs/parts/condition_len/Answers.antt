use Rattle.std.proofs.Common.{◌≡◌, ◌∙◌, ◌-◌, [], false, length, take, sym, arith}
use Rattle.std.specs.Prelude.{◌&&◌, ◌==◌}
use Rattle.std.proofs.lemmas.List.{length-take-le}
use Rattle.c_grammar.specs.Changes.{reversed}
use Rattle.c_grammar.specs.Choices.{begins_condition}
use Rattle.c_terminals.specs.Seen.{seen, seen_all}
use Rattle.c_choices.proofs.Parting.{condition_found, condition_goes, in_brackets, last_first, not_begun}
use Rattle.c_choices.proofs.parts.condition_len.Goals.{else-brackets-eq0-via-then-brackets-eq0+else-begins_condition, else-brackets-eq0-via-else-brackets-eq0}
use Rattle.c_choices.proofs.parts.condition_len.Goals as goal

pub returns-then-begins_condition-clause-value : goal.returns-then-begins_condition-clause-value
returns-then-begins_condition-clause-value c =
    sym (condition_found c.tokens.len c.tokens.brackets (seen c.token-item.result) _ _
    (last_first c.tokens.rest.now c.token-item.result c.in-len1-up.len_at_least c.token-item.is) c.if-brackets-eq0.true
    (sym c.begins_condition.ensures ∙ c.if-begins_condition.true))
    ∙ c.tokens.invariant.0

pub tokens-preserved : goal.tokens-preserved
tokens-preserved c =
    let i = seen c.token-item.result in
    let before = reversed (seen_all (take (length c.tokens.rest.now - 1) c.tokens.rest.now)) [] in
    let test : ((c.tokens.brackets == 0) && begins_condition i) ≡ false =
    elim c.else-brackets-eq0.branch [
      | else-brackets-eq0-via-then-brackets-eq0+else-begins_condition w ↦
          not_begun c.tokens.brackets (begins_condition i) (sym w.begins_condition.ensures ∙ w.if-begins_condition.false)
      | else-brackets-eq0-via-else-brackets-eq0 w ↦
          in_brackets c.tokens.brackets (begins_condition i) (omega (arith, w.if-brackets-eq0.false))
    ] in (
      sym (condition_goes c.tokens.len c.tokens.brackets c.brackets_before-brackets.result i _ before
          (last_first c.tokens.rest.now c.token-item.result c.in-len1-up.len_at_least c.token-item.is) test
          c.brackets_before-brackets.ensures.value) ∙ c.tokens.invariant.0,
      (
        omega (
          arith,
          length-take-le (length c.tokens.rest.now - 1) c.tokens.rest.now (omega arith),
          c.in-len1-up.len_at_least,
          c.tokens.invariant.1.0,
        ),
        omega (arith, c.brackets_before-brackets.ensures.within, c.tokens.invariant.1.1),
      ),
    )
