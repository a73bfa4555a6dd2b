use Rattle.actions.proofs.Answered.{any_item, first_of, splits, tail_sections}
use Rattle.actions.proofs.advance.split.Goals as goal

pub invariant_of-result : goal.invariant_of-result
invariant_of-result c = record {
  sections =
      tail_sections c.args.maps.items.now _ _ (first_of c.args.maps.items.now any_item c.in-len1-up.len_at_least)
      c.args.maps.sections;
}

pub returns-in-len1-up-clause-some : goal.returns-in-len1-up-clause-some
returns-in-len1-up-clause-some c = splits c.args.maps _ _ (first_of c.args.maps.items.now any_item c.in-len1-up.len_at_least)
