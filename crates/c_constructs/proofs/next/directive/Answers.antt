use Rattle.std.proofs.Common.{sym, ◌∙◌}
use Rattle.c_constructs.proofs.next.directive.Goals as goal

pub refuse_inside-requires-clause-inside : goal.refuse_inside-requires-clause-inside
refuse_inside-requires-clause-inside c = sym (c.is_inside.ensures 0 0) ∙ c.if-is_inside.true

pub refuse_under-requires-clause-outside : goal.refuse_under-requires-clause-outside
refuse_under-requires-clause-outside c = sym (c.is_inside.ensures 0 0) ∙ c.if-is_inside.false

pub refuse_under-requires-clause-under : goal.refuse_under-requires-clause-under
refuse_under-requires-clause-under c = sym (c.is_under_if.ensures 0 0) ∙ c.if-is_under_if.true

pub next_on_line-requires-clause-outside : goal.next_on_line-requires-clause-outside
next_on_line-requires-clause-outside c = sym (c.is_inside.ensures 0 0) ∙ c.if-is_inside.false

pub next_on_line-requires-clause-always : goal.next_on_line-requires-clause-always
next_on_line-requires-clause-always c = sym (c.is_under_if.ensures 0 0) ∙ c.if-is_under_if.false
