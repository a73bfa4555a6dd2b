use Rattle.std.proofs.Common.{◌∙◌, ◌+◌, ◌-◌, ap, drop, length, take, refl, arith}
use Rattle.std.proofs.lemmas.List.{take_rest}
use Rattle.c_grammar.specs.Choices.{cut, second_len}
use Rattle.c_terminals.specs.Seen.{seen_all}
use Rattle.c_choices.proofs.Parting.{cut_none, cut_parts, first_rest}
use Rattle.c_choices.proofs.parts.cut.Goals as goal

pub returns-then-second-eq0 : goal.returns-then-second-eq0
returns-then-second-eq0 c =
    let behind = take (length c.args.rest.now - 1) (drop 1 c.args.rest.now) in
    ap (λ ts. cut (seen_all c.args.front.now) (seen_all ts))
    (first_rest c.args.rest.now c.mark-item.result c.in-len1-up.len_at_least c.mark-item.is)
    ∙ cut_none c.mark-item.result c.args.front.now behind c.condition_len-condition.result c.first_len-first.result
    c.second_len-second.result c.condition_len-condition.ensures.value c.first_len-first.ensures.value
    (c.second_len-second.ensures.value
    ∙ ap (λ ts. second_len 0 0 (seen_all ts)) (take_rest behind (c.first_len-first.result + 1))) c.if-second-eq0.true

pub returns : goal.returns
returns c =
    let behind = take (length c.args.rest.now - 1) (drop 1 c.args.rest.now) in
    let others = take_rest behind (c.first_len-first.result + 1) in
    ap (λ ts. cut (seen_all c.args.front.now) (seen_all ts))
    (first_rest c.args.rest.now c.mark-item.result c.in-len1-up.len_at_least c.mark-item.is)
    ∙ cut_parts _ c.mark-item.result c.args.front.now behind c.condition_len-condition.result c.first_len-first.result
    c.second_len-second.result c.condition_len-condition.ensures.value c.first_len-first.ensures.value
    (c.second_len-second.ensures.value ∙ ap (λ ts. second_len 0 0 (seen_all ts)) others)
    (omega (arith, c.if-condition-eq0.false)) (omega (arith, c.if-first-eq0.false)) (omega (arith, c.if-second-eq0.false)) refl
    (ap seen_all c.split_at.ensures.front) (ap seen_all c.split_at.ensures.back) refl
    (ap seen_all (c.split_at-2.ensures.front ∙ ap (take c.second_len-second.result) others))
    (ap seen_all (c.split_at-2.ensures.back ∙ ap (drop c.second_len-second.result) others))
