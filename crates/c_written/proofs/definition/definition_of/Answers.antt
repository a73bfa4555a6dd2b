use Rattle.std.proofs.Common.{◌≡◌, ◌∙◌, Some, true, false, sym, rules}
use Rattle.std.specs.Option.{option_map}
use Rattle.c_grammar.specs.Expressions.{Number, as_items}
use Rattle.c_written.specs.Forms.{all_placed}
use Rattle.c_written.specs.Values.{seen_values}
use Rattle.c_written.specs.Work.{seen_worked}
use Rattle.c_written.proofs.Defining.{remark_at, defines_none, defines_again, defines_new}
use Rattle.c_written.proofs.definition.definition_of.Goals as goal

pub returns-then-not-is_remark : goal.returns-then-not-is_remark
returns-then-not-is_remark c =
    let e : option_map seen_worked c.args.worked ≡ Some (Number c.in-Some-Number.count c.in-Some-Number.value) = search rules in
    sym (defines_none (seen_values c.args.values.now) c.args.name.now (as_items 0 (all_placed c.args.lexemes.now)) _ _ _ e
    (remark_at c.in-Some-Number.count c.args.lexemes.now c.behind.result.now false c.behind.ensures
    (sym c.is_remark.ensures ∙ c.if-not-is_remark.true)))

pub returns-in-None-value : goal.returns-in-None-value
returns-in-None-value c =
    let e : option_map seen_worked c.args.worked ≡ Some (Number c.in-Some-Number.count c.in-Some-Number.value) = search rules in
    sym (defines_new (seen_values c.args.values.now) c.args.name.now (as_items 0 (all_placed c.args.lexemes.now)) _ _ _ e
    (remark_at c.in-Some-Number.count c.args.lexemes.now c.behind.result.now true c.behind.ensures
    (sym c.is_remark.ensures ∙ c.if-not-is_remark.false))
    (sym c.in-None-value.ensures))

pub returns-in-Some : goal.returns-in-Some
returns-in-Some c =
    let e : option_map seen_worked c.args.worked ≡ Some (Number c.in-Some-Number.count c.in-Some-Number.value) = search rules in
    sym (defines_again (seen_values c.args.values.now) c.args.name.now (as_items 0 (all_placed c.args.lexemes.now)) _ _ _ _ e
    (remark_at c.in-Some-Number.count c.args.lexemes.now c.behind.result.now true c.behind.ensures
    (sym c.is_remark.ensures ∙ c.if-not-is_remark.false))
    (sym c.in-Some.ensures))
