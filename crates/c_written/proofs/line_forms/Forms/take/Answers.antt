use Rattle.std.proofs.Common.{◌≡◌, ◌∙◌, ◌-◌, [], ◌∷◌, Some, ap, sym, rules}
use Rattle.std.specs.Option.{option_map}
use Rattle.c_grammar.specs.Lexeme.{Numbered}
use Rattle.directives.specs.Seen.{seen_placed}
use Rattle.c_written.specs.Forms.{all_placed, seen_bound}
use Rattle.c_written.proofs.LineSteps.{took_left, took_separator, took_bound, took_plain, with_more}
use Rattle.c_written.proofs.line_forms.Forms.take.Goals as goal

pub returns-then-self-gt0 : goal.returns-then-self-gt0
returns-then-self-gt0 c = took_left c.args.self.now (seen_placed c.args.placed) _ _ c.requires.rest c.if-self-gt0.true

pub returns-then-is_separator : goal.returns-then-is_separator
returns-then-is_separator c =
    took_separator c.args.self.now (seen_placed c.args.placed) _ _ c.requires.rest c.if-self-gt0.false
    (sym c.if-is_separator.ensures)

pub returns-in-Some : goal.returns-in-Some
returns-in-Some c =
    let less : c.saturating_sub-self.result ≡ c.in-Some.count - 1 = search rules in
    with_more c.write.result _ c.write.new.self c.args.placed.column (Numbered (Some c.in-Some.value) ∷ []) _
    (all_placed c.args.behind.now)
    (took_bound c.args.self.now (seen_placed c.args.placed) (all_placed c.args.rest.now) (all_placed c.args.behind.now) c.in-Some.count
    c.in-Some.value c.saturating_sub-self.result c.requires.rest c.if-self-gt0.false (sym c.if-is_separator.ensures)
    (ap (option_map seen_bound) (sym c.in-Some.is) ∙ c.in_ok-count.ensures) less)
    c.write.ensures.done c.write.ensures.past c.write.ensures.same

pub returns : goal.returns
returns c =
    with_more c.plain.result c.args.self.now c.plain.new.self c.args.placed.column _ _ (all_placed c.args.behind.now)
    (took_plain c.args.self.now (seen_placed c.args.placed) (all_placed c.args.rest.now) (all_placed c.args.behind.now)
    c.in_ok-count.field-0 c.requires.rest c.if-self-gt0.false (sym c.if-is_separator.ensures) c.in_default.is c.in_ok-count.ensures)
    c.plain.ensures.done c.plain.ensures.past c.plain.ensures.same
