use Rattle.std.proofs.Common.{rules, tests, Some, None, [], ◌∷◌, ◌++◌, ◌≡◌, ◌∙◌, ◌^◌, ◌<◌, ◌≤◌, arith, sym}
use Rattle.std.proofs.lemmas.Iterator.Consumers.{YieldsList-at}
use Rattle.std.proofs.lemmas.Iterator.Splits.{YieldsList-from_slice_split}
use Rattle.std.proofs.lemmas.Bool.Decides.{nat_tests}
use Rattle.std.specs.List.{slice_split}
use Rattle.numbers.specs.Numbers.{is_comma, number_below}
use Rattle.numbers.proofs.Words.{part_comes, no_part_comes, choices_empty, choices_start, after_number, after_no_number, after_end, smaller, not_smaller, none_smaller}
use Rattle.numbers.proofs.choice_list.Goals as goal

pub returns-then-is_empty-clause-choices : goal.returns-then-is_empty-clause-choices
returns-then-is_empty-clause-choices c = rw c.new-choices.ensures.items (choices_empty c.args.text.now (search (rules, tests)))

pub loop-word-init : goal.loop-word-init
loop-word-init c = record {
  parts = slice_split is_comma c.args.text.now;
  yields = YieldsList-at c.into_iter-word-iterator.ensures.into_iter_gives
      (YieldsList-from_slice_split _ is_comma c.args.text.now (c.split-word-items.ensures.rest ∙ c.as_bytes.ensures.value) c.split-word-items.ensures.done c.split-word-items.ensures.closure (λ x r q k. search (rules, tests)));
  have = rw c.new-choices.ensures.items (choices_start c.args.text.now (grind (arith, nat_tests)));
}

pub returns-in_default-clause-malformed : goal.returns-in_default-clause-malformed
returns-in_default-clause-malformed c =
    let l = part_comes c.next.new.self c.in-Some.word c.loop-word.invariant c.in-Some.ensures.steps in
    let none : number_below (2 ^ 64) c.in-Some.word.now ≡ None = search rules in
    λ e. sym l.have ∙ after_no_number (2 ^ 32) c.loop-word.choices.items c.in-Some.word.now l.parts (none_smaller c.in-Some.word.now none)

pub returns-in_default-try_from-clause-malformed :
    goal.returns-in_default-try_from-clause-malformed
returns-in_default-try_from-clause-malformed c =
    let l = part_comes c.next.new.self c.in-Some.word c.loop-word.invariant c.in-Some.ensures.steps in
    let read : number_below (2 ^ 64) c.in-Some.word.now ≡ Some c.in-Some-number_of.number = search rules in
    let large : 2 ^ 32 ≤ c.in-Some-number_of.number = grind (arith, nat_tests) in
    λ e. sym l.have ∙ after_no_number (2 ^ 32) c.loop-word.choices.items c.in-Some.word.now l.parts (not_smaller c.in-Some.word.now c.in-Some-number_of.number read large)

pub loop-word-preserved : goal.loop-word-preserved
loop-word-preserved c =
    let l = part_comes c.next.new.self c.in-Some.word c.loop-word.invariant c.in-Some.ensures.steps in
    let read : number_below (2 ^ 64) c.in-Some.word.now ≡ Some c.in-Some-number_of.number = search rules in
    let same : c.in-Ok.choice ≡ c.in-Some-number_of.number = search rules in
    let small : c.in-Some-number_of.number < 2 ^ 32 = grind (arith, nat_tests) in
    let pushed : c.push.new.self.items ≡ c.loop-word.choices.items ++ c.in-Some-number_of.number ∷ [] = rw (← same) (search rules) in
    record {
      parts = l.parts;
      yields = l.yields;
      have = rw pushed (sym (after_number (2 ^ 32) c.loop-word.choices.items c.in-Some.word.now c.in-Some-number_of.number l.parts (smaller c.in-Some.word.now c.in-Some-number_of.number read small)) ∙ l.have);
    }

pub returns-clause-choices : goal.returns-clause-choices
returns-clause-choices c =
    let h = no_part_comes c.next.new.self c.loop-word.invariant c.in-None.ensures.steps in
    sym h ∙ after_end (2 ^ 32) c.loop-word.choices.items
