use Rattle.std.proofs.Common.{rules, tests, Some, None, [], ◌∷◌, ◌++◌, ◌≡◌, ◌∙◌, ◌^◌, arith, sym}
use Rattle.std.proofs.lemmas.Iterator.Consumers.{YieldsList-at}
use Rattle.std.proofs.lemmas.Iterator.Splits.{YieldsList-from_slice_split}
use Rattle.std.proofs.lemmas.List.{length_push}
use Rattle.std.proofs.lemmas.Bool.Decides.{nat_tests}
use Rattle.std.specs.List.{slice_split}
use Rattle.numbers.specs.Numbers.{is_blank, number_below}
use Rattle.numbers.proofs.Words.{part_comes, no_part_comes, input_start, input_skip, input_number, input_no_number, input_full, input_end}
use Rattle.numbers.proofs.input_numbers.Goals as goal

pub loop-word-init : goal.loop-word-init
loop-word-init c = record {
  few = rw c.new-numbers.ensures.items (omega arith);
  left = record {
    parts = slice_split is_blank c.args.bytes.now;
    yields = YieldsList-at c.into_iter-word-iterator.ensures.into_iter_gives
        (YieldsList-from_slice_split _ is_blank c.args.bytes.now c.split-word-items.ensures.rest c.split-word-items.ensures.done c.split-word-items.ensures.closure (λ x r q k. search (rules, tests)));
    have = rw c.new-numbers.ensures.items (input_start c.args.bytes.now);
  };
}

pub loop-word-preserved-then-is_empty : goal.loop-word-preserved-then-is_empty
loop-word-preserved-then-is_empty c =
    let l = part_comes c.next.new.self c.in-Some.word c.loop-word.invariant.left c.in-Some.ensures.steps in
    record {
      few = c.loop-word.invariant.few;
      left = record { parts = l.parts; yields = l.yields; have = sym (input_skip c.loop-word.numbers.items c.in-Some.word.now l.parts (search (rules, tests))) ∙ l.have };
    }

pub returns-then-len-ge-MAX_INPUT-clause-malformed :
    goal.returns-then-len-ge-MAX_INPUT-clause-malformed
returns-then-len-ge-MAX_INPUT-clause-malformed c =
    let l = part_comes c.next.new.self c.in-Some.word c.loop-word.invariant.left c.in-Some.ensures.steps in
    λ e. sym l.have ∙ input_full c.loop-word.numbers.items c.in-Some.word.now l.parts (grind (arith, nat_tests)) (omega arith)

pub returns-in_default-clause-malformed : goal.returns-in_default-clause-malformed
returns-in_default-clause-malformed c =
    let l = part_comes c.next.new.self c.in-Some.word c.loop-word.invariant.left c.in-Some.ensures.steps in
    let none : number_below (2 ^ 64) c.in-Some.word.now ≡ None = search rules in
    λ e. sym l.have ∙ input_no_number c.loop-word.numbers.items c.in-Some.word.now l.parts (grind (arith, nat_tests)) none

pub loop-word-preserved : goal.loop-word-preserved
loop-word-preserved c =
    let l = part_comes c.next.new.self c.in-Some.word c.loop-word.invariant.left c.in-Some.ensures.steps in
    let read : number_below (2 ^ 64) c.in-Some.word.now ≡ Some c.in-Some-number_of.number = search rules in
    let pushed : c.push.new.self.items ≡ c.loop-word.numbers.items ++ c.in-Some-number_of.number ∷ [] = search rules in
    record {
      few = rw pushed (omega (arith, length_push c.loop-word.numbers.items c.in-Some-number_of.number));
      left = record {
        parts = l.parts;
        yields = l.yields;
        have = rw pushed (sym (input_number c.loop-word.numbers.items c.in-Some.word.now c.in-Some-number_of.number l.parts (grind (arith, nat_tests)) read) ∙ l.have);
      };
    }

pub returns-clause-numbers : goal.returns-clause-numbers
returns-clause-numbers c =
    let h = no_part_comes c.next.new.self c.loop-word.invariant.left c.in-None.ensures.steps in
    sym h ∙ input_end c.loop-word.numbers.items c.loop-word.invariant.few
