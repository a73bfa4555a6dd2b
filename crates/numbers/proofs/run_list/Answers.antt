use Rattle.std.proofs.Common.{rules, tests, Some, None, [], ◌∷◌, ◌≡◌, ◌∙◌, arith, sym}
use Rattle.std.proofs.lemmas.Iterator.Consumers.{YieldsList-at}
use Rattle.std.proofs.lemmas.Iterator.Splits.{YieldsList-from_slice_split}
use Rattle.std.proofs.lemmas.Bool.Decides.{nat_tests}
use Rattle.std.specs.List.{slice_split}
use Rattle.numbers.specs.Numbers.{is_comma, run_in, runs_behind, then_run}
use Rattle.numbers.proofs.Words.{part_comes, no_part_comes}
use Rattle.numbers.proofs.Runs.{no_run_here, one_run, runs_empty, runs_start}
use Rattle.numbers.proofs.run_list.Goals as goal

pub returns-then-is_empty-clause-choices : goal.returns-then-is_empty-clause-choices
returns-then-is_empty-clause-choices c = rw c.new-choices.ensures.items (runs_empty c.args.text.now (search (rules, tests)))

pub loop-word-init : goal.loop-word-init
loop-word-init c = record {
  parts = slice_split is_comma c.args.text.now;
  yields = YieldsList-at c.into_iter-word-iterator.ensures.into_iter_gives
      (YieldsList-from_slice_split _ is_comma c.args.text.now (c.split-word-items.ensures.rest ∙ c.as_bytes.ensures.value) c.split-word-items.ensures.done c.split-word-items.ensures.closure (λ x r q k. search (rules, tests)));
  have = rw c.new-choices.ensures.items (runs_start c.args.text.now (grind (arith, nat_tests)));
}

pub loop-word-preserved : goal.loop-word-preserved
loop-word-preserved c =
    let l = part_comes c.next.new.self c.in-Some.word c.loop-word.invariant c.in-Some.ensures.steps in
    record {
      parts = l.parts;
      yields = l.yields;
      have = sym (one_run c.loop-word.choices.items c.add_run.new.choices.items c.in-Some.word.now l.parts (search rules)) ∙ l.have;
    }

pub returns-in-Err-clause-malformed : goal.returns-in-Err-clause-malformed
returns-in-Err-clause-malformed c =
    let l = part_comes c.next.new.self c.in-Some.word c.loop-word.invariant c.in-Some.ensures.steps in
    λ e. sym l.have ∙ no_run_here c.loop-word.choices.items c.in-Some.word.now l.parts (search rules)

pub returns-clause-choices : goal.returns-clause-choices
returns-clause-choices c = sym (no_part_comes c.next.new.self c.loop-word.invariant c.in-None.ensures.steps)
