use Rattle.std.proofs.Common.{◌≡◌, ◌^◌}
use Rattle.numbers.specs.Numbers.{runs_behind, runs_of}
use Rattle.numbers.proofs.Words.{Left}
use Rattle.numbers.proofs.run_list.Given as goal

-- the choices so far and the runs of the parts that are left are those of the text
abbrev pub invariant-loop-word : goal.invariant-loop-word
invariant-loop-word l = Left goal.iterator-loop-word.next_gives l.word-iterator (λ parts. runs_behind l.choices.items parts ≡ runs_of l.text)
