use Rattle.std.proofs.Common.{◌≡◌, ◌^◌}
use Rattle.numbers.specs.Numbers.{choices_of}
use Rattle.numbers.proofs.Words.{Left, after}
use Rattle.numbers.proofs.choice_list.Given as goal

-- the choices so far and those of the parts that are left are those of the text
abbrev pub invariant-loop-word : goal.invariant-loop-word
invariant-loop-word l = Left goal.iterator-loop-word.next_gives l.word-iterator (λ parts. after (2 ^ 32) l.choices.items parts ≡ choices_of l.text)
