use Rattle.std.proofs.Common.{◌≡◌, ◌≤◌, length}
use Rattle.numbers.specs.Numbers.{input_of}
use Rattle.numbers.proofs.Words.{Left, input_after}
use Rattle.numbers.proofs.input_numbers.Given as goal

-- the numbers so far and those of the words that are left are those of the input
abbrev pub invariant-loop-word : goal.invariant-loop-word
invariant-loop-word l = record {
  few : length l.numbers.items ≤ 1048576;
  left : Left goal.iterator-loop-word.next_gives l.word-iterator (λ parts. input_after l.numbers.items parts ≡ input_of l.bytes);
}
