-- What a run by choices is to answer.
use Rattle.std.specs.Prelude.{ℕ, ◌≡◌, List, Some, map, filter, length, slice_index}
use Rattle.std.specs.List.{range_with_len}
use Rattle.base.specs.declared.item.Answer.{Answer}
use Rattle.base.specs.declared.tree.Program.{Program}
use Rattle.base.specs.Memory.{Memory}
use Rattle.base.specs.Meaning.{Plain, erased, lengths_of, output_of}
use Rattle.base.specs.Items.{plan}
use Rattle.base.specs.Map.{Fill}
use Rattle.base.specs.Machine.{State, HasEnded, run_by_choices}
use Rattle.base.specs.Current.{is_marked}
use Rattle.base.specs.Headline.{IsFill}

-- the values of the first n cells of an array
abbrev pub array_values : Memory → ℕ → ℕ → List ℕ
array_values memory a n = map (λ k. memory (record { array = record { 0 = a }; index = k })) (range_with_len 0 n)

-- the values of the arrays marked current, in order of declaration
abbrev pub marked_values : Program → Memory → List (ℕ × List ℕ)
marked_values p memory =
    map (λ a. (a, array_values memory a (slice_index (lengths_of p) a)))
    (filter (is_marked (plan p)) (range_with_len 0 (length (lengths_of p))))

abbrev pub finals_in : Answer → List (ℕ × List ℕ)
finals_in a = map (λ f. (f.0.0, f.1.items)) a.finals.items

-- the answer is right: its history is the run by these choices of the two-memory machine, which ends; its output is
-- that of the erased program; and its finals are the erased program's values of the arrays marked current
pub record IsAnswer (p : Program) (input choices : List ℕ) (a : Answer) : Type 0 where
  pub fill : ℕ → Fill
  pub is_fill : IsFill fill
  pub end : State
  pub ran : run_by_choices (plan p) fill input choices ≡ record { history = a.history.items; state = Some end }
  pub ended : HasEnded (plan p) end
  pub plain : Plain
  pub is_erased : erased p input ≡ Some plain
  pub output : a.out.items ≡ output_of plain.printed
  pub finals : finals_in a ≡ marked_values p plain.memory
