-- What is told of a source, beside the meaning of its program in C.
use Rattle.std.specs.Prelude.{ℕ, ◌≡◌, ◌==◌, true, List, [], length}
use Rattle.base.specs.declared.tree.Program.{Program}
use Rattle.base.specs.Meaning.{erased}
use Rattle.c_meaning.specs.Programs.{c_erased}
use Rattle.c_meaning.specs.Same.{same_program}
use Rattle.c_differences.specs.declared.told.Differences.{Differences}

-- where each number of the source is a decimal without a suffix, something is told exactly where an expression of the
-- program does not pass the test; so where nothing is told, the program does in C what it does in the language
pub record AreTold (p : Program) (d : Differences) : Type 0 where
  pub exact : d.plain ≡ true → (length d.list.items == 0) ≡ same_program p
  pub same : d.plain ≡ true → d.list.items ≡ [] → (input : List ℕ) → c_erased p input ≡ erased p input
