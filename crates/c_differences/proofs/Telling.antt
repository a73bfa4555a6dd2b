-- From the test of a program to what is told of it.
use Rattle.std.proofs.Common.{◌≡◌, ℕ, true, refl, sym, ap, ◌∙◌, List, []}
use Rattle.std.specs.Prelude.{◌==◌, length}
use Rattle.base.specs.declared.tree.Program.{Program}
use Rattle.base.specs.Meaning.{erased}
use Rattle.c_meaning.specs.Programs.{c_erased}
use Rattle.c_meaning.specs.Same.{same_program}
use Rattle.c_meaning.proofs.Statements.{same_erased}
use Rattle.c_differences.specs.declared.told.Differences.{Differences}
use Rattle.c_differences.specs.Told.{AreTold}

pub are_told : (p : Program) (d : Differences) → (d.plain ≡ true → (length d.list.items == 0) ≡ same_program p) →
    AreTold p d
are_told p d exact = record {
  exact = exact;
  same = λ plain none input.
      same_erased p input (sym (exact plain) ∙ ap (λ xs. length xs == 0) none);
}
