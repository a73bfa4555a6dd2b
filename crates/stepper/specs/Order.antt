-- In which order the turns of the items' kernels go on.
use Rattle.std.specs.Prelude.{ℕ, List}

-- each item's by the same numbers
abbrev pub same_order : List ℕ → ℕ → List ℕ
same_order turns item = turns
