-- What is asked of a scalar beside a body.
use Rattle.std.specs.Prelude.{ℕ, Bool, not, List}
use Rattle.base.specs.declared.tree.Stmt.{Stmt}
use Rattle.base.specs.ScalarUse.{list_needs}
use Rattle.spans.specs.declared.scalars.Asked.{Asked}
use Rattle.spans.specs.declared.scalars.Asked.TheVariants.{Needed, Loose}
use Rattle.spans.specs.Spans.{list_sure}

-- the body needs it, or does not assign it for certain
abbrev pub asks : Asked → ℕ → List Stmt → Bool
asks Needed x body = list_needs x body
asks Loose x body = not (list_sure x body)
