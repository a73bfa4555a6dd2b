-- What is known where a source is explained.
use Rattle.std.specs.Prelude.{⊤, ℕ, List}
use Rattle.base.specs.declared.tree.Program.{Program}
use Rattle.base.specs.Accepted.{IsAccepted}
use Rattle.base.specs.Items.{plan}
use Rattle.c_read.specs.Spells.{Spells}
use Rattle.mend.specs.Mends.{IsMend}
use Rattle.rendering.specs.declared.told.Remedy.{Remedy}
use Rattle.rendering.specs.declared.told.Remedy.TheVariants as remedy

-- the bytes spell a program that is accepted
pub record SpellsAccepted (bytes : List ℕ) : Type 0 where
  pub program : Program
  pub spelled : Spells bytes program
  pub accepted : IsAccepted (plan program)

-- a change that is shown leads to a text that spells an accepted program, and differs from the bytes in directives alone
abbrev pub IsRemedy : List ℕ → Remedy → Type 0
IsRemedy bytes (remedy.Found mended) = IsMend bytes mended.text.items
IsRemedy bytes _ = ⊤
