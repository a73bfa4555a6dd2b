-- What is known of a source that is read and checked once, and may be run often.
use Rattle.std.specs.Prelude.{ℕ, ◌≤◌, List, length}
use Rattle.base.specs.declared.tree.ArrayId.{ArrayId}
use Rattle.base.specs.declared.tree.Program.{Program}
use Rattle.base.specs.Items.{plan}
use Rattle.base.specs.Limits.{most_items}
use Rattle.c_read.specs.Spells.{Spells}
use Rattle.stepper.specs.Answering.{AreShown}

-- the bytes spell the program, and an answer shows these arrays
pub record IsLoaded (bytes : List ℕ) (p : Program) (arrays : List ArrayId) : Type 0 where
  pub spelled : Spells bytes p
  pub few : length (plan p).items ≤ most_items
  pub shown : AreShown p arrays
