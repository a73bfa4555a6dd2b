-- What is answered where a source is listed.
use Rattle.std.specs.Prelude.{ℕ, List, Option}
use Rattle.std.specs.Io.KnownBytes.{Appends}
use Rattle.base.specs.declared.tree.Program.{Program}
use Rattle.base.specs.Accepted.{IsAccepted}
use Rattle.base.specs.Items.{plan}
use Rattle.c_read.specs.Spells.{Spells}
use Rattle.report.specs.Listing.{list_bytes}

-- a program is accepted, and its items are appended, a line each
pub record AreWritten (program : Program) (old new : Option (List ℕ)) : Type 0 where
  pub accepted : IsAccepted (plan program)
  pub written : Appends old new (list_bytes program)

-- those of the program that the bytes spell
pub record IsListed (bytes : List ℕ) (old new : Option (List ℕ)) : Type 0 where
  pub program : Program
  pub spelled : Spells bytes program
  pub items : AreWritten program old new
