-- What a text without its directives means.
use Rattle.std.specs.Prelude.{◌≡◌, ◌<◌, ℕ, List, [], ◌∷◌, ◌++◌, length, Option, Some, None}
use Rattle.base.specs.declared.item.Cell.{Cell}
use Rattle.base.specs.declared.tree.Part.{Part}
use Rattle.base.specs.declared.tree.Part.TheVariants as part
use Rattle.base.specs.declared.tree.Program.{Program}
use Rattle.base.specs.Meaning.{Plain, erased, lengths_of}
use Rattle.c_read.specs.Spells.{Spells}
use Rattle.erasure.specs.Erased.{erased_text}

-- the same numbers printed, the same memory of so many arrays and the same input left. What locals hold is left out: a
-- target's are not seen from outside
pub record SameEnd (arrays : ℕ) (s t : Plain) : Type 0 where
  pub memory : (c : Cell) → c.array.0 < arrays → s.memory c ≡ t.memory c
  pub input : s.input ≡ t.input
  pub printed : s.printed ≡ t.printed

-- both name a cell that is not there, or they end so
abbrev pub SameRun : ℕ → Option Plain → Option Plain → Type 0
SameRun arrays None None = Unit {0}
SameRun arrays (Some s) (Some t) = SameEnd arrays s t
SameRun arrays _ _ = ⊥

-- no directive: at most one part, a region of the host
abbrev pub IsOneRegion : List Part → Type 0
IsOneRegion [] = Unit {0}
IsOneRegion (part.Host r ∷ []) = Unit {0}
IsOneRegion _ = ⊥

-- a program of the text without directives has none, and does what a program of the text does without its directives,
-- which may have more arrays behind those: of its boxed scalars
pub record IsErased (p q : Program) : Type 0 where
  pub plain : IsOneRegion q.body.items
  pub boxes : List ℕ
  pub lengths : lengths_of p ≡ lengths_of q ++ boxes
  pub runs : (input : List ℕ) → SameRun (length (lengths_of q)) (erased p input) (erased q input)

abbrev pub ErasedTextRuns : Type 0
ErasedTextRuns = (bytes : List ℕ) (p q : Program) → Spells bytes p → Spells (erased_text bytes) q → IsErased p q
