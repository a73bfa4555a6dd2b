-- Texts that differ in their directive lines alone.
use Rattle.std.specs.Prelude.{◌≡◌, ◌≤◌, ℕ, List, length, map}
use Rattle.base.specs.declared.tree.Program.{Program}
use Rattle.base.specs.Meaning.{erased, lengths_of}
use Rattle.c_grammar.specs.Blocks.{bare}
use Rattle.c_grammar.specs.Grammar.{Text}
use Rattle.c_grammar.specs.Source.{max_source}
use Rattle.c_source.specs.Source.{Spells as SpellsText}
use Rattle.c_grammar.specs.Terminal.{Terminal}
use Rattle.c_grammar.specs.Texts.{Item}
use Rattle.c_read.specs.Spells.{Spells}
use Rattle.erasure.specs.Erased.{erased_text, items_in}
use Rattle.erased_meaning.specs.Laws.{SameRun, IsErased}
use Rattle.mend.specs.Bare.{without_directives}

-- a token without its line
abbrev pub unlined : Item Terminal → Item Terminal
unlined i = record { terminal = i.terminal; line = 0; column = i.column; columns = i.columns }

-- the tokens of a text that are no directive lines, as they stand, with their columns and without their lines
abbrev pub bare_tokens : List ℕ → List (Item Terminal)
bare_tokens bytes = map unlined (bare (items_in bytes))

-- arrays of the same lengths, and the same numbers printed, memory of these and input left without directives
pub record RunAlike (p q : Program) : Type 0 where
  pub lengths : lengths_of p ≡ lengths_of q
  pub runs : (input : List ℕ) → SameRun (length (lengths_of p)) (erased p input) (erased q input)

-- deleting whole directive lines leaves the other tokens
abbrev pub BareTokensStay : Type 0
BareTokensStay = (bytes : List ℕ) → bare_tokens (without_directives bytes) ≡ bare_tokens bytes

-- of two texts that are the same without directives, as a mend and its source, a program of the second text without
-- directives does what one of the first does without its directives
abbrev pub MendErases : Type 0
MendErases =
    (a b : List ℕ) (p q : Program) → without_directives a ≡ without_directives b → Spells a p
    → Spells (erased_text b) q → IsErased p q

-- and the second without directives is a text that keeps all rules, unless it is too long
abbrev pub SourceIsText : Type 0
SourceIsText =
    (a b : List ℕ) (p : Program) → without_directives a ≡ without_directives b → Spells a p → length b ≤ max_source
    → (t : Text) × SpellsText (erased_text b) t

-- programs of both without directives do the same
abbrev pub SameTextRuns : Type 0
SameTextRuns =
    (a b : List ℕ) (p q : Program) → without_directives a ≡ without_directives b → Spells (erased_text a) p
    → Spells (erased_text b) q → RunAlike p q
