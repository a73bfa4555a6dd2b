-- The tokens of a source, its first fault, and the tree that it spells.
use Rattle.std.specs.Prelude.{◌≡◌, ℕ, ◌<◌, ◌≤◌, nat_lt, if◌then◌else◌, List, [], ◌∷◌, ◌++◌, length, map, Option, Some}
use Rattle.base.specs.declared.fault.ReadCode.TheVariants.{TooMany}
use Rattle.base.specs.declared.fault.TextFault.{TextFault}
use Rattle.c_tokens.specs.Text.{tokens_of}
use Rattle.c_grammar.specs.Terminal.{Terminal}
use Rattle.c_grammar.specs.Texts.{Item, IsFirst, Spelled}
use Rattle.c_grammar.specs.Machine.{run}
use Rattle.c_grammar.specs.Grammar.{Text}
use Rattle.c_grammar.specs.Rules.{Rule, begin, source_grammar}
use Rattle.c_grammar.specs.Program.{source_machine, start as first_stack}
use Rattle.c_grammar.specs.Source as forms
use Rattle.c_grammar.specs.Source.{item_of, end_of, fault_of, found_fault, max_source}
use Rattle.c_ints.specs.Ints.{widened}
use Rattle.c_temporaries.specs.Temporaries.{in_place}

-- the tokens with all that C lets be left out, then with the values of temporaries in their places, and then with uint64_t for
-- the types of scalars whose values are small
abbrev pub written_out : List (Item Terminal) → List (Item Terminal)
written_out is = widened (in_place (forms.written_out is))

-- the tokens of a text, written out, and its end
abbrev pub items_of : List ℕ → List (Item Terminal)
items_of bytes = written_out (map (item_of bytes) (tokens_of bytes)) ++ end_of bytes ∷ []

-- ---- faults

-- the fault that the machine finds
abbrev pub fault_in : List ℕ → Option TextFault
fault_in bytes = found_fault (run source_grammar source_machine begin first_stack (items_of bytes))

-- the first fault of a source: its length comes before all else
pub record IsFirstFault (bytes : List ℕ) (f : TextFault) : Type 0 where
  pub long : max_source < length bytes → f ≡ record { code = TooMany; line = 1; column = 1 }
  pub other : length bytes ≤ max_source →
      (i : Item Terminal) × (r : Rule) × (f ≡ fault_of i r) × IsFirst source_grammar (items_of bytes) i r

-- the source spells the tree
pub record Spells (bytes : List ℕ) (t : Text) : Type 0 where
  pub short : length bytes ≤ max_source
  pub spelled : Spelled source_grammar (items_of bytes) t

-- what a reader is to answer of it: a fault, or none
unfoldable pub answer : List ℕ → Option TextFault
answer bytes = if nat_lt max_source (length bytes) then Some
    (record { code = TooMany; line = 1; column = 1 }) else fault_in bytes
