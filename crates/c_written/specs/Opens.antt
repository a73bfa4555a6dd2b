-- What is open.
use Rattle.std.specs.Prelude.{Bool, true, false, List, ◌∷◌}
use Rattle.c_grammar.specs.Blocks.{Open as SpecOpen, First}
use Rattle.c_written.specs.declared.blocks.Open.{Open}
use Rattle.c_written.specs.declared.blocks.Open.TheVariants as opens

abbrev pub is_head : Open → Bool
is_head (opens.Head c n) = true
is_head _ = false

abbrev pub is_first : Open → Bool
is_first opens.First = true
is_first _ = false

abbrev pub is_around : Open → Bool
is_around opens.Around = true
is_around _ = false

-- it is not closed with a statement that ends
abbrev pub stays : Bool → Open → Bool
stays other (opens.Head c n) = true
stays other opens.Block = true
stays other opens.First = other
stays other opens.Around = false

-- a first branch is open
abbrev pub is_first_branch : List SpecOpen → Bool
is_first_branch (First ∷ os) = true
is_first_branch _ = false
