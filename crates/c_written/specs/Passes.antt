-- What is written in the end, where some tokens follow those that were read.
use Rattle.std.specs.Prelude.{◌≡◌, ◌++◌, List, map}
use Rattle.c_grammar.specs.Blocks.{Items, Open, Head, Block, First, Around, Reading, typed, in_blocks}
use Rattle.c_grammar.specs.Prints.{printed}
use Rattle.c_terminals.specs.Seen.{seen_all}
use Rattle.c_written.specs.declared.stack.Stack.{Stack}
use Rattle.c_written.specs.Stack.{held}
use Rattle.c_written.specs.declared.prints.Prints.{Prints}
use Rattle.c_written.specs.declared.types.Types.{Types}
use Rattle.c_written.specs.declared.blocks.Open.{Open as GivenOpen}
use Rattle.c_written.specs.declared.blocks.Open.TheVariants as given
use Rattle.c_written.specs.declared.blocks.Blocks.{Blocks}

abbrev pub with_prints : Prints → Items → Items
with_prints p is = seen_all p.done.items ++ printed p.left is

abbrev pub with_types : Types → Items → Items
with_types t is = seen_all t.done.items ++ typed t.left is

-- ---- blocks

abbrev pub seen_open : GivenOpen → Open
seen_open (given.Head c n) = Head c n
seen_open given.Block = Block
seen_open given.First = First
seen_open given.Around = Around

-- the innermost first
abbrev pub levels_of : Stack GivenOpen → List Open
levels_of os = map seen_open (held os)

abbrev pub reading : Blocks → Reading
reading b = record {
  levels = levels_of b.levels;
  body = b.body;
  declares = b.declares;
  brackets = b.brackets;
  constant = b.constant;
}

-- only what is open, and what is written, is another
pub record IsRead (old new : Blocks) : Type 0 where
  pub body : new.body ≡ old.body
  pub declares : new.declares ≡ old.declares
  pub brackets : new.brackets ≡ old.brackets
  pub constant : new.constant ≡ old.constant

abbrev pub with_blocks : Blocks → Items → Items
with_blocks b is = seen_all b.done.items ++ in_blocks (reading b) is
