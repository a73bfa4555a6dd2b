-- A target with several constructs, and where in it a token stands.
use Rattle.std.specs.Prelude.{◌≡◌, ◌++◌, ◌∷◌, ℕ, ◌+◌, ◌≤◌, List, Option, Some, None}
use Rattle.c_grammar.specs.Terminal.{Terminal}
use Rattle.c_grammar.specs.Texts.{Item}
use Rattle.c_grammar.specs.Blocks.{Items}
use Rattle.c_grammar.specs.Sequences as sequences
use Rattle.c_grammar.specs.Sequences.{in_parts_from}
use Rattle.c_terminals.specs.Held.{written_all}
use Rattle.c_terminals.specs.Seen.{seen}
use Rattle.c_terminals.specs.declared.held.Written.{Written}
use Rattle.c_written.specs.declared.sequences.At.{At}
use Rattle.c_written.specs.declared.sequences.At.TheVariants as at
use Rattle.c_written.specs.declared.sequences.Next.{Next}
use Rattle.c_written.specs.declared.sequences.Next.TheVariants as next
use Rattle.c_written.specs.declared.sequences.Inside.{Inside}

abbrev pub seen_at : At → sequences.At
seen_at (at.Between n) = sequences.Between n
seen_at (at.Opening n) = sequences.Opening n
seen_at (at.Head n d) = sequences.Head n d
seen_at (at.Passing n d) = sequences.Passing n d

abbrev pub seen_next : Next → sequences.Next
seen_next (next.On a) = sequences.On (seen_at a)
seen_next next.Over = sequences.Over
seen_next next.Stuck = sequences.Stuck

abbrev pub seen_inside : Option Inside → Option sequences.Inside
seen_inside None = None
seen_inside (Some w) = Some (record { target = seen w.target; at = seen_at w.at })

-- how many blocks and parts are open
abbrev pub opens_at : At → ℕ
opens_at (at.Between n) = n
opens_at (at.Opening n) = n
opens_at (at.Head n d) = n + d
opens_at (at.Passing n d) = n + d

abbrev pub opens_in : Option Inside → ℕ
opens_in None = 0
opens_in (Some w) = opens_at w.at

-- no more than so many are
abbrev pub IsWithin : ℕ → Next → Type 0
IsWithin k (next.On a) = opens_at a ≤ k
IsWithin k next.Over = Unit {0}
IsWithin k next.Stuck = Unit {0}

-- what is written in the end, where these tokens follow
abbrev pub with_parts : List Written → Option Inside → Items → Items
with_parts done w is = written_all done ++ in_parts_from (seen_inside w) is
