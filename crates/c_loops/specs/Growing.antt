-- What is known of a block of which some tokens were read.
use Rattle.std.specs.Prelude.{⊤, ◌≤◌, Bool, false, if◌then◌else◌}
use Rattle.std.specs.Prelude.{codes}
use Rattle.c_grammar.specs.Terminal.{Terminal}
use Rattle.c_grammar.specs.Texts.{Item}
use Rattle.c_grammar.specs.Blocks.{Items}
use Rattle.std.specs.Prelude.{◌∷◌}
use Rattle.c_grammar.specs.Loops.{Limit, Seen, grows, grows_by, is_word, seen_at, step_at}
use Rattle.c_loops.specs.declared.growth.Within.{Within}
use Rattle.c_loops.specs.declared.growth.Growth.{Growth}
use Rattle.c_loops.specs.declared.growth.Growth.TheVariants.{GoesOn, Ends}

abbrev pub seen_within : Within → Seen
seen_within w = seen_at w.depth w.starts w.grown

-- what comes of the tokens that follow
abbrev pub goes_on : Limit → Items → Growth → Bool
goes_on l is (GoesOn w) = grows l (seen_within w) w.left is
goes_on l is (Ends b) = b

-- no more blocks are open than may be
abbrev pub is_shallow : Growth → Type 0
is_shallow (GoesOn w) = w.depth ≤ 16
is_shallow (Ends b) = ⊤

-- what comes of a token that is no brace, and of those behind it
abbrev pub grows_other : Limit → Seen → Item Terminal → Items → Bool
grows_other l s i is =
    if is_word (codes "continue") i then false
    else grows_by l s i is (step_at l s (i ∷ is)) (λ s k. grows l s k is)
