-- Turns of a loop.
use Rattle.std.specs.Prelude.{ℕ, List, [], ◌∷◌, ◌++◌, drop, map, take, ◌+◌, Option, Some, None, if◌then◌else◌}
use Rattle.c_tokens.specs.declared.kind.Sign.TheVariants as sign
use Rattle.c_grammar.specs.Terminal.{Terminal, Mark}
use Rattle.c_grammar.specs.Texts.{Item}
use Rattle.c_grammar.specs.Blocks.{Items, at}
use Rattle.c_grammar.specs.Triangles.{Loop, len}
use Rattle.c_grammar.specs.Locals.{Put, State, body_len, is_unrolled, numbers_of, put_len, turns, turns_put, with_number}

abbrev pub all_with : List ℕ → ℕ → Items → Items
all_with x n is = map (with_number x n) is

-- one turn, in a block
abbrev pub turn : Item Terminal → List ℕ → ℕ → Items → Items
turn i x n is = at i (Mark sign.OpenBrace) ∷ (all_with x n is ++ at i (Mark sign.CloseBrace) ∷ [])

-- all turns, in a block
abbrev pub turns_in_block : Item Terminal → List ℕ → Items → List ℕ → Items
turns_in_block i x is ns = at i (Mark sign.OpenBrace) ∷ (turns i x is ns ++ at i (Mark sign.CloseBrace) ∷ [])

-- the numbers of the name in these turns, not written out
unfoldable pub turn_numbers : Loop → List ℕ
turn_numbers l = numbers_of l

-- how many tokens have been put in then, where it is unrolled
abbrev pub used_behind : State → List ℕ → Items → List ℕ → Option ℕ
used_behind s x is ns = if is_unrolled s x is ns then Some (s.used + put_len is ns) else None

-- what stands for the loop, with its numbers not written out
abbrev pub unrolled_body : State → Item Terminal → Loop → Items → Option ℕ → Option Put
unrolled_body s i l is None = None
unrolled_body s i l is (Some n) = turns_put s i l (take n is) (turn_numbers l)

abbrev pub unrolled_loop : State → Item Terminal → Items → Option Loop → Option Put
unrolled_loop s i is None = None
unrolled_loop s i is (Some l) = (let js : Items = drop (len l) is in unrolled_body s i l js (body_len 0 0 js))
