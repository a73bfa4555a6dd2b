-- A scalar that a block declares without a value begins as zero.
use Rattle.std.specs.Prelude.{ℕ, ◌==◌, Bool, true, false, not, ◌&&◌, if◌then◌else◌, [], ◌∷◌, ◌++◌, Some}
use Rattle.c_tokens.specs.declared.kind.Sign.TheVariants as sign
use Rattle.c_grammar.specs.Terminal.{Terminal, Mark, Num}
use Rattle.c_grammar.specs.Texts.{Item}
use Rattle.c_grammar.specs.Blocks.{Items, at, bare, is_directive}
use Rattle.c_grammar.specs.Constants.{depth_behind}
use Rattle.c_grammar.specs.Changes.{is_ended}
use Rattle.c_grammar.specs.Counters.{Before, IsType, Other, behind, is_name}

abbrev pub is_behind_type : Before → Bool
is_behind_type IsType = true
is_behind_type b = false

-- in so many blocks, behind such a token: a name without a value
abbrev pub is_unset : ℕ → Before → Item Terminal → Items → Bool
is_unset d b i is = not (d == 0) && (is_behind_type b && (is_name i.terminal && is_ended is))

-- = 0
abbrev pub zero_at : Item Terminal → Items
zero_at i = at i (Mark sign.Equal) ∷ at i (Num (Some 0)) ∷ []

abbrev pub zero_for : ℕ → Before → Item Terminal → Items → Items
zero_for d b i is = if is_unset d b i is then zero_at i else []

abbrev pub zeroed_in : ℕ → Before → Items → Items
zeroed_in d b [] = []
zeroed_in d b (i ∷ is) =
    if is_directive i.terminal then i ∷ zeroed_in d b is
    else i ∷ (zero_for d b i (bare is) ++ zeroed_in (depth_behind i.terminal d) (behind b i) is)

-- all tokens, with these values
abbrev pub zeroed : Items → Items
zeroed is = zeroed_in 0 Other is
