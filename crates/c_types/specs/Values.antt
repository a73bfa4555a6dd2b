-- Values so far, as the definition has them.
use Rattle.std.specs.Prelude.{◌≡◌, Bool, true, List, ◌∷◌, map, reverse, Option, Some, None}
use Rattle.c_tokens.specs.declared.kind.Sign.TheVariants as sign
use Rattle.c_grammar.specs.Terminal.{Terminal}
use Rattle.c_grammar.specs.Texts.{Item}
use Rattle.c_grammar.specs.Blocks.{Items}
use Rattle.c_grammar.specs.Constants.{is_mark}
use Rattle.c_grammar.specs.Types as spec
use Rattle.c_grammar.specs.Types.{Found, value_from}
use Rattle.c_types.specs.declared.values.Part.{Part}
use Rattle.c_types.specs.declared.values.Value.{Value}

abbrev pub seen_part : Part → spec.Part
seen_part p = record { rank = p.rank; alone = p.alone; before = p.before }

-- the innermost first
abbrev pub all_parts : List Part → List spec.Part
all_parts ps = reverse (map seen_part ps)

-- the value that goes on with these tokens is small
abbrev pub value_rest : Found → Value → Items → Bool
value_rest f v is = value_from f (all_parts v.outer.items) (seen_part v.part) v.skips v.named is

-- the answer, or else that
abbrev pub answered : Option Bool → Bool → Bool
answered None b = b
answered (Some a) b = a

-- behind a closing bracket, where nothing is skipped, the first value goes on as the second, or ends with the answer
abbrev pub Closes : Value → Value → Option Bool → Type 0
Closes v w o =
    (f : Found) (i : Item Terminal) (is : Items) → v.skips ≡ 0 → is_mark sign.CloseParen i ≡ true →
    value_rest f v (i ∷ is) ≡ answered o (value_rest f w is)
