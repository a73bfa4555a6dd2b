-- Constants that are being worked out.
use Rattle.std.specs.Prelude.{◌≡◌, ℕ, ◌++◌, Bool, false, ◌&&◌, ◌||◌, if◌then◌else◌, List, [], ◌∷◌, drop, Option, Some, None}
use Rattle.c_tokens.specs.declared.kind.Sign.TheVariants as sign
use Rattle.c_grammar.specs.Terminal.{Terminal, Mark, Name, Num, same}
use Rattle.c_grammar.specs.Blocks.{Items}
use Rattle.c_grammar.specs.Expressions.{Values}
use Rattle.c_grammar.specs.Constants.{array_length, constant_value, ends_with, declared, enumerated_value, lengths, worked}
use Rattle.c_written.specs.declared.constants.Constants.{Constants}
use Rattle.c_written.specs.Stack.{item_at}
use Rattle.c_terminals.specs.Held.{written_all}
use Rattle.c_written.specs.Values.{seen_values}
use Rattle.c_terminals.specs.Names.{seen_names}
use Rattle.c_written.specs.Past.{past_of}

-- the number, or the name, that it is
abbrev pub number_in : Terminal → Option ℕ
number_in (Num n) = n
number_in _ = None

abbrev pub name_in : Terminal → Option (List ℕ)
name_in (Name x) = Some x
name_in _ = None

abbrev pub with_number : Option (List ℕ) → Option ℕ → Option (List ℕ × ℕ)
with_number (Some x) (Some n) = Some (x, n)
with_number _ _ = None

abbrev pub name_at : Option Terminal → Option (List ℕ)
name_at None = None
name_at (Some t) = name_in t

abbrev pub number_at : Option Terminal → Option ℕ
number_at None = None
number_at (Some t) = number_in t

-- a name and its number
abbrev pub named_number : Option Terminal → Option Terminal → Option (List ℕ × ℕ)
named_number x n = with_number (name_at x) (number_at n)

abbrev pub with_constant : Option (List ℕ × ℕ) → Values → Values
with_constant None vs = vs
with_constant (Some p) vs = p ∷ vs

-- a constant ends with the token, if its name and number stand before
abbrev pub ends_by : Terminal → List Terminal → Bool
ends_by t ts = (same (Mark sign.Semicolon) t && ends_with constant_value (drop 2 ts)) ||
    ((same (Mark sign.Comma) t || same (Mark sign.CloseBrace) t) && enumerated_value (drop 2 ts))

abbrev pub ends_constant : List Terminal → Bool
ends_constant [] = false
ends_constant (t ∷ ts) = ends_by t (t ∷ ts)

abbrev pub constant_ended : List Terminal → Option (List ℕ × ℕ)
constant_ended ts = if ends_constant ts then named_number (item_at 3 ts) (item_at 1 ts) else None

abbrev pub length_ended : List Terminal → Option (List ℕ × ℕ)
length_ended ts = if ends_with array_length (drop 1 ts) then named_number (item_at 2 ts) (item_at 0 ts) else None

-- the lengths and the names that the tokens so far declare
pub record HasNotes (c : Constants) : Type 0 where
  pub lengths : seen_values c.lengths ≡ lengths (past_of c.past)
  pub names : seen_names c.names ≡ declared (past_of c.past)

-- what is written in the end where these tokens follow
abbrev pub with_constants : Constants → Items → Items
with_constants c is = written_all c.done.items ++ worked (seen_values c.values) (past_of c.past) c.left is

-- the rest, where these tokens follow
abbrev pub behind : Items → Values → List Terminal → ℕ → Items
behind is vs past k = worked vs past k is
