-- The names that tokens are.
use Rattle.std.specs.Prelude.{ℕ, Bool, false, List, [], ◌∷◌, map, reverse, Option, Some, None, if◌then◌else◌}
use Rattle.std.specs.Borrow.{Bor}
use Rattle.c_grammar.specs.Blocks.{Items}
use Rattle.c_grammar.specs.Lexeme.{Uint64}
use Rattle.c_grammar.specs.Terminal.{Terminal, Fixed, Name, same}
use Rattle.c_written.specs.Stack.{item_at}

-- the name that it is
abbrev pub name_at : Option Terminal → Option (List ℕ)
name_at (Some (Name x)) = Some x
name_at _ = None

-- the name that some tokens are, if they are one
abbrev pub name_alone : Items → Option (List ℕ)
name_alone (i ∷ []) = name_at (Some i.terminal)
name_alone is = None

abbrev pub is_uint64 : Option Terminal → Bool
is_uint64 None = false
is_uint64 (Some t) = same (Fixed Uint64) t

-- the name that the last token declares
abbrev pub declared_last : List Terminal → Option (List ℕ)
declared_last ts = if is_uint64 (item_at 1 ts) then name_at (item_at 0 ts) else None

abbrev pub text_in : Option (Bor (List ℕ)) → Option (List ℕ)
text_in None = None
text_in (Some x) = Some x.now

abbrev pub with_name : Option (List ℕ) → List (List ℕ) → List (List ℕ)
with_name None names = names
with_name (Some x) names = x ∷ names
