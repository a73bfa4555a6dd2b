-- A text without its directives.
use Rattle.std.specs.Prelude.{ℕ, ◌+◌, Bool, ◌&&◌, nat_le, if◌then◌else◌, List, [], ◌∷◌, map}
use Rattle.std.specs.List.{list_any}
use Rattle.c_tokens.specs.declared.kind.Token.{Token}
use Rattle.c_tokens.specs.Text.{tokens_of}
use Rattle.c_grammar.specs.Blocks.{is_directive}
use Rattle.c_grammar.specs.Source.{item_of}
use Rattle.c_grammar.specs.Terminal.{Terminal}
use Rattle.c_grammar.specs.Texts.{Item}

-- the token of the text is a line whose words are pragma omp
abbrev pub is_taken : List ℕ → Token → Bool
is_taken bytes t = is_directive (item_of bytes t).terminal

-- the byte at this place is one of the token's, and the token is such a line
abbrev pub covers : List ℕ → ℕ → Token → Bool
covers bytes k t = is_taken bytes t && (nat_le t.first k && nat_le k t.last)

-- some bytes, of which the first stands at the place k, without those of such lines
abbrev pub uncovered : List ℕ → List Token → ℕ → List ℕ → List ℕ
uncovered bytes ts k [] = []
uncovered bytes ts k (b ∷ bs) =
    if list_any (covers bytes k) ts then uncovered bytes ts (k + 1) bs else b ∷ uncovered bytes ts (k + 1) bs

-- the text without its directive lines; the line feed behind each stays
unfoldable pub erased_text : List ℕ → List ℕ
erased_text bytes = uncovered bytes (tokens_of bytes) 0 bytes

-- the tokens of a text as they stand, with their lines and columns
abbrev pub items_in : List ℕ → List (Item Terminal)
items_in bytes = map (item_of bytes) (tokens_of bytes)
