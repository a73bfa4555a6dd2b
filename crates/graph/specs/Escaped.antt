-- How the bytes of a text stand in a string of DOT, and where who reads such a string comes to its end.
use Rattle.std.specs.Prelude.{ℕ, ◌≡◌, ◌==◌, ◌↔◌, Bool, true, false, ◌&&◌, ◌||◌, not, if◌then◌else◌, nat_le, nat_lt, List, [], ◌∷◌, ◌++◌, Option, Some, None, codes, flat_map}
use Rattle.std.specs.List.{list_all}
use Rattle.std.specs.Str.{IsUtf8}

-- a byte that cannot be shown: a control character, or part of a text that is not UTF-8
abbrev pub is_no_text : ℕ → Bool → Bool
is_no_text b is_text = (nat_lt b 32 && not (b == 9)) || ((b == 127) || (nat_le 128 b && not is_text))

-- what stands for a byte: 34 is the quotation mark, 92 the backslash, 38 the ampersand
abbrev pub escape_of : Bool → ℕ → List ℕ
escape_of is_text b =
    if b == 34 then 92 ∷ 34 ∷ []
    else (if b == 92 then 92 ∷ 92 ∷ []
    else (if b == 38 then codes "&amp;"
    else (if is_no_text b is_text then 239 ∷ 191 ∷ 189 ∷ []
    else b ∷ [])))

-- each byte of a text is there, or what stands for it
abbrev pub IsEscapeOf : List ℕ → List ℕ → Type 0
IsEscapeOf text bytes = (is_text : Bool) × ((is_text ≡ true) ↔ IsUtf8 bytes) × (text ≡ flat_map (escape_of is_text) bytes)

-- so it is between quotation marks
abbrev pub IsQuoted : List ℕ → List ℕ → Type 0
IsQuoted text bytes = (inner : List ℕ) × (IsEscapeOf inner bytes × (text ≡ 34 ∷ inner ++ 34 ∷ []))

-- what follows the string in which a reader of DOT is: a quotation mark ends it, but for one behind a backslash that is
-- not itself behind one. Whether such a backslash was read just now comes first
abbrev pub behind_string : Bool → List ℕ → Option (List ℕ)
behind_string is_escape [] = None
behind_string true (b ∷ rest) = behind_string false rest
behind_string false (b ∷ rest) = if b == 34 then Some rest else behind_string (b == 92) rest

-- what follows the string that begins here
abbrev pub behind_quoted : List ℕ → Option (List ℕ)
behind_quoted [] = None
behind_quoted (b ∷ rest) = if b == 34 then behind_string false rest else None

-- behind the text the reader is inside the string as before it, whatever follows
abbrev pub StaysInside : List ℕ → Type 0
StaysInside text = (rest : List ℕ) → behind_string false (text ++ rest) ≡ behind_string false rest

-- the text is one string of DOT, and what follows it is outside, whatever it is
abbrev pub IsOneString : List ℕ → Type 0
IsOneString text = (rest : List ℕ) → behind_quoted (text ++ rest) ≡ Some rest

-- no byte is a line feed or a carriage return
abbrev pub is_in_line : ℕ → Bool
is_in_line b = not ((b == 10) || (b == 13))

abbrev pub IsOneLine : List ℕ → Type 0
IsOneLine text = list_all is_in_line text ≡ true
