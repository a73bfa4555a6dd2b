-- A name as a shell takes it.
use Rattle.std.specs.Prelude.{ℕ, ◌==◌, Bool, false, ◌||◌, ◌&&◌, if◌then◌else◌, nat_le, List, [], ◌∷◌, ◌++◌, codes, length}
use Rattle.std.specs.List.{prefix_len}

-- what stands for itself outside quotation marks: letters, digits, some signs (+ , - . / : _), and what is not ASCII
abbrev pub is_plain : ℕ → Bool
is_plain b = (nat_le 97 b && nat_le b 122) || (nat_le 65 b && nat_le b 90) || (nat_le 43 b && nat_le b 58) || (b == 95) || nat_le 128 b

-- between quotation marks, of which one in the name stands outside, behind a backslash
abbrev pub quoted_byte : ℕ → List ℕ
quoted_byte b = if b == 39 then codes "'\\''" else b ∷ []

abbrev pub quoted : List ℕ → List ℕ
quoted [] = []
quoted (b ∷ bs) = quoted_byte b ++ quoted bs

abbrev pub shell_word : List ℕ → List ℕ
shell_word name = if prefix_len is_plain name == length name then name else codes "'" ++ (quoted name ++ codes "'")

-- a name that could be taken for an option
abbrev pub is_dashed : List ℕ → Bool
is_dashed [] = false
is_dashed (b ∷ bs) = b == 45
