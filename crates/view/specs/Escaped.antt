-- How the bytes of a text stand in a page.
use Rattle.std.specs.Prelude.{ℕ, ◌≡◌, ◌==◌, Bool, true, ◌&&◌, ◌||◌, not, if◌then◌else◌, nat_le, nat_lt, List, [], ◌∷◌, codes, flat_map}
use Rattle.std.specs.List.{list_all}

-- a byte that cannot be shown: a control character, or part of a text that is not UTF-8
abbrev pub is_no_text : ℕ → Bool → Bool
is_no_text b is_text = (nat_lt b 32 && not (b == 9)) || ((b == 127) || (nat_le 128 b && not is_text))

-- what stands for a byte
abbrev pub escape_of : Bool → ℕ → List ℕ
escape_of is_text b =
    if b == 38 then codes "&amp;"
    else (if b == 60 then codes "&lt;"
    else (if b == 62 then codes "&gt;"
    else (if b == 34 then codes "&quot;"
    else (if b == 39 then codes "&#39;"
    else (if is_no_text b is_text then codes "&#65533;"
    else b ∷ [])))))

-- each byte of a text is there, or what stands for it
abbrev pub IsEscapeOf : List ℕ → List ℕ → Type 0
IsEscapeOf text bytes = (is_text : Bool) × (text ≡ flat_map (escape_of is_text) bytes)

-- a byte that neither begins nor ends a tag or an attribute
abbrev pub is_harmless : ℕ → Bool
is_harmless b = not ((b == 60) || ((b == 62) || ((b == 34) || (b == 39))))

-- so it is for each byte
abbrev pub IsHarmless : List ℕ → Type 0
IsHarmless text = list_all is_harmless text ≡ true
