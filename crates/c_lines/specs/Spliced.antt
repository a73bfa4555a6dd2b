-- Lines that begin with # and go on behind a backslash at their end: C joins such lines before it reads their tokens
-- (ISO C, 5.1.1.2, phase 2).
use Rattle.std.specs.Prelude.{ℕ, zero, suc, ◌+◌, Bool, false, ◌||◌, ◌&&◌, ◌==◌, ◌≡◌, if◌then◌else◌, List, [], ◌∷◌, ◌++◌, length}
use Rattle.std.specs.List.{list_any}
use Rattle.c_tokens.specs.Piece.{is_blank, is_include}
use Rattle.c_lines.specs.declared.lines.Within.{Within}
use Rattle.c_lines.specs.declared.lines.Within.TheVariants.{Start, Plain, Hash, Gap}

abbrev pub begins_feed : List ℕ → Bool
begins_feed [] = false
begins_feed (b ∷ bs) = b == 10

-- a line feed stands there, or a carriage return with one behind it
abbrev pub ends_line : List ℕ → Bool
ends_line [] = false
ends_line (b ∷ bs) = (b == 10) || ((b == 13) && begins_feed bs)

-- the line goes on behind a byte that others follow
abbrev pub is_break : ℕ → List ℕ → Bool
is_break b bs = (b == 92) && ends_line bs

-- where the byte behind one stands
unfoldable pub behind : Within → ℕ → List ℕ → Within
behind Start b bs = if b == 35 then (if is_include bs then Plain else Hash) else (if is_blank b then Start else Plain)
behind Plain b bs = if b == 10 then Start else Plain
behind Hash b bs = if is_break b bs then Gap else (if b == 10 then Start else Hash)
behind Gap b bs = if b == 10 then Hash else Gap

-- how many line feeds of the line are still to stand at its end
unfoldable pub feeds_behind : Within → ℕ → ℕ → ℕ
feeds_behind Start k b = k
feeds_behind Plain k b = k
feeds_behind Hash k b = if b == 10 then 0 else k
feeds_behind Gap k b = if b == 10 then k + 1 else k

unfoldable pub feeds : ℕ → List ℕ
feeds zero = []
feeds (suc k) = 10 ∷ feeds k

-- what stands for a byte
unfoldable pub bytes_for : Within → ℕ → ℕ → List ℕ → List ℕ
bytes_for Start k b bs = b ∷ []
bytes_for Plain k b bs = b ∷ []
bytes_for Hash k b bs = if is_break b bs then 32 ∷ [] else (if b == 10 then 10 ∷ feeds k else b ∷ [])
bytes_for Gap k b bs = if b == 10 then [] else 32 ∷ []

unfoldable pub spliced_from : Within → ℕ → List ℕ → List ℕ
spliced_from at k [] = feeds k
spliced_from at k (b ∷ bs) = bytes_for at k b bs ++ spliced_from (behind at b bs) (feeds_behind at k b) bs

-- the text in which each such line is one: a blank stands for each backslash with which it goes on, and the line feeds
-- stand behind the line, so that all that follows keeps its place
abbrev pub spliced : List ℕ → List ℕ
spliced bytes = spliced_from Start 0 bytes

abbrev pub is_backslash : ℕ → Bool
is_backslash b = b == 92

-- it has as many bytes
abbrev pub KeepsLength : Type 0
KeepsLength = (bytes : List ℕ) → length (spliced bytes) ≡ length bytes

-- a text without a backslash is itself
abbrev pub KeepsOthers : Type 0
KeepsOthers = (bytes : List ℕ) → list_any is_backslash bytes ≡ false → spliced bytes ≡ bytes
