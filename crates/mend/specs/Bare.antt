-- A text without its directive lines, which go whole.
use Rattle.std.specs.Prelude.{ℕ, zero, suc, ◌+◌, ◌-◌, ◌==◌, Bool, ◌&&◌, ◌||◌, nat_lt, if◌then◌else◌, List, [], ◌∷◌, ◌++◌, Option, Some, None, length, take, drop, slice_index}
use Rattle.std.specs.Option.{option_map_or}
use Rattle.c_tokens.specs.declared.kind.Token.{Token}
use Rattle.c_tokens.specs.Text.{tokens_of}
use Rattle.erasure.specs.Erased.{is_taken}

abbrev pub is_space : ℕ → Bool
is_space b = (b == 32) || ((b == 9) || (b == 13))

-- where the line begins in which the place k is, where nothing but blanks stands before it
abbrev pub start_before : List ℕ → ℕ → Option ℕ
start_before bytes zero = Some 0
start_before bytes (suc k) =
    if slice_index bytes k == 10 then Some (suc k)
    else (if is_space (slice_index bytes k) then start_before bytes k else None)

-- the place behind a line feed that stands there
abbrev pub behind : List ℕ → ℕ → ℕ
behind bytes k = if nat_lt k (length bytes) && (slice_index bytes k == 10) then k + 1 else k

-- from where on and up to where a directive line goes: with the blanks before it and its line feed, or, where something
-- else stands before it, by itself
abbrev pub gap : List ℕ → Token → ℕ × ℕ
gap bytes t = option_map_or (λ start. (start, behind bytes (t.last + 1))) (start_before bytes t.first) (t.first, t.last + 1)

-- the bytes from a place on without the directive lines among these tokens
abbrev pub outside : List ℕ → ℕ → List Token → List ℕ
outside bytes k [] = drop k bytes
outside bytes k (t ∷ ts) =
    if is_taken bytes t then take ((gap bytes t).0 - k) (drop k bytes) ++ outside bytes (gap bytes t).1 ts
    else outside bytes k ts

unfoldable pub without_directives : List ℕ → List ℕ
without_directives bytes = outside bytes 0 (tokens_of bytes)
