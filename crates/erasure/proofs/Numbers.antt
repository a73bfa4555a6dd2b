-- The number at the front of a word: its size.
use Rattle.std.proofs.Common.{◌≡◌, ℕ, ◌<◌, ◌≤◌, Bool, true, false, cond, List, length, take, drop, Option, Some, None, arith}
use Rattle.std.specs.List.{prefix_len}
use Rattle.std.proofs.lemmas.List.Sums.{prefix_len-le-length}
use Rattle.c_tokens.specs.declared.kind.Kind.TheVariants as kind
use Rattle.c_tokens.specs.declared.kind.Piece.{Piece}
use Rattle.c_tokens.specs.declared.kind.Piece.TheVariants as piece
use Rattle.c_tokens.specs.Piece.{is_digit, is_hex_digit, number_of, hex_number_of, hex_part, is_suffix, is_hexadecimal, decimal_piece, number_in, number_piece}

-- a token that is no line, with at least one byte and no more than there are
abbrev pub IsNumber : ℕ → Piece → Type 0
IsNumber len (piece.Token k n) = (0 < n) × (n ≤ len) × (k ≡ kind.Line → ⊥)
IsNumber len _ = ⊥

no_line : (t : Bool) (n : ℕ) → cond t (kind.Number n) kind.BadNumber ≡ kind.Line → ⊥
no_line true n e = absurd cc
no_line false n e = absurd cc

decimal_no_line : (ds : List ℕ) → number_of ds ≡ kind.Line → ⊥
unfolding number_of
decimal_no_line ds e = no_line _ _ e

hex_no_line : (ds : List ℕ) → hex_number_of ds ≡ kind.Line → ⊥
unfolding hex_number_of
hex_no_line ds e = no_line _ _ e

sized : (t : Bool) (k n : ℕ) → 0 < k → k ≤ n → (0 < cond t n k) × (cond t n k ≤ n)
sized true k n h l = (omega (arith, h, l), omega arith)
sized false k n h l = (h, l)

decimal_is : (word : List ℕ) → 0 < prefix_len is_digit word → IsNumber (length word) (decimal_piece word)
decimal_is word h =
    let both = sized (is_suffix (drop (prefix_len is_digit word) word)) (prefix_len is_digit word) (length word) h (prefix_len-le-length is_digit word) in
    (both.0, both.1, λ e. decimal_no_line (take (prefix_len is_digit word) word) e)

pub number_is : (word : List ℕ) → 0 < prefix_len is_digit word → IsNumber (length word) (number_piece word)
unfolding number_piece
number_is word h = go (hex_part word)
  where
    all : 0 < length word
    all = omega (arith, h, prefix_len-le-length is_digit word)

    go : (o : Option (List ℕ)) → IsNumber (length word) (number_in word o)
    go None = decimal_is word h
    go (Some bs) = pick (is_hexadecimal bs)
      where
        pick : (t : Bool) → IsNumber (length word) (cond t (piece.Token (hex_number_of (take (prefix_len is_hex_digit bs) bs)) (length word)) (decimal_piece word))
        pick true = (all, omega arith, λ e. hex_no_line (take (prefix_len is_hex_digit bs) bs) e)
        pick false = decimal_is word h
