-- As many bytes are left.
use Rattle.std.proofs.Common.{◌≡◌, ℕ, ◌+◌, List, [], ◌∷◌, length, arith}
use Rattle.std.proofs.lemmas.List.{length-append}
use Rattle.c_lines.specs.declared.lines.Within.{Within}
use Rattle.c_lines.specs.declared.lines.Within.TheVariants.{Start, Plain, Hash, Gap}
use Rattle.c_lines.specs.Spliced.{KeepsLength, behind, bytes_for, feeds_behind, spliced_from}
use Rattle.c_lines.proofs.Feeds.{feeds_len}

-- what stands for a byte, with the line feeds that are left, is one more than there were
for_byte : (at : Within) (k b : ℕ) (bs : List ℕ) → length (bytes_for at k b bs) + feeds_behind at k b ≡ k + 1
unfolding bytes_for feeds_behind
for_byte Start k b bs = grind arith
for_byte Plain k b bs = grind arith
for_byte Hash k b bs = grind (arith, feeds_len k)
for_byte Gap k b bs = grind arith

pub lengths : (bs : List ℕ) (at : Within) (k : ℕ) → length (spliced_from at k bs) ≡ k + length bs
unfolding spliced_from
lengths [] at k = omega (arith, feeds_len k)
lengths (b ∷ bs) at k =
    let front = for_byte at k b bs in
    let rest = lengths bs (behind at b bs) (feeds_behind at k b) in
    let both = length-append (bytes_for at k b bs) (spliced_from (behind at b bs) (feeds_behind at k b) bs) in
    omega (arith, front, rest, both)

pub keeps_length : KeepsLength
keeps_length bytes = omega (arith, lengths bytes Start 0)
