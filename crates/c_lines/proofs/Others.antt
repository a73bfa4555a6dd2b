-- A text without a backslash stays as it is.
use Rattle.std.proofs.Common.{◌≡◌, ℕ, Bool, true, false, eqb, List, [], ◌∷◌, refl, ap, arith}
use Rattle.std.specs.Prelude.{⊤, ◌||◌}
use Rattle.std.specs.List.{list_any}
use Rattle.c_lines.specs.declared.lines.Within.{Within}
use Rattle.c_lines.specs.declared.lines.Within.TheVariants.{Start, Plain, Hash, Gap}
use Rattle.c_lines.specs.Spliced.{KeepsOthers, behind, bytes_for, feeds, feeds_behind, is_backslash, spliced_from}

-- no backslash stands right before
abbrev pub IsOpen : Within → Type 0
IsOpen Start = ⊤
IsOpen Plain = ⊤
IsOpen Hash = ⊤
IsOpen Gap = ⊥

one_byte : (at : Within) (b : ℕ) (bs : List ℕ) → IsOpen at → eqb b 92 ≡ false → bytes_for at 0 b bs ≡ b ∷ []
unfolding bytes_for feeds
one_byte Start b bs o h = refl
one_byte Plain b bs o h = refl
one_byte Hash b bs o h = grind (arith, h)
one_byte Gap b bs o h = absurd o

no_feeds : (at : Within) (b : ℕ) → IsOpen at → feeds_behind at 0 b ≡ 0
unfolding feeds_behind
no_feeds Start b o = refl
no_feeds Plain b o = refl
no_feeds Hash b o = grind arith
no_feeds Gap b o = absurd o

still_open : (at : Within) (b : ℕ) (bs : List ℕ) → IsOpen at → eqb b 92 ≡ false → IsOpen (behind at b bs)
unfolding behind
still_open Start b bs o h = grind arith
still_open Plain b bs o h = grind arith
still_open Hash b bs o h = grind (arith, h)
still_open Gap b bs o h = absurd o

either : (a b : Bool) → (a || b) ≡ false → (a ≡ false) × (b ≡ false)
either false b h = (refl, h)
either true b h = absurd (grind (arith, h))

others : (bs : List ℕ) (at : Within) → IsOpen at → list_any is_backslash bs ≡ false → spliced_from at 0 bs ≡ bs
unfolding spliced_from feeds
others [] at o h = refl
others (b ∷ bs) at o h =
    let e = either (eqb b 92) (list_any is_backslash bs) h in
    rw (one_byte at b bs o e.0, no_feeds at b o)
    (ap (λ (l : List ℕ). b ∷ l) (others bs (behind at b bs) (still_open at b bs o e.0) e.1))

pub keeps_others : KeepsOthers
keeps_others bytes h = others bytes Start _ h
