-- Whether the line of a construct is joined to that of a target.
use Rattle.std.proofs.Common.{◌≡◌, ◌∙◌, ℕ, ◌-◌, ◌≤◌, Bool, true, false, List, [], ◌∷◌, length, take, drop, get_or, refl, sym, ap, arith}
use Rattle.std.specs.Prelude.{◌&&◌}
use Rattle.std.proofs.lemmas.List.{drop-map, take-map}
use Rattle.c_grammar.specs.Lexeme.{Lexeme, Placed}
use Rattle.c_grammar.specs.Lines.{is_omp}
use Rattle.c_grammar.specs.Presence.{is_target}
use Rattle.c_grammar.specs.Nesting.{are_inner, are_own, construct_end, follows, is_own, join_lines, may_follow, name_len, sums_fit}
use Rattle.directives.specs.Seen.{seen_lexeme, seen_placed}
use Rattle.directives.specs.declared.lexeme.PlacedLexeme.{PlacedLexeme}
use Rattle.directives.specs.Spells.{kinds_of}
use Rattle.c_written.specs.Forms.{all_placed}
use Rattle.c_written.specs.Spots.{all_kinds}
use Rattle.c_written.proofs.Joining.{behind_put}

-- ---- a line in two parts

pub kinds_front : (n : ℕ) (ts : List PlacedLexeme) → all_kinds (take n ts) ≡ take n (all_kinds ts)
kinds_front n ts =
    ap kinds_of (sym (take-map seen_placed n ts)) ∙ sym (take-map (λ (p : Placed). p.lexeme) n (all_placed ts))

kinds_rest : (n : ℕ) (ts : List PlacedLexeme) → all_kinds (take (length ts - n) (drop n ts)) ≡ drop n (all_kinds ts)
kinds_rest n ts =
    ap kinds_of (behind_put n ts (take (length ts - n) (drop n ts)) (all_placed ts) refl refl)
    ∙ sym (drop-map (λ (p : Placed). p.lexeme) n (all_placed ts))

-- what is asked of the n words of a name and of what stands behind them
kinds_parts : (n k : ℕ) (ts : List PlacedLexeme) (f : List Lexeme → List Lexeme → Bool) → n ≡ k →
    f (all_kinds (take n ts)) (all_kinds (take (length ts - n) (drop n ts)))
    ≡ f (take k (all_kinds ts)) (drop k (all_kinds ts))
kinds_parts n k ts f e =
    ap (λ (ws : List Lexeme). f ws (all_kinds (take (length ts - n) (drop n ts)))) (kinds_front n ts)
    ∙ ap (f (take n (all_kinds ts))) (kinds_rest n ts)
    ∙ ap (λ (m : ℕ). f (take m (all_kinds ts)) (drop m (all_kinds ts))) e

-- ---- one line

pub own_on : (ts : List PlacedLexeme) (n : ℕ) (b : Bool) → n ≡ name_len (all_kinds ts) →
    b ≡ are_own (all_kinds (take n ts)) 0 (all_kinds (take (length ts - n) (drop n ts))) → b ≡ is_own (all_kinds ts)
own_on ts n b e f =
    f ∙ kinds_parts n (name_len (all_kinds ts)) ts (λ (ws us : List Lexeme). are_own ws 0 us) e

pub follows_on : (w : Lexeme) (ts : List PlacedLexeme) (d : PlacedLexeme) (n : ℕ) (b : Bool) → 1 ≤ length ts →
    may_follow w (seen_lexeme (get_or ts 0 d).lexeme) ≡ true → n ≡ name_len (all_kinds ts) →
    b ≡ are_inner (all_kinds (take n ts)) 0 (all_kinds (take (length ts - n) (drop n ts))) →
    b ≡ follows w (all_kinds ts)
follows_on w [] d n b h m e f = absurd (omega (arith, h))
follows_on w (t ∷ ts) d n b h m e f =
    f
    ∙ kinds_parts n (name_len (all_kinds (t ∷ ts))) (t ∷ ts) (λ (ws us : List Lexeme). are_inner ws 0 us) e
    ∙ sym (rw m refl)

-- ---- two lines

all_four : (a b c d e f : Bool) → a ≡ true → b ≡ true → c ≡ true → d ≡ true → (a && b && c && (d && e && f)) ≡ (e && f)
all_four a b c d e f p q r s = rw (p, q, r, s) refl

kinds_joined : (ts us : List PlacedLexeme) → is_omp (all_kinds ts) ≡ true → is_target (all_kinds ts) ≡ true →
    is_omp (all_kinds us) ≡ true → is_own (all_kinds (take (length ts - 3) (drop 3 ts))) ≡ true →
    (follows (construct_end (all_kinds ts)) (all_kinds (take (length us - 2) (drop 2 us)))
    && sums_fit (all_kinds ts) (all_kinds us))
    ≡ join_lines (all_kinds ts) (all_kinds us)
kinds_joined ts us o t i own =
    ap (λ (xs : List Lexeme). follows (construct_end (all_kinds ts)) xs && sums_fit (all_kinds ts) (all_kinds us))
    (kinds_rest 2 us)
    ∙ sym (all_four (is_omp (all_kinds ts)) (is_target (all_kinds ts)) (is_omp (all_kinds us))
    (is_own (drop 3 (all_kinds ts))) (follows (construct_end (all_kinds ts)) (drop 2 (all_kinds us)))
    (sums_fit (all_kinds ts) (all_kinds us)) o t i (ap is_own (sym (kinds_rest 3 ts)) ∙ own))

-- the last of what is asked of them
pub lines_joined : (ts us : List PlacedLexeme) (ps qs : List Placed) (w : Lexeme) (b c : Bool) → all_placed ts ≡ ps →
    all_placed us ≡ qs → is_omp (kinds_of ps) ≡ true → is_target (all_kinds ts) ≡ true → is_omp (kinds_of qs) ≡ true →
    is_own (all_kinds (take (length ts - 3) (drop 3 ts))) ≡ true → w ≡ construct_end (all_kinds ts) →
    b ≡ follows w (all_kinds (take (length us - 2) (drop 2 us))) →
    c ≡ sums_fit (all_kinds ts) (all_kinds us) → (b && c) ≡ join_lines (kinds_of ps) (kinds_of qs)
lines_joined ts us ps qs w b c e f o t i own g h m =
    ap (λ (x : Bool). x && c) h ∙ ap (λ (x : Bool). follows w (all_kinds (take (length us - 2) (drop 2 us))) && x) m
    ∙ ap (λ (v : Lexeme). follows v (all_kinds (take (length us - 2) (drop 2 us))) && sums_fit (all_kinds ts) (all_kinds us)) g
    ∙ kinds_joined ts us (ap (λ (rs : List Placed). is_omp (kinds_of rs)) e ∙ o) t
    (ap (λ (rs : List Placed). is_omp (kinds_of rs)) f ∙ i) own
    ∙ ap (λ (rs : List Placed). join_lines (kinds_of rs) (all_kinds us)) e
    ∙ ap (λ (rs : List Placed). join_lines (kinds_of ps) (kinds_of rs)) f
