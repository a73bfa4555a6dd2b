-- Names with what stands for them.
use Rattle.std.proofs.Common.{◌≡◌, ◌∙◌, ℕ, ◌<◌, Bool, true, false, cond, List, [], ◌∷◌, ◌++◌, length, map, Option, Some, None, refl, sym, ap, arith}
use Rattle.std.specs.Borrow.{Bor}
use Rattle.std.specs.Prelude.{not, ◌&&◌, ◌||◌, ◌==◌, nat_lt}
use Rattle.std.proofs.lemmas.List.{append-nil}
use Rattle.c_grammar.specs.Lexeme.{Lexeme, Reserved, Signed, Worded, Numbered, Strange, Ended, Placed}
use Rattle.c_grammar.specs.Constants.{Names}
use Rattle.c_grammar.specs.Functions.{Called, Counts, Others, Put as SpecPut, Puts as SpecPuts, Spot, lexeme_for, line_begins, put_at, put_for, put_from, put_lexeme, put_line, put_terminal, spot_behind}
use Rattle.directives.specs.declared.lexeme.PlacedLexeme.{PlacedLexeme}
use Rattle.directives.specs.declared.line_tokens.LineTokens.{LineTokens}
use Rattle.directives.specs.Seen.{all_end_well, ends_well, is_empty, is_whole}
use Rattle.directives.specs.Spells.{columns_of, kinds_of}
use Rattle.c_written.specs.declared.puts.Put.{Put}
use Rattle.c_written.specs.Forms.{all_placed}
use Rattle.c_terminals.specs.declared.token.Terminal.{Terminal as Given}
use Rattle.c_terminals.specs.declared.token.Terminal.TheVariants as given
use Rattle.c_written.specs.Functions.{seen_put}
use Rattle.c_terminals.specs.Seen.{seen_terminal}
use Rattle.c_written.specs.Spots.{all_kinds}

abbrev pub all_names : List (Bor (List ℕ)) → Names
all_names xs = map (λ x. x.now) xs

abbrev pub all_puts : List (Bor (List ℕ) × Put) → SpecPuts
all_puts ps = map (λ x. (x.0.now, seen_put x.1)) ps

-- ---- the names of a line

abbrev pub all_columns : List PlacedLexeme → List ℕ
all_columns qs = columns_of (all_placed qs)

-- a line is whole by what its tokens are
abbrev pub all_well : List Lexeme → Bool
all_well [] = true
all_well (t ∷ ts) = ends_well t (is_empty ts) && all_well ts

abbrev pub whole_kinds : List Lexeme → Bool
whole_kinds ts = not (is_empty ts) && all_well ts

pub well_kinds : (ps : List Placed) → all_end_well ps ≡ all_well (kinds_of ps)
well_kinds [] = refl
well_kinds (p ∷ []) = refl
well_kinds (p ∷ q ∷ ps) = ap (λ (b : Bool). ends_well p.lexeme false && b) (well_kinds (q ∷ ps))

pub whole_is : (ps : List Placed) → is_whole ps ≡ whole_kinds (kinds_of ps)
whole_is [] = refl
whole_is (p ∷ ps) = well_kinds (p ∷ ps)

put_ends : (x : List ℕ) (o : Option SpecPut) (b : Bool) → ends_well (lexeme_for x o) b ≡ not b
put_ends x None b = refl
put_ends x (Some (Called y)) b = refl
put_ends x (Some (Counts n)) b = refl

same_end : (ps : SpecPuts) (t : Lexeme) (b : Bool) → ends_well (put_lexeme ps t) b ≡ ends_well t b
same_end ps (Reserved w) b = refl
same_end ps (Signed s) b = refl
same_end ps (Worded x) b = put_ends x (put_for ps x) b
same_end ps (Numbered n) b = refl
same_end ps Strange b = refl
same_end ps Ended b = refl

put_well : (ps : SpecPuts) (s : Spot) (t : Lexeme) (b : Bool) → ends_well (put_at ps s t) b ≡ ends_well t b
put_well ps s t b = go (nat_lt 0 s.left || (s.depth == 0) || not s.names)
  where
    go : (c : Bool) → ends_well (cond c t (put_lexeme ps t)) b ≡ ends_well t b
    go true = refl
    go false = same_end ps t b

well_from : (ps : SpecPuts) (s : Spot) (ts : List Lexeme) → all_well (put_from ps s ts) ≡ all_well ts
well_from ps s [] = refl
well_from ps s (t ∷ []) = ap (λ (b : Bool). b && true) (put_well ps s t true)
well_from ps s (t ∷ u ∷ ts) =
    ap (λ (b : Bool). b && all_well (put_from ps (spot_behind s t (u ∷ ts)) (u ∷ ts))) (put_well ps s t false)
    ∙ ap (λ (b : Bool). ends_well t false && b) (well_from ps (spot_behind s t (u ∷ ts)) (u ∷ ts))

whole_put : (ps : SpecPuts) (ts : List Lexeme) → whole_kinds (put_line ps ts) ≡ whole_kinds ts
whole_put ps [] = refl
whole_put ps (t ∷ ts) = well_from ps line_begins (t ∷ ts)

pub put_whole : (ps : SpecPuts) (qs ts : List PlacedLexeme) (ls : List Placed) (s : Spot) →
    all_kinds qs ++ put_from ps s (all_kinds ts) ≡ put_line ps (kinds_of ls) → length ts < 1 → is_whole ls ≡ true →
    is_whole (all_placed qs) ≡ true
put_whole ps qs [] ls s e h f =
    whole_is (all_placed qs)
    ∙ ap whole_kinds (sym (append-nil (all_kinds qs)) ∙ e)
    ∙ whole_put ps (kinds_of ls) ∙ sym (whole_is ls) ∙ f
put_whole ps qs (t ∷ ts) ls s e h f = absurd (omega (arith, h))

-- ---- what is no name and no line

pub terminal_stays : (ps : SpecPuts) (other : Others) (t : Given) → ((x : Bor (List ℕ)) → t ≡ given.Name x → ⊥) →
    ((l : Bor LineTokens) → t ≡ given.Line l → ⊥) → put_terminal ps other (seen_terminal t) ≡ seen_terminal t
terminal_stays ps other (given.Word w) e f = refl
terminal_stays ps other (given.Sign s) e f = refl
terminal_stays ps other (given.Name x) e f = absurd (e x refl)
terminal_stays ps other (given.Number n) e f = refl
terminal_stays ps other given.BadNumber e f = refl
terminal_stays ps other (given.Line l) e f = absurd (f l refl)
terminal_stays ps other given.Unknown e f = refl
terminal_stays ps other given.Unworked e f = refl
