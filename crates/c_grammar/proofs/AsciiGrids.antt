-- Where arrays of two dimensions and of three are written out, no name changes.
use Rattle.std.proofs.Common.{ℕ, zero, suc, ◌*◌, Bool, true, false, cond, [], ◌∷◌, take, drop, Option, Some, None}
use Rattle.std.specs.Prelude.{◌&&◌, ◌||◌}
use Rattle.c_tokens.specs.declared.kind.Sign.TheVariants as sign
use Rattle.c_grammar.specs.Lexeme.{Uint64}
use Rattle.c_grammar.specs.Terminal.{Terminal, Fixed, Mark, Name, Num, Line, Unknown, Unworked, End, same}
use Rattle.c_grammar.specs.Texts.{Item}
use Rattle.c_grammar.specs.Blocks.{Items, bare, is_directive}
use Rattle.c_grammar.specs.Changes.{is_mark}
use Rattle.c_grammar.specs.Constants.{with_tokens}
use Rattle.c_grammar.specs.Expressions.{placed_of, value_of}
use Rattle.c_grammar.specs.Lines.{is_omp}
use Rattle.c_grammar.specs.Functions.{index_len}
use Rattle.c_grammar.specs.Grids.{Declared, Elsewhere, Grids, Onward, Open, Ranges, added_on, closing_on, declared, declared_on, flat, flat_declaration, flat_line, flat_on, grid_on, has_second, in_rows, is_row, named_on, row_begins, row_ends, second_len, token_on}
use Rattle.c_grammar.specs.AsciiNames.{IsAsciiTerminal}
use Rattle.c_grammar.proofs.AsciiTokens.{AreItemsText, bare_text, both_text, chosen_text}
use Rattle.c_grammar.proofs.AsciiCalls.{drop_text, take_text}

abbrev AreText : Onward → Type 0
AreText go = (gs : Grids) (rs : Ranges) (os : Open) (k : ℕ) → AreItemsText (go gs rs os k)

declaration_text : (cells : ℕ) (is : Items) → AreItemsText is → AreItemsText (flat_declaration cells is)
declaration_text cells [] h = tt
declaration_text cells (x ∷ []) h = tt
declaration_text cells (x ∷ o ∷ []) h = tt
declaration_text cells (x ∷ o ∷ n ∷ []) h = tt
declaration_text cells (x ∷ o ∷ n ∷ c ∷ is) h = (h.0, (h.1.0, (tt, (h.1.1.1.0, tt))))

declared_text : (gs : Grids) (rs : Ranges) (os : Open) (i : Item Terminal) (is : Items) (d : Option Declared) (go : Onward) →
    IsAsciiTerminal i.terminal → AreItemsText is → AreText go → AreItemsText (declared_on gs rs os i is d go)
declared_text gs rs os i is None go h p r = (h, r _ _ _ _)
declared_text gs rs os i is (Some d) go h p r =
    (h, both_text (flat_declaration (d.rows * d.columns) is) _ (declaration_text (d.rows * d.columns) is p) (r _ _ _ _))

grid_text : (deep : Bool) (gs : Grids) (rs : Ranges) (os : Open) (i : Item Terminal) (is : Items) (m : Option ℕ) (go : Onward) →
    IsAsciiTerminal i.terminal → AreItemsText is → AreText go → AreItemsText (grid_on deep gs rs os i is m go)
grid_text deep gs rs os i [] m go h p r = (h, r _ _ _ _)
grid_text deep gs rs os i (o ∷ is) None go h p r = (h, r _ _ _ _)
grid_text deep gs rs os i (o ∷ is) (Some m) go h p r =
    chosen_text (is_mark sign.OpenBracket o && has_second rs m (o ∷ is) (index_len 0 0 (o ∷ is))) _ _
    (h, both_text (row_begins m o) (go gs rs (Some m ∷ os) 1) (p.0, (tt, (tt, (tt, tt)))) (r _ _ _ _))
    (chosen_text (is_mark sign.OpenBracket o && (deep || is_row (o ∷ is) (index_len 0 0 (o ∷ is)))) _ _ (h, (h, r _ _ _ _)) (h, r _ _ _ _))

named_text : (deep : Bool) (gs : Grids) (rs : Ranges) (os : Open) (i : Item Terminal) (t : Terminal) (is : Items) (go : Onward) →
    IsAsciiTerminal i.terminal → AreItemsText is → AreText go → AreItemsText (named_on deep gs rs os i t is go)
named_text deep gs rs os i (Name x) is go h p r = grid_text deep gs rs os i is (value_of gs x) go h p r
named_text deep gs rs os i (Line ts) is go h p r = (h, r _ _ _ _)
named_text deep gs rs os i (Fixed w) is go h p r = (h, r _ _ _ _)
named_text deep gs rs os i (Mark s) is go h p r = (h, r _ _ _ _)
named_text deep gs rs os i (Num n) is go h p r = (h, r _ _ _ _)
named_text deep gs rs os i Unknown is go h p r = (h, r _ _ _ _)
named_text deep gs rs os i Unworked is go h p r = (h, r _ _ _ _)
named_text deep gs rs os i End is go h p r = (h, r _ _ _ _)

added_text : (gs : Grids) (rs : Ranges) (os : Open) (i : Item Terminal) (is : Items) (k : Option ℕ) (go : Onward) →
    IsAsciiTerminal i.terminal → AreItemsText is → AreText go → AreItemsText (added_on gs rs os i is k go)
added_text gs rs os i is None go h p r = (h, r _ _ _ _)
added_text gs rs os i is (Some k) go h p r =
    both_text (row_ends i k is) _
    (tt, (tt, (tt, both_text (take k (drop 1 is)) _ (take_text k (drop 1 is) (drop_text 1 is p)) (tt, (h, tt))))) (r _ _ _ _)

closing_text : (gs : Grids) (rs : Ranges) (os : Open) (i : Item Terminal) (is : Items) (go : Onward) →
    IsAsciiTerminal i.terminal → AreItemsText is → AreText go → AreItemsText (closing_on gs rs os i is go)
closing_text gs rs [] i is go h p r = (h, r _ _ _ _)
closing_text gs rs (None ∷ os) i is go h p r = (h, r _ _ _ _)
closing_text gs rs (Some m ∷ os) i is go h p r = added_text gs rs os i is (second_len rs m is) go h p r

token_text : (deep : Bool) (gs : Grids) (rs : Ranges) (os : Open) (i : Item Terminal) (is : Items) (go : Onward) →
    IsAsciiTerminal i.terminal → AreItemsText is → AreText go → AreItemsText (token_on deep gs rs os i is go)
token_text deep gs rs os i is go h p r =
    chosen_text (same (Fixed Uint64) i.terminal) _ _ (declared_text gs rs os i is (declared deep is) go h p r)
    (chosen_text (is_mark sign.OpenBracket i) _ _ (h, r _ _ _ _)
    (chosen_text (is_mark sign.CloseBracket i) _ _ (closing_text gs rs os i is go h p r)
    (named_text deep gs rs os i i.terminal is go h p r)))

on_text : (deep : Bool) (k : ℕ) (gs : Grids) (rs : Ranges) (os : Open) (i : Item Terminal) (is : Items) (go : Onward) →
    IsAsciiTerminal i.terminal → AreItemsText is → AreText go → AreItemsText (flat_on deep gs rs os k i is go)
on_text deep zero gs rs os i is go h p r = token_text deep gs rs os i is go h p r
on_text deep (suc k) gs rs os i is go h p r = r _ _ _ _

row_line_text : (gs : Grids) (i : Item Terminal) (t : Terminal) → IsAsciiTerminal i.terminal →
    IsAsciiTerminal (flat_line gs i t).terminal
row_line_text gs i (Line ts) h = go (is_omp ts)
  where
    go : (b : Bool) → IsAsciiTerminal (cond b (with_tokens i ts (in_rows gs Elsewhere (placed_of ts i.columns))) i).terminal
    go true = tt
    go false = h
row_line_text gs i (Fixed w) h = h
row_line_text gs i (Mark s) h = h
row_line_text gs i (Name x) h = h
row_line_text gs i (Num n) h = h
row_line_text gs i Unknown h = h
row_line_text gs i Unworked h = h
row_line_text gs i End h = h

pub flat_text : (is : Items) (deep : Bool) (gs : Grids) (rs : Ranges) (os : Open) (k : ℕ) → AreItemsText is →
    AreItemsText (flat deep gs rs os k is)
flat_text [] deep gs rs os k h = tt
flat_text (i ∷ is) deep gs rs os k h =
    chosen_text (is_directive i.terminal) _ _ (row_line_text gs i i.terminal h.0, flat_text is deep gs rs os k h.1)
    (on_text deep k gs rs os i (bare is) (λ gs rs os k. flat deep gs rs os k is) h.0 (bare_text is h.1)
    (λ gs rs os k. flat_text is deep gs rs os k h.1))
