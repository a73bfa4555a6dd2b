-- Arrays of two dimensions and of three are written out without a look at directive lines.
use Rattle.std.proofs.Common.{◌≡◌, ◌∙◌, ℕ, zero, suc, ◌*◌, Bool, true, false, [], ◌∷◌, ◌++◌, take, drop, Option, Some, None, refl, ap}
use Rattle.std.specs.Prelude.{◌&&◌, ◌||◌}
use Rattle.c_tokens.specs.declared.kind.Sign.TheVariants as sign
use Rattle.c_grammar.specs.Lexeme.{Uint64}
use Rattle.c_grammar.specs.Terminal.{Terminal, Fixed, Mark, Name, Num, Line, Unknown, Unworked, End, same}
use Rattle.c_grammar.specs.Texts.{Item}
use Rattle.c_grammar.specs.Blocks.{Items, bare, is_directive}
use Rattle.c_grammar.specs.Changes.{is_mark}
use Rattle.c_grammar.specs.Expressions.{placed_of, value_of}
use Rattle.c_grammar.specs.Functions.{index_len}
use Rattle.c_grammar.specs.Grids.{Declared, Elsewhere, Grids, Onward, Open, Ranges, added_on, closing_on, declared, declared_on, flat, flat_declaration, flat_line, flat_on, grid_on, has_second, in_rows, is_row, named_on, row_begins, row_ends, second_len, token_on}
use Rattle.c_grammar.proofs.BarePresence.{omp_stays}
use Rattle.c_grammar.proofs.BareCalls.{drop_plain, take_plain}
use Rattle.c_grammar.proofs.BareTokens.{ArePlain, IsBare, IsPlain, both_plain, either, one, plain_bare, same_bare, some}

abbrev AreBare : Onward → Onward → Type 0
AreBare go' go = (gs : Grids) (rs : Ranges) (os : Open) (k : ℕ) → IsBare (go' gs rs os k) (go gs rs os k)

declaration_plain : (cells : ℕ) (is : Items) → ArePlain is → ArePlain (flat_declaration cells is)
declaration_plain cells [] h = tt
declaration_plain cells (x ∷ []) h = tt
declaration_plain cells (x ∷ o ∷ []) h = tt
declaration_plain cells (x ∷ o ∷ n ∷ []) h = tt
declaration_plain cells (x ∷ o ∷ n ∷ c ∷ is) h = (h.0, (h.1.0, (refl, (h.1.1.1.0, tt))))

declared_bare : (gs : Grids) (rs : Ranges) (os : Open) (i : Item Terminal) (is : Items) (d : Option Declared) (go go' : Onward) →
    IsPlain i → ArePlain is → AreBare go' go → IsBare (declared_on gs rs os i is d go') (declared_on gs rs os i is d go)
declared_bare gs rs os i is None go go' h p r = one i _ _ h (r _ _ _ _)
declared_bare gs rs os i is (Some d) go go' h p r =
    one i _ _ h (some (flat_declaration (d.rows * d.columns) is) _ _ (declaration_plain (d.rows * d.columns) is p) (r _ _ _ _))

grid_bare : (deep : Bool) (gs : Grids) (rs : Ranges) (os : Open) (i : Item Terminal) (is : Items) (m : Option ℕ) (go go' : Onward) →
    IsPlain i → ArePlain is → AreBare go' go → IsBare (grid_on deep gs rs os i is m go') (grid_on deep gs rs os i is m go)
grid_bare deep gs rs os i [] m go go' h p r = one i _ _ h (r _ _ _ _)
grid_bare deep gs rs os i (o ∷ is) None go go' h p r = one i _ _ h (r _ _ _ _)
grid_bare deep gs rs os i (o ∷ is) (Some m) go go' h p r =
    either (is_mark sign.OpenBracket o && has_second rs m (o ∷ is) (index_len 0 0 (o ∷ is))) _ _ _ _
    (one i (row_begins m o ++ go gs rs (Some m ∷ os) 1) (row_begins m o ++ go' gs rs (Some m ∷ os) 1) h
    (some (row_begins m o) (go gs rs (Some m ∷ os) 1) (go' gs rs (Some m ∷ os) 1) (p.0, (refl, (refl, (refl, tt)))) (r _ _ _ _)))
    (either (is_mark sign.OpenBracket o && (deep || is_row (o ∷ is) (index_len 0 0 (o ∷ is)))) _ _ _ _
    (one i (i ∷ go gs rs os 0) _ h (one i (go gs rs os 0) (go' gs rs os 0) h (r _ _ _ _))) (one i _ _ h (r _ _ _ _)))

named_bare : (deep : Bool) (gs : Grids) (rs : Ranges) (os : Open) (i : Item Terminal) (t : Terminal) (is : Items) (go go' : Onward) →
    IsPlain i → ArePlain is → AreBare go' go → IsBare (named_on deep gs rs os i t is go') (named_on deep gs rs os i t is go)
named_bare deep gs rs os i (Name x) is go go' h p r = grid_bare deep gs rs os i is (value_of gs x) go go' h p r
named_bare deep gs rs os i (Line ts) is go go' h p r = one i _ _ h (r _ _ _ _)
named_bare deep gs rs os i (Fixed w) is go go' h p r = one i _ _ h (r _ _ _ _)
named_bare deep gs rs os i (Mark s) is go go' h p r = one i _ _ h (r _ _ _ _)
named_bare deep gs rs os i (Num n) is go go' h p r = one i _ _ h (r _ _ _ _)
named_bare deep gs rs os i Unknown is go go' h p r = one i _ _ h (r _ _ _ _)
named_bare deep gs rs os i Unworked is go go' h p r = one i _ _ h (r _ _ _ _)
named_bare deep gs rs os i End is go go' h p r = one i _ _ h (r _ _ _ _)

added_bare : (gs : Grids) (rs : Ranges) (os : Open) (i : Item Terminal) (is : Items) (k : Option ℕ) (go go' : Onward) →
    IsPlain i → ArePlain is → AreBare go' go → IsBare (added_on gs rs os i is k go') (added_on gs rs os i is k go)
added_bare gs rs os i is None go go' h p r = one i _ _ h (r _ _ _ _)
added_bare gs rs os i is (Some k) go go' h p r =
    some (row_ends i k is) _ _
    (refl, (refl, (refl, both_plain (take k (drop 1 is)) _ (take_plain k (drop 1 is) (drop_plain 1 is p)) (refl, (h, tt)))))
    (r _ _ _ _)

closing_bare : (gs : Grids) (rs : Ranges) (os : Open) (i : Item Terminal) (is : Items) (go go' : Onward) →
    IsPlain i → ArePlain is → AreBare go' go → IsBare (closing_on gs rs os i is go') (closing_on gs rs os i is go)
closing_bare gs rs [] i is go go' h p r = one i _ _ h (r _ _ _ _)
closing_bare gs rs (None ∷ os) i is go go' h p r = one i _ _ h (r _ _ _ _)
closing_bare gs rs (Some m ∷ os) i is go go' h p r = added_bare gs rs os i is (second_len rs m is) go go' h p r

token_bare : (deep : Bool) (gs : Grids) (rs : Ranges) (os : Open) (i : Item Terminal) (is : Items) (go go' : Onward) →
    IsPlain i → ArePlain is → AreBare go' go → IsBare (token_on deep gs rs os i is go') (token_on deep gs rs os i is go)
token_bare deep gs rs os i is go go' h p r =
    either (same (Fixed Uint64) i.terminal) _ _ _ _ (declared_bare gs rs os i is (declared deep is) go go' h p r)
    (either (is_mark sign.OpenBracket i) _ _ _ _ (one i _ _ h (r _ _ _ _))
    (either (is_mark sign.CloseBracket i) _ _ _ _ (closing_bare gs rs os i is go go' h p r)
    (named_bare deep gs rs os i i.terminal is go go' h p r)))

on_bare : (deep : Bool) (k : ℕ) (gs : Grids) (rs : Ranges) (os : Open) (i : Item Terminal) (is : Items) (go go' : Onward) →
    IsPlain i → ArePlain is → AreBare go' go → IsBare (flat_on deep gs rs os k i is go') (flat_on deep gs rs os k i is go)
on_bare deep zero gs rs os i is go go' h p r = token_bare deep gs rs os i is go go' h p r
on_bare deep (suc k) gs rs os i is go go' h p r = r _ _ _ _

-- a directive line stays one
row_line_kept : (gs : Grids) (i : Item Terminal) (t : Terminal) → i.terminal ≡ t → is_directive t ≡ true →
    is_directive (flat_line gs i t).terminal ≡ true
row_line_kept gs i (Line ts) e f = rw f (omp_stays i ts (in_rows gs Elsewhere (placed_of ts i.columns)) f)
row_line_kept gs i (Fixed w) e f = absurd cc
row_line_kept gs i (Mark s) e f = absurd cc
row_line_kept gs i (Name x) e f = absurd cc
row_line_kept gs i (Num n) e f = absurd cc
row_line_kept gs i Unknown e f = absurd cc
row_line_kept gs i Unworked e f = absurd cc
row_line_kept gs i End e f = absurd cc

pub flat_bare : (is : Items) (deep : Bool) (gs : Grids) (rs : Ranges) (os : Open) (k : ℕ) →
    IsBare (flat deep gs rs os k (bare is)) (flat deep gs rs os k is)
flat_bare [] deep gs rs os k = refl
flat_bare (i ∷ is) deep gs rs os k = step (flat_bare is deep) (is_directive i.terminal) refl
  where
    step : ((gs : Grids) (rs : Ranges) (os : Open) (k : ℕ) → IsBare (flat deep gs rs os k (bare is)) (flat deep gs rs os k is)) →
        (b : Bool) → is_directive i.terminal ≡ b → IsBare (flat deep gs rs os k (bare (i ∷ is))) (flat deep gs rs os k (i ∷ is))
    step ih true e = rw e (rw (row_line_kept gs i i.terminal refl e) (ih gs rs os k))
    step ih false e =
        rw e (rw e (ap (λ (js : Items). flat_on deep gs rs os k i js (λ gs rs os k. flat deep gs rs os k (bare is))) (same_bare is)
        ∙ on_bare deep k gs rs os i (bare is) (λ gs rs os k. flat deep gs rs os k is)
        (λ gs rs os k. flat deep gs rs os k (bare is)) e
        (plain_bare is) (λ gs rs os k. ih gs rs os k)))
