-- A line has its end, and the words of the directive, as before.
use Rattle.std.proofs.Common.{◌≡◌, ◌∙◌, ℕ, Bool, true, false, cond, List, [], ◌∷◌, ◌++◌, map, Option, Some, None, refl, sym, ap}
use Rattle.std.specs.Prelude.{◌&&◌, ◌==◌, codes}
use Rattle.std.specs.Borrow.{Bor}
use Rattle.c_tokens.specs.declared.kind.Sign.TheVariants as sign
use Rattle.c_grammar.specs.Blocks.{is_directive}
use Rattle.c_grammar.specs.Constants.{behind_two, front_two, with_tokens}
use Rattle.c_grammar.specs.Descents as descents
use Rattle.c_grammar.specs.Descents.{Called, Counted, Open, Part, depth_behind, ends_term, is_free, lexeme_of, line_for, put_bracket, put_lexeme, put_on_line, put_outside, stand_on_line, stands_for}
use Rattle.c_grammar.specs.Lexeme.{Lexeme, Reserved, Signed, Worded, Numbered, Strange, Ended, Placed, same}
use Rattle.c_grammar.specs.LineForms.{all_at, is_sign}
use Rattle.c_grammar.specs.Lines.{is_omp}
use Rattle.c_grammar.specs.Terminal.{Terminal, Line}
use Rattle.c_grammar.specs.Texts.{Item}
use Rattle.c_grammar.proofs.Lexemes.{same-true}
use Rattle.directives.specs.declared.line_tokens.LineTokens.{LineTokens}
use Rattle.directives.specs.Ahead.{seen_line}
use Rattle.directives.specs.Seen.{all_end_well, ends_well, is_whole}
use Rattle.directives.specs.Spells.{columns_of, kinds_of}
use Rattle.c_terminals.specs.declared.token.Terminal.{Terminal as Given}
use Rattle.c_terminals.specs.declared.token.Terminal.TheVariants as given
use Rattle.c_terminals.specs.declared.token.Token.{Token}
use Rattle.c_terminals.specs.Seen.{item_at, seen, seen_terminal}
use Rattle.c_terminals.proofs.Placing.{placed_again}

-- ---- the end

first_true : (a b : Bool) → (a && b) ≡ true → a ≡ true
first_true true b e = refl
first_true false b e = e

second_true : (a b : Bool) → (a && b) ≡ true → b ≡ true
second_true true b e = e
second_true false b e = absurd cc

whole_more : (p : Placed) (ps : List Placed) → ends_well p.lexeme false ≡ true → is_whole ps ≡ true → is_whole (p ∷ ps) ≡ true
whole_more p [] e h = absurd cc
whole_more p (q ∷ qs) e h = rw e h

part_well : (t : Part) → ends_well (lexeme_of t) false ≡ true
part_well (descents.Signed s) = refl
part_well (Called x) = refl
part_well (Counted n) = refl

parts_whole : (column : ℕ) (ts : List Part) (out : List Placed) → is_whole out ≡ true →
    is_whole (all_at column (map lexeme_of ts) ++ out) ≡ true
parts_whole column [] out e = e
parts_whole column (t ∷ ts) out e =
    whole_more (record { lexeme = lexeme_of t; column = column }) (all_at column (map lexeme_of ts) ++ out) (part_well t)
    (parts_whole column ts out e)

-- the last token is no name
last_stays : (os : List Open) (t : Lexeme) → ends_well t true ≡ true → stands_for os t ≡ None
last_stays os (Reserved w) e = refl
last_stays os (Signed s) e = refl
last_stays os (Worded x) e = absurd cc
last_stays os (Numbered n) e = refl
last_stays os Strange e = refl
last_stays os Ended e = refl

last_put : (os : List Open) (d : ℕ) (free : Bool) (p : Placed) → ends_well p.lexeme true ≡ true →
    put_lexeme os d free p [] ≡ p ∷ []
last_put os d free p e = rw (last_stays os p.lexeme e) (go (d == 0))
  where
    go : (b : Bool) → cond b (p ∷ []) (p ∷ []) ≡ p ∷ []
    go true = refl
    go false = refl

stand_whole : (free : Bool) (p : Placed) (o : Option (List Part)) (out : List Placed) → ends_well p.lexeme false ≡ true →
    is_whole out ≡ true → is_whole (stand_on_line free p o ++ out) ≡ true
stand_whole free p None out e h = whole_more p out e h
stand_whole true p (Some ts) out e h = parts_whole p.column ts out h
stand_whole false p (Some ts) out e h =
    whole_more (record { lexeme = Signed sign.OpenParen; column = p.column }) (p ∷ out) refl (whole_more p out e h)

bracket_whole : (p q : Placed) (o : Option (List Part)) (out : List Placed) → ends_well p.lexeme false ≡ true →
    is_whole out ≡ true → is_whole (put_bracket p q o ++ out) ≡ true
bracket_whole p q None out e h = whole_more p out e h
bracket_whole p q (Some ts) out e h =
    let more : Placed = record { lexeme = Signed sign.OpenParen; column = q.column } in
    whole_more p (more ∷ out) e (whole_more more out refl h)

outside_whole : (os : List Open) (device : Bool) (p : Placed) (ps out : List Placed) → ends_well p.lexeme false ≡ true →
    is_whole out ≡ true → is_whole (put_outside os device p ps ++ out) ≡ true
outside_whole os device p [] out e h = whole_more p out e h
outside_whole os device p (q ∷ ps) out e h = go (device && is_sign sign.OpenParen p.lexeme)
  where
    go : (b : Bool) → is_whole (cond b (put_bracket p q (stands_for os q.lexeme)) (p ∷ []) ++ out) ≡ true
    go true = bracket_whole p q (stands_for os q.lexeme) out e h
    go false = whole_more p out e h

put_whole : (os : List Open) (d : ℕ) (free : Bool) (p : Placed) (ps out : List Placed) → ends_well p.lexeme false ≡ true →
    is_whole out ≡ true → is_whole (put_lexeme os d free p ps ++ out) ≡ true
put_whole os d free p ps out e h = go (d == 0)
  where
    go : (b : Bool) →
        is_whole (cond b (put_outside os free p ps) (stand_on_line (free && ends_term ps) p (stands_for os p.lexeme)) ++ out) ≡
        true
    go true = outside_whole os free p ps out e h
    go false = stand_whole (free && ends_term ps) p (stands_for os p.lexeme) out e h

pub line_whole : (ps : List Placed) (os : List Open) (d : ℕ) (free : Bool) → is_whole ps ≡ true →
    is_whole (put_on_line os d free ps) ≡ true
line_whole [] os d free e = absurd cc
line_whole (p ∷ []) os d free e =
    ap (λ (qs : List Placed). is_whole (qs ++ [])) (last_put os d free p (first_true (ends_well p.lexeme true) true e)) ∙ e
line_whole (p ∷ q ∷ ps) os d free e =
    let d' : ℕ = depth_behind d p.lexeme in
    let free' : Bool = is_free d' p.lexeme in
    put_whole os d free p (q ∷ ps) (put_on_line os d' free' (q ∷ ps))
    (first_true (ends_well p.lexeme false) (all_end_well (q ∷ ps)) e)
    (line_whole (q ∷ ps) os d' free' (second_true (ends_well p.lexeme false) (all_end_well (q ∷ ps)) e))

-- ---- the words of the directive

depth_stays : (t : Lexeme) (b : Bool) → (same (Worded (codes "pragma")) t && b) ≡ true → depth_behind 0 t ≡ 0
depth_stays (Worded x) b e = refl
depth_stays (Reserved w) b e = absurd cc
depth_stays (Signed s) b e = absurd cc
depth_stays (Numbered n) b e = absurd cc
depth_stays Strange b e = absurd cc
depth_stays Ended b e = absurd cc

-- the word pragma is not the word device
no_device : (t : Lexeme) (b : Bool) → (same (Worded (codes "pragma")) t && b) ≡ true → same (Worded (codes "device")) t ≡ false
no_device t b e =
    ap (λ (u : Lexeme). same (Worded (codes "device")) u)
    (sym (same-true (Worded (codes "pragma")) t (first_true (same (Worded (codes "pragma")) t) b e)))

-- two tokens outside of brackets stay
two_stay : (os : List Open) (p q : Placed) (ls : List Placed) (d : ℕ) (free : Bool) → d ≡ 0 → free ≡ false →
    p.lexeme ∷ q.lexeme ∷ kinds_of (behind_two (p ∷ put_on_line os d free (q ∷ ls)))
    ≡ p.lexeme ∷ kinds_of (put_on_line os d free (q ∷ ls))
two_stay os p q [] d free z f = rw z refl
two_stay os p q (l ∷ ls) d free z f = rw z (rw f refl)

in_front : (os : List Open) (ls : List Placed) → is_omp (kinds_of ls) ≡ true →
    front_two (kinds_of ls) ++ kinds_of (behind_two (put_on_line os 0 false ls)) ≡ kinds_of (put_on_line os 0 false ls)
unfolding is_omp
in_front os [] e = absurd cc
in_front os (p ∷ []) e = absurd cc
in_front os (p ∷ q ∷ ls) e =
    let z = depth_stays p.lexeme _ e in
    two_stay os p q ls (depth_behind 0 p.lexeme) (is_free (depth_behind 0 p.lexeme) p.lexeme) z
    (ap (λ (d : ℕ). is_free d p.lexeme) z ∙ no_device p.lexeme _ e)

abbrev pub line_item : Token → List Placed → Item Terminal
line_item t ps = record { terminal = Line (kinds_of ps); line = t.line; column = t.column; columns = columns_of ps }

put_line : (os : List Open) (t : Token) (ls : List Placed) → is_omp (kinds_of ls) ≡ true →
    line_for os (line_item t ls) (Line (kinds_of ls)) ≡ line_item t (put_on_line os 0 false ls)
put_line os t ls e =
    rw e (ap (λ (qs : List Placed). with_tokens (line_item t ls) (kinds_of ls) (put_on_line os 0 false qs)) (placed_again ls)
    ∙ ap (λ (ts : List Lexeme). record {
      terminal = Line ts;
      line = t.line;
      column = t.column;
      columns = columns_of (put_on_line os 0 false ls);
    }) (in_front os ls e))

pub line_put : (os : List Open) (t : Token) (l : Bor LineTokens) (qs : List Placed) → t.terminal ≡ given.Line l →
    is_directive (seen_terminal t.terminal) ≡ true → qs ≡ put_on_line os 0 false (seen_line l.now) →
    line_item t qs ≡ line_for os (seen t) (seen_terminal t.terminal)
line_put os t l qs e d g =
    let omp = sym (ap (λ (g : Given). is_directive (seen_terminal g)) e) ∙ d in
    ap (line_item t) g ∙ sym (put_line os t (seen_line l.now) omp)
    ∙ sym (ap (λ (g : Given). line_for os (item_at t g) (seen_terminal g)) e)
