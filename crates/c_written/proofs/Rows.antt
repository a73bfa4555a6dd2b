-- One token of a line after another, with sections of arrays with rows.
use Rattle.std.proofs.Common.{◌≡◌, ◌∙◌, ℕ, zero, suc, ◌<◌, ◌≤◌, Bool, true, false, cond, List, [], ◌∷◌, ◌++◌, length, Option, Some, None, refl, sym, ap, arith, append_assoc}
use Rattle.std.specs.Borrow.{Bor}
use Rattle.std.proofs.lemmas.List.{length-map}
use Rattle.std.specs.Prelude.{◌&&◌, ◌||◌, ◌==◌, ◌-◌, if◌then◌else◌}
use Rattle.c_tokens.specs.declared.kind.Sign.TheVariants as sign
use Rattle.c_grammar.specs.Blocks.{is_directive}
use Rattle.c_grammar.specs.Constants.{behind_two, front_two, with_tokens}
use Rattle.c_grammar.specs.Expressions.{value_of}
use Rattle.c_grammar.specs.Grids.{At, Elsewhere, Named, Within, Behind, Left, Grids, OnRows, bound_at, flat_line, in_rows, is_whole_row, name_at, no_row, row_token, scaled, term_in_rows}
use Rattle.c_grammar.specs.Lexeme.{Lexeme, Reserved, Signed, Worded, Numbered, Strange, Ended, Placed}
use Rattle.c_grammar.specs.LineForms.{is_sign}
use Rattle.c_grammar.specs.Lines.{is_omp}
use Rattle.c_grammar.specs.Terminal.{Line}
use Rattle.directives.specs.declared.line_tokens.LineTokens.{LineTokens}
use Rattle.directives.specs.Ahead.{seen_line}
use Rattle.directives.specs.Seen.{all_end_well, ends_well, is_empty, is_whole}
use Rattle.directives.specs.Spells.{columns_of, kinds_of}
use Rattle.c_terminals.specs.declared.token.Terminal.{Terminal as Given}
use Rattle.c_terminals.specs.declared.token.Terminal.TheVariants as given
use Rattle.c_terminals.specs.declared.token.Token.{Token}
use Rattle.c_written.specs.RowSections.{next_at, put_at}
use Rattle.c_terminals.specs.Seen.{seen, seen_terminal}
use Rattle.c_terminals.proofs.Placing.{placed_again}
use Rattle.c_written.proofs.Guarding.{first_true, item_at, line_item, second_true, whole_more}
use Rattle.c_written.proofs.Putting.{all_well, well_kinds}

-- ---- what is written for a token, and where the next one stands

chosen : (b : Bool) (ps : List Placed) (m : ℕ) (n : At) (go : OnRows) →
    (if b then go (Left m) else ps ++ go n) ≡ (if b then [] else ps) ++ go (if b then Left m else n)
chosen true ps m n go = refl
chosen false ps m n go = refl

pub token_parts : (gs : Grids) (at : At) (p : Placed) (ts : List Lexeme) (go : OnRows) →
    row_token gs at p ts go ≡ put_at at p ts ++ go (next_at gs at p.lexeme ts)
token_parts gs Elsewhere p ts go = refl
token_parts gs (Named m) p ts go = refl
token_parts gs (Within m true) p ts go = refl
token_parts gs (Within m false) p ts go = refl
token_parts gs (Behind m) p ts go = chosen (is_whole_row m (p.lexeme ∷ ts)) (no_row p) 4 (name_at gs p.lexeme) go
token_parts gs (Left zero) p ts go = refl
token_parts gs (Left (suc k)) p ts go = refl

pub rows_step : (gs : Grids) (at : At) (p : Placed) (ps : List Placed) →
    in_rows gs at (p ∷ ps) ≡ put_at at p (kinds_of ps) ++ in_rows gs (next_at gs at p.lexeme (kinds_of ps)) ps
rows_step gs at p ps = token_parts gs at p (kinds_of ps) (λ n. in_rows gs n ps)

pub rows_next : (gs : Grids) (at : At) (p : Placed) (ps old new : List Placed) (n : At) → new ≡ old ++ put_at at p (kinds_of ps) →
    n ≡ next_at gs at p.lexeme (kinds_of ps) → old ++ in_rows gs at (p ∷ ps) ≡ new ++ in_rows gs n ps
rows_next gs at p ps old new n e f =
    ap (λ (qs : List Placed). old ++ qs) (rows_step gs at p ps)
    ∙ sym (append_assoc old (put_at at p (kinds_of ps)) (in_rows gs (next_at gs at p.lexeme (kinds_of ps)) ps))
    ∙ (λ j. sym e j ++ in_rows gs (sym f j) ps)

-- ---- behind a token that belongs to no section

abbrev pub outside : At → Bool
outside Elsewhere = true
outside (Named m) = true
outside (Within m term) = false
outside (Behind m) = false
outside (Left k) = false

named_outside : (gs : Grids) (x : List ℕ) (o : Option ℕ) → value_of gs x ≡ o → outside (name_at gs (Worded x)) ≡ true
named_outside gs x None e = rw e refl
named_outside gs x (Some m) e = rw e refl

pub name_outside : (gs : Grids) (t : Lexeme) → outside (name_at gs t) ≡ true
name_outside gs (Reserved w) = refl
name_outside gs (Signed s) = refl
name_outside gs (Worded x) = named_outside gs x (value_of gs x) refl
name_outside gs (Numbered n) = refl
name_outside gs Strange = refl
name_outside gs Ended = refl

-- how many tokens are still left out
abbrev pub left_of : At → ℕ
left_of Elsewhere = 0
left_of (Named m) = 0
left_of (Within m term) = 0
left_of (Behind m) = 0
left_of (Left k) = k

none_left : (at : At) → outside at ≡ true → left_of at ≡ 0
none_left Elsewhere e = refl
none_left (Named m) e = refl
none_left (Within m term) e = absurd cc
none_left (Behind m) e = absurd cc
none_left (Left k) e = absurd cc

name_left : (gs : Grids) (t : Lexeme) → left_of (name_at gs t) ≡ 0
name_left gs t = none_left (name_at gs t) (name_outside gs t)

bound_left : (m : ℕ) (t : Lexeme) → left_of (bound_at m t) ≡ 0
bound_left m t = go (is_sign sign.CloseBracket t) (is_sign sign.Colon t || is_sign sign.Plus t || is_sign sign.Minus t)
  where
    go : (b c : Bool) → left_of (cond b (Behind m) (Within m c)) ≡ 0
    go true c = refl
    go false c = refl

-- ---- the line stays whole

no_more : (t : Lexeme) → is_sign sign.CloseBracket t ≡ true → ends_well t true ≡ false
no_more (Reserved w) e = absurd cc
no_more (Signed s) e = refl
no_more (Worded x) e = absurd cc
no_more (Numbered n) e = absurd cc
no_more Strange e = absurd cc
no_more Ended e = absurd cc

well_tail : (t : Lexeme) (ts : List Lexeme) → all_well (t ∷ ts) ≡ true → all_well ts ≡ true
well_tail t ts w = second_true (ends_well t (is_empty ts)) (all_well ts) w

behind_row : (o t c u d : Lexeme) (ts : List Lexeme) → is_sign sign.CloseBracket d ≡ true →
    all_well (o ∷ t ∷ c ∷ u ∷ d ∷ ts) ≡ true → 5 < length (o ∷ t ∷ c ∷ u ∷ d ∷ ts)
behind_row o t c u d (v ∷ ts) e w = omega arith
behind_row o t c u d [] e w =
    absurd (let four : all_well (d ∷ []) ≡ true =
    well_tail u (d ∷ []) (well_tail c (u ∷ d ∷ []) (well_tail t (c ∷ u ∷ d ∷ []) (well_tail o (t ∷ c ∷ u ∷ d ∷ []) w))) in
    let last : ends_well d true ≡ true = first_true (ends_well d true) true four in
    let no : false ≡ true = sym (no_more d e) ∙ last in cc)

all_five : (a b c d e : Bool) → (a && b && c && d && e) ≡ true → e ≡ true
all_five true true true true e h = h
all_five false b c d e h = absurd cc
all_five true false c d e h = absurd cc
all_five true true false d e h = absurd cc
all_five true true true false e h = absurd cc

-- a whole row is not the end of a line
pub row_more : (m : ℕ) (ts : List Lexeme) → is_whole_row m ts ≡ true → all_well ts ≡ true → 5 < length ts
row_more m [] e w = absurd cc
row_more m (o ∷ []) e w = absurd cc
row_more m (o ∷ Reserved r ∷ ts) e w = absurd cc
row_more m (o ∷ Signed s ∷ ts) e w = absurd cc
row_more m (o ∷ Worded x ∷ ts) e w = absurd cc
row_more m (o ∷ Strange ∷ ts) e w = absurd cc
row_more m (o ∷ Ended ∷ ts) e w = absurd cc
row_more m (o ∷ Numbered None ∷ ts) e w = absurd cc
row_more m (o ∷ Numbered (Some a) ∷ []) e w = absurd cc
row_more m (o ∷ Numbered (Some a) ∷ c ∷ []) e w = absurd cc
row_more m (o ∷ Numbered (Some a) ∷ c ∷ Reserved r ∷ ts) e w = absurd cc
row_more m (o ∷ Numbered (Some a) ∷ c ∷ Signed s ∷ ts) e w = absurd cc
row_more m (o ∷ Numbered (Some a) ∷ c ∷ Worded x ∷ ts) e w = absurd cc
row_more m (o ∷ Numbered (Some a) ∷ c ∷ Strange ∷ ts) e w = absurd cc
row_more m (o ∷ Numbered (Some a) ∷ c ∷ Ended ∷ ts) e w = absurd cc
row_more m (o ∷ Numbered (Some a) ∷ c ∷ Numbered None ∷ ts) e w = absurd cc
row_more m (o ∷ Numbered (Some a) ∷ c ∷ Numbered (Some b) ∷ []) e w = absurd cc
row_more m (o ∷ Numbered (Some a) ∷ c ∷ Numbered (Some b) ∷ d ∷ ts) e w =
    behind_row o (Numbered (Some a)) c (Numbered (Some b)) d ts
    (all_five (is_sign sign.OpenBracket o) (a == 0) (is_sign sign.Colon c) (b == m) (is_sign sign.CloseBracket d) e) w

abbrev pub Follows : Bool → List Placed → Type 0
Follows true ps = ps ≡ []
Follows false ps = is_whole ps ≡ true

one_whole : (over : Bool) (p : Placed) (out : List Placed) → ends_well p.lexeme over ≡ true → Follows over out →
    is_whole (p ∷ out) ≡ true
one_whole true p out e g = ap (λ (qs : List Placed). is_whole (p ∷ qs)) g ∙ rw e refl
one_whole false p out e g = whole_more p out e g

term_whole : (m : ℕ) (p : Placed) (over : Bool) (out : List Placed) (t : Lexeme) → p.lexeme ≡ t → ends_well t over ≡ true →
    Follows over out → is_whole (term_in_rows m p t ++ out) ≡ true
term_whole m p over out (Numbered n) same e g =
    one_whole over (record { lexeme = Numbered (scaled m n); column = p.column }) out e g
term_whole m p over out (Worded x) same e g =
    let own : ends_well p.lexeme over ≡ true = ap (λ (t : Lexeme). ends_well t over) same ∙ e in
    let third = one_whole over p out own g in
    let second = whole_more (record { lexeme = Signed sign.Star; column = p.column }) (p ∷ out) refl third in
    whole_more (record { lexeme = Numbered (Some m); column = p.column })
    (record { lexeme = Signed sign.Star; column = p.column } ∷ p ∷ out) refl second
term_whole m p over out (Reserved w) same e g = one_whole over p out (ap (λ (t : Lexeme). ends_well t over) same ∙ e) g
term_whole m p over out (Signed s) same e g = one_whole over p out (ap (λ (t : Lexeme). ends_well t over) same ∙ e) g
term_whole m p over out Strange same e g = one_whole over p out (ap (λ (t : Lexeme). ends_well t over) same ∙ e) g
term_whole m p over out Ended same e g = one_whole over p out (ap (λ (t : Lexeme). ends_well t over) same ∙ e) g

-- a bracket that opens ends no line
goes_on : (t : Lexeme) (over : Bool) → is_sign sign.OpenBracket t ≡ true → ends_well t over ≡ true → ends_well t false ≡ true
goes_on (Reserved w) over e h = absurd cc
goes_on (Signed s) over e h = refl
goes_on (Worded x) over e h = absurd cc
goes_on (Numbered n) over e h = absurd cc
goes_on Strange over e h = absurd cc
goes_on Ended over e h = absurd cc

no_row_whole : (over : Bool) (p : Placed) (out : List Placed) → ends_well p.lexeme over ≡ true → Follows over out →
    is_whole (no_row p ++ out) ≡ true
no_row_whole over p out e g = go (is_sign sign.OpenBracket p.lexeme) refl
  where
    go : (b : Bool) → is_sign sign.OpenBracket p.lexeme ≡ b → is_whole (cond b (p ∷ p ∷ []) (p ∷ []) ++ out) ≡ true
    go true f = whole_more p (p ∷ out) (goes_on p.lexeme over f e) (one_whole over p out e g)
    go false f = one_whole over p out e g

put_whole : (at : At) (p : Placed) (ts : List Lexeme) (out : List Placed) → ends_well p.lexeme (is_empty ts) ≡ true →
    left_of at ≤ length ts → Follows (is_empty ts) out → is_whole (put_at at p ts ++ out) ≡ true
put_whole Elsewhere p ts out e h g = one_whole (is_empty ts) p out e g
put_whole (Named m) p ts out e h g = one_whole (is_empty ts) p out e g
put_whole (Within m true) p ts out e h g = term_whole m p (is_empty ts) out p.lexeme refl e g
put_whole (Within m false) p ts out e h g = one_whole (is_empty ts) p out e g
put_whole (Behind m) p [] out e h g = no_row_whole true p out e g
put_whole (Behind m) p (t ∷ ts) out e h g = go (is_whole_row m (p.lexeme ∷ t ∷ ts))
  where
    go : (b : Bool) → is_whole (cond b [] (no_row p) ++ out) ≡ true
    go true = g
    go false = no_row_whole false p out e g
put_whole (Left zero) p ts out e h g = one_whole (is_empty ts) p out e g
put_whole (Left (suc k)) p [] out e h g = absurd (omega (arith, h))
put_whole (Left (suc k)) p (t ∷ ts) out e h g = g

next_left : (gs : Grids) (at : At) (t : Lexeme) (ts : List Lexeme) → all_well (t ∷ ts) ≡ true → left_of at ≤ length ts →
    left_of (next_at gs at t ts) ≤ length ts - 1
next_left gs Elsewhere t ts w h = let e = name_left gs t in omega (arith, e)
next_left gs (Named m) t ts w h = go (is_sign sign.OpenBracket t)
  where
    go : (b : Bool) → left_of (cond b (Within m true) (name_at gs t)) ≤ length ts - 1
    go true = omega arith
    go false = let e = name_left gs t in omega (arith, e)
next_left gs (Within m term) t ts w h = let e = bound_left m t in omega (arith, e)
next_left gs (Behind m) t ts w h = go (is_whole_row m (t ∷ ts)) refl
  where
    go : (b : Bool) → is_whole_row m (t ∷ ts) ≡ b → left_of (cond b (Left 4) (name_at gs t)) ≤ length ts - 1
    go true e = let more = row_more m (t ∷ ts) e w in omega (arith, more)
    go false e = let e = name_left gs t in omega (arith, e)
next_left gs (Left zero) t ts w h = let e = name_left gs t in omega (arith, e)
next_left gs (Left (suc k)) t ts w h = omega (arith, h)

rows_well : (gs : Grids) (at : At) (ps : List Placed) → all_end_well ps ≡ true → left_of at < length ps →
    is_whole (in_rows gs at ps) ≡ true
rows_well gs at [] e h = absurd (omega (arith, h))
rows_well gs at (p ∷ []) e h =
    ap is_whole (rows_step gs at p [])
    ∙ put_whole at p [] [] (first_true (ends_well p.lexeme true) true e) (omega (arith, h)) refl
rows_well gs at (p ∷ q ∷ ps) e h =
    let ts = kinds_of (q ∷ ps) in
    let next = next_at gs at p.lexeme ts in
    let few : left_of at ≤ length ts = omega (arith, h, length-map (q ∷ ps) (λ p. p.lexeme)) in
    let less = next_left gs at p.lexeme ts (sym (well_kinds (p ∷ q ∷ ps)) ∙ e) few in
    ap is_whole (rows_step gs at p (q ∷ ps))
    ∙ put_whole at p ts (in_rows gs next (q ∷ ps)) (first_true (ends_well p.lexeme false) (all_end_well (q ∷ ps)) e) few
    (rows_well gs next (q ∷ ps) (second_true (ends_well p.lexeme false) (all_end_well (q ∷ ps)) e)
    (omega (arith, less, length-map (q ∷ ps) (λ p. p.lexeme))))

pub rows_whole : (gs : Grids) (ps : List Placed) → is_whole ps ≡ true → is_whole (in_rows gs Elsewhere ps) ≡ true
rows_whole gs [] e = absurd cc
rows_whole gs (p ∷ ps) e = rows_well gs Elsewhere (p ∷ ps) e (omega arith)

-- ---- the words of the directive stay

second_stays : (gs : Grids) (at : At) (q : Placed) (ps : List Placed) → outside at ≡ true →
    in_rows gs at (q ∷ ps) ≡ q ∷ in_rows gs (next_at gs at q.lexeme (kinds_of ps)) ps
second_stays gs Elsewhere q ps e = refl
second_stays gs (Named m) q ps e = refl
second_stays gs (Within m term) q ps e = absurd cc
second_stays gs (Behind m) q ps e = absurd cc
second_stays gs (Left k) q ps e = absurd cc

in_front : (gs : Grids) (ls : List Placed) → is_omp (kinds_of ls) ≡ true →
    front_two (kinds_of ls) ++ kinds_of (behind_two (in_rows gs Elsewhere ls)) ≡ kinds_of (in_rows gs Elsewhere ls)
unfolding is_omp
in_front gs [] e = absurd cc
in_front gs (p ∷ []) e = absurd cc
in_front gs (p ∷ q ∷ ls) e =
    let same = second_stays gs (name_at gs p.lexeme) q ls (name_outside gs p.lexeme) in
    ap (λ (qs : List Placed). p.lexeme ∷ q.lexeme ∷ kinds_of (behind_two (p ∷ qs))) same
    ∙ sym (ap (λ (qs : List Placed). p.lexeme ∷ kinds_of qs) same)

put_line : (gs : Grids) (t : Token) (ls : List Placed) → is_omp (kinds_of ls) ≡ true →
    flat_line gs (line_item t ls) (Line (kinds_of ls)) ≡ line_item t (in_rows gs Elsewhere ls)
put_line gs t ls e =
    rw e (ap (λ (qs : List Placed). with_tokens (line_item t ls) (kinds_of ls) (in_rows gs Elsewhere qs)) (placed_again ls)
    ∙ ap (λ (ts : List Lexeme). record {
      terminal = Line ts;
      line = t.line;
      column = t.column;
      columns = columns_of (in_rows gs Elsewhere ls);
    }) (in_front gs ls e))

pub line_put : (gs : Grids) (t : Token) (l : Bor LineTokens) (qs : List Placed) → t.terminal ≡ given.Line l →
    is_directive (seen_terminal t.terminal) ≡ true → qs ≡ in_rows gs Elsewhere (seen_line l.now) →
    line_item t qs ≡ flat_line gs (seen t) (seen_terminal t.terminal)
line_put gs t l qs e d g =
    let omp = sym (ap (λ (g : Given). is_directive (seen_terminal g)) e) ∙ d in
    ap (line_item t) g ∙ sym (put_line gs t (seen_line l.now) omp)
    ∙ sym (ap (λ (g : Given). flat_line gs (item_at t g) (seen_terminal g)) e)
