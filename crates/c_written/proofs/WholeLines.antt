-- A line in full still ends with its end.
use Rattle.std.proofs.Common.{◌≡◌, ◌∙◌, ℕ, zero, suc, ◌-◌, ◌<◌, ◌≤◌, Bool, true, false, cond, List, [], ◌∷◌, ◌++◌, length, get_or, take, drop, map, Option, Some, None, refl, ap, arith}
use Rattle.std.proofs.lemmas.List.{take_all}
use Rattle.std.specs.Prelude.{◌&&◌}
use Rattle.c_tokens.specs.declared.kind.Sign.TheVariants as sign
use Rattle.c_grammar.specs.Lexeme.{Lexeme, Reserved, Signed, Worded, Numbered, Strange, Ended, Placed}
use Rattle.c_grammar.specs.Expressions.{Values, value_of, Worked, Number, Fault}
use Rattle.c_grammar.specs.LineForms.{all_at, begins_with_word, bound_at, cells_from, ends_clause, is_element, is_separator, is_sign, last_is, left_out, line_from, line_in_full, put_word, rest_of, word_for}
use Rattle.directives.specs.declared.lexeme.PlacedLexeme.{PlacedLexeme}
use Rattle.directives.specs.Seen.{ends_well, is_whole, seen_placed}
use Rattle.c_written.proofs.WholeBounds.{both, whole_front, whole_behind, bound_within}

-- something may follow each of these tokens
abbrev all_inner : List Lexeme → Bool
all_inner [] = true
all_inner (t ∷ ts) = ends_well t false && all_inner ts

pub whole_cons : (p : Placed) (ps : List Placed) → ends_well p.lexeme false ≡ true → is_whole ps ≡ true → is_whole (p ∷ ps) ≡ true
whole_cons p [] e w = absurd cc
whole_cons p (q ∷ ps) e w = rw e w

whole_more : (c : ℕ) (ts : List Lexeme) (ps : List Placed) → all_inner ts ≡ true → is_whole ps ≡ true →
    is_whole (all_at c ts ++ ps) ≡ true
whole_more c [] ps e w = w
whole_more c (t ∷ ts) ps e w =
    whole_cons (record { lexeme = t; column = c }) (all_at c ts ++ ps) (both _ _ e).0 (whole_more c ts ps (both _ _ e).1 w)

-- ---- what is left out

cells_inner : (l : ℕ) (o : Option ℕ) → all_inner (cells_from l o) ≡ true
cells_inner l None = refl
cells_inner l (Some n) = by_bool _
  where
    by_bool : (b : Bool) → all_inner (cond b (Numbered (Some (n - l)) ∷ []) []) ≡ true
    by_bool true = refl
    by_bool false = refl

rest_by : (b : Bool) (ts : List Lexeme) → all_inner ts ≡ true → all_inner (cond b ts []) ≡ true
rest_by true ts e = e
rest_by false ts e = refl

rest_inner : (ls : Values) (past : List Lexeme) → all_inner (rest_of ls past) ≡ true
rest_inner ls (c ∷ Numbered (Some l) ∷ o ∷ Worded x ∷ ts) = rest_by _ (cells_from l (value_of ls x)) (cells_inner l (value_of ls x))
rest_inner ls ts = refl

out_by : (a b d : Bool) (ts : List Lexeme) (us : List Lexeme) (vs : List Lexeme) → all_inner ts ≡ true → all_inner us ≡ true →
    all_inner vs ≡ true → all_inner (cond a ts (cond b (cond d us vs) [])) ≡ true
out_by true b d ts us vs e f g = e
out_by false true true ts us vs e f g = f
out_by false true false ts us vs e f g = g
out_by false false d ts us vs e f g = refl

out_inner : (ls : Values) (past : List Lexeme) (t : Lexeme) → all_inner (left_out ls past t) ≡ true
out_inner ls past t = out_by (is_sign sign.Colon t && last_is sign.OpenBracket past) (is_sign sign.CloseBracket t) (is_element past)
    (Numbered (Some 0) ∷ []) (Signed sign.Colon ∷ Numbered (Some 1) ∷ []) (rest_of ls past) refl refl (rest_inner ls past)

-- ---- a token by itself

word_ends : (x : List ℕ) (o : Option ℕ) (b : Bool) → ends_well (word_for x o) b ≡ ends_well (Worded x) b
word_ends x None b = refl
word_ends x (Some n) b = refl

put_ends : (vs : Values) (t : Lexeme) (b : Bool) → ends_well (put_word vs t) b ≡ ends_well t b
put_ends vs (Reserved w) b = refl
put_ends vs (Signed s) b = refl
put_ends vs (Worded x) b = word_ends x (value_of vs x) b
put_ends vs (Numbered n) b = refl
put_ends vs Strange b = refl
put_ends vs Ended b = refl

at_last : (c : ℕ) (ts : List Lexeme) (x : Lexeme) (ps : List Placed) →
    all_at c (ts ++ x ∷ []) ++ ps ≡ all_at c ts ++ (record { lexeme = x; column = c } ∷ ps)
at_last c [] x ps = refl
at_last c (t ∷ ts) x ps = ap (λ (qs : List Placed). record { lexeme = t; column = c } ∷ qs) (at_last c ts x ps)

abbrev Ahead : Values → Values → List Placed → Type 0
Ahead vs ls ps = (past : List Lexeme) (k : ℕ) → k < length ps → is_whole (line_from vs ls past k ps) ≡ true

alone : (vs ls : Values) (p : Placed) (ps : List Placed) (past : List Lexeme) → is_whole (p ∷ ps) ≡ true → Ahead vs ls ps →
    is_whole (record { lexeme = put_word vs p.lexeme; column = p.column } ∷ line_from vs ls past 0 ps) ≡ true
unfolding line_from
alone vs ls p [] past w h = rw (put_ends vs p.lexeme true) w
alone vs ls p (q ∷ ps) past w h =
    whole_cons (record { lexeme = put_word vs p.lexeme; column = p.column }) (line_from vs ls past 0 (q ∷ ps))
    (put_ends vs p.lexeme false ∙ whole_front p q ps w) (h past 0 (omega arith))

plain_whole : (vs ls : Values) (p : Placed) (ps : List Placed) (past old : List Lexeme) → is_whole (p ∷ ps) ≡ true →
    Ahead vs ls ps →
    is_whole (all_at p.column (left_out ls old p.lexeme ++ put_word vs p.lexeme ∷ []) ++ line_from vs ls past 0 ps) ≡ true
plain_whole vs ls p ps past old w h =
    ap is_whole (at_last p.column (left_out ls old p.lexeme) (put_word vs p.lexeme) (line_from vs ls past 0 ps))
    ∙ whole_more p.column (left_out ls old p.lexeme) _ (out_inner ls old p.lexeme) (alone vs ls p ps past w h)

-- ---- all tokens

some_word : (ps : List Placed) → begins_with_word ps ≡ true → 0 < length ps
some_word [] e = absurd cc
some_word (p ∷ ps) e = omega arith

token_whole : (vs ls : Values) (p : Placed) (ps : List Placed) (past : List Lexeme) (b : Bool) (o : Option Worked) →
    is_separator past p.lexeme ps ≡ b → bound_at vs past (p ∷ ps) ≡ o → is_whole (p ∷ ps) ≡ true → Ahead vs ls ps →
    is_whole (line_from vs ls past 0 (p ∷ ps)) ≡ true
unfolding line_from
token_whole vs ls p ps past true o e f w h = rw e (h past 0 (some_word ps (both (is_sign sign.Comma p.lexeme && ends_clause past) (begins_with_word ps) e).1))
token_whole vs ls p ps past false (Some (Number n v)) e f w h =
    let few = bound_within vs past (p ∷ ps) n v w f in
    rw (e, f) (whole_more p.column (Numbered (Some v) ∷ []) (line_from vs ls (Numbered (Some v) ∷ past) (n - 1) ps) refl
    (h (Numbered (Some v) ∷ past) (n - 1) (let n0 : n - 1 < length ps = omega arith in n0)))
token_whole vs ls p ps past false (Some (Fault k i)) e f w h = rw (e, f) (plain_whole vs ls p ps _ past w h)
token_whole vs ls p ps past false None e f w h = rw (e, f) (plain_whole vs ls p ps _ past w h)

pub whole_tail : (p : Placed) (ps : List Placed) → 0 < length ps → is_whole (p ∷ ps) ≡ true → is_whole ps ≡ true
whole_tail p [] h w = absurd (omega arith)
whole_tail p (q ∷ ps) h w = whole_behind p q ps w

whole_from : (vs ls : Values) (ps : List Placed) (past : List Lexeme) (k : ℕ) → k < length ps → is_whole ps ≡ true →
    is_whole (line_from vs ls past k ps) ≡ true
unfolding line_from
whole_from vs ls [] past k h w = absurd (omega arith)
whole_from vs ls (p ∷ ps) past (suc k) h w = whole_from vs ls ps past k (omega arith) (whole_tail p ps (omega arith) w)
whole_from vs ls (p ∷ ps) past zero h w =
    token_whole vs ls p ps past (is_separator past p.lexeme ps) (bound_at vs past (p ∷ ps)) refl refl w
    (λ past k h. whole_from vs ls ps past k h (whole_tail p ps (omega arith) w))

-- the line
pub whole_line : (vs ls : Values) (ps : List Placed) → is_whole ps ≡ true → is_whole (line_in_full vs ls ps) ≡ true
unfolding line_from
whole_line vs ls [] w = w
whole_line vs ls (p ∷ []) w = w
whole_line vs ls (p ∷ q ∷ []) w = w
whole_line vs ls (p ∷ q ∷ r ∷ ps) w =
    let behind = whole_behind p q (r ∷ ps) w in
    whole_cons p (q ∷ line_from vs ls [] 0 (r ∷ ps)) (whole_front p q (r ∷ ps) w)
    (whole_cons q (line_from vs ls [] 0 (r ∷ ps)) (whole_front q r ps behind)
    (whole_from vs ls (r ∷ ps) [] 0 (omega arith) (whole_behind q r ps behind)))

pub short_line : (vs ls : Values) (ps : List Placed) → length ps < 2 → line_in_full vs ls ps ≡ ps
short_line vs ls [] h = refl
short_line vs ls (p ∷ []) h = refl
short_line vs ls (p ∷ q ∷ ps) h = absurd (omega arith)

pub front_two : (vs ls : Values) (ts : List PlacedLexeme) (d e : PlacedLexeme) → 2 ≤ length ts →
    map seen_placed (get_or ts 0 d ∷ get_or ts 1 e ∷ []) ++ line_from vs ls [] 0 (map seen_placed (take (length ts - 2) (drop 2 ts))) ≡
    line_in_full vs ls (map seen_placed ts)
front_two vs ls [] d e h = absurd (omega arith)
front_two vs ls (t ∷ []) d e h = absurd (omega arith)
front_two vs ls (t ∷ u ∷ ts) d e h =
    let all : take (length (t ∷ u ∷ ts) - 2) ts ≡ ts = take_all (length (t ∷ u ∷ ts) - 2) ts (omega arith) in
    ap (λ (us : List PlacedLexeme). seen_placed t ∷ seen_placed u ∷ line_from vs ls [] 0 (map seen_placed us)) all
