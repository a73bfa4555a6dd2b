-- The line of a target with the words and the clauses of the construct inside it.
use Rattle.std.proofs.Common.{◌≡◌, ◌∙◌, ℕ, zero, suc, ◌+◌, ◌-◌, ◌<◌, ◌≤◌, Bool, true, false, cond, List, [], ◌∷◌, ◌++◌, length, take, drop, refl, sym, ap, arith, append_assoc}
use Rattle.std.specs.Borrow.{Bor}
use Rattle.std.specs.Prelude.{◌&&◌, codes}
use Rattle.std.proofs.lemmas.List.{drop-map, length-drop, length-map, map-append, take-map, take_all}
use Rattle.c_grammar.specs.Lexeme.{Lexeme, Reserved, Signed, Worded, Numbered, Strange, Ended, Placed}
use Rattle.c_grammar.specs.Constants.{behind_two, front_two, with_tokens}
use Rattle.c_grammar.specs.Expressions.{placed_of}
use Rattle.c_grammar.specs.Lines.{is_omp}
use Rattle.c_grammar.specs.Presence.{before_end, is_target, target_column}
use Rattle.c_grammar.specs.Nesting.{conditioned, fit, has, inner_at, is_part, join_lines, joined, joined_at, joined_line, joined_of, joined_tokens, joins, name_len, targeted}
use Rattle.c_grammar.specs.Terminal.{Line}
use Rattle.directives.specs.Seen.{all_end_well, ends_well, is_whole, seen_placed}
use Rattle.directives.specs.declared.lexeme.PlacedLexeme.{PlacedLexeme}
use Rattle.directives.specs.declared.line_tokens.LineTokens.{LineTokens}
use Rattle.directives.specs.Ahead.{seen_line}
use Rattle.directives.specs.Spells.{columns_of, kinds_of}
use Rattle.c_terminals.specs.declared.token.Terminal.{Terminal as Given}
use Rattle.c_terminals.specs.declared.token.Terminal.TheVariants as given
use Rattle.c_terminals.specs.declared.token.Token.{Token}
use Rattle.c_written.specs.Forms.{all_placed}
use Rattle.c_terminals.specs.Seen.{seen, seen_terminal}
use Rattle.c_written.specs.Spots.{all_kinds}
use Rattle.c_terminals.proofs.Placing.{placed_again}
use Rattle.c_written.proofs.Guarding.{first_true, inner, item_at, line_item, second_true, whole_before, whole_behind}

both_true : (a b : Bool) → a ≡ true → b ≡ true → (a && b) ≡ true
both_true true b e f = f
both_true false b e f = e

-- ---- the line is whole

inner_all : (c : ℕ) (ps : List Placed) → all_end_well ps ≡ true → inner (inner_at c ps) ≡ true
inner_all c [] e = refl
inner_all c (p ∷ []) e = refl
inner_all c (p ∷ q ∷ ps) e =
    both_true (ends_well p.lexeme false) (inner (inner_at c (q ∷ ps)))
    (first_true (ends_well p.lexeme false) (all_end_well (q ∷ ps)) e)
    (inner_all c (q ∷ ps) (second_true (ends_well p.lexeme false) (all_end_well (q ∷ ps)) e))

inner_taken : (n : ℕ) (ps : List Placed) → all_end_well ps ≡ true → n < length ps → inner (take n ps) ≡ true
inner_taken zero ps e h = refl
inner_taken (suc n) [] e h = absurd (omega (arith, h))
inner_taken (suc n) (p ∷ []) e h = absurd (omega (arith, h))
inner_taken (suc n) (p ∷ q ∷ ps) e h =
    let less : n < length (q ∷ ps) = omega (arith, h) in
    both_true (ends_well p.lexeme false) (inner (take n (q ∷ ps)))
    (first_true (ends_well p.lexeme false) (all_end_well (q ∷ ps)) e)
    (inner_taken n (q ∷ ps) (second_true (ends_well p.lexeme false) (all_end_well (q ∷ ps)) e) less)

inner_front : (k : ℕ) (ps : List Placed) → inner ps ≡ true → inner (take k ps) ≡ true
inner_front zero ps e = refl
inner_front (suc k) [] e = refl
inner_front (suc k) (p ∷ ps) e =
    both_true (ends_well p.lexeme false) (inner (take k ps)) (first_true (ends_well p.lexeme false) (inner ps) e)
    (inner_front k ps (second_true (ends_well p.lexeme false) (inner ps) e))

inner_rest : (k : ℕ) (ps : List Placed) → inner ps ≡ true → inner (drop k ps) ≡ true
inner_rest zero ps e = e
inner_rest (suc k) [] e = refl
inner_rest (suc k) (p ∷ ps) e = inner_rest k ps (second_true (ends_well p.lexeme false) (inner ps) e)

whole_rest : (n : ℕ) (ps : List Placed) → all_end_well ps ≡ true → n < length ps → is_whole (drop n ps) ≡ true
whole_rest zero [] e h = absurd (omega (arith, h))
whole_rest zero (p ∷ ps) e h = e
whole_rest (suc n) [] e h = absurd (omega (arith, h))
whole_rest (suc n) (p ∷ []) e h = absurd (omega (arith, h))
whole_rest (suc n) (p ∷ q ∷ ps) e h =
    let less : n < length (q ∷ ps) = omega (arith, h) in
    whole_rest n (q ∷ ps) (second_true (ends_well p.lexeme false) (all_end_well (q ∷ ps)) e) less

at_whole : (n k : ℕ) (moved ps : List Placed) → all_end_well ps ≡ true → n < length ps → inner moved ≡ true →
    is_whole (joined_at n k moved ps) ≡ true
at_whole n k moved ps e h f =
    whole_behind (take n ps) (take k moved ++ before_end (drop k moved) (drop n ps)) (inner_taken n ps e h)
    (whole_behind (take k moved) (before_end (drop k moved) (drop n ps)) (inner_front k moved f)
    (whole_before (drop k moved) (drop n ps) (inner_rest k moved f) (whole_rest n ps e h)))

-- ---- the words of a name end before the line

no_part : (t : Lexeme) → ends_well t true ≡ true → is_part t ≡ false
no_part (Reserved w) e = absurd cc
no_part (Signed s) e = refl
no_part (Worded x) e = absurd cc
no_part (Numbered n) e = refl
no_part Strange e = refl
no_part Ended e = refl

name_within : (ps : List Placed) → all_end_well ps ≡ true → 1 ≤ length ps → name_len (kinds_of ps) < length ps
name_within [] e h = absurd (omega (arith, h))
name_within (p ∷ []) e h = rw (no_part p.lexeme (first_true (ends_well p.lexeme true) true e)) (omega arith)
name_within (p ∷ q ∷ ps) e h =
    go (is_part p.lexeme)
    (name_within (q ∷ ps) (second_true (ends_well p.lexeme false) (all_end_well (q ∷ ps)) e) (omega arith))
  where
    go : (b : Bool) → name_len (kinds_of (q ∷ ps)) < length (q ∷ ps) →
        cond b (name_len (kinds_of (q ∷ ps)) + 1) 0 < length (p ∷ q ∷ ps)
    go true f = omega (arith, f)
    go false f = omega arith

name_moved : (c : ℕ) (ps : List Placed) → all_end_well ps ≡ true → name_len (kinds_of (inner_at c ps)) ≡ name_len (kinds_of ps)
name_moved c [] e = refl
name_moved c (p ∷ []) e = rw (no_part p.lexeme (first_true (ends_well p.lexeme true) true e)) refl
name_moved c (p ∷ q ∷ ps) e =
    ap (λ (n : ℕ). cond (is_part p.lexeme) (n + 1) 0)
    (name_moved c (q ∷ ps) (second_true (ends_well p.lexeme false) (all_end_well (q ∷ ps)) e))

rest_well : (n : ℕ) (ps : List Placed) → all_end_well ps ≡ true → all_end_well (drop n ps) ≡ true
rest_well zero ps e = e
rest_well (suc n) [] e = refl
rest_well (suc n) (p ∷ []) e = rest_well n [] refl
rest_well (suc n) (p ∷ q ∷ ps) e =
    rest_well n (q ∷ ps) (second_true (ends_well p.lexeme false) (all_end_well (q ∷ ps)) e)

moved_behind : (c : ℕ) (ps : List Placed) → inner_at c (drop 2 ps) ≡ drop 2 (inner_at c ps)
moved_behind c [] = refl
moved_behind c (p ∷ []) = refl
moved_behind c (p ∷ q ∷ []) = refl
moved_behind c (p ∷ q ∷ r ∷ ps) = refl

-- ---- the line

target_long : (ps : List Placed) → is_target (kinds_of ps) ≡ true → 4 ≤ length ps
target_long [] e = absurd cc
target_long (p ∷ []) e = absurd cc
target_long (p ∷ q ∷ []) e = absurd cc
target_long (p ∷ q ∷ r ∷ []) e = absurd cc
target_long (p ∷ q ∷ r ∷ s ∷ ps) e = omega arith

whole_well : (ps : List Placed) → is_whole ps ≡ true → all_end_well ps ≡ true
whole_well [] e = refl
whole_well (p ∷ ps) e = e

-- the name of a target ends before its line
target_name : (ps : List Placed) → is_whole ps ≡ true → is_target (kinds_of ps) ≡ true →
    3 + name_len (drop 3 (kinds_of ps)) < length ps
target_name ps e f =
    let long = target_long ps f in
    let within = name_within (drop 3 ps) (rest_well 3 ps (whole_well ps e)) (omega (arith, long, length-drop 3 ps)) in
    let same : name_len (drop 3 (kinds_of ps)) ≡ name_len (kinds_of (drop 3 ps)) =
    ap name_len (drop-map (λ (p : Placed). p.lexeme) 3 ps) in
    omega (arith, long, within, same, length-drop 3 ps)

pub tokens_whole : (ps qs : List Placed) → is_whole ps ≡ true → is_whole qs ≡ true → is_target (kinds_of ps) ≡ true →
    is_whole (joined_tokens (kinds_of ps) (kinds_of qs) ps qs) ≡ true
tokens_whole ps qs e f t =
    at_whole (3 + name_len (drop 3 (kinds_of ps))) (name_len (drop 2 (kinds_of qs))) (drop 2 (inner_at (target_column ps) qs)) ps
    (whole_well ps e) (target_name ps e t)
    (inner_rest 2 (inner_at (target_column ps) qs) (inner_all (target_column ps) qs (whole_well qs f)))

parts_at : (n k : ℕ) (ts ms : List PlacedLexeme) →
    all_placed (take n ts) ++ (all_placed (take k ms) ++ before_end (all_placed (drop k ms)) (all_placed (drop n ts)))
    ≡ joined_at n k (all_placed ms) (all_placed ts)
parts_at n k ts ms =
    rw (take-map seen_placed n ts, take-map seen_placed k ms, drop-map seen_placed k ms, drop-map seen_placed n ts) refl

-- what is put, where the line of the construct inside is moved
line_put : (n k : ℕ) (ts ms us vs ws : List PlacedLexeme) → us ≡ take n ts → vs ≡ us ++ take k ms →
    all_placed ws ≡ all_placed vs ++ before_end (all_placed (drop k ms)) (all_placed (drop n ts)) →
    all_placed ws ≡ joined_at n k (all_placed ms) (all_placed ts)
line_put n k ts ms us vs ws e f g =
    g
    ∙ ap (λ (ps : List Placed). ps ++ before_end (all_placed (drop k ms)) (all_placed (drop n ts)))
    (ap all_placed (f ∙ ap (λ (xs : List PlacedLexeme). xs ++ take k ms) e) ∙ map-append seen_placed (take n ts) (take k ms))
    ∙ append_assoc (all_placed (take n ts)) (all_placed (take k ms)) (before_end (all_placed (drop k ms)) (all_placed (drop n ts)))
    ∙ parts_at n k ts ms

pub behind_put : (j : ℕ) (ts us : List PlacedLexeme) (ps : List Placed) → all_placed ts ≡ ps →
    us ≡ take (length ts - j) (drop j ts) → all_placed us ≡ drop j ps
behind_put j ts us ps e f =
    ap all_placed (f ∙ take_all (length ts - j) (drop j ts) (omega (arith, length-drop j ts)))
    ∙ sym (drop-map seen_placed j ts) ∙ ap (drop j) e

at_same : (n k m l : ℕ) (xs ys ps qs : List Placed) → n ≡ m → k ≡ l → xs ≡ ys → ps ≡ qs → joined_at n k xs ps ≡ joined_at m l ys qs
at_same n k m l xs ys ps qs e f g h = rw (e, f, g, h) refl

-- the tokens of a target's line, of which n are its name, with those of another line, of which k are
pub tokens_put : (n k c : ℕ) (ts us ms v0 v1 v2 : List PlacedLexeme) → is_whole (all_placed us) ≡ true →
    c ≡ target_column (all_placed ts) → all_placed ms ≡ inner_at c (all_placed (take (length us - 2) (drop 2 us))) →
    k ≡ name_len (all_kinds ms) → n ≡ 3 + name_len (all_kinds (take (length ts - 3) (drop 3 ts))) →
    v0 ≡ take n ts → v1 ≡ v0 ++ take k ms →
    all_placed v2 ≡ all_placed v1 ++ before_end (all_placed (drop k ms)) (all_placed (drop n ts)) →
    all_placed v2 ≡ joined_tokens (all_kinds ts) (all_kinds us) (all_placed ts) (all_placed us)
tokens_put n k c ts us ms v0 v1 v2 w ec em ek en f0 f1 f2 =
    let ps : List Placed = all_placed ts in
    let qs : List Placed = all_placed us in
    let moved : all_placed ms ≡ inner_at (target_column ps) (drop 2 qs) =
    em ∙ ap (inner_at c) (behind_put 2 us (take (length us - 2) (drop 2 us)) qs refl refl)
    ∙ ap (λ (m : ℕ). inner_at m (drop 2 qs)) ec in
    let words : k ≡ name_len (drop 2 (kinds_of qs)) =
    ek ∙ ap (λ (xs : List Placed). name_len (kinds_of xs)) moved
    ∙ name_moved (target_column ps) (drop 2 qs) (rest_well 2 qs (whole_well qs w))
    ∙ ap name_len (sym (drop-map (λ (p : Placed). p.lexeme) 2 qs)) in
    let name : n ≡ 3 + name_len (drop 3 (kinds_of ps)) =
    en ∙ ap (λ (xs : List Placed). 3 + name_len (kinds_of xs)) (behind_put 3 ts (take (length ts - 3) (drop 3 ts)) ps refl refl)
    ∙ ap (λ (xs : List Lexeme). 3 + name_len xs) (sym (drop-map (λ (p : Placed). p.lexeme) 3 ps)) in
    line_put n k ts ms v0 v1 v2 f0 f1 f2
    ∙ at_same n k (3 + name_len (drop 3 (kinds_of ps))) (name_len (drop 2 (kinds_of qs))) (all_placed ms)
    (drop 2 (inner_at (target_column ps) qs)) ps ps name words (moved ∙ moved_behind (target_column ps) qs) refl

-- ---- the token

front_at : (n k : ℕ) (moved ps : List Placed) → 2 ≤ n → is_target (kinds_of ps) ≡ true →
    front_two (kinds_of ps) ++ kinds_of (behind_two (joined_at n k moved ps)) ≡ kinds_of (joined_at n k moved ps)
front_at n k moved [] h e = absurd cc
front_at n k moved (p ∷ []) h e = absurd cc
front_at zero k moved (p ∷ q ∷ ps) h e = absurd (omega (arith, h))
front_at (suc zero) k moved (p ∷ q ∷ ps) h e = absurd (omega (arith, h))
front_at (suc (suc n)) k moved (p ∷ q ∷ ps) h e = refl

-- so it is where the conditions of the target are for it alone
line_front : (n k : ℕ) (ts : List Lexeme) (moved ps : List Placed) → 2 ≤ n → is_target (kinds_of ps) ≡ true →
    front_two (kinds_of ps) ++ kinds_of (behind_two (joined_at n k moved (conditioned ts ps)))
    ≡ kinds_of (joined_at n k moved (conditioned ts ps))
line_front n k ts moved [] h e = absurd cc
line_front n k ts moved (p ∷ []) h e = absurd cc
line_front n k ts moved (p ∷ q ∷ []) h e = absurd cc
line_front n k ts moved (p ∷ q ∷ r ∷ []) h e = absurd cc
line_front n k ts moved (p ∷ q ∷ r ∷ s ∷ ps) h e = go (has (codes "parallel") (take (name_len ts) ts))
  where
    line : Bool → List Placed
    line b = cond b (p ∷ q ∷ r ∷ s ∷ ps) (p ∷ q ∷ r ∷ targeted false 0 (s ∷ ps))

    go : (b : Bool) →
        p.lexeme ∷ q.lexeme ∷ kinds_of (behind_two (joined_at n k moved (line b))) ≡ kinds_of (joined_at n k moved (line b))
    go true = front_at n k moved (p ∷ q ∷ r ∷ s ∷ ps) h e
    go false = front_at n k moved (p ∷ q ∷ r ∷ targeted false 0 (s ∷ ps)) h e

joined_item : (t u : Token) (ls ms : List Placed) → is_target (kinds_of ls) ≡ true →
    joined_of (line_item t ls) (line_item u ms) (Line (kinds_of ls)) (Line (kinds_of ms))
    ≡ line_item t (joined_line (kinds_of ls) (kinds_of ms) ls ms)
joined_item t u ls ms e =
    let own : List Placed = conditioned (drop 3 (kinds_of ls)) ls in
    ap (λ (qs : List Placed). with_tokens (line_item t ls) (kinds_of ls)
    (joined_line (kinds_of ls) (kinds_of ms) qs (placed_of (kinds_of ms) (columns_of ms)))) (placed_again ls)
    ∙ ap (λ (qs : List Placed). with_tokens (line_item t ls) (kinds_of ls) (joined_line (kinds_of ls) (kinds_of ms) ls qs))
    (placed_again ms)
    ∙ ap (λ (ts : List Lexeme). record {
      terminal = Line ts;
      line = t.line;
      column = t.column;
      columns = columns_of (joined_line (kinds_of ls) (kinds_of ms) ls ms);
    }) (line_front (3 + name_len (drop 3 (kinds_of own))) (name_len (drop 2 (kinds_of ms))) (drop 3 (kinds_of ls))
    (drop 2 (inner_at (target_column own) ms)) ls (omega arith) e)

-- a target with a construct inside it
pub target_of : (ts us : List Lexeme) → join_lines ts us ≡ true → is_target ts ≡ true
target_of ts us e =
    second_true (is_omp ts) (is_target ts) (first_true (is_omp ts && is_target ts) (is_omp us)
    (first_true (is_omp ts && is_target ts && is_omp us) (fit ts us) e))

pub directive_of : (ts us : List Lexeme) → join_lines ts us ≡ true → is_omp us ≡ true
directive_of ts us e =
    second_true (is_omp ts && is_target ts) (is_omp us)
    (first_true (is_omp ts && is_target ts && is_omp us) (fit ts us) e)

pub joined_put : (t u : Token) (l m : Bor LineTokens) (qs : List Placed) → t.terminal ≡ given.Line l → u.terminal ≡ given.Line m →
    joins (seen_terminal t.terminal) (seen_terminal u.terminal) ≡ true →
    qs ≡ joined_line (kinds_of (seen_line l.now)) (kinds_of (seen_line m.now)) (seen_line l.now) (seen_line m.now) →
    line_item t qs ≡ joined (seen t) (seen u)
joined_put t u l m qs e f g h =
    let target = target_of (kinds_of (seen_line l.now)) (kinds_of (seen_line m.now))
    (sym (ap (λ (a : Given). joins (seen_terminal a) (seen_terminal u.terminal)) e
    ∙ ap (λ (a : Given). joins (Line (kinds_of (seen_line l.now))) (seen_terminal a)) f) ∙ g) in
    ap (line_item t) h ∙ sym (joined_item t u (seen_line l.now) (seen_line m.now) target)
    ∙ sym (ap (λ (a : Given). joined (item_at t a) (seen u)) e
    ∙ ap (λ (a : Given). joined (item_at t (given.Line l)) (item_at u a)) f)

-- ---- lines that are joined

omp_long : (ts : List Lexeme) → is_omp ts ≡ true → 2 ≤ length ts
unfolding is_omp
omp_long [] e = absurd cc
omp_long (t ∷ []) e = absurd cc
omp_long (t ∷ u ∷ ts) e = omega arith

-- a directive line has two words
pub line_long : (ts : List PlacedLexeme) (ps : List Placed) → all_placed ts ≡ ps → is_omp (kinds_of ps) ≡ true → 2 ≤ length ts
line_long ts ps e o =
    let long = omp_long (kinds_of ps) o in
    let same : length (all_placed ts) ≡ length ps = ap length e in
    omega (arith, long, same, length-map ts seen_placed, length-map ps (λ (p : Placed). p.lexeme))

pub target_words : (ts : List PlacedLexeme) (ps : List Placed) → all_placed ts ≡ ps → is_target (kinds_of ps) ≡ true → 3 ≤ length ts
target_words ts ps e t =
    let long = target_long ps t in
    let same : length (all_placed ts) ≡ length ps = ap length e in
    omega (arith, long, same, length-map ts seen_placed)
