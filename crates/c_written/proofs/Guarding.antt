-- A line with clauses before its end.
use Rattle.std.proofs.Common.{◌≡◌, ◌∙◌, ℕ, zero, suc, ◌+◌, ◌-◌, ◌<◌, ◌≤◌, Bool, true, false, cond, List, [], ◌∷◌, ◌++◌, length, take, drop, refl, sym, ap, arith, append_assoc}
use Rattle.std.specs.Borrow.{Bor}
use Rattle.std.specs.Prelude.{◌&&◌, not}
use Rattle.std.proofs.lemmas.List.{drop-map, length-drop, length-map, map-append, take-map, take_all}
use Rattle.c_grammar.specs.Lexeme.{Lexeme, Placed}
use Rattle.c_grammar.specs.Blocks.{Items, is_directive}
use Rattle.c_grammar.specs.Constants.{Names, behind_two, front_two, with_tokens}
use Rattle.c_grammar.specs.Lines.{is_omp}
use Rattle.c_grammar.specs.Presence.{before_end, clauses_for, guarded_item, guarded_tokens, is_mapped, is_target, line_clauses, map_clauses, no_clause, orders, present_clause, target_column, uses}
use Rattle.c_grammar.specs.Terminal.{Terminal, Line}
use Rattle.c_grammar.specs.Texts.{Item}
use Rattle.directives.specs.declared.lexeme.PlacedLexeme.{PlacedLexeme}
use Rattle.directives.specs.Seen.{all_end_well, ends_well, is_whole, seen_placed}
use Rattle.directives.specs.declared.line_tokens.LineTokens.{LineTokens}
use Rattle.directives.specs.Ahead.{seen_line}
use Rattle.directives.specs.Spells.{columns_of, kinds_of}
use Rattle.c_terminals.specs.declared.token.Terminal.{Terminal as Given}
use Rattle.c_terminals.specs.declared.token.Terminal.TheVariants as given
use Rattle.c_terminals.specs.declared.token.Token.{Token}
use Rattle.c_written.specs.Forms.{all_placed}
use Rattle.c_terminals.specs.Seen.{columns_in, seen, seen_terminal}
use Rattle.c_written.specs.Spots.{all_kinds}
use Rattle.c_terminals.proofs.Placing.{placed_again}

-- tokens that end well before others
abbrev pub inner : List Placed → Bool
inner [] = true
inner (p ∷ ps) = ends_well p.lexeme false && inner ps

pub first_true : (a b : Bool) → (a && b) ≡ true → a ≡ true
first_true true b e = refl
first_true false b e = e

pub second_true : (a b : Bool) → (a && b) ≡ true → b ≡ true
second_true true b e = e
second_true false b e = absurd cc

pub whole_more : (p : Placed) (ps : List Placed) → ends_well p.lexeme false ≡ true → is_whole ps ≡ true → is_whole (p ∷ ps) ≡ true
whole_more p [] e h = absurd cc
whole_more p (q ∷ qs) e h = rw e h

pub whole_behind : (new ps : List Placed) → inner new ≡ true → is_whole ps ≡ true → is_whole (new ++ ps) ≡ true
whole_behind [] ps e h = h
whole_behind (p ∷ new) ps e h =
    whole_more p (new ++ ps) (first_true (ends_well p.lexeme false) (inner new) e)
    (whole_behind new ps (second_true (ends_well p.lexeme false) (inner new) e) h)

pub whole_before : (new ps : List Placed) → inner new ≡ true → is_whole ps ≡ true → is_whole (before_end new ps) ≡ true
whole_before new [] e h = h
whole_before new (p ∷ []) e h = whole_behind new (p ∷ []) e h
whole_before new (p ∷ q ∷ ps) e h =
    whole_more p (before_end new (q ∷ ps)) (first_true (ends_well p.lexeme false) (all_end_well (q ∷ ps)) h)
    (whole_before new (q ∷ ps) e (second_true (ends_well p.lexeme false) (all_end_well (q ∷ ps)) h))

clauses_inner : (names : Names) (column : ℕ) (ts : List Lexeme) (is : Items) → inner (clauses_for names column ts is) ≡ true
clauses_inner [] column ts is = refl
clauses_inner (x ∷ xs) column ts is = go (uses x 0 is && not (is_mapped x 0 false ts)) (clauses_inner xs column ts is)
  where
    go : (b : Bool) → inner (clauses_for xs column ts is) ≡ true →
        inner (cond b (present_clause column x) [] ++ clauses_for xs column ts is) ≡ true
    go true e = e
    go false e = e

map_inner : (names : Names) (column : ℕ) (ts : List Lexeme) (is : Items) → inner (map_clauses names column ts is) ≡ true
map_inner names column ts is = go (is_target ts)
  where
    go : (b : Bool) → inner (cond b (clauses_for names column ts is) []) ≡ true
    go true = clauses_inner names column ts is
    go false = refl

both_inner : (ps qs : List Placed) → inner ps ≡ true → inner qs ≡ true → inner (ps ++ qs) ≡ true
both_inner [] qs e f = f
both_inner (p ∷ ps) qs e f =
    rw (first_true (ends_well p.lexeme false) (inner ps) e)
    (both_inner ps qs (second_true (ends_well p.lexeme false) (inner ps) e) f)

line_inner : (names : Names) (column : ℕ) (ts : List Lexeme) (is : Items) → inner (line_clauses names column ts is) ≡ true
line_inner names column [] is = refl
line_inner names column (p ∷ []) is = refl
line_inner names column (p ∷ o ∷ []) is = refl
line_inner names column (p ∷ o ∷ t ∷ ts) is = go (orders names 0 false false ts)
  where
    maps : List Placed
    maps = map_clauses names column (p ∷ o ∷ t ∷ ts) is

    go : (b : Bool) → inner (maps ++ cond b (no_clause column) []) ≡ true
    go true = both_inner maps (no_clause column) (map_inner names column (p ∷ o ∷ t ∷ ts) is) refl
    go false = both_inner maps [] (map_inner names column (p ∷ o ∷ t ∷ ts) is) refl

-- what is put on a line of fewer words than three, and on any other
pub short_clauses : (names : Names) (column : ℕ) (ts : List PlacedLexeme) (is : Items) → length ts < 3 →
    [] ≡ line_clauses names column (all_kinds ts) is
short_clauses names column [] is h = refl
short_clauses names column (p ∷ []) is h = refl
short_clauses names column (p ∷ o ∷ []) is h = refl
short_clauses names column (p ∷ o ∷ t ∷ ts) is h = absurd (omega (arith, h))

abbrev pub order_clause : Names → ℕ → List PlacedLexeme → List Placed
order_clause names column ts = cond (orders names 0 false false (all_kinds ts)) (no_clause column) []

pub long_clauses : (names : Names) (column : ℕ) (ts : List PlacedLexeme) (is : Items) → 3 ≤ length ts →
    map_clauses names column (all_kinds ts) is ++ order_clause names column (take (length ts - 3) (drop 3 ts))
    ≡ line_clauses names column (all_kinds ts) is
long_clauses names column [] is h = absurd (omega (arith, h))
long_clauses names column (p ∷ []) is h = absurd (omega (arith, h))
long_clauses names column (p ∷ o ∷ []) is h = absurd (omega (arith, h))
long_clauses names column (p ∷ o ∷ t ∷ ts) is h =
    let all : take (length (p ∷ o ∷ t ∷ ts) - 3) ts ≡ ts = take_all (length (p ∷ o ∷ t ∷ ts) - 3) ts (omega arith) in
    ap (λ (us : List PlacedLexeme). map_clauses names column (all_kinds (p ∷ o ∷ t ∷ ts)) is ++ order_clause names column us) all

pub before_at : (new ps : List Placed) (n : ℕ) → length ps ≡ n + 1 → before_end new ps ≡ take n ps ++ (new ++ drop n ps)
before_at new [] n e = absurd (omega (arith, e))
before_at new (p ∷ []) zero e = refl
before_at new (p ∷ []) (suc n) e = absurd (omega (arith, e))
before_at new (p ∷ q ∷ ps) zero e = absurd (omega (arith, e))
before_at new (p ∷ q ∷ ps) (suc n) e =
    let less : length (q ∷ ps) ≡ n + 1 = omega (arith, e) in
    ap (λ (qs : List Placed). p ∷ qs) (before_at new (q ∷ ps) n less)

whole_filled : (ps : List Placed) → is_whole ps ≡ true → 1 ≤ length ps
whole_filled [] e = absurd cc
whole_filled (p ∷ ps) e = omega arith

parts : (n : ℕ) (ts v0 v1 v2 v3 cs : List PlacedLexeme) → v0 ≡ [] → v1 ≡ v0 ++ take n ts → v2 ≡ v1 ++ cs → v3 ≡ v2 ++ drop n ts →
    all_placed v3 ≡ take n (all_placed ts) ++ (all_placed cs ++ drop n (all_placed ts))
parts n ts v0 v1 v2 v3 cs e f g h =
    ap all_placed (h ∙ ap (λ (us : List PlacedLexeme). us ++ drop n ts)
    (g ∙ ap (λ (us : List PlacedLexeme). us ++ cs) (f ∙ ap (λ (us : List PlacedLexeme). us ++ take n ts) e))
    ∙ append_assoc (take n ts) cs (drop n ts))
    ∙ map-append seen_placed (take n ts) (cs ++ drop n ts)
    ∙ ap (λ (ps : List Placed). all_placed (take n ts) ++ ps) (map-append seen_placed cs (drop n ts))
    ∙ ap (λ (ps : List Placed). ps ++ (all_placed cs ++ all_placed (drop n ts))) (sym (take-map seen_placed n ts))
    ∙ ap (λ (ps : List Placed). take n (all_placed ts) ++ (all_placed cs ++ ps)) (sym (drop-map seen_placed n ts))

pub put_parts : (n : ℕ) (ts v0 v1 v2 v3 cs : List PlacedLexeme) (ls new : List Placed) → n ≡ length ts - 1 → all_placed ts ≡ ls →
    is_whole ls ≡ true → v0 ≡ [] → v1 ≡ v0 ++ take n ts → v2 ≡ v1 ++ cs → v3 ≡ v2 ++ take (length ts - n) (drop n ts) →
    all_placed cs ≡ new → all_placed v3 ≡ before_end new ls
put_parts n ts v0 v1 v2 v3 cs ls new m s w e f g h k =
    let filled = whole_filled (all_placed ts) (ap is_whole s ∙ w) in
    let one : length (all_placed ts) ≡ n + 1 = omega (arith, m, filled, length-map ts seen_placed) in
    let last : length (drop n ts) ≤ length ts - n = omega (arith, length-drop n ts) in
    parts n ts v0 v1 v2 v3 cs e f g (h ∙ ap (λ (us : List PlacedLexeme). v2 ++ us) (take_all (length ts - n) (drop n ts) last))
    ∙ sym (before_at (all_placed cs) (all_placed ts) n one)
    ∙ ap (λ (ps : List Placed). before_end ps (all_placed ts)) k
    ∙ ap (before_end new) s

pub clauses_whole : (names : Names) (column : ℕ) (ts : List Lexeme) (is : Items) (ls : List Placed) → is_whole ls ≡ true →
    is_whole (before_end (line_clauses names column ts is) ls) ≡ true
clauses_whole names column ts is ls w = whole_before (line_clauses names column ts is) ls (line_inner names column ts is) w

-- ---- the line

pub in_front : (new ls : List Placed) → is_target (kinds_of ls) ≡ true →
    front_two (kinds_of ls) ++ kinds_of (behind_two (before_end new ls)) ≡ kinds_of (before_end new ls)
in_front new [] e = absurd cc
in_front new (p ∷ []) e = absurd cc
in_front new (p ∷ q ∷ []) e = absurd cc
in_front new (p ∷ q ∷ r ∷ []) e = absurd cc
in_front new (p ∷ q ∷ r ∷ s ∷ ls) e = refl

abbrev pub line_item : Token → List Placed → Item Terminal
line_item t ps = record { terminal = Line (kinds_of ps); line = t.line; column = t.column; columns = columns_of ps }

abbrev pub item_at : Token → Given → Item Terminal
item_at t g = record { terminal = seen_terminal g; line = t.line; column = t.column; columns = columns_in g }

-- the words of any directive stay
words_stay : (names : Names) (column : ℕ) (is : Items) (ls : List Placed) → is_omp (kinds_of ls) ≡ true →
    front_two (kinds_of ls) ++ kinds_of (behind_two (before_end (line_clauses names column (kinds_of ls) is) ls))
    ≡ kinds_of (before_end (line_clauses names column (kinds_of ls) is) ls)
unfolding is_omp
words_stay names column is [] e = absurd cc
words_stay names column is (p ∷ []) e = absurd cc
words_stay names column is (p ∷ q ∷ []) e = refl
words_stay names column is (p ∷ q ∷ r ∷ ls) e = refl

put_line : (names : Names) (t : Token) (ls : List Placed) (is : Items) → is_omp (kinds_of ls) ≡ true →
    guarded_item names (line_item t ls) (Line (kinds_of ls)) is ≡ line_item t (guarded_tokens names (kinds_of ls) is ls)
put_line names t ls is e =
    rw e (ap (λ (qs : List Placed). with_tokens (line_item t ls) (kinds_of ls) (guarded_tokens names (kinds_of ls) is qs))
    (placed_again ls)
    ∙ ap (λ (ts : List Lexeme). record {
      terminal = Line ts;
      line = t.line;
      column = t.column;
      columns = columns_of (guarded_tokens names (kinds_of ls) is ls);
    }) (words_stay names (target_column ls) is ls e))

pub guarded_put : (names : Names) (t : Token) (l : Bor LineTokens) (is : Items) (qs : List Placed) → t.terminal ≡ given.Line l →
    is_directive (seen_terminal t.terminal) ≡ true →
    qs ≡ guarded_tokens names (kinds_of (seen_line l.now)) is (seen_line l.now) →
    line_item t qs ≡ guarded_item names (seen t) (seen_terminal t.terminal) is
guarded_put names t l is qs e d g =
    let omp = sym (ap (λ (g : Given). is_directive (seen_terminal g)) e) ∙ d in
    ap (line_item t) g ∙ sym (put_line names t (seen_line l.now) is omp)
    ∙ sym (ap (λ (g : Given). guarded_item names (item_at t g) (seen_terminal g) is) e)
