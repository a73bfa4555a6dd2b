-- A directive line whose clauses private are left out, one token after another.
use Rattle.std.proofs.Common.{◌≡◌, ◌∙◌, ℕ, zero, suc, ◌+◌, ◌-◌, ◌<◌, ◌≤◌, Bool, true, false, List, [], ◌∷◌, ◌++◌, length, get_or, map, take, drop, Option, Some, None, refl, sym, ap, arith}
use Rattle.std.specs.Borrow.{Bor}
use Rattle.std.specs.Prelude.{IfSome, not, ◌==◌}
use Rattle.std.proofs.lemmas.List.{append-nil, length-map, take_all}
use Rattle.c_grammar.specs.Lexeme.{Lexeme, Placed}
use Rattle.c_grammar.specs.Blocks.{Items, is_directive}
use Rattle.c_grammar.specs.Clauses.{Place, Scope, at_begin, names_len, place_after, with_comma}
use Rattle.c_grammar.specs.Constants.{Names, behind_two, front_two, with_tokens}
use Rattle.c_grammar.specs.Lines.{is_omp}
use Rattle.c_grammar.specs.Nesting.{name_len}
use Rattle.c_grammar.specs.Presence.{before_end, is_target, no_clause, target_column}
use Rattle.c_grammar.specs.Privates.{declared, kept, leave_on, leaves, noted_item, owned_item, owned_len, owned_tokens, private_len, scope, shares}
use Rattle.c_grammar.specs.Shared.{marked_at}
use Rattle.c_grammar.specs.Terminal.{Terminal, Line}
use Rattle.c_grammar.specs.Texts.{Item}
use Rattle.c_grammar.specs.Updates.{is_combined}
use Rattle.directives.specs.declared.lexeme.PlacedLexeme.{PlacedLexeme}
use Rattle.directives.specs.declared.line_tokens.LineTokens.{LineTokens}
use Rattle.directives.specs.Seen.{is_whole, seen_placed}
use Rattle.directives.specs.Ahead.{seen_line}
use Rattle.directives.specs.Spells.{columns_of, kinds_of}
use Rattle.c_terminals.specs.declared.token.Terminal.{Terminal as Given}
use Rattle.c_terminals.specs.declared.token.Terminal.TheVariants as given
use Rattle.c_terminals.specs.declared.token.Token.{Token}
use Rattle.c_terminals.specs.Seen.{seen, seen_terminal}
use Rattle.c_written.specs.Forms.{all_placed}
use Rattle.c_written.proofs.ClauseLengths.{behind, two_less}
use Rattle.c_terminals.proofs.Placing.{placed_again}
use Rattle.c_written.proofs.Guarding.{first_true, in_front as new_in_front, item_at, line_item, whole_before}
use Rattle.c_written.proofs.WholeBounds.{whole_behind, whole_front}
use Rattle.c_written.proofs.WholeClauses.{names_within}
use Rattle.c_written.proofs.WholeLines.{whole_cons}

-- ---- how long a clause is

pub names_fit : (s : Scope) (rs : List PlacedLexeme) (o : Option ℕ) → 2 ≤ length rs →
    o ≡ names_len s false 1 (all_placed (take (length rs - 2) (drop 2 rs))) → IfSome o (λ k. k + 1 ≤ length rs)
names_fit s rs None h e = tt
names_fit s rs (Some k) h e =
    let few = names_within s false (all_placed (take (length rs - 2) (drop 2 rs))) 1 k (sym e) in
    omega (arith, few, h, two_less rs h, length-map (take (length rs - 2) (drop 2 rs)) seen_placed)

-- what is behind the clause says how many tokens go with it
pub owned_some : (s : Scope) (rs : List PlacedLexeme) (k : ℕ) (o : Option ℕ) → Some k ≡ private_len s (all_placed rs) →
    o ≡ with_comma k (all_placed (take (length rs - (k + 1)) (drop (k + 1) rs))) → o ≡ owned_len s (all_placed rs)
owned_some s rs k o e f = f ∙ ap (with_comma k) (sym (behind (k + 1) rs)) ∙ rw (sym e) refl

-- ---- one token after another

pub kept_last : (s : Scope) (at : Place) (k : ℕ) (p : Placed) (rs ps : List Placed) → rs ≡ p ∷ ps → ps ≡ [] →
    kept s at k rs ≡ p ∷ []
kept_last s at zero p rs ps e f = ap (kept s at zero) (e ∙ ap (λ (qs : List Placed). p ∷ qs) f)
kept_last s at (suc k) p rs ps e f = ap (kept s at (suc k)) (e ∙ ap (λ (qs : List Placed). p ∷ qs) f)

pub kept_left : (s : Scope) (at : Place) (k : ℕ) (p : Placed) (rs ps : List Placed) → rs ≡ p ∷ ps → 0 < length ps → 0 < k →
    kept s at k rs ≡ kept s at (k - 1) ps
kept_left s at k p rs [] e f h = absurd (omega (arith, f))
kept_left s at zero p rs (q ∷ ps) e f h = absurd (omega (arith, h))
kept_left s at (suc k) p rs (q ∷ ps) e f h =
    let less : k ≡ suc k - 1 = omega arith in
    ap (kept s at (suc k)) e ∙ ap (λ (n : ℕ). kept s at n (q ∷ ps)) less

pub kept_next : (s : Scope) (at : Place) (k : ℕ) (p : Placed) (rs ps : List Placed) (o : Option ℕ) → rs ≡ p ∷ ps →
    0 < length ps → k ≤ 0 → o ≡ leaves s at rs → kept s at k rs ≡ leave_on at p o (λ at k. kept s at k ps)
kept_next s at k p rs [] o e f h g = absurd (omega (arith, f))
kept_next s at (suc k) p rs (q ∷ ps) o e f h g = absurd (omega (arith, h))
kept_next s at zero p rs (q ∷ ps) o e f h g =
    ap (kept s at zero) e
    ∙ ap (λ (x : Option ℕ). leave_on at p x (λ at k. kept s at k (q ∷ ps))) (ap (leaves s at) (sym e) ∙ sym g)

kept_end : (s : Scope) (at : Place) (k : ℕ) → kept s at k [] ≡ []
kept_end s at zero = refl
kept_end s at (suc k) = refl

pub kept_done : (s : Scope) (at : Place) (k : ℕ) (ds : List Placed) (rs : List PlacedLexeme) (qs : List Placed) →
    length rs < 1 → ds ++ kept s at k (all_placed rs) ≡ qs → ds ≡ qs
kept_done s at k ds [] qs h e =
    sym (append-nil ds) ∙ ap (λ (ps : List Placed). ds ++ ps) (sym (kept_end s at k)) ∙ e
kept_done s at k ds (r ∷ rs) qs h e = absurd (omega (arith, h))

-- ---- the line

abbrev Whole : Scope → List Placed → Type 0
Whole s ps = (at : Place) (k : ℕ) → is_whole (kept s at k ps) ≡ true

leave_whole : (s : Scope) (at : Place) (p q : Placed) (ps : List Placed) (o : Option ℕ) → is_whole (p ∷ q ∷ ps) ≡ true →
    Whole s (q ∷ ps) → is_whole (leave_on at p o (λ at k. kept s at k (q ∷ ps))) ≡ true
leave_whole s at p q ps None w h =
    whole_cons p (kept s (place_after p.lexeme at) 0 (q ∷ ps)) (whole_front p q ps w) (h (place_after p.lexeme at) 0)
leave_whole s at p q ps (Some k) w h = h at k

kept_whole : (s : Scope) (ps : List Placed) → is_whole ps ≡ true → Whole s ps
kept_whole s [] w at k = absurd cc
kept_whole s (p ∷ []) w at zero = w
kept_whole s (p ∷ []) w at (suc k) = w
kept_whole s (p ∷ q ∷ ps) w at (suc k) = kept_whole s (q ∷ ps) (whole_behind p q ps w) at k
kept_whole s (p ∷ q ∷ ps) w at zero =
    leave_whole s at p q ps (leaves s at (p ∷ q ∷ ps)) w (kept_whole s (q ∷ ps) (whole_behind p q ps w))

pub owned_whole : (xs : Names) (ps : List Placed) → is_whole ps ≡ true → is_whole (owned_tokens xs ps) ≡ true
owned_whole xs [] w = w
owned_whole xs (p ∷ []) w = w
owned_whole xs (p ∷ q ∷ []) w = w
owned_whole xs (p ∷ q ∷ r ∷ []) w = w
owned_whole xs (p ∷ q ∷ r ∷ t ∷ ps) w =
    let rest = kept (scope xs) at_begin 0 (t ∷ ps) in
    let behind_p = whole_behind p q (r ∷ t ∷ ps) w in
    let behind_q = whole_behind q r (t ∷ ps) behind_p in
    whole_cons p (q ∷ r ∷ rest) (whole_front p q (r ∷ t ∷ ps) w)
    (whole_cons q (r ∷ rest) (whole_front q r (t ∷ ps) behind_p)
    (whole_cons r rest (whole_front r t ps behind_q)
    (kept_whole (scope xs) (t ∷ ps) (whole_behind r t ps behind_q) at_begin 0)))

pub short_line : (xs : Names) (ps : List Placed) → length ps < 3 → owned_tokens xs ps ≡ ps
short_line xs [] h = refl
short_line xs (p ∷ []) h = refl
short_line xs (p ∷ q ∷ []) h = refl
short_line xs (p ∷ q ∷ r ∷ ps) h = absurd (omega (arith, h))

-- the first three tokens, and the others
pub front_three : (xs : Names) (ts : List PlacedLexeme) (d e f : PlacedLexeme) → 3 ≤ length ts →
    map seen_placed (get_or ts 0 d ∷ get_or ts 1 e ∷ get_or ts 2 f ∷ []) ++
    kept (scope xs) at_begin 0 (all_placed (take (length ts - 3) (drop 3 ts))) ≡ owned_tokens xs (all_placed ts)
front_three xs [] d e f h = absurd (omega (arith, h))
front_three xs (t ∷ []) d e f h = absurd (omega (arith, h))
front_three xs (t ∷ u ∷ []) d e f h = absurd (omega (arith, h))
front_three xs (t ∷ u ∷ v ∷ ts) d e f h =
    let all : take (length (t ∷ u ∷ v ∷ ts) - 3) ts ≡ ts = take_all (length (t ∷ u ∷ v ∷ ts) - 3) ts (omega arith) in
    ap (λ (us : List PlacedLexeme). seen_placed t ∷ seen_placed u ∷ seen_placed v ∷ kept (scope xs) at_begin 0 (all_placed us)) all

in_front : (xs : Names) (ls : List Placed) → is_target (kinds_of ls) ≡ true →
    front_two (kinds_of ls) ++ kinds_of (behind_two (owned_tokens xs ls)) ≡ kinds_of (owned_tokens xs ls)
in_front xs [] e = absurd cc
in_front xs (p ∷ []) e = absurd cc
in_front xs (p ∷ q ∷ []) e = absurd cc
in_front xs (p ∷ q ∷ r ∷ ls) e = refl

put_target : (t : Token) (ls : List Placed) (is : Items) → is_omp (kinds_of ls) ≡ true → is_target (kinds_of ls) ≡ true →
    owned_item (line_item t ls) (Line (kinds_of ls)) is ≡ line_item t (owned_tokens (declared [] 0 is) ls)
put_target t ls is e f =
    let xs = declared [] 0 is in
    rw e (rw f (ap (λ (qs : List Placed). with_tokens (line_item t ls) (kinds_of ls) (owned_tokens xs qs)) (placed_again ls)
    ∙ ap (λ (ts : List Lexeme). record {
      terminal = Line ts;
      line = t.line;
      column = t.column;
      columns = columns_of (owned_tokens xs ls);
    }) (in_front xs ls f)))

pub owned_put : (t : Token) (l : Bor LineTokens) (is : Items) (xs : Names) (qs : List Placed) → t.terminal ≡ given.Line l →
    is_directive (seen_terminal t.terminal) ≡ true → is_target (kinds_of (seen_line l.now)) ≡ true → xs ≡ declared [] 0 is →
    qs ≡ owned_tokens xs (seen_line l.now) → line_item t qs ≡ owned_item (seen t) (seen_terminal t.terminal) is
owned_put t l is xs qs e d f n g =
    let omp = sym (ap (λ (g : Given). is_directive (seen_terminal g)) e) ∙ d in
    ap (line_item t) (g ∙ ap (λ (ys : Names). owned_tokens ys (seen_line l.now)) n)
    ∙ sym (put_target t (seen_line l.now) is omp f)
    ∙ sym (ap (λ (g : Given). owned_item (item_at t g) (seen_terminal g) is) e)

-- ---- the line of a combined construct that lacks a clause

pub noted_whole : (column : ℕ) (ps : List Placed) → is_whole ps ≡ true → is_whole (before_end (no_clause column) ps) ≡ true
noted_whole column ps w = whole_before (no_clause column) ps refl w

target_of : (ts : List Lexeme) → is_combined ts ≡ true → is_target ts ≡ true
target_of ts e = first_true (is_target ts) (not (name_len (drop 3 ts) == 0)) e

put_noted : (xs : Names) (t : Token) (ls : List Placed) (is : Items) → is_omp (kinds_of ls) ≡ true →
    is_combined (kinds_of ls) ≡ true → shares xs (kinds_of ls) is ≡ true →
    noted_item xs (line_item t ls) (Line (kinds_of ls)) is ≡ line_item t (before_end (no_clause (target_column ls)) ls)
put_noted xs t ls is e f h =
    let new = no_clause (target_column ls) in
    rw (e, f, h) (ap (λ (qs : List Placed). with_tokens (line_item t ls) (kinds_of ls) (before_end (no_clause (target_column qs)) qs))
    (placed_again ls)
    ∙ ap (λ (ts : List Lexeme). record {
      terminal = Line ts;
      line = t.line;
      column = t.column;
      columns = columns_of (before_end new ls);
    }) (new_in_front new ls (target_of (kinds_of ls) f)))

pub noted_put : (xs : Names) (t : Token) (l : Bor LineTokens) (is : Items) (qs : List Placed) → t.terminal ≡ given.Line l →
    is_directive (seen_terminal t.terminal) ≡ true → is_combined (kinds_of (seen_line l.now)) ≡ true →
    shares xs (kinds_of (seen_line l.now)) is ≡ true →
    qs ≡ before_end (no_clause (target_column (seen_line l.now))) (seen_line l.now) →
    line_item t qs ≡ noted_item xs (seen t) (seen_terminal t.terminal) is
noted_put xs t l is qs e d f h g =
    let omp = sym (ap (λ (g : Given). is_directive (seen_terminal g)) e) ∙ d in
    ap (line_item t) g ∙ sym (put_noted xs t (seen_line l.now) is omp f h)
    ∙ sym (ap (λ (g : Given). noted_item xs (item_at t g) (seen_terminal g) is) e)

-- ---- the line of a target that lacks one

put_marked : (t : Token) (ls : List Placed) → is_omp (kinds_of ls) ≡ true → is_target (kinds_of ls) ≡ true →
    marked_at true (line_item t ls) (Line (kinds_of ls)) ≡ line_item t (before_end (no_clause (target_column ls)) ls)
put_marked t ls e f =
    let new = no_clause (target_column ls) in
    rw (e, f) (ap (λ (qs : List Placed). with_tokens (line_item t ls) (kinds_of ls) (before_end (no_clause (target_column qs)) qs))
    (placed_again ls)
    ∙ ap (λ (ts : List Lexeme). record {
      terminal = Line ts;
      line = t.line;
      column = t.column;
      columns = columns_of (before_end new ls);
    }) (new_in_front new ls f))

pub marked_put : (t : Token) (l : Bor LineTokens) (qs : List Placed) → t.terminal ≡ given.Line l →
    is_directive (seen_terminal t.terminal) ≡ true → is_target (kinds_of (seen_line l.now)) ≡ true →
    qs ≡ before_end (no_clause (target_column (seen_line l.now))) (seen_line l.now) →
    line_item t qs ≡ marked_at true (seen t) (seen_terminal t.terminal)
marked_put t l qs e d f g =
    let omp = sym (ap (λ (g : Given). is_directive (seen_terminal g)) e) ∙ d in
    ap (line_item t) g ∙ sym (put_marked t (seen_line l.now) omp f)
    ∙ sym (ap (λ (g : Given). marked_at true (item_at t g) (seen_terminal g)) e)
