-- The lines of boxed scalars.
use Rattle.std.proofs.Common.{◌≡◌, ◌∙◌, ℕ, Bool, true, false, cond, List, [], ◌∷◌, ◌++◌, map, refl, sym, ap}
use Rattle.std.specs.Borrow.{Bor}
use Rattle.std.specs.Prelude.{◌&&◌, ◌==◌, not, codes}
use Rattle.c_grammar.specs.Lexeme.{Lexeme, Reserved, Signed, Worded, Numbered, Strange, Ended, Placed}
use Rattle.c_grammar.specs.Blocks.{Items, is_directive}
use Rattle.c_grammar.specs.Boxes.{Listing, at_begin, begins_bounds, behind, boxed_item, boxed_tokens, boxing_at, boxing_lexemes, clauses_for, is_box, is_item, lexemes, listed, lists, section, sectioned, to_clause, to_clauses}
use Rattle.c_grammar.specs.Constants.{Names, behind_two, front_two, is_among, with_tokens}
use Rattle.c_grammar.specs.LineForms.{all_at}
use Rattle.c_grammar.specs.Lines.{boxing_word, is_omp}
use Rattle.c_grammar.specs.Presence.{before_end, is_target, opens_list, target_column, uses}
use Rattle.c_grammar.specs.Terminal.{Terminal, Line}
use Rattle.c_grammar.specs.Texts.{Item}
use Rattle.directives.specs.declared.line_tokens.LineTokens.{LineTokens}
use Rattle.directives.specs.Ahead.{seen_line}
use Rattle.directives.specs.Seen.{all_end_well, ends_well, is_whole}
use Rattle.directives.specs.Spells.{columns_of, kinds_of}
use Rattle.c_terminals.specs.declared.token.Terminal.{Terminal as Given}
use Rattle.c_terminals.specs.declared.token.Terminal.TheVariants as given
use Rattle.c_terminals.specs.declared.token.Token.{Token}
use Rattle.c_terminals.specs.Seen.{seen, seen_terminal}
use Rattle.c_terminals.proofs.Placing.{placed_again}
use Rattle.c_written.proofs.Guarding.{first_true, inner, item_at, line_item, second_true, whole_before, whole_behind, whole_more}

-- ---- the line before main

abbrev word_at : ℕ → List ℕ → Placed
word_at column x = record { lexeme = Worded x; column = column }

names_whole : (column : ℕ) (names : Names) → is_whole (all_at column (map Worded names ++ Ended ∷ [])) ≡ true
names_whole column [] = refl
names_whole column (x ∷ xs) =
    whole_more (word_at column x) (all_at column (map Worded xs ++ Ended ∷ [])) refl (names_whole column xs)

pub boxing_whole : (column : ℕ) (names : Names) → is_whole (all_at column (boxing_lexemes names)) ≡ true
boxing_whole column names =
    let rest = all_at column (map Worded names ++ Ended ∷ []) in
    let word = word_at column (codes "0") in
    let omp = word_at column (codes "omp") in
    whole_more (word_at column (codes "pragma")) (omp ∷ word ∷ rest) refl
    (whole_more omp (word ∷ rest) refl (whole_more word rest refl (names_whole column names)))

same_kinds : (column : ℕ) (ts : List Lexeme) → kinds_of (all_at column ts) ≡ ts
same_kinds column [] = refl
same_kinds column (t ∷ ts) = ap (λ (us : List Lexeme). t ∷ us) (same_kinds column ts)

same_columns : (column : ℕ) (ts : List Lexeme) → columns_of (all_at column ts) ≡ map (λ (t : Lexeme). column) ts
same_columns column [] = refl
same_columns column (t ∷ ts) = ap (λ (us : List ℕ). column ∷ us) (same_columns column ts)

pub boxing_item : (t : Token) (names : Names) (ps : List Placed) → ps ≡ all_at t.column (boxing_lexemes names) →
    line_item t ps ≡ boxing_at (seen t) names
boxing_item t names ps e =
    ap (line_item t) e
    ∙ ap (λ (ts : List Lexeme). record {
      terminal = Line ts;
      line = t.line;
      column = t.column;
      columns = columns_of (all_at t.column (boxing_lexemes names));
    }) (same_kinds t.column (boxing_lexemes names))
    ∙ ap (λ (cs : List ℕ). record {
      terminal = Line (boxing_lexemes names);
      line = t.line;
      column = t.column;
      columns = cs;
    }) (same_columns t.column (boxing_lexemes names))

-- ---- lines with sections and clauses

no_box : (names : Names) (t : Lexeme) → ends_well t true ≡ true → is_box names t ≡ false
no_box names (Worded x) e = absurd cc
no_box names (Reserved w) e = refl
no_box names (Signed s) e = refl
no_box names (Numbered n) e = refl
no_box names Strange e = refl
no_box names Ended e = refl

one_whole : (p : Placed) → ends_well p.lexeme true ≡ true → is_whole (p ∷ []) ≡ true
one_whole p e = rw e refl

last_whole : (names : Names) (i : Bool) (p : Placed) → ends_well p.lexeme true ≡ true →
    is_whole (p ∷ (cond (i && is_box names p.lexeme && true) (section p.column) [] ++ [])) ≡ true
last_whole names i p e = rw (no_box names p.lexeme e) (go i)
  where
    go : (i : Bool) → is_whole (p ∷ (cond (i && false && true) (section p.column) [] ++ [])) ≡ true
    go true = one_whole p e
    go false = one_whole p e

section_whole : (b : Bool) (column : ℕ) (ps : List Placed) → is_whole ps ≡ true →
    is_whole (cond b (section column) [] ++ ps) ≡ true
section_whole true column ps h = whole_behind (section column) ps refl h
section_whole false column ps h = h

pub sectioned_whole : (names : Names) (s : Listing) (ps : List Placed) → is_whole ps ≡ true →
    is_whole (sectioned names s ps) ≡ true
sectioned_whole names s [] h = absurd cc
sectioned_whole names s (p ∷ []) h = last_whole names (is_item s) p (first_true (ends_well p.lexeme true) true h)
sectioned_whole names s (p ∷ q ∷ ps) h =
    let b = is_item s && is_box names p.lexeme && not (begins_bounds (q ∷ ps)) in
    let next = behind s p.lexeme (lexemes (q ∷ ps)) in
    whole_more p (cond b (section p.column) [] ++ sectioned names next (q ∷ ps))
    (first_true (ends_well p.lexeme false) (all_end_well (q ∷ ps)) h)
    (section_whole b p.column (sectioned names next (q ∷ ps))
    (sectioned_whole names next (q ∷ ps) (second_true (ends_well p.lexeme false) (all_end_well (q ∷ ps)) h)))

to_inner : (names : Names) (column : ℕ) (listed : Names) (is : Items) → inner (to_clauses names column listed is) ≡ true
to_inner [] column listed is = refl
to_inner (x ∷ xs) column listed is = go (uses x 0 is && not (is_among listed x)) (to_inner xs column listed is)
  where
    go : (b : Bool) → inner (to_clauses xs column listed is) ≡ true →
        inner (cond b (to_clause column x) [] ++ to_clauses xs column listed is) ≡ true
    go true e = e
    go false e = e

clauses_inner : (names : Names) (ts : List Lexeme) (is : Items) (ps : List Placed) → inner (clauses_for names ts is ps) ≡ true
clauses_inner names ts is ps = go (is_target ts)
  where
    go : (b : Bool) → inner (cond b (to_clauses names (target_column ps) (listed at_begin ts []) is) []) ≡ true
    go true = to_inner names (target_column ps) (listed at_begin ts []) is
    go false = refl

pub boxed_whole : (names : Names) (ts : List Lexeme) (is : Items) (ps : List Placed) → is_whole ps ≡ true →
    is_whole (boxed_tokens names ts is ps) ≡ true
boxed_whole names ts is ps h =
    whole_before (clauses_for names ts is ps) (sectioned names at_begin ps) (clauses_inner names ts is ps)
    (sectioned_whole names at_begin ps h)

-- ---- the words of the directive stay

abbrev second : Placed → Placed → List Placed → Listing
second p q ls = behind (behind at_begin p.lexeme (lexemes (q ∷ ls))) q.lexeme (lexemes ls)

begins : (names : Names) (p q : Placed) (ls : List Placed) →
    sectioned names at_begin (p ∷ q ∷ ls) ≡ p ∷ q ∷ sectioned names (second p q ls) ls
begins names p q ls = go (cond (not (opens_list p.lexeme)) (lists p.lexeme) false)
  where
    go : (l : Bool) →
        p ∷ q ∷ (cond (l && false && (0 == 1) && is_box names q.lexeme && not (begins_bounds ls)) (section q.column) []
        ++ sectioned names (second p q ls) ls) ≡ p ∷ q ∷ sectioned names (second p q ls) ls
    go true = refl
    go false = refl

in_front : (names : Names) (is : Items) (ls : List Placed) → is_omp (kinds_of ls) ≡ true →
    front_two (kinds_of ls) ++ kinds_of (behind_two (boxed_tokens names (kinds_of ls) is ls))
    ≡ kinds_of (boxed_tokens names (kinds_of ls) is ls)
unfolding is_omp
in_front names is [] e = absurd cc
in_front names is (p ∷ []) e = absurd cc
in_front names is (p ∷ q ∷ []) e =
    let same = begins names p q [] in
    ap (λ (qs : List Placed). p.lexeme ∷ q.lexeme ∷ kinds_of (behind_two (before_end [] qs))) same
    ∙ ap (λ (qs : List Placed). kinds_of (before_end [] qs)) (sym same)
in_front names is (p ∷ q ∷ r ∷ ls) e =
    let same = begins names p q (r ∷ ls) in
    let new = clauses_for names (kinds_of (p ∷ q ∷ r ∷ ls)) is (p ∷ q ∷ r ∷ ls) in
    ap (λ (qs : List Placed). p.lexeme ∷ q.lexeme ∷ kinds_of (behind_two (before_end new qs))) same
    ∙ ap (λ (qs : List Placed). kinds_of (before_end new qs)) (sym same)

taken : (b : Bool) (x y : Item Terminal) → b ≡ true → cond b x y ≡ x
taken true x y e = refl
taken false x y e = absurd cc

put_line : (names : Names) (t : Token) (ls : List Placed) (is : Items) → is_omp (kinds_of ls) ≡ true →
    boxed_item names (line_item t ls) (Line (kinds_of ls)) is ≡ line_item t (boxed_tokens names (kinds_of ls) is ls)
put_line names t ls is e =
    taken (is_omp (kinds_of ls)) _ (line_item t ls) e
    ∙ ap (λ (qs : List Placed). with_tokens (line_item t ls) (kinds_of ls) (boxed_tokens names (kinds_of ls) is qs)) (placed_again ls)
    ∙ ap (λ (ts : List Lexeme). record {
      terminal = Line ts;
      line = t.line;
      column = t.column;
      columns = columns_of (boxed_tokens names (kinds_of ls) is ls);
    }) (in_front names is ls e)

pub boxed_put : (names : Names) (t : Token) (l : Bor LineTokens) (is : Items) (qs : List Placed) → t.terminal ≡ given.Line l →
    is_directive (seen_terminal t.terminal) ≡ true →
    qs ≡ boxed_tokens names (kinds_of (seen_line l.now)) is (seen_line l.now) →
    line_item t qs ≡ boxed_item names (seen t) (seen_terminal t.terminal) is
boxed_put names t l is qs e d g =
    let omp = sym (ap (λ (g : Given). is_directive (seen_terminal g)) e) ∙ d in
    ap (line_item t) g ∙ sym (put_line names t (seen_line l.now) is omp)
    ∙ sym (ap (λ (g : Given). boxed_item names (item_at t g) (seen_terminal g) is) e)
