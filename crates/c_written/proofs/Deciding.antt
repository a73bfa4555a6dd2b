-- Directive lines whose clauses if are left out, one token after another.
use Rattle.std.proofs.Common.{◌≡◌, ◌∙◌, ℕ, zero, suc, ◌-◌, ◌<◌, ◌≤◌, Bool, true, false, cond, List, [], ◌∷◌, ◌++◌, length, take, drop, Option, Some, None, refl, sym, ap, arith}
use Rattle.std.proofs.lemmas.List.{length-drop, take_all}
use Rattle.std.specs.Borrow.{Bor}
use Rattle.c_grammar.specs.Blocks.{Items, is_directive}
use Rattle.c_grammar.specs.Conditions.{Heading, decided_item, depth_behind, first_word, kept, leave_on, leaves, line_outcome, put_outcome, with_words}
use Rattle.c_grammar.specs.Lexeme.{Lexeme, Placed}
use Rattle.c_grammar.specs.Lines.{is_omp}
use Rattle.c_grammar.specs.Terminal.{Line}
use Rattle.directives.specs.declared.lexeme.PlacedLexeme.{PlacedLexeme}
use Rattle.directives.specs.declared.line_tokens.LineTokens.{LineTokens}
use Rattle.directives.specs.Ahead.{seen_line}
use Rattle.directives.specs.Seen.{is_whole, seen_placed}
use Rattle.directives.specs.Spells.{kinds_of}
use Rattle.c_terminals.specs.declared.token.Terminal.{Terminal as Given}
use Rattle.c_terminals.specs.declared.token.Terminal.TheVariants as given
use Rattle.c_terminals.specs.declared.token.Token.{Token}
use Rattle.c_terminals.specs.Seen.{seen, seen_terminal}
use Rattle.c_written.specs.Forms.{all_placed}
use Rattle.c_written.specs.Spots.{all_kinds}
use Rattle.c_terminals.proofs.Placing.{placed_again}
use Rattle.c_written.proofs.Guarding.{item_at, line_item}
use Rattle.c_written.proofs.WholeBounds.{whole_behind, whole_front}
use Rattle.c_written.proofs.WholeLines.{whole_cons}

-- ---- words

pub take_kinds : (n : ℕ) (ts : List PlacedLexeme) → all_kinds (take n ts) ≡ take n (all_kinds ts)
take_kinds zero ts = refl
take_kinds (suc n) [] = refl
take_kinds (suc n) (t ∷ ts) = ap (λ (us : List Lexeme). (seen_placed t).lexeme ∷ us) (take_kinds n ts)

pub drop_kinds : (n : ℕ) (ts : List PlacedLexeme) → all_kinds (drop n ts) ≡ drop n (all_kinds ts)
drop_kinds zero ts = refl
drop_kinds (suc n) [] = refl
drop_kinds (suc n) (t ∷ ts) = drop_kinds n ts

pub rest_kinds : (n m : ℕ) (ts : List PlacedLexeme) → length ts - n ≤ m → all_kinds (take m (drop n ts)) ≡ drop n (all_kinds ts)
rest_kinds n m ts e = ap all_kinds (take_all m (drop n ts) (omega (arith, e, length-drop n ts))) ∙ drop_kinds n ts

-- ---- the line

abbrev Whole : Heading → List Placed → Type 0
Whole h ps = (d k : ℕ) → is_whole (kept h d k ps) ≡ true

leave_whole : (h : Heading) (d : ℕ) (p q : Placed) (ps : List Placed) (o : Option ℕ) → is_whole (p ∷ q ∷ ps) ≡ true →
    Whole h (q ∷ ps) → is_whole (leave_on d p o (λ d k. kept h d k (q ∷ ps))) ≡ true
leave_whole h d p q ps None w e =
    whole_cons p (kept h (depth_behind p.lexeme d) 0 (q ∷ ps)) (whole_front p q ps w) (e (depth_behind p.lexeme d) 0)
leave_whole h d p q ps (Some k) w e = e 0 k

kept_whole : (h : Heading) (ps : List Placed) → is_whole ps ≡ true → Whole h ps
kept_whole h [] w d k = absurd cc
kept_whole h (p ∷ []) w d zero = w
kept_whole h (p ∷ []) w d (suc k) = w
kept_whole h (p ∷ q ∷ ps) w d (suc k) = kept_whole h (q ∷ ps) (whole_behind p q ps w) d k
kept_whole h (p ∷ q ∷ ps) w d zero =
    leave_whole h d p q ps (leaves h d (p ∷ q ∷ ps)) w (kept_whole h (q ∷ ps) (whole_behind p q ps w))

pub short_outcome : (ls : List Placed) (ts : List Lexeme) (is : Items) → length ls < 2 → Some ls ≡ line_outcome ls ts is
short_outcome [] ts is e = refl
short_outcome (p ∷ []) ts is e = refl
short_outcome (p ∷ o ∷ ps) ts is e = absurd (omega (arith, e))

pub other_outcome : (us : List PlacedLexeme) (ts : List Lexeme) (is : Items) → 2 ≤ length us →
    first_word (all_placed (take (length us - 2) (drop 2 us))) ≡ false →
    Some (all_placed us) ≡ line_outcome (all_placed us) ts is
other_outcome [] ts is h e = absurd (omega (arith, h))
other_outcome (u ∷ []) ts is h e = absurd (omega (arith, h))
other_outcome (u ∷ v ∷ us) ts is h e =
    let all : take (length (u ∷ v ∷ us) - 2) us ≡ us = take_all (length (u ∷ v ∷ us) - 2) us (omega arith) in
    let other : first_word (all_placed us) ≡ false = sym (ap (λ (vs : List PlacedLexeme). first_word (all_placed vs)) all) ∙ e in
    rw other refl

-- with the words before
pub words_whole : (h : Heading) (p o : Placed) (ps : List Placed) → is_whole (p ∷ o ∷ ps) ≡ true →
    is_whole (p ∷ o ∷ kept h 0 0 ps) ≡ true
words_whole h p o [] w = w
words_whole h p o (r ∷ rs) w =
    let rest : List Placed = kept h 0 0 (r ∷ rs) in
    let behind = whole_behind p o (r ∷ rs) w in
    whole_cons p (o ∷ rest) (whole_front p o (r ∷ rs) w)
    (whole_cons o rest (whole_front o r rs behind) (kept_whole h (r ∷ rs) (whole_behind o r rs behind) 0 0))

-- ---- the token

-- what is put for a line
abbrev pub put_of : Token → Option (List Placed) → Items
put_of t None = []
put_of t (Some ps) = line_item t ps ∷ []

words_put : (t : Token) (p o : Placed) (ps : List Placed) (b : Bool) (x : Option (List Placed)) →
    put_outcome (line_item t (p ∷ o ∷ ps)) (kinds_of (p ∷ o ∷ ps)) (cond b (with_words p o x) (Some (p ∷ o ∷ ps)))
    ≡ put_of t (cond b (with_words p o x) (Some (p ∷ o ∷ ps)))
words_put t p o ps true None = refl
words_put t p o ps true (Some qs) = refl
words_put t p o ps false x = refl

front_put : (t : Token) (ls : List Placed) (is : Items) → is_omp (kinds_of ls) ≡ true →
    put_outcome (line_item t ls) (kinds_of ls) (line_outcome ls (kinds_of ls) is) ≡ put_of t (line_outcome ls (kinds_of ls) is)
unfolding is_omp
front_put t [] is e = refl
front_put t (p ∷ []) is e = absurd cc
front_put t (p ∷ o ∷ ps) is e = words_put t p o ps _ _

put_line : (t : Token) (ls : List Placed) (is : Items) → is_omp (kinds_of ls) ≡ true →
    decided_item (line_item t ls) (Line (kinds_of ls)) is ≡ put_of t (line_outcome ls (kinds_of ls) is)
put_line t ls is e =
    rw e (ap (λ (qs : List Placed). put_outcome (line_item t ls) (kinds_of ls) (line_outcome qs (kinds_of ls) is)) (placed_again ls)
    ∙ front_put t ls is e)

pub decided_put : (t : Token) (l : Bor LineTokens) (is : Items) → t.terminal ≡ given.Line l →
    is_directive (seen_terminal t.terminal) ≡ true →
    put_of t (line_outcome (seen_line l.now) (kinds_of (seen_line l.now)) is) ≡ decided_item (seen t) (seen_terminal t.terminal) is
decided_put t l is e d =
    let omp = sym (ap (λ (g : Given). is_directive (seen_terminal g)) e) ∙ d in
    sym (put_line t (seen_line l.now) is omp)
    ∙ sym (ap (λ (g : Given). decided_item (item_at t g) (seen_terminal g) is) e)
