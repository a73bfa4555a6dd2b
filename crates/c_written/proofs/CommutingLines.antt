-- Directive lines as they are put, and the region behind them.
use Rattle.std.proofs.Common.{◌≡◌, ◌∙◌, ℕ, Bool, true, false, cond, List, [], ◌∷◌, ◌++◌, Option, Some, None, refl, sym, ap, arith}
use Rattle.std.specs.Borrow.{Bor}
use Rattle.std.specs.Prelude.{◌&&◌, codes}
use Rattle.std.specs.Str.{bytes_eq}
use Rattle.std.proofs.lemmas.Slice.Eq.{bytes_eq-Decides}
use Rattle.c_grammar.specs.Lexeme.{Lexeme, Reserved, Signed, Worded, Numbered, Strange, Ended, Placed}
use Rattle.c_grammar.specs.Terminal.{Terminal, Fixed, Mark, Name, Num, Line, Unknown, Unworked, End}
use Rattle.c_grammar.specs.Texts.{Item}
use Rattle.c_grammar.specs.Blocks.{Items, bare, is_directive}
use Rattle.c_grammar.specs.Constants.{behind_two, front_two, with_tokens}
use Rattle.c_grammar.specs.Expressions.{placed_of}
use Rattle.c_grammar.specs.Lines.{is_omp}
use Rattle.c_grammar.specs.Presence.{is_word}
use Rattle.c_grammar.specs.Updates.{Inside, OnRegion, Reduction, Region, atomic_tokens, clause_on, commuting, directive_on, has_extreme, has_update, is_atomic, is_combined, is_compare, line_on, reduced, reduction_at, summed, taken, taken_at}
use Rattle.directives.specs.declared.line_tokens.LineTokens.{LineTokens}
use Rattle.directives.specs.Ahead.{seen_line}
use Rattle.directives.specs.Spells.{columns_of, kinds_of}
use Rattle.c_terminals.specs.declared.token.Terminal.{Terminal as Given}
use Rattle.c_terminals.specs.declared.token.Terminal.TheVariants as given
use Rattle.c_terminals.specs.declared.token.Token.{Token}
use Rattle.c_terminals.specs.Seen.{seen, seen_terminal}
use Rattle.c_written.specs.Updates.{line_changed, line_put, line_region}
use Rattle.c_terminals.proofs.Placing.{placed_again}
use Rattle.c_written.proofs.Guarding.{first_true, item_at, line_item, second_true}

-- ---- the two words

other_word : (x y : List ℕ) (t : Lexeme) → bytes_eq y x ≡ false → is_word x t ≡ true → is_word y t ≡ false
other_word x y (Worded z) e f = ap (bytes_eq y) (sym ((bytes_eq-Decides x z).0 f)) ∙ e
other_word x y (Reserved w) e f = refl
other_word x y (Signed s) e f = refl
other_word x y (Numbered n) e f = refl
other_word x y Strange e f = refl
other_word x y Ended e f = refl

no_clause : (ts : List Lexeme) (is : Items) (w : Lexeme) (us : List Lexeme) → is_word (codes "reduction") w ≡ false →
    taken_at ts is (w ∷ us) ≡ None
no_clause ts is w us e = ap (taken ts is) (none us)
  where
    none : (us : List Lexeme) → reduction_at (w ∷ us) ≡ None
    none [] = refl
    none (o ∷ []) = refl
    none (o ∷ s ∷ []) = refl
    none (o ∷ s ∷ c ∷ vs) = rw e refl

stays : (ts : List Lexeme) (is : Items) (p : Placed) (ps : List Placed) → is_word (codes "reduction") p.lexeme ≡ false →
    reduced ts is 0 (p ∷ ps) ≡ p ∷ reduced ts is 0 ps
stays ts is p ps e =
    ap (λ (o : Option Reduction). clause_on ts p o (λ k. reduced ts is k ps)) (no_clause ts is p.lexeme (kinds_of ps) e)

begins : (ts : List Lexeme) (is : Items) (p q : Placed) (ps : List Placed) → is_omp (kinds_of (p ∷ q ∷ ps)) ≡ true →
    reduced ts is 0 (p ∷ q ∷ ps) ≡ p ∷ q ∷ reduced ts is 0 ps
unfolding is_omp
begins ts is p q ps e =
    let pragma = first_true (is_word (codes "pragma") p.lexeme) (is_word (codes "omp") q.lexeme) e in
    let omp = second_true (is_word (codes "pragma") p.lexeme) (is_word (codes "omp") q.lexeme) e in
    stays ts is p (q ∷ ps) (other_word (codes "pragma") (codes "reduction") p.lexeme refl pragma)
    ∙ ap (λ (rs : List Placed). p ∷ rs) (stays ts is q ps (other_word (codes "omp") (codes "reduction") q.lexeme refl omp))

in_front : (ts : List Lexeme) (is : Items) (ps : List Placed) → is_omp (kinds_of ps) ≡ true →
    front_two (kinds_of ps) ++ kinds_of (behind_two (reduced ts is 0 ps)) ≡ kinds_of (reduced ts is 0 ps)
unfolding is_omp
in_front ts is [] e = absurd cc
in_front ts is (p ∷ []) e = absurd cc
in_front ts is (p ∷ q ∷ ps) e =
    let same = begins ts is p q ps e in
    ap (λ (rs : List Placed). p.lexeme ∷ q.lexeme ∷ kinds_of (behind_two rs)) same ∙ ap kinds_of (sym same)

atomic_front : (b : Bool) (ps : List Placed) → is_atomic (kinds_of ps) ≡ true →
    front_two (kinds_of ps) ++ kinds_of (behind_two (atomic_tokens b ps)) ≡ kinds_of (atomic_tokens b ps)
atomic_front b [] e = absurd cc
atomic_front b (p ∷ []) e = absurd cc
atomic_front b (p ∷ o ∷ []) e = absurd cc
atomic_front b (p ∷ o ∷ a ∷ ps) e = refl

compare_front : (ps : List Placed) → is_compare (kinds_of ps) ≡ true →
    front_two (kinds_of ps) ++ kinds_of (behind_two (atomic_tokens true ps)) ≡ kinds_of (atomic_tokens true ps)
compare_front [] e = absurd cc
compare_front (p ∷ []) e = absurd cc
compare_front (p ∷ o ∷ []) e = absurd cc
compare_front (p ∷ o ∷ a ∷ ps) e = refl

-- ---- the line

abbrev line_of : Token → List Placed → List Lexeme → Item Terminal
line_of t ps ts = record { terminal = Line ts; line = t.line; column = t.column; columns = columns_of ps }

combined_item : (t : Token) (ls : List Placed) (is : Items) → is_omp (kinds_of ls) ≡ true → is_combined (kinds_of ls) ≡ true →
    line_changed (line_item t ls) (kinds_of ls) is ≡ line_item t (reduced (kinds_of ls) is 0 ls)
combined_item t ls is e f =
    rw f (ap (λ (qs : List Placed). with_tokens (line_item t ls) (kinds_of ls) (reduced (kinds_of ls) is 0 qs)) (placed_again ls)
    ∙ ap (line_of t (reduced (kinds_of ls) is 0 ls)) (in_front (kinds_of ls) is ls e))

atomic_item : (t : Token) (ls : List Placed) (is : Items) → is_combined (kinds_of ls) ≡ false → is_atomic (kinds_of ls) ≡ true →
    line_changed (line_item t ls) (kinds_of ls) is ≡ line_item t (atomic_tokens (has_update (bare is)) ls)
atomic_item t ls is e f =
    rw (e, f) (ap (λ (qs : List Placed). with_tokens (line_item t ls) (kinds_of ls) (atomic_tokens (has_update (bare is)) qs))
    (placed_again ls)
    ∙ ap (line_of t (atomic_tokens (has_update (bare is)) ls)) (atomic_front (has_update (bare is)) ls f))

compare_item : (t : Token) (ls : List Placed) (is : Items) → is_combined (kinds_of ls) ≡ false →
    is_atomic (kinds_of ls) ≡ false → is_compare (kinds_of ls) ≡ true → has_extreme is ≡ true →
    line_changed (line_item t ls) (kinds_of ls) is ≡ line_item t (atomic_tokens true ls)
compare_item t ls is c a k h =
    rw (c, a, k, h) (ap (λ (qs : List Placed). with_tokens (line_item t ls) (kinds_of ls) (atomic_tokens true qs)) (placed_again ls)
    ∙ ap (line_of t (atomic_tokens true ls)) (compare_front ls k))

put_at : (t : Token) (l : Bor LineTokens) (is : Items) → t.terminal ≡ given.Line l →
    line_put (seen t) (seen_terminal t.terminal) is
    ≡ line_changed (line_item t (seen_line l.now)) (kinds_of (seen_line l.now)) is
put_at t l is e = ap (λ (g : Given). line_put (item_at t g) (seen_terminal g) is) e

pub combined_put : (t : Token) (l : Bor LineTokens) (is : Items) (qs : List Placed) → t.terminal ≡ given.Line l →
    is_directive (seen_terminal t.terminal) ≡ true → is_combined (kinds_of (seen_line l.now)) ≡ true →
    qs ≡ reduced (kinds_of (seen_line l.now)) is 0 (seen_line l.now) →
    line_item t qs ≡ line_put (seen t) (seen_terminal t.terminal) is
combined_put t l is qs e d f g =
    let omp = sym (ap (λ (g : Given). is_directive (seen_terminal g)) e) ∙ d in
    ap (line_item t) g ∙ sym (put_at t l is e ∙ combined_item t (seen_line l.now) is omp f)

pub atomic_put : (t : Token) (l : Bor LineTokens) (is js : Items) (b : Bool) (qs : List Placed) → t.terminal ≡ given.Line l →
    is_combined (kinds_of (seen_line l.now)) ≡ false → is_atomic (kinds_of (seen_line l.now)) ≡ true → js ≡ bare is →
    b ≡ has_update js → qs ≡ atomic_tokens b (seen_line l.now) →
    line_item t qs ≡ line_put (seen t) (seen_terminal t.terminal) is
atomic_put t l is js b qs e c f j u g =
    ap (line_item t) (g ∙ ap (λ (x : Bool). atomic_tokens x (seen_line l.now)) (u ∙ ap has_update j))
    ∙ sym (put_at t l is e ∙ atomic_item t (seen_line l.now) is c f)

pub compare_put : (t : Token) (l : Bor LineTokens) (is : Items) (b : Bool) (qs : List Placed) → t.terminal ≡ given.Line l →
    is_combined (kinds_of (seen_line l.now)) ≡ false → is_atomic (kinds_of (seen_line l.now)) ≡ false →
    is_compare (kinds_of (seen_line l.now)) ≡ true → b ≡ has_extreme is → b ≡ true →
    qs ≡ atomic_tokens true (seen_line l.now) →
    line_item t qs ≡ line_put (seen t) (seen_terminal t.terminal) is
compare_put t l is b qs e c a k h j g =
    ap (line_item t) g
    ∙ sym (put_at t l is e ∙ compare_item t (seen_line l.now) is c a k (sym h ∙ j))

-- ---- what follows

goes : (i : Item Terminal) (t : Terminal) (is : Items) (r : Region) (go : OnRegion) →
    directive_on i t is r go ≡ line_put i t is ∷ go (line_region t is r)
goes i (Line ts) is r go = by (is_combined ts) (is_atomic ts) (is_compare ts && has_extreme is)
  where
    by : (a b d : Bool) →
        cond a (with_tokens i ts (reduced ts is 0 (placed_of ts i.columns)) ∷ go (Inside (summed ts is ts) 0 false))
        (cond b (with_tokens i ts (atomic_tokens (has_update (bare is)) (placed_of ts i.columns)) ∷ go r)
        (cond d (with_tokens i ts (atomic_tokens true (placed_of ts i.columns)) ∷ go r) (i ∷ go r)))
        ≡ cond a (with_tokens i ts (reduced ts is 0 (placed_of ts i.columns)))
        (cond b (with_tokens i ts (atomic_tokens (has_update (bare is)) (placed_of ts i.columns)))
        (cond d (with_tokens i ts (atomic_tokens true (placed_of ts i.columns))) i))
        ∷ go (cond a (Inside (summed ts is ts) 0 false) r)
    by true b d = refl
    by false true d = refl
    by false false true = refl
    by false false false = refl
goes i (Fixed w) is r go = refl
goes i (Mark s) is r go = refl
goes i (Name x) is r go = refl
goes i (Num n) is r go = refl
goes i Unknown is r go = refl
goes i Unworked is r go = refl
goes i End is r go = refl

pub line_goes : (i : Item Terminal) (is : Items) (r : Region) → is_directive i.terminal ≡ true →
    commuting r (i ∷ is) ≡ line_put i i.terminal is ∷ commuting (line_region i.terminal is r) is
line_goes i is r e = rw e (goes i i.terminal is r (λ r. commuting r is))
