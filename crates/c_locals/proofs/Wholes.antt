-- A line whose second word stands twice has its end, and the words of the directive, as before.
use Rattle.std.proofs.Common.{◌≡◌, ◌∙◌, Bool, true, false, List, [], ◌∷◌, ◌++◌, refl, sym, ap}
use Rattle.std.specs.Prelude.{◌&&◌}
use Rattle.std.specs.Borrow.{Bor}
use Rattle.c_grammar.specs.Blocks.{is_directive}
use Rattle.c_grammar.specs.Constants.{behind_two, front_two, with_tokens}
use Rattle.c_grammar.specs.Lexeme.{Lexeme, Placed}
use Rattle.c_grammar.specs.Lines.{is_omp}
use Rattle.c_grammar.specs.Locals.{line_twice, twice}
use Rattle.c_grammar.specs.Terminal.{Terminal, Line}
use Rattle.c_grammar.specs.Texts.{Item}
use Rattle.directives.specs.declared.line_tokens.LineTokens.{LineTokens}
use Rattle.directives.specs.Ahead.{seen_line}
use Rattle.directives.specs.Seen.{all_end_well, ends_well, is_whole}
use Rattle.directives.specs.Spells.{columns_of, kinds_of}
use Rattle.c_terminals.specs.declared.token.Terminal.{Terminal as Given}
use Rattle.c_terminals.specs.declared.token.Terminal.TheVariants as given
use Rattle.c_terminals.specs.declared.token.Token.{Token}
use Rattle.c_terminals.specs.Seen.{item_at, seen, seen_terminal}
use Rattle.c_terminals.proofs.Placing.{placed_again}

-- ---- the end

first_true : (a b : Bool) → (a && b) ≡ true → a ≡ true
first_true true b e = refl
first_true false b e = e

second_true : (a b : Bool) → (a && b) ≡ true → b ≡ true
second_true true b e = e
second_true false b e = absurd cc

whole_more : (p : Placed) (ps : List Placed) → ends_well p.lexeme false ≡ true → is_whole ps ≡ true → is_whole (p ∷ ps) ≡ true
whole_more p [] e h = absurd cc
whole_more p (q ∷ qs) e h = rw e h

pub twice_whole : (ps : List Placed) → is_whole ps ≡ true → is_whole (twice ps) ≡ true
twice_whole [] e = e
twice_whole (p ∷ []) e = e
twice_whole (p ∷ q ∷ []) e = e
twice_whole (p ∷ q ∷ r ∷ ps) e =
    let h : is_whole (q ∷ r ∷ ps) ≡ true = second_true (ends_well p.lexeme false) (all_end_well (q ∷ r ∷ ps)) e in
    whole_more p (q ∷ q ∷ r ∷ ps) (first_true (ends_well p.lexeme false) (all_end_well (q ∷ r ∷ ps)) e)
    (whole_more q (q ∷ r ∷ ps) (first_true (ends_well q.lexeme false) (all_end_well (r ∷ ps)) h) h)

-- ---- the words of the directive

in_front : (ls : List Placed) → is_omp (kinds_of ls) ≡ true →
    front_two (kinds_of ls) ++ kinds_of (behind_two (twice ls)) ≡ kinds_of (twice ls)
unfolding is_omp
in_front [] e = absurd cc
in_front (p ∷ []) e = absurd cc
in_front (p ∷ q ∷ []) e = refl
in_front (p ∷ q ∷ r ∷ ls) e = refl

abbrev pub line_item : Token → List Placed → Item Terminal
line_item t ps = record { terminal = Line (kinds_of ps); line = t.line; column = t.column; columns = columns_of ps }

put_line : (t : Token) (ls : List Placed) → is_omp (kinds_of ls) ≡ true →
    line_twice (line_item t ls) (Line (kinds_of ls)) ≡ line_item t (twice ls)
put_line t ls e =
    ap (λ (qs : List Placed). with_tokens (line_item t ls) (kinds_of ls) (twice qs)) (placed_again ls)
    ∙ ap (λ (ts : List Lexeme). record {
      terminal = Line ts;
      line = t.line;
      column = t.column;
      columns = columns_of (twice ls);
    }) (in_front ls e)

pub line_put : (t : Token) (l : Bor LineTokens) (qs : List Placed) → t.terminal ≡ given.Line l →
    is_directive (seen_terminal t.terminal) ≡ true → qs ≡ twice (seen_line l.now) →
    line_item t qs ≡ line_twice (seen t) (seen_terminal t.terminal)
line_put t l qs e d g =
    let omp = sym (ap (λ (g : Given). is_directive (seen_terminal g)) e) ∙ d in
    ap (line_item t) g ∙ sym (put_line t (seen_line l.now) omp)
    ∙ sym (ap (λ (g : Given). line_twice (item_at t g) (seen_terminal g)) e)
