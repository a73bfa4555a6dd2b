-- The line of a target that is taken apart, and that of the region of data in its place.
use Rattle.std.proofs.Common.{◌≡◌, ◌∙◌, ℕ, ◌+◌, ◌-◌, ◌<◌, Bool, true, false, cond, List, [], ◌∷◌, ◌++◌, length, drop, map, refl, sym, ap, arith}
use Rattle.std.specs.Borrow.{Bor}
use Rattle.std.specs.Prelude.{◌&&◌, ◌==◌, not, codes}
use Rattle.c_grammar.specs.Blocks.{Items, is_directive}
use Rattle.c_grammar.specs.Constants.{behind_two, front_two, with_tokens}
use Rattle.c_grammar.specs.Lexeme.{Lexeme, Placed, Worded}
use Rattle.c_grammar.specs.Lines.{is_omp}
use Rattle.c_grammar.specs.Nesting.{moves, name_len}
use Rattle.c_grammar.specs.Presence.{closes_list, is_target, opens_list}
use Rattle.c_grammar.specs.Sequences.{Between, data_line, data_tokens, fits, has_clause, holds, is_of_data, may_part, of_data, parts, parts_line, put_if}
use Rattle.c_grammar.specs.Terminal.{Terminal, Line}
use Rattle.directives.specs.declared.lexeme.PlacedLexeme.{PlacedLexeme}
use Rattle.directives.specs.declared.line_tokens.LineTokens.{LineTokens}
use Rattle.directives.specs.Ahead.{seen_line}
use Rattle.directives.specs.Seen.{all_end_well, ends_well, is_whole}
use Rattle.directives.specs.Spells.{columns_of, kinds_of}
use Rattle.c_terminals.specs.declared.token.Terminal.{Terminal as Given}
use Rattle.c_terminals.specs.declared.token.Terminal.TheVariants as given
use Rattle.c_terminals.specs.declared.token.Token.{Token}
use Rattle.c_terminals.specs.Seen.{seen, seen_terminal}
use Rattle.c_terminals.proofs.Placing.{placed_again}
use Rattle.c_written.specs.Forms.{all_placed}
use Rattle.c_written.proofs.Guarding.{first_true, item_at, line_item, second_true, whole_more}

none_of : (a c d : Bool) → (a && false && c && d) ≡ false
none_of true c d = refl
none_of false c d = refl

-- a line of three tokens is none
pub short_not : (ts : List Lexeme) → length ts < 3 → may_part ts ≡ false
short_not [] h = none_of (is_omp []) _ _
short_not (a ∷ []) h = none_of (is_omp (a ∷ [])) _ _
short_not (a ∷ b ∷ []) h = none_of (is_omp (a ∷ b ∷ [])) _ _
short_not (a ∷ b ∷ c ∷ ts) h = absurd (omega (arith, h))

pub short_line : (ts : List PlacedLexeme) (ls : List Placed) → all_placed ts ≡ ls → length ts < 3 → false ≡ may_part (kinds_of ls)
short_line [] ls e h = sym (ap (λ (ps : List Placed). may_part (kinds_of ps)) (sym e) ∙ short_not [] h)
short_line (a ∷ []) ls e h =
    sym (ap (λ (ps : List Placed). may_part (kinds_of ps)) (sym e) ∙ short_not (kinds_of (all_placed (a ∷ []))) h)
short_line (a ∷ b ∷ []) ls e h =
    sym (ap (λ (ps : List Placed). may_part (kinds_of ps)) (sym e) ∙ short_not (kinds_of (all_placed (a ∷ b ∷ []))) h)
short_line (a ∷ b ∷ c ∷ ts) ls e h = absurd (omega (arith, h))

put_whole : (b : Bool) (p : Placed) (ps : List Placed) → ends_well p.lexeme false ≡ true → is_whole ps ≡ true →
    is_whole (put_if b p ps) ≡ true
put_whole true p ps e h = whole_more p ps e h
put_whole false p ps e h = h

either_whole : (b : Bool) (x y : List Placed) → is_whole x ≡ true → is_whole y ≡ true → is_whole (cond b x y) ≡ true
either_whole true x y e f = e
either_whole false x y e f = f

of_data_whole : (ps : List Placed) (b : Bool) (d : ℕ) → is_whole ps ≡ true → is_whole (of_data b d ps) ≡ true
of_data_whole [] b d e = absurd cc
of_data_whole (p ∷ []) b d e = e
of_data_whole (p ∷ q ∷ ps) b d e =
    let f : ends_well p.lexeme false ≡ true = first_true (ends_well p.lexeme false) (all_end_well (q ∷ ps)) e in
    let g : is_whole (q ∷ ps) ≡ true = second_true (ends_well p.lexeme false) (all_end_well (q ∷ ps)) e in
    either_whole (opens_list p.lexeme) _ _ (put_whole b p _ f (of_data_whole (q ∷ ps) b (d + 1) g))
    (either_whole (closes_list p.lexeme) _ _ (put_whole b p _ f (of_data_whole (q ∷ ps) b (d - 1) g))
    (either_whole (d == 0) _ _
    (put_whole (is_of_data p.lexeme) p _ f (of_data_whole (q ∷ ps) (is_of_data p.lexeme) 0 g))
    (put_whole b p _ f (of_data_whole (q ∷ ps) b d g))))

first_of : (a b c d : Bool) → (a && b && c && d) ≡ true → a ≡ true
first_of true b c d e = refl
first_of false b c d e = absurd cc

second_of : (a b c d : Bool) → (a && b && c && d) ≡ true → b ≡ true
second_of true true c d e = refl
second_of true false c d e = absurd cc
second_of false b c d e = absurd cc

pub is_directive_line : (ts : List Lexeme) → may_part ts ≡ true → is_omp ts ≡ true
is_directive_line ts e = first_of (is_omp ts) (is_target ts) (name_len (drop 3 ts) == 0) _ e

pub is_target_line : (ts : List Lexeme) → may_part ts ≡ true → is_target ts ≡ true
is_target_line ts e = second_of (is_omp ts) (is_target ts) (name_len (drop 3 ts) == 0) _ e

-- the line of the region of data ends as that of the target
pub data_whole : (ps : List Placed) → is_whole ps ≡ true → is_target (kinds_of ps) ≡ true → is_whole (data_tokens ps) ≡ true
data_whole [] e t = absurd cc
data_whole (p ∷ []) e t = absurd cc
data_whole (p ∷ o ∷ []) e t = absurd cc
data_whole (p ∷ o ∷ q ∷ []) e t = absurd cc
data_whole (p ∷ o ∷ q ∷ u ∷ ps) e t =
    let a = first_true (ends_well p.lexeme false) (all_end_well (o ∷ q ∷ u ∷ ps)) e in
    let e1 = second_true (ends_well p.lexeme false) (all_end_well (o ∷ q ∷ u ∷ ps)) e in
    let b = first_true (ends_well o.lexeme false) (all_end_well (q ∷ u ∷ ps)) e1 in
    let e2 = second_true (ends_well o.lexeme false) (all_end_well (q ∷ u ∷ ps)) e1 in
    let c = first_true (ends_well q.lexeme false) (all_end_well (u ∷ ps)) e2 in
    let e3 = second_true (ends_well q.lexeme false) (all_end_well (u ∷ ps)) e2 in
    let rest : List Placed = of_data false 0 (u ∷ ps) in
    let word : Placed = record { lexeme = Worded (codes "data"); column = q.column } in
    whole_more p (o ∷ q ∷ word ∷ rest) a (whole_more o (q ∷ word ∷ rest) b (whole_more q (word ∷ rest) c
    (whole_more word rest refl (of_data_whole (u ∷ ps) false 0 e3))))

data_front : (ls : List Placed) → is_target (kinds_of ls) ≡ true →
    front_two (kinds_of ls) ++ map (λ p. p.lexeme) (behind_two (data_tokens ls)) ≡ kinds_of (data_tokens ls)
data_front [] e = absurd cc
data_front (p ∷ []) e = absurd cc
data_front (p ∷ q ∷ []) e = absurd cc
data_front (p ∷ q ∷ r ∷ []) e = absurd cc
data_front (p ∷ q ∷ r ∷ s ∷ ls) e = refl

data_at : (t : Token) (ls : List Placed) → may_part (kinds_of ls) ≡ true → has_clause (codes "map") 0 (kinds_of ls) ≡ true →
    data_line (line_item t ls) (Line (kinds_of ls)) ≡ line_item t (data_tokens ls) ∷ []
data_at t ls e m =
    rw (is_directive_line (kinds_of ls) e)
    (rw m (ap (λ (qs : List Placed). with_tokens (line_item t ls) (kinds_of ls) (data_tokens qs) ∷ []) (placed_again ls)
    ∙ ap (λ (ts : List Lexeme). record {
      terminal = Line ts;
      line = t.line;
      column = t.column;
      columns = columns_of (data_tokens ls);
    } ∷ []) (data_front ls (is_target_line (kinds_of ls) e))))

pub line_parts : (t : Token) (l : Bor LineTokens) → t.terminal ≡ given.Line l → parts_line (seen_terminal t.terminal) ≡ true →
    may_part (kinds_of (seen_line l.now)) ≡ true
line_parts t l e h = sym (ap (λ (g : Given). parts_line (seen_terminal g)) e) ∙ h

-- what is put of the line of a target that maps something
pub data_put : (t : Token) (l : Bor LineTokens) (qs : List Placed) → t.terminal ≡ given.Line l →
    parts_line (seen_terminal t.terminal) ≡ true → has_clause (codes "map") 0 (kinds_of (seen_line l.now)) ≡ true →
    qs ≡ data_tokens (seen_line l.now) → line_item t qs ∷ [] ≡ data_line (seen t) (seen_terminal t.terminal)
data_put t l qs e h m f =
    ap (λ (ps : List Placed). line_item t ps ∷ []) f ∙ sym (data_at t (seen_line l.now) (line_parts t l e h) m)
    ∙ sym (ap (λ (g : Given). data_line (item_at t g) (seen_terminal g)) e)

without : (a b : Bool) (x : Items) → b ≡ false → cond (a && b) x [] ≡ []
without true b x e = rw e refl
without false b x e = refl

-- and of one that maps nothing
pub data_none : (t : Token) (l : Bor LineTokens) → t.terminal ≡ given.Line l →
    has_clause (codes "map") 0 (kinds_of (seen_line l.now)) ≡ false → data_line (seen t) (seen_terminal t.terminal) ≡ []
data_none t l e m =
    ap (λ (g : Given). data_line (item_at t g) (seen_terminal g)) e
    ∙ without (is_omp (kinds_of (seen_line l.now))) (has_clause (codes "map") 0 (kinds_of (seen_line l.now))) _ m

front_of : (a b c d f : Bool) → (a && b && c && d && f) ≡ true → a ≡ true
front_of true b c d f e = refl
front_of false b c d f e = absurd cc

-- a target that is taken apart has such a line
pub parts_of_line : (t : Terminal) (is : Items) → parts t is ≡ true → parts_line t ≡ true
parts_of_line t [] e = absurd cc
parts_of_line t (j ∷ js) e =
    front_of (parts_line t) (not (is_directive j.terminal)) (not (moves t j js)) (holds t 0 (j ∷ js))
    (fits t (Between 0) (j ∷ js)) e
