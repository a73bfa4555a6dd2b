-- Macros, one token or one name after another.
use Rattle.std.proofs.Common.{◌≡◌, ◌∙◌, ℕ, ◌-◌, ◌<◌, ◌≤◌, Bool, true, false, cond, Option, Some, None, List, [], ◌∷◌, ◌++◌, length, drop, get_or, map, take, refl, sym, ap, append_assoc, arith}
use Rattle.std.specs.Prelude.{◌||◌, codes}
use Rattle.std.specs.Borrow.{Bor}
use Rattle.std.proofs.lemmas.List.{append-nil, map-append, take_all}
use Rattle.c_tokens.specs.declared.kind.Sign.TheVariants as sign
use Rattle.c_grammar.specs.Terminal.{Terminal, Mark, Num, Line, same}
use Rattle.c_grammar.specs.Blocks.{Items, bare}
use Rattle.c_grammar.specs.Constants.{Names, is_among}
use Rattle.c_grammar.specs.Expressions.{as_items, as_terminal}
use Rattle.c_grammar.specs.LineRules.{is_among as is_listed}
use Rattle.c_grammar.specs.Macros.{Defined, Macros, Other, State, begin, defined_at, defined_in, has_call, has_macro, has_some, in_order, is_comment, known, line_on, macro, parameters_from, read, replaced, token_on}
use Rattle.directives.specs.declared.lexeme.PlacedLexeme.{PlacedLexeme}
use Rattle.directives.specs.declared.lexeme.Lexeme.TheVariants as lexeme
use Rattle.directives.specs.Seen.{seen_lexeme, seen_placed}
use Rattle.directives.specs.Ahead.{seen_line}
use Rattle.directives.specs.Spells.{kinds_of}
use Rattle.directives.specs.declared.line_tokens.LineTokens.{LineTokens}
use Rattle.c_grammar.specs.Lexeme.{Placed}
use Rattle.c_terminals.proofs.Placing.{placed_again}
use Rattle.c_macros.specs.declared.macros.Macro.{Macro as GivenMacro}
use Rattle.c_macros.specs.Macros.{all_macros, names_of}
use Rattle.c_macros.specs.Text.{whole}
use Rattle.c_grammar.proofs.BareMacros.{in_order_same}
use Rattle.c_terminals.specs.declared.token.Terminal.{Terminal as Given}
use Rattle.c_terminals.specs.declared.token.Terminal.TheVariants as given
use Rattle.c_terminals.specs.declared.token.Token.{Token}
use Rattle.c_terminals.specs.Seen.{item_at, seen, seen_all, seen_terminal}
use Rattle.c_terminals.proofs.Among as among

pub among_same : (xs : Names) (x : List ℕ) → is_listed xs x ≡ is_among xs x
among_same xs x = among.among_same xs x

-- ---- lines

pub defined_short : (ps : List PlacedLexeme) → length ps < 2 → defined_in (as_items 0 (map seen_placed ps)) ≡ Other
defined_short [] h = refl
defined_short (p ∷ []) h = refl
defined_short (p ∷ q ∷ ps) h = absurd (omega arith)

pub comment_short : (ps : List PlacedLexeme) → length ps < 2 → is_comment (as_items 0 (map seen_placed ps)) ≡ false
comment_short [] h = refl
comment_short (p ∷ []) h = refl
comment_short (p ∷ q ∷ ps) h = absurd (omega arith)

pub parameters_short : (ps : Names) (ls : List PlacedLexeme) → length ls < 2 →
    parameters_from ps (as_items 0 (map seen_placed ls)) ≡ None
parameters_short ps [] h = refl
parameters_short ps (p ∷ []) h = refl
parameters_short ps (p ∷ q ∷ ls) h = absurd (omega arith)

-- ---- lists

pub names_more : (xs ys : List (Bor (List ℕ))) (x : Bor (List ℕ)) → ys ≡ xs ++ x ∷ [] → names_of ys ≡ names_of xs ++ x.now ∷ []
names_more xs ys x e = ap names_of e ∙ map-append (λ y. y.now) xs (x ∷ [])

pub terminals_more : (xs ys : List Given) (rest : List Terminal) (x : Given) → ys ≡ xs ++ x ∷ [] →
    map seen_terminal ys ++ rest ≡ map seen_terminal xs ++ (seen_terminal x ∷ rest)
terminals_more xs ys rest x e =
    ap (λ (zs : List Given). map seen_terminal zs ++ rest) e
    ∙ ap (λ (ts : List Terminal). ts ++ rest) (map-append seen_terminal xs (x ∷ []))
    ∙ append_assoc (map seen_terminal xs) (seen_terminal x ∷ []) rest

pub terminals_end : (ts us : List Terminal) (rest : List Token) → length rest < 1 →
    ts ++ map (λ i. i.terminal) (seen_all rest) ≡ us → ts ≡ us
terminals_end ts us [] h e = sym (append-nil ts) ∙ e
terminals_end ts us (t ∷ rest) h e = absurd (omega arith)

-- ---- the text

-- the two functions that are known
pub all_known : (xs ys zs : List GivenMacro) → xs ≡ [] →
    all_macros ys ≡ all_macros xs ++ macro (codes "omp_get_num_devices") [] (Num (Some 4) ∷ []) ∷ [] →
    all_macros zs ≡ all_macros ys ++ macro (codes "omp_get_default_device") [] (Num (Some 0) ∷ []) ∷ [] → all_macros zs ≡ known
all_known xs ys zs e f g =
    g ∙ ap (λ (ms : Macros). ms ++ macro (codes "omp_get_default_device") [] (Num (Some 0) ∷ []) ∷ [])
    (f ∙ ap (λ (ms : List GivenMacro). all_macros ms ++ macro (codes "omp_get_num_devices") [] (Num (Some 4) ∷ []) ∷ []) e)

given_by : Items → Option Items → Items
given_by js None = js
given_by js (Some is) = is

pub replaced_read : (is js : Items) (s : State) → (has_macro (bare is) || has_call false (bare is)) ≡ true → read begin is ≡ Some s →
    whole s ≡ Some js → js ≡ replaced is
unfolding given_by
replaced_read is js s a b c = rw (a, b) (by (has_some s.reading.calls) c)
  where
    by : (t : Bool) → cond t None (Some s.reading.done) ≡ Some js → js ≡ cond t is (in_order s.reading.done)
    by true e = absurd cc
    by false e = sym (in_order_same s.reading.done ∙ ap (given_by js) e)

-- ---- lines of a text

pub line_with : (t : Token) (l : Bor LineTokens) (ps : List PlacedLexeme) → t.terminal ≡ given.Line l →
    map seen_placed ps ≡ seen_line l.now →
    defined_at (seen t) (Line (kinds_of (seen_line l.now))) ≡ defined_in (as_items 0 (map seen_placed ps))
line_with t l ps e f =
    ap (λ (g : Given). defined_at (item_at t g) (Line (kinds_of (seen_line l.now)))) e
    ∙ ap (λ (qs : List Placed). defined_in (as_items 0 qs)) (placed_again (seen_line l.now) ∙ sym f)

pub line_taken : (s : State) (t : Token) (l : Bor LineTokens) (ps : List PlacedLexeme) (is : Items) (d : Defined) →
    t.terminal ≡ given.Line l → map seen_placed ps ≡ seen_line l.now → d ≡ defined_in (as_items 0 (map seen_placed ps)) →
    has_some s.reading.calls ≡ false → line_on s (seen t) d ≡ token_on s (seen t) is (seen_terminal t.terminal)
line_taken s t l ps is d e f g h =
    sym (ap (λ (u : Given). token_on s (seen t) is (seen_terminal u)) e
    ∙ ap (λ (b : Bool). cond b None (line_on s (seen t) (defined_at (seen t) (Line (kinds_of (seen_line l.now)))))) h
    ∙ ap (line_on s (seen t)) (line_with t l ps e f ∙ sym g))

-- another parameter follows
pub parameter_goes : (ls : List PlacedLexeme) (d e : PlacedLexeme) (ps qs : Names) (x : Bor (List ℕ)) → 2 ≤ length ls →
    (get_or ls 0 d).lexeme ≡ lexeme.Name x → is_among ps x.now ≡ false →
    same (Mark sign.CloseParen) (as_terminal (seen_lexeme (get_or ls 1 e).lexeme)) ≡ false →
    same (Mark sign.Comma) (as_terminal (seen_lexeme (get_or ls 1 e).lexeme)) ≡ true → qs ≡ ps ++ x.now ∷ [] →
    parameters_from qs (as_items 0 (map seen_placed (take (length ls - 2) (drop 2 ls)))) ≡
    parameters_from ps (as_items 0 (map seen_placed ls))
parameter_goes [] d e ps qs x h a b c f g = absurd (omega (arith, h))
parameter_goes (p ∷ []) d e ps qs x h a b c f g = absurd (omega (arith, h))
parameter_goes (p ∷ q ∷ ls) d e ps qs x h a b c f g =
    let few : length ls ≤ length (p ∷ q ∷ ls) - 2 = omega arith in
    ap (λ (ms : List PlacedLexeme). parameters_from qs (as_items 0 (map seen_placed ms))) (take_all (length (p ∷ q ∷ ls) - 2) ls few)
    ∙ rw (g, a, b, c, f) refl
