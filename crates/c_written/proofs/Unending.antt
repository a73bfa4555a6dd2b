-- The tokens of a line as those of a source.
use Rattle.std.proofs.Common.{◌≡◌, ◌∙◌, ℕ, ◌+◌, ◌<◌, ◌≤◌, Bool, true, false, cond, length, get_or, take, List, [], ◌∷◌, ◌++◌, Option, Some, refl, sym, ap}
use Rattle.std.specs.Prelude.{◌||◌}
use mathlib.Core.Path.{fun_ext}
use Rattle.std.proofs.lemmas.List.{take_more, take_all}
use Rattle.c_tokens.specs.declared.kind.Sign.TheVariants as sign
use Rattle.c_grammar.specs.Lexeme.{Lexeme, Reserved, Signed, Worded, Numbered, Strange, Ended, Placed}
use Rattle.c_grammar.specs.Terminal.{Terminal, Mark, Name, Num}
use Rattle.c_grammar.specs.Texts.{Item}
use Rattle.c_grammar.specs.Blocks.{Items, bare}
use Rattle.c_grammar.specs.Expressions.{Values, Read, Nothing, Value, Waiting, Worked, Number, as_items, as_terminal, at_operand, behind_value, is_over, put, work_at, expression}
use Rattle.c_grammar.specs.LineForms.{begins_bound, begins_number, bound_at, last_is, or_product, product_at, several, worth}
use Rattle.directives.specs.declared.lexeme.PlacedLexeme.{PlacedLexeme}
use Rattle.directives.specs.Seen.{seen_placed}
use Rattle.c_terminals.specs.declared.token.Token.{Token}
use Rattle.c_terminals.specs.Seen.{seen, seen_all}
use Rattle.c_written.specs.Lines.{no_end, unended}
use Rattle.c_written.specs.Forms.{all_placed}
use Rattle.c_terminals.proofs.Lists.{seen_more}

-- a token of a line
abbrev pub unended_item : ℕ → Placed → Item Terminal
unended_item line p = record { terminal = no_end (as_terminal p.lexeme); line = line; column = p.column; columns = [] }

items_more : (line : ℕ) (ps : List PlacedLexeme) (p : PlacedLexeme) →
    unended (as_items line (all_placed (ps ++ p ∷ []))) ≡ unended (as_items line (all_placed ps)) ++ unended_item line (seen_placed p) ∷ []
items_more line [] p = refl
items_more line (q ∷ qs) p = ap (λ (is : Items). unended_item line (seen_placed q) ∷ is) (items_more line qs p)

pub tokens_step : (line : ℕ) (ts us : List Token) (ps : List PlacedLexeme) (k : ℕ) (t : Token) (d : PlacedLexeme) →
    us ≡ ts ++ t ∷ [] → seen_all ts ≡ unended (as_items line (all_placed (take k ps))) → k < length ps →
    seen t ≡ unended_item line (seen_placed (get_or ps k d)) →
    seen_all us ≡ unended (as_items line (all_placed (take (k + 1) ps)))
tokens_step line ts us ps k t d e f h g =
    ap seen_all e ∙ seen_more ts t
    ∙ ap (λ (is : Items). is ++ seen t ∷ []) f
    ∙ ap (λ i. unended (as_items line (all_placed (take k ps))) ++ i ∷ []) g
    ∙ sym (ap (λ (qs : List PlacedLexeme). unended (as_items line (all_placed qs))) (take_more ps k d h)
    ∙ items_more line (take k ps) (get_or ps k d))

pub tokens_all : (line : ℕ) (ts : List Token) (ps : List PlacedLexeme) (k : ℕ) →
    seen_all ts ≡ unended (as_items line (all_placed (take k ps))) → length ps ≤ k →
    seen_all ts ≡ unended (as_items line (all_placed ps))
tokens_all line ts ps k e h =
    e ∙ ap (λ (qs : List PlacedLexeme). unended (as_items line (all_placed qs))) (take_all k ps h)

-- ---- an expression does not ask for the end of a line

abbrev Same : Values → Bool → ℕ → List Placed → Type 0
Same vs single line ps = (r : Read) (ws : List Waiting) (k : ℕ) →
    expression vs single r ws k (bare (unended (as_items line ps))) ≡ expression vs single r ws k (as_items line ps)

same_on : (vs : Values) (single : Bool) (line k : ℕ) (ps : List Placed) → Same vs single line ps →
    ◌≡◌ {A = Read → List Waiting → Option Worked} (λ r ws. expression vs single r ws (k + 1) (bare (unended (as_items line ps))))
    (λ r ws. expression vs single r ws (k + 1) (as_items line ps))
same_on vs single line k ps h = fun_ext (λ (r : Read). fun_ext (λ (ws : List Waiting). h r ws (k + 1)))

behind_end : (vs : Values) (single : Bool) (line : ℕ) (t : Lexeme) (c : ℕ) (ps : List Placed) → Same vs single line ps →
    Same vs single line (record { lexeme = t; column = c } ∷ ps)
unfolding expression
behind_end vs single line (Reserved w) c ps h Nothing ws k = refl
behind_end vs single line (Signed s) c ps h Nothing ws k = ap (at_operand ws (Mark s)) (same_on vs single line k ps h)
behind_end vs single line (Worded x) c ps h Nothing ws k =
    ap (at_operand ws (put vs (Name x))) (same_on vs single line k ps h)
behind_end vs single line (Numbered n) c ps h Nothing ws k = ap (at_operand ws (Num n)) (same_on vs single line k ps h)
behind_end vs single line Strange c ps h Nothing ws k = refl
behind_end vs single line Ended c ps h Nothing ws k = refl
behind_end vs single line (Reserved w) c ps h (Value n) ws k = refl
behind_end vs single line (Signed s) c ps h (Value n) ws k =
    let i : Item Terminal = record { terminal = Mark s; line = line; column = c; columns = [] } in
    ap (λ (go : Read → List Waiting → Option Worked). cond (is_over single ws) (Some (Number k n)) (behind_value k n ws i (work_at s) go))
    (same_on vs single line k ps h)
behind_end vs single line (Worded x) c ps h (Value n) ws k = refl
behind_end vs single line (Numbered m) c ps h (Value n) ws k = refl
behind_end vs single line Strange c ps h (Value n) ws k = refl
behind_end vs single line Ended c ps h (Value n) ws k = refl

-- the same expression
pub same_expression : (vs : Values) (single : Bool) (line : ℕ) (ps : List Placed) (r : Read) (ws : List Waiting) (k : ℕ) →
    expression vs single r ws k (bare (unended (as_items line ps))) ≡ expression vs single r ws k (as_items line ps)
same_expression vs single line [] r ws k = refl
same_expression vs single line (p ∷ ps) r ws k =
    behind_end vs single line p.lexeme p.column ps (same_expression vs single line ps) r ws k

pub same_worked : (vs : Values) (single : Bool) (line : ℕ) (ps : List Placed) (ts : List Token) →
    seen_all ts ≡ unended (as_items line ps) →
    expression vs single Nothing [] 0 (bare (seen_all ts)) ≡ expression vs single Nothing [] 0 (as_items line ps)
same_worked vs single line ps ts e =
    ap (λ (is : Items). expression vs single Nothing [] 0 (bare is)) e ∙ same_expression vs single line ps Nothing [] 0

-- a bound, or the number of a clause
pub bound_begins : (vs : Values) (past : List Lexeme) (ps : List Placed) (ts : List Token) (w : Option Worked) →
    begins_bound past ≡ true → seen_all ts ≡ unended (as_items 0 ps) →
    w ≡ expression vs false Nothing [] 0 (bare (seen_all ts)) → or_product vs ps (worth ps w) ≡ bound_at vs past ps
bound_begins vs past ps ts w e f g =
    ap (λ (v : Option Worked). or_product vs ps (worth ps v)) (g ∙ same_worked vs false 0 ps ts f) ∙ rw e refl

-- a term behind a sign
pub term_begins : (vs : Values) (past : List Lexeme) (ps : List Placed) → begins_bound past ≡ false →
    (last_is sign.Plus past || last_is sign.Minus past) ≡ true → product_at vs ps ≡ bound_at vs past ps
term_begins vs past ps e h = rw (e, h) refl

pub number_begins : (vs : Values) (past : List Lexeme) (ps : List Placed) (ts : List Token) (w : Option Worked) →
    begins_bound past ≡ false → (last_is sign.Plus past || last_is sign.Minus past) ≡ false →
    begins_number past ≡ true → seen_all ts ≡ unended (as_items 0 ps) →
    w ≡ expression vs false Nothing [] 0 (bare (seen_all ts)) → several w ≡ bound_at vs past ps
number_begins vs past ps ts w e s h f g = ap several (g ∙ same_worked vs false 0 ps ts f) ∙ rw (e, s, h) refl
