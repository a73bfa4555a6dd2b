-- Comments behind what a line defines, wherever the line stands.
use Rattle.std.proofs.Common.{◌≡◌, ℕ, Bool, cond, List, [], ◌∷◌, refl, ap}
use Rattle.std.specs.Prelude.{◌&&◌, ◌||◌}
use Rattle.c_tokens.specs.declared.kind.Sign.TheVariants as sign
use Rattle.c_grammar.specs.Lexeme.{Placed}
use Rattle.c_grammar.specs.Terminal.{End, same}
use Rattle.c_grammar.specs.Expressions.{as_items, as_terminal}
use Rattle.c_grammar.specs.Constants.{ends_remark, is_pair, is_remark}
use Rattle.c_terminals.specs.Lines.{item_of}

ends_anywhere : (line : ℕ) (ps : List Placed) → ends_remark (as_items line ps) ≡ ends_remark (as_items 0 ps)
ends_anywhere line [] = refl
ends_anywhere line (p ∷ []) = refl
ends_anywhere line (p ∷ q ∷ []) = refl
ends_anywhere line (p ∷ q ∷ r ∷ ps) =
    ap (cond (is_pair sign.Star sign.Slash (item_of 0 p) (item_of 0 q)) (same End (as_terminal r.lexeme)))
    (ends_anywhere line (q ∷ r ∷ ps))

pub remark_anywhere : (line : ℕ) (ps : List Placed) → is_remark (as_items line ps) ≡ is_remark (as_items 0 ps)
remark_anywhere line [] = refl
remark_anywhere line (p ∷ []) = refl
remark_anywhere line (p ∷ q ∷ ps) = ap (λ (b : Bool). same End (as_terminal p.lexeme) ||
    is_pair sign.Slash sign.Slash (item_of 0 p) (item_of 0 q) || (is_pair sign.Slash sign.Star (item_of 0 p) (item_of 0 q) && b))
    (ends_anywhere line ps)
