-- What an assignment changes.
use Rattle.std.proofs.Common.{◌≡◌, ◌∙◌, ℕ, suc, ◌-◌, ◌<◌, ◌≤◌, length, get_or, Bool, true, false, cond, List, [], ◌∷◌, refl, sym, ap, arith}
use Rattle.std.specs.Prelude.{◌&&◌}
use Rattle.std.proofs.lemmas.List.{length-map}
use Rattle.c_tokens.specs.declared.kind.Sign.TheVariants as sign
use Rattle.c_grammar.specs.Terminal.{Terminal, Fixed, Mark, Name, Num, Line, Unknown, Unworked, End}
use Rattle.c_grammar.specs.Texts.{Item}
use Rattle.c_grammar.specs.Blocks.{Items, bare, is_directive}
use Rattle.c_grammar.specs.Constants.{is_name as is_a_name}
use Rattle.c_grammar.specs.Changes.{is_cell, is_mark, is_name, is_target}
use Rattle.c_terminals.specs.declared.token.Token.{Token}
use Rattle.c_terminals.specs.Seen.{seen, seen_all}

pub same_name : (t : Terminal) → is_a_name t ≡ is_name t
same_name (Fixed w) = refl
same_name (Mark s) = refl
same_name (Name x) = refl
same_name (Num o) = refl
same_name (Line ts) = refl
same_name Unknown = refl
same_name Unworked = refl
same_name End = refl

last_of : (t u : Token) (ts : List Token) → length (t ∷ u ∷ ts) - 1 ≡ suc (length (u ∷ ts) - 1)
last_of t u ts = omega arith

cell_last : (t : Token) (ts : List Token) (d : Token) →
    is_cell false (seen_all (t ∷ ts)) ≡ is_mark sign.CloseBracket (seen (get_or (t ∷ ts) (length (t ∷ ts) - 1) d))
cell_last t [] d = refl
cell_last t (u ∷ ts) d = cell_last u ts d
    ∙ ap (λ (n : ℕ). is_mark sign.CloseBracket (seen (get_or (t ∷ u ∷ ts) n d))) (sym (last_of t u ts))

pub both : (a b : Bool) → a ≡ true → b ≡ true → (a && b) ≡ true
both true b h k = k
both false b h k = absurd cc

opened : (a b d : Bool) → (a && b) ≡ true → (a && (b && d)) ≡ d
opened true true d h = refl
opened true false d h = absurd cc
opened false b d h = absurd cc

-- a name with brackets behind it
pub target_cell : (ts : List Token) (a b d : Token) → 3 ≤ length ts → a ≡ get_or ts 0 a → b ≡ get_or ts 1 b →
    d ≡ get_or ts (length ts - 1) d → (is_a_name (seen a).terminal && is_mark sign.OpenBracket (seen b)) ≡ true →
    is_target (seen_all ts) ≡ is_mark sign.CloseBracket (seen d)
target_cell [] a b d h e f g k = absurd (omega arith)
target_cell (t ∷ []) a b d h e f g k = absurd (omega arith)
target_cell (t ∷ u ∷ []) a b d h e f g k = absurd (omega arith)
target_cell (t ∷ u ∷ v ∷ ts) a b d h e f g k =
    let place : length (t ∷ u ∷ v ∷ ts) - 1 ≡ suc (suc (length (v ∷ ts) - 1)) = omega arith in
    let last : d ≡ get_or (v ∷ ts) (length (v ∷ ts) - 1) d = g ∙ ap (λ (n : ℕ). get_or (t ∷ u ∷ v ∷ ts) n d) place in
    let opens : (is_a_name (seen t).terminal && is_mark sign.OpenBracket (seen u)) ≡ true =
    ap (λ (w : Token). is_a_name (seen w).terminal && is_mark sign.OpenBracket (seen u)) (sym e)
    ∙ ap (λ (w : Token). is_a_name (seen a).terminal && is_mark sign.OpenBracket (seen w)) (sym f) ∙ k in
    ap (λ (x : Bool). x && (is_mark sign.OpenBracket (seen u) && is_cell false (seen_all (v ∷ ts)))) (sym (same_name (seen t).terminal))
    ∙ opened (is_a_name (seen t).terminal) (is_mark sign.OpenBracket (seen u)) (is_cell false (seen_all (v ∷ ts))) opens
    ∙ cell_last v ts d ∙ ap (λ (w : Token). is_mark sign.CloseBracket (seen w)) (sym last)

-- ---- the tokens that follow

pub few_bare : (is : Items) → length (bare is) ≤ length is
few_bare [] = omega arith
few_bare (i ∷ is) = go (is_directive i.terminal) (few_bare is)
  where
    go : (b : Bool) → length (bare is) ≤ length is → length (cond b (bare is) (i ∷ bare is)) ≤ length (i ∷ is)
    go true few = omega arith
    go false few = omega arith

pub few_ahead : (ts : List Token) (n : ℕ) (i : Item Terminal) (is js : Items) → length ts < n → js ≡ bare (seen_all ts) → js ≡ i ∷ is →
    length is < n
few_ahead ts n i is js h e f =
    let most = few_bare (seen_all ts) in
    let same = ap (λ (ks : Items). length ks) (sym e ∙ f) in
    omega (arith, most, same, length-map ts seen)
