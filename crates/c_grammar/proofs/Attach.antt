-- A term with an operator put behind it, which takes as much on its left as its level says.
use Rattle.std.proofs.Common.{◌≡◌, ℕ, ◌<◌, ◌≤◌, Bool, true, false, cond, ◌∷◌, ◌++◌, refl, sym, ap, ◌∙◌, append_assoc, arith, leb-true, leb-false}
use Rattle.std.specs.Prelude.{nat_le}
use Rattle.c_grammar.specs.Grammar.{Slots, inner, Term, Literal, Named, Element, Group, Prefixed, Both, By, operator_sign, term, level, level_of, IsRanked}
use Rattle.c_grammar.proofs.Goes.{after}

-- an operator of level n, with its operand, behind the term
abbrev pub attach : Term → ℕ → (Term → Term) → Term
attach (Literal v) n f = f (Literal v)
attach (Named x) n f = f (Named x)
attach (Element x i) n f = f (Element x i)
attach (Group e) n f = f (Group e)
attach (Prefixed op e) n f = f (Prefixed op e)
attach (Both p x y) n f = cond (nat_le n (level p)) (f (Both p x y)) (Both p x (attach y n f))
attach (By p x v) n f = f (By p x v)

chosen_term : (c : Bool) (e f : Term) (ws : Slots) → term e ≡ ws → term f ≡ ws → term (cond c e f) ≡ ws
chosen_term true e f ws p q = p
chosen_term false e f ws p q = q

pub term_attach : (e : Term) (n : ℕ) (f : Term → Term) (ws : Slots) → ((a : Term) → term (f a) ≡ term a ++ ws)
    → term (attach e n f) ≡ term e ++ ws
term_attach (Literal v) n f ws h = h (Literal v)
term_attach (Named x) n f ws h = h (Named x)
term_attach (Element x i) n f ws h = h (Element x i)
term_attach (Group e) n f ws h = h (Group e)
term_attach (Prefixed op e) n f ws h = h (Prefixed op e)
term_attach (Both p x y) n f ws h =
    chosen_term (nat_le n (level p)) (f (Both p x y)) (Both p x (attach y n f)) _ (h (Both p x y))
    (ap (λ (u : Slots). term x ++ (inner (operator_sign p) ∷ u)) (term_attach y n f ws h)
    ∙ sym (append_assoc (term x) (inner (operator_sign p) ∷ term y) ws))
term_attach (By p x v) n f ws h = h (By p x v)

above_chosen : (c : Bool) (e f : Term) (k : ℕ) → k < level_of e → k < level_of f → k < level_of (cond c e f)
above_chosen true e f k p q = p
above_chosen false e f k p q = q

above_attach : (e : Term) (n : ℕ) (f : Term → Term) (k : ℕ) → ((a : Term) → level_of (f a) ≡ n) → k < level_of e → k < n
    → k < level_of (attach e n f)
above_attach (Literal v) n f k l h g = omega (arith, l (Literal v), g)
above_attach (Named x) n f k l h g = omega (arith, l (Named x), g)
above_attach (Element x i) n f k l h g = omega (arith, l (Element x i), g)
above_attach (Group e) n f k l h g = omega (arith, l (Group e), g)
above_attach (Prefixed op e) n f k l h g = omega (arith, l (Prefixed op e), g)
above_attach (Both p x y) n f k l h g =
    above_chosen (nat_le n (level p)) (f (Both p x y)) (Both p x (attach y n f)) k (omega (arith, l (Both p x y), g)) h
above_attach (By p x v) n f k l h g = omega (arith, l (By p x v), g)

ranked_chosen : (c : Bool) (e f : Term) → (c ≡ true → IsRanked e) → (c ≡ false → IsRanked f) → IsRanked (cond c e f)
ranked_chosen true e f p q = p refl
ranked_chosen false e f p q = q refl

-- the operator may stand behind a term of its level, and behind this term
pub ranked_attach : (e : Term) (n : ℕ) (f : Term → Term) → ((a : Term) → level_of (f a) ≡ n)
    → ((a : Term) → n ≤ level_of a → IsRanked a → IsRanked (f a)) → n ≤ 9 → IsRanked e → n ≤ after e
    → IsRanked (attach e n f)
ranked_attach (Literal v) n f l g k r h = g (Literal v) (omega (arith, k)) r
ranked_attach (Named x) n f l g k r h = g (Named x) (omega (arith, k)) r
ranked_attach (Element x i) n f l g k r h = g (Element x i) (omega (arith, k)) r
ranked_attach (Group e) n f l g k r h = g (Group e) (omega (arith, k)) r
ranked_attach (Prefixed op e) n f l g k r h = g (Prefixed op e) (omega (arith, k)) r
ranked_attach (Both p x y) n f l g k r h =
    ranked_chosen (nat_le n (level p)) (f (Both p x y)) (Both p x (attach y n f))
    (λ t. g (Both p x y) (leb-true n (level p) t) r)
    (λ t. (r.0, above_attach y n f (level p) l r.1 (leb-false n (level p) t), r.2, ranked_attach y n f l g k r.3 h))
ranked_attach (By p x v) n f l g k r h = g (By p x v) h r
