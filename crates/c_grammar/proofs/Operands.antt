-- Operators and their right operands behind a term.
use Rattle.std.proofs.Common.{◌≡◌, ℕ, ◌≤◌, Bool, true, false, cond, List, [], ◌∷◌, ◌++◌, Option, refl, sym, ap, subst, ◌∙◌, append_assoc, arith}
use Rattle.std.specs.Prelude.{nat_le}
use Rattle.std.proofs.lemmas.List.{append-nil}
use Rattle.c_grammar.specs.Grammar.{Slots, inner, value_of, Operator, Fraction, Term, Literal, Named, Element, Group, Prefixed, Both, By, operator_sign, fraction_sign, term, level, fraction_level, level_of, IsRanked}
use Rattle.c_grammar.proofs.Goes.{after, level_high, fraction_high}
use Rattle.c_grammar.proofs.Attach.{attach, term_attach, ranked_attach}

-- a term with no operator outside its brackets
abbrev pub IsAtom : Term → Type 0
IsAtom e = (level_of e ≡ 10) × IsRanked e

-- an operator and what stands on its right
pub data Operation : Type 0 where
  WithTerm : (op : Operator) (right : Term) → Operation
  WithNumber : (op : Fraction) (value : Option ℕ) → Operation

abbrev pub operation : Operation → Slots
operation (WithTerm op b) = inner (operator_sign op) ∷ term b
operation (WithNumber op n) = inner (fraction_sign op) ∷ value_of op n ∷ []

abbrev pub applied : Operation → Term → Term
applied (WithTerm op b) a = Both op a b
applied (WithNumber op n) a = By op a n

abbrev pub operation_level : Operation → ℕ
operation_level (WithTerm op b) = level op
operation_level (WithNumber op n) = fraction_level op

-- how tight an operator behind it may bind
abbrev pub behind_operation : Operation → ℕ
behind_operation (WithTerm op b) = 9
behind_operation (WithNumber op n) = fraction_level op

abbrev pub IsOperation : Operation → Type 0
IsOperation (WithTerm op b) = IsAtom b
IsOperation (WithNumber op n) = Unit {0}

abbrev pub Operations : Type 0
Operations = List Operation

abbrev pub operations : Operations → Slots
operations [] = []
operations (o ∷ os) = operation o ++ operations os

-- the first of a level up to top
abbrev pub AreOperations : ℕ → Operations → Type 0
AreOperations top [] = Unit {0}
AreOperations top (o ∷ os) = (operation_level o ≤ top) × IsOperation o × AreOperations (behind_operation o) os

abbrev attach_one : Operation → Term → Term
attach_one o e = attach e (operation_level o) (applied o)

abbrev pub attach_all : Term → Operations → Term
attach_all e [] = e
attach_all e (o ∷ os) = attach_all (attach_one o e) os

applied_slots : (o : Operation) (a : Term) → term (applied o a) ≡ term a ++ operation o
applied_slots (WithTerm op b) a = refl
applied_slots (WithNumber op n) a = refl

term_attach_all : (os : Operations) (e : Term) → term (attach_all e os) ≡ term e ++ operations os
term_attach_all [] e = sym (append-nil (term e))
term_attach_all (o ∷ os) e =
    let step : term (attach_one o e) ≡ term e ++ operation o =
    term_attach e (operation_level o) (applied o) (operation o) (applied_slots o) in
    term_attach_all os (attach_one o e) ∙ ap (λ (ws : Slots). ws ++ operations os) step
    ∙ append_assoc (term e) (operation o) (operations os)

-- ---- the ranks

-- behind an atom any operator may stand
after_atom : (e : Term) → level_of e ≡ 10 → IsRanked e → after e ≡ 9
after_atom (Literal n) h r = refl
after_atom (Named x) h r = refl
after_atom (Element x i) h r = refl
after_atom (Group e) h r = refl
after_atom (Prefixed op e) h r = after_atom e r.0 r.1
after_atom (Both op a b) h r = omega (arith, h, level_high op)
after_atom (By op a n) h r = omega (arith, h, fraction_high op)

after_chosen : (c : Bool) (e f : Term) (k : ℕ) → after e ≡ k → after f ≡ k → after (cond c e f) ≡ k
after_chosen true e f k p q = p
after_chosen false e f k p q = q

after_attach : (e : Term) (n : ℕ) (f : Term → Term) (k : ℕ) → ((a : Term) → after (f a) ≡ k) → after (attach e n f) ≡ k
after_attach (Literal v) n f k h = h (Literal v)
after_attach (Named x) n f k h = h (Named x)
after_attach (Element x i) n f k h = h (Element x i)
after_attach (Group e) n f k h = h (Group e)
after_attach (Prefixed op e) n f k h = h (Prefixed op e)
after_attach (Both p x y) n f k h =
    after_chosen (nat_le n (level p)) (f (Both p x y)) (Both p x (attach y n f)) k (h (Both p x y))
    (after_attach y n f k h)
after_attach (By p x v) n f k h = h (By p x v)

after_applied : (o : Operation) → IsOperation o → (a : Term) → after (applied o a) ≡ behind_operation o
after_applied (WithTerm op b) h a = after_atom b h.0 h.1
after_applied (WithNumber op n) h a = refl

ranked_one : (o : Operation) (e : Term) → IsOperation o → IsRanked e → operation_level o ≤ after e
    → IsRanked (attach_one o e)
ranked_one (WithTerm op b) e h r k =
    ranked_attach e (level op) (applied (WithTerm op b)) (λ _. refl)
    (λ x l s. (l, omega (arith, h.0, level_high op), s, h.1)) (level_high op) r k
ranked_one (WithNumber op n) e h r k =
    ranked_attach e (fraction_level op) (applied (WithNumber op n)) (λ _. refl) (λ x l s. (l, s)) (fraction_high op) r k

ranked_attach_all : (os : Operations) (e : Term) → IsRanked e → AreOperations (after e) os
    → IsRanked (attach_all e os)
ranked_attach_all [] e r h = r
ranked_attach_all (o ∷ os) e r h =
    let path : after (attach_one o e) ≡ behind_operation o =
    after_attach e (operation_level o) (applied o) (behind_operation o) (after_applied o h.1) in
    ranked_attach_all os (attach_one o e) (ranked_one o e h.1 r h.0)
    (subst (λ k. AreOperations k os) (sym path) h.2)

-- ---- behind an atom

pub ranked_behind : (e : Term) (os : Operations) → IsAtom e → AreOperations 9 os → IsRanked (attach_all e os)
ranked_behind e os h k =
    ranked_attach_all os e h.1 (subst (λ n. AreOperations n os) (sym (after_atom e h.0 h.1)) k)

pub term_behind : (e : Term) (os : Operations) (ws v w : Slots) → ws ≡ term e ++ v → v ≡ operations os ++ w
    → ws ≡ term (attach_all e os) ++ w
term_behind e os ws v w p q =
    p ∙ ap (λ (u : Slots). term e ++ u) q ∙ sym (append_assoc (term e) (operations os) w)
    ∙ ap (λ (u : Slots). u ++ w) (sym (term_attach_all os e))
