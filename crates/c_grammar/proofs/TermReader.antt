-- A ranked term is known from its tokens: reading them gives it back.
use Rattle.std.proofs.Common.{◌≡◌, ◌≤◌, ℕ, suc, false, List, [], ◌∷◌, ◌++◌, Option, Some, None, refl, sym, ap, ◌∙◌, append_assoc, arith, le-leb}
use Rattle.std.specs.Prelude.{nat_le, if◌then◌else◌}
use Rattle.std.proofs.lemmas.Bool.{lt-leb, cond-true, cond-false}
use Rattle.std.proofs.lemmas.Option.{same_Some}
use Rattle.c_tokens.specs.declared.kind.Sign.TheVariants as sign
use Rattle.c_grammar.specs.Terminal.{Terminal, Mark, Name, Num, same}
use Rattle.c_grammar.specs.Grammar.{Slot, Slots, inner, closing, value_of, Prefix, Not, Complement, Operator, LogicOr, LogicAnd, BitOr, BitXor, BitAnd, Equal, NotEqual, Less, LessEqual, Greater, GreaterEqual, Add, Subtract, Multiply, Fraction, ShiftLeft, ShiftRight, Divide, Remainder, Term, Literal, Named, Element, Group, Prefixed, Both, By, prefix_sign, operator_sign, fraction_sign, term, level, fraction_level, level_of, IsRanked}
use Rattle.c_grammar.specs.Program.{operator_in, fraction_in, all_operators, all_fractions}
use Rattle.c_grammar.proofs.Goes.{IsClosed, operator_closed, fraction_closed, level_high, fraction_high}
use Rattle.c_grammar.proofs.Attach.{attach}

-- what an operand that comes now belongs to
data Pending : Type 0 where
  Beginning : Pending
  Behind : (left : Term) (op : Operator) → Pending
  Under : (op : Prefix) (rest : Pending) → Pending

abbrev with_operand : Operator → Term → Term → Term
with_operand op b a = Both op a b

abbrev with_number : Fraction → Option ℕ → Term → Term
with_number op v a = By op a v

abbrev fed : Pending → Term → Term
fed Beginning e = e
fed (Behind a op) e = attach a (level op) (with_operand op e)
fed (Under op p) e = fed p (Prefixed op e)

-- an open bracket, with what its group or element belongs to
data Frame : Type 0 where
  Paren : (p : Pending) → Frame
  Bracket : (name : List ℕ) (p : Pending) → Frame

-- an operand is to come; a name has; a term has; a number is to come
data Mode : Type 0 where
  Wants : (p : Pending) → Mode
  HasName : (p : Pending) (name : List ℕ) → Mode
  Has : (e : Term) → Mode
  WantsNumber : (left : Term) (op : Fraction) → Mode

abbrev Frames : Type 0
Frames = List Frame

abbrev Move : Type 0
Move = Option (Frames × Mode)

abbrev close_move : Frames → Term → Terminal → Move
close_move [] e t = None
close_move (Paren p ∷ fs) e t = if same (Mark sign.CloseParen) t then Some (fs, Has (fed p (Group e))) else None
close_move (Bracket x p ∷ fs) e t =
    if same (Mark sign.CloseBracket) t then Some (fs, Has (fed p (Element x e))) else None

abbrev fraction_move : Frames → Term → Option Fraction → Move → Move
fraction_move fs e None other = other
fraction_move fs e (Some op) other = Some (fs, WantsNumber e op)

abbrev operator_move : Frames → Term → Option Operator → Move → Move
operator_move fs e None other = other
operator_move fs e (Some op) other = Some (fs, Wants (Behind e op))

abbrev has_move : Frames → Term → Terminal → Move
has_move fs e t =
    operator_move fs e (operator_in all_operators t)
    (fraction_move fs e (fraction_in all_fractions t) (close_move fs e t))

abbrev operand_move : Frames → Pending → Terminal → Move
operand_move fs p (Num v) = Some (fs, Has (fed p (Literal v)))
operand_move fs p (Name x) = Some (fs, HasName p x)
operand_move fs p _ = None

abbrev wants_move : Frames → Pending → Terminal → Move
wants_move fs p t =
    if same (Mark sign.OpenParen) t then Some (Paren p ∷ fs, Wants Beginning)
    else (if same (Mark sign.Bang) t then Some (fs, Wants (Under Not p))
    else (if same (Mark sign.Tilde) t then Some (fs, Wants (Under Complement p)) else operand_move fs p t))

abbrev number_move : Frames → Term → Fraction → Terminal → Move
number_move fs e op (Num v) = Some (fs, Has (attach e (fraction_level op) (with_number op v)))
number_move fs e op _ = None

abbrev move : Frames → Mode → Terminal → Move
move fs (Wants p) t = wants_move fs p t
move fs (HasName p x) t =
    if same (Mark sign.OpenBracket) t then Some (Bracket x p ∷ fs, Wants Beginning) else has_move fs (fed p (Named x)) t
move fs (Has e) t = has_move fs e t
move fs (WantsNumber e op) t = number_move fs e op t

abbrev Found : Type 0
Found = Option (Term × Slots)

abbrev whole : Frames → Term → Slots → Found
whole [] e rest = Some (e, rest)
whole (f ∷ fs) e rest = None

-- where no token of the term comes any more
abbrev stopped : Frames → Mode → Slots → Found
stopped fs (Wants p) rest = None
stopped fs (HasName p x) rest = whole fs (fed p (Named x)) rest
stopped fs (Has e) rest = whole fs e rest
stopped fs (WantsNumber e op) rest = None

abbrev on_move : Move → Found → (Frames → Mode → Found) → Found
on_move None stop go = stop
on_move (Some q) stop go = go q.0 q.1

-- the term at the front, and what follows it
read : Frames → Mode → Slots → Found
read fs m [] = None
read fs m (x ∷ xs) = on_move (move fs m x.0) (stopped fs m (x ∷ xs)) (λ fs m. read fs m xs)

-- ---- steps

read_operator : (op : Operator) (fs : Frames) (e : Term) (xs : Slots)
    → read fs (Has e) (inner (operator_sign op) ∷ xs) ≡ read fs (Wants (Behind e op)) xs
unfolding read
read_operator LogicOr fs e xs = refl
read_operator LogicAnd fs e xs = refl
read_operator BitOr fs e xs = refl
read_operator BitXor fs e xs = refl
read_operator BitAnd fs e xs = refl
read_operator Equal fs e xs = refl
read_operator NotEqual fs e xs = refl
read_operator Less fs e xs = refl
read_operator LessEqual fs e xs = refl
read_operator Greater fs e xs = refl
read_operator GreaterEqual fs e xs = refl
read_operator Add fs e xs = refl
read_operator Subtract fs e xs = refl
read_operator Multiply fs e xs = refl

read_fraction : (op : Fraction) (v : Option ℕ) (fs : Frames) (e : Term) (xs : Slots)
    → read fs (Has e) (inner (fraction_sign op) ∷ value_of op v ∷ xs)
    ≡ read fs (Has (attach e (fraction_level op) (with_number op v))) xs
unfolding read
read_fraction ShiftLeft v fs e xs = refl
read_fraction ShiftRight v fs e xs = refl
read_fraction Divide v fs e xs = refl
read_fraction Remainder v fs e xs = refl

read_prefix : (op : Prefix) (fs : Frames) (p : Pending) (xs : Slots)
    → read fs (Wants p) (inner (prefix_sign op) ∷ xs) ≡ read fs (Wants (Under op p)) xs
unfolding read
read_prefix Not fs p xs = refl
read_prefix Complement fs p xs = refl

read_name : (fs : Frames) (p : Pending) (x : List ℕ) (xs : Slots) → IsClosed xs
    → read fs (HasName p x) xs ≡ read fs (Has (fed p (Named x))) xs
unfolding read
read_name fs p x [] h = absurd h
read_name fs p x (t ∷ xs) h = rw h refl

-- ---- the whole term

-- an operator that binds no tighter than the term takes all of it
attach_low : (a : Term) (n : ℕ) (f : Term → Term) → n ≤ level_of a → attach a n f ≡ f a
attach_low (Literal v) n f h = refl
attach_low (Named x) n f h = refl
attach_low (Element x i) n f h = refl
attach_low (Group e) n f h = refl
attach_low (Prefixed op e) n f h = refl
attach_low (Both p x y) n f h =
    cond-true (nat_le n (level p)) (f (Both p x y)) (Both p x (attach y n f)) (le-leb n (level p) h)
attach_low (By p x v) n f h = refl

-- what is put around a term does not hinder operators of a level from n on
abbrev LetsThrough : ℕ → (Term → Term) → Type 0
LetsThrough n K = (y : Term) (l : ℕ) (f : Term → Term) → n ≤ l → l ≤ 9 → attach (K y) l f ≡ K (attach y l f)

around : (op : Operator) (a : Term) (n : ℕ) (K : Term → Term) → LetsThrough n K → n ≤ level op
    → LetsThrough (suc (level op)) (λ y. K (Both op a y))
around op a n K g h y l f k high =
    let low : n ≤ l = omega (arith, h, k) in
    g (Both op a y) l f low high
    ∙ ap K (cond-false (nat_le l (level op)) (f (Both op a y)) (Both op a (attach y l f)) (lt-leb l (level op) k))

past : (n l : ℕ) → 10 ≤ l → l ≤ 9 → ⊥
past n l h k = omega (arith, h, k)

read_term : (e : Term) → IsRanked e → (fs : Frames) (p : Pending) (K : Term → Term) (n : ℕ) → LetsThrough n K
    → n ≤ level_of e → ((x : Term) → level_of x ≡ 10 → fed p x ≡ K x) → (xs : Slots) → IsClosed xs
    → read fs (Wants p) (term e ++ xs) ≡ read fs (Has (K e)) xs
unfolding read
read_term (Literal v) r fs p K n g h q xs c = ap (λ (e : Term). read fs (Has e) xs) (q (Literal v) refl)
read_term (Named x) r fs p K n g h q xs c =
    read_name fs p x xs c ∙ ap (λ (e : Term). read fs (Has e) xs) (q (Named x) refl)
read_term (Element x i) r fs p K n g h q xs c =
    let last : Slots = closing sign.CloseBracket ∷ [] in
    ap (λ (u : Slots). read (Bracket x p ∷ fs) (Wants Beginning) u) (append_assoc (term i) last xs)
    ∙ read_term i r (Bracket x p ∷ fs) Beginning (λ y. y) 0 (λ y l f _ _. refl) (omega arith) (λ y _. refl)
    (last ++ xs) refl
    ∙ ap (λ (e : Term). read fs (Has e) xs) (q (Element x i) refl)
read_term (Group e) r fs p K n g h q xs c =
    let last : Slots = closing sign.CloseParen ∷ [] in
    ap (λ (u : Slots). read (Paren p ∷ fs) (Wants Beginning) u) (append_assoc (term e) last xs)
    ∙ read_term e r (Paren p ∷ fs) Beginning (λ y. y) 0 (λ y l f _ _. refl) (omega arith) (λ y _. refl)
    (last ++ xs) refl
    ∙ ap (λ (e : Term). read fs (Has e) xs) (q (Group e) refl)
read_term (Prefixed op e) r fs p K n g h q xs c =
    read_prefix op fs p (term e ++ xs)
    ∙ read_term e r.1 fs (Under op p) (λ y. K (Prefixed op y)) 10 (λ y l f k high. absurd (past 10 l k high))
    (omega (arith, r.0)) (λ y _. q (Prefixed op y) refl) xs c
read_term (Both op a b) r fs p K n g h q xs c =
    let rest : Slots = inner (operator_sign op) ∷ term b in
    ap (λ (u : Slots). read fs (Wants p) u) (append_assoc (term a) rest xs)
    ∙ read_term a r.2 fs p K n g (omega (arith, h, r.0)) q (rest ++ xs) (operator_closed op (term b ++ xs))
    ∙ read_operator op fs (K a) (term b ++ xs)
    ∙ read_term b r.3 fs (Behind (K a) op) (λ y. K (Both op a y)) (suc (level op)) (around op a n K g h) r.1
    (λ y _. g a (level op) (with_operand op y) h (level_high op)
    ∙ ap K (attach_low a (level op) (with_operand op y) r.0)) xs c
read_term (By op a v) r fs p K n g h q xs c =
    let rest : Slots = inner (fraction_sign op) ∷ value_of op v ∷ [] in
    ap (λ (u : Slots). read fs (Wants p) u) (append_assoc (term a) rest xs)
    ∙ read_term a r.1 fs p K n g (omega (arith, h, r.0)) q (rest ++ xs) (fraction_closed op (value_of op v ∷ xs))
    ∙ read_fraction op v fs (K a) xs
    ∙ ap (λ (e : Term). read fs (Has e) xs)
    (g a (fraction_level op) (with_number op v) h (fraction_high op)
    ∙ ap K (attach_low a (fraction_level op) (with_number op v) r.0))

-- no token of a term stands at the front
abbrev Ends : Slots → Type 0
Ends xs = IsClosed xs × ((e : Term) → read [] (Has e) xs ≡ Some (e, xs))

read_all : (e : Term) → IsRanked e → (xs : Slots) → Ends xs → read [] (Wants Beginning) (term e ++ xs) ≡ Some (e, xs)
read_all e r xs h = read_term e r [] Beginning (λ y. y) 0 (λ y l f _ _. refl) (omega arith) (λ y _. refl) xs h.0 ∙ h.1 e

same_term : (a b : Term) → IsRanked a → IsRanked b → (xs ys : Slots) → Ends xs → Ends ys → term a ++ xs ≡ term b ++ ys
    → (a ≡ b) × (xs ≡ ys)
same_term a b r s xs ys h k e =
    let both : (a, xs) ≡ (b, ys) =
    same_Some (a, xs) (b, ys)
    (sym (read_all a r xs h) ∙ ap (λ (u : Slots). read [] (Wants Beginning) u) e ∙ read_all b s ys k) in
    (ap (λ (z : Term × Slots). z.0) both, ap (λ (z : Term × Slots). z.1) both)

-- where a sign that no term has follows the terms
abbrev pub EndsTerm : Terminal → Type 0
EndsTerm t =
    (same (Mark sign.OpenBracket) t ≡ false) × (operator_in all_operators t ≡ None)
    × (fraction_in all_fractions t ≡ None)

ends : (x : Slot) (xs : Slots) → EndsTerm x.0 → Ends (x ∷ xs)
unfolding read
ends x xs h = (h.0, λ e. rw (h.1, h.2) refl)

pub one_term : (a b : Term) → IsRanked a → IsRanked b → (x : Slot) (xs ys : Slots) → EndsTerm x.0
    → term a ++ (x ∷ xs) ≡ term b ++ (x ∷ ys) → (a ≡ b) × (xs ≡ ys)
one_term a b r s x xs ys h e =
    let both = same_term a b r s (x ∷ xs) (x ∷ ys) (ends x xs h) (ends x ys h) e in
    let rest : x ∷ xs ≡ x ∷ ys = both.1 in
    (both.0, cc)
