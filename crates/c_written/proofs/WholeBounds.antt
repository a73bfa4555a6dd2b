-- How many tokens of a whole line a constant expression has: its end is none of them.
use Rattle.std.proofs.Common.{◌≡◌, ◌∙◌, ℕ, zero, suc, ◌+◌, ◌<◌, ◌≤◌, Bool, true, false, cond, not, List, [], ◌∷◌, length, take, Option, Some, None, refl, arith}
use Rattle.std.specs.Prelude.{◌&&◌, ◌||◌, ◌==◌, nat_lt}
use Rattle.std.proofs.lemmas.Bool.{eqb-true}
use Rattle.c_tokens.specs.declared.kind.Sign.TheVariants as sign
use Rattle.c_grammar.specs.Lexeme.{Lexeme, Reserved, Signed, Worded, Numbered, Strange, Ended, Placed}
use Rattle.c_grammar.specs.Terminal.{Terminal, Fixed, Mark, Name, Num, Line, Unknown, Unworked, End, same}
use Rattle.c_grammar.specs.Texts.{Item}
use Rattle.c_grammar.specs.Expressions.{Values, Work, Read, Nothing, Value, Waiting, Behind, Bracket, Worked, Number, Fault, Reduced, To, Stuck, reduce, is_over, work_of, put, as_items, as_terminal, at_end, most_waiting, at_operand, with_close, with_operator, behind_value, expression}
use Rattle.c_grammar.specs.LineForms.{begins_bound, begins_number, bound_at, ends_product, exactly, is_within, last_is, most_open, needs_work, open_behind, or_product, product_at, product_len, product_of, put_word, several, worth}
use Rattle.directives.specs.Seen.{ends_well, is_whole}

pub both : (a b : Bool) → (a && b) ≡ true → (a ≡ true) × (b ≡ true)
both true b e = (refl, e)
both false b e = absurd cc

chosen : {X : Type 0} (b : Bool) (x y z : X) (P : Type 0) → (x ≡ z → P) → (y ≡ z → P) → cond b x y ≡ z → P
chosen true x y z P f g e = f e
chosen false x y z P f g e = g e

-- the first of several tokens of a whole line, and what is behind it
pub whole_front : (p q : Placed) (ps : List Placed) → is_whole (p ∷ q ∷ ps) ≡ true → ends_well p.lexeme false ≡ true
whole_front p q ps w = (both _ _ w).0

pub whole_behind : (p q : Placed) (ps : List Placed) → is_whole (p ∷ q ∷ ps) ≡ true → is_whole (q ∷ ps) ≡ true
whole_behind p q ps w = (both _ _ w).1

-- ---- an expression of more than k tokens, and fewer than m

abbrev Within : ℕ → ℕ → (Read → List Waiting → Option Worked) → Type 0
Within k m go = (r : Read) (ws : List Waiting) (n v : ℕ) → go r ws ≡ Some (Number n v) → (k < n) × (n < m)

operand_within : (k m : ℕ) (ws : List Waiting) (t : Terminal) (go : Read → List Waiting → Option Worked) (n v : ℕ) →
    Within k m go → at_operand ws t go ≡ Some (Number n v) → (k < n) × (n < m)
operand_within k m ws (Num (Some x)) go n v h e = h (Value x) ws n v e
operand_within k m ws (Num None) go n v h e = absurd cc
operand_within k m ws (Mark s) go n v h e =
    chosen (same (Mark sign.OpenParen) (Mark s) && nat_lt (length ws) most_waiting) (go Nothing (Bracket ∷ ws)) None (Some (Number n v)) ((k < n) × (n < m))
    (h Nothing (Bracket ∷ ws) n v) (λ f. absurd cc) e
operand_within k m ws (Fixed w) go n v h e = absurd cc
operand_within k m ws (Name x) go n v h e = absurd cc
operand_within k m ws (Line ts) go n v h e = absurd cc
operand_within k m ws Unknown go n v h e = absurd cc
operand_within k m ws Unworked go n v h e = absurd cc
operand_within k m ws End go n v h e = absurd cc

close_within : (k m : ℕ) (x : Reduced) (go : Read → List Waiting → Option Worked) (n v : ℕ) → k < m → Within k m go →
    with_close k x go ≡ Some (Number n v) → (k ≤ n) × (n < m)
close_within k m (Stuck p) go n v l h e = absurd cc
close_within k m (To y []) go n v l h e = let same : k ≡ n = cc in (omega arith, omega arith)
close_within k m (To y (Bracket ∷ ws)) go n v l h e = let b = h (Value y) ws n v e in (omega arith, omega arith)
close_within k m (To y (Behind a w i ∷ ws)) go n v l h e = absurd cc

operator_within : (k m : ℕ) (i : Item Terminal) (w : Work) (x : Reduced) (go : Read → List Waiting → Option Worked) (n v : ℕ) →
    Within k m go → with_operator k i w x go ≡ Some (Number n v) → (k ≤ n) × (n < m)
operator_within k m i w (Stuck p) go n v h e = absurd cc
operator_within k m i w (To y ws) go n v h e = let b = h Nothing (Behind y w i ∷ ws) n v e in (omega arith, omega arith)

end_within : (k m : ℕ) (x : Reduced) (n v : ℕ) → k < m → at_end k x ≡ Some (Number n v) → (k ≤ n) × (n < m)
end_within k m (Stuck p) n v l e = absurd cc
end_within k m (To y []) n v l e = let same : k ≡ n = cc in (omega arith, omega arith)
end_within k m (To y (w ∷ ws)) n v l e = absurd cc

behind_within : (k m a : ℕ) (ws : List Waiting) (i : Item Terminal) (o : Option Work)
    (go : Read → List Waiting → Option Worked) (n v : ℕ) → k < m → Within k m go →
    behind_value k a ws i o go ≡ Some (Number n v) → (k ≤ n) × (n < m)
behind_within k m a ws i (Some w) go n v l h e = operator_within k m i w _ go n v h e
behind_within k m a ws i None go n v l h e =
    chosen (same (Mark sign.CloseParen) i.terminal) (with_close k (reduce 0 ws a) go) (at_end k (reduce 0 ws a))
    (Some (Number n v)) ((k ≤ n) × (n < m)) (close_within k m (reduce 0 ws a) go n v l h)
    (end_within k m (reduce 0 ws a) n v l) e

value_within : (k m a : ℕ) (single : Bool) (ws : List Waiting) (i : Item Terminal)
    (go : Read → List Waiting → Option Worked) (n v : ℕ) → k < m → Within k m go →
    cond (is_over single ws) (Some (Number k a)) (behind_value k a ws i (work_of i.terminal) go) ≡ Some (Number n v) →
    (k ≤ n) × (n < m)
value_within k m a single ws i go n v l h e =
    chosen (is_over single ws) (Some (Number k a)) (behind_value k a ws i (work_of i.terminal) go) (Some (Number n v))
    ((k ≤ n) × (n < m)) (λ (f : Some (Number k a) ≡ Some (Number n v)). let same : k ≡ n = cc in (omega arith, omega arith))
    (behind_within k m a ws i (work_of i.terminal) go n v l h) e

-- ---- the tokens of a line

last_over : (single : Bool) (ws : List Waiting) (k a n v : ℕ) →
    cond (is_over single ws) (Some (Number k a)) (at_end k (reduce 0 ws a)) ≡ Some (Number n v) → (k ≤ n) × (n < k + 1)
last_over single ws k a n v e =
    chosen (is_over single ws) (Some (Number k a)) (at_end k (reduce 0 ws a)) (Some (Number n v)) ((k ≤ n) × (n < k + 1))
    (λ (f : Some (Number k a) ≡ Some (Number n v)). let same : k ≡ n = cc in (omega arith, omega arith))
    (end_within k (k + 1) (reduce 0 ws a) n v (omega arith)) e

last_within : (vs : Values) (single : Bool) (line : ℕ) (t : Lexeme) (c : ℕ) (r : Read) (ws : List Waiting) (k n v : ℕ) →
    ends_well t true ≡ true →
    expression vs single r ws k (as_items line (record { lexeme = t; column = c } ∷ [])) ≡ Some (Number n v) →
    (k ≤ n) × (n < k + 1)
unfolding expression
last_within vs single line (Reserved w) c r ws k n v h e = absurd cc
last_within vs single line (Signed s) c r ws k n v h e = absurd cc
last_within vs single line (Worded x) c r ws k n v h e = absurd cc
last_within vs single line (Numbered m) c r ws k n v h e = absurd cc
last_within vs single line Strange c Nothing ws k n v h e = absurd cc
last_within vs single line Strange c (Value a) ws k n v h e = last_over single ws k a n v e
last_within vs single line Ended c Nothing ws k n v h e = absurd cc
last_within vs single line Ended c (Value a) ws k n v h e = last_over single ws k a n v e

count_within : (vs : Values) (single : Bool) (line : ℕ) (ps : List Placed) (r : Read) (ws : List Waiting) (k n v : ℕ) →
    is_whole ps ≡ true → expression vs single r ws k (as_items line ps) ≡ Some (Number n v) →
    (k ≤ n) × (n < k + length ps)
unfolding expression
count_within vs single line [] r ws k n v w e = absurd cc
count_within vs single line (p ∷ []) r ws k n v w e =
    let b = last_within vs single line p.lexeme p.column r ws k n v (both _ _ w).0 e in (omega arith, omega arith)
count_within vs single line (p ∷ q ∷ ps) Nothing ws k n v w e =
    let h : Within k (k + length (p ∷ q ∷ ps)) (λ r ws. expression vs single r ws (k + 1) (as_items line (q ∷ ps))) =
    λ r ws n v e. (
      let b = count_within vs single line (q ∷ ps) r ws (k + 1) n v (whole_behind p q ps w) e in omega arith,
      let b = count_within vs single line (q ∷ ps) r ws (k + 1) n v (whole_behind p q ps w) e in omega arith,
    ) in
    let b = operand_within k (k + length (p ∷ q ∷ ps)) ws (put vs (as_terminal p.lexeme)) _ n v h e in
    (omega arith, omega arith)
count_within vs single line (p ∷ q ∷ ps) (Value a) ws k n v w e =
    let h : Within k (k + length (p ∷ q ∷ ps)) (λ r ws. expression vs single r ws (k + 1) (as_items line (q ∷ ps))) =
    λ r ws n v e. (
      let b = count_within vs single line (q ∷ ps) r ws (k + 1) n v (whole_behind p q ps w) e in omega arith,
      let b = count_within vs single line (q ∷ ps) r ws (k + 1) n v (whole_behind p q ps w) e in omega arith,
    ) in
    value_within k (k + length (p ∷ q ∷ ps)) a single ws _ _ n v (omega arith) h e

worth_is : (ps : List Placed) (w : Option Worked) (n v : ℕ) → worth ps w ≡ Some (Number n v) → w ≡ Some (Number n v)
worth_is ps None n v e = absurd cc
worth_is ps (Some (Fault k p)) n v e = absurd cc
worth_is ps (Some (Number a b)) n v e =
    chosen (needs_work a ps) (Some (Number a b)) None (Some (Number n v)) (Some (Number a b) ≡ Some (Number n v)) (λ f. f)
    (λ f. absurd cc) e

several_is : (w : Option Worked) (n v : ℕ) → several w ≡ Some (Number n v) → w ≡ Some (Number n v)
several_is None n v e = absurd cc
several_is (Some (Fault k p)) n v e = absurd cc
several_is (Some (Number a b)) n v e =
    chosen _ (Some (Number a b)) None (Some (Number n v)) (Some (Number a b) ≡ Some (Number n v)) (λ f. f) (λ f. absurd cc) e

last_first : (vs : Values) (single : Bool) (line : ℕ) (t : Lexeme) (c : ℕ) (ws : List Waiting) (k n v : ℕ) →
    ends_well t true ≡ true →
    expression vs single Nothing ws k (as_items line (record { lexeme = t; column = c } ∷ [])) ≡ Some (Number n v) →
    (k < n) × (n < k + 1)
unfolding expression
last_first vs single line (Reserved w) c ws k n v h e = absurd cc
last_first vs single line (Signed s) c ws k n v h e = absurd cc
last_first vs single line (Worded x) c ws k n v h e = absurd cc
last_first vs single line (Numbered m) c ws k n v h e = absurd cc
last_first vs single line Strange c ws k n v h e = absurd cc
last_first vs single line Ended c ws k n v h e = absurd cc

first_within : (vs : Values) (single : Bool) (line : ℕ) (ps : List Placed) (ws : List Waiting) (k n v : ℕ) →
    is_whole ps ≡ true → expression vs single Nothing ws k (as_items line ps) ≡ Some (Number n v) →
    (k < n) × (n < k + length ps)
unfolding expression
first_within vs single line [] ws k n v w e = absurd cc
first_within vs single line (p ∷ []) ws k n v w e = last_first vs single line p.lexeme p.column ws k n v (both _ _ w).0 e
first_within vs single line (p ∷ q ∷ ps) ws k n v w e =
    let h : Within k (k + length (p ∷ q ∷ ps)) (λ r ws. expression vs single r ws (k + 1) (as_items line (q ∷ ps))) =
    λ r ws n v e. (
      let b = count_within vs single line (q ∷ ps) r ws (k + 1) n v (whole_behind p q ps w) e in omega arith,
      let b = count_within vs single line (q ∷ ps) r ws (k + 1) n v (whole_behind p q ps w) e in omega arith,
    ) in
    operand_within k (k + length (p ∷ q ∷ ps)) ws (put vs (as_terminal p.lexeme)) _ n v h e

-- ---- a product at the beginning of a term

exactly_is : (k : ℕ) (w : Option Worked) (n v : ℕ) → exactly k w ≡ Some (Number n v) →
    (w ≡ Some (Number n v)) × (n ≡ k)
exactly_is k None n v e = absurd cc
exactly_is k (Some (Fault j p)) n v e = absurd cc
exactly_is k (Some (Number a b)) n v e = go (a == k) refl e
  where
    go : (c : Bool) → (a == k) ≡ c → cond c (Some (Number a b)) None ≡ Some (Number n v) →
        (Some (Number a b) ≡ Some (Number n v)) × (n ≡ k)
    go true f e = (e, (let same : n ≡ a = cc in same ∙ eqb-true a k f))
    go false f e = absurd cc

len_within : (vs : Values) (d j : ℕ) (ps : List Placed) (k : ℕ) → product_len vs d j ps ≡ Some k →
    (j ≤ k) × (k < j + length ps)
len_within vs d j [] k e = absurd cc
len_within vs d j (p ∷ ps) k e =
    let t : Lexeme = put_word vs p.lexeme in
    let more : Option ℕ = product_len vs (open_behind d t) (j + 1) ps in
    let stops : Bool = not (nat_lt d most_open) || not (is_within t) in
    chosen ((d == 0) && ends_product vs t ps) (Some j) (cond stops None more) (Some k)
    ((j ≤ k) × (k < j + length (p ∷ ps)))
    (λ (f : Some j ≡ Some k). let same : j ≡ k = cc in (omega arith, omega arith))
    (chosen stops None more (Some k) ((j ≤ k) × (k < j + length (p ∷ ps))) (λ f. absurd cc)
    (λ f. let b = len_within vs (open_behind d t) (j + 1) ps k f in (omega arith, omega arith))) e

has_tokens : (vs : Values) (ps : List Placed) (k n v : ℕ) → n ≡ k →
    expression vs false Nothing [] 0 (as_items 0 (take k ps)) ≡ Some (Number n v) → 0 < n
unfolding expression
has_tokens vs [] zero n v s e = absurd cc
has_tokens vs (p ∷ ps) zero n v s e = absurd cc
has_tokens vs ps (suc k) n v s e = omega (arith, s)

product_within : (vs : Values) (ps : List Placed) (n v : ℕ) → product_at vs ps ≡ Some (Number n v) →
    (0 < n) × (n < length ps)
product_within vs ps n v e = go (product_len vs 0 0 ps) refl e
  where
    go : (o : Option ℕ) → product_len vs 0 0 ps ≡ o → product_of vs ps o ≡ Some (Number n v) →
        (0 < n) × (n < length ps)
    go None f e = absurd cc
    go (Some k) f e =
        let x = exactly_is k (expression vs false Nothing [] 0 (as_items 0 (take k ps))) n v e in
        let b = len_within vs 0 0 ps k f in (has_tokens vs ps k n v x.1 x.0, omega (arith, x.1, b.1))

or_within : (vs : Values) (ps : List Placed) (o : Option Worked) (n v : ℕ) →
    (o ≡ Some (Number n v) → (0 < n) × (n < length ps)) → or_product vs ps o ≡ Some (Number n v) →
    (0 < n) × (n < length ps)
or_within vs ps (Some w) n v h e = h e
or_within vs ps None n v h e = product_within vs ps n v e

-- so many tokens a bound has, or what a term begins with
pub bound_within : (vs : Values) (past : List Lexeme) (ps : List Placed) (n v : ℕ) → is_whole ps ≡ true →
    bound_at vs past ps ≡ Some (Number n v) → (0 < n) × (n < length ps)
bound_within vs past ps n v w e =
    let w0 : Option Worked = expression vs false Nothing [] 0 (as_items 0 ps) in
    let found : w0 ≡ Some (Number n v) → (0 < n) × (n < length ps) =
    λ f. let b = first_within vs false 0 ps [] 0 n v w f in (omega arith, omega arith) in
    let number : Option Worked = cond (begins_number past) (several w0) None in
    let term : Bool = last_is sign.Plus past || last_is sign.Minus past in
    chosen (begins_bound past) (or_product vs ps (worth ps w0)) (cond term (product_at vs ps) number)
    (Some (Number n v)) ((0 < n) × (n < length ps))
    (or_within vs ps (worth ps w0) n v (λ f. found (worth_is ps w0 n v f)))
    (chosen term (product_at vs ps) number (Some (Number n v)) ((0 < n) × (n < length ps)) (product_within vs ps n v)
    (chosen (begins_number past) (several w0) None (Some (Number n v)) ((0 < n) × (n < length ps))
    (λ f. found (several_is w0 n v f)) (λ f. absurd cc))) e
