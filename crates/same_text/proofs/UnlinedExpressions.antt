-- Expressions of constants are read without a look at the lines of the tokens.
use Rattle.std.proofs.Common.{◌≡◌, ℕ, suc, ◌+◌, Bool, true, false, cond, List, [], ◌∷◌, length, Option, Some, None, refl, ap, ◌∙◌}
use Rattle.std.specs.Prelude.{◌&&◌, nat_le, nat_lt}
use Rattle.c_tokens.specs.declared.kind.Sign.TheVariants as sign
use Rattle.c_grammar.specs.Terminal.{Terminal, Fixed, Mark, Name, Num, Line, Unknown, Unworked, End, same}
use Rattle.c_grammar.specs.Texts.{Item}
use Rattle.c_grammar.specs.Expressions.{Items, Values, put, Work, tightness, work_of, result, Waiting, Behind, Bracket, Read, Nothing, Value, Worked, Number, Fault, Reduced, To, Stuck, reduce_on, reduce, with_operator, with_close, at_end, behind_value, most_waiting, at_operand, is_over, expression}
use Rattle.c_grammar.specs.Constants.{at_wanted}
use Rattle.same_text.specs.Laws.{unlined}
use Rattle.same_text.proofs.Unlined.{all_unlined}

-- ---- expressions

abbrev waiting_unlined : Waiting → Waiting
waiting_unlined (Behind a w i) = Behind a w (unlined i)
waiting_unlined Bracket = Bracket

abbrev all_waiting : List Waiting → List Waiting
all_waiting [] = []
all_waiting (w ∷ ws) = waiting_unlined w ∷ all_waiting ws

abbrev reduced_unlined : Reduced → Reduced
reduced_unlined (To n ws) = To n (all_waiting ws)
reduced_unlined (Stuck p) = Stuck (unlined p)

abbrev pub found_unlined : Option Worked → Option Worked
found_unlined None = None
found_unlined (Some (Number k n)) = Some (Number k n)
found_unlined (Some (Fault k p)) = Some (Fault k (unlined p))

reduce_same : (k : ℕ) (ws : List Waiting) (n : ℕ) → reduce k (all_waiting ws) n ≡ reduced_unlined (reduce k ws n)
reduce_same k [] n = refl
reduce_same k (Bracket ∷ ws) n = refl
reduce_same k (Behind a w i ∷ ws) n = step (nat_le k (tightness w)) (result w a n) (λ v. reduce_same k ws v)
  where
    step : (b : Bool) (o : Option ℕ) → ((v : ℕ) → reduce k (all_waiting ws) v ≡ reduced_unlined (reduce k ws v)) →
        cond b (reduce_on (unlined i) o (λ v. reduce k (all_waiting ws) v)) (To n (Behind a w (unlined i) ∷ all_waiting ws))
        ≡ reduced_unlined (cond b (reduce_on i o (λ v. reduce k ws v)) (To n (Behind a w i ∷ ws)))
    step true None ih = refl
    step true (Some v) ih = ih v
    step false o ih = refl

abbrev Go : Type 0
Go = Read → List Waiting → Option Worked

abbrev AreSame : Go → Go → Type 0
AreSame go' go = (r : Read) (ws : List Waiting) → go' r (all_waiting ws) ≡ found_unlined (go r ws)

operator_same : (k : ℕ) (i : Item Terminal) (w : Work) (q : Reduced) (go go' : Go) → AreSame go' go →
    with_operator k (unlined i) w (reduced_unlined q) go' ≡ found_unlined (with_operator k i w q go)
operator_same k i w (Stuck p) go go' r = refl
operator_same k i w (To n ws) go go' r = r Nothing (Behind n w i ∷ ws)

close_same : (k : ℕ) (q : Reduced) (go go' : Go) → AreSame go' go →
    with_close k (reduced_unlined q) go' ≡ found_unlined (with_close k q go)
close_same k (Stuck p) go go' r = refl
close_same k (To n []) go go' r = refl
close_same k (To n (Bracket ∷ ws)) go go' r = r (Value n) ws
close_same k (To n (Behind a w i ∷ ws)) go go' r = refl

end_same : (k : ℕ) (q : Reduced) → at_end k (reduced_unlined q) ≡ found_unlined (at_end k q)
end_same k (Stuck p) = refl
end_same k (To n []) = refl
end_same k (To n (w ∷ ws)) = refl

value_same : (k n : ℕ) (ws : List Waiting) (i : Item Terminal) (o : Option Work) (go go' : Go) → AreSame go' go →
    behind_value k n (all_waiting ws) (unlined i) o go' ≡ found_unlined (behind_value k n ws i o go)
value_same k n ws i (Some w) go go' r =
    ap (λ (q : Reduced). with_operator k (unlined i) w q go') (reduce_same (tightness w) ws n)
    ∙ operator_same k i w (reduce (tightness w) ws n) go go' r
value_same k n ws i None go go' r = step (same (Mark sign.CloseParen) i.terminal)
  where
    step : (b : Bool) →
        cond b (with_close k (reduce 0 (all_waiting ws) n) go') (at_end k (reduce 0 (all_waiting ws) n))
        ≡ found_unlined (cond b (with_close k (reduce 0 ws n) go) (at_end k (reduce 0 ws n)))
    step true = ap (λ (q : Reduced). with_close k q go') (reduce_same 0 ws n) ∙ close_same k (reduce 0 ws n) go go' r
    step false = ap (at_end k) (reduce_same 0 ws n) ∙ end_same k (reduce 0 ws n)

waiting_length : (ws : List Waiting) → length (all_waiting ws) ≡ length ws
waiting_length [] = refl
waiting_length (w ∷ ws) = ap suc (waiting_length ws)

operand_same : (ws : List Waiting) (t : Terminal) (go go' : Go) → AreSame go' go →
    at_operand (all_waiting ws) t go' ≡ found_unlined (at_operand ws t go)
operand_same ws (Num (Some n)) go go' r = r (Value n) ws
operand_same ws (Num None) go go' r = refl
operand_same ws (Mark s) go go' r =
    ap
    (λ (n : ℕ). cond (same (Mark sign.OpenParen) (Mark s) && nat_lt n most_waiting) (go' Nothing (Bracket ∷ all_waiting ws)) None)
    (waiting_length ws)
    ∙ step (same (Mark sign.OpenParen) (Mark s) && nat_lt (length ws) most_waiting)
  where
    step : (b : Bool) → cond b (go' Nothing (Bracket ∷ all_waiting ws)) None
        ≡ found_unlined (cond b (go Nothing (Bracket ∷ ws)) None)
    step true = r Nothing (Bracket ∷ ws)
    step false = refl
operand_same ws (Fixed w) go go' r = refl
operand_same ws (Name x) go go' r = refl
operand_same ws (Line ts) go go' r = refl
operand_same ws Unknown go go' r = refl
operand_same ws Unworked go go' r = refl
operand_same ws End go go' r = refl

over_same : (single : Bool) (ws : List Waiting) → is_over single (all_waiting ws) ≡ is_over single ws
over_same single [] = refl
over_same single (w ∷ ws) = refl

pub expression_same : (is : Items) (vs : Values) (single : Bool) (q : Read) (ws : List Waiting) (k : ℕ) →
    expression vs single q (all_waiting ws) k (all_unlined is) ≡ found_unlined (expression vs single q ws k is)
unfolding expression
expression_same [] vs single Nothing ws k = refl
expression_same [] vs single (Value n) ws k = ap (at_end k) (reduce_same 0 ws n) ∙ end_same k (reduce 0 ws n)
expression_same (i ∷ is) vs single Nothing ws k =
    operand_same ws (put vs i.terminal) (λ r ws. expression vs single r ws (k + 1) is)
    (λ r ws. expression vs single r ws (k + 1) (all_unlined is)) (λ r ws. expression_same is vs single r ws (k + 1))
expression_same (i ∷ is) vs single (Value n) ws k =
    ap
    (λ (b : Bool). cond b (Some (Number k n))
    (behind_value k n (all_waiting ws) (unlined i) (work_of i.terminal)
    (λ r ws. expression vs single r ws (k + 1) (all_unlined is))))
    (over_same single ws)
    ∙ step (is_over single ws) (λ r ws. expression_same is vs single r ws (k + 1))
  where
    step : (b : Bool) →
        AreSame (λ r ws. expression vs single r ws (k + 1) (all_unlined is)) (λ r ws. expression vs single r ws (k + 1) is) →
        cond b (Some (Number k n))
        (behind_value k n (all_waiting ws) (unlined i) (work_of i.terminal)
        (λ r ws. expression vs single r ws (k + 1) (all_unlined is)))
        ≡ found_unlined (cond b (Some (Number k n))
        (behind_value k n ws i (work_of i.terminal) (λ r ws. expression vs single r ws (k + 1) is)))
    step true ih = refl
    step false ih =
        value_same k n ws i (work_of i.terminal) (λ r ws. expression vs single r ws (k + 1) is)
        (λ r ws. expression vs single r ws (k + 1) (all_unlined is)) ih

pub wanted_same : (vs : Values) (is : Items) (o : Option Bool) →
    at_wanted vs (all_unlined is) o ≡ found_unlined (at_wanted vs is o)
wanted_same vs is None = refl
wanted_same vs is (Some single) = expression_same is vs single Nothing [] 0
