-- Operators that are worked out, and tokens of an expression.
use Rattle.std.proofs.Common.{◌≡◌, ◌∙◌, ℕ, ◌+◌, ◌<◌, ◌≤◌, true, false, List, [], ◌∷◌, map, Option, Some, None, refl, sym, ap, rules}
use Rattle.std.specs.Prelude.{nat_le}
use Rattle.c_grammar.specs.Blocks.{Items}
use Rattle.c_grammar.specs.Terminal.{Terminal}
use Rattle.c_grammar.specs.Texts.{Item}
use Rattle.c_grammar.specs.Expressions.{Read, Waiting, Worked, To, Stuck, reduce, tightness, result, at_end, expression}
use Rattle.c_written.specs.declared.work.Operator.{Operator}
use Rattle.c_written.specs.declared.expressions.Reader.{Reader}
use Rattle.c_written.specs.declared.expressions.Going.{Going}
use Rattle.c_written.specs.declared.expressions.Going.TheVariants as going
use Rattle.c_written.specs.declared.expressions.Waiting.{Waiting as GivenWaiting}
use Rattle.c_written.specs.declared.expressions.Waiting.TheVariants as waiting
use Rattle.c_written.specs.Values.{seen_values}
use Rattle.c_written.specs.Stack.{item_at}
use Rattle.c_written.specs.Work.{seen_work, seen_operator, seen_waiting, waiting_of, read_of}
use Rattle.c_written.specs.Reader.{IsKept, Goes, GoesOn, rest_of, by_value, stepped}

pub reduce_stop : (t n a : ℕ) (o : Operator) (ws : List GivenWaiting) → item_at 0 ws ≡ Some (waiting.Behind a o) →
    tightness (seen_work o.work) < t → reduce t (map seen_waiting ws) n ≡ To n (map seen_waiting ws)
reduce_stop t n a o [] e h = absurd cc
reduce_stop t n a o (waiting.Bracket ∷ ws) e h = refl
reduce_stop t n a o (waiting.Behind b p ∷ ws) e h =
    let same : p ≡ o = cc in
    let looser : nat_le t (tightness (seen_work o.work)) ≡ false = search rules in
    rw (ap (λ (q : Operator). nat_le t (tightness (seen_work q.work))) same ∙ looser) refl

pub reduce_stuck : (t n a : ℕ) (o : Operator) (ws : List GivenWaiting) → item_at 0 ws ≡ Some (waiting.Behind a o) →
    t ≤ tightness (seen_work o.work) → result (seen_work o.work) a n ≡ None →
    reduce t (map seen_waiting ws) n ≡ Stuck (seen_operator o)
reduce_stuck t n a o [] e h f = absurd cc
reduce_stuck t n a o (waiting.Bracket ∷ ws) e h f = absurd cc
reduce_stuck t n a o (waiting.Behind b p ∷ ws) e h f =
    let same : p ≡ o = cc in
    let left : b ≡ a = cc in
    let tight : nat_le t (tightness (seen_work o.work)) ≡ true = search rules in
    rw (
      ap (λ (q : Operator). nat_le t (tightness (seen_work q.work))) same ∙ tight,
      ap (λ (q : Operator). result (seen_work q.work) b n) same ∙ ap (λ (m : ℕ). result (seen_work o.work) m n) left ∙ f,
    )
    (ap (λ (q : Operator). Stuck (seen_operator q)) same)

pub reduce_bracket : (t n : ℕ) (ws : List GivenWaiting) → item_at 0 ws ≡ Some waiting.Bracket →
    reduce t (map seen_waiting ws) n ≡ To n (map seen_waiting ws)
reduce_bracket t n [] e = absurd cc
reduce_bracket t n (waiting.Bracket ∷ ws) e = refl
reduce_bracket t n (waiting.Behind b p ∷ ws) e = absurd cc

pub reduce_none : (t n : ℕ) (ws : List GivenWaiting) → item_at 0 ws ≡ None →
    reduce t (map seen_waiting ws) n ≡ To n (map seen_waiting ws)
reduce_none t n [] e = refl
reduce_none t n (w ∷ ws) e = absurd cc

-- ---- the end

pub finish_none : (r : Reader) → r.value ≡ None → rest_of r [] ≡ None
unfolding expression
finish_none r e = rw e refl

pub finish_some : (r : Reader) (n : ℕ) → r.value ≡ Some n →
    rest_of r [] ≡ at_end r.count (reduce 0 (waiting_of r.waiting) n)
unfolding expression
finish_some r n e = rw e refl

-- ---- a token

pub stepped_by : (r : Reader) (o : Option ℕ) (i : Item Terminal) (go : Read → List Waiting → Option Worked) → r.value ≡ o →
    stepped r i go ≡ by_value r o i go
stepped_by r o i go e = ap (λ (p : Option ℕ). by_value r p i go) e

first_step : (r : Reader) (o : Option ℕ) (i : Item Terminal) (is : Items) →
    expression (seen_values r.values.now) r.single (read_of o) (waiting_of r.waiting) r.count (i ∷ is) ≡
    by_value r o i (λ x ws. expression (seen_values r.values.now) r.single x ws (r.count + 1) is)
unfolding expression
first_step r None i is = refl
first_step r (Some n) i is = refl

same_rest : (r s t : Reader) (is : Items) → IsKept r s → t.values.now ≡ s.values.now → t.single ≡ s.single →
    t.value ≡ s.value → t.waiting ≡ s.waiting → t.count ≡ s.count + 1 →
    expression (seen_values r.values.now) r.single (read_of s.value) (waiting_of s.waiting) (r.count + 1) is ≡ rest_of t is
same_rest r s t is k a b c d e =
    ap (λ v. expression (seen_values v) r.single (read_of s.value) (waiting_of s.waiting) (r.count + 1) is) (sym k.values ∙ sym a)
    ∙ ap (λ x. expression (seen_values t.values.now) x (read_of s.value) (waiting_of s.waiting) (r.count + 1) is) (sym k.single ∙ sym b)
    ∙ ap (λ x. expression (seen_values t.values.now) t.single (read_of x) (waiting_of s.waiting) (r.count + 1) is) (sym c)
    ∙ ap (λ x. expression (seen_values t.values.now) t.single (read_of t.value) (waiting_of x) (r.count + 1) is) (sym d)
    ∙ ap (λ (n : ℕ). expression (seen_values t.values.now) t.single (read_of t.value) (waiting_of t.waiting) n is)
    (ap (λ (n : ℕ). n + 1) (sym k.count) ∙ sym e)

-- a token is counted
pub taken : (r s t : Reader) (i : Item Terminal) (is : Items) (x : Going) →
    ((go : Read → List Waiting → Option Worked) → stepped r i go ≡ Goes x s go) → IsKept r s →
    t.values.now ≡ s.values.now → t.single ≡ s.single → t.value ≡ s.value → t.waiting ≡ s.waiting → t.count ≡ s.count + 1 →
    rest_of r (i ∷ is) ≡ GoesOn x t is
taken r s t i is going.On h k a b c d e =
    first_step r r.value i is ∙ h (λ y ws. expression (seen_values r.values.now) r.single y ws (r.count + 1) is)
    ∙ same_rest r s t is k a b c d e
taken r s t i is (going.Over o) h k a b c d e =
    first_step r r.value i is ∙ h (λ y ws. expression (seen_values r.values.now) r.single y ws (r.count + 1) is)
