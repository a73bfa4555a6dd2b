-- Conditions of numbers, where operators are worked out.
use Rattle.std.proofs.Common.{◌≡◌, ◌∙◌, ℕ, ◌<◌, ◌≤◌, true, false, List, [], ◌∷◌, map, Option, Some, None, refl, sym, ap, rules}
use Rattle.std.specs.Prelude.{nat_le}
use Rattle.c_grammar.specs.Conditions.{To, Stuck, reduce, result, tightness}
use Rattle.c_written.specs.declared.condition.Operator.{Operator}
use Rattle.c_written.specs.declared.condition.Waiting.{Waiting}
use Rattle.c_written.specs.declared.condition.Waiting.TheVariants as waiting
use Rattle.c_written.specs.Conditions.{seen_operator, seen_waiting}
use Rattle.c_written.specs.Stack.{item_at}

pub reduce_stop : (t n a : ℕ) (o : Operator) (ws : List Waiting) → item_at 0 ws ≡ Some (waiting.Behind a o) →
    tightness (seen_operator o) < t → reduce t (map seen_waiting ws) n ≡ To n (map seen_waiting ws)
reduce_stop t n a o [] e h = absurd cc
reduce_stop t n a o (waiting.Bracket ∷ ws) e h = refl
reduce_stop t n a o (waiting.Negated ∷ ws) e h = absurd cc
reduce_stop t n a o (waiting.Behind b p ∷ ws) e h =
    let same : p ≡ o = cc in
    let looser : nat_le t (tightness (seen_operator o)) ≡ false = search rules in
    rw (ap (λ (q : Operator). nat_le t (tightness (seen_operator q))) same ∙ looser) refl

pub reduce_stuck : (t n a : ℕ) (o : Operator) (ws : List Waiting) → item_at 0 ws ≡ Some (waiting.Behind a o) →
    t ≤ tightness (seen_operator o) → result (seen_operator o) a n ≡ None → reduce t (map seen_waiting ws) n ≡ Stuck
reduce_stuck t n a o [] e h f = absurd cc
reduce_stuck t n a o (waiting.Bracket ∷ ws) e h f = absurd cc
reduce_stuck t n a o (waiting.Negated ∷ ws) e h f = absurd cc
reduce_stuck t n a o (waiting.Behind b p ∷ ws) e h f =
    let same : p ≡ o = cc in
    let left : b ≡ a = cc in
    let tight : nat_le t (tightness (seen_operator o)) ≡ true = search rules in
    rw (
      ap (λ (q : Operator). nat_le t (tightness (seen_operator q))) same ∙ tight,
      ap (λ (q : Operator). result (seen_operator q) b n) same ∙ ap (λ (m : ℕ). result (seen_operator o) m n) left ∙ f,
    )
    refl

pub reduce_bracket : (t n : ℕ) (ws : List Waiting) → item_at 0 ws ≡ Some waiting.Bracket →
    reduce t (map seen_waiting ws) n ≡ To n (map seen_waiting ws)
reduce_bracket t n [] e = absurd cc
reduce_bracket t n (waiting.Bracket ∷ ws) e = refl
reduce_bracket t n (waiting.Negated ∷ ws) e = absurd cc
reduce_bracket t n (waiting.Behind b p ∷ ws) e = absurd cc

pub reduce_none : (t n : ℕ) (ws : List Waiting) → item_at 0 ws ≡ None →
    reduce t (map seen_waiting ws) n ≡ To n (map seen_waiting ws)
reduce_none t n [] e = refl
reduce_none t n (w ∷ ws) e = absurd cc
