-- The items that were found to follow an item with none between.
use Rattle.std.proofs.Common.{◌≡◌, ℕ, ◌+◌, ◌<◌, ◌≤◌, List, [], ◌∷◌, ◌++◌, sym, subst, inl, inr, ◌⊎◌, ⊎_elim, arith}
use Rattle.std.specs.Prelude.{Contains}
use Rattle.std.proofs.lemmas.Bool.{cases_eq, cases_lt}
use Rattle.std.proofs.lemmas.List.Elements.{Contains-append_left, Contains-push, Contains-push_cases}
use Rattle.base.specs.Items.{Plan}
use Rattle.base.specs.Order.{Before, IsAfterAll, through}
use Rattle.order.proofs.Befores.{is_earlier, later_inside}
use Rattle.graph.specs.Nexts.{AreNexts, IsBehindSome, IsNext}

-- the items found below a place: they follow item i with none between, and what item i is before there is one of them
-- or behind one of them
pub record FoundBelow (plan : Plan) (i place : ℕ) (found : List ℕ) : Type 0 where
  pub inside : (j : ℕ) → Contains found j → (j < place) × IsNext plan i j
  pub covers : (j : ℕ) → j < place → Before plan i j → Contains found j ⊎ IsBehindSome plan found j

pub found_none : (plan : Plan) (i : ℕ) → FoundBelow plan i i []
found_none plan i = record {
  inside = λ j c. absurd (omega (arith, c.1));
  covers = λ j lt b. let later : i < j = is_earlier plan i j b in absurd (omega (arith, lt, later));
}

-- one that is not before, or is behind one that was found, is left out
pub left_out : (plan : Plan) (i place : ℕ) (found : List ℕ) → FoundBelow plan i place found →
    (Before plan i place → IsBehindSome plan found place) → FoundBelow plan i (place + 1) found
left_out plan i place found h out = record {
  inside = λ j c. let n = h.inside j c in let lt : j < place = n.0 in (omega arith, n.1);
  covers = λ j lt b. ⊎_elim
      (λ (same : j ≡ place). inr (subst (IsBehindSome plan found) (sym same) (out (subst (Before plan i) same b))))
      (λ (other : j ≡ place → ⊥). h.covers j (omega (arith, lt, other)) b) (cases_eq j place);
}

-- one that is before and behind none that was found is added
pub added : (plan : Plan) (i place : ℕ) (found : List ℕ) → FoundBelow plan i place found → Before plan i place →
    (IsBehindSome plan found place → ⊥) → FoundBelow plan i (place + 1) (found ++ place ∷ [])
added plan i place found h before behind_none = record {
  inside = λ j c. ⊎_elim
      (λ (old : Contains found j). let n = h.inside j old in let lt : j < place = n.0 in (omega arith, n.1))
      (λ (new : place ≡ j). let e : place ≡ j = new in (omega arith, subst (IsNext plan i) new next))
      (Contains-push_cases found place j c);
  covers = λ j lt b. ⊎_elim
      (λ (same : j ≡ place). inl (subst (Contains (found ++ place ∷ [])) (sym same) (Contains-push found place)))
      (λ (other : j ≡ place → ⊥). more j (h.covers j (omega (arith, lt, other)) b)) (cases_eq j place);
}
  where
    next : IsNext plan i place
    next = record {
      before = before;
      none_between = λ k first second. ⊎_elim
          (λ (c : Contains found k). behind_none (k, c, second))
          (λ (s : IsBehindSome plan found k). behind_none (s.0, s.1, through s.0 k place s.2 second))
          (h.covers k (is_earlier plan k place second) first);
    }

    more : (j : ℕ) → Contains found j ⊎ IsBehindSome plan found j →
        Contains (found ++ place ∷ []) j ⊎ IsBehindSome plan (found ++ place ∷ []) j
    more j (inl c) = inl (Contains-append_left found (place ∷ []) j c)
    more j (inr s) = inr (s.0, Contains-append_left found (place ∷ []) s.0 s.1, s.2)

-- behind an item that is before all that follow it none is left
pub none_left : (plan : Plan) (i place end all : ℕ) (found : List ℕ) → FoundBelow plan i (place + 1) (found ++ place ∷ []) →
    place < end → IsAfterAll plan place all → all ≤ place + 1 → FoundBelow plan i end (found ++ place ∷ [])
none_left plan i place end all found h inside after le = record {
  inside = λ j c. let n = h.inside j c in let lt : j < place + 1 = n.0 in (omega (arith, inside), n.1);
  covers = λ j lt b. ⊎_elim
      (λ (below : j < place + 1). h.covers j below b)
      (λ (past : place + 1 ≤ j). inr (
        place,
        Contains-push found place,
        after.all j (omega (arith, past, le))
            (later_inside plan i j b),
      )) (cases_lt j (place + 1));
}

pub are_nexts : (plan : Plan) (i end : ℕ) (found : List ℕ) → FoundBelow plan i end found → AreNexts plan i end found
are_nexts plan i end found h j = (
  h.inside j,
  λ n. ⊎_elim (λ (c : Contains found j). c)
      (λ (s : IsBehindSome plan found j). absurd (n.1.none_between s.0 (h.inside s.0 s.1).1.before s.2))
      (h.covers j n.0 n.1.before),
)
