-- What is left of an open item after its action's answer.
use Rattle.std.proofs.Common.{◌≡◌, inl, inr, ℕ, zero, suc, ◌<◌, List, [], ◌∷◌, ◌++◌, Option, Some, None, length, map, refl, ap, sym, ◌∙◌, subst, arith}
use Rattle.std.specs.Prelude.{drop, take, slice_index_or}
use Rattle.std.specs.List.{remove}
use Rattle.fine_machine.specs.Left.{Left, Asks, Answer, together}
use Rattle.actions.specs.declared.control.Control.{Control}
use Rattle.actions.specs.declared.strand.Strand.{Strand}
use Rattle.actions.specs.declared.unordered.Unordered.{Unordered}
use Rattle.actions.specs.Control.{AllActing, Answers, IsAmid, IsBefore, IsStopped, MayWait, PutsBack, acting, and_kernel, kernel_rest, left_of, place, then_from}
use Rattle.actions.specs.Strand.{IsAnswered, stack_of}
use Rattle.actions.specs.Strand as strand
use Rattle.actions.proofs.Answered.{answered}
use Rattle.actions.proofs.AtPlaces.{drop_first, take_first}
use Rattle.actions.proofs.FirstActs.{acting_asks, asks_of}
use Rattle.actions.proofs.NextTurns.{IsPicked, acting_append, acting_before, after_turns, left_picked, no_turns, picked_at}

-- the strand has acted
pub answers_strand : (c : Control) (s : Strand) (r : Answer) (new : Left) → c.turns.items ≡ [] →
    IsBefore c.kernel c → strand.Answers r c.strand s →
    new ≡ left_of (record c { strand = s }) → IsAnswered (left_of c) r new
answers_strand c s r new none before a is = go c.kernel refl before
  where
    now : left_of c ≡ and_kernel c.order.now c.kernel (strand.left_of c.strand)
    now = no_turns c none

    next : new ≡ and_kernel c.order.now c.kernel (strand.left_of s)
    next = is ∙ no_turns (record c { strand = s }) none

    go : (u : Option Unordered) → c.kernel ≡ u → IsBefore u c → IsAnswered (left_of c) r new
    go None e b = λ q k same.
        next ∙ ap (λ v. and_kernel c.order.now v (strand.left_of s)) e
        ∙ a q k (sym (now ∙ ap (λ v. and_kernel c.order.now v (strand.left_of c.strand)) e) ∙ same)
    go (Some u) e b =
        let asks = asks_of (strand.left_of c.strand) (acting_asks c.strand (acting_before c u none b)) in
        let rest = kernel_rest c.order.now u in
        let was : left_of c ≡ Asks asks.0 (λ v. then_from (asks.1.0 v) rest) =
        now ∙ ap (λ v. and_kernel c.order.now v (strand.left_of c.strand)) e ∙ ap (λ l. then_from l rest) asks.1.1 in
        subst (λ l. IsAnswered l r new) (sym was)
        (answered asks.0 (λ v. then_from (asks.1.0 v) rest) r new
        (next ∙ ap (λ v. and_kernel c.order.now v (strand.left_of s)) e
        ∙ ap (λ l. then_from l rest) (a asks.0 asks.1.0 asks.1.1)))

-- a kernel that comes after turns goes on in order
pub amid_turns : (c : Control) (u : Unordered) → 0 < length c.turns.items → IsBefore (Some u) c → IsAmid c
amid_turns c u some (inl h) = absurd (omega (arith, some, ap length h.1))
amid_turns c u some (inr amid) = amid

-- a turn has acted
module _ (c n : Control) (xs : List Strand) (x : Strand) (ys : List Strand) (r : Answer) (p : IsPicked c xs x ys)
    (some : 0 < length c.turns.items) (before : IsBefore c.kernel c) (kernel : n.kernel ≡ c.kernel)
    (same : n.strand ≡ c.strand) (order : n.order.now ≡ drop 1 c.order.now)
    (back : PutsBack (length xs) x r (xs ++ ys) n.turns.items) where
  after_same : after_turns n ≡ after_turns c
  after_same = ap (λ u. and_kernel n.order.now u (strand.left_of n.strand)) kernel ∙ go c.kernel before
    where
      go : (u : Option Unordered) → IsBefore u c →
          and_kernel n.order.now u (strand.left_of n.strand) ≡ and_kernel c.order.now u (strand.left_of c.strand)
      go None b = ap strand.left_of same
      go (Some u) b =
          let none = (amid_turns c u some b).in_order in
          λ i. and_kernel ((order ∙ ap (drop 1) none ∙ sym none) i) (Some u) (strand.left_of (same i))

  pub answers_turn : Answers r c n
  unfolding left_of
  answers_turn =
      let asks = asks_of (strand.left_of x) (acting_asks x p.acting) in
      let next = drop 1 c.order.now in
      subst (λ l. IsAnswered l r (left_of n)) (sym (left_picked c xs x ys asks.0 asks.1.0 p asks.1.1))
      (answered asks.0 _ r (left_of n)
      ((λ i. together (order i) (map strand.left_of n.turns.items) (after_same i))
      ∙ sym (back.left asks.0 asks.1.0 asks.1.1 next (after_turns c))
      ∙ (λ i. together next
      (map strand.left_of (take_first xs ys i) ++ asks.1.0 r ∷ map strand.left_of (drop_first xs ys i)) (after_turns c))))

  pub acting_turns : AllActing n.turns.items
  acting_turns = back.acting (acting_append xs ys p.before p.behind)

  pub waits : MayWait n.kernel n
  waits = subst (λ u. MayWait u n) (sym kernel) (go c.kernel before)
    where
      go : (u : Option Unordered) → IsBefore u c → MayWait u n
      go None b = tt
      go (Some u) b =
          let amid = amid_turns c u some b in
          inr (ap stack_of same ∙ amid.ended, order ∙ ap (drop 1) amid.in_order)

pub same_there : {X : Type 0} (xs : List X) (n : ℕ) (d e : X) → n < length xs →
    slice_index_or xs n d ≡ slice_index_or xs n e
same_there {X} [] n d e lt = absurd (omega (arith, lt))
same_there {X} (x ∷ xs) zero d e lt = refl
same_there {X} (x ∷ xs) (suc n) d e lt = same_there xs n d e (omega (arith, lt))

-- the turn at the place has acted, and is back, or has come to its end
module _ (c n : Control) (x : Strand) (k : ℕ) (without : List Strand) (r : Answer) (stopped : IsStopped c)
    (inside : k < length c.turns.items) (at : k ≡ place c.order.now (length c.turns.items)) (taken : acting c ≡ x)
    (removed : without ≡ remove c.turns.items k) (kernel : n.kernel ≡ c.kernel) (same : n.strand ≡ c.strand)
    (order : n.order.now ≡ drop 1 c.order.now) (back : PutsBack k x r without n.turns.items) where
  abbrev here : ℕ
  here = place c.order.now (length c.turns.items)

  abbrev before : List Strand
  before = take here c.turns.items

  abbrev behind : List Strand
  behind = drop (suc here) c.turns.items

  some : 0 < length c.turns.items
  some = omega (arith, inside)

  picked : IsPicked c before (acting c) behind
  picked = picked_at c some stopped.turns

  long : k ≡ length before
  long = at ∙ picked.place

  rest : without ≡ before ++ behind
  rest = removed ∙ ap (remove c.turns.items) at

  returned : PutsBack (length before) (acting c) r (before ++ behind) n.turns.items
  returned =
      subst (λ m. PutsBack m (acting c) r (before ++ behind) n.turns.items) long
      (subst (λ ts. PutsBack k (acting c) r ts n.turns.items) rest
      (subst (λ y. PutsBack k y r without n.turns.items) (sym taken) back))

  pub goes_on : Answers r c n
  goes_on = answers_turn c n before (acting c) behind r picked some stopped.kernel kernel same order returned

  pub turns_act : AllActing n.turns.items
  turns_act = acting_turns c n before (acting c) behind r picked some stopped.kernel kernel same order returned

  pub may_wait : MayWait n.kernel n
  may_wait = waits c n before (acting c) behind r picked some stopped.kernel kernel same order returned
