-- The action that an open item does next, and what is left after it.
use Rattle.std.proofs.Common.{◌≡◌, inl, inr, suc, ◌<◌, List, [], ◌∷◌, ◌++◌, Option, Some, None, length, map, refl, ap, sym, ◌∙◌, subst, arith}
use Rattle.std.specs.Prelude.{drop, take, slice_index_or}
use Rattle.std.proofs.lemmas.List.{map-append}
use Rattle.fine_machine.specs.Left.{Left, Asks, Answer, Request, together}
use Rattle.actions.specs.declared.action.Action.{Action}
use Rattle.actions.specs.declared.control.Control.{Control}
use Rattle.actions.specs.declared.strand.Strand.{Strand}
use Rattle.actions.specs.declared.unordered.Unordered.{Unordered}
use Rattle.actions.specs.Control.{AllActing, IsBefore, IsNext, IsStopped, acting, and_kernel, kernel_rest, left_of, place, then_from}
use Rattle.actions.specs.Strand.{HasSection, IsActing, IsAnswered, request_of, run_of, side_of}
use Rattle.actions.specs.Strand as strand
use Rattle.actions.proofs.AtPlaces.{at_place, map_length, place_below, take_length}
use Rattle.actions.proofs.FirstActs.{all_ask, never_ended, stops_acting}
use Rattle.actions.proofs.Together.{picks, together_none}

-- what comes after the turns
abbrev pub after_turns : Control → Left
after_turns c = and_kernel c.order.now c.kernel (strand.left_of c.strand)

-- where there are no turns
pub no_turns : (c : Control) → c.turns.items ≡ [] → left_of c ≡ after_turns c
unfolding left_of
no_turns c none =
    ap (λ ts. together c.order.now (map strand.left_of ts) (after_turns c)) none
    ∙ together_none c.order.now (after_turns c)

pub acting_append : (xs ys : List Strand) → AllActing xs → AllActing ys → AllActing (xs ++ ys)
acting_append [] ys h k = k
acting_append (x ∷ xs) ys h k = (h.0, acting_append xs ys h.1 k)

pub acting_left : (xs ys : List Strand) → AllActing (xs ++ ys) → AllActing xs
acting_left [] ys h = tt
acting_left (x ∷ xs) ys h = (h.0, acting_left xs ys h.1)

pub acting_right : (xs ys : List Strand) → AllActing (xs ++ ys) → AllActing ys
acting_right [] ys h = h
acting_right (x ∷ xs) ys h = acting_right xs ys h.1

-- a turn that acts next, and those before and after it
pub record IsPicked (c : Control) (xs : List Strand) (x : Strand) (ys : List Strand) : Type 0 where
  pub is : c.turns.items ≡ xs ++ x ∷ ys
  pub place : place c.order.now (length c.turns.items) ≡ length xs
  pub before : AllActing xs
  pub acting : IsActing x
  pub behind : AllActing ys

pub picked_at : (c : Control) → 0 < length c.turns.items → AllActing c.turns.items →
    IsPicked c (take (place c.order.now (length c.turns.items)) c.turns.items) (acting c)
    (drop (suc (place c.order.now (length c.turns.items))) c.turns.items)
picked_at c some all =
    let ts = c.turns.items in
    let n = place c.order.now (length ts) in
    let below : n < length ts = place_below c.order.now (length ts) some in
    let split = at_place ts n c.strand below in
    let each = subst AllActing split all in
    let last = acting_right (take n ts) (acting c ∷ drop (suc n) ts) each in
    record {
      is = split;
      place = sym (take_length ts n (omega (arith, below)));
      before = acting_left (take n ts) (acting c ∷ drop (suc n) ts) each;
      acting = last.0;
      behind = last.1;
    }

-- what is left, where a turn acts next
pub left_picked : (c : Control) (xs : List Strand) (x : Strand) (ys : List Strand) (q : Request) (k : Answer → Left) →
    IsPicked c xs x ys → strand.left_of x ≡ Asks q k →
    left_of c
    ≡ Asks q
    (λ a. together (drop 1 c.order.now) (map strand.left_of xs ++ k a ∷ map strand.left_of ys) (after_turns c))
unfolding left_of
left_picked c xs x ys q k p asks =
    let order = c.order.now in
    let lefts : map strand.left_of c.turns.items ≡ map strand.left_of xs ++ Asks q k ∷ map strand.left_of ys =
    ap (map strand.left_of) p.is ∙ map-append strand.left_of xs (x ∷ ys)
    ∙ ap (λ l. map strand.left_of xs ++ l ∷ map strand.left_of ys) asks in
    ap (λ ls. together order ls (after_turns c)) lefts
    ∙ picks order (map strand.left_of xs) (map strand.left_of ys) q k (after_turns c) (all_ask xs p.before)
    (all_ask ys p.behind)
    (ap (place order) (sym (ap length lefts) ∙ map_length strand.left_of c.turns.items) ∙ p.place
    ∙ sym (map_length strand.left_of xs))

-- where there are no turns, a kernel comes after an action
pub acting_before : (c : Control) (u : Unordered) → c.turns.items ≡ [] → IsBefore (Some u) c → IsActing c.strand
acting_before c u none (inl h) = h.0
acting_before c u none (inr amid) = absurd (amid.some none)

-- the strand acts next, where there are no turns
next_strand : (c : Control) → c.turns.items ≡ [] → IsBefore c.kernel c → (o : Option Action) →
    strand.IsNext c.strand o → acting c ≡ c.strand → IsNext c o
next_strand c none before o next is = go c.kernel refl before o next
  where
    go : (u : Option Unordered) → c.kernel ≡ u → IsBefore u c → (o : Option Action) →
        strand.IsNext c.strand o → IsNext c o
    go None e b None n = no_turns c none ∙ ap (λ u. and_kernel c.order.now u (strand.left_of c.strand)) e ∙ n
    go (Some u) e b None n = absurd (never_ended c.strand (run_of c.strand) (acting_before c u none b) n)
    go None e b (Some a) n = (
      n.0,
      (
        n.1.0,
        no_turns c none ∙ ap (λ u. and_kernel c.order.now u (strand.left_of c.strand)) e ∙ n.1.1
            ∙ ap (λ (s : Strand). Asks (request_of (side_of s.on_host) a) n.1.0) (sym is),
      ),
    )
    go (Some u) e b (Some a) n = (
      n.0,
      (
        (λ r. then_from (n.1.0 r) (kernel_rest c.order.now u)),
        no_turns c none ∙ ap (λ v. and_kernel c.order.now v (strand.left_of c.strand)) e
            ∙ ap (λ l. then_from l (kernel_rest c.order.now u)) n.1.1
            ∙ ap (λ (s : Strand). Asks (request_of (side_of s.on_host) a) (λ r. then_from (n.1.0 r) (kernel_rest c.order.now u)))
            (sym is),
      ),
    )

next_turn : (c : Control) (xs ys : List Strand) → IsPicked c xs (acting c) ys → (o : Option Action) →
    strand.IsNext (acting c) o → IsNext c o
next_turn c xs ys p None n = absurd (never_ended (acting c) (run_of (acting c)) p.acting n)
next_turn c xs ys p (Some a) n = (n.0, (_, left_picked c xs (acting c) ys _ n.1.0 p n.1.1))

pub next_of : (c : Control) (o : Option Action) → IsStopped c →
    (strand.IsStopped (acting c) → strand.IsNext (acting c) o) → IsNext c o
next_of c o stopped next = go c.turns.items refl
  where
    go : (ts : List Strand) → c.turns.items ≡ ts → IsNext c o
    go [] none =
        let is : acting c ≡ c.strand = ap (λ ts. slice_index_or ts (place c.order.now (length ts)) c.strand) none in
        next_strand c none stopped.kernel o
        (subst (λ s. strand.IsNext s o) is (next (subst strand.IsStopped (sym is) stopped.strand))) is
    go (t ∷ rest) some =
        let p = picked_at c (subst (λ ts. 0 < length ts) (sym some) (omega arith)) stopped.turns in
        next_turn c _ _ p o (next (stops_acting (acting c) p.acting))
