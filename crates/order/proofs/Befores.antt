-- The first step from an item, and the last step to one.
use Rattle.std.proofs.Common.{◌≡◌, ℕ, zero, suc, ◌<◌, Bool, true, false, List, [], ◌∷◌, length, get_or, refl, sym, ap, ap₂, ◌∙◌, subst, inl, inr, ◌⊎◌, ⊎_elim, Option, Some, None, arith}
use Rattle.std.specs.Prelude.{slice_get, option_map, not, ◌||◌, ◌&&◌, nat_lt}
use Rattle.std.proofs.lemmas.Bool.{and_from, and_parts, ltb-true, lt-ltb, or_cases, or_left, or_right}
use Rattle.std.proofs.lemmas.Option.{slice_get-get_or, slice_get-map, slice_get_read, slice_get_within}
use Rattle.base.specs.declared.item.Item.{Item}
use Rattle.base.specs.Items.{Work, Plan}
use Rattle.base.specs.Machine.{is_predecessor}
use Rattle.base.specs.Order.{Before, in_line, after_predecessor, through}
use Rattle.order.specs.Bare.{bare, plan_of}
use Rattle.order.specs.Rows.{do_match, is_bare_wait, match_at, waits_at}

-- the earlier of two items is not deferred, or a predecessor of the later
abbrev pub leads_to : Work → Work → Bool
leads_to earlier later = not earlier.deferred || is_predecessor earlier later

-- a question of an item that may be missing, and one of two
abbrev pub ask_one : Option Work → (Work → Bool) → Bool
ask_one o f = elim o [ None ↦ false | Some w ↦ f w ]

abbrev pub ask : Option Work → Option Work → (Work → Work → Bool) → Bool
ask o p f = ask_one o (λ v. ask_one p (f v))

abbrev pub at_both : Plan → ℕ → ℕ → (Work → Work → Bool) → Bool
at_both plan i j f = ask (slice_get plan.items i) (slice_get plan.items j) f

-- of items that are read
item_there : (its : List Item) (k : ℕ) (c : Item) → k < length its → c ≡ get_or its k c →
    slice_get (plan_of its).items k ≡ Some (bare c)
item_there its k c lt is = slice_get-map bare its k ∙ ap (option_map bare) (slice_get_read its (length its) k c refl lt is)

pub one_read : (its : List Item) (k : ℕ) (c : Item) (f : Work → Bool) → k < length its → c ≡ get_or its k c →
    ask_one (slice_get (plan_of its).items k) f ≡ f (bare c)
one_read its k c f lt is = ap (λ o. ask_one o f) (item_there its k c lt is)

pub item_at : (its : List Item) (k : ℕ) (c : Item) → k < length its →
    slice_get (plan_of its).items k ≡ Some (bare (get_or its k c))
item_at its k c lt = slice_get-map bare its k ∙ ap (option_map bare) (slice_get-get_or its k c lt)

-- item k is before item j with no item between them
pub record Leads (plan : Plan) (k j : ℕ) : Type 0 where
  pub earlier : k < j
  pub leads : at_both plan k j leads_to ≡ true

pub record FirstStep (plan : Plan) (i j : ℕ) : Type 0 where
  pub to : ℕ
  pub leads : Leads plan i to
  pub reached : (j ≡ to) ⊎ Before plan to j

in_line_asked : (o p : Option Work) → (elim o [ None ↦ false | Some w ↦ not w.deferred ]) ≡ true → (p ≡ None → ⊥) →
    ask o p leads_to ≡ true
in_line_asked None p e h = absurd cc
in_line_asked (Some v) None e h = absurd (h refl)
in_line_asked (Some v) (Some w) e h = ap (λ b. b || is_predecessor v w) e

is_there : {A : Type 0} (xs : List A) (j : ℕ) → j < length xs → slice_get xs j ≡ None → ⊥
is_there [] j lt none = absurd (omega arith)
is_there (x ∷ xs) zero lt none = cc
is_there (x ∷ xs) (suc j) lt none = is_there xs j (omega arith) none

predecessor_asked : (o p : Option Work) → ask o p is_predecessor ≡ true → ask o p leads_to ≡ true
predecessor_asked None p e = absurd cc
predecessor_asked (Some v) None e = absurd cc
predecessor_asked (Some v) (Some w) e = or_right (not v.deferred) (is_predecessor v w) e

pub first_step : (plan : Plan) (i j : ℕ) → Before plan i j → FirstStep plan i j
first_step plan i j (in_line i' j' lt inside first) = record {
  to = j;
  leads = record {
    earlier = lt;
    leads = in_line_asked (slice_get plan.items i) (slice_get plan.items j) first (is_there plan.items j inside);
  };
  reached = inl refl;
}
first_step plan i j (after_predecessor i' j' h) =
    let both = and_parts (nat_lt i j) (at_both plan i j is_predecessor) h in
    record {
      to = j;
      leads = record {
        earlier = ltb-true i j both.0;
        leads = predecessor_asked (slice_get plan.items i) (slice_get plan.items j) both.1;
      };
      reached = inl refl;
    }
first_step plan i j (through i' k j' first second) =
    let step = first_step plan i k first in
    record {
      to = step.to;
      leads = step.leads;
      reached = inr (⊎_elim (λ (same : k ≡ step.to). subst (λ m. Before plan m j) same second)
          (λ (later : Before plan step.to k). through step.to k j later second) step.reached);
    }

-- the last step to an item
pub record LastStep (plan : Plan) (i j : ℕ) : Type 0 where
  pub from : ℕ
  pub leads : Leads plan from j
  pub reached : (i ≡ from) ⊎ Before plan i from

pub last_step : (plan : Plan) (i j : ℕ) → Before plan i j → LastStep plan i j
last_step plan i j (in_line i' j' lt inside first) = record {
  from = i;
  leads = record {
    earlier = lt;
    leads = in_line_asked (slice_get plan.items i) (slice_get plan.items j) first (is_there plan.items j inside);
  };
  reached = inl refl;
}
last_step plan i j (after_predecessor i' j' h) =
    let both = and_parts (nat_lt i j) (at_both plan i j is_predecessor) h in
    record {
      from = i;
      leads = record {
        earlier = ltb-true i j both.0;
        leads = predecessor_asked (slice_get plan.items i) (slice_get plan.items j) both.1;
      };
      reached = inl refl;
    }
last_step plan i j (through i' k j' first second) =
    let last = last_step plan k j second in
    record {
      from = last.from;
      leads = last.leads;
      reached = inr (⊎_elim (λ (same : k ≡ last.from). subst (λ m. Before plan i m) same first)
          (λ (later : Before plan k last.from). through i k last.from first later) last.reached);
    }

-- which of the two it is
lead_kind : (plan : Plan) (k j : ℕ) (o p : Option Work) → slice_get plan.items k ≡ o → slice_get plan.items j ≡ p →
    k < j → ask o p leads_to ≡ true → Before plan k j
lead_kind plan k j None p e f lt h = absurd cc
lead_kind plan k j (Some v) None e f lt h = absurd cc
lead_kind plan k j (Some v) (Some w) e f lt h = go v.deferred refl
  where
    go : (b : Bool) → v.deferred ≡ b → Before plan k j
    go false is = in_line k j lt (slice_get_within plan.items j w f)
        (ap (λ o. elim o [ None ↦ false | Some u ↦ not u.deferred ]) e ∙ ap not is)
    go true is = after_predecessor k j (and_from (nat_lt k j) (at_both plan k j is_predecessor) (lt-ltb k j lt)
        (ap₂ (λ o p. ask o p is_predecessor) e f ∙ sym (ap (λ b. not b || is_predecessor v w) is) ∙ h))

pub led : (plan : Plan) (k j : ℕ) → Leads plan k j → Before plan k j
led plan k j h = lead_kind plan k j (slice_get plan.items k) (slice_get plan.items j) refl refl h.earlier h.leads

-- ---- of which kind it is

-- a deferred item leads to waits for all items, and to those with a matching depend item
either : (o p : Option Work) → ask_one o (λ w. w.deferred) ≡ true → ask o p leads_to ≡ true →
    (ask_one p is_bare_wait ≡ true) ⊎ (ask o p do_match ≡ true)
either None p d e = absurd cc
either (Some v) None d e = absurd cc
either (Some v) (Some w) d e = or_cases (is_bare_wait w) (do_match v w)
    (sym (ap (λ b. not b || (b && (is_bare_wait w || do_match v w))) d) ∙ e)

pub led_by : (plan : Plan) (i j : ℕ) → ask_one (slice_get plan.items i) (λ w. w.deferred) ≡ true → Leads plan i j →
    (waits_at plan j ≡ true) ⊎ (match_at plan i j ≡ true)
led_by plan i j d h = either (slice_get plan.items i) (slice_get plan.items j) d h.leads

by_either : (deferred waits matches : Bool) → (waits || matches) ≡ true → (not deferred || (deferred && (waits || matches))) ≡ true
by_either true waits matches e = e
by_either false waits matches e = refl

wait_asked : (o p : Option Work) → (o ≡ None → ⊥) → ask_one p is_bare_wait ≡ true → ask o p leads_to ≡ true
wait_asked None p there e = absurd (there refl)
wait_asked (Some v) None there e = absurd cc
wait_asked (Some v) (Some w) there e =
    by_either v.deferred (is_bare_wait w) (do_match v w) (or_left (is_bare_wait w) (do_match v w) e)

pub wait_leads : (plan : Plan) (i j : ℕ) → i < j → i < length plan.items → waits_at plan j ≡ true → Leads plan i j
wait_leads plan i j lt inside e = record {
  earlier = lt;
  leads = wait_asked (slice_get plan.items i) (slice_get plan.items j) (is_there plan.items i inside) e;
}

match_asked : (o p : Option Work) → ask o p do_match ≡ true → ask o p leads_to ≡ true
match_asked None p e = absurd cc
match_asked (Some v) None e = absurd cc
match_asked (Some v) (Some w) e =
    by_either v.deferred (is_bare_wait w) (do_match v w) (or_right (is_bare_wait w) (do_match v w) e)

pub match_leads : (plan : Plan) (i j : ℕ) → i < j → match_at plan i j ≡ true → Leads plan i j
match_leads plan i j lt e = record { earlier = lt; leads = match_asked (slice_get plan.items i) (slice_get plan.items j) e }

-- ---- where the items stand

one_inside : (xs : List Work) (j : ℕ) (o : Option Work) (f : Work → Bool) → slice_get xs j ≡ o → ask_one o f ≡ true →
    j < length xs
one_inside xs j None f e h = absurd cc
one_inside xs j (Some w) f e h = slice_get_within xs j w e

pub wait_inside : (plan : Plan) (j : ℕ) → waits_at plan j ≡ true → j < length plan.items
wait_inside plan j h = one_inside plan.items j (slice_get plan.items j) is_bare_wait refl h

later_asked : (xs : List Work) (j : ℕ) (o : Option Work) (f : Work → Work → Bool) → ask o (slice_get xs j) f ≡ true →
    j < length xs
later_asked xs j None f h = absurd cc
later_asked xs j (Some v) f h = one_inside xs j (slice_get xs j) (f v) refl h

-- nothing is before a number past the last, nor before an earlier item
pub later_inside : (plan : Plan) (i j : ℕ) → Before plan i j → j < length plan.items
later_inside plan i j (in_line i' j' lt inside first) = inside
later_inside plan i j (after_predecessor i' j' h) =
    later_asked plan.items j (slice_get plan.items i) is_predecessor
    (and_parts (nat_lt i j) (at_both plan i j is_predecessor) h).1
later_inside plan i j (through i' k j' first second) = later_inside plan k j second

pub is_earlier : (plan : Plan) (i j : ℕ) → Before plan i j → i < j
is_earlier plan i j (in_line i' j' lt inside first) = lt
is_earlier plan i j (after_predecessor i' j' h) = ltb-true i j (and_parts (nat_lt i j) (at_both plan i j is_predecessor) h).0
is_earlier plan i j (through i' k j' first second) =
    let low : i < k = is_earlier plan i k first in
    let high : k < j = is_earlier plan k j second in
    omega arith
