-- Plans whose items differ in their regions alone.
use Rattle.std.proofs.Common.{◌≡◌, ℕ, ◌<◌, Bool, false, List, length, refl, sym, ap, ap₂, ◌∙◌, subst, Option, Some, None}
use Rattle.std.specs.Prelude.{slice_get, option_map, not, ◌&&◌, nat_lt}
use Rattle.std.proofs.lemmas.List.{length-map}
use Rattle.std.proofs.lemmas.Option.{slice_get-map}
use Rattle.base.specs.declared.item.Item.{Item}
use Rattle.base.specs.Items.{Work, Plan}
use Rattle.base.specs.Machine.{is_predecessor}
use Rattle.base.specs.Order.{Before, IsAfterAll, in_line, after_predecessor, through}
use Rattle.outline.specs.Regions.{Entry}
use Rattle.outline.specs.Shown.{all_shown, as_shown, shown, work_with}
use Rattle.order.specs.Bare.{bare, plan_of}
use Rattle.order.specs.declared.rows.Row.{Row}
use Rattle.order.specs.Rows.{IsOrder, IsRowThere}
use Rattle.order.proofs.Befores.{ask, at_both}

abbrev pub stripped : Work → Work
stripped w = record w { region = None }

pub record Alike (p q : Plan) : Type 0 where
  pub items : (i : ℕ) → option_map stripped (slice_get p.items i) ≡ option_map stripped (slice_get q.items i)
  pub many : length p.items ≡ length q.items

pub other_way : (p q : Plan) → Alike p q → Alike q p
other_way p q h = record { items = λ i. sym (h.items i); many = sym h.many }

-- what is asked of two items does not speak of their regions
ask_stripped : (f : Work → Work → Bool) → ((v w : Work) → f v w ≡ f (stripped v) (stripped w)) → (o p : Option Work) →
    ask o p f ≡ ask (option_map stripped o) (option_map stripped p) f
ask_stripped f h None p = refl
ask_stripped f h (Some v) None = refl
ask_stripped f h (Some v) (Some w) = h v w

pub both_alike : (p q : Plan) (f : Work → Work → Bool) → ((v w : Work) → f v w ≡ f (stripped v) (stripped w)) → Alike p q →
    (i j : ℕ) → at_both p i j f ≡ at_both q i j f
both_alike p q f h alike i j =
    ask_stripped f h (slice_get p.items i) (slice_get p.items j)
    ∙ ap₂ (λ o r. ask o r f) (alike.items i) (alike.items j)
    ∙ sym (ask_stripped f h (slice_get q.items i) (slice_get q.items j))

abbrev is_first : Option Work → Bool
is_first o = elim o [ None ↦ false | Some w ↦ not w.deferred ]

first_stripped : (o : Option Work) → is_first o ≡ is_first (option_map stripped o)
first_stripped None = refl
first_stripped (Some w) = refl

first_alike : (p q : Plan) → Alike p q → (i : ℕ) → is_first (slice_get p.items i) ≡ is_first (slice_get q.items i)
first_alike p q alike i =
    first_stripped (slice_get p.items i) ∙ ap is_first (alike.items i) ∙ sym (first_stripped (slice_get q.items i))

pub before_alike : (p q : Plan) (i j : ℕ) → Alike p q → Before p i j → Before q i j
before_alike p q _ _ alike (in_line i j lt inside first) =
    in_line i j lt (subst (λ n. j < n) alike.many inside) (sym (first_alike p q alike i) ∙ first)
before_alike p q _ _ alike (after_predecessor i j h) =
    after_predecessor i j (ap (λ b. nat_lt i j && b) (sym (both_alike p q is_predecessor (λ v w. refl) alike i j)) ∙ h)
before_alike p q _ _ alike (through i k j first second) =
    through i k j (before_alike p q i k alike first) (before_alike p q k j alike second)

after_alike : (p q : Plan) (i place : ℕ) → Alike p q → IsAfterAll p i place → IsAfterAll q i place
after_alike p q i place alike h = record {
  all = λ j le lt. before_alike p q i j alike (h.all j le (subst (λ n. j < n) (sym alike.many) lt));
  least = λ k all. h.least k (λ j le lt. before_alike q p i j (other_way p q alike) (all j le (subst (λ n. j < n) alike.many lt)));
}

row_alike : (p q : Plan) (i : ℕ) (o : Option Row) → Alike p q → IsRowThere p i o → IsRowThere q i o
row_alike p q i None alike h = h
row_alike p q i (Some r) alike h = record {
  place = after_alike p q i r.place alike h.place;
  holds = λ j e. before_alike p q i j alike (h.holds j e);
  found = λ j b. h.found j (before_alike q p i j (other_way p q alike) b);
}

pub order_alike : (p q : Plan) (rows : List Row) → Alike p q → IsOrder p rows → IsOrder q rows
order_alike p q rows alike h = record {
  many = h.many ∙ alike.many;
  most = h.most;
  are = λ i le lt. row_alike p q i (slice_get rows i) alike (h.are i le lt);
}

-- ---- items and what they stand for

shown_is : (es : List Entry) (it : Item) (w : Work) → shown es it ≡ Some w → bare it ≡ stripped w
shown_is es it w = go it.region
  where
    with_region : (o : Option Entry) → option_map (λ e. work_with it (Some e.region)) o ≡ Some w → bare it ≡ stripped w
    with_region None e = absurd cc
    with_region (Some x) e = let is : work_with it (Some x.region) ≡ w = cc in ap stripped is

    go : (o : Option ℕ) → elim o [
      | None ↦ Some (work_with it None)
      | Some k ↦ option_map (λ e. work_with it (Some e.region)) (slice_get es k)
    ] ≡ Some w → bare it ≡ stripped w
    go None e = let is : work_with it None ≡ w = cc in ap stripped is
    go (Some k) e = with_region (slice_get es k) e

alike_at : (es : List Entry) (o : Option Item) (p : Option Work) → option_map (shown es) o ≡ option_map (λ w. Some w) p →
    option_map stripped (option_map bare o) ≡ option_map stripped p
alike_at es None None e = refl
alike_at es None (Some w) e = absurd cc
alike_at es (Some it) None e = absurd cc
alike_at es (Some it) (Some w) e = let is : shown es it ≡ Some w = cc in ap (λ v. Some v) (shown_is es it w is)

pub items_alike : (es : List Entry) (its : List Item) (plan : Plan) → all_shown es its ≡ as_shown plan.items →
    Alike (plan_of its) plan
items_alike es its plan h = record {
  items = λ i. ap (option_map stripped) (slice_get-map bare its i)
      ∙ alike_at es (slice_get its i) (slice_get plan.items i)
      (sym (slice_get-map (shown es) its i) ∙ ap (λ xs. slice_get xs i) h ∙ slice_get-map (λ w. Some w) plan.items i);
  many = length-map its bare ∙ sym (length-map its (shown es)) ∙ ap length h ∙ length-map plan.items (λ w. Some w);
}
