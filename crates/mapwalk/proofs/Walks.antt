-- The walk, where turns of loops are left out.
use Rattle.std.proofs.Common.{◌≡◌, ℕ, zero, suc, ◌+◌, ◌-◌, ◌<◌, ◌≤◌, List, [], ◌∷◌, ◌++◌, length, Option, Some, refl, sym, ap, ◌∙◌, subst, arith, length-append}
use Rattle.std.specs.Prelude.{slice_get}
use Rattle.std.proofs.lemmas.Option.{slice_get_within}
use Rattle.base.specs.declared.item.Item.{Item}
use Rattle.base.specs.Items.{Plan, Work}
use Rattle.base.specs.Current.{AllCurrent, at_start}
use Rattle.outline.specs.Regions.{Entry}
use Rattle.outline.specs.Shown.{all_shown, as_shown, shown}
use Rattle.ranges.specs.declared.cells.Footprint.{Footprint}
use Rattle.mapwalk.specs.declared.heads.Head.{Head}
use Rattle.mapwalk.specs.declared.heads.Head.TheVariants.{Repeated}
use Rattle.mapwalk.specs.declared.rows.Acts.{Acts}
use Rattle.mapwalk.specs.Footprints.{AreFootprints}
use Rattle.mapwalk.specs.Heads.{AbstractState, AreAlikeAt, IsHeld, IsNextTurn, with_last}
use Rattle.mapwalk.specs.Steps.{HasDone}
use Rattle.mapwalk.specs.Walk.{HasNoRangeFault}
use Rattle.mapwalk.proofs.Agreeing.{AgreeAll}
use Rattle.mapwalk.proofs.LikeItems.{WorkAlike, after_work}
use Rattle.mapwalk.proofs.LikeRegions.{same_touches}
use Rattle.mapwalk.proofs.Repeating.{item_at, turned}
use Rattle.mapwalk.proofs.ShownItems.{shown_of}
use Rattle.mapwalk.proofs.Turns.{IsAt, before_item, first_more, start}
use Rattle.mapwalk.proofs.Walking.{Reached, next}

-- the item that a work is
record ItemOf (entries : List Entry) (items : List Item) (i : ℕ) (w : Work) : Type 0 where
  item : Item
  there : slice_get items i ≡ Some item
  is : shown entries item ≡ Some w

item_of : (entries : List Entry) (items : List Item) (works : List Work) (i : ℕ) (w : Work) →
    all_shown entries items ≡ as_shown works → slice_get works i ≡ Some w → ItemOf entries items i w
item_of entries items [] i w e h = absurd cc
item_of entries [] (v ∷ works) i w e h = absurd cc
item_of entries (y ∷ items) (v ∷ works) zero w e h =
    let first : shown entries y ≡ Some v = cc in record { item = y; there = refl; is = first ∙ h }
item_of entries (y ∷ items) (v ∷ works) (suc i) w e h =
    let rest : all_shown entries items ≡ as_shown works = cc in
    let at = item_of entries items works i w rest h in
    record { item = at.item; there = at.there; is = at.is }

pub alike_works : (entries : List Entry) (items : List Item) (plan : Plan) (found : List (Option Footprint)) (i j : ℕ) (v w : Work) →
    all_shown entries items ≡ as_shown plan.items → AreFootprints plan found → AreAlikeAt items found i j →
    slice_get plan.items i ≡ Some v → slice_get plan.items j ≡ Some w → WorkAlike v w
alike_works entries items plan found i j v w e h alike at_v at_w =
    let x = item_of entries items plan.items i v e at_v in
    let y = item_of entries items plan.items j w e at_w in
    let like = alike.like x.item y.item x.there y.there in
    let of_x = shown_of entries x.item v x.is in
    let of_y = shown_of entries y.item w y.is in
    let low : i < length plan.items = slice_get_within plan.items i v at_v in
    let count = h.count in
    let print = item_at found i (omega (arith, low, count)) in
    record {
      kind = of_y.kind ∙ like.kind ∙ sym of_x.kind;
      device = of_y.device ∙ like.device ∙ sym of_x.device;
      maps = of_y.maps ∙ like.maps ∙ sym of_x.maps;
      touches = same_touches v w print.item (h.each i v print.item at_v print.there).touches
          (h.each j w print.item at_w (sym alike.shared ∙ print.there)).touches;
    }

-- the walk before an item, where the rows of it and of items after it may stand already
pub record Stands (plan : Plan) (k : AllCurrent) (number : ℕ) (s : AbstractState) (head : Head) (rows : List (List Acts)) : Type 0 where
  pub start : AgreeAll plan.lengths k at_start
  pub at : IsAt plan k (length rows) rows
  pub now : s ≡ before_item plan k (length rows)
  pub held : IsHeld (before_item plan k) (length rows) head
  pub ahead : number ≤ length rows
  pub inside : length rows ≤ length plan.items

-- with the tables and cells of the code's state
pub reached_now : (plan : Plan) (k : AllCurrent) (number i : ℕ) (s : AbstractState) (head : Head) (rows : List (List Acts)) →
    length rows ≡ i → Stands plan k number s head rows → Reached plan i s.tables s.current rows
reached_now plan k number i s head rows n h =
    subst (λ j. Reached plan j s.tables s.current rows) n
    (subst (λ (x : AbstractState). Reached plan (length rows) x.tables x.current rows) (sym h.now) h.at)

-- with what is known of another head
pub with_head : (plan : Plan) (k : AllCurrent) (number : ℕ) (s : AbstractState) (head other : Head) (rows : List (List Acts)) →
    IsHeld (before_item plan k) (length rows) other → Stands plan k number s head rows → Stands plan k number s other rows
with_head plan k number s head other rows held h =
    record { start = h.start; at = h.at; now = h.now; held = held; ahead = h.ahead; inside = h.inside }

-- the row stands already
pub passed : (plan : Plan) (k : AllCurrent) (number : ℕ) (s : AbstractState) (head : Head) (rows : List (List Acts)) →
    number < length rows → Stands plan k number s head rows → Stands plan k (number + 1) s head rows
passed plan k number s head rows lt h =
    record { start = h.start; at = h.at; now = h.now; held = h.held; ahead = omega (arith, lt); inside = h.inside }

-- the item is done
pub stepped : (plan : Plan) (k : AllCurrent) (number : ℕ) (s after : AbstractState) (head other : Head) (rows : List (List Acts))
    (row : List Acts) (w : Work) → HasNoRangeFault plan → slice_get plan.items number ≡ Some w → length rows ≤ number →
    ((n : ℕ) → IsHeld (before_item plan k) n other) →
    HasDone w s.tables after.tables s.current after.current row → Stands plan k number s head rows →
    Stands plan k (number + 1) after other (rows ++ row ∷ [])
stepped plan k number s after head other rows row w none there le held done h =
    let ahead = h.ahead in
    let n : length rows ≡ number = omega (arith, le, ahead) in
    let more : length (rows ++ row ∷ []) ≡ length rows + 1 = length-append rows (row ∷ []) in
    let here : slice_get plan.items (length rows) ≡ Some w = ap (slice_get plan.items) n ∙ there in
    let b = before_item plan k (length rows) in
    let is : after ≡ before_item plan k (length rows + 1) =
    (λ i. record { tables = done.tables_after i; current = done.current i })
    ∙ ap (after_work w) h.now ∙ sym (first_more plan.items (length rows) w (start k) here) in
    let reached : Reached plan (length rows + 1) after.tables after.current (rows ++ row ∷ []) =
    next plan (length rows) s.tables after.tables s.current after.current rows row w none here
    (reached_now plan k number (length rows) s head rows refl h) done in
    let low : number < length plan.items = slice_get_within plan.items number w there in
    record {
      start = h.start;
      at = subst (λ i. IsAt plan k i (rows ++ row ∷ [])) (sym more)
          (subst (λ (x : AbstractState). Reached plan (length rows + 1) x.tables x.current (rows ++ row ∷ [])) is reached);
      now = is ∙ ap (before_item plan k) (sym more);
      held = held (length (rows ++ row ∷ []));
      ahead = omega (arith, more, n);
      inside = omega (arith, more, n, low);
    }

-- a turn is not done again, but its rows are
pub repeated : (plan : Plan) (k : AllCurrent) (number m : ℕ) (s : AbstractState) (rows : List (List Acts)) (entries : List Entry)
    (items : List Item) (found : List (Option Footprint)) → HasNoRangeFault plan → all_shown entries items ≡ as_shown plan.items →
    AreFootprints plan found → length items ≡ length plan.items → length rows ≤ number → IsNextTurn items found number m →
    Stands plan k number s (Repeated m) rows → Stands plan k (number + 1) s (Repeated m) (with_last m rows)
repeated plan k number m s rows entries items found none e prints many le turn h =
    let ahead = h.ahead in
    let few : m ≤ length rows = h.held.0 in
    let n : length rows ≡ number = omega (arith, le, ahead) in
    let first = length rows - m in
    let whole : length rows ≡ first + m = omega (arith, few) in
    let end = turn.inside in
    let low : length rows + m ≤ length plan.items = omega (arith, end, many, n) in
    let t = turned plan k first m (length rows) rows none h.start h.at whole h.held.1 low
    (λ j v w lt at_v at_w. alike_works entries items plan found (first + j) (length rows + j) v w e prints
    (subst (λ x. AreAlikeAt items found (x - m + j) (x + j)) (sym n) (turn.alike j lt)) at_v at_w) in
    let count : length (with_last m rows) ≡ length rows + m = t.at.count in
    let same : before_item plan k (length rows) ≡ before_item plan k (length (with_last m rows)) =
    ap (before_item plan k) whole ∙ t.same ∙ ap (before_item plan k) (sym count) in
    let back : length (with_last m rows) - m ≡ length rows = omega (arith, count) in
    let some = turn.some in
    record {
      start = h.start;
      at = subst (λ i. IsAt plan k i (with_last m rows)) (sym count) t.at;
      now = h.now ∙ same;
      held = (omega (arith, count), ap (before_item plan k) back ∙ same);
      ahead = omega (arith, count, n, some);
      inside = omega (arith, count, low);
    }
