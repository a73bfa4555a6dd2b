-- The events that may happen next are those that the graph allows, with an open item's next action for its closing.
use Rattle.std.proofs.Common.{◌≡◌, ℕ, zero, suc, ◌+◌, Bool, true, false, List, [], ◌∷◌, ◌++◌, map, length, refl, sym, ap, ◌∙◌, Option, Some, None}
use Rattle.std.specs.Prelude.{cond, filter, flat_map, slice_get, option_map}
use Rattle.std.specs.List.{range_with_len}
use Rattle.std.proofs.lemmas.List.{length-map}
use Rattle.std.proofs.lemmas.Option.{slice_get-map}
use Rattle.base.specs.declared.item.Event.{Event}
use Rattle.base.specs.declared.item.Event.TheVariants.{Gen, Open, Step, Close, Wait, End}
use Rattle.base.specs.Items.{Work, Plan}
use Rattle.base.specs.Machine as two
use Rattle.fine_machine.specs.Left.{Asks, Finished}
use Rattle.fine_machine.specs.Machine.{State, Condition, Untouched, Generated, Opened, Closed, Passed, all_enabled, as_whole, enabled, has_step, is_finished, whole_condition}
use Rattle.taskgraph.specs.Board.{Board, Facts, Stands, allows, facts_of}
use Rattle.taskgraph.proofs.Laws.{allowed_is_enabled}
use Rattle.device.specs.Allowed.{allowed_at}

-- where an open item has a next action, this is the event in place of its closing
abbrev pub of_condition : ℕ → Condition → Event
of_condition i (Opened (Asks r k)) = Step i
of_condition i (Opened (Finished t)) = Close i
of_condition i Untouched = Close i
of_condition i (Generated captured) = Close i
of_condition i Closed = Close i
of_condition i Passed = Close i

abbrev pub event_for : State → Event → Event
event_for s (Close i) = of_condition i (s.condition i)
event_for s (Gen i) = Gen i
event_for s (Open i) = Open i
event_for s (Step i) = Step i
event_for s (Wait i) = Wait i
event_for s End = End

abbrev pub acts : ℕ → ℕ → List Event
acts a n = flat_map (λ i. Step i ∷ Close i ∷ []) (range_with_len a n)

abbrev pub closings : ℕ → ℕ → List Event
closings a n = map Close (range_with_len a n)

abbrev pub openings : ℕ → ℕ → List Event
openings a n = map Open (range_with_len a n)

abbrev pub host : ℕ → List Event
host k = Gen k ∷ Wait k ∷ End ∷ []

module _ (p : Plan) (s : State) (b : Board) (stands : Stands p (record (as_whole s) { place = b.place }) b)
    (place : s.place ≡ b.place) where
  pub allowed : (e : Event) → allows b e ≡ two.enabled p (as_whole s) e
  allowed e =
      allowed_is_enabled p (record (as_whole s) { place = b.place }) b e stands
      ∙ ap (λ k. two.enabled p (record (as_whole s) { place = k }) e) (sym place)

  -- an event that both machines have
  plain : (e : Event) (xs ys : List Event) → enabled p s e ≡ allows b e → event_for s e ≡ e →
      filter (enabled p s) xs ≡ map (event_for s) (filter (allows b) ys) →
      filter (enabled p s) (e ∷ xs) ≡ map (event_for s) (filter (allows b) (e ∷ ys))
  plain e xs ys same for rest = go (allows b e) same
    where
      go : (v : Bool) → enabled p s e ≡ v →
          cond (enabled p s e) (e ∷ filter (enabled p s) xs) (filter (enabled p s) xs)
          ≡ map (event_for s) (cond v (e ∷ filter (allows b) ys) (filter (allows b) ys))
      go true is = ap (λ v. cond v (e ∷ filter (enabled p s) xs) (filter (enabled p s) xs)) is
          ∙ (λ j. sym for j ∷ rest j)
      go false is = ap (λ v. cond v (e ∷ filter (enabled p s) xs) (filter (enabled p s) xs)) is ∙ rest

  -- of an item's action and its closing
  item : (i : ℕ) (xs ys : List Event) → filter (enabled p s) xs ≡ map (event_for s) (filter (allows b) ys) →
      filter (enabled p s) (Step i ∷ Close i ∷ xs) ≡ map (event_for s) (filter (allows b) (Close i ∷ ys))
  item i xs ys rest =
      at (filter (enabled p s) xs) (filter (allows b) ys) rest (slice_get p.items i) (s.condition i)
      ∙ (push (filter (allows b) ys) (two.enabled p (as_whole s) (Close i))
      ∙ ap (λ v. map (event_for s) (cond v (Close i ∷ filter (allows b) ys) (filter (allows b) ys)))
      (sym (allowed (Close i))))
    where
      push : (left : List Event) (v : Bool) →
          cond v (of_condition i (s.condition i) ∷ map (event_for s) left) (map (event_for s) left)
          ≡ map (event_for s) (cond v (Close i ∷ left) left)
      push left true = refl
      push left false = refl

      at : (now left : List Event) → now ≡ map (event_for s) left → (o : Option Work) (c : Condition) →
          cond (elim o [ None ↦ false | Some w ↦ has_step c ])
          (Step i ∷ cond (elim o [ None ↦ false | Some w ↦ is_finished c ]) (Close i ∷ now) now)
          (cond (elim o [ None ↦ false | Some w ↦ is_finished c ]) (Close i ∷ now) now)
          ≡ cond (elim o [ None ↦ false | Some w ↦ two.is_open (whole_condition c) ])
          (of_condition i c ∷ map (event_for s) left) (map (event_for s) left)
      at now left rest None c = rest
      at now left rest (Some w) (Opened (Asks r k)) = ap (λ es. Step i ∷ es) rest
      at now left rest (Some w) (Opened (Finished t)) = ap (λ es. Close i ∷ es) rest
      at now left rest (Some w) Untouched = rest
      at now left rest (Some w) (Generated captured) = rest
      at now left rest (Some w) Closed = rest
      at now left rest (Some w) Passed = rest

  -- of all actions and closings from item a on
  items : (a n : ℕ) (xs ys : List Event) → filter (enabled p s) xs ≡ map (event_for s) (filter (allows b) ys) →
      filter (enabled p s) (acts a n ++ xs) ≡ map (event_for s) (filter (allows b) (closings a n ++ ys))
  items a zero xs ys rest = rest
  items a (suc n) xs ys rest =
      item a (acts (a + 1) n ++ xs) (closings (a + 1) n ++ ys) (items (a + 1) n xs ys rest)

  opened : (a n : ℕ) (xs ys : List Event) → filter (enabled p s) xs ≡ map (event_for s) (filter (allows b) ys) →
      filter (enabled p s) (openings a n ++ xs) ≡ map (event_for s) (filter (allows b) (openings a n ++ ys))
  opened a zero xs ys rest = rest
  opened a (suc n) xs ys rest =
      plain (Open a) (openings (a + 1) n ++ xs) (openings (a + 1) n ++ ys) (sym (allowed (Open a))) refl
      (opened (a + 1) n xs ys rest)

  at_host : (k : ℕ) → filter (enabled p s) (host k) ≡ map (event_for s) (filter (allows b) (host k))
  at_host k =
      plain (Gen k) (Wait k ∷ End ∷ []) (Wait k ∷ End ∷ []) (sym (allowed (Gen k))) refl
      (plain (Wait k) (End ∷ []) (End ∷ []) (sym (allowed (Wait k))) refl
      (plain End [] [] (sym (allowed End)) refl refl))

  count : length b.tasks ≡ length p.items
  count = ap (λ (fs : List Facts). length fs) (sym stands.items) ∙ length-map p.items facts_of

  pub next_events : all_enabled p s ≡ map (event_for s) (allowed_at b (length b.tasks))
  next_events =
      let n = length p.items in
      items 0 n (openings 0 n ++ host s.place) (openings 0 n ++ host s.place)
      (opened 0 n (host s.place) (host s.place) (at_host s.place))
      ∙ (λ j. map (event_for s) (filter (allows b)
      (closings 0 (sym count j) ++ (openings 0 (sym count j) ++ host (place j)))))

  pub nth_next : (k : ℕ) → slice_get (all_enabled p s) k
      ≡ option_map (event_for s) (slice_get (allowed_at b (length b.tasks)) k)
  nth_next k =
      ap (λ (es : List Event). slice_get es k) next_events
      ∙ slice_get-map (event_for s) (allowed_at b (length b.tasks)) k

  pub next_count : length (all_enabled p s) ≡ length (allowed_at b (length b.tasks))
  next_count =
      ap (λ (es : List Event). length es) next_events ∙ length-map (allowed_at b (length b.tasks)) (event_for s)
