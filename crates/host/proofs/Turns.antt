-- What an event does to the items that are open, and to those that were opened before.
use Rattle.std.proofs.Common.{◌≡◌, ℕ, zero, suc, ◌+◌, ◌<◌, ◌≤◌, Bool, true, false, List, [], ◌∷◌, length, filter, refl, sym, ap, ◌∙◌, subst, arith, Option, Some, None}
use Rattle.std.specs.Prelude.{not, ◌&&◌, ◌||◌, ◌==◌, if◌then◌else◌, option_map, slice_get}
use Rattle.std.specs.List.{range_with_len}
use Rattle.std.proofs.lemmas.Bool.{false≢true, true≢false, and_parts, eqb-true}
use Rattle.std.proofs.lemmas.Bool.Decides.{nat_tests}
use Rattle.std.proofs.lemmas.Option.{same_Some, slice_get_within}
use Rattle.base.specs.declared.item.Event.{Event}
use Rattle.base.specs.declared.item.Event.TheVariants.{Gen, Open, Step, Close, Wait, End}
use Rattle.base.specs.Items.{Work, Plan}
use Rattle.base.specs.Map.{Memories, Fill, memories_at}
use Rattle.base.specs.Machine.{State, Condition, Untouched, Generated, Opened, Closed, Passed, HasEnded, is_open, is_waiting, is_wait, on_item, is_ready, enabled, with_condition, with_memories, moved_on, opening, open_item, captured_by, worked_on, closing, step}
use Rattle.base.proofs.Closing.{Kept, closing_keeps}
use Rattle.device.proofs.EventBounds.{Fine}
use Rattle.headline.proofs.SoundConditions.{is_untouched}
use Rattle.host.specs.Handing.{handed_by, open_for_workers}
use Rattle.host.specs.Idle.{is_for_workers}

-- ---- how many pass a test which changes at one number

abbrev pub part : Bool → ℕ
part b = if b then 1 else 0

first_of : (f : ℕ → Bool) (a : ℕ) (xs : List ℕ) → length (filter f (a ∷ xs)) ≡ part (f a) + length (filter f xs)
first_of f a xs = go (f a) refl
  where
    go : (b : Bool) → f a ≡ b → length (filter f (a ∷ xs)) ≡ part (f a) + length (filter f xs)
    go true e = rw e (omega arith)
    go false e = rw e (omega arith)

is_other : (j i : ℕ) → (j ≡ i → ⊥) → (j == i) ≡ false
is_other j i h = grind (arith, nat_tests)

module _ (f g : ℕ → Bool) (i : ℕ) (others : (j : ℕ) → (j == i) ≡ false → g j ≡ f j) where
  none_changes : (a n : ℕ) → i < a → length (filter g (range_with_len a n)) ≡ length (filter f (range_with_len a n))
  none_changes a zero h = refl
  none_changes a (suc n) h =
      let p = first_of f a (range_with_len (a + 1) n) in
      let q = first_of g a (range_with_len (a + 1) n) in
      let r = none_changes (a + 1) n (omega arith) in
      let e : part (g a) ≡ part (f a) = ap part (others a (is_other a i (λ k. above i a k h))) in
      omega (arith, p, q, r, e)
    where
      above : (i a : ℕ) → a ≡ i → i < a → ⊥
      above i a e h = omega arith

  one_changes : (a n : ℕ) → a ≤ i → i < a + n →
      length (filter g (range_with_len a n)) + part (f i) ≡ length (filter f (range_with_len a n)) + part (g i)
  one_changes a zero low high = absurd (omega arith)
  one_changes a (suc n) low high = go (a == i) refl (λ l h. one_changes (a + 1) n l h)
    where
      p : length (filter f (a ∷ range_with_len (a + 1) n)) ≡ part (f a) + length (filter f (range_with_len (a + 1) n))
      p = first_of f a (range_with_len (a + 1) n)

      q : length (filter g (a ∷ range_with_len (a + 1) n)) ≡ part (g a) + length (filter g (range_with_len (a + 1) n))
      q = first_of g a (range_with_len (a + 1) n)

      go : (b : Bool) → (a == i) ≡ b →
          (a + 1 ≤ i → i < a + 1 + n → length (filter g (range_with_len (a + 1) n)) + part (f i)
          ≡ length (filter f (range_with_len (a + 1) n)) + part (g i)) →
          length (filter g (range_with_len a (suc n))) + part (f i) ≡ length (filter f (range_with_len a (suc n))) + part (g i)
      go true e rest =
          let same : a ≡ i = eqb-true a i e in
          let r = none_changes (a + 1) n (omega arith) in
          let x : part (f a) ≡ part (f i) = ap (λ k. part (f k)) same in
          let y : part (g a) ≡ part (g i) = ap (λ k. part (g k)) same in
          omega (arith, p, q, r, x, y)
      go false e rest =
          let r = rest (next a i low e) (omega arith) in
          let y : part (g a) ≡ part (f a) = ap part (others a e) in
          omega (arith, p, q, r, y)
        where
          next : (a i : ℕ) → a ≤ i → (a == i) ≡ false → a + 1 ≤ i
          next a i low e = grind (arith, nat_tests)

-- where none passes there is none
no_pass : (f : ℕ → Bool) → ((j : ℕ) → f j ≡ false) → (a n : ℕ) → length (filter f (range_with_len a n)) ≡ 0
no_pass f h a zero = refl
no_pass f h a (suc n) =
    let p = first_of f a (range_with_len (a + 1) n) in
    let q = no_pass f h (a + 1) n in
    let e : part (f a) ≡ 0 = ap part (h a) in
    omega (arith, p, q, e)

-- ---- conditions

-- an item that may not be opened any more
abbrev pub is_past : Condition → Bool
is_past Untouched = false
is_past (Generated s) = false
is_past (Opened s v) = true
is_past Closed = true
is_past Passed = true

pub waiting_not_past : (d : Bool) (c : Condition) → is_waiting d c ≡ true → is_past c ≡ false
waiting_not_past true Untouched h = refl
waiting_not_past true (Generated s) h = refl
waiting_not_past true (Opened s v) h = absurd (false≢true h)
waiting_not_past true Closed h = absurd (false≢true h)
waiting_not_past true Passed h = absurd (false≢true h)
waiting_not_past false Untouched h = refl
waiting_not_past false (Generated s) h = absurd (false≢true h)
waiting_not_past false (Opened s v) h = absurd (false≢true h)
waiting_not_past false Closed h = absurd (false≢true h)
waiting_not_past false Passed h = absurd (false≢true h)

not_past_not_open : (c : Condition) → is_past c ≡ false → is_open c ≡ false
not_past_not_open Untouched h = refl
not_past_not_open (Generated s) h = refl
not_past_not_open (Opened s v) h = absurd (true≢false h)
not_past_not_open Closed h = refl
not_past_not_open Passed h = refl

untouched_not_past : (c : Condition) → is_untouched c ≡ true → is_past c ≡ false
untouched_not_past Untouched h = refl
untouched_not_past (Generated s) h = absurd (false≢true h)
untouched_not_past (Opened s v) h = absurd (false≢true h)
untouched_not_past Closed h = absurd (false≢true h)
untouched_not_past Passed h = absurd (false≢true h)

-- an item at the host's place that may not be open is untouched
not_open_here : (u d w o : Bool) → (u || (not d && (not w && o))) ≡ true → (d ≡ true → u ≡ true) × (w ≡ true → u ≡ true)
not_open_here true d w o h = (λ e. refl, λ e. refl)
not_open_here false true w o h = absurd (false≢true h)
not_open_here false false true o h = absurd (false≢true h)
not_open_here false false false o h = (λ e. absurd (false≢true e), λ e. absurd (false≢true e))

-- ---- an item of a plan

record At (pl : Plan) (i : ℕ) (f : Work → Bool) : Type 0 where
  work : Work
  is : slice_get pl.items i ≡ Some work
  yes : f work ≡ true

at : (pl : Plan) (i : ℕ) (f : Work → Bool) → on_item pl i false f ≡ true → At pl i f
at pl i f h = go (slice_get pl.items i) refl h
  where
    go : (o : Option Work) → slice_get pl.items i ≡ o → elim o [ None ↦ false | Some w ↦ f w ] ≡ true → At pl i f
    go None e h = absurd (false≢true h)
    go (Some w) e h = record { work = w; is = e; yes = h }

at_item : {A : Type 0} (pl : Plan) (i : ℕ) (w : Work) → slice_get pl.items i ≡ Some w → (other : A) (f : Work → A) →
    on_item pl i other f ≡ f w
at_item pl i w e other f = rw (e, on_item) refl

-- ---- events

-- the item that an event closes, where it is for workers
abbrev pub returned_by : Plan → Event → List ℕ
returned_by p (Close i) = if is_for_workers p (Open i) then i ∷ [] else []
returned_by p (Gen i) = []
returned_by p (Open i) = []
returned_by p (Step i) = []
returned_by p (Wait i) = []
returned_by p End = []

listed : (b : Bool) (i : ℕ) → length (if b then i ∷ [] else []) ≡ part b
listed true i = refl
listed false i = refl

both : (a b : Bool) → b ≡ true → part (a && b) ≡ part a
both true b h = ap part h
both false b h = refl

neither : (a b : Bool) → b ≡ false → part (a && b) ≡ 0
neither true b h = ap part h
neither false b h = refl

module _ (pl : Plan) (fill : ℕ → Fill) where
  -- what an event leaves
  pub record Turned (s t : State) (e : Event) : Type 0 where
    pub past : (j : ℕ) → is_past (s.condition j) ≡ true → is_past (t.condition j) ≡ true
    pub opened : (i : ℕ) → e ≡ Open i → is_past (t.condition i) ≡ true
    pub count : length (open_for_workers pl t) + length (returned_by pl e)
        ≡ length (open_for_workers pl s) + length (handed_by pl e)
    pub going : (e ≡ End → ⊥) → HasEnded pl t → ⊥

  -- one item has another condition
  record Changed (s t : State) (i : ℕ) (c : Condition) : Type 0 where
    conditions : (j : ℕ) → t.condition j ≡ (if j == i then c else s.condition j)
    within : i < length pl.items
    further : is_past (s.condition i) ≡ true → is_past c ≡ true

  module _ (s t : State) (i : ℕ) (c : Condition) (k : Changed s t i c) where
    here : t.condition i ≡ c
    here = k.conditions i ∙ ap (λ (b : Bool). if b then c else s.condition i) (same i)
      where
        same : (n : ℕ) → (n == n) ≡ true
        same n = grind (arith, nat_tests)

    there : (j : ℕ) → (j == i) ≡ false → t.condition j ≡ s.condition j
    there j e = k.conditions j ∙ ap (λ (b : Bool). if b then c else s.condition j) e

    past_so : (j : ℕ) → is_past (s.condition j) ≡ true → is_past (t.condition j) ≡ true
    past_so j h = go (j == i) refl
      where
        go : (b : Bool) → (j == i) ≡ b → is_past (t.condition j) ≡ true
        go true e =
            let same : j ≡ i = eqb-true j i e in
            subst (λ n. is_past (t.condition n) ≡ true) (sym same)
            (ap is_past here ∙ k.further (subst (λ n. is_past (s.condition n) ≡ true) same h))
        go false e = ap is_past (there j e) ∙ h

    counted : length (open_for_workers pl t) + part (is_for_workers pl (Open i) && is_open (s.condition i))
        ≡ length (open_for_workers pl s) + part (is_for_workers pl (Open i) && is_open c)
    counted =
        let a = one_changes (λ j. is_for_workers pl (Open j) && is_open (s.condition j))
        (λ j. is_for_workers pl (Open j) && is_open (t.condition j)) i
        (λ j e. ap (λ (x : Condition). is_for_workers pl (Open j) && is_open x) (there j e))
        0 (length pl.items) (omega arith) (omega (arith, k.within)) in
        let b : part (is_for_workers pl (Open i) && is_open (t.condition i)) ≡ part (is_for_workers pl (Open i) && is_open c) =
        ap (λ (x : Condition). part (is_for_workers pl (Open i) && is_open x)) here in
        omega (arith, a, b)

  module _ (s : State) (ok : Fine pl fill s) (before : HasEnded pl s → ⊥) (t : State) where
    generated : (i : ℕ) → enabled pl s (Gen i) ≡ true → step pl fill s (Gen i) ≡ Some t → Turned s t (Gen i)
    generated i may is =
        let p = and_parts (s.place == i) _ may in
        let stands : i ≡ s.place = sym (eqb-true s.place i p.0) in
        let f = at pl i (λ w. w.deferred) p.1 in
        let mine = not_open_here _ f.work.deferred (is_wait f.work.kind) _ ((ok.items i f.work f.is).here stands) in
        let low = untouched_not_past (s.condition i) (mine.0 f.yes) in
        let in_plan = slice_get_within pl.items i f.work f.is in
        let u : State = moved_on false (with_condition i (Generated s.scalars) s) in
        let k : Changed s u i (Generated s.scalars) =
        record { conditions = λ j. refl; within = in_plan; further = λ h. absurd (true≢false (sym h ∙ low)) } in
        subst (λ (x : State). Turned s x (Gen i)) (same_Some u t is)
        (record {
          past = past_so s u i (Generated s.scalars) k;
          opened = λ j e. absurd (cc e);
          count =
              let a = counted s u i (Generated s.scalars) k in
              let b = neither (is_for_workers pl (Open i)) (is_open (s.condition i)) (not_past_not_open (s.condition i) low) in
              let d = neither (is_for_workers pl (Open i)) false refl in
              omega (arith, a, b, d);
          going = λ other ended. absurd (omega (arith, stands, in_plan, ended));
        })

    waited : (i : ℕ) → enabled pl s (Wait i) ≡ true → step pl fill s (Wait i) ≡ Some t → Turned s t (Wait i)
    waited i may is =
        let p = and_parts (s.place == i) _ may in
        let stands : i ≡ s.place = sym (eqb-true s.place i p.0) in
        let q = and_parts (on_item pl i false (λ w. is_wait w.kind)) (is_ready pl s i) p.1 in
        let f = at pl i (λ w. is_wait w.kind) q.0 in
        let mine = not_open_here _ f.work.deferred (is_wait f.work.kind) _ ((ok.items i f.work f.is).here stands) in
        let low = untouched_not_past (s.condition i) (mine.1 f.yes) in
        let in_plan = slice_get_within pl.items i f.work f.is in
        let u : State = moved_on false (with_condition i Passed s) in
        let k : Changed s u i Passed = record { conditions = λ j. refl; within = in_plan; further = λ h. refl } in
        subst (λ (x : State). Turned s x (Wait i)) (same_Some u t is)
        (record {
          past = past_so s u i Passed k;
          opened = λ j e. absurd (cc e);
          count =
              let a = counted s u i Passed k in
              let b = neither (is_for_workers pl (Open i)) (is_open (s.condition i)) (not_past_not_open (s.condition i) low) in
              let d = neither (is_for_workers pl (Open i)) false refl in
              omega (arith, a, b, d);
          going = λ other ended. absurd (omega (arith, stands, in_plan, ended));
        })

    ended : enabled pl s End ≡ true → step pl fill s End ≡ Some t → Turned s t End
    ended may is =
        subst (λ (x : State). Turned s x End) (same_Some (moved_on false s) t is)
        (record { past = λ j h. h; opened = λ j e. absurd (cc e); count = refl; going = λ other. absurd (other refl) })

    opens : (i : ℕ) → enabled pl s (Open i) ≡ true → step pl fill s (Open i) ≡ Some t → Turned s t (Open i)
    opens i may is =
        let f = at pl i (λ w. not (is_wait w.kind) && ((w.deferred || (s.place == i)) &&
        (is_waiting w.deferred (s.condition i) && is_ready pl s i))) may in
        let a = and_parts (not (is_wait f.work.kind)) _ f.yes in
        let b = and_parts (f.work.deferred || (s.place == i)) _ a.1 in
        let d = and_parts (is_waiting f.work.deferred (s.condition i)) (is_ready pl s i) b.1 in
        go f.work f.is (waiting_not_past f.work.deferred (s.condition i) d.0)
        (opening (fill i) f.work (memories_at f.work.device s.memories))
        (sym (at_item pl i f.work f.is None (λ w. open_item pl (fill i) i w s)) ∙ is)
      where
        go : (w : Work) → slice_get pl.items i ≡ Some w → is_past (s.condition i) ≡ false → (o : Option Memories) →
            option_map (λ m. with_condition i
            (Opened (captured_by (s.condition i) s.scalars) (worked_on pl.lengths w.kind m)) (with_memories w.device m s)) o
            ≡ Some t → Turned s t (Open i)
        go w e low None h = absurd (cc h)
        go w e low (Some m) h =
            let c : Condition = Opened (captured_by (s.condition i) s.scalars) (worked_on pl.lengths w.kind m) in
            let u : State = with_condition i c (with_memories w.device m s) in
            let k : Changed s u i c =
            record { conditions = λ j. refl; within = slice_get_within pl.items i w e; further = λ h. refl } in
            subst (λ (x : State). Turned s x (Open i)) (same_Some u t h)
            (record {
              past = past_so s u i c k;
              opened = λ j e. subst (λ n. is_past (u.condition n) ≡ true) (same_item i j e) (ap is_past (here s u i c k));
              count =
                  let a = counted s u i c k in
                  let b = neither (is_for_workers pl (Open i)) (is_open (s.condition i)) (not_past_not_open (s.condition i) low) in
                  let d = both (is_for_workers pl (Open i)) (is_open c) refl in
                  let l = listed (is_for_workers pl (Open i)) i in
                  omega (arith, a, b, d, l);
              going = λ other. before;
            })
          where
            same_item : (i j : ℕ) → ◌≡◌ {A = Event} (Open i) (Open j) → i ≡ j
            same_item i j e = cc e

    closes : (i : ℕ) → enabled pl s (Close i) ≡ true → step pl fill s (Close i) ≡ Some t → Turned s t (Close i)
    closes i may is =
        let f = at pl i (λ w. is_open (s.condition i)) may in
        go f.work f.is f.yes (closing f.work (s.condition i) s) refl (sym
        (at_item pl i f.work f.is None (λ w. option_map (λ t. moved_on w.deferred (with_condition i Closed t))
        (closing w (s.condition i) s)))
        ∙ is)
      where
        go : (w : Work) → slice_get pl.items i ≡ Some w → is_open (s.condition i) ≡ true →
            (o : Option State) → closing w (s.condition i) s ≡ o →
            option_map (λ t. moved_on w.deferred (with_condition i Closed t)) o ≡ Some t → Turned s t (Close i)
        go w e stays None k h = absurd (cc h)
        go w e stays (Some u) k h =
            subst (λ (x : State). Turned s x (Close i)) (same_Some (moved_on w.deferred (with_condition i Closed u)) t h)
            (by w.deferred refl)
          where
            kept : Kept s u
            kept = closing_keeps w (s.condition i) s u k

            conditions : (j : ℕ) → (if j == i then Closed else u.condition j) ≡ (if j == i then Closed else s.condition j)
            conditions j = ap (λ (g : ℕ → Condition). if j == i then Closed else g j) kept.1

            in_plan : i < length pl.items
            in_plan = slice_get_within pl.items i w e

            turned : (x : State) → ((j : ℕ) → x.condition j ≡ (if j == i then Closed else s.condition j)) →
                (HasEnded pl x → ⊥) → Turned s x (Close i)
            turned x same on =
                let k : Changed s x i Closed = record { conditions = same; within = in_plan; further = λ h. refl } in
                record {
                  past = past_so s x i Closed k;
                  opened = λ j e. absurd (cc e);
                  count =
                      let a = counted s x i Closed k in
                      let b = both (is_for_workers pl (Open i)) (is_open (s.condition i)) stays in
                      let d = neither (is_for_workers pl (Open i)) false refl in
                      let l = listed (is_for_workers pl (Open i)) i in
                      omega (arith, a, b, d, l);
                  going = λ other. on;
                }

            by : (b : Bool) → w.deferred ≡ b → Turned s (moved_on b (with_condition i Closed u)) (Close i)
            by true d = turned (with_condition i Closed u) conditions (λ h. before (sym kept.0 ∙ h))
            by false d = turned (moved_on false (with_condition i Closed u)) conditions (λ h. not_last (low h))
              where
                low : u.place + 1 ≡ length pl.items + 1 → i < s.place
                low h = let l = in_plan in let k = kept.0 in omega (arith, l, k, h)

                not_last : i < s.place → ⊥
                not_last lt = true≢false (sym stays ∙ (ok.items i w e).behind d lt)

    pub turned : (e : Event) → enabled pl s e ≡ true → step pl fill s e ≡ Some t → Turned s t e
    turned (Gen i) may is = generated i may is
    turned (Open i) may is = opens i may is
    turned (Step i) may is = absurd (false≢true may)
    turned (Close i) may is = closes i may is
    turned (Wait i) may is = waited i may is
    turned End may is = ended may is

-- an item that may be opened was not opened before
pub may_open : (pl : Plan) (s : State) (i : ℕ) → enabled pl s (Open i) ≡ true → is_past (s.condition i) ≡ false
may_open pl s i may =
    let f = at pl i (λ w. not (is_wait w.kind) && ((w.deferred || (s.place == i)) &&
    (is_waiting w.deferred (s.condition i) && is_ready pl s i))) may in
    let a = and_parts (not (is_wait f.work.kind)) _ f.yes in
    let b = and_parts (f.work.deferred || (s.place == i)) _ a.1 in
    waiting_not_past f.work.deferred (s.condition i) (and_parts (is_waiting f.work.deferred (s.condition i)) (is_ready pl s i) b.1).0

pub none_open : (p : Plan) (s : State) → ((i : ℕ) → is_open (s.condition i) ≡ false) → length (open_for_workers p s) ≡ 0
none_open p s h = no_pass (λ i. is_for_workers p (Open i) && is_open (s.condition i)) (λ i. last _ _ (h i)) 0 (length p.items)
  where
    last : (a b : Bool) → b ≡ false → (a && b) ≡ false
    last true b e = e
    last false b e = refl
