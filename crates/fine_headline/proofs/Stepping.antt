-- What each event makes of the board, by the machine that opens and closes whole items.
use Rattle.base.specs.declared.item.Event.TheVariants as event
use Rattle.std.proofs.Common.{◌≡◌, ◌⊎◌, ℕ, ◌+◌, ◌<◌, ◌^◌, ◌==◌, Bool, true, false, [], Some, None, refl, sym, ◌∙◌, ap, inl, inr, subst, arith}
use Rattle.std.specs.Prelude.{slice_get, length, Option, if◌then◌else◌}
use mathlib.Core.Path.{fun_ext}
use Rattle.std.proofs.lemmas.Bool.{false≢true, cases_eq, eq-eqb, ne_eqb, cond-true, cond-false}
use Rattle.std.proofs.lemmas.Option.{none-some}
use Rattle.std.proofs.lemmas.List.Elements.{All-nil}
use Rattle.base.specs.Memory.{Scalars, zeros}
use Rattle.base.specs.Items.{Work, Plan}
use Rattle.base.specs.Machine.{State as Whole, Condition as Whole_condition, on_item}
use Rattle.base.specs.Machine as two
use Rattle.base.specs.Machine.Condition.{Untouched as untouched, Generated as generated, Opened as opened, Closed as closed, Passed as passed}
use Rattle.fine_machine.specs.Left.{Left}
use Rattle.fine_machine.specs.Machine.{State, Condition, Untouched, Generated, Opened, Closed, Passed, as_whole, whole_condition, with_condition, moves_on, has_step, is_finished, enabled}
use Rattle.regions.specs.Footprints.{BoundedScalars}
use Rattle.machine.specs.Board.{Move, Moves}
use Rattle.machine.specs.Board.Move.{Gen, Open, Step, Close, Wait}
use Rattle.machine.specs.Board.Condition.{Opened as is_opened}
use Rattle.two_memories.specs.Two.{items_of, own_of, own_part}
use Rattle.two_memories.specs.Two as parts
use Rattle.two_memories.proofs.PlanItems.{on_true, own_at}
use Rattle.two_memories.proofs.PlacedBoards.{Placed}
use Rattle.two_memories.proofs.SoundClose.{IsKept}
use Rattle.two_memories.proofs.Stepped.{IsStepped, gen_stepped, wait_stepped, end_stepped}
use Rattle.two_memories.proofs.Stepped.{open_failed, close_failed}
use Rattle.fine_headline.specs.FineState.{board_of, BoundedCondition}

-- a state with these conditions and nothing in its memories
abbrev bare : ℕ → Scalars → (ℕ → Whole_condition) → Whole
bare place scalars condition =
    record {
      place = place;
      memories = record { host = zeros; devices = λ d. record { blocks = []; cells = λ c. None } };
      scalars = scalars;
      input = [];
      output = [];
      condition = condition;
    }

abbrev pub wholes : (ℕ → Condition) → ℕ → Whole_condition
wholes f k = whole_condition (f k)

abbrev bare_of : State → Whole
bare_of s = bare s.place s.scalars (wholes s.condition)

whole_bounded : (c : Condition) → BoundedCondition c → parts.BoundedCondition (whole_condition c)
whole_bounded Untouched h = tt
whole_bounded (Generated captured) h = h
whole_bounded (Opened left) h = (λ x. omega arith, λ c n e. absurd (none-some n e))
whole_bounded Closed h = tt
whole_bounded Passed h = tt

bare_kept : (s : State) → BoundedScalars s.scalars → ((i : ℕ) → BoundedCondition (s.condition i)) → IsKept (bare_of s)
bare_kept s h k = record {
  bounded = record {
    host = λ c. omega arith;
    devices = λ d c n e. absurd (none-some n e);
    scalars = h;
    input = All-nil (λ n. n < 2 ^ 64);
    condition = λ i. whole_bounded (s.condition i) (k i);
  };
  blocks = λ d. (tt, tt);
}

-- what is known of the board before an event
pub record Ready (plan : Plan) (s : State) : Type 0 where
  pub scalars : BoundedScalars s.scalars
  pub condition : (i : ℕ) → BoundedCondition (s.condition i)
  pub placed : Placed plan (as_whole s)

-- and after it
pub record IsMarked (plan : Plan) (e : Move) (s x : State) : Type 0 where
  pub placed : Placed plan (as_whole x)
  pub moved : Moves (items_of plan) (board_of plan s) e (board_of plan x)

placed_bare : (plan : Plan) (s : State) → Placed plan (as_whole s) → Placed plan (bare_of s)
placed_bare plan s p = record { here = p.here; ahead = p.ahead }

record Bare_marked (plan : Plan) (e : Move) (s : State) (place : ℕ) (scalars : Scalars)
    (condition : ℕ → Whole_condition) : Type 0 where
  placed : Placed plan (bare place scalars condition)
  moved : Moves (items_of plan) (parts.board_of plan (bare_of s)) e (parts.board_of plan (bare place scalars condition))

marked : (plan : Plan) (e : Move) (s x : State) (scalars : Scalars) (f : ℕ → Whole_condition) → f ≡ wholes x.condition →
    Bare_marked plan e s x.place scalars f → IsMarked plan e s x
marked plan e s x scalars f same h = go (subst (Bare_marked plan e s x.place scalars) same h)
  where
    go : Bare_marked plan e s x.place scalars (wholes x.condition) → IsMarked plan e s x
    go b =
        record {
          placed = record { here = b.placed.here; ahead = b.placed.ahead };
          moved =
              record { place = b.moved.place; item = b.moved.item; others = b.moved.others };
        }

whole_if : (b : Bool) (c d : Condition) →
    (if b then whole_condition c else whole_condition d) ≡ whole_condition (if b then c else d)
whole_if true c d = refl
whole_if false c d = refl

pub with_whole : (i : ℕ) (c : Condition) (s : State) →
    (λ k. if k == i then whole_condition c else whole_condition (s.condition k)) ≡ wholes
    (with_condition i c s).condition
with_whole i c s = fun_ext (λ k. whole_if (k == i) c (s.condition k))

-- an open item stays open
pub step_conditions : (i : ℕ) (left before : Left) (s : State) → s.condition i ≡ Opened before →
    wholes (with_condition i (Opened left) s).condition ≡ wholes s.condition
step_conditions i left before s e = sym (with_whole i (Opened left) s) ∙ fun_ext (λ k. at k (cases_eq k i))
  where
    at : (k : ℕ) → (k ≡ i) ⊎ (k ≡ i → ⊥) →
        (if k == i then whole_condition (Opened left) else whole_condition (s.condition k)) ≡ whole_condition
        (s.condition k)
    at k (inl q) =
        cond-true (k == i) (whole_condition (Opened left)) (whole_condition (s.condition k)) (eq-eqb k i q) ∙ sym
        (ap whole_condition (ap s.condition q ∙ e))
    at k (inr n) = cond-false (k == i) (whole_condition (Opened left)) (whole_condition (s.condition k)) (ne_eqb k i n)

module _ (plan : Plan) (s : State) (h : Ready plan s) where
  kept : IsKept (bare_of s)
  kept = bare_kept s h.scalars h.condition

  placed : Placed plan (bare_of s)
  placed = placed_bare plan s h.placed

  pub gen_marked : (i : ℕ) → enabled plan s (event.Gen i) ≡ true →
      IsMarked plan (Gen i) s (moves_on false (with_condition i (Generated s.scalars) s))
  gen_marked i en =
      let r = gen_stepped plan i (bare_of s) kept placed en in
      marked plan (Gen i) s (moves_on false (with_condition i (Generated s.scalars) s)) s.scalars
      (λ k. if k == i then whole_condition (Generated s.scalars) else whole_condition (s.condition k))
      (with_whole i (Generated s.scalars) s) (record { placed = r.placed; moved = r.moved })

  pub wait_marked : (i : ℕ) → enabled plan s (event.Wait i) ≡ true →
      IsMarked plan (Wait i) s (moves_on false (with_condition i Passed s))
  wait_marked i en =
      let r = wait_stepped plan i (bare_of s) kept placed en in
      marked plan (Wait i) s (moves_on false (with_condition i Passed s)) s.scalars
      (λ k. if k == i then whole_condition Passed else whole_condition (s.condition k)) (with_whole i Passed s)
      (record { placed = r.placed; moved = r.moved })

  pub end_marked : (i : ℕ) → i ≡ length plan.items → enabled plan s event.End ≡ true →
      IsMarked plan (Wait i) s (moves_on false s)
  end_marked i last en =
      let r = end_stepped plan i (bare_of s) last kept placed en in
      marked plan (Wait i) s (moves_on false s) s.scalars (wholes s.condition) refl
      (record { placed = r.placed; moved = r.moved })

  pub open_marked : (i : ℕ) (left : Left) → enabled plan s (event.Open i) ≡ true →
      IsMarked plan (Open i) s (with_condition i (Opened left) s)
  open_marked i left en =
      let r = open_failed plan i (bare_of s) kept placed en in
      marked plan (Open i) s (with_condition i (Opened left) s) s.scalars
      (λ k. if k == i then whole_condition (Opened left) else whole_condition (s.condition k))
      (with_whole i (Opened left) s) (record { placed = r.placed; moved = r.moved })

  open_from : (c : Condition) → is_finished c ≡ true → two.is_open (whole_condition c) ≡ true
  open_from (Opened left) e = refl
  open_from Untouched e = absurd (false≢true e)
  open_from (Generated captured) e = absurd (false≢true e)
  open_from Closed e = absurd (false≢true e)
  open_from Passed e = absurd (false≢true e)

  open_now : (i : ℕ) → enabled plan s (event.Close i) ≡ true →
      on_item plan i false (λ w. two.is_open (whole_condition (s.condition i))) ≡ true
  open_now i en = go (slice_get plan.items i) en
    where
      go : (o : Option Work) → elim o [ None ↦ false | Some w ↦ is_finished (s.condition i) ] ≡ true →
          elim o [ None ↦ false | Some w ↦ two.is_open (whole_condition (s.condition i)) ] ≡ true
      go None e = absurd (false≢true e)
      go (Some w) e = open_from (s.condition i) e

  abbrev deferred : ℕ → Bool
  deferred i = on_item plan i false (λ w. w.deferred)

  -- a close, whatever it does to the scalars, the input and the output
  pub close_marked : (i : ℕ) (x : State) → enabled plan s (event.Close i) ≡ true →
      x.place ≡ (moves_on (deferred i) (with_condition i Closed s)).place →
      x.condition ≡ (with_condition i Closed s).condition → IsMarked plan (Close i) s x
  close_marked i x en p c = go (deferred i) refl
    where
      r : IsStepped plan (Close i) (bare_of s) (parts.failing plan (bare_of s) (event.Close i))
      r = close_failed plan i (bare_of s) kept placed (open_now i en)

      conditions : (λ k. if k == i then whole_condition Closed else whole_condition (s.condition k)) ≡ wholes
          x.condition
      conditions = with_whole i Closed s ∙ ap wholes (sym c)

      go : (d : Bool) → deferred i ≡ d → IsMarked plan (Close i) s x
      go true e =
          let q = subst (λ d. IsStepped plan (Close i) (bare_of s)
          (two.moved_on d (two.with_condition i closed (bare_of s)))) e r in
          let at : s.place ≡ x.place = sym (p ∙ ap (λ d. (moves_on d (with_condition i Closed s)).place) e) in
          marked plan (Close i) s x s.scalars (λ k. if k == i then whole_condition Closed else whole_condition
          (s.condition k)) conditions
          (subst (λ n. Bare_marked plan (Close i) s n s.scalars
          (λ k. if k == i then whole_condition Closed else whole_condition (s.condition k))) at
          (record { placed = q.placed; moved = q.moved }))
      go false e =
          let q = subst (λ d. IsStepped plan (Close i) (bare_of s)
          (two.moved_on d (two.with_condition i closed (bare_of s)))) e r in
          let at : s.place + 1 ≡ x.place = sym (p ∙ ap (λ d. (moves_on d (with_condition i Closed s)).place) e) in
          marked plan (Close i) s x s.scalars (λ k. if k == i then whole_condition Closed else whole_condition
          (s.condition k)) conditions
          (subst (λ n. Bare_marked plan (Close i) s n s.scalars
          (λ k. if k == i then whole_condition Closed else whole_condition (s.condition k))) at
          (record { placed = q.placed; moved = q.moved }))

  -- an action leaves the board as it is
  pub step_marked : (i : ℕ) (x : State) → on_item plan i false (λ w. has_step (s.condition i)) ≡ true →
      x.place ≡ s.place → wholes x.condition ≡ wholes s.condition → IsMarked plan (Step i) s x
  step_marked i x en p c =
      marked plan (Step i) s x s.scalars (wholes s.condition) (sym c)
      (subst (λ n. Bare_marked plan (Step i) s n s.scalars (wholes s.condition)) (sym p)
      (record { placed = placed; moved = record { place = refl; item = phase; others = λ j _. refl } }))
    where
      is_open_part : (w : Work) (c : Condition) → has_step c ≡ true → (own_part w (whole_condition c)).phase ≡ is_opened
      is_open_part w (Opened left) e = refl
      is_open_part w Untouched e = absurd (false≢true e)
      is_open_part w (Generated captured) e = absurd (false≢true e)
      is_open_part w Closed e = absurd (false≢true e)
      is_open_part w Passed e = absurd (false≢true e)

      phase : (own_of plan (bare_of s) i).phase ≡ is_opened
      phase =
          let r = on_true plan i (λ w. has_step (s.condition i)) en in ap (λ (o : parts.Own). o.phase)
          (own_at plan (bare_of s) i r.0 r.1) ∙ is_open_part r.0 (s.condition i) r.2
