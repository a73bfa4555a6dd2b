-- The laws of events that leave both memories as they are: an item is generated, opened, closed, or passed.
use Rattle.std.proofs.Common.{◌≡◌, ℕ, ◌+◌, ◌++◌, ◌==◌, Bool, true, false, List, [], Some, refl, sym, ◌∙◌, ap, ap₂, subst, true≢false}
use Rattle.std.specs.Prelude.{not, slice_get, option_map}
use Rattle.std.proofs.lemmas.Bool.{false≢true, eq-eqb, ne_eqb, cond-true, cond-false}
use Rattle.base.specs.declared.item.Loc.{Loc}
use Rattle.base.specs.declared.item.Loc.TheVariants as at
use Rattle.base.specs.declared.item.MapItem.{MapItem}
use Rattle.base.specs.declared.item.ItemKind.{ItemKind}
use Rattle.base.specs.declared.item.ItemKind.TheVariants as kind
use Rattle.base.specs.Memory.{Scalars}
use Rattle.base.specs.Meaning.{Run}
use Rattle.base.specs.Items.{Work, Plan}
use Rattle.base.specs.Map.{Block, AllMemories}
use Rattle.base.specs.Accepted.{is_host}
use Rattle.base.specs.Machine.{on_item}
use Rattle.base.specs.Machine as two
use Rattle.base.specs.Blocks.{holder}
use Rattle.fine_machine.specs.Left.{Left, Finished, item_left, present_of, each_left, update_left}
use Rattle.fine_machine.specs.Machine.{State, Condition, Untouched, Generated, Opened, Closed, Passed, as_whole, whole_condition, with_condition, moves_on, begun, captured_by, input_of, host_done}
use Rattle.machine.specs.Board.{Move, item_of, Moves}
use Rattle.machine.specs.Board.Move.{Gen, Open, Close, Wait}
use Rattle.machine.specs.Machine.{InOrder, Alike, ChangesOwn, is_of_host}
use Rattle.two_memories.specs.Two.{Spot, Number, Entry, Hosted, hosted, items_of, less, IsLawful}
use Rattle.two_memories.proofs.PlanItems.{at_item}
use Rattle.fine_headline.specs.FineState.{FineState, Own, board_of, own_of, value_at, resting_in, parts}

-- a state of the program that the run began with
abbrev pub at_start : FineState → State → Bool → (ℕ → List MapItem) → FineState
at_start start a b m = record { fixed = start.fixed; state = a; failed = b; entered = m }

pub record Lawful_at (start s t s' t' : FineState) (e : Move) : Type 0 where
  pub changes : ChangesOwn parts (items_of start.fixed.plan) e s s'
  pub follows : Alike parts (items_of start.fixed.plan) e s' t'

pub same_values : (plan : Plan) (s x : State) (m : ℕ → List MapItem) → x.memories ≡ s.memories → (l : Spot) →
    value_at plan x m l ≡ value_at plan s m l
same_values plan s x m e l = go l.loc
  where
    go : (loc : Loc) →
        value_at plan x m (record { loc = loc; cell = l.cell }) ≡ value_at plan s m
        (record { loc = loc; cell = l.cell })
    go at.Host = ap (λ (n : AllMemories). Number (Some (n.host l.cell))) e
    go (at.Dev d) = ap (λ (n : AllMemories). Number ((n.devices d).cells l.cell)) e
    go (at.Tab d) =
        ap (λ (n : AllMemories). Entry (option_map (less (resting_in plan m d)) (holder (n.devices d).blocks l.cell))) e

-- what an event does that changes neither memory
pub record IsQuiet (plan : Plan) (e : Move) (a a' x x' : State) : Type 0 where
  pub memories : x.memories ≡ a.memories
  pub memories' : x'.memories ≡ a'.memories
  pub others : (j : ℕ) → (j ≡ item_of e → ⊥) → x.condition j ≡ a.condition j
  pub item : on_item plan (item_of e) Untouched (λ w. x.condition (item_of e)) ≡ on_item plan (item_of e) Untouched
      (λ w. x'.condition (item_of e))
  pub not_host : is_of_host (items_of plan) e ≡ false → hosted (as_whole x) ≡ hosted (as_whole a)
  pub of_host : is_of_host (items_of plan) e ≡ true → hosted (as_whole x) ≡ hosted (as_whole x')

module _ (start : FineState) (a a' : State) (b b' : Bool) (m m' : ℕ → List MapItem) where
  abbrev plan : Plan
  plan = start.fixed.plan

  pub quiet_lawful : (e : Move) (x x' : State) →
      InOrder parts start e (at_start start a b m) (at_start start a' b' m') →
      Moves (items_of start.fixed.plan) (board_of start.fixed.plan a) e (board_of start.fixed.plan x) → Moves
      (items_of start.fixed.plan) (board_of start.fixed.plan a') e (board_of start.fixed.plan x') →
      IsQuiet start.fixed.plan e a a' x x' → Lawful_at start (at_start start a b m) (at_start start a' b' m')
      (at_start start x b m) (at_start start x' b' m') e
  quiet_lawful e x x' o moves moves' q = record {
    changes = record {
      own = λ j ne. own_same j (moves.others j ne) (q.others j ne);
      host = q.not_host;
      values = λ l w. same_values plan a x m q.memories l;
    };
    follows = record {
      own = own_both (item_of e) (moves.item ∙ sym moves'.item) q.item (ap (λ (p : Own). p.entered) o.alike.own);
      host = q.of_host;
      values =
          λ l h. same_values plan a x m q.memories l ∙
          (o.alike.values l h ∙ sym (same_values plan a' x' m' q.memories' l));
      failed = o.alike.failed;
    };
  }
    where
      own_same : (j : ℕ) → (board_of plan x).condition j ≡ (board_of plan a).condition j →
          x.condition j ≡ a.condition j → own_of plan x m j ≡ own_of plan a m j
      own_same j p c =
          ap₂ (λ f g. record { phase = f; condition = g; entered = m j }) p
          (ap (λ d. on_item plan j Untouched (λ w. d)) c)

      own_both : (i : ℕ) → (board_of plan x).condition i ≡ (board_of plan x').condition i →
          on_item plan i Untouched (λ w. x.condition i) ≡ on_item plan i Untouched (λ w. x'.condition i) → m i ≡ m' i →
          own_of plan x m i ≡ own_of plan x' m' i
      own_both i p c n =
          ap₂ (λ f g. record { phase = f; condition = g; entered = m i }) p c ∙ ap
          (λ ms. record {
            phase = (board_of plan x').condition i;
            condition = on_item plan i Untouched
                (λ w. x'.condition i);
            entered = ms;
          }) n

condition_there : (i k : ℕ) (c : Condition) (s : State) → (k ≡ i → ⊥) →
    (with_condition i c s).condition k ≡ s.condition k
condition_there i k c s n = cond-false (k == i) c (s.condition k) (ne_eqb k i n)

condition_here : (i : ℕ) (c : Condition) (s : State) → (with_condition i c s).condition i ≡ c
condition_here i c s = cond-true (i == i) c (s.condition i) (eq-eqb i i refl)

moved_hosted : (s t : State) → hosted (as_whole s) ≡ hosted (as_whole t) →
    hosted (as_whole (moves_on false s)) ≡ hosted (as_whole (moves_on false t))
moved_hosted s t e =
    ap (λ (h : Hosted). let r : Hosted = record
    { place = h.place + 1; scalars = h.scalars; input = h.input; output = h.output } in r) e

pub gen_quiet : (plan : Plan) (i : ℕ) (a a' : State) → hosted (as_whole a) ≡ hosted (as_whole a') →
    IsQuiet plan (Gen i) a a' (moves_on false (with_condition i (Generated a.scalars) a))
    (moves_on false (with_condition i (Generated a'.scalars) a'))
gen_quiet plan i a a' h = record {
  memories = refl;
  memories' = refl;
  others = λ j ne. condition_there i j (Generated a.scalars) a ne;
  item =
      ap (λ c. on_item plan i Untouched (λ w. c))
      (condition_here i (Generated a.scalars) a ∙
      (ap (λ (x : Hosted). Generated x.scalars) h ∙ sym (condition_here i (Generated a'.scalars) a')));
  not_host = λ e. absurd (true≢false e);
  of_host = λ e. moved_hosted (with_condition i (Generated a.scalars) a) (with_condition i (Generated a'.scalars) a') h;
}

pub wait_quiet : (plan : Plan) (i : ℕ) (a a' : State) → hosted (as_whole a) ≡ hosted (as_whole a') →
    IsQuiet plan (Wait i) a a' (moves_on false (with_condition i Passed a))
    (moves_on false (with_condition i Passed a'))
wait_quiet plan i a a' h = record {
  memories = refl;
  memories' = refl;
  others = λ j ne. condition_there i j Passed a ne;
  item = ap (λ c. on_item plan i Untouched (λ w. c)) (condition_here i Passed a ∙ sym (condition_here i Passed a'));
  not_host = λ e. absurd (true≢false e);
  of_host = λ e. moved_hosted (with_condition i Passed a) (with_condition i Passed a') h;
}

pub end_quiet : (plan : Plan) (i : ℕ) (a a' : State) → hosted (as_whole a) ≡ hosted (as_whole a') →
    on_item plan i Untouched (λ w. a.condition i) ≡ on_item plan i Untouched (λ w. a'.condition i) →
    IsQuiet plan (Wait i) a a' (moves_on false a) (moves_on false a')
end_quiet plan i a a' h c = record {
  memories = refl;
  memories' = refl;
  others = λ j ne. refl;
  item = c;
  not_host = λ e. absurd (true≢false e);
  of_host = λ e. moved_hosted a a' h;
}

-- A close.

abbrev pub closed_by : ℕ → Work → Run → State → State
closed_by i w t s = moves_on w.deferred (with_condition i Closed (host_done w.kind t s))

record Alone_done (k : ItemKind) (t : Run) (s : State) : Type 0 where
  memories : (host_done k t s).memories ≡ s.memories
  condition : (host_done k t s).condition ≡ s.condition
  host : (k ≡ kind.Host → ⊥) → hosted (as_whole (host_done k t s)) ≡ hosted (as_whole s)

alone_done : (k : ItemKind) (t : Run) (s : State) → Alone_done k t s
alone_done kind.Host t s = record { memories = refl; condition = refl; host = λ n. absurd (n refl) }
alone_done kind.Target t s = record { memories = refl; condition = refl; host = λ n. refl }
alone_done kind.Begin t s = record { memories = refl; condition = refl; host = λ n. refl }
alone_done kind.End t s = record { memories = refl; condition = refl; host = λ n. refl }
alone_done kind.Enter t s = record { memories = refl; condition = refl; host = λ n. refl }
alone_done kind.Exit t s = record { memories = refl; condition = refl; host = λ n. refl }
alone_done kind.Update t s = record { memories = refl; condition = refl; host = λ n. refl }
alone_done kind.Wait t s = record { memories = refl; condition = refl; host = λ n. refl }

done_hosted : (k : ItemKind) (t : Run) (s s' : State) → hosted (as_whole s) ≡ hosted (as_whole s') →
    hosted (as_whole (host_done k t s)) ≡ hosted (as_whole (host_done k t s'))
done_hosted kind.Host t s s' e =
    ap (λ (h : Hosted). let r : Hosted = record
    { place = h.place; scalars = t.scalars; input = t.input; output = h.output ++ t.printed } in r) e
done_hosted kind.Target t s s' e = e
done_hosted kind.Begin t s s' e = e
done_hosted kind.End t s s' e = e
done_hosted kind.Enter t s s' e = e
done_hosted kind.Exit t s s' e = e
done_hosted kind.Update t s s' e = e
done_hosted kind.Wait t s s' e = e

moved_memories : (d : Bool) (s : State) → (moves_on d s).memories ≡ s.memories
moved_memories true s = refl
moved_memories false s = refl

moved_condition : (d : Bool) (s : State) → (moves_on d s).condition ≡ s.condition
moved_condition true s = refl
moved_condition false s = refl

pub close_quiet : (plan : Plan) (i : ℕ) (w : Work) (t : Run) (a a' : State) → slice_get plan.items i ≡ Some w →
    IsLawful w → (is_of_host (items_of plan) (Close i) ≡ true → hosted (as_whole a) ≡ hosted (as_whole a')) →
    IsQuiet plan (Close i) a a' (closed_by i w t a) (closed_by i w t a')
close_quiet plan i w t a a' item lawful h = record {
  memories =
      moved_memories w.deferred (with_condition i Closed (host_done w.kind t a)) ∙ (alone_done w.kind t a).memories;
  memories' =
      moved_memories w.deferred (with_condition i Closed (host_done w.kind t a')) ∙ (alone_done w.kind t a').memories;
  others =
      λ j ne. ap (λ (f : ℕ → Condition). f j) (moved_condition w.deferred
      (with_condition i Closed (host_done w.kind t a))) ∙
      (condition_there i j Closed (host_done w.kind t a) ne ∙ ap (λ (f : ℕ → Condition). f j)
      (alone_done w.kind t a).condition);
  item = ap (λ c. on_item plan i Untouched (λ w. c)) (here a ∙ sym (here a'));
  not_host = λ e. not_of_host w.deferred refl e;
  of_host = λ e. of_host w.deferred refl e;
}
  where
    here : (s : State) → (closed_by i w t s).condition i ≡ Closed
    here s =
        ap (λ (f : ℕ → Condition). f i) (moved_condition w.deferred (with_condition i Closed (host_done w.kind t s)))
        ∙ condition_here i Closed (host_done w.kind t s)

    host_is : is_of_host (items_of plan) (Close i) ≡ not w.deferred
    host_is = ap not (at_item plan i w item false (λ w. w.deferred))

    not_of_host : (d : Bool) → w.deferred ≡ d → is_of_host (items_of plan) (Close i) ≡ false →
        hosted (as_whole (closed_by i w t a)) ≡ hosted (as_whole a)
    not_of_host false d e = absurd (true≢false (sym (host_is ∙ ap not d) ∙ e))
    not_of_host true d e =
        ap (λ x. hosted (as_whole (moves_on x (with_condition i Closed (host_done w.kind t a))))) d
        ∙ (alone_done w.kind t a).host (λ k. true≢false (sym d ∙ lawful.host_here (ap is_host k)))

    of_host : (d : Bool) → w.deferred ≡ d → is_of_host (items_of plan) (Close i) ≡ true →
        hosted (as_whole (closed_by i w t a)) ≡ hosted (as_whole (closed_by i w t a'))
    of_host true d e = absurd (false≢true (sym (host_is ∙ ap not d) ∙ e))
    of_host false d e =
        ap (λ x. hosted (as_whole (moves_on x (with_condition i Closed (host_done w.kind t a))))) d
        ∙ (moved_hosted (with_condition i Closed (host_done w.kind t a))
        (with_condition i Closed (host_done w.kind t a')) (done_hosted w.kind t a a' (h e)) ∙ sym
        (ap (λ x. hosted (as_whole (moves_on x (with_condition i Closed (host_done w.kind t a'))))) d))

-- An opening.

pub open_quiet : (plan : Plan) (i : ℕ) (left : Left) (a a' : State) →
    (is_of_host (items_of plan) (Open i) ≡ true → hosted (as_whole a) ≡ hosted (as_whole a')) →
    IsQuiet plan (Open i) a a' (with_condition i (Opened left) a) (with_condition i (Opened left) a')
open_quiet plan i left a a' h = record {
  memories = refl;
  memories' = refl;
  others = λ j ne. condition_there i j (Opened left) a ne;
  item =
      ap (λ c. on_item plan i Untouched (λ w. c))
      (condition_here i (Opened left) a ∙ sym (condition_here i (Opened left) a'));
  not_host = λ e. refl;
  of_host = h;
}

-- what is left of an item depends on the blocks only where an update finds its sections
pub left_same : (order : List ℕ) (w : Work) (bs bs' : List Block) (s : Run) →
    (w.kind ≡ kind.Update → present_of bs w.maps ≡ present_of bs' w.maps) → item_left order w bs s ≡ item_left order w bs' s
left_same order w bs bs' s h = go w.kind refl
  where
    go : (k : ItemKind) → w.kind ≡ k → item_left order w bs s ≡ item_left order w bs' s
    go kind.Update e =
        rw (e, item_left) (ap (option_map (λ present. each_left update_left present (λ u. Finished s))) (h e))
    go kind.Host e = rw (e, item_left) refl
    go kind.Target e = rw (e, item_left) refl
    go kind.Begin e = rw (e, item_left) refl
    go kind.Enter e = rw (e, item_left) refl
    go kind.End e = rw (e, item_left) refl
    go kind.Exit e = rw (e, item_left) refl
    go kind.Wait e = rw (e, item_left) refl

captured_same : (c : Condition) (s t : Scalars) → two.is_waiting true (whole_condition c) ≡ true →
    captured_by c s ≡ captured_by c t
captured_same (Generated captured) s t h = refl
captured_same Untouched s t h = absurd (false≢true h)
captured_same (Opened left) s t h = absurd (false≢true h)
captured_same Closed s t h = absurd (false≢true h)
captured_same Passed s t h = absurd (false≢true h)

no_input : (k : ItemKind) (xs ys : List ℕ) → (k ≡ kind.Host → ⊥) → input_of k xs ≡ input_of k ys
no_input kind.Host xs ys n = absurd (n refl)
no_input kind.Target xs ys n = refl
no_input kind.Begin xs ys n = refl
no_input kind.End xs ys n = refl
no_input kind.Enter xs ys n = refl
no_input kind.Exit xs ys n = refl
no_input kind.Update xs ys n = refl
no_input kind.Wait xs ys n = refl

-- an item's region begins with the same scalars and input in both states
pub begun_same : (w : Work) (c : Condition) (a a' : State) → IsLawful w →
    two.is_waiting w.deferred (whole_condition c) ≡ true →
    (w.deferred ≡ false → hosted (as_whole a) ≡ hosted (as_whole a')) → begun w c a ≡ begun w c a'
begun_same w c a a' lawful waits h = go w.deferred refl
  where
    put : captured_by c a.scalars ≡ captured_by c a'.scalars → input_of w.kind a.input ≡ input_of w.kind a'.input →
        begun w c a ≡ begun w c a'
    put e f = ap₂ (λ x y. record { scalars = x; stores = []; input = y; printed = [] }) e f

    go : (d : Bool) → w.deferred ≡ d → begun w c a ≡ begun w c a'
    go true d =
        put (captured_same c a.scalars a'.scalars (subst (λ x. two.is_waiting x (whole_condition c) ≡ true) d waits))
        (no_input w.kind a.input a'.input (λ k. true≢false (sym d ∙ lawful.host_here (ap is_host k))))
    go false d =
        put (ap (λ (x : Hosted). captured_by c x.scalars) (h d)) (ap (λ (x : Hosted). input_of w.kind x.input) (h d))
