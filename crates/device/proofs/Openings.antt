-- What an opening leaves.
use Rattle.std.proofs.Common.{◌≡◌, ◌+◌, ◌<◌, arith, ℕ, false, List, length, Option, Some, None, refl, sym, ap, ◌∙◌, subst}
use Rattle.std.specs.Prelude.{option_map, slice_get, Vec}
use Rattle.std.specs.List.{slice_set}
use Rattle.std.specs.declared.alloc.Global.{Global}
use Rattle.std.proofs.lemmas.Bool.{true≢false}
use Rattle.std.proofs.lemmas.List.{length-set}
use Rattle.std.proofs.lemmas.Option.{same_Some}
use Rattle.base.specs.declared.item.Item.{Item}
use Rattle.base.specs.declared.item.ItemKind.{ItemKind}
use Rattle.base.specs.declared.item.ItemKind.TheVariants as kind
use Rattle.base.specs.declared.item.Event.TheVariants as event
use Rattle.host_memory.specs.declared.memory.Memory.{Memory as Arrays}
use Rattle.host_memory.specs.Arrays.{lengths_of}
use Rattle.base.specs.Items.{Work, Plan}
use Rattle.base.specs.Map.{Device, Fill, Memories, memories_at}
use Rattle.base.specs.Memory.{changed}
use Rattle.base.specs.Machine.{State, Opened, captured_by, on_item, open_item, opening, step, with_condition, with_memories, worked_on}
use Rattle.kernel.specs.declared.frames.Frame.{Frame}
use Rattle.present.specs.declared.Table.{Table}
use Rattle.present.specs.Table.{Are, Shows, fill_of, memories}
use Rattle.taskgraph.specs.Board.{Board, Stands, Follows as GraphFollows}
use Rattle.device.specs.declared.frame.Unfilled.{Unfilled}
use Rattle.device.specs.declared.standing.Held.{Held}
use Rattle.device.specs.declared.standing.Held.TheVariants as held
use Rattle.device.specs.declared.standing.Standing.{Standing}
use Rattle.device.specs.Moves.{CountsAtMost, Leads, entered_by, opens_with}
use Rattle.device.specs.Opening.{IsFilled, IsOf, Serves}
use Rattle.device.specs.Standing.{IsAt, Keeps, fill_from, place_of}
use Rattle.device.specs.declared.devices.Devices.{Devices}
use Rattle.device.specs.Devices.{Becomes, ShowAll, table_at}
use Rattle.device.proofs.Counts.{more, opened_counts}
use Rattle.device.proofs.Tables.{each_changed, show_all, still_alike}
use Rattle.device.proofs.Steps.{keeps_set, stands_again}

-- what an item does with the memories when it is opened, by its kind and its map items
opens_as : (fill : Fill) (w : Work) (k : ItemKind) (m : Memories) →
    opening fill (record w { kind = k }) m ≡ opens_with fill k w.maps m
opens_as fill w kind.Host m = refl
opens_as fill w kind.Target m = refl
opens_as fill w kind.Begin m = refl
opens_as fill w kind.End m = refl
opens_as fill w kind.Enter m = refl
opens_as fill w kind.Exit m = refl
opens_as fill w kind.Update m = refl
opens_as fill w kind.Wait m = refl

pub opens_by : (fill : Fill) (it : Item) (w : Work) → IsOf it w → (m : Memories) →
    opening fill w m ≡ opens_with fill it.kind it.maps.items m
opens_by fill it w h m =
    opens_as fill w w.kind m ∙ ap (λ k. opens_with fill k w.maps m) h.kind ∙ ap (λ ms. opens_with fill it.kind ms m) h.maps

-- the memories that are shown
pub shown_memories : (plan : Plan) (now : Standing) (s : State) → IsAt plan now s → (d : ℕ) →
    memories_at d s.memories ≡ memories now.host (s.memories.devices d)
shown_memories plan now s at d = λ j. record { host = at.host j; device = s.memories.devices d }

abbrev after : Plan → ℕ → Work → State → Memories → State
after plan i w s m =
    with_condition i (Opened (captured_by (s.condition i) s.scalars) (worked_on plan.lengths w.kind m)) (with_memories w.device m s)

-- a state that an opening leads to
pub record IsOpened (plan : Plan) (fill : ℕ → Fill) (i : ℕ) (w : Work) (s t : State) : Type 0 where
  pub memories : Memories
  pub is : opening (fill i) w (memories_at w.device s.memories) ≡ Some memories
  pub state : after plan i w s memories ≡ t

pub on_work : {A : Type 0} (plan : Plan) (i : ℕ) (w : Work) (other : A) (f : Work → A) → slice_get plan.items i ≡ Some w →
    on_item plan i other f ≡ f w
on_work plan i w other f e = ap (λ o. elim o [ None ↦ other | Some x ↦ f x ]) e

pub is_opened : (plan : Plan) (fill : ℕ → Fill) (i : ℕ) (w : Work) (s t : State) → slice_get plan.items i ≡ Some w →
    step plan fill s (event.Open i) ≡ Some t → IsOpened plan fill i w s t
is_opened plan fill i w s t at e =
    go (opening (fill i) w (memories_at w.device s.memories)) refl
    (sym (on_work plan i w None (λ w. open_item plan (fill i) i w s) at) ∙ e)
  where
    go : (o : Option Memories) → opening (fill i) w (memories_at w.device s.memories) ≡ o → open_item plan (fill i) i w s ≡ Some t →
        IsOpened plan fill i w s t
    go None k e =
        absurd (let bad : None ≡ Some t = sym (ap (option_map (after plan i w s)) k) ∙ e in cc)
    go (Some m) k e = record {
      memories = m;
      is = k;
      state = same_Some (after plan i w s m) t (sym (ap (option_map (after plan i w s)) k) ∙ e);
    }

module _ (plan : Plan) (old : Standing) (s t : State) (at : IsAt plan old s) (going : old.ended ≡ false)
    (i : ℕ) (it : Item) (w : Work) (is : slice_get plan.items i ≡ Some w) (of : IsOf it w)
    (e : step plan (fill_from old) s (event.Open i) ≡ Some t) where
  done : IsOpened plan (fill_from old) i w s t
  done = is_opened plan (fill_from old) i w s t is e

  abbrev own : Device
  own = s.memories.devices w.device

  led : (t0 : Table) → table_at old.devices it.device.number ≡ Some t0 →
      opens_with (fill_of t0) it.kind it.maps.items (memories old.host own) ≡ Some done.memories
  led t0 has =
      sym (opens_by (fill_of t0) it w of (memories old.host own))
      ∙ ap (λ n. opening (λ c. n) w (memories old.host own)) (at.alike.fresh it.device.number t0 has)
      ∙ ap (opening (fill_from old i) w) (sym (shown_memories plan old s at w.device)) ∙ done.is

  -- the item's device, as its table shows it
  own_shown : (t0 : Table) → table_at old.devices it.device.number ≡ Some t0 → Shows t0 own
  own_shown t0 has =
      subst (λ d. Shows t0 (s.memories.devices d)) (sym of.device) (at.devices it.device.number t0 has)

  pub opened : (g : Board) (hs : Vec Held Global) (ds : Devices) (tab : Table) (host : Arrays) (n : ℕ) (u : Unfilled) (f : Frame) →
      (b : Becomes it.device.number old.devices ds tab) →
      GraphFollows old.graph (event.Open i) g → hs.items ≡ slice_set old.held.items i (held.Issued f) →
      i < length old.held.items →
      Leads (opens_with (fill_of b.before) it.kind it.maps.items) b.before old.host tab host →
      lengths_of host ≡ lengths_of old.host → n ≡ old.entered + entered_by it.kind it.maps.items →
      Serves plan old s i w u → IsFilled it.kind u tab f →
      IsAt plan (record old { graph = g; held = hs; devices = ds; host = host; entered = n }) t
  opened g hs ds tab host n u f b follows set lt leads lengths number serves filled =
      subst (λ x. IsAt plan (record old { graph = g; held = hs; devices = ds; host = host; entered = n }) x) done.state made
    where
      next : State
      next = after plan i w s done.memories

      before : State
      before = record s { place = old.graph.place }

      stepped : step plan (fill_from old) before (event.Open i) ≡ Some (after plan i w before done.memories)
      stepped =
          on_work plan i w None (λ w. open_item plan (fill_from old i) i w before) is
          ∙ ap (option_map (after plan i w before)) done.is

      stands : Stands plan (after plan i w before done.memories) g
      stands = follows plan (fill_from old) before _ at.graph stepped

      are : Are host tab done.memories
      are = leads own done.memories (own_shown b.before b.was) (led b.before b.was)

      counted : CountsAtMost n done.memories.device.blocks
      counted =
          subst (λ k. CountsAtMost k done.memories.device.blocks) (sym number)
          (opened_counts old.entered (fill_of b.before) it.kind it.maps.items (memories old.host own) done.memories
          (at.counts w.device) (led b.before b.was))

      made : IsAt plan (record old { graph = g; held = hs; devices = ds; host = host; entered = n }) next
      made = record {
        host = are.host;
        lengths = lengths ∙ at.lengths;
        devices =
            subst (λ d. ShowAll ds (changed d done.memories.device s.memories.devices)) (sym of.device)
            (show_all it.device.number old.devices ds tab b s.memories.devices done.memories.device at.devices are.shown);
        alike = still_alike it.device.number old.devices ds tab b at.alike;
        counts =
            each_changed (λ (x : Device). CountsAtMost n x.blocks) w.device done.memories.device s.memories.devices counted
            (λ e. more old.entered n (s.memories.devices e).blocks (at.counts e) (omega (arith, number)));
        graph = stands_again plan _ next g stands refl;
        place = at.place ∙ ap (place_of old.ended) stands.place;
        ended = λ d. absurd (true≢false (sym d ∙ going));
        scalars = at.scalars;
        input = at.input;
        output = at.output;
        slots = ap (λ (xs : List Held). length xs) set ∙ length-set old.held.items i (held.Issued f) ∙ at.slots;
        held =
            subst (λ (xs : List Held). (j : ℕ) (v : Work) → slice_get plan.items j ≡ Some v →
            Keeps j v s.input (next.condition j) (slice_get xs j)) (sym set)
            (keeps_set plan old.held.items s.input s.condition at.held i _ (held.Issued f) lt
            (λ v k. subst (λ (x : Work). Keeps i x s.input (Opened (captured_by (s.condition i) s.scalars)
            (worked_on plan.lengths w.kind done.memories)) (Some (held.Issued f))) (same_Some w v (sym is ∙ k))
            (serves done.memories tab f done.is are.shown
            (subst (λ (x : ItemKind). IsFilled x u tab f) (sym of.kind) filled))));
      }
