-- What a closing leaves.
use Rattle.std.proofs.Common.{◌≡◌, ◌≢◌, ◌<◌, ◌++◌, ℕ, Bool, true, false, List, [], length, Option, Some, None, refl, sym, ap, ap₂, ◌∙◌, subst, arith}
use Rattle.std.specs.Prelude.{◌==◌, if◌then◌else◌, option_and_then, option_map, slice_get, slice_index, IsSome, Vec}
use Rattle.std.specs.List.{slice_set}
use Rattle.std.specs.declared.alloc.Global.{Global}
use Rattle.std.proofs.lemmas.Bool.{true≢false, false≢true}
use Rattle.std.proofs.lemmas.Bool.Decides.{nat_tests}
use Rattle.std.proofs.lemmas.List.{length-set}
use Rattle.std.proofs.lemmas.Option.{same_Some}
use Rattle.base.specs.declared.item.Item.{Item}
use Rattle.base.specs.declared.item.ItemKind.{ItemKind}
use Rattle.base.specs.declared.item.ItemKind.TheVariants as kind
use Rattle.base.specs.declared.item.MapItem.{MapItem}
use Rattle.base.specs.declared.item.Event.TheVariants as event
use Rattle.base.specs.declared.tree.Region.{Region}
use Rattle.host_memory.specs.Arrays.{memory_of, lengths_of}
use Rattle.base.specs.Memory.{View, Scalars, Stores}
use Rattle.base.specs.Meaning.{Run as Region_run, run_region}
use Rattle.base.specs.Items.{Work, Plan}
use Rattle.base.specs.Map.{Device, Memories, in_turn, leave, memories_at}
use Rattle.base.specs.Machine.{State, Condition, Untouched, Generated, Opened, Closed, Passed, closing, host_done, is_open, kernel_done, kernel_memories, moved_on, step, store_device, with_condition, with_memories}
use Rattle.base.specs.Accepted.{is_host, is_target}
use Rattle.kernel.specs.Kept.{IsKept, Kept}
use Rattle.present.specs.Table.{memories}
use Rattle.device.specs.Devices.{AreAlike, ShowAll}
use Rattle.device.proofs.Tables.{each_changed, show_all, still_alike}
use Rattle.taskgraph.specs.Board.{Board, Stands, Follows as GraphFollows}
use Rattle.device.specs.declared.standing.Held.{Held}
use Rattle.device.specs.declared.standing.Held.TheVariants as held
use Rattle.device.specs.declared.standing.Standing.{Standing}
use Rattle.device.specs.Closing.{HasDoneHost, HasDoneKernel, HasLeft, HasRegion, HostsAreHere, IsLeftBy}
use Rattle.device.specs.Moves.{CountsAtMost}
use Rattle.device.specs.Opening.{IsOf}
use Rattle.device.specs.Standing.{IsAt, IsIssued, Keeps, fill_from, place_of}
use Rattle.device.proofs.Openings.{on_work}
use Rattle.base.proofs.Closing.{closed_as, closing_keeps}
use Rattle.base.proofs.Places.{get_set_other}
use Rattle.frames.specs.Laws.{Leaves}
use Rattle.frames.specs.Views.{with_stored}
use Rattle.frames.proofs.KeptRuns.{kept_leaves}
use Rattle.device.specs.Standing.{input_for}
use Rattle.present.specs.Rows.{with_numbers}
use Rattle.present.specs.Table.{Are}
use Rattle.device.proofs.Counts.{all_left}
use Rattle.device.proofs.Steps.{stands_again}

-- the values that the code has are those of a state
pub record HasValues (lengths : List ℕ) (now : Standing) (x : State) : Type 0 where
  pub host : x.memories.host ≡ memory_of now.host
  pub same_lengths : lengths_of now.host ≡ lengths
  pub devices : ShowAll now.devices x.memories.devices
  pub alike : AreAlike now.devices
  pub counts : (d : ℕ) → CountsAtMost now.entered (x.memories.devices d).blocks
  pub scalars : x.scalars ≡ slice_index now.scalars
  pub input : x.input ≡ now.input.now
  pub output : x.output ≡ now.output

-- an item that is closed: the state that its kind leads to, and then its condition
pub record IsClosed (plan : Plan) (i : ℕ) (w : Work) (s t : State) : Type 0 where
  pub left : State
  pub is : closing w (s.condition i) s ≡ Some left
  pub state : moved_on w.deferred (with_condition i Closed left) ≡ t

pub is_closed : (plan : Plan) (fill : _) (i : ℕ) (w : Work) (s t : State) → slice_get plan.items i ≡ Some w →
    step plan fill s (event.Close i) ≡ Some t → IsClosed plan i w s t
is_closed plan fill i w s t at e =
    go (closing w (s.condition i) s) refl
    (sym (on_work plan i w None (λ w. option_map (λ x. moved_on w.deferred (with_condition i Closed x)) (closing w (s.condition i) s)) at) ∙ e)
  where
    go : (o : Option State) → closing w (s.condition i) s ≡ o →
        option_map (λ x. moved_on w.deferred (with_condition i Closed x)) (closing w (s.condition i) s) ≡ Some t →
        IsClosed plan i w s t
    go None k e =
        absurd (let bad : None ≡ Some t = sym (ap (option_map (λ x. moved_on w.deferred (with_condition i Closed x))) k) ∙ e in cc)
    go (Some x) k e = record {
      left = x;
      is = k;
      state = same_Some (moved_on w.deferred (with_condition i Closed x)) t
          (sym (ap (option_map (λ x. moved_on w.deferred (with_condition i Closed x))) k) ∙ e);
    }

-- an item that is closed was open
pub record WasOpen (c : Condition) : Type 0 where
  pub captured : Scalars
  pub snapshot : View
  pub is : c ≡ Opened captured snapshot

pub was_open : (w : Work) (c : Condition) (s x : State) → closing w c s ≡ Some x → WasOpen c
was_open w Untouched s x e = absurd cc
was_open w (Generated a) s x e = absurd cc
was_open w (Opened a v) s x e = record { captured = a; snapshot = v; is = refl }
was_open w Closed s x e = absurd cc
was_open w Passed s x e = absurd cc

-- a kernel that was done on two memories: its stores, and then the exits
pub record IsKernelDone (w : Work) (stores : Stores) (m after : Memories) : Type 0 where
  pub device : Device
  pub stored : store_device stores m.device ≡ Some device
  pub is : in_turn leave w.maps (record m { device = device }) ≡ Some after

pub is_kernel_done : (w : Work) (stores : Stores) (m after : Memories) → kernel_memories w stores m ≡ Some after →
    IsKernelDone w stores m after
is_kernel_done w stores m after e = go (store_device stores m.device) refl e
  where
    go : (o : Option Device) → store_device stores m.device ≡ o →
        option_and_then (λ d. in_turn leave w.maps (record m { device = d })) o ≡ Some after → IsKernelDone w stores m after
    go None f g = absurd cc
    go (Some d) f g = record { device = d; stored = f; is = g }

no_region : (o : Option Region) → o ≡ None → IsSome o → ⊥
no_region o e h = false≢true (subst IsSome e h)

module _ (plan : Plan) (old mid : Standing) (s x : State) (at : IsAt plan old s) (i : ℕ) (w : Work) (k : Kept) where
  same_values : mid ≡ old → Some s ≡ Some x → HasValues plan.lengths mid x
  same_values e f =
      subst (λ (y : State). HasValues plan.lengths mid y) (same_Some s x f)
      (subst (λ (z : Standing). HasValues plan.lengths z s) (sym e)
      (record {
        host = at.host;
        same_lengths = at.lengths;
        devices = at.devices;
        alike = at.alike;
        counts = at.counts;
        scalars = at.scalars;
        input = at.input;
        output = at.output;
      }))

  host_values : (run : Region_run) → IsKept (Some run) k → HasDoneHost k old mid → host_done s run ≡ x → HasValues plan.lengths mid x
  host_values run kept done e =
      let l = kept_leaves run k kept in
      subst (λ (y : State). HasValues plan.lengths mid y) e
      (record {
        host = l.host s.memories.host ∙ ap (with_stored k.stored) at.host ∙ sym done.host;
        same_lengths = done.lengths ∙ at.lengths;
        devices = subst (λ ds. ShowAll ds s.memories.devices) (sym done.devices) at.devices;
        alike = subst AreAlike (sym done.devices) at.alike;
        counts = λ d. subst (λ n. CountsAtMost n (s.memories.devices d).blocks) (sym done.entered) (at.counts d);
        scalars = l.scalars ∙ sym done.scalars;
        input = l.input ∙ sym done.input;
        output = ap₂ ◌++◌ at.output l.printed ∙ sym done.output;
      })

  kernel_values : (run : Region_run) (m : Memories) → IsKept (Some run) k → HasDoneKernel w.device k.stored w.maps old mid →
      IsKernelDone w run.stores (memories_at w.device s.memories) m → with_memories w.device m s ≡ x →
      HasValues plan.lengths mid x
  kernel_values run m kept done left e =
      subst (λ (y : State). HasValues plan.lengths mid y) e
      (subst (λ (z : Standing). HasValues plan.lengths z (with_memories w.device m s)) (sym done.rest)
      (record {
        host = are.host;
        same_lengths = done.lengths ∙ at.lengths;
        devices = show_all w.device old.devices mid.devices done.leaves.after done.leaves.becomes s.memories.devices m.device at.devices are.shown;
        alike = still_alike w.device old.devices mid.devices done.leaves.after done.leaves.becomes at.alike;
        counts =
            each_changed (λ (y : Device). CountsAtMost old.entered y.blocks) w.device m.device s.memories.devices
            (all_left old.entered w.maps (record (memories_at w.device s.memories) { device = left.device }) m counted left.is)
            at.counts;
        scalars = at.scalars;
        input = at.input;
        output = at.output;
      }))
    where
      own : Device
      own = s.memories.devices w.device

      l : Leaves run k
      l = kept_leaves run k kept

      is : with_numbers k.stored own ≡ left.device
      is = l.device own left.device left.stored

      same : memories old.host (with_numbers k.stored own) ≡ record (memories_at w.device s.memories) { device = left.device }
      same = λ j. record { host = sym at.host j; device = is j }

      are : Are mid.host done.leaves.after m
      are =
          done.leaves.leads own m (at.devices w.device done.leaves.becomes.before done.leaves.becomes.was)
          (ap (in_turn leave w.maps) same ∙ left.is)

      counted : CountsAtMost old.entered left.device.blocks
      counted = subst (λ (y : Device). CountsAtMost old.entered y.blocks) is (at.counts w.device)

  -- a host region that has a meaning
  host_ran : (o : Option Region_run) → IsKept o k → HasDoneHost k old mid → option_map (host_done s) o ≡ Some x →
      HasValues plan.lengths mid x
  host_ran None kept done e = absurd cc
  host_ran (Some run) kept done e = host_values run kept done (same_Some (host_done s run) x e)

  -- a kernel that has one
  kernel_ran : (o : Option Region_run) → IsKept o k → HasDoneKernel w.device k.stored w.maps old mid →
      option_and_then (kernel_done w s) o ≡ Some x → HasValues plan.lengths mid x
  kernel_ran None kept done e = absurd cc
  kernel_ran (Some run) kept done e = go (kernel_memories w run.stores (memories_at w.device s.memories)) refl e
    where
      go : (q : Option Memories) → kernel_memories w run.stores (memories_at w.device s.memories) ≡ q →
          option_map (λ m. with_memories w.device m s) q ≡ Some x → HasValues plan.lengths mid x
      go None f g = absurd cc
      go (Some m) f g =
          kernel_values run m kept done (is_kernel_done w run.stores (memories_at w.device s.memories) m f)
          (same_Some (with_memories w.device m s) x g)

  values : (captured : Scalars) (snapshot : View) → s.condition i ≡ Opened captured snapshot → HasRegion w → IsLeftBy i w s k →
      (kd : ItemKind) → w.kind ≡ kd → (o : Option Region) → w.region ≡ o → HasLeft kd w.device k w.maps old mid →
      closed_as w captured snapshot s kd o ≡ Some x → HasValues plan.lengths mid x
  values a v open' has left kind.Host kd (Some r) rg done e =
      host_ran (run_region r w.loops v a s.input)
      (subst (λ (y : ItemKind). IsKept (run_region r w.loops v a (input_for y s.input)) k) kd (left a v r open' rg)) done e
  values a v open' has left kind.Host kd None rg done e = absurd (no_region w.region rg (has.0 (ap is_host kd)))
  values a v open' has left kind.Target kd (Some r) rg done e =
      kernel_ran (run_region r w.loops v a [])
      (subst (λ (y : ItemKind). IsKept (run_region r w.loops v a (input_for y s.input)) k) kd (left a v r open' rg)) done e
  values a v open' has left kind.Target kd None rg done e = absurd (no_region w.region rg (has.1 (ap is_target kd)))
  values a v open' has left kind.Begin kd o rg done e = same_values done e
  values a v open' has left kind.End kd o rg done e = same_values done e
  values a v open' has left kind.Enter kd o rg done e = same_values done e
  values a v open' has left kind.Exit kd o rg done e = same_values done e
  values a v open' has left kind.Update kd o rg done e = same_values done e
  values a v open' has left kind.Wait kd o rg done e = same_values done e

  ended_still : (kd : ItemKind) (maps : List MapItem) → HasLeft kd w.device k maps old mid → mid.ended ≡ old.ended
  ended_still kind.Host maps done = done.ended
  ended_still kind.Target maps done = ap (λ (z : Standing). z.ended) done.rest
  ended_still kind.Begin maps done = ap (λ (z : Standing). z.ended) done
  ended_still kind.End maps done = ap (λ (z : Standing). z.ended) done
  ended_still kind.Enter maps done = ap (λ (z : Standing). z.ended) done
  ended_still kind.Exit maps done = ap (λ (z : Standing). z.ended) done
  ended_still kind.Update maps done = ap (λ (z : Standing). z.ended) done
  ended_still kind.Wait maps done = ap (λ (z : Standing). z.ended) done

  -- only a host item takes input
  input_still : (kd : ItemKind) (maps : List MapItem) → is_host kd ≡ false → HasLeft kd w.device k maps old mid →
      mid.input.now ≡ old.input.now
  input_still kind.Host maps h done = absurd (true≢false h)
  input_still kind.Target maps h done = ap (λ (z : Standing). z.input.now) done.rest
  input_still kind.Begin maps h done = ap (λ (z : Standing). z.input.now) done
  input_still kind.End maps h done = ap (λ (z : Standing). z.input.now) done
  input_still kind.Enter maps h done = ap (λ (z : Standing). z.input.now) done
  input_still kind.Exit maps h done = ap (λ (z : Standing). z.input.now) done
  input_still kind.Update maps h done = ap (λ (z : Standing). z.input.now) done
  input_still kind.Wait maps h done = ap (λ (z : Standing). z.input.now) done

same_input : (kd : ItemKind) (input input' : List ℕ) → (is_host kd ≡ true → input ≡ input') → input_for kd input ≡ input_for kd input'
same_input kind.Host input input' h = h refl
same_input kind.Target input input' h = refl
same_input kind.Begin input input' h = refl
same_input kind.End input input' h = refl
same_input kind.Enter input input' h = refl
same_input kind.Exit input input' h = refl
same_input kind.Update input input' h = refl
same_input kind.Wait input input' h = refl

issued_still : (j : ℕ) (v : Work) (a : Scalars) (u : View) (input input' : List ℕ) (o : Option Held) →
    (is_host v.kind ≡ true → input ≡ input') → IsIssued j v a u input o → IsIssued j v a u input' o
issued_still j v a u input input' None h keeps = keeps
issued_still j v a u input input' (Some held.Nothing) h keeps = keeps
issued_still j v a u input input' (Some (held.Captured b)) h keeps = keeps
issued_still j v a u input input' (Some (held.Issued f)) h keeps = record {
  item = keeps.item;
  bounded = keeps.bounded;
  small = keeps.small;
  loops = keeps.loops;
  meaning = λ r e. ap (run_region r v.loops u a) (sym (same_input v.kind input input' h)) ∙ keeps.meaning r e;
}

-- what is kept for an open item does not speak of the input, but for a host item
keeps_still : (j : ℕ) (v : Work) (input input' : List ℕ) (c : Condition) (o : Option Held) →
    (is_host v.kind ≡ true → is_open c ≡ true → input ≡ input') → Keeps j v input c o → Keeps j v input' c o
keeps_still j v input input' Untouched o h keeps = keeps
keeps_still j v input input' (Generated a) o h keeps = keeps
keeps_still j v input input' (Opened a u) o h keeps = issued_still j v a u input input' o (λ e. h e refl) keeps
keeps_still j v input input' Closed o h keeps = keeps
keeps_still j v input input' Passed o h keeps = keeps

number_not : (j i : ℕ) → (j == i) ≡ false → j ≢ i
number_not j i h e = grind (arith, nat_tests)

module _ (plan : Plan) (old mid : Standing) (s t : State) (at : IsAt plan old s) (going : old.ended ≡ false)
    (i : ℕ) (it : Item) (w : Work) (k : Kept) (is : slice_get plan.items i ≡ Some w) (of : IsOf it w) (has : HasRegion w)
    (hosts : HostsAreHere plan s) (left : IsLeftBy i w s k) (e : step plan (fill_from old) s (event.Close i) ≡ Some t)
    (done : HasLeft it.kind it.device.number k it.maps.items old mid) where
  c : IsClosed plan i w s t
  c = is_closed plan (fill_from old) i w s t is e

  x : State
  x = c.left

  o : WasOpen (s.condition i)
  o = was_open w (s.condition i) s c.left c.is

  its : HasLeft w.kind w.device k w.maps old mid
  its =
      subst (λ (kd : ItemKind). HasLeft kd w.device k w.maps old mid) (sym of.kind)
      (subst (λ (d : ℕ). HasLeft it.kind d k w.maps old mid) (sym of.device)
      (subst (λ (ms : List MapItem). HasLeft it.kind it.device.number k ms old mid) (sym of.maps) done))

  has_values : HasValues plan.lengths mid c.left
  has_values =
      values plan old mid s c.left at i w k o.captured o.snapshot o.is has left w.kind refl w.region refl its
      (ap (λ y. closing w y s) (sym o.is) ∙ c.is)

  -- where another host item is open, this one is none
  input_kept : (j : ℕ) (v : Work) → slice_get plan.items j ≡ Some v → j ≢ i → is_host v.kind ≡ true →
      is_open (s.condition j) ≡ true → s.input ≡ c.left.input
  input_kept j v at_j ne host open' = go (is_host w.kind) refl
    where
      go : (b : Bool) → is_host w.kind ≡ b → s.input ≡ c.left.input
      go true h =
          absurd (ne (hosts j v at_j host open' ∙ sym (hosts i w is h (ap is_open o.is))))
      go false h = at.input ∙ sym (input_still plan old mid s c.left at i w k w.kind w.maps h its) ∙ sym has_values.input

  pub closed : (g : Board) (hs : Vec Held Global) → mid.held ≡ old.held → mid.graph ≡ old.graph →
      GraphFollows mid.graph (event.Close i) g → hs.items ≡ slice_set mid.held.items i held.Nothing →
      i < length old.held.items → IsAt plan (record mid { graph = g; held = hs }) t
  closed g hs same_held same_graph follows set lt =
      subst (λ y. IsAt plan (record mid { graph = g; held = hs }) y) c.state
      (go w.deferred (subst (λ y. Stands plan y g) (sym c.state) stands))
    where
      here : s.place ≡ old.graph.place
      here = at.place ∙ ap (λ b. place_of b old.graph.place) going

      stands : Stands plan t g
      stands =
          follows plan (fill_from old) s t
          (subst (λ (b : Board). Stands plan s b) (sym same_graph)
          (subst (λ n. Stands plan (record s { place = n }) old.graph) (sym here) at.graph)) e

      kept : (j : ℕ) (v : Work) → slice_get plan.items j ≡ Some v →
          Keeps j v c.left.input (if j == i then Closed else s.condition j) (slice_get hs.items j)
      kept j v at_j = by (j == i) refl
        where
          by : (b : Bool) → (j == i) ≡ b → Keeps j v c.left.input (if b then Closed else s.condition j) (slice_get hs.items j)
          by true f = tt
          by false f =
              subst (λ q. Keeps j v c.left.input (s.condition j) q)
              (sym (get_set_other old.held.items i held.Nothing j (λ q. number_not j i f (sym q)))
              ∙ sym (ap (λ xs. slice_get xs j) (set ∙ ap (λ (h : Vec Held Global). slice_set h.items i held.Nothing) same_held)))
              (keeps_still j v s.input c.left.input (s.condition j) (slice_get old.held.items j)
              (λ host open'. input_kept j v at_j (number_not j i f) host open') (at.held j v at_j))

      build : (y : State) → y.memories ≡ c.left.memories → y.scalars ≡ c.left.scalars → y.input ≡ c.left.input →
          y.output ≡ c.left.output → y.condition ≡ (λ j. if j == i then Closed else c.left.condition j) → Stands plan y g →
          IsAt plan (record mid { graph = g; held = hs }) y
      build y memories scalars input output condition stands = record {
        host = ap (λ m. m.host) memories ∙ has_values.host;
        lengths = has_values.same_lengths;
        devices = subst (λ m. ShowAll mid.devices m.devices) (sym memories) has_values.devices;
        alike = has_values.alike;
        counts = λ d. subst (λ m. CountsAtMost mid.entered (m.devices d).blocks) (sym memories) (has_values.counts d);
        graph = stands_again plan y y g stands refl;
        place = stands.place ∙ sym (ap (λ b. place_of b g.place) not_ended);
        ended = λ d. absurd (true≢false (sym d ∙ not_ended));
        scalars = scalars ∙ has_values.scalars;
        input = input ∙ has_values.input;
        output = output ∙ has_values.output;
        slots =
            ap (λ (xs : List Held). length xs) set ∙ length-set mid.held.items i held.Nothing
            ∙ ap (λ (h : Vec Held Global). length h.items) same_held ∙ at.slots;
        held = λ j v at_j.
            subst (λ (f : ℕ → Condition). Keeps j v y.input (f j) (slice_get hs.items j)) (sym condition)
            (subst (λ (f : ℕ → Condition). Keeps j v y.input (if j == i then Closed else f j) (slice_get hs.items j))
            (sym (closing_keeps w (s.condition i) s c.left c.is).1)
            (subst (λ q. Keeps j v q (if j == i then Closed else s.condition j) (slice_get hs.items j)) (sym input) (kept j v at_j)));
      }
        where
          not_ended : mid.ended ≡ false
          not_ended = ended_still plan old mid s c.left at i w k w.kind w.maps its ∙ going

      go : (d : Bool) → Stands plan (moved_on d (with_condition i Closed c.left)) g →
          IsAt plan (record mid { graph = g; held = hs }) (moved_on d (with_condition i Closed c.left))
      go true h = build (with_condition i Closed c.left) refl refl refl refl refl h
      go false h = build (moved_on false (with_condition i Closed c.left)) refl refl refl refl refl h
