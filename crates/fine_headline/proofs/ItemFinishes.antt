-- An item that is opened and closed whole is opened, done action by action with nothing in between, and closed, and
-- ends
-- with the same memories and the same host's part.
use Rattle.std.proofs.Common.{◌≡◌, ℕ, ◌≤◌, Bool, true, false, List, [], ◌∷◌, ◌++◌, Option, Some, None, refl, sym, ◌∙◌, ap, ap₂, inl, subst, append-nil}
use Rattle.std.specs.Prelude.{option_map}
use Rattle.std.proofs.lemmas.Bool.{false≢true, false_from_ne_true}
use Rattle.std.proofs.lemmas.Option.{same_Some, none-some}
use Rattle.base.specs.declared.item.MapItem.{MapItem}
use Rattle.base.specs.declared.item.ItemKind.{ItemKind}
use Rattle.base.specs.declared.item.ItemKind.TheVariants as kind
use Rattle.base.specs.declared.tree.Region.{Region}
use Rattle.base.specs.Memory.{Scalars, view_of}
use Rattle.base.specs.Meaning.{Run, run_region}
use Rattle.base.specs.Items.{Work, Plan}
use Rattle.base.specs.Map.{Block, Device, Memories, memories_at, with_memories_at, Fill, Presence, Absent, Inside, InPart, presence, enter, leave, update, in_turn, when, copy_in, copy_out, copies_to, copies_from}
use Rattle.base.specs.Machine.{State as Whole, opening, closing, worked_on, kernel_done, kernel_memories, store_device}
use Rattle.base.proofs.Devices.{memories_back}
use Rattle.fine_headline.proofs.FineSpots.{put_again}
use Rattle.base.specs.Machine as two
use Rattle.base.specs.Machine.Condition.{Opened as opened}
use Rattle.base.specs.Accepted.{is_target, is_host}
use Rattle.base.proofs.Moves.{update_absent, update_missing, update_part}
use Rattle.fine_machine.specs.Left.{Left, Finished, OnHost, each_left, entry_left, exit_left, update_left, region_left, kernel_left, present_of, item_left}
use Rattle.fine_machine.specs.Machine.{State, Condition, Untouched, Generated, Opened, Closed, Passed, as_whole, whole_condition, captured_by, input_of, begun, host_done}
use Rattle.two_memories.specs.Two.{IsLawful}
use Rattle.two_memories.proofs.MapLists.{AreSized, sized}
use Rattle.two_memories.proofs.ByKind.{opening_target, opening_begin, opening_enter, opening_end, opening_exit, opening_update, opening_host, closing_target, closing_host, closing_host_none, closing_begin, closing_end, closing_enter, closing_exit, closing_update, worked_target, worked_host}
use Rattle.two_memories.proofs.MapsFrame.{turn_is}
use Rattle.fine_headline.proofs.LeftByKind.{left_host, left_target, left_begin, left_enter, left_end, left_exit, left_update}
use Rattle.fine_headline.proofs.Reaching.{Reaches, there, on_from, bare, then_parts, map_parts}
use Rattle.fine_headline.proofs.RegionReaching.{stored_on_host, stored_on_device, host_reaches}
use Rattle.fine_headline.proofs.KernelReaching.{IsSafe, KernelDone, all_there, kernel_reaches, entered_bounded}
use Rattle.fine_headline.proofs.EntriesThere.{entries_there}
use Rattle.fine_headline.proofs.StepLaws.{begun_fine}
use Rattle.regions.specs.Footprints.{BoundedScalars}
use Rattle.regions.proofs.StatementsDone.{small_list}
use Rattle.two_memories.proofs.BoundedMemories.{BoundedMemories}
use Rattle.fine_headline.proofs.MapReaching.{entry_reaches, exit_reaches, update_reaches}
use Rattle.fine_headline.proofs.DeviceStores.{device_stores}
use Rattle.fine_headline.proofs.Finishing.{each_reaches}
use Rattle.fine_headline.proofs.Finding.{absent_is, inside_is}
use Rattle.fine_headline.proofs.Storing.{AreStored, stored_inside, enter_stored, leave_stored, update_stored, kernel_stored}

abbrev Rest : Type 0
Rest = Unit {0} → Left

-- map items in turn keep storage
each_stored : (f : MapItem → Memories → Option Memories) →
    ((item : MapItem) (m m' : Memories) → 1 ≤ item.section.length → AreStored m → f item m ≡ Some m' → AreStored m') →
    (maps : List MapItem) (m m' : Memories) → AreSized maps → AreStored m → in_turn f maps m ≡ Some m' → AreStored m'
each_stored f keep [] m m' are h e = subst AreStored (same_Some m m' e) h
each_stored f keep (item ∷ rest) m m' are h e = go (f item m) refl (λ n h e. each_stored f keep rest n m' are.rest h e)
  where
    go : (o : Option Memories) → f item m ≡ o →
        ((n : Memories) → AreStored n → in_turn f rest n ≡ Some m' → AreStored m') → AreStored m'
    go None q again = absurd (none-some m' (sym (turn_is f item rest m None q) ∙ e))
    go (Some n) q again = again n (keep item m n are.size h q) (sym (turn_is f item rest m (Some n) q) ∙ e)

module _ (lengths : List ℕ) (fill : Fill) where
  entries_reach : (maps : List MapItem) (m m' : Memories) (k : Rest) → AreSized maps → AreStored m →
      in_turn (enter fill) maps m ≡ Some m' → Reaches lengths fill (each_left entry_left maps k) m (k tt) m'
  entries_reach maps m m' k are h e =
      each_reaches lengths fill AreStored (enter fill) entry_left
      (λ item m m' k size h e. entry_reaches lengths fill item m m' k (stored_inside m item.section h) e)
      (λ item m m' size h e. enter_stored fill item m m' size h e) maps m m' k are h e

  exits_reach : (maps : List MapItem) (m m' : Memories) (k : Rest) → AreSized maps → AreStored m →
      in_turn leave maps m ≡ Some m' → Reaches lengths fill (each_left exit_left maps k) m (k tt) m'
  exits_reach maps m m' k are h e =
      each_reaches lengths fill AreStored leave exit_left
      (λ item m m' k size h e. exit_reaches lengths fill item m m' k (stored_inside m item.section h) e)
      (λ item m m' size h e. leave_stored item m m' size h e) maps m m' k are h e

  record UpdatesReach (maps : List MapItem) (m m' : Memories) (k : Rest) : Type 0 where
    present : List MapItem
    is : present_of m.device.blocks maps ≡ Some present
    reaches : Reaches lengths fill (each_left update_left present k) m (k tt) m'
    stored : AreStored m'

  update_done : (item : MapItem) (m : Memories) (b : Block) → presence m.device.blocks item.section ≡ Inside b →
      update item m ≡ Some (when (copies_from item.kind) (copy_out item.section)
      (when (copies_to item.kind) (copy_in item.section) m))
  update_done item m b e = rw (e, update) refl

  same_blocks : (item : MapItem) (m : Memories) (x y : Bool) →
      (when x (copy_out item.section) (when y (copy_in item.section) m)).device.blocks ≡ m.device.blocks
  same_blocks item m true true = refl
  same_blocks item m true false = refl
  same_blocks item m false true = refl
  same_blocks item m false false = refl

  updates_reach : (maps : List MapItem) (m m' : Memories) (k : Rest) → AreStored m → in_turn update maps m ≡ Some m' →
      UpdatesReach maps m m' k
  updates_reach [] m m' k h e =
      record {
        present = [];
        is = refl;
        reaches = subst (λ x. Reaches lengths fill (k tt) m (k tt) x) (same_Some m m' e)
            (there (k tt) m);
        stored = subst AreStored (same_Some m m' e) h;
      }
  updates_reach (item ∷ rest) m m' k h e =
      go (presence m.device.blocks item.section) refl (λ n h e. updates_reach rest n m' k h e)
    where
      go : (p : Presence) → presence m.device.blocks item.section ≡ p →
          ((n : Memories) → AreStored n → in_turn update rest n ≡ Some m' → UpdatesReach rest n m' k) →
          UpdatesReach (item ∷ rest) m m' k
      go InPart q again = absurd (none-some m' (sym (turn_is update item rest m None (update_part item m q)) ∙ e))
      go Absent q again =
          let unwanted : item.present ≡ false =
          false_from_ne_true _ (λ p. none-some m' (sym (turn_is update item rest m None (update_missing item m q p)) ∙ e))
          in
          let all = again m h (sym (turn_is update item rest m (Some m) (update_absent item m q unwanted)) ∙ e) in
          record {
            present = all.present;
            is = absent_is m.device.blocks item rest q unwanted ∙ all.is;
            reaches = all.reaches;
            stored = all.stored;
          }
      go (Inside b) q again =
          let n : Memories = when (copies_from item.kind) (copy_out item.section)
          (when (copies_to item.kind) (copy_in item.section) m) in
          let all = again n (update_stored item m h)
          (sym (turn_is update item rest m (Some n) (update_done item m b q)) ∙ e) in
          record {
            present = item ∷ all.present;
            is =
                inside_is m.device.blocks item rest b q ∙ ap (option_map (λ xs. item ∷ xs))
                (ap (λ bs. present_of bs rest) (sym (same_blocks item m (copies_from item.kind) (copies_to item.kind)))
                ∙ all.is);
            reaches =
                on_from lengths fill (each_left update_left (item ∷ all.present) k) m
                (each_left update_left all.present k) n (k tt) m'
                (update_reaches lengths fill item m (λ u. each_left update_left all.present k) b
                (stored_inside m item.section h b q) q n (update_done item m b q)) all.reaches;
            stored = all.stored;
          }

captured_same : (c : Condition) (scalars : Scalars) →
    captured_by c scalars ≡ two.captured_by (whole_condition c) scalars
captured_same Untouched scalars = refl
captured_same (Generated captured) scalars = refl
captured_same (Opened left) scalars = refl
captured_same Closed scalars = refl
captured_same Passed scalars = refl

-- the same host's part, but for the host's place
pub record SameHost (x : State) (s : Whole) : Type 0 where
  pub scalars : x.scalars ≡ s.scalars
  pub input : x.input ≡ s.input
  pub output : x.output ≡ s.output

module _ (plan : Plan) (fill : Fill) (order : List ℕ) (i : ℕ) (w : Work) (lawful : IsLawful w) (t : State)
    (h : AreStored (memories_at w.device t.memories)) (safe : IsSafe fill w t) where
  abbrev captured : Scalars
  captured = two.captured_by (whole_condition (t.condition i)) t.scalars

  captured_small : BoundedScalars (two.captured_by (whole_condition (t.condition i)) t.scalars)
  captured_small =
      subst BoundedScalars (captured_same (t.condition i) t.scalars)
      (begun_fine w (t.condition i) t (safe.bounded.condition i) safe.bounded).scalars

  -- the state that opens and closes whole items, after the opening
  abbrev pub opened_whole : Memories → Whole
  opened_whole m =
      two.with_condition i (opened (two.captured_by (whole_condition (t.condition i)) t.scalars)
      (worked_on plan.lengths w.kind m)) (two.with_memories w.device m (as_whole t))

  pub record ItemDone (s : Whole) : Type 0 where
    pub left : Left
    pub is_left : item_left order w (t.memories.devices w.device).blocks (begun w (t.condition i) t) ≡ Some left
    pub run : Run
    pub end : Memories
    pub reaches : Reaches plan.lengths fill left (memories_at w.device t.memories) (Finished run) end
    pub memories : s.memories ≡ with_memories_at w.device end t.memories
    pub stored : AreStored end
    pub host : (x : State) → x.scalars ≡ t.scalars → x.input ≡ t.input → x.output ≡ t.output →
        SameHost (host_done w.kind run x) s

  abbrev begin : ItemKind → Run
  begin k =
      record {
        scalars = two.captured_by (whole_condition (t.condition i)) t.scalars;
        stores = [];
        input =
            input_of k t.input;
        printed = [];
      }

  begins : (k : ItemKind) → w.kind ≡ k → begun w (t.condition i) t ≡ begin k
  begins k e =
      ap₂ (λ c k. record { scalars = c; stores = []; input = input_of k t.input; printed = [] })
      (captured_same (t.condition i) t.scalars) e

  are : AreSized w.maps
  are = sized w.maps lawful.not_empty

  -- an item that leaves the host as it is
  alone : (k : ItemKind) → w.kind ≡ k → ((r : Run) (x : State) → host_done k r x ≡ x) → (run : Run) (s : Whole) →
      s.scalars ≡ t.scalars → s.input ≡ t.input → s.output ≡ t.output → (x : State) → x.scalars ≡ t.scalars →
      x.input ≡ t.input → x.output ≡ t.output → SameHost (host_done w.kind run x) s
  alone k e same run s a b c x p q r =
      subst (λ y. SameHost y s) (sym (ap (λ k. host_done k run x) e ∙ same run x))
      (record { scalars = p ∙ sym a; input = q ∙ sym b; output = r ∙ sym c })

  -- an item without a region: its map items are done when it is opened
  plain : (k : ItemKind) → w.kind ≡ k → ((r : Run) (x : State) → host_done k r x ≡ x) → (m : Memories) (s : Whole) →
      closing w (opened (two.captured_by (whole_condition (t.condition i)) t.scalars) (worked_on plan.lengths w.kind m))
      (opened_whole m) ≡ Some (opened_whole m) →
      closing w (opened (two.captured_by (whole_condition (t.condition i)) t.scalars) (worked_on plan.lengths w.kind m))
      (opened_whole m) ≡ Some s →
      (left : Left) → item_left order w (t.memories.devices w.device).blocks
      (begun w (t.condition i) t) ≡ Some left → Reaches plan.lengths fill left (memories_at w.device t.memories)
      (Finished (begun w (t.condition i) t)) m → AreStored m → ItemDone s
  plain k e same m s does closes left is reaches stored =
      let q : opened_whole m ≡ s = same_Some (opened_whole m) s (sym does ∙ closes) in
      subst ItemDone q
      (record {
        left = left;
        is_left = is;
        run = begun w (t.condition i) t;
        end = m;
        reaches = reaches;
        memories = refl;
        stored = stored;
        host = alone k e same (begun w (t.condition i) t) (opened_whole m) refl refl refl;
      })

  entered : (k : ItemKind) → w.kind ≡ k → ((r : Run) (x : State) → host_done k r x ≡ x) → (m : Memories) (s : Whole) →
      closing w (opened (two.captured_by (whole_condition (t.condition i)) t.scalars) (worked_on plan.lengths w.kind m))
      (opened_whole m) ≡ Some (opened_whole m) →
      closing w (opened (two.captured_by (whole_condition (t.condition i)) t.scalars) (worked_on plan.lengths w.kind m))
      (opened_whole m) ≡ Some s → item_left order w (t.memories.devices w.device).blocks (begun w (t.condition i) t) ≡ Some
      (each_left entry_left w.maps (λ u. Finished (begun w (t.condition i) t))) → in_turn
      (enter fill) w.maps (memories_at w.device t.memories) ≡ Some m → ItemDone s
  entered k e same m s does closes is opens =
      plain k e same m s does closes (each_left entry_left w.maps (λ u. Finished (begun w (t.condition i) t))) is
      (entries_reach plan.lengths fill w.maps (memories_at w.device t.memories) m (λ u. Finished (begun w (t.condition i) t)) are h opens)
      (each_stored (enter fill) (λ item m m' size h e. enter_stored fill item m m' size h e) w.maps (memories_at w.device t.memories) m are h
      opens)

  exited : (k : ItemKind) → w.kind ≡ k → ((r : Run) (x : State) → host_done k r x ≡ x) → (m : Memories) (s : Whole) →
      closing w (opened (two.captured_by (whole_condition (t.condition i)) t.scalars) (worked_on plan.lengths w.kind m))
      (opened_whole m) ≡ Some (opened_whole m) →
      closing w (opened (two.captured_by (whole_condition (t.condition i)) t.scalars) (worked_on plan.lengths w.kind m))
      (opened_whole m) ≡ Some s → item_left order w (t.memories.devices w.device).blocks (begun w (t.condition i) t) ≡ Some
      (each_left exit_left w.maps (λ u. Finished (begun w (t.condition i) t))) → in_turn leave w.maps (memories_at w.device t.memories) ≡ Some
      m → ItemDone s
  exited k e same m s does closes is opens =
      plain k e same m s does closes (each_left exit_left w.maps (λ u. Finished (begun w (t.condition i) t))) is
      (exits_reach plan.lengths fill w.maps (memories_at w.device t.memories) m (λ u. Finished (begun w (t.condition i) t)) are h opens)
      (each_stored leave (λ item m m' size h e. leave_stored item m m' size h e) w.maps (memories_at w.device t.memories) m are h opens)

  updated : w.kind ≡ kind.Update → (m : Memories) (s : Whole) →
      closing w (opened (two.captured_by (whole_condition (t.condition i)) t.scalars) (worked_on plan.lengths w.kind m))
      (opened_whole m) ≡ Some s → in_turn update w.maps (memories_at w.device t.memories) ≡ Some m → ItemDone s
  updated e m s closes opens =
      let u = updates_reach plan.lengths fill w.maps (memories_at w.device t.memories) m (λ u. Finished (begun w (t.condition i) t)) h opens in
      plain kind.Update e (λ r x. refl) m s (closing_update w captured (worked_on plan.lengths w.kind m)
      (opened_whole m) e) closes (each_left update_left u.present (λ u. Finished (begun w (t.condition i) t)))
      (left_update order w (t.memories.devices w.device).blocks (begun w (t.condition i) t) e ∙ ap
      (option_map (λ present. each_left update_left present (λ u. Finished (begun w (t.condition i) t)))) u.is)
      u.reaches u.stored

  -- a host region
  hosted : w.kind ≡ kind.Host → two.is_waiting w.deferred (whole_condition (t.condition i)) ≡ true →
      (o : Option Region) → w.region ≡ o → (m : Memories) → memories_at w.device t.memories ≡ m → (s : Whole) →
      closing w (opened (two.captured_by (whole_condition (t.condition i)) t.scalars) (worked_on plan.lengths w.kind m))
      (opened_whole m) ≡ Some s → ItemDone s
  hosted e waits None has m same s closes =
      let q : opened_whole m ≡ s = same_Some (opened_whole m) s
      (sym (closing_host_none w captured (worked_on plan.lengths w.kind m) (opened_whole m) e has) ∙ closes) in
      subst ItemDone q
      (record {
        left = Finished (begun w (t.condition i) t);
        is_left =
            left_host order w (t.memories.devices w.device).blocks (begun w (t.condition i) t) e ∙ ap
            (λ o. Some (region_left o OnHost w.loops (begun w (t.condition i) t) Finished)) has;
        run = begun w (t.condition i) t;
        end = (memories_at w.device t.memories);
        reaches = there (Finished (begun w (t.condition i) t)) (memories_at w.device t.memories);
        memories = ap (λ n. with_memories_at w.device n t.memories) (sym same);
        stored = h;
        host = λ x p q r. subst (λ k. SameHost (host_done k (begun w (t.condition i) t) x) (opened_whole m)) (sym e)
            (record {
              scalars = not_captured (t.condition i) waits;
              input = ap (λ k. input_of k t.input) e;
              output =
                  append-nil x.output ∙ r;
            });
      })
    where
      here : w.deferred ≡ false
      here = lawful.host_here (ap is_host e)

      not_captured : (c : Condition) → two.is_waiting w.deferred (whole_condition c) ≡ true →
          captured_by c t.scalars ≡ t.scalars
      not_captured Untouched e = refl
      not_captured (Generated a) e =
          absurd (false≢true (sym (ap (λ d. two.is_waiting d (whole_condition (Generated a))) here) ∙ e))
      not_captured (Opened left) e = refl
      not_captured Closed e = refl
      not_captured Passed e = refl
  hosted e waits (Some r) has m same s closes =
      let d = map_parts (two.host_done (opened_whole m))
      (run_region r w.loops (worked_on plan.lengths w.kind m) captured t.input) s
      (sym (closing_host w captured (worked_on plan.lengths w.kind m) (opened_whole m) r e has) ∙ closes) in
      subst ItemDone d.2
      (record {
        left = region_left (Some r) OnHost w.loops (begin kind.Host) Finished;
        is_left =
            left_host order w (t.memories.devices w.device).blocks (begun w (t.condition i) t) e
            ∙ ap₂ (λ o b. Some (region_left o OnHost w.loops b Finished)) has (begins kind.Host e);
        run = bare d.0;
        end = stored_on_host (memories_at w.device t.memories) d.0.stores;
        reaches =
            host_reaches plan.lengths fill (memories_at w.device t.memories) r w.loops captured t.input d.0 Finished
            (ap (λ v. run_region r w.loops v captured t.input)
            (ap (λ n. view_of plan.lengths n.host) same ∙ sym (worked_host plan.lengths w.kind m e)) ∙ d.1);
        memories = ap (λ n. with_memories_at w.device (stored_on_host n d.0.stores) t.memories) (sym same);
        stored = record { apart = h.apart; storage = h.storage };
        host =
            λ x p q o. subst (λ k. SameHost (host_done k (bare d.0) x) (two.host_done (opened_whole m) d.0)) (sym e)
            (record { scalars = refl; input = refl; output = ap (λ xs. xs ++ d.0.printed) o });
      })

  -- a kernel
  targeted : w.kind ≡ kind.Target → (o : Option Region) → w.region ≡ o → (m : Memories) →
      in_turn (enter fill) w.maps (memories_at w.device t.memories) ≡ Some m → (s : Whole) →
      closing w (opened (two.captured_by (whole_condition (t.condition i)) t.scalars) (worked_on plan.lengths w.kind m))
      (opened_whole m) ≡ Some s → ItemDone s
  targeted e None has m opens s closes = absurd (lawful.has_region (ap is_target e) has)
  targeted e (Some r) has m opens s closes =
      let d = then_parts (kernel_done w (opened_whole m))
      (run_region r w.loops (worked_on plan.lengths w.kind m) captured []) s
      (sym (closing_target w captured (worked_on plan.lengths w.kind m) (opened_whole m) r e has) ∙ closes) in
      let y =
      map_parts (λ (n : Memories). two.with_memories w.device n (opened_whole m))
      (kernel_memories w d.0.stores (memories_at w.device (opened_whole m).memories)) s d.2 in
      let stores : kernel_memories w d.0.stores m ≡ Some y.0 =
      ap (kernel_memories w d.0.stores) (sym (memories_back w.device m t.memories)) ∙ y.1 in
      let x =
      then_parts (λ (v : Device). in_turn leave w.maps (record m { device = v })) (store_device d.0.stores m.device) y.0
      stores in
      let ran : Memories = stored_on_device m d.0.stores in
      let same : record m { device = x.0 } ≡ ran = ap (λ (v : Device). record m { device = v })
      (device_stores d.0.stores m.device x.0 x.1) in
      let left_all : in_turn leave w.maps ran ≡ Some y.0 = ap (in_turn leave w.maps) (sym same) ∙ x.2 in
      let stored : AreStored m = each_stored (enter fill)
      (λ item m m' size h e. enter_stored fill item m m' size h e) w.maps (memories_at w.device t.memories) m are h opens in
      let after : AreStored ran = kernel_stored d.0.stores m stored in
      let small : BoundedMemories m = entered_bounded fill w.maps (memories_at w.device t.memories) m safe.filled are
      (record { host = safe.bounded.host; device = safe.bounded.devices w.device }) opens in
      let done : KernelDone plan.lengths fill order r w.loops captured (λ t. each_left exit_left w.maps
      (λ u. Finished t)) m ran = kernel_reaches plan.lengths fill m order w r captured d.0
      (λ t. each_left exit_left w.maps (λ u. Finished t)) has (small_list w.loops lawful.loops)
      captured_small small.device (safe.apart (ap is_target e)) (all_there w r m.device.cells has
      (λ c i. entries_there fill w.maps (memories_at w.device t.memories) m c are h opens
      (inl (safe.mapped (ap is_target e) c i))))
      (ap (λ v. run_region r w.loops v captured []) (sym (worked_target plan.lengths w.kind m e)) ∙ d.1) in
      let later : Rest = (λ u. kernel_left order (Some r) w.loops (begin kind.Target)
      (λ t. each_left exit_left w.maps (λ u. Finished t))) in
      subst ItemDone y.2
      (record {
        left = each_left entry_left w.maps later;
        is_left =
            left_target order w (t.memories.devices w.device).blocks (begun w (t.condition i) t) e
            ∙ ap₂ (λ o b. Some (each_left entry_left w.maps
            (λ u. kernel_left order o w.loops b (λ t. each_left exit_left w.maps (λ u. Finished t))))) has
            (begins kind.Target e);
        run = done.run;
        end = y.0;
        reaches =
            on_from plan.lengths fill (each_left entry_left w.maps later) (memories_at w.device t.memories) (later tt) m
            (Finished done.run) y.0
            (entries_reach plan.lengths fill w.maps (memories_at w.device t.memories) m later are h opens)
            (on_from plan.lengths fill (later tt) m (each_left exit_left w.maps (λ u. Finished done.run)) ran
            (Finished done.run) y.0 done.reaches
            (exits_reach plan.lengths fill w.maps ran y.0 (λ u. Finished done.run) are after left_all));
        memories = put_again w.device m y.0 t.memories;
        stored =
            each_stored leave (λ item m m' size h e. leave_stored item m m' size h e) w.maps ran y.0 are after left_all;
        host = alone kind.Target e (λ r x. refl) done.run (two.with_memories w.device y.0 (opened_whole m)) refl refl refl;
      })

  -- an item that is opened and closed whole
  pub item_done : two.is_wait w.kind ≡ false → two.is_waiting w.deferred (whole_condition (t.condition i)) ≡ true →
      (m : Memories) → opening fill w (memories_at w.device t.memories) ≡ Some m → (s : Whole) →
      closing w (opened (two.captured_by (whole_condition (t.condition i)) t.scalars) (worked_on plan.lengths w.kind m))
      (opened_whole m) ≡ Some s → ItemDone s
  item_done other waits m opens s closes = go w.kind refl
    where
      go : (k : ItemKind) → w.kind ≡ k → ItemDone s
      go kind.Host e =
          hosted e waits w.region refl m (same_Some (memories_at w.device t.memories) m (sym (opening_host fill w (memories_at w.device t.memories) e) ∙ opens)) s
          closes
      go kind.Target e = targeted e w.region refl m (sym (opening_target fill w (memories_at w.device t.memories) e) ∙ opens) s closes
      go kind.Begin e =
          entered kind.Begin e (λ r x. refl) m s (closing_begin w captured (worked_on plan.lengths w.kind m)
          (opened_whole m) e) closes (left_begin order w (t.memories.devices w.device).blocks (begun w (t.condition i) t) e)
          (sym (opening_begin fill w (memories_at w.device t.memories) e) ∙ opens)
      go kind.Enter e =
          entered kind.Enter e (λ r x. refl) m s (closing_enter w captured (worked_on plan.lengths w.kind m)
          (opened_whole m) e) closes (left_enter order w (t.memories.devices w.device).blocks (begun w (t.condition i) t) e)
          (sym (opening_enter fill w (memories_at w.device t.memories) e) ∙ opens)
      go kind.End e =
          exited kind.End e (λ r x. refl) m s (closing_end w captured (worked_on plan.lengths w.kind m)
          (opened_whole m) e) closes (left_end order w (t.memories.devices w.device).blocks (begun w (t.condition i) t) e)
          (sym (opening_end fill w (memories_at w.device t.memories) e) ∙ opens)
      go kind.Exit e =
          exited kind.Exit e (λ r x. refl) m s (closing_exit w captured (worked_on plan.lengths w.kind m)
          (opened_whole m) e) closes (left_exit order w (t.memories.devices w.device).blocks (begun w (t.condition i) t) e)
          (sym (opening_exit fill w (memories_at w.device t.memories) e) ∙ opens)
      go kind.Update e = updated e m s closes (sym (opening_update fill w (memories_at w.device t.memories) e) ∙ opens)
      go kind.Wait e = absurd (false≢true (sym other ∙ ap two.is_wait e))
