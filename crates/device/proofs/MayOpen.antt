-- What is known where an item may be opened or closed.
use Rattle.std.proofs.Common.{◌≡◌, ◌+◌, ◌<◌, ◌≤◌, ℕ, zero, suc, Bool, true, false, List, [], ◌∷◌, map, length, Option, Some, None, refl, sym, ap, ◌∙◌, subst, arith}
use Rattle.std.specs.Prelude.{not, ◌&&◌, ◌||◌, ◌==◌, nat_lt, option_map, slice_get, slice_index, filter}
use Rattle.std.proofs.lemmas.Bool.{and_parts}
use Rattle.std.proofs.lemmas.Bool.Decides.{nat_tests}
use Rattle.std.proofs.lemmas.Option.{same_Some, slice_get-map, slice_get_within}
use Rattle.base.proofs.ShortArrays.{are_short}
use Rattle.base.specs.declared.item.Event.TheVariants as event
use Rattle.base.specs.declared.item.Item.{Item}
use Rattle.base.specs.declared.item.ItemKind.{ItemKind}
use Rattle.base.specs.declared.item.MapItem.{MapItem}
use Rattle.host_memory.specs.declared.memory.Memory.{Memory as Arrays}
use Rattle.base.specs.declared.tree.Program.{Program}
use Rattle.host_memory.specs.Arrays.{lengths_of, row_of}
use Rattle.base.specs.Memory.{end_of}
use Rattle.base.specs.Items.{Work, plan}
use Rattle.base.specs.Map.{Block, in_use, memories_at, need}
use Rattle.base.specs.Machine.{enabled, is_ready, is_wait, is_waiting, opening}
use Rattle.base.specs.Accepted.{map_fault, depend_fault, section_fails}
use Rattle.base.proofs.Nils.{nil_filter, nil_map, nil_parts}
use Rattle.frames.specs.Laws.{IsFine}
use Rattle.frames.proofs.AcceptedWorks.{accepted_items_are_fine}
use Rattle.outline.specs.Regions.{Entry}
use Rattle.outline.specs.Shown.{all_shown, as_shown, shown, work_with}
use Rattle.present.specs.Table.{AreSections, AreWithin, HasNoRoom, HasRoom, fill_of}
use Rattle.present.specs.Table.{Shows as TableShows}
use Rattle.taskgraph.specs.Board.{allows}
use Rattle.two_memories.specs.Two.{IsBounded}
use Rattle.two_memories.proofs.PlanItems.{on_true}
use Rattle.device.specs.declared.standing.Standing.{Standing}
use Rattle.device.specs.Devices.{OnTable, fresh_of, table_at}
use Rattle.device.specs.Moves.{AreCounted, IsMapsFault, enters, opens_with}
use Rattle.present.specs.declared.Table.{Table}
use Rattle.base.specs.declared.fault.RunFault.{RunFault}
use Rattle.base.specs.declared.fault.RunFault.TheVariants as fault
use Rattle.device.specs.Opening.{IsOf}
use Rattle.device.specs.Run.{IsOpenFault, Run, fill_in, is_over, own_blocks, state_of}
use Rattle.device.specs.Running.{IsRunning, Shows, run_of}
use Rattle.device.specs.declared.state.RunState.TheInside.{Inside}
use Rattle.device.specs.Opening.{GoesIn, IsSame}
use Rattle.device.proofs.Starts.{as_many}
use Rattle.std.proofs.Common.{get_or}
use Rattle.std.proofs.lemmas.Option.{slice_get-get_or}
use Rattle.device.proofs.Counts.{table_counts}
use Rattle.host_memory.proofs.HostRows.{row_length}
use Rattle.device.proofs.Tables.{are_kept, each_table, still_alike}
use Rattle.device.proofs.Openings.{is_opened, on_work, opens_by, shown_memories}
use Rattle.device.proofs.Reaching.{Next, asked, before, next}
use Rattle.device.proofs.Validity.{valid}

-- An item and its work.

known_of : (it : Item) (w v : Work) → IsOf it v → Some v ≡ Some w → IsOf it w
known_of it w v h e = let same : v ≡ w = cc in subst (IsOf it) same h

plain_of : (it : Item) (r : _) → IsOf it (work_with it r)
plain_of it r = record { kind = refl; device = refl; maps = refl; deferred = refl; loops = refl }

pub shown_of : (entries : List Entry) (it : Item) (w : Work) → shown entries it ≡ Some w → IsOf it w
shown_of entries it w e = go it.region e
  where
    inner : (o : Option Entry) → option_map (λ (x : Entry). work_with it (Some x.region)) o ≡ Some w → IsOf it w
    inner None e = absurd cc
    inner (Some x) e = known_of it w (work_with it (Some x.region)) (plain_of it (Some x.region)) e

    go : (o : Option ℕ) → (elim o [
      | None ↦ Some (work_with it None)
      | Some k ↦ option_map (λ (x : Entry). work_with it (Some x.region)) (slice_get entries k)
    ]) ≡ Some w → IsOf it w
    go None e = known_of it w (work_with it None) (plain_of it None) e
    go (Some k) e = inner (slice_get entries k) e

pub shown_at : (entries : List Entry) (its : List Item) (ws : List Work) → all_shown entries its ≡ as_shown ws →
    (i : ℕ) (it : Item) (w : Work) → slice_get its i ≡ Some it → slice_get ws i ≡ Some w → IsOf it w
shown_at entries its ws e i it w at_it at_w =
    shown_of entries it w
    (same_Some (shown entries it) (Some w)
    (sym (slice_get-map (shown entries) its i ∙ ap (option_map (shown entries)) at_it)
    ∙ ap (λ xs. slice_get xs i) e ∙ slice_get-map (λ (x : Work). Some x) ws i ∙ ap (option_map (λ (x : Work). Some x)) at_w))

-- Sections in range.

map_fits : (lengths : List ℕ) (maps : List MapItem) → filter (λ m. section_fails lengths m.section) maps ≡ [] →
    (k : ℕ) (m : MapItem) → slice_get maps k ≡ Some m → section_fails lengths m.section ≡ false
map_fits lengths [] h k m e = absurd (cc e)
map_fits lengths (x ∷ xs) h zero m e =
    let p = nil_filter (λ (m : MapItem). section_fails lengths m.section) x xs h in
    subst (λ (y : MapItem). section_fails lengths y.section ≡ false) (same_Some x m e) p.0
map_fits lengths (x ∷ xs) h (suc k) m e =
    let p = nil_filter (λ (m : MapItem). section_fails lengths m.section) x xs h in map_fits lengths xs p.1 k m e

fits : (n a e : ℕ) → ((n == 0) || nat_lt a e) ≡ false → (1 ≤ n) × (e ≤ a)
fits n a e h = (grind (arith, nat_tests), grind (arith, nat_tests))

module _ (p : Program) (now : Arrays) (w : Work) (fine : IsFine (plan p).lengths w)
    (lengths : lengths_of now ≡ (plan p).lengths) (short : (a : ℕ) → slice_index (plan p).lengths a ≤ 65536) where
  section_at : (k : ℕ) (m : MapItem) → slice_get w.maps k ≡ Some m → (1 ≤ m.section.length) × (end_of m.section ≤ slice_index (plan p).lengths m.section.array.0)
  section_at k m e =
      fits m.section.length (slice_index (plan p).lengths m.section.array.0) (end_of m.section)
      (map_fits (plan p).lengths w.maps
      (nil_map map_fault (filter (λ m. section_fails (plan p).lengths m.section) w.maps)
      (nil_parts (map map_fault (filter (λ m. section_fails (plan p).lengths m.section) w.maps))
      (map depend_fault (filter (λ d. section_fails (plan p).lengths d.section) w.depends)) fine.sections).0) k m e)

  pub sections : AreSections w.maps
  sections k m e =
      let s = section_at k m e in
      let l = short m.section.array.0 in
      record { has_cells = s.0; end = (let u = s.1 in omega arith) }

  pub within : AreWithin now w.maps
  within k m e =
      let s = section_at k m e in
      let n : length (row_of now m.section.array.0) ≡ slice_index (plan p).lengths m.section.array.0 =
      sym (row_length now m.section.array.0) ∙ ap (λ ls. slice_index ls m.section.array.0) lengths in
      record { has_cells = s.0; end = (let u = s.1 in omega arith) }

-- what is known of an item of a run
pub record IsItem (r : Run) (now : Standing) (i : ℕ) (it : Item) : Type 0 where
  pub work : Work
  pub is : slice_get (plan r.program).items i ≡ Some work
  pub of : IsOf it work
  pub fine : IsFine (plan r.program).lengths work
  pub inside : i < length now.held.items
  pub sections : AreSections it.maps.items
  pub within : AreWithin now.host it.maps.items
  pub counted : OnTable now.devices it.device.number (λ t. AreCounted t now.entered)
  pub bounded : IsBounded (state_of r)

pub is_item : (r : Run) (now : Standing) → IsRunning r now → (entries : List Entry) (its : List Item) →
    all_shown entries its ≡ as_shown (plan r.program).items → (i : ℕ) (it : Item) (w : Work) → slice_get its i ≡ Some it →
    slice_get (plan r.program).items i ≡ Some w → IsItem r now i it
is_item r now h entries its e i it w at_it at_w = record {
  work = w;
  is = at_w;
  of = of;
  fine = fine;
  inside = (let a = h.at.slots in let b = slice_get_within (plan r.program).items i w at_w in omega arith);
  sections = subst AreSections of.maps (sections r.program now.host w fine h.at.lengths (are_short r.program));
  within = subst (AreWithin now.host) of.maps (within r.program now.host w fine h.at.lengths (are_short r.program));
  counted = λ t has.
      table_counts t ((state_of r).memories.devices it.device.number) now.entered (h.at.devices it.device.number t has)
      (h.at.counts it.device.number);
  bounded =
      (valid r.program h.reached.accepted (fill_in r) (λ i c. h.reached.fresh) r.input h.reached.numbers r.history (state_of r)
      h.reached.ran).bounded;
}
  where
    of : IsOf it w
    of = shown_at entries its (plan r.program).items e i it w at_it at_w

    fine : IsFine (plan r.program).lengths w
    fine = accepted_items_are_fine r.program h.reached.accepted i w at_w

-- an item that may be opened waits
pub record MayOpen (r : Run) (now : Standing) (i : ℕ) : Type 0 where
  pub going : now.ended ≡ false
  pub allowed : allows now.graph (event.Open i) ≡ true
  pub work : Work
  pub is : slice_get (plan r.program).items i ≡ Some work
  pub waits : is_waiting work.deferred ((state_of r).condition i) ≡ true
  pub next : Next r (event.Open i)

pub may_open : (r : Run) (now : Standing) (i : ℕ) → IsRunning r now → enabled (plan r.program) (state_of r) (event.Open i) ≡ true →
    MayOpen r now i
may_open r now i h may =
    let b = before r now (event.Open i) h may in
    let s = state_of r in
    let f = on_true (plan r.program) i (λ w. not (is_wait w.kind) && ((w.deferred || (s.place == i)) &&
    (is_waiting w.deferred (s.condition i) && is_ready (plan r.program) s i))) may in
    let x = and_parts (not (is_wait f.0.kind)) _ f.2 in
    let y = and_parts (f.0.deferred || (s.place == i)) _ x.1 in
    let z = and_parts (is_waiting f.0.deferred (s.condition i)) (is_ready (plan r.program) s i) y.1 in
    record { going = b.going; allowed = b.allowed; work = f.0; is = f.1; waits = z.0; next = next r (event.Open i) h.reached may }

pub may_go : (r : Run) (now : Standing) (i : ℕ) (it : Item) → IsRunning r now → (k : IsItem r now i it) →
    r.fresh ≡ fresh_of now.devices → (n : Next r (event.Open i)) → GoesIn now it
may_go r now i it h k filled n t has =
    let o = is_opened (plan r.program) (fill_in r) i k.work (state_of r) n.state k.is n.step in
    let own = memories_at k.work.device (state_of r).memories in
    record {
      device = own.device;
      shown =
          subst (λ d. TableShows t ((state_of r).memories.devices d)) (sym k.of.device) (h.at.devices it.device.number t has);
      after = o.memories;
      is =
          ap (opens_with (fill_of t) it.kind it.maps.items)
          (sym (shown_memories (plan r.program) now (state_of r) h.at k.work.device))
          ∙ sym (opens_by (fill_of t) it k.work k.of own)
          ∙ ap (λ f. opening (λ c. f) k.work own) (h.at.alike.fresh it.device.number t has ∙ sym filled) ∙ o.is;
    }

-- Room on the item's device.

over_by : (r : Run) (i : ℕ) (w : Work) → slice_get (plan r.program).items i ≡ Some w →
    is_over r i ≡ (enters w.kind && nat_lt r.capacity (in_use (own_blocks r w) + need w.maps (own_blocks r w)))
over_by r i w e =
    on_work (plan r.program) i w false
    (λ w. enters w.kind && nat_lt r.capacity (in_use (own_blocks r w) + need w.maps (own_blocks r w))) e

lt_true : (a b : ℕ) → a < b → nat_lt a b ≡ true
lt_true a b h = grind (arith, nat_tests)

lt_false : (a b : ℕ) → b ≤ a → nat_lt a b ≡ false
lt_false a b h = grind (arith, nat_tests)

module _ (r : Run) (now : Standing) (i : ℕ) (it : Item) (h : IsRunning r now) (k : IsItem r now i it) where
  abbrev blocks : List Block
  blocks = ((state_of r).memories.devices it.device.number).blocks

  -- the cells that would be in use
  abbrev total : ℕ
  total = in_use blocks + need it.maps.items blocks

  over_here : is_over r i ≡ (enters it.kind && nat_lt r.capacity total)
  over_here =
      over_by r i k.work k.is
      ∙ (λ j. enters (k.of.kind j) && nat_lt r.capacity (in_use ((state_of r).memories.devices (k.of.device j)).blocks
      + need (k.of.maps j) ((state_of r).memories.devices (k.of.device j)).blocks))

  pub is_full : (t : Table) → table_at now.devices it.device.number ≡ Some t → enters it.kind ≡ true →
      HasNoRoom t it.maps.items → is_over r i ≡ true
  is_full t has e none =
      let shown = h.at.devices it.device.number t has in
      let full = none ((state_of r).memories.devices it.device.number) shown in
      let used = shown.in_use in
      let room = h.room it.device.number t has in
      over_here ∙ ap (λ b. b && nat_lt r.capacity total) e ∙ lt_true r.capacity total (omega arith)

  pub has_room : (t : Table) → table_at now.devices it.device.number ≡ Some t →
      (enters it.kind ≡ true → HasRoom t it.maps.items) → is_over r i ≡ false
  has_room t has room = over_here ∙ go (enters it.kind) refl
    where
      go : (b : Bool) → enters it.kind ≡ b → (b && nat_lt r.capacity total) ≡ false
      go false e = refl
      go true e =
          let shown = h.at.devices it.device.number t has in
          let fits = room e ((state_of r).memories.devices it.device.number) shown in
          let used = shown.in_use in
          let all = h.room it.device.number t has in
          lt_false r.capacity total (omega arith)

-- an item that may be opened is one of the items
pub inside_open : (s : Inside) (v : Run) (i : ℕ) (entries : List Entry) (its : List Item) → run_of s ≡ v → Shows s →
    enabled (plan v.program) (state_of v) (event.Open i) ≡ true → all_shown entries its ≡ as_shown (plan (run_of s).program).items →
    i < length its
inside_open s v i entries its is h may e =
    let o = may_open (run_of s) s.standing i h (asked s v (event.Open i) is may) in
    let many = as_many entries its (plan (run_of s).program).items e in
    let inside = slice_get_within (plan (run_of s).program).items i o.work o.is in
    omega arith

-- all that is known where an item is opened
pub record Facts (s : Inside) (i : ℕ) (it : Item) : Type 0 where
  pub open' : MayOpen (run_of s) s.standing i
  pub item : IsItem (run_of s) s.standing i it
  pub goes : GoesIn s.standing it

pub facts : (s : Inside) (v : Run) (i : ℕ) (entries : List Entry) (its : List Item) (it : Item) → run_of s ≡ v → Shows s →
    enabled (plan v.program) (state_of v) (event.Open i) ≡ true → all_shown entries its ≡ as_shown (plan (run_of s).program).items →
    it ≡ get_or its i it → Facts s i it
facts s v i entries its it is h may e at =
    record { open' = o; item = k; goes = may_go (run_of s) s.standing i it h k refl o.next }
  where
    o : MayOpen (run_of s) s.standing i
    o = may_open (run_of s) s.standing i h (asked s v (event.Open i) is may)

    k : IsItem (run_of s) s.standing i it
    k =
        is_item (run_of s) s.standing h entries its e i it o.work
        (slice_get-get_or its i it (inside_open s v i entries its is h may e) ∙ ap (λ (x : Item). Some x) (sym at)) o.is

-- the item that is known is the one that waits
pub same_work : (s : Inside) (i : ℕ) (it : Item) → (f : Facts s i it) → is_waiting f.item.work.deferred ((state_of (run_of s)).condition i) ≡ true
same_work s i it f =
    subst (λ (w : Work). is_waiting w.deferred ((state_of (run_of s)).condition i) ≡ true)
    (same_Some f.open'.work f.item.work (sym f.open'.is ∙ f.item.is)) f.open'.waits

-- a run one of whose tables looks the same
pub unchanged : (r : Run) (d : ℕ) (old new : Standing) → IsRunning r old → IsSame d old new → IsRunning r new
unchanged r d old new h same =
    subst (λ (z : Standing). IsRunning r z) (sym same.rest) (record {
      reached = h.reached;
      at = record {
        host = h.at.host;
        lengths = h.at.lengths;
        devices =
            each_table d old.devices new.devices same.looks.after same.looks.becomes
            (λ e t. TableShows t ((state_of r).memories.devices e)) own (λ e k. h.at.devices e);
        alike = still_alike d old.devices new.devices same.looks.after same.looks.becomes h.at.alike;
        counts = h.at.counts;
        graph = h.at.graph;
        place = h.at.place;
        ended = h.at.ended;
        scalars = h.at.scalars;
        input = h.at.input;
        output = h.at.output;
        slots = h.at.slots;
        held = h.at.held;
      };
      room = (are_kept d old.devices new.devices same.looks.after same.looks.becomes).room r.capacity h.room;
      stayed = h.stayed;
    })
  where
    was : TableShows same.looks.becomes.before ((state_of r).memories.devices d)
    was = h.at.devices d same.looks.becomes.before same.looks.becomes.was

    own : TableShows same.looks.after ((state_of r).memories.devices d)
    own = record {
      apart = was.apart;
      blocks = λ c. was.blocks c ∙ sym (ap (λ f. f c) same.looks.unchanged.blocks);
      numbers = λ c. was.numbers c ∙ sym (ap (λ f. f c) same.looks.unchanged.numbers);
      in_use = was.in_use ∙ sym same.looks.unchanged.in_use;
    }

-- runs that differ in their frames alone
pub same_but : (a b : Run) → a.program ≡ b.program → a.input ≡ b.input → a.capacity ≡ b.capacity → a.fresh ≡ b.fresh →
    a.history ≡ b.history → a.issued ≡ b.issued → a ≡ b
same_but a b p i c f h s =
    λ j. record { program = p j; input = i j; capacity = c j; fresh = f j; history = h j; issued = s j }

-- why an item is not opened
pub open_fault : (r : Run) (i : ℕ) (t : Table) (k : ItemKind) (maps : List MapItem) (f : RunFault) →
    (enters k ≡ true → HasNoRoom t maps → is_over r i ≡ true) → IsMapsFault t k maps f → IsOpenFault r i f
open_fault r i t k maps fault.OutOfMemory h g = tt
open_fault r i t k maps fault.DeviceFull h g = h g.0 g.1
open_fault r i t k maps fault.Absent h g = g
open_fault r i t k maps fault.Stranger h g = g
open_fault r i t k maps fault.ThreadNotStarted h g = g
open_fault r i t k maps fault.OtherState h g = g
open_fault r i t k maps fault.RangeRefused h g = g
