-- What the definitions say of small programs.
use Rattle.std.proofs.Common.{◌≡◌, ℕ, ◌<◌, ◌^◌, ◌++◌, take, List, [], ◌∷◌, refl, arith, Option, Some, None, lit<, lit≤, Box, Bool, false, true, zero, suc, map, length}
use Rattle.std.specs.Prelude.{Vec, option_map, filter, flat_map, not, ◌==◌, ◌&&◌, ◌||◌, nat_lt, slice_index}
use Rattle.std.specs.Cmp.Lexicographic.{pointwise}
use Rattle.std.specs.List.{list_any, list_all, range_with_len}
use Rattle.base.specs.declared.item.Cell.{Cell}
use Rattle.base.specs.declared.fault.RefusalCode.{RefusalCode}
use Rattle.base.specs.declared.fault.RefusalCode.TheVariants.{OverlapsInPart, ExitOfAbsent, UpdateOfAbsent, NotPresent, Unmapped, HostNotCurrent, DeviceNotCurrent, TurnsMeet}
use Rattle.base.specs.Actions.{conflict}
use Rattle.base.specs.Current.{Current, at_start, after_stages}
use Rattle.base.specs.declared.item.Section.{Section}
use Rattle.base.specs.declared.item.Depend.{Depend}
use Rattle.base.specs.declared.tree.DependKind.{DependKind}
use Rattle.base.specs.declared.tree.DependKind.TheVariants.{In, Out}
use Rattle.base.specs.declared.fault.RangeCode.TheVariants.{SubscriptOutside}
use Rattle.base.specs.Footprint.{stmt_touches, stmt_turns, reads, writes, exposes, surely_writes}
use Rattle.base.specs.Items.{host_work}
use Rattle.base.specs.Accepted.{range_faults, clash as clash_on, cause, current_before, on_stage}
use Rattle.std.specs.declared.alloc.Global.{Global}
use Rattle.base.specs.declared.tree.ArrayId.{ArrayId}
use Rattle.base.specs.declared.tree.ScalarId.{ScalarId}
use Rattle.base.specs.declared.tree.Place.{Place}
use Rattle.base.specs.declared.tree.Expr.{Expr}
use Rattle.base.specs.declared.tree.Expr.TheVariants.{Number, Scalar, LoopName, Cell', Binary', Or'}
use Rattle.base.specs.declared.tree.Source.TheVariants.{Value, Read}
use Rattle.base.specs.declared.tree.Stmt.{Stmt}
use Rattle.base.specs.declared.tree.Stmt.TheVariants.{Store, Print, Declare}
use Rattle.base.specs.declared.tree.Bounds.{Bounds}
use Rattle.base.specs.declared.tree.BinaryOp.TheVariants.{Add, Multiply, Subtract, Greater, BitAnd}
use Rattle.base.specs.declared.tree.Part.{Part}
use Rattle.base.specs.declared.tree.Part.TheVariants as part
use Rattle.base.specs.declared.tree.Region.{Region}
use Rattle.base.specs.declared.tree.Directive.TheVariants as directive
use Rattle.base.specs.declared.tree.DeviceText.{DeviceText}
use Rattle.base.specs.declared.tree.DeviceText.TheVariants as on
use Rattle.base.specs.declared.tree.Tasking.{Tasking}
use Rattle.base.specs.declared.tree.Target.{Target}
use Rattle.base.specs.declared.tree.UpdateText.{UpdateText}
use Rattle.base.specs.declared.tree.RegionKind.{RegionKind}
use Rattle.base.specs.declared.tree.RegionKind.TheVariants as mapped
use Rattle.base.specs.declared.tree.EnterKind.TheVariants as entered
use Rattle.base.specs.declared.tree.ExitKind.TheVariants as left
use Rattle.base.specs.declared.tree.UpdateKind.TheVariants as updated
use Rattle.base.specs.Current as currency
use Rattle.base.specs.Memory.{zeros}
use Rattle.base.specs.Meaning.{Plain, erased_list}
use Rattle.base.specs.Items.{Plan, plan_of}
use Rattle.base.specs.Machine.{run_by_choices, Played, on_item, precedes}
use Rattle.base.specs.declared.tree.MapText.{MapText}
use Rattle.base.specs.declared.tree.SectionText.{SectionText}
use Rattle.base.specs.declared.tree.Bound.{Bound}
use Rattle.base.specs.declared.tree.Term.TheVariants.{Literal}
use Rattle.base.specs.declared.item.Event.TheVariants.{Gen, Open, Close, Wait, End}
use Rattle.base.proofs.Trees.{vec_of, loop, choice, part_data}

-- Every cell, and what is found at it, in the order in which faults are looked for.
abbrev cells_of : List ℕ → List Cell
cells_of lengths =
    flat_map
    (λ a. map (λ k. let c : Cell = record { array = record { 0 = a }; index = k } in c)
    (range_with_len 0 (slice_index lengths a)))
    (range_with_len 0 (length lengths))

abbrev codes_in_order : List RefusalCode
codes_in_order =
    OverlapsInPart ∷ ExitOfAbsent ∷ UpdateOfAbsent ∷ NotPresent ∷ Unmapped ∷ HostNotCurrent ∷ DeviceNotCurrent ∷ TurnsMeet ∷
    []

record Found : Type 0 where
  item : ℕ
  code : RefusalCode
  array : ℕ
  index : ℕ

-- the faults of items by themselves
abbrev causes : Plan → List Found
causes plan =
    flat_map (λ j. flat_map (λ code. map
    (λ c. let f : Found = record { item = j; code = code; array = c.array.0; index = c.index } in f)
    (filter (λ c. on_stage plan j false (λ s. cause code s (current_before plan j) c)) (cells_of plan.lengths)))
    codes_in_order)
    (range_with_len 0 (length plan.items))

-- before, by chains of at most n links
abbrev linked : Plan → ℕ → ℕ → Bool
linked plan i j = nat_lt i j && (on_item plan i false (λ w. not w.deferred) || precedes plan i j)

abbrev chained : Plan → ℕ → ℕ → ℕ → Bool
chained plan zero i j = linked plan i j
chained plan (suc n) i j = linked plan i j || list_any (λ k. linked plan i k && chained plan n k j)
    (range_with_len 0 (length plan.items))

record Clash : Type 0 where
  item : ℕ
  array : ℕ
  index : ℕ
  other : ℕ

-- conflicts with no order: of item j, with the items before it
abbrev clashes : Plan → ℕ → List Clash
clashes plan j =
    flat_map (λ c. map (λ i. let f : Clash = record { item = j; array = c.array.0; index = c.index; other = i } in f)
    (filter (λ i. not (chained plan 3 i j) && on_stage plan i false (λ s. on_stage plan j false (λ t. conflict s t c)))
    (range_with_len 0 j)))
    (cells_of plan.lengths)

abbrev found : ℕ → RefusalCode → ℕ → ℕ → Found
found j code a k = record { item = j; code = code; array = a; index = k }

abbrev clash : ℕ → ℕ → ℕ → ℕ → Clash
clash j a k i = record { item = j; array = a; index = k; other = i }

-- the arrays' cells that are current on the host at the end
abbrev current_at_end : Plan → List (ℕ × ℕ)
current_at_end plan = map (λ c. (c.array.0, c.index))
    (filter (currency.current_at_end plan).host (cells_of plan.lengths))

module _ (v : Vec (Unit {0}) Global) (p : Box (Unit {0}) Global) where
  abbrev here : Place
  here = record { line = 1; column = 1 }

  abbrev a : ArrayId
  a = record { 0 = 0 }

  abbrev i : Expr
  i = LoopName 0

  abbrev at_a : Expr → Expr
  at_a e = Cell' a here p e

  abbrev upto : (n : ℕ) → n < 2 ^ 64 → Bounds
  upto n h = record { first = 0; end = n; step = 1; step_not_zero = lit≤ tt; no_wrap = omega arith }

  abbrev region : (xs : List Stmt) → length xs < 2 ^ 63 → Region
  region xs h = record { place = here; body = vec_of v xs h; depth = 0 }

  -- A[i] = i for each of the four cells
  abbrev fill_a : Stmt
  fill_a = loop v (upto 4 (lit< tt)) (Store a here i (Value i) ∷ []) (lit< tt)

  abbrev double_a : Stmt
  double_a =
      loop v (upto 4 (lit< tt)) (Store a here i
      (Value (Binary' Add p (Binary' Multiply p (at_a i) p (Number 2)) p (Number 1))) ∷ [])
      (lit< tt)

  abbrev print_a : Stmt
  print_a = loop v (upto 4 (lit< tt)) (Print (at_a i) ∷ []) (lit< tt)

  abbrev bound : ℕ → Bound
  bound n = record { terms = record { items = Literal n ∷ []; capacity = 2 }; less = record { items = []; capacity = 2 } }

  abbrev section : ArrayId → ℕ → ℕ → SectionText
  section b first n = record { array = b; bounds = Some (bound first, bound n); place = here }

  abbrev whole : ArrayId → SectionText
  whole b = record { array = b; bounds = None; place = here }

  abbrev map_item : {K : Type 0} → K → SectionText → MapText K
  map_item kind s = record { kind = kind; always = false; present = false; section = s }

  abbrev first_device : DeviceText
  first_device = on.Fixed (record { number = 0; in_range = lit< tt })

  abbrev tasking : Bool → Tasking
  tasking nowait =
      record { nowait = nowait; device = first_device; depends = record { items = []; capacity = 2 } }

  abbrev target : Bool → List (MapText RegionKind) → Target
  target nowait maps = record { place = here; maps = record { items = maps; capacity = 2 }; tasking = tasking nowait }

  abbrev enter_whole : ArrayId → Part
  enter_whole b = part.Alone here (directive.Enter (record { items = map_item entered.To (whole b) ∷ []; capacity = 2 })
      (tasking false))

  abbrev update_from : SectionText → Part
  update_from s =
      let u : UpdateText = record { kind = updated.From; present = false; section = s } in
      part.Alone here (directive.Update (record { items = u ∷ []; capacity = 2 }) (tasking false))

  abbrev wait_all : Part
  wait_all = part.Alone here (directive.Wait (record { items = []; capacity = 2 }))

  abbrev doubled : List Part
  doubled =
      part.Host (region (fill_a ∷ []) (lit< tt)) ∷ part.Target
      (target false (map_item mapped.ToFrom (section a 0 4) ∷ []))
      (region (double_a ∷ []) (lit< tt)) ∷ part.Host (region (print_a ∷ []) (lit< tt)) ∷ []

  abbrev fresh : List ℕ → Plain
  fresh input = record { memory = zeros; scalars = λ x. 0; input = input; printed = [] }

  doubled_prints : option_map (λ s. s.printed) (erased_list doubled (4 ∷ []) (fresh [])) ≡ Some (1 ∷ 3 ∷ 5 ∷ 7 ∷ [])
  doubled_prints = refl

  doubled_items : length (plan_of (4 ∷ []) doubled).items ≡ 3
  doubled_items = refl

  abbrev doubled_run : Played
  doubled_run = run_by_choices (plan_of (4 ∷ []) doubled) (λ k c. 165) [] []

  doubled_history : doubled_run.history ≡ Open 0 ∷ Close 0 ∷ Open 1 ∷ Close 1 ∷ Open 2 ∷ Close 2 ∷ End ∷ []
  doubled_history = refl

  doubled_output : option_map (λ s. s.output) doubled_run.state ≡ Some (1 ∷ 3 ∷ 5 ∷ 7 ∷ [])
  doubled_output = refl

  doubled_sound : causes (plan_of (4 ∷ []) doubled) ≡ []
  doubled_sound = refl

  doubled_clashes : clashes (plan_of (4 ∷ []) doubled) 2 ≡ []
  doubled_clashes = refl

  doubled_current : current_at_end (plan_of (4 ∷ []) doubled) ≡ (0, 0) ∷ (0, 1) ∷ (0, 2) ∷ (0, 3) ∷ []
  doubled_current = refl

  -- `to` in place of `tofrom`
  abbrev copied_in_only : List Part
  copied_in_only =
      part.Host (region (fill_a ∷ []) (lit< tt)) ∷ part.Target (target false (map_item mapped.To (section a 0 4) ∷ []))
      (region (double_a ∷ []) (lit< tt)) ∷ part.Host (region (print_a ∷ []) (lit< tt)) ∷ []

  copied_in_only_refused :
      causes (plan_of (4 ∷ []) copied_in_only)
      ≡ found 2 HostNotCurrent 0 0 ∷ found 2 HostNotCurrent 0 1 ∷ found 2 HostNotCurrent 0 2 ∷ found 2 HostNotCurrent 0
      3 ∷ []
  copied_in_only_refused = refl

  -- data with alloc, a target with an implicit map, an update of two cells, and a print of cell k
  abbrev kept_on_device : ℕ → List Part
  kept_on_device k = part_data v (record { place = here; maps = record { items = map_item mapped.Alloc (section a 0 4) ∷ []; capacity = 2 }; device = first_device }) (
      part.Target (target false [])
      (region (loop v (upto 4 (lit< tt)) (Store a here i (Value (Binary' Add p i p (Number 5))) ∷ []) (lit< tt) ∷ [])
      (lit< tt))
      ∷ update_from (section a 0 2)
      ∷ part.Host (region (Print (at_a (Number k)) ∷ []) (lit< tt)) ∷ []) (lit< tt) ∷ []

  kept_on_device_items : length (plan_of (4 ∷ []) (kept_on_device 1)).items ≡ 5
  kept_on_device_items = refl

  kept_on_device_sound : causes (plan_of (4 ∷ []) (kept_on_device 1)) ≡ []
  kept_on_device_sound = refl

  kept_on_device_current : current_at_end (plan_of (4 ∷ []) (kept_on_device 1)) ≡ (0, 0) ∷ (0, 1) ∷ []
  kept_on_device_current = refl

  kept_on_device_output : option_map (λ s. s.output)
      (run_by_choices (plan_of (4 ∷ []) (kept_on_device 1)) (λ k c. 165) [] []).state ≡ Some (6 ∷ [])
  kept_on_device_output = refl

  kept_on_device_refused : causes (plan_of (4 ∷ []) (kept_on_device 2)) ≡ found 3 HostNotCurrent 0 2 ∷ []
  kept_on_device_refused = refl

  kept_on_device_whole :
      causes (plan_of (8 ∷ []) (kept_on_device 1))
      ≡ found 1 OverlapsInPart 0 0 ∷ found 1 OverlapsInPart 0 1 ∷ found 1 OverlapsInPart 0 2 ∷ found 1 OverlapsInPart 0
      3 ∷ []
  kept_on_device_whole = refl

  abbrev between : (m n : ℕ) → n < 2 ^ 64 → Bounds
  between m n h = record { first = m; end = n; step = 1; step_not_zero = lit≤ tt; no_wrap = omega arith }

  abbrev two_targets : List Part
  two_targets =
      enter_whole a
      ∷ part.Target (target true (map_item mapped.ToFrom (section a 0 4) ∷ []))
      (region (loop v (between 0 4 (lit< tt)) (Store a here i (Value (Binary' Add p i p (Number 1))) ∷ [])
      (lit< tt) ∷ []) (lit< tt))
      ∷ part.Target (target true (map_item mapped.ToFrom (section a 4 4) ∷ []))
      (region (loop v (between 4 8 (lit< tt)) (Store a here i (Value (Binary' Multiply p i p (Number 10))) ∷ [])
      (lit< tt) ∷ []) (lit< tt))
      ∷ []

  abbrev the_end : List Part
  the_end =
      wait_all
      ∷ update_from (whole a)
      ∷ part.Host (region (loop v (upto 8 (lit< tt)) (Print (at_a i) ∷ []) (lit< tt) ∷ []) (lit< tt)) ∷ []

  abbrev two_halves : Plan
  two_halves = plan_of (8 ∷ []) (two_targets ++ the_end)

  two_halves_sound : causes two_halves ≡ []
  two_halves_sound = refl

  two_halves_clashes : clashes two_halves 2 ++
      (clashes two_halves 3 ++ (clashes two_halves 4 ++ clashes two_halves 5)) ≡ []
  two_halves_clashes = refl

  abbrev two_halves_run : Played
  two_halves_run = run_by_choices two_halves (λ k c. 165) [] (0 ∷ 0 ∷ 0 ∷ 0 ∷ 1 ∷ 1 ∷ 1 ∷ [])

  two_halves_history :
      two_halves_run.history
      ≡ Open 0 ∷ Close 0 ∷ Gen 1 ∷ Open 1 ∷ Gen 2 ∷ Open 2 ∷ Close 2 ∷ Close 1 ∷ Wait 3 ∷ Open 4 ∷ Close 4 ∷ Open 5 ∷
      Close 5 ∷ End ∷ []
  two_halves_history = refl

  two_halves_output : option_map (λ s. s.output) two_halves_run.state ≡ Some (1 ∷ 2 ∷ 3 ∷ 4 ∷ 40 ∷ 50 ∷ 60 ∷ 70 ∷ [])
  two_halves_output = refl

  abbrev early_exit : Plan
  early_exit =
      plan_of (8 ∷ []) (two_targets
      ++ part.Alone here (directive.Exit (record { items = map_item left.From (whole a) ∷ []; capacity = 2 })
      (tasking false)) ∷ the_end)

  early_exit_refused : take 2 (clashes early_exit 3) ≡ clash 3 0 0 1 ∷ clash 3 0 0 2 ∷ []
  early_exit_refused = refl

  early_exit_before : clashes early_exit 1 ++ clashes early_exit 2 ≡ []
  early_exit_before = refl

  -- two targets that read A, and write B and C
  abbrev b : ArrayId
  b = record { 0 = 1 }

  abbrev cc : ArrayId
  cc = record { 0 = 2 }

  abbrev at_cell : ArrayId → Expr → Expr
  at_cell x e = Cell' x here p e

  abbrev two_users : Plan
  two_users = plan_of (4 ∷ 4 ∷ 4 ∷ []) (
      part.Target (target true (map_item mapped.To (whole a) ∷ map_item mapped.From (whole b) ∷ []))
      (region (loop v (upto 4 (lit< tt)) (Store b here i (Value (Binary' Add p (at_a i) p (Number 1))) ∷ [])
      (lit< tt) ∷ []) (lit< tt))
      ∷ part.Target (target true (map_item mapped.To (whole a) ∷ map_item mapped.From (whole cc) ∷ []))
      (region (loop v (upto 4 (lit< tt)) (Store cc here i (Value (Binary' Add p (at_a i) p (Number 2))) ∷ [])
      (lit< tt) ∷ []) (lit< tt))
      ∷ wait_all
      ∷ part.Host (region (Print (at_cell b (Number 3)) ∷ Print (at_cell cc (Number 3)) ∷ []) (lit< tt)) ∷ [])

  two_users_sound : causes two_users ≡ []
  two_users_sound = refl

  two_users_refused : take 2 (clashes two_users 1) ≡ clash 1 0 0 0 ∷ clash 1 0 1 0 ∷ []
  two_users_refused = refl

  -- a scalar is read, and a kernel writes where it is not 0
  abbrev scalar : ScalarId
  scalar = record { 0 = 0 }

  abbrev maybe_written : Stmt → List Part
  maybe_written last =
      part.Host (region (Declare scalar Read ∷ []) (lit< tt))
      ∷ part.Target (target false (map_item mapped.From (whole a) ∷ []))
      (region
      (choice v (Scalar scalar) (Store a here (Number 0) (Value (Number 1)) ∷ Store a here (Number 1)
      (Value (Number 2)) ∷ []) [] (lit< tt)
      (lit< tt) ∷ [])
      (lit< tt))
      ∷ part.Host (region (last ∷ []) (lit< tt)) ∷ []

  maybe_written_sound : causes (plan_of (2 ∷ []) (maybe_written (Print (Scalar scalar)))) ≡ []
  maybe_written_sound = refl

  maybe_written_current : current_at_end (plan_of (2 ∷ []) (maybe_written (Print (Scalar scalar)))) ≡ []
  maybe_written_current = refl

  maybe_written_zero :
      option_map (λ s. s.output) (run_by_choices (plan_of (2 ∷ []) (maybe_written (Print (Scalar scalar)))) (λ k c. 165)
      (0 ∷ []) []).state
      ≡ Some (0 ∷ [])
  maybe_written_zero = refl

  maybe_written_one :
      option_map (λ s. s.output) (run_by_choices (plan_of (2 ∷ []) (maybe_written (Print (Scalar scalar)))) (λ k c. 165)
      (1 ∷ []) []).state
      ≡ Some (1 ∷ [])
  maybe_written_one = refl

  maybe_written_refused : causes (plan_of (2 ∷ []) (maybe_written (Print (at_a (Number 0))))) ≡ found 2 HostNotCurrent 0
      0 ∷ []
  maybe_written_refused = refl

  -- what the machine makes of that refused program: the storage's contents, where the kernel wrote nothing
  maybe_written_shows :
      option_map (λ s. s.output) (run_by_choices (plan_of (2 ∷ []) (maybe_written (Print (at_a (Number 0)))))
      (λ k c. 165) (0 ∷ []) []).state
      ≡ Some (165 ∷ [])
  maybe_written_shows = refl

  abbrev host_store_after_entry : Bool → List Part
  host_store_after_entry always =
      let m : MapText RegionKind = record { kind = mapped.To; always = always; present = false; section = whole a } in
      enter_whole a
      ∷ part.Host (region (Store a here (Number 0) (Value (Number 5)) ∷ []) (lit< tt))
      ∷ part.Target (target false (m ∷ map_item mapped.From (whole b) ∷ []))
      (region (loop v (upto 2 (lit< tt)) (Store b here i (Value (Binary' Add p (at_a i) p (Number 1))) ∷ [])
      (lit< tt) ∷ []) (lit< tt))
      ∷ part.Host (region (Print (at_cell b (Number 0)) ∷ []) (lit< tt)) ∷ []

  host_store_after_entry_refused : causes
      (plan_of (2 ∷ 2 ∷ []) (host_store_after_entry false)) ≡ found 2 DeviceNotCurrent 0 0 ∷ []
  host_store_after_entry_refused = refl

  host_store_after_entry_sound : causes (plan_of (2 ∷ 2 ∷ []) (host_store_after_entry true)) ≡ []
  host_store_after_entry_sound = refl

  host_store_after_entry_output :
      option_map (λ s. s.output) (run_by_choices (plan_of (2 ∷ 2 ∷ []) (host_store_after_entry true))
      (λ k c. 165) [] []).state ≡ Some (6 ∷ [])
  host_store_after_entry_output = refl

  host_store_after_entry_current : current_at_end (plan_of (2 ∷ 2 ∷ []) (host_store_after_entry true)) ≡ (0, 0) ∷
      (0, 1) ∷ (1, 0) ∷ (1, 1) ∷ []
  host_store_after_entry_current = refl

  -- a block that is deleted inside its data construct
  deleted_inside_data_refused :
      causes (plan_of (2 ∷ []) (part_data v (record { place = here; maps = record { items = map_item mapped.To (whole a) ∷ []; capacity = 2 }; device = first_device })
      (part.Alone here (directive.Exit (record { items = map_item left.Delete (whole a) ∷ []; capacity = 2 })
      (tasking false)) ∷ []) (lit< tt)
      ∷ []))
      ≡ found 2 ExitOfAbsent 0 0 ∷ []
  deleted_inside_data_refused = refl

  -- a kernel outside its map items
  outside_its_maps :
      causes (plan_of (4 ∷ []) (part.Target (target false (map_item mapped.ToFrom (section a 0 2) ∷ []))
      (region (Store a here (Number 2) (Value (Number 1)) ∷ []) (lit< tt)) ∷ []))
      ≡ found 0 Unmapped 0 2 ∷ []
  outside_its_maps = refl

  -- a loop of many turns that stops at its fifth: the others are not walked
  long_loop :
      option_map (λ s. s.printed) (erased_list
      (part.Host (region (loop v (upto 18446744073709551615 (lit< tt)) (Store a here i (Value (Number 1)) ∷ [])
      (lit< tt) ∷ []) (lit< tt))
      ∷ [])
      (4 ∷ []) (fresh []))
      ≡ None
  long_loop = refl

  abbrev words : ℕ → ℕ → List (List ℕ)
  words zero m = [] ∷ []
  words (suc n) m = flat_map (λ c. map (λ w. c ∷ w) (words n m)) (range_with_len 0 m)

  abbrev output_is : List ℕ → Option (List ℕ) → Bool
  output_is ns None = false
  output_is ns (Some ms) = pointwise ◌==◌ ns ms

  -- every list of six choices from 0 to 2
  two_halves_all :
      list_all (λ w. output_is (1 ∷ 2 ∷ 3 ∷ 4 ∷ 40 ∷ 50 ∷ 60 ∷ 70 ∷ [])
      (option_map (λ s. s.output) (run_by_choices two_halves (λ k c. 165) [] w).state))
      (words 6 3)
      ≡ true
  two_halves_all = refl

  -- ranges, footprints and depend items

  abbrev spot : Place
  spot = record { line = 3; column = 39 }

  -- A[i - 1] = i, at a place of its own
  abbrev store_before : Stmt
  store_before = Store a spot (Binary' Subtract p i p (Number 1)) (Value i)

  index_before_faults :
      range_faults (4 ∷ []) (host_work
      (region (loop v (upto 4 (lit< tt)) (store_before ∷ []) (lit< tt) ∷ []) (lit< tt)) [])
      ≡ record { code = SubscriptOutside; line = 3; column = 39 } ∷ []
  index_before_faults = refl

  abbrev guarded : Stmt
  guarded = choice v (Binary' Greater p i p (Number 0)) (store_before ∷ []) [] (lit< tt) (lit< tt)

  index_before_fine : range_faults (4 ∷ [])
      (host_work (region (loop v (upto 4 (lit< tt)) (guarded ∷ []) (lit< tt) ∷ []) (lit< tt)) []) ≡ []
  index_before_fine = refl

  abbrev indices : (Cell → Bool) → List ℕ
  indices test = map (λ c. c.index) (filter test (cells_of (8 ∷ [])))

  -- read, exposed, written and surely written cells of A
  abbrev footprint : List Stmt → List (List ℕ)
  footprint xs =
      let touches = flat_map (λ s. stmt_touches s [] true) xs in
      indices (reads touches) ∷ indices (exposes touches) ∷ indices (writes touches) ∷ indices
      (surely_writes touches) ∷ []

  footprint_guarded :
      footprint (loop v (upto 4 (lit< tt)) (guarded ∷ []) (lit< tt) ∷ []) ≡ [] ∷ [] ∷ (0 ∷ 1 ∷ 2 ∷ []) ∷
      (0 ∷ 1 ∷ 2 ∷ []) ∷ []
  footprint_guarded = refl

  footprint_masked :
      footprint (Store a here (Binary' BitAnd p (at_a (Number 0)) p (Number 3)) (Value (Number 1)) ∷ [])
      ≡ (0 ∷ []) ∷ (0 ∷ []) ∷ (0 ∷ 1 ∷ 2 ∷ 3 ∷ []) ∷ [] ∷ []
  footprint_masked = refl

  footprint_exposed :
      footprint
      (Store a here (Number 0) (Value (Number 1)) ∷ Store a here (Number 1)
      (Value (Binary' Add p (at_a (Number 0)) p (at_a (Number 2)))) ∷
      [])
      ≡ (0 ∷ 2 ∷ []) ∷ (2 ∷ []) ∷ (0 ∷ 1 ∷ []) ∷ (0 ∷ 1 ∷ []) ∷ []
  footprint_exposed = refl

  footprint_sure :
      footprint
      (choice v (Or' p (Scalar scalar) p (Number 1)) (Store a here (Number 0) (Value (Number 2)) ∷ []) [] (lit< tt)
      (lit< tt) ∷ [])
      ≡ [] ∷ [] ∷ (0 ∷ []) ∷ (0 ∷ []) ∷ []
  footprint_sure = refl

  -- 1,024 turns around a loop of 1,023 turns
  turns_at_most : stmt_turns (loop v (upto 1024 (lit< tt)) (loop v (upto 1023 (lit< tt)) [] (lit< tt) ∷ []) (lit< tt)) ≡
      1048576
  turns_at_most = refl

  abbrev section_at : ℕ → ℕ → Section
  section_at first n = record { array = a; first = first; length = n }

  abbrev depend_on : DependKind → Section → Depend
  depend_on kind s = record { kind = kind; section = s; line = 1; column = 1 }

  -- out: A[0:4] and in: A[2:4]
  overlapping_depends : indices (λ c. clash_on c (depend_on Out (section_at 0 4)) (depend_on In (section_at 2 4))) ≡ 2 ∷
      3 ∷ []
  overlapping_depends = refl
