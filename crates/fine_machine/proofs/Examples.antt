-- What the fine-grained machine does with small programs.
use Rattle.base.specs.declared.item.Event.TheVariants.{Gen, Open, Step, Close, Wait, End}
use Rattle.std.proofs.Common.{◌≡◌, ℕ, ◌<◌, ◌^◌, List, [], ◌∷◌, refl, arith, Option, Some, None, lit<, lit≤, Box, Bool, false, true, zero, suc, map, length}
use Rattle.std.specs.Prelude.{Vec, not, option_map, flat_map, ◌==◌}
use Rattle.std.specs.Cmp.Lexicographic.{pointwise}
use Rattle.std.specs.List.{list_all, range_with_len}
use Rattle.std.specs.declared.alloc.Global.{Global}
use Rattle.base.specs.declared.tree.ArrayId.{ArrayId}
use Rattle.base.specs.declared.tree.ScalarId.{ScalarId}
use Rattle.base.specs.declared.tree.Place.{Place}
use Rattle.base.specs.declared.tree.Expr.{Expr}
use Rattle.base.specs.declared.tree.Expr.TheVariants.{Number, Scalar, LoopName, Cell', Binary'}
use Rattle.base.specs.declared.tree.Source.TheVariants.{Value, Read}
use Rattle.base.specs.declared.tree.Stmt.{Stmt}
use Rattle.base.specs.declared.tree.Stmt.TheVariants.{Store, Combine, Print, Declare}
use Rattle.base.specs.declared.tree.Bounds.{Bounds}
use Rattle.base.specs.declared.tree.BinaryOp.TheVariants.{BitXor, Add, Multiply}
use Rattle.base.specs.declared.tree.CombineOp.TheVariants as combining
use Rattle.base.specs.declared.tree.Part.{Part}
use Rattle.base.specs.declared.tree.Part.TheVariants as part
use Rattle.base.specs.declared.tree.Region.{Region}
use Rattle.base.specs.declared.tree.Directive.TheVariants as directive
use Rattle.base.specs.declared.tree.DeviceText.{DeviceText}
use Rattle.base.specs.declared.tree.DeviceText.TheVariants as on
use Rattle.base.specs.declared.tree.Tasking.{Tasking}
use Rattle.base.specs.declared.tree.Target.{Target}
use Rattle.base.specs.declared.tree.UpdateText.{UpdateText}
use Rattle.base.specs.declared.tree.RegionKind.{RegionKind}
use Rattle.base.specs.declared.tree.RegionKind.TheVariants as mapped
use Rattle.base.specs.declared.tree.EnterKind.TheVariants as entered
use Rattle.base.specs.declared.tree.UpdateKind.TheVariants as updated
use Rattle.base.specs.declared.tree.MapText.{MapText}
use Rattle.base.specs.declared.tree.SectionText.{SectionText}
use Rattle.base.specs.declared.tree.Bound.{Bound}
use Rattle.base.specs.declared.tree.Term.TheVariants.{Literal}
use Rattle.base.specs.declared.item.Cell.{Cell}
use Rattle.base.specs.Items.{Plan, plan_of}
use Rattle.base.specs.Turns.{turns_at, turns_meet}
use Rattle.fine_machine.specs.Machine.{Played, run_by_choices}
use Rattle.base.proofs.Trees.{vec_of, loop, choice}

module _ (v : Vec (Unit {0}) Global) (p : Box (Unit {0}) Global) where
  abbrev here : Place
  here = record { line = 1; column = 1 }

  abbrev a : ArrayId
  a = record { 0 = 0 }

  abbrev i : Expr
  i = LoopName 0

  abbrev at_a : Expr → Expr
  at_a e = Cell' a here p e

  abbrev between : (m n : ℕ) → n < 2 ^ 64 → Bounds
  between m n h = record { first = m; end = n; step = 1; step_not_zero = lit≤ tt; no_wrap = omega arith }

  abbrev region : (xs : List Stmt) → length xs < 2 ^ 63 → Region
  region xs h = record { place = here; body = vec_of v xs h; depth = 0 }

  abbrev bound : ℕ → Bound
  bound n = record { terms = record { items = Literal n ∷ []; capacity = 2 }; less = record { items = []; capacity = 2 } }

  abbrev section : ArrayId → ℕ → ℕ → SectionText
  section b first n = record { array = b; bounds = Some (bound first, bound n); place = here }

  abbrev whole : ArrayId → SectionText
  whole b = record { array = b; bounds = None; place = here }

  abbrev map_item : {K : Type 0} → K → SectionText → MapText K
  map_item kind s = record { kind = kind; always = false; present = false; section = s }

  abbrev first_device : DeviceText
  first_device = on.Fixed (record { number = 0; in_range = lit< tt })

  abbrev second_device : DeviceText
  second_device = on.Fixed (record { number = 1; in_range = lit< tt })

  abbrev tasking_on : DeviceText → Bool → Tasking
  tasking_on device nowait =
      record { nowait = nowait; device = device; depends = record { items = []; capacity = 2 } }

  abbrev tasking : Bool → Tasking
  tasking nowait = tasking_on first_device nowait

  abbrev target : Bool → List (MapText RegionKind) → Target
  target nowait maps = record { place = here; maps = record { items = maps; capacity = 2 }; tasking = tasking nowait }

  abbrev enter_whole : ArrayId → Part
  enter_whole b =
      part.Alone here (directive.Enter (record { items = map_item entered.To (whole b) ∷ []; capacity = 2 }) (tasking false))

  abbrev update_from : SectionText → Part
  update_from s =
      let u : UpdateText = record { kind = updated.From; present = false; section = s } in part.Alone here
      (directive.Update (record { items = u ∷ []; capacity = 2 }) (tasking false))

  abbrev wait_all : Part
  wait_all = part.Alone here (directive.Wait (record { items = []; capacity = 2 }))

  abbrev played : Plan → List ℕ → List ℕ → Played
  played plan input choices = run_by_choices plan (λ k c. 11936128518282651045) (λ k. []) 1000 input choices

  abbrev output : Played → Option (List ℕ)
  output r = option_map (λ s. s.output) r.state

  -- two kernels that add 1 to a cell that stays mapped, with no order between them
  abbrev add_one : Part
  add_one =
      part.Target (target true (map_item mapped.Alloc (whole a) ∷ []))
      (region (Store a here (Number 0) (Value (Binary' Add p (at_a (Number 0)) p (Number 1))) ∷ []) (lit< tt))

  abbrev both_add : Plan
  both_add =
      plan_of (1 ∷ []) (enter_whole a ∷ add_one ∷ add_one ∷ wait_all ∷ update_from (whole a) ∷ part.Host
      (region (Print (at_a (Number 0)) ∷ []) (lit< tt)) ∷ [])

  one_after_the_other : output (played both_add [] []) ≡ Some (2 ∷ [])
  one_after_the_other = refl

  abbrev between_each_other : Played
  between_each_other = played both_add [] (0 ∷ 0 ∷ 0 ∷ 0 ∷ 0 ∷ 0 ∷ 1 ∷ 1 ∷ 0 ∷ 0 ∷ 1 ∷ 1 ∷ [])

  an_addition_is_lost : output between_each_other ≡ Some (1 ∷ [])
  an_addition_is_lost = refl

  its_history :
      between_each_other.history
      ≡ Open 0 ∷ Step 0 ∷ Step 0 ∷ Close 0 ∷ Gen 1 ∷ Open 1 ∷ Gen 2 ∷ Open 2 ∷ Step 1 ∷ Step 1 ∷ Step 2 ∷ Step 2 ∷ Step
      1 ∷ Step 1 ∷ Close 1 ∷ Step 2 ∷ Step 2 ∷ Close 2
      ∷ Wait 3 ∷ Open 4 ∷ Step 4 ∷ Close 4 ∷ Open 5 ∷ Step 5 ∷ Close 5 ∷ End ∷ []
  its_history = refl

  -- the same on two devices: each has an array of its own, and one is brought back
  abbrev entered_on : DeviceText → Part
  entered_on d =
      part.Alone here (directive.Enter (record { items = map_item entered.To (whole a) ∷ []; capacity = 2 })
      (tasking_on d false))

  abbrev added_on : DeviceText → Part
  added_on d =
      part.Target (record {
        place = here;
        maps = record { items = map_item mapped.Alloc (whole a) ∷ []; capacity = 2 };
        tasking = tasking_on d true;
      })
      (region (Store a here (Number 0) (Value (Binary' Add p (at_a (Number 0)) p (Number 1))) ∷ []) (lit< tt))

  -- an update from a device on which the array is to be present
  abbrev back_from : DeviceText → Part
  back_from d =
      let u : UpdateText = record { kind = updated.From; present = true; section = whole a } in part.Alone here
      (directive.Update (record { items = u ∷ []; capacity = 2 }) (tasking_on d false))

  abbrev each_adds : Plan
  each_adds =
      plan_of (1 ∷ []) (entered_on first_device ∷ entered_on second_device ∷ added_on first_device ∷
      added_on second_device ∷ wait_all ∷ back_from second_device ∷ part.Host
      (region (Print (at_a (Number 0)) ∷ []) (lit< tt)) ∷ [])

  each_by_itself : output (played each_adds [] []) ≡ Some (1 ∷ [])
  each_by_itself = refl

  each_between_the_other :
      output (played each_adds [] (0 ∷ 0 ∷ 0 ∷ 0 ∷ 0 ∷ 0 ∷ 0 ∷ 0 ∷ 0 ∷ 0 ∷ 1 ∷ 1 ∷ 0 ∷ 0 ∷ 1 ∷ 1 ∷ [])) ≡ Some (1 ∷ [])
  each_between_the_other = refl

  not_on_the_other : output (played (plan_of (1 ∷ []) (entered_on first_device ∷ back_from second_device ∷ [])) [] [])
      ≡ None
  not_on_the_other = refl

  -- an array is filled, doubled on the device with nothing copied back, and printed
  abbrev not_copied_back : Plan
  not_copied_back =
      plan_of (4 ∷ []) (
      part.Host (region (loop v (between 0 4 (lit< tt)) (Store a here i (Value i) ∷ []) (lit< tt) ∷ []) (lit< tt))
      ∷ part.Target (target false (map_item mapped.To (section a 0 4) ∷ []))
      (region (loop v (between 0 4 (lit< tt)) (Store a here i
      (Value (Binary' Add p (Binary' Multiply p (at_a i) p (Number 2)) p (Number 1))) ∷ []) (lit< tt) ∷ []) (lit< tt))
      ∷ part.Host (region (loop v (between 0 4 (lit< tt)) (Print (at_a i) ∷ []) (lit< tt) ∷ []) (lit< tt)) ∷ [])

  the_old_numbers : output (played not_copied_back [] []) ≡ Some (0 ∷ 1 ∷ 2 ∷ 3 ∷ [])
  the_old_numbers = refl

  -- a kernel that writes only where a number is not 0, with its storage copied back
  abbrev scalar : ScalarId
  scalar = record { 0 = 0 }

  abbrev written_under_a_test : Plan
  written_under_a_test =
      plan_of (2 ∷ []) (
      part.Host (region (Declare scalar Read ∷ []) (lit< tt))
      ∷ part.Target (target false (map_item mapped.From (whole a) ∷ []))
      (region (choice v (Scalar scalar) (Store a here (Number 0) (Value (Number 1)) ∷ Store a here (Number 1)
      (Value (Number 2)) ∷ []) [] (lit< tt) (lit< tt) ∷ []) (lit< tt))
      ∷ part.Host (region (Print (at_a (Number 0)) ∷ []) (lit< tt)) ∷ [])

  what_the_storage_had : output (played written_under_a_test (0 ∷ []) []) ≡ Some (11936128518282651045 ∷ [])
  what_the_storage_had = refl

  -- two targets that share no cell, side by side

  abbrev side_by_side : Plan
  side_by_side =
      plan_of (8 ∷ []) (
      enter_whole a
      ∷ part.Target (target true (map_item mapped.ToFrom (section a 0 4) ∷ []))
      (region (loop v (between 0 4 (lit< tt)) (Store a here i (Value (Binary' Add p i p (Number 1))) ∷ [])
      (lit< tt) ∷ []) (lit< tt))
      ∷ part.Target (target true (map_item mapped.ToFrom (section a 4 4) ∷ []))
      (region (loop v (between 4 8 (lit< tt)) (Store a here i (Value (Binary' Multiply p i p (Number 10))) ∷ [])
      (lit< tt) ∷ []) (lit< tt))
      ∷ wait_all
      ∷ update_from (whole a)
      ∷ part.Host (region (loop v (between 0 8 (lit< tt)) (Print (at_a i) ∷ []) (lit< tt) ∷ []) (lit< tt)) ∷ [])

  abbrev lists : ℕ → ℕ → List (List ℕ)
  lists zero m = [] ∷ []
  lists (suc n) m = flat_map (λ c. map (λ w. c ∷ w) (lists n m)) (range_with_len 0 m)

  abbrev output_is : List ℕ → Option (List ℕ) → Bool
  output_is ns None = false
  output_is ns (Some ms) = pointwise ◌==◌ ns ms

  -- the run after twelve events that have no other choice
  abbrev shows_it : List ℕ → Bool
  shows_it w =
      output_is (1 ∷ 2 ∷ 3 ∷ 4 ∷ 40 ∷ 50 ∷ 60 ∷ 70 ∷ [])
      (output (played side_by_side [] (0 ∷ 0 ∷ 0 ∷ 0 ∷ 0 ∷ 0 ∷ 0 ∷ 0 ∷ 0 ∷ 0 ∷ 0 ∷ 0 ∷ w)))

  side_by_side_once : shows_it [] ≡ true
  side_by_side_once = refl

  -- every list of six choices from 0 to 2, by the first three
  side_by_side_000 : list_all (λ w. shows_it (0 ∷ 0 ∷ 0 ∷ w)) (lists 3 3) ≡ true
  side_by_side_000 = refl

  side_by_side_001 : list_all (λ w. shows_it (0 ∷ 0 ∷ 1 ∷ w)) (lists 3 3) ≡ true
  side_by_side_001 = refl

  side_by_side_002 : list_all (λ w. shows_it (0 ∷ 0 ∷ 2 ∷ w)) (lists 3 3) ≡ true
  side_by_side_002 = refl

  side_by_side_010 : list_all (λ w. shows_it (0 ∷ 1 ∷ 0 ∷ w)) (lists 3 3) ≡ true
  side_by_side_010 = refl

  side_by_side_011 : list_all (λ w. shows_it (0 ∷ 1 ∷ 1 ∷ w)) (lists 3 3) ≡ true
  side_by_side_011 = refl

  side_by_side_012 : list_all (λ w. shows_it (0 ∷ 1 ∷ 2 ∷ w)) (lists 3 3) ≡ true
  side_by_side_012 = refl

  side_by_side_020 : list_all (λ w. shows_it (0 ∷ 2 ∷ 0 ∷ w)) (lists 3 3) ≡ true
  side_by_side_020 = refl

  side_by_side_021 : list_all (λ w. shows_it (0 ∷ 2 ∷ 1 ∷ w)) (lists 3 3) ≡ true
  side_by_side_021 = refl

  side_by_side_022 : list_all (λ w. shows_it (0 ∷ 2 ∷ 2 ∷ w)) (lists 3 3) ≡ true
  side_by_side_022 = refl

  side_by_side_100 : list_all (λ w. shows_it (1 ∷ 0 ∷ 0 ∷ w)) (lists 3 3) ≡ true
  side_by_side_100 = refl

  side_by_side_101 : list_all (λ w. shows_it (1 ∷ 0 ∷ 1 ∷ w)) (lists 3 3) ≡ true
  side_by_side_101 = refl

  side_by_side_102 : list_all (λ w. shows_it (1 ∷ 0 ∷ 2 ∷ w)) (lists 3 3) ≡ true
  side_by_side_102 = refl

  side_by_side_110 : list_all (λ w. shows_it (1 ∷ 1 ∷ 0 ∷ w)) (lists 3 3) ≡ true
  side_by_side_110 = refl

  side_by_side_111 : list_all (λ w. shows_it (1 ∷ 1 ∷ 1 ∷ w)) (lists 3 3) ≡ true
  side_by_side_111 = refl

  side_by_side_112 : list_all (λ w. shows_it (1 ∷ 1 ∷ 2 ∷ w)) (lists 3 3) ≡ true
  side_by_side_112 = refl

  side_by_side_120 : list_all (λ w. shows_it (1 ∷ 2 ∷ 0 ∷ w)) (lists 3 3) ≡ true
  side_by_side_120 = refl

  side_by_side_121 : list_all (λ w. shows_it (1 ∷ 2 ∷ 1 ∷ w)) (lists 3 3) ≡ true
  side_by_side_121 = refl

  side_by_side_122 : list_all (λ w. shows_it (1 ∷ 2 ∷ 2 ∷ w)) (lists 3 3) ≡ true
  side_by_side_122 = refl

  side_by_side_200 : list_all (λ w. shows_it (2 ∷ 0 ∷ 0 ∷ w)) (lists 3 3) ≡ true
  side_by_side_200 = refl

  side_by_side_201 : list_all (λ w. shows_it (2 ∷ 0 ∷ 1 ∷ w)) (lists 3 3) ≡ true
  side_by_side_201 = refl

  side_by_side_202 : list_all (λ w. shows_it (2 ∷ 0 ∷ 2 ∷ w)) (lists 3 3) ≡ true
  side_by_side_202 = refl

  side_by_side_210 : list_all (λ w. shows_it (2 ∷ 1 ∷ 0 ∷ w)) (lists 3 3) ≡ true
  side_by_side_210 = refl

  side_by_side_211 : list_all (λ w. shows_it (2 ∷ 1 ∷ 1 ∷ w)) (lists 3 3) ≡ true
  side_by_side_211 = refl

  side_by_side_212 : list_all (λ w. shows_it (2 ∷ 1 ∷ 2 ∷ w)) (lists 3 3) ≡ true
  side_by_side_212 = refl

  side_by_side_220 : list_all (λ w. shows_it (2 ∷ 2 ∷ 0 ∷ w)) (lists 3 3) ≡ true
  side_by_side_220 = refl

  side_by_side_221 : list_all (λ w. shows_it (2 ∷ 2 ∷ 1 ∷ w)) (lists 3 3) ≡ true
  side_by_side_221 = refl

  side_by_side_222 : list_all (λ w. shows_it (2 ∷ 2 ∷ 2 ∷ w)) (lists 3 3) ≡ true
  side_by_side_222 = refl

  -- kernels whose turns may run in any order

  abbrev unordered : ℕ → (xs : List Stmt) → length xs < 2 ^ 63 → Region
  unordered depth xs h = record { place = here; body = vec_of v xs h; depth = depth }

  abbrev printed_by : Plan → List ℕ → Option (List ℕ)
  printed_by plan order =
      output (run_by_choices plan (λ k c. 11936128518282651045) (λ k. order) 1000 [] [])

  -- two turns that add 1 to the same cell, which is refused
  abbrev counted : Plan
  counted =
      plan_of (1 ∷ []) (
      part.Target (target false (map_item mapped.ToFrom (whole a) ∷ []))
      (unordered 1 (loop v (between 0 2 (lit< tt)) (Store a here (Number 0)
      (Value (Binary' Add p (at_a (Number 0)) p (Number 1))) ∷ []) (lit< tt) ∷ []) (lit< tt))
      ∷ part.Host (region (Print (at_a (Number 0)) ∷ []) (lit< tt)) ∷ [])

  turns_in_order : printed_by counted [] ≡ Some (2 ∷ [])
  turns_in_order = refl

  last_turn_first : printed_by counted (1 ∷ 1 ∷ []) ≡ Some (2 ∷ [])
  last_turn_first = refl

  -- both load before one stores
  turns_between_each_other : printed_by counted (0 ∷ 1 ∷ 0 ∷ 1 ∷ []) ≡ Some (1 ∷ [])
  turns_between_each_other = refl

  -- a turn that assigns a scalar which the next one reads: no text spells it, and E510 is for it too
  abbrev handed_on : ℕ → Plan
  handed_on depth =
      plan_of (2 ∷ []) (
      part.Target (target false (map_item mapped.ToFrom (whole a) ∷ []))
      (unordered depth (loop v (between 0 2 (lit< tt)) (Store a here i (Value (Scalar scalar)) ∷
      Declare scalar (Value (Number 7)) ∷ []) (lit< tt) ∷ []) (lit< tt))
      ∷ part.Host (region (loop v (between 0 2 (lit< tt)) (Print (at_a i) ∷ []) (lit< tt) ∷ []) (lit< tt)) ∷ [])

  from_turn_to_turn : printed_by (handed_on 0) [] ≡ Some (0 ∷ 7 ∷ [])
  from_turn_to_turn = refl

  each_from_the_start : printed_by (handed_on 1) [] ≡ Some (0 ∷ 0 ∷ [])
  each_from_the_start = refl

  -- the turns of two loops, each with a scalar of its own and a cell of its own, in which it stores twice
  abbrev at_both : Expr
  at_both = Binary' Add p (Binary' Multiply p (LoopName 0) p (Number 2)) p (LoopName 1)

  abbrev own_cells : Plan
  own_cells =
      plan_of (4 ∷ []) (
      part.Target (target false (map_item mapped.ToFrom (whole a) ∷ []))
      (unordered 2 (loop v (between 0 2 (lit< tt)) (loop v (between 0 2 (lit< tt))
      (Declare scalar (Value at_both)
      ∷ Store a here at_both (Value (Binary' Add p (Scalar scalar) p (Number 1)))
      ∷ Store a here at_both (Value (Binary' Multiply p (at_a at_both) p (Scalar scalar))) ∷ []) (lit< tt) ∷ [])
      (lit< tt) ∷ []) (lit< tt))
      ∷ part.Host (region (loop v (between 0 4 (lit< tt)) (Print (at_a i) ∷ []) (lit< tt) ∷ []) (lit< tt)) ∷ [])

  own_cells_in_order : printed_by own_cells [] ≡ Some (0 ∷ 2 ∷ 6 ∷ 12 ∷ [])
  own_cells_in_order = refl

  -- by every list of four numbers from 0 to 3
  own_cells_in_any_order :
      list_all (λ w. output_is (0 ∷ 2 ∷ 6 ∷ 12 ∷ []) (printed_by own_cells w)) (lists 4 4) ≡ true
  own_cells_in_any_order = refl

  -- turns that update one cell by commuting updates

  -- A[0] += A[i + 1] for each i below 4
  abbrev next_a : Expr
  next_a = Binary' Add p i p (Number 1)

  abbrev summing : List Stmt
  summing =
      loop v (between 0 4 (lit< tt)) (Combine combining.Add a here (Number 0) (at_a next_a) ∷ []) (lit< tt) ∷ []

  -- with the array filled by the squares before
  abbrev summed : Plan
  summed =
      plan_of (5 ∷ []) (
      part.Host (region (loop v (between 0 4 (lit< tt)) (Store a here next_a (Value (Binary' Multiply p next_a p
      next_a)) ∷ []) (lit< tt) ∷ []) (lit< tt))
      ∷ part.Target (target false (map_item mapped.ToFrom (whole a) ∷ [])) (unordered 1 summing (lit< tt))
      ∷ part.Host (region (Print (at_a (Number 0)) ∷ []) (lit< tt)) ∷ [])

  summed_in_order : printed_by summed [] ≡ Some (30 ∷ [])
  summed_in_order = refl

  -- by every list of four numbers from 0 to 3, each turn being a load and an update
  summed_in_any_order : list_all (λ w. output_is (30 ∷ []) (printed_by summed w)) (lists 4 4) ≡ true
  summed_in_any_order = refl

  -- the least and the greatest of them
  abbrev sorted_out : Plan
  sorted_out =
      plan_of (6 ∷ []) (
      part.Host (region (loop v (between 0 4 (lit< tt)) (Store a here (Binary' Add p i p (Number 2))
      (Value (Binary' BitXor p i p (Number 5))) ∷ []) (lit< tt) ∷ Store a here (Number 0) (Value (Number 9)) ∷ [])
      (lit< tt))
      ∷ part.Target (target false (map_item mapped.ToFrom (whole a) ∷ []))
      (unordered 1 (loop v (between 2 6 (lit< tt)) (Combine combining.Min a here (Number 0) (at_a i) ∷
      Combine combining.Max a here (Number 1) (at_a i) ∷ []) (lit< tt) ∷ []) (lit< tt))
      ∷ part.Host (region (Print (at_a (Number 0)) ∷ Print (at_a (Number 1)) ∷ []) (lit< tt)) ∷ [])

  sorted_out_in_any_order : list_all (λ w. output_is (4 ∷ 7 ∷ []) (printed_by sorted_out w)) (lists 4 4) ≡ true
  sorted_out_in_any_order = refl

  abbrev cell_of_a : ℕ → Cell
  cell_of_a n = record { array = a; index = n }

  abbrev meet_on : List Stmt → ℕ → Bool
  meet_on body n = turns_meet (turns_at 1 body []) (cell_of_a n)

  sums_do_not_meet : list_all (λ n. not (meet_on summing n)) (range_with_len 0 6) ≡ true
  sums_do_not_meet = refl

  -- where the second of two turns multiplies the cell to which the first one adds, the order shows
  abbrev two_turns : (second : Stmt) → List Stmt
  two_turns second =
      loop v (between 0 2 (lit< tt)) (choice v i (second ∷ [])
      (Combine combining.Add a here (Number 0) (Number 1) ∷ []) (lit< tt) (lit< tt) ∷ []) (lit< tt) ∷ []

  abbrev first_adds : Stmt → Plan
  first_adds second =
      plan_of (2 ∷ []) (
      part.Target (target false (map_item mapped.ToFrom (whole a) ∷ [])) (unordered 1 (two_turns second) (lit< tt))
      ∷ part.Host (region (Print (at_a (Number 0)) ∷ Print (at_a (Number 1)) ∷ []) (lit< tt)) ∷ [])

  abbrev doubles : Stmt
  doubles = Combine combining.Multiply a here (Number 0) (Number 2)

  added_and_doubled : printed_by (first_adds doubles) [] ≡ Some (2 ∷ 0 ∷ [])
  added_and_doubled = refl

  doubled_and_added : printed_by (first_adds doubles) (1 ∷ []) ≡ Some (1 ∷ 0 ∷ [])
  doubled_and_added = refl

  operators_differ : meet_on (two_turns doubles) 0 ≡ true
  operators_differ = refl

  -- and so it does where the second turn reads it
  abbrev looks : Stmt
  looks = Store a here (Number 1) (Value (at_a (Number 0)))

  seen_after : printed_by (first_adds looks) [] ≡ Some (1 ∷ 1 ∷ [])
  seen_after = refl

  seen_before : printed_by (first_adds looks) (1 ∷ []) ≡ Some (1 ∷ 0 ∷ [])
  seen_before = refl

  a_read_is_beside : meet_on (two_turns looks) 0 ≡ true
  a_read_is_beside = refl

  -- both add
  operators_agree : meet_on (two_turns (Combine combining.Add a here (Number 0) (Number 5))) 0 ≡ false
  operators_agree = refl
