-- Programs that are refused: a copy back that was forgotten, storage that is gone, an exit that is not ordered, a stale
-- device, storage that is on another device, and turns that meet, by updates too that do not commute.
use Rattle.std.specs.Prelude.{ℕ, ◌≡◌, false, true, List, [], ◌∷◌, Option, Some, None, Vec, Box}
use Rattle.std.proofs.Common.{lit<}
use Rattle.std.specs.declared.alloc.Global.{Global}
use Rattle.base.specs.declared.fault.RefusalCode.{RefusalCode}
use Rattle.base.specs.declared.fault.RefusalCode.TheVariants.{ExitOfAbsent, NotPresent, HostNotCurrent, DeviceNotCurrent, TurnsMeet, Conflict}
use Rattle.base.specs.declared.tree.ArrayId.{ArrayId}
use Rattle.base.specs.declared.tree.Expr.TheVariants.{Number, Scalar}
use Rattle.base.specs.declared.tree.Source.TheVariants.{Value}
use Rattle.base.specs.declared.tree.Stmt.TheVariants.{Assign, Store, Combine, Print}
use Rattle.base.specs.declared.tree.CombineOp.TheVariants as combining
use Rattle.base.specs.declared.tree.RegionKind.TheVariants.{To, From, ToFrom}
use Rattle.base.specs.declared.tree.ExitKind.{ExitKind}
use Rattle.base.specs.declared.tree.ExitKind.TheVariants as left
use Rattle.base.specs.declared.tree.Directive.TheVariants as directive
use Rattle.base.specs.declared.tree.Part.{Part}
use Rattle.base.specs.declared.tree.Part.TheVariants as part
use Rattle.base.specs.declared.tree.Program.{Program}
use Rattle.base.specs.Meaning.{lengths_of}
use Rattle.base.specs.Items.{plan}
use Rattle.base.specs.Accepted.{IsFirstFault, Refused}
use Rattle.base.proofs.Trees.{loop, choice, part_data}
use Rattle.examples_tests.specs.Pieces.{a, b, i, j, first_scalar, here, to_two, to_four, four_to_eight, to_eight, section, whole, map_item, first_device, second_device, target, target_on, tasking, enter_to, update_from, wait_all, cell, plus, sum, times, region, looped, unordered, spread, spread_twice}
use Rattle.examples_tests.specs.FirstFault.{refusal}

-- of a program with arrays of these lengths and with these parts the refusal, at that cell of A, is the first fault
abbrev pub FirstRefusalAt : List ℕ → List Part → RefusalCode → ℕ → ℕ → Option ℕ → Type 0
FirstRefusalAt lengths parts code j index other =
    (p : Program) → lengths_of p ≡ lengths → p.body.items ≡ parts →
    IsFirstFault (plan p) (Refused (refusal code j (record { array = a; index = index }) other))

abbrev pub FirstRefusal : List ℕ → List Part → RefusalCode → ℕ → Option ℕ → Type 0
FirstRefusal lengths parts code j other = FirstRefusalAt lengths parts code j 0 other

abbrev pub exit_of : ExitKind → ArrayId → Part
exit_of kind x = part.Alone here (directive.Exit (record { items = map_item kind (whole x) ∷ []; capacity = 2 })
    (tasking false []))

module _ (v : Vec (Unit {0}) Global) (p : Box (Unit {0}) Global) where
  -- the target maps A `to` where it should be `tofrom`, so the host prints what it had before
  abbrev pub not_copied_back : List Part
  not_copied_back =
      part.Host (looped v p to_four (Store a here i (Value i)))
      ∷ part.Target (target false [] (map_item To (section a 0 4) ∷ []))
      (looped v p to_four (Store a here i (Value (plus v p (times v p (cell v p a i) 2) 1))))
      ∷ part.Host (looped v p to_four (Print (cell v p a i))) ∷ []

  -- the storage of A is deleted inside the data construct that ends with an exit of it
  abbrev pub deleted_inside_data : List Part
  deleted_inside_data = part_data v (record { place = here; maps = record { items = map_item To (whole a) ∷ []; capacity = 2 }; device = first_device })
      (exit_of left.Delete a ∷ []) (lit< tt) ∷ []

  -- two deferred targets, and an exit of A that waits for neither
  abbrev pub exit_too_early : List Part
  exit_too_early =
      enter_to a
      ∷ part.Target (target true [] (map_item ToFrom (section a 0 4) ∷ []))
      (looped v p to_four (Store a here i (Value (plus v p i 1))))
      ∷ part.Target (target true [] (map_item ToFrom (section a 4 4) ∷ []))
      (looped v p four_to_eight (Store a here i (Value (times v p i 10))))
      ∷ exit_of left.From a
      ∷ wait_all
      ∷ update_from (whole a)
      ∷ part.Host (looped v p to_eight (Print (cell v p a i))) ∷ []

  -- the host changes A after it was copied to the device, and a target reads it there
  abbrev pub stale_on_device : List Part
  stale_on_device =
      enter_to a
      ∷ part.Host (region v p (Store a here (Number 0) (Value (Number 5)) ∷ []) (lit< tt))
      ∷ part.Target (target false [] (map_item To (whole a) ∷ map_item From (whole b) ∷ []))
      (looped v p to_four (Store b here i (Value (plus v p (cell v p a i) 1))))
      ∷ part.Host (region v p (Print (cell v p b (Number 0)) ∷ []) (lit< tt)) ∷ []

  -- a target on one device changes A, which was copied to another one before, and a target there reads it
  abbrev pub stale_on_another : List Part
  stale_on_another =
      enter_to a
      ∷ part.Target (target_on second_device false [] (map_item ToFrom (whole a) ∷ []))
      (looped v p to_four (Store a here i (Value (plus v p i 1))))
      ∷ part.Target (target false [] (map_item To (whole a) ∷ map_item From (whole b) ∷ []))
      (looped v p to_four (Store b here i (Value (plus v p (cell v p a i) 1))))
      ∷ part.Host (region v p (Print (cell v p b (Number 0)) ∷ []) (lit< tt)) ∷ []

  -- A is on one device, and a target on another one wants it to be present there
  abbrev pub present_elsewhere : List Part
  present_elsewhere =
      enter_to a
      ∷ part.Target (target_on second_device false []
      (record { kind = To; always = false; present = true; section = whole a } ∷ []))
      (looped v p to_four (Store a here i (Value (plus v p i 1)))) ∷ []

  -- the turns of a target may run in any order, and each writes the cell that the next one reads
  abbrev pub next_cell : List Part
  next_cell =
      part.Target (target false [] (map_item ToFrom (section a 0 8) ∷ []))
      (spread v p to_four (Store a here (plus v p i 1) (Value (cell v p a i)))) ∷ []

  -- the turns of two loops may run in any order, and those of the inner one write the same cell
  abbrev pub same_cells : List Part
  same_cells =
      part.Target (target false [] (map_item From (section a 0 2) ∷ []))
      (spread_twice v p 2 to_two to_four (Store a here i (Value (sum v p i j)))) ∷ []

  -- each turn reads a scalar that the turn before it assigned. No source has such a region
  abbrev pub shared_scalar : List Part
  shared_scalar =
      part.Target (target false [] (map_item From (section a 0 4) ∷ []))
      (unordered v p 1
      (loop v to_four (Assign first_scalar (Value (plus v p (Scalar first_scalar) 1))
      ∷ Store a here i (Value (Scalar first_scalar)) ∷ []) (lit< tt) ∷ []) (lit< tt)) ∷ []

  -- one turn adds to the cell that the other one multiplies
  abbrev pub two_operators : List Part
  two_operators =
      part.Target (target false [] (map_item ToFrom (whole a) ∷ []))
      (spread v p to_two (choice v i (Combine combining.Multiply a here (Number 0) (Number 2) ∷ [])
      (Combine combining.Add a here (Number 0) (Number 1) ∷ []) (lit< tt) (lit< tt))) ∷ []

  -- each turn adds to a cell, and looks at what it is by then
  abbrev pub looked_at : List Part
  looked_at =
      part.Target (target false [] (map_item ToFrom (whole a) ∷ []))
      (unordered v p 1
      (loop v to_four (Combine combining.Add a here (Number 0) (Number 1)
      ∷ Store a here (plus v p i 1) (Value (cell v p a (Number 0))) ∷ []) (lit< tt) ∷ []) (lit< tt)) ∷ []

  -- two targets that may run at once update one cell by one operator: they are two items, not two turns
  abbrev pub two_updates : List Part
  two_updates =
      enter_to a
      ∷ part.Target (target true [] [])
      (region v p (Combine combining.Add a here (Number 0) (Number 1) ∷ []) (lit< tt))
      ∷ part.Target (target true [] [])
      (region v p (Combine combining.Add a here (Number 0) (Number 2) ∷ []) (lit< tt)) ∷ []

  -- an update needs what it updates: storage alone has no number that is known
  abbrev pub nothing_to_update : List Part
  nothing_to_update =
      part.Target (target false [] (map_item From (whole a) ∷ []))
      (spread v p to_four (Combine combining.Add a here (Number 0) (Number 1))) ∷ []

pub record ExamplesAreRefused (v : Vec (Unit {0}) Global) (p : Box (Unit {0}) Global) : Type 0 where
  pub not_copied_back_refused : FirstRefusal (4 ∷ []) (not_copied_back v p) HostNotCurrent 2 None
  pub deleted_inside_data_refused : FirstRefusal (2 ∷ []) (deleted_inside_data v p) ExitOfAbsent 2 None
  pub exit_too_early_refused : FirstRefusal (8 ∷ []) (exit_too_early v p) Conflict 3 (Some 1)
  pub stale_on_device_refused : FirstRefusal (4 ∷ 4 ∷ []) (stale_on_device v p) DeviceNotCurrent 2 None
  pub stale_on_another_refused : FirstRefusal (4 ∷ 4 ∷ []) (stale_on_another v p) DeviceNotCurrent 2 None
  pub present_elsewhere_refused : FirstRefusal (4 ∷ []) (present_elsewhere v p) NotPresent 1 None
  pub next_cell_refused : FirstRefusalAt (8 ∷ []) (next_cell v p) TurnsMeet 0 1 None
  pub same_cells_refused : FirstRefusal (2 ∷ []) (same_cells v p) TurnsMeet 0 None
  pub shared_scalar_refused : FirstRefusal (4 ∷ []) (shared_scalar v p) TurnsMeet 0 None
  pub two_operators_refused : FirstRefusal (1 ∷ []) (two_operators v p) TurnsMeet 0 None
  pub looked_at_refused : FirstRefusal (5 ∷ []) (looked_at v p) TurnsMeet 0 None
  pub two_updates_refused : FirstRefusal (1 ∷ []) (two_updates v p) Conflict 2 (Some 1)
  pub nothing_to_update_refused : FirstRefusal (1 ∷ []) (nothing_to_update v p) DeviceNotCurrent 0 None

abbrev pub TheyAreRefused : Type 0
TheyAreRefused = (v : Vec (Unit {0}) Global) (p : Box (Unit {0}) Global) → ExamplesAreRefused v p
