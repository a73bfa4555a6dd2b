-- A region that is a loop, and its turns done in spans.
use Rattle.std.proofs.Common.{◌≡◌, ℕ, suc, ◌++◌, Bool, true, false, List, [], ◌∷◌, Option, Some, None, refl, sym, ap, ap₂, ◌∙◌, subst}
use Rattle.std.specs.Prelude.{option_map, unwrap_or, is_some, slice_get, slice_index, IsSome}
use Rattle.std.specs.List.{list_any}
use mathlib.Core.Path.{fun_ext}
use Rattle.base.specs.declared.item.Cell.{Cell}
use Rattle.base.specs.declared.tree.Bounds.{Bounds}
use Rattle.base.specs.declared.tree.Region.{Region}
use Rattle.base.specs.declared.tree.Stmt.{Stmt}
use Rattle.base.specs.Memory.{View, Stores, last_stored}
use Rattle.base.specs.Meaning.{Run, run_region, run_list, seen}
use Rattle.base.specs.ScalarUse.{stmt_assigned}
use Rattle.base.specs.Turns.{Independent, only_loop, turns_at}
use Rattle.spans.specs.Spans.{begin, Halves, IsCut, SpansAreTheLoop}
use Rattle.spans.proofs.Known.{map_parts}
use Rattle.spans.proofs.Looped.{Looped, looped}
use Rattle.spans.proofs.Onlies.{only_runs, only_statement, only_turns}
use Rattle.spans.proofs.Shifts.{last_append}
use Rattle.spans.proofs.Unassigned.{stmt_leaves}
use Rattle.kernel.specs.Kept.{IsKept, Kept, kept_of}
use Rattle.kernel.specs.Laid.{AreLaid, HaveSame, or_else}
use Rattle.kernel.specs.Machine.{State}
use Rattle.kernel.specs.Rows.{Parts, cells_kept, cells_of, parts_stored}
use Rattle.kernel.specs.Spread.{IsPart, IsSpread, MayRun, left_by, part_run}
use Rattle.kernel.specs.States.{at_rest, first_state}
use Rattle.kernel.specs.Walks.{At, CanDo, HasDone, loop_meaning}
use Rattle.kernel.specs.declared.frames.Frame.{Frame}
use Rattle.kernel.specs.declared.part.Part.{Part}
use Rattle.kernel.specs.declared.state.Machine.{Machine}
use Rattle.kernel.proofs.Extents.{laid_left, laid_there}
use Rattle.kernel.proofs.Stepping.{there, is_there}

seen_alone : (o : Option ℕ) → option_map (λ old. unwrap_or None old) o ≡ o
seen_alone None = refl
seen_alone (Some x) = refl

seen_some : (view : View) (st : Stores) (c : Cell) → is_some (seen view st c) ≡ is_some (view c)
seen_some view st c = go (view c)
  where
    go : (o : Option ℕ) → is_some (option_map (λ old. unwrap_or (last_stored st c) old) o) ≡ is_some o
    go None = refl
    go (Some v) = refl

-- what a region does is what the loop does that it is
module _ (r : Region) (f : Frame) (b : Bounds) (body : List Stmt) (is_loop : only_loop r.body.items ≡ Some (b, body))
    (no_input : f.input.now ≡ []) where
  pub region_is :
      run_region r f.loops.now.values.items (cells_of f.rows.items) (slice_index f.scalars) f.input.now ≡ part_run f body b
  region_is =
      ap (λ input. run_region r f.loops.now.values.items (cells_of f.rows.items) (slice_index f.scalars) input) no_input
      ∙ only_runs r.body.items b body is_loop (cells_of f.rows.items) f.loops.now.values.items
      (begin (slice_index f.scalars))

  pub may_whole : (d : ℕ) → r.depth ≡ suc d →
      IsSome (run_region r f.loops.now.values.items (cells_of f.rows.items) (slice_index f.scalars) f.input.now) →
      Independent (turns_at r.depth r.body.items f.loops.now.values.items) → MayRun f d body b
  may_whole d depth runs apart = record {
    runs = subst (λ (o : Option Run). IsSome o) region_is runs;
    apart = subst Independent (ap (λ n. turns_at n r.body.items f.loops.now.values.items) depth
        ∙ only_turns d r.body.items b body is_loop f.loops.now.values.items) apart;
  }

nothing_in : (xs : List ℕ) → list_any (λ x. false) xs ≡ false
nothing_in [] = refl
nothing_in (x ∷ xs) = nothing_in xs

-- turns of a loop read no input where there is none
module _ (r : Region) (f : Frame) (whole : Bounds) (body : List Stmt) (sp : IsSpread r f whole body) where
  no_input_left : (b : Bounds) (t : Run) → part_run f body b ≡ Some t → t.input ≡ []
  no_input_left b t e =
      let s = only_statement r.body.items whole body sp.is_loop in
      let l : Looped body = looped s.0 whole body s.2 in
      (stmt_leaves (cells_of f.rows.items) (λ x. false) (l.at b) f.loops.now.values.items (begin (slice_index f.scalars)) t
      (nothing_in (stmt_assigned (l.at b)))
      (l.runs b (cells_of f.rows.items) f.loops.now.values.items (begin (slice_index f.scalars)) ∙ e)).input refl

  -- the two spans of a loop that is cut
  module _ (law : SpansAreTheLoop) (d : ℕ) (b front back : Bounds) (may : MayRun f d body b) (cut : IsCut b front back) where
    halves : Halves d body f.loops.now.values.items (cells_of f.rows.items) (slice_index f.scalars) b front back
    halves = law (only_statement r.body.items whole body sp.is_loop).0 whole body d f.loops.now.values.items
        (cells_of f.rows.items) (slice_index f.scalars) b front back (only_statement r.body.items whole body sp.is_loop).2
        sp.contained sp.loops sp.view sp.scalars may.apart cut

    pub may_front : MayRun f d body front
    may_front =
        let t = there (part_run f body b) may.runs in
        let p = halves.front_runs t.0 t.1 in
        record { runs = is_there (part_run f body front) p.0 p.1; apart = halves.front_apart }

    pub may_back : MayRun f d body back
    may_back =
        let t = there (part_run f body b) may.runs in
        let p = halves.back_runs t.0 t.1 in
        record { runs = is_there (part_run f body back) p.0 p.1; apart = halves.back_apart }

    -- what was stored last of both
    last_of : (r t : Run) (c : Cell) →
        last_stored (r.stores ++ t.stores) c ≡ or_else (last_stored t.stores c) (last_stored r.stores c)
    last_of r t c = last_append r.stores t.stores c ∙ go (last_stored t.stores c)
      where
        go : (o : Option ℕ) →
            elim o as (λ z. Option ℕ) [ None ↦ last_stored r.stores c | Some v ↦ Some v ]
            ≡ or_else o (last_stored r.stores c)
        go None = refl
        go (Some v) = refl

    -- parts of one frame have the same cells
    pub have_same : (one two : Part) → IsPart f body front one → IsPart f body back two →
        HaveSame one.rows.items two.rows.items
    have_same one two p q a i =
        p.there (record { array = record { 0 = a }; index = i })
        ∙ sym (q.there (record { array = record { 0 = a }; index = i }))

    -- parts that were joined
    pub parts_joined : (one two now : Part) → IsPart f body front one → IsPart f body back two →
        AreLaid one.rows.items two.rows.items now.rows.items → now.scalars.value ≡ two.scalars.value →
        now.printed.items ≡ one.printed.items ++ two.printed.items → IsPart f body b now
    parts_joined one two now p q laid scalars printed =
        let u = map_parts kept_of (part_run f body front) (left_by one) p.kept in
        let v = map_parts kept_of (part_run f body back) (left_by two) q.kept in
        let same : HaveSame one.rows.items two.rows.items = have_same one two p q in
        record {
          kept =
              ap (option_map kept_of) (halves.together u.0 v.0 u.1 v.1)
              ∙ (λ i. Some (record {
                scalars = (ap (λ (k : Kept). k.scalars) v.2 ∙ ap slice_index (sym scalars)) i;
                stored =
                    fun_ext (λ (c : Cell).
                    last_of u.0 v.0 c
                    ∙ ap₂ or_else (ap (λ (k : Kept). k.stored c) v.2) (ap (λ (k : Kept). k.stored c) u.2)
                    ∙ sym (laid_left one.rows.items two.rows.items now.rows.items laid same c.array.0 c.index)) i;
                input = (ap (λ (k : Kept). k.input) v.2) i;
                printed =
                    (ap₂ (λ (xs ys : List ℕ). xs ++ ys) (ap (λ (k : Kept). k.printed) u.2) (ap (λ (k : Kept). k.printed) v.2)
                    ∙ sym printed) i;
              }));
          there = λ c. laid_there one.rows.items two.rows.items now.rows.items laid c.array.0 c.index ∙ p.there c;
        }

  -- turns that are done on the frame
  module _ (b : Bounds) (m : Machine) (e : at_rest m ≡ first_state f) where
    at_begin : At (cells_of f.rows.items) (begin (slice_index f.scalars)) m
    at_begin =
        record {
          stands =
              record {
                scalars = ap (λ (s : State). s.file) e;
                cells = ap (λ (s : State). s.cells) e ∙ fun_ext (λ (c : Cell). sym (seen_alone (cells_of f.rows.items c)));
                stored = ap (λ (s : State). s.stored) e;
              };
          input = ap (λ (s : State). s.input) e ∙ sp.no_input;
          printed = ap (λ (s : State). s.printed) e;
        }

    same_turns : loop_meaning b body (cells_of f.rows.items) m.loops.items (begin (slice_index f.scalars)) ≡ part_run f body b
    same_turns =
        ap (λ loops. loop_meaning b body (cells_of f.rows.items) loops (begin (slice_index f.scalars)))
        (ap (λ (s : State). s.loops) e)

    pub part_can : IsSome (part_run f body b) → CanDo (loop_meaning b body) m
    part_can h = (
      cells_of f.rows.items,
      begin (slice_index f.scalars),
      at_begin,
      subst (λ (o : Option Run). IsSome o) (sym same_turns) h,
    )

    pub part_done : (m' : Machine) (now : Part) → IsSome (part_run f body b) → HasDone (loop_meaning b body) m m' →
        now.scalars.value ≡ m'.scalars.value → now.rows.items ≡ m'.rows.items → now.printed.items ≡ m'.printed.items →
        IsPart f body b now
    part_done m' now h done scalars rows printed =
        let t = there (part_run f body b) h in
        let a = done.1 (cells_of f.rows.items) (begin (slice_index f.scalars)) t.0 at_begin (same_turns ∙ t.1) in
        record {
          kept =
              ap (option_map kept_of) t.1
              ∙ (λ i. Some (record {
                scalars = (sym a.stands.scalars ∙ ap slice_index (sym scalars)) i;
                stored = (sym a.stands.stored ∙ ap parts_stored (sym rows)) i;
                input = no_input_left b t.0 t.1 i;
                printed = (sym a.printed ∙ sym printed) i;
              }));
          there = λ c.
              ap (λ (rs : List Parts). is_some (cells_kept rs c)) rows
              ∙ ap (λ (v : View). is_some (v c)) a.stands.cells ∙ seen_some (cells_of f.rows.items) t.0.stores c;
        }

  -- the part of all turns
  pub whole_kept : (now : Part) (stored : View) → IsPart f body whole now → stored ≡ parts_stored now.rows.items →
      IsKept (run_region r f.loops.now.values.items (cells_of f.rows.items) (slice_index f.scalars) f.input.now)
      (record { scalars = slice_index now.scalars.value; stored = stored; input = f.input.now; printed = now.printed.items })
  whole_kept now stored p same =
      ap (option_map kept_of) (region_is r f whole body sp.is_loop sp.no_input)
      ∙ p.kept
      ∙ (λ i. Some (record (left_by now) { stored = sym same i; input = sym sp.no_input i }))
