-- What is known of the frame that was issued for an open item, and of what was run on it.
use Rattle.std.proofs.Common.{◌≡◌, ◌<◌, length, ℕ, true, List, [], map, Option, Some, None, refl, sym, ap, ◌∙◌, subst, get_or}
use Rattle.std.specs.Prelude.{IsSome, option_map, slice_get, slice_index}
use Rattle.std.proofs.lemmas.Option.{same_Some, slice_get-map}
use Rattle.base.specs.declared.item.Event.TheVariants as event
use Rattle.base.specs.declared.item.Item.{Item}
use Rattle.base.specs.declared.item.ItemKind.TheVariants as kind
use Rattle.base.specs.declared.tree.Region.{Region}
use Rattle.base.specs.Accepted.{is_target}
use Rattle.host_memory.specs.Arrays.{lengths_of}
use Rattle.base.specs.Items.{Work, plan}
use Rattle.base.specs.Machine.{enabled}
use Rattle.base.specs.Turns.{Independent, turns_at}
use Rattle.frames.specs.Views.{AreCells}
use Rattle.kernel.specs.Kept.{IsKept, Kept}
use Rattle.kernel.specs.Rows.{cells_of}
use Rattle.kernel.specs.declared.frames.Frame.{Frame}
use Rattle.lower.specs.Image.{IsRegionOf}
use Rattle.outline.specs.Regions.{Entry}
use Rattle.outline.specs.Shown.{all_shown, as_shown}
use Rattle.device.specs.declared.standing.Held.{Held}
use Rattle.device.specs.declared.standing.Held.TheVariants as held
use Rattle.device.specs.declared.standing.Standing.{Standing}
use Rattle.device.specs.declared.state.RunState.TheInside.{Inside}
use Rattle.device.specs.Closing.{FollowsClose, GoesOut, IsLeftBy}
use Rattle.device.specs.Jobs.{IsIssuedDone, IsLeft, statements_of}
use Rattle.device.specs.Run.{Run, state_of}
use Rattle.device.specs.Running.{Shows, run_of}
use Rattle.device.specs.Same.{same_list}
use Rattle.device.specs.Standing.{Issue, IsAt, done_on, frame_parts, issue_of}
use Rattle.device.proofs.FrameParts.{done_alike}
use Rattle.device.proofs.KernelTurns.{code_turns}
use Rattle.device.proofs.MayClose.{inside_close, CloseFacts, cells, close_facts, frame_is, goes_out, left_by, runs}
use Rattle.device.proofs.SameRuns.{list_itself, list_means, none_same}

-- a frame that is kept and has these parts
pub record HeldAs (now : Standing) (i : ℕ) (p : Issue) : Type 0 where
  pub frame : Frame
  pub is : slice_get now.held.items i ≡ Some (held.Issued frame)
  pub parts : frame_parts frame ≡ p

pub held_as : (now : Standing) (i : ℕ) (p : Issue) → slice_get (map issue_of now.held.items) i ≡ Some (Some p) → HeldAs now i p
held_as now i p e = go (slice_get now.held.items i) refl
  where
    issued : (h : Held) → slice_get now.held.items i ≡ Some h → issue_of h ≡ Some p → HeldAs now i p
    issued held.Nothing f g = absurd cc
    issued (held.Captured scalars) f g = absurd cc
    issued (held.Issued frame) f g = record { frame = frame; is = f; parts = same_Some (frame_parts frame) p g }

    go : (o : Option Held) → slice_get now.held.items i ≡ o → HeldAs now i p
    go None f =
        absurd (let bad : None ≡ Some (Some p) = sym (slice_get-map issue_of now.held.items i ∙ ap (option_map issue_of) f) ∙ e in cc)
    go (Some h) f =
        issued h f (same_Some (issue_of h) (Some p)
        (sym (slice_get-map issue_of now.held.items i ∙ ap (option_map issue_of) f) ∙ e))

pub held_issued : (now : Standing) (i : ℕ) (frame : Frame) → slice_get now.held.items i ≡ Some (held.Issued frame) →
    slice_get (map issue_of now.held.items) i ≡ Some (Some (frame_parts frame))
held_issued now i frame e = slice_get-map issue_of now.held.items i ∙ ap (option_map issue_of) e

-- the statements of the code of an item
pub code_statements : (o : Option Region) (code : Region) → IsRegionOf o code → code.body.items ≡ statements_of o
code_statements None code e = e
code_statements (Some r) code e = ap (λ (x : Region). x.body.items) e

-- a region of an item, which does what one does that has its statements
record RegionOf (o : Option Region) (region : Region) : Type 0 where
  code : Region
  of : IsRegionOf o code
  does : (frame : Frame) → done_on code frame ≡ done_on region frame

region_of : (o : Option Region) (region : Region) → same_list (statements_of o) region.body.items ≡ true → RegionOf o region
region_of None region h = record { code = region; of = none_same region.body.items h; does = λ frame. refl }
region_of (Some r) region h = record {
  code = r;
  of = refl;
  does = λ frame.
      list_means r.body.items region.body.items (cells_of frame.rows.items) frame.loops.now.values.items
      (record { scalars = slice_index frame.scalars; stores = []; input = frame.input.now; printed = [] }) h;
}

module _ (s : Inside) (i : ℕ) (it : Item) (h : Shows s) (f : CloseFacts s i it) where
  -- the code of the item, with a frame that is the one that was issued by value
  module _ (code : Region) (frame : Frame) (of : IsRegionOf f.item.work.region code)
      (e : slice_get (run_of s).issued i ≡ Some (Some (frame_parts frame))) where
    kept_frame : HeldAs s.standing i (frame_parts frame)
    kept_frame = held_as s.standing i (frame_parts frame) e

    pub runs_on : IsSome (done_on code frame)
    runs_on =
        subst IsSome (done_alike code kept_frame.frame frame kept_frame.parts) (runs s i it h f code kept_frame.frame of kept_frame.is)

    pub turns_are_apart : is_target it.kind ≡ true →
        Independent (turns_at code.depth code.body.items frame.loops.now.values.items)
    turns_are_apart target =
        let kernel : is_target f.item.work.kind ≡ true = ap is_target f.item.of.kind ∙ target in
        code_turns (plan (run_of s).program) h.reached.accepted i f.item.work f.item.is kernel code
        frame.loops.now.values.items (f.region.1 kernel) of
        (sym (ap (λ (p : Issue). p.loops) kept_frame.parts)
        ∙ (frame_is s i it h f kept_frame.frame kept_frame.is).loops)

    pub of_item : frame.item ≡ i
    of_item = sym (ap (λ (p : Issue). p.item) kept_frame.parts) ∙ (frame_is s i it h f kept_frame.frame kept_frame.is).item

    pub is_issued_done : enabled (plan (run_of s).program) (state_of (run_of s)) (event.Close i) ≡ true → IsIssuedDone (run_of s) code frame
    is_issued_done may = record {
      is_open = ap (λ j. enabled (plan (run_of s).program) (state_of (run_of s)) (event.Close j)) of_item ∙ may;
      is_held = ap (λ j. slice_get (run_of s).issued j) of_item ∙ e;
      has_statements = λ w at.
          let same : f.item.work ≡ w =
          same_Some f.item.work w (sym f.item.is ∙ ap (λ j. slice_get (plan (run_of s).program).items j) (sym of_item) ∙ at) in
          ap (λ (x : Work). same_list (statements_of x.region) code.body.items) (sym same)
          ∙ ap (λ xs. same_list xs code.body.items) (sym (code_statements f.item.work.region code of)) ∙ list_itself code.body.items;
    }

-- all that is known where an item is closed with what was run
pub record CanClose (s : Inside) (i : ℕ) (it : Item) (k : Kept) : Type 0 where
  pub facts : CloseFacts s i it
  pub goes : it.kind ≡ kind.Target → GoesOut it.device.number k.stored it.maps.items s.standing
  pub cells : AreCells (lengths_of s.standing.host) k.stored
  pub follows : (new : Standing) → FollowsClose s.standing i it k new → IsAt (plan (run_of s).program) new facts.next.state

pub inside_left : (s : Inside) (v : Run) (i : ℕ) (entries : List Entry) (its : List Item) (k : Kept) → run_of s ≡ v → Shows s →
    IsLeft v i k → all_shown entries its ≡ as_shown (plan (run_of s).program).items → i < length its
inside_left s v i entries its k is h left e =
    inside_close s v i entries its is h
    (ap (λ j. enabled (plan v.program) (state_of v) (event.Close j)) (sym left.of_item) ∙ left.issued.is_open) e

pub can_close : (s : Inside) (v : Run) (i : ℕ) (entries : List Entry) (its : List Item) (it : Item) (k : Kept) → run_of s ≡ v → Shows s →
    IsLeft v i k → all_shown entries its ≡ as_shown (plan (run_of s).program).items → it ≡ get_or its i it → CanClose s i it k
can_close s v i entries its it k is h left e at = record {
  facts = f;
  goes = goes_out s i it h f k by;
  cells = subst (λ ls. AreCells ls k.stored) (sym h.at.lengths) (cells s i it h f r.code g.frame k r.of g.is kept);
  follows = λ new closes.
      closes (plan (run_of s).program) (state_of (run_of s)) f.next.state f.item.work h.at f.item.is f.item.of f.region f.hosts by f.next.step;
}
  where
    f : CloseFacts s i it
    f =
        close_facts s v i entries its it is h
        (ap (λ j. enabled (plan v.program) (state_of v) (event.Close j)) (sym left.of_item) ∙ left.issued.is_open) e at

    g : HeldAs s.standing i (frame_parts left.frame)
    g =
        held_as s.standing i (frame_parts left.frame)
        (ap (λ (x : Run). slice_get x.issued i) is ∙ ap (λ j. slice_get v.issued j) (sym left.of_item) ∙ left.issued.is_held)

    r : RegionOf f.item.work.region left.region
    r =
        region_of f.item.work.region left.region
        (left.issued.has_statements f.item.work
        (ap (λ (x : Run). slice_get (plan x.program).items left.frame.item) (sym is)
        ∙ ap (λ j. slice_get (plan (run_of s).program).items j) left.of_item ∙ f.item.is))

    kept : IsKept (done_on r.code g.frame) k
    kept =
        subst (λ o. IsKept o k) (sym (done_alike r.code g.frame left.frame g.parts ∙ r.does left.frame)) left.kept

    by : IsLeftBy i f.item.work (state_of (run_of s)) k
    by = left_by s i it h f r.code g.frame k r.of g.is kept
