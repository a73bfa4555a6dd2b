-- An item that is opened on the blocks of the walk is in its walk.
use Rattle.std.proofs.Common.{◌≡◌, ℕ, true, false, List, [], ◌∷◌, ◌++◌, Option, Some, None, refl, sym, ◌∙◌, ap, subst, true≢false}
use Rattle.std.specs.Prelude.{option_map, filter, slice_get}
use mathlib.Core.Path.{fun_ext}
use Rattle.std.proofs.lemmas.Option.{same_Some, none-some}
use Rattle.std.proofs.lemmas.Bool.{cond-true, cond-false, false_from_ne_true}
use Rattle.base.specs.declared.item.MapItem.{MapItem}
use Rattle.base.specs.declared.item.ItemKind.{ItemKind}
use Rattle.base.specs.declared.item.ItemKind.TheVariants as kind
use Rattle.base.specs.Actions.{Host, Dev}
use Rattle.base.specs.declared.tree.Region.{Region}
use Rattle.base.specs.Meaning.{Run}
use Rattle.base.specs.Items.{Work, Plan}
use Rattle.base.specs.Map.{Block, Fill, Presence, Absent, Inside, InPart, presence, copies_to, copies_from}
use Rattle.base.specs.Actions.{Acted, Counts, CopiesIn, CopiesOut, HostRegion, Kernel, only_if, acts_of, each_acts, entry_acts, exit_acts, update_acts, region_acts, then_acts, always_works}
use Rattle.base.specs.Accepted.{is_target}
use Rattle.fine_machine.specs.Left.{Left, Finished, OnHost, CopyOut, section_left, left_if, update_left, entry_left, exit_left, each_left, present_of, region_left, kernel_left, item_left}
use Rattle.regions.proofs.StatementsDone.{AllSmall, Fine, small_list}
use Rattle.regions.proofs.ValueBounds.{IfThere}
use Rattle.two_memories.specs.Two.{AreBlocks, IsLawful, blocks_before, number_inside}
use Rattle.two_memories.proofs.LikeMemories.{Covers, covers_left, covers_right, covers_tail, covers_one, reads_head, writes_head}
use Rattle.two_memories.proofs.AdjustedCounts.{access_of, covers_item}
use Rattle.two_memories.proofs.CountsAbove.{Above, above_start}
use Rattle.two_memories.proofs.MapLists.{AreSized, sized, no_delete}
use Rattle.two_memories.proofs.UpdateFrame.{acts_blocks}
use Rattle.two_memories.proofs.ByKind.{acts_host, acts_target, acts_begin, acts_enter, acts_end, acts_exit_item, acts_update, acts_wait, region_blocks}
use Rattle.fine_headline.specs.FineState.{is_resting}
use Rattle.fine_headline.proofs.LeavingAll.{no_resting}
use Rattle.fine_headline.proofs.RegionAllowed.{host_allowed, kernel_allowed}
use Rattle.fine_headline.proofs.LeftByKind.{left_host, left_target, left_begin, left_enter, left_end, left_exit, left_update, left_wait}
use Rattle.fine_headline.proofs.Walking.{InWalk}
use Rattle.fine_headline.proofs.Walks.{cell_walks, copies_in, copies_out, none_rest, resting_target, entries_walk, exits_walk, of_map}

abbrev Rest : Type 0
Rest = Unit {0} → Left

pub update_there : (item : MapItem) (bs : List Block) (b : Block) → presence bs item.section ≡ Inside b →
    (update_acts item bs).actions ≡ Counts b.section
    true ∷ (only_if (copies_to item.kind) (CopiesIn item.section) ++ only_if (copies_from item.kind)
    (CopiesOut item.section))
update_there item bs b e = rw (e, update_acts) refl

module _ (plan : Plan) (fill : Fill) (i : ℕ) (w : Work) (at : slice_get plan.items i ≡ Some w)
    (after : List Block) where
  update_walks : (item : MapItem) (bs : List Block) (b : Block) (k : Rest) → presence bs item.section ≡ Inside b →
      Covers (update_acts item bs).actions (access_of plan i) → InWalk plan fill i after [] bs (k tt) →
      InWalk plan fill i after [] bs (update_left item k)
  update_walks item bs b k there covers next =
      copies_in plan fill i w at after (copies_to item.kind) [] bs item.section
      (λ u. left_if (copies_from item.kind) (section_left CopyOut item.section) k)
      (λ e c j. let one = covers_one (copies_to item.kind) (CopiesIn item.section) (access_of plan i) ins e in (
        reads_head (CopiesIn item.section) [] (access_of plan i) one Host c j,
        writes_head (CopiesIn item.section) []
            (access_of plan i) one Dev c j,
      ))
      (copies_out plan fill i w at after (copies_from item.kind) [] bs item.section k
      (λ e c j. let one = covers_one (copies_from item.kind) (CopiesOut item.section) (access_of plan i) outs e in (
        reads_head (CopiesOut item.section) [] (access_of plan i) one Dev c j,
        writes_head (CopiesOut item.section) []
            (access_of plan i) one Host c j,
      )) next)
    where
      both : Covers (only_if (copies_to item.kind) (CopiesIn item.section) ++ only_if (copies_from item.kind)
          (CopiesOut item.section)) (access_of plan i)
      both =
          covers_tail (Counts b.section true) (only_if (copies_to item.kind) (CopiesIn item.section) ++ only_if
          (copies_from item.kind) (CopiesOut item.section)) (access_of plan i)
          (subst (λ acts. Covers acts (access_of plan i)) (update_there item bs b there) covers)

      ins : Covers (only_if (copies_to item.kind) (CopiesIn item.section)) (access_of plan i)
      ins =
          covers_left (only_if (copies_to item.kind) (CopiesIn item.section))
          (only_if (copies_from item.kind) (CopiesOut item.section)) (access_of plan i) both

      outs : Covers (only_if (copies_from item.kind) (CopiesOut item.section)) (access_of plan i)
      outs =
          covers_right (only_if (copies_to item.kind) (CopiesIn item.section))
          (only_if (copies_from item.kind) (CopiesOut item.section)) (access_of plan i) both

  -- the sections of an update that have storage, one after the other
  updates_walk : (maps present : List MapItem) (bs : List Block) (k : Rest) → present_of bs maps ≡ Some present →
      Covers (each_acts update_acts maps bs).actions (access_of plan i) → InWalk plan fill i after [] bs (k tt) →
      InWalk plan fill i after [] bs (each_left update_left present k)
  updates_walk [] present bs k e covers next =
      subst (λ xs. InWalk plan fill i after [] bs (each_left update_left xs k)) (same_Some [] present e) next
  updates_walk (item ∷ rest) present bs k e covers next =
      go (presence bs item.section) refl e (λ xs f. updates_walk rest xs bs k f later next)
    where
      later : Covers (each_acts update_acts rest bs).actions (access_of plan i)
      later =
          subst (λ xs. Covers (each_acts update_acts rest xs).actions (access_of plan i)) (acts_blocks item bs)
          (covers_right (update_acts item bs).actions (each_acts update_acts rest (update_acts item bs).blocks).actions
          (access_of plan i) covers)

      absent_is : presence bs item.section ≡ Absent → item.present ≡ false →
          present_of bs (item ∷ rest) ≡ present_of bs rest
      absent_is f unwanted = rw (f, present_of) (cond-false item.present None (present_of bs rest) unwanted)

      wanted_is : presence bs item.section ≡ Absent → item.present ≡ true → present_of bs (item ∷ rest) ≡ None
      wanted_is f wanted = rw (f, present_of) (cond-true item.present None (present_of bs rest) wanted)

      inside_is : (b : Block) → presence bs item.section ≡ Inside b →
          present_of bs (item ∷ rest) ≡ option_map (λ xs. item ∷ xs) (present_of bs rest)
      inside_is b f = rw (f, present_of) refl

      part_is : presence bs item.section ≡ InPart → present_of bs (item ∷ rest) ≡ None
      part_is f = rw (f, present_of) refl

      go : (p : Presence) → presence bs item.section ≡ p → present_of bs (item ∷ rest) ≡ Some present →
          ((xs : List MapItem) → present_of bs rest ≡ Some xs → InWalk plan fill i after [] bs
          (each_left update_left xs k)) → InWalk plan fill i after [] bs (each_left update_left present k)
      go Absent f e again =
          again present
          (sym (absent_is f (false_from_ne_true _ (λ p. none-some present (sym (wanted_is f p) ∙ e)))) ∙ e)
      go (Inside b) f e again =
          let p = of_map (λ xs. item ∷ xs) (present_of bs rest) present (sym (inside_is b f) ∙ e) in
          subst (λ xs. InWalk plan fill i after [] bs (each_left update_left xs k)) p.2
          (update_walks item bs b (λ u. each_left update_left p.0 k) f
          (covers_left (update_acts item bs).actions (each_acts update_acts rest (update_acts item bs).blocks).actions
          (access_of plan i) covers) (again p.0 p.1))
      go InPart f e again = absurd (none-some present (sym (part_is f) ∙ e))

-- an item that is opened on the blocks that the walk has before it
pub item_walks : (plan : Plan) (fill : Fill) (order : List ℕ) (i : ℕ) (w : Work) (s : Run) → slice_get plan.items i ≡ Some w →
    IsLawful w → AreBlocks (blocks_before plan i) → Fine s →
    IfThere (InWalk plan fill i (acts_of w (blocks_before plan i)).blocks [] (blocks_before plan i))
    (item_left order w (blocks_before plan i) s)
item_walks plan fill order i w s at lawful ok f = go w.kind refl
  where
    before : List Block
    before = blocks_before plan i

    after : List Block
    after = (acts_of w (blocks_before plan i)).blocks

    are : AreSized w.maps
    are = sized w.maps lawful.not_empty

    loops : AllSmall w.loops
    loops = small_list w.loops lawful.loops

    start_above : is_target w.kind ≡ true → Above (number_inside []) (blocks_before plan i) (blocks_before plan i)
    start_above t = above_start before ok

    no_target : {A : Type 0} → is_target w.kind ≡ false → is_target w.kind ≡ true → A
    no_target e t = absurd (true≢false (sym t ∙ e))

    works : is_target w.kind ≡ false → is_resting plan i ≡ always_works
    works e = fun_ext (λ m. no_resting plan i w at e m)

    covers : (acts : Acted) → acts_of w (blocks_before plan i) ≡ acts → Covers acts.actions (access_of plan i)
    covers acts e = subst (λ (a : Acted). Covers a.actions (access_of plan i)) e (covers_item plan i w at)

    entries : acts_of w (blocks_before plan i) ≡ each_acts (entry_acts always_works) w.maps (blocks_before plan i) →
        is_target w.kind ≡ false →
        InWalk plan fill i (acts_of w (blocks_before plan i)).blocks [] (blocks_before plan i)
        (each_left entry_left w.maps (λ u. Finished s))
    entries e t =
        let is : acts_of w (blocks_before plan i) ≡ each_acts (entry_acts (is_resting plan i)) w.maps
        (blocks_before plan i) = e ∙ ap (λ r. each_acts (entry_acts r) w.maps (blocks_before plan i)) (sym (works t)) in
        entries_walk plan fill i w at after [] w.maps before (λ u. Finished s) tt are ok (λ q. no_target t q)
        (covers _ is) (λ now at ok above. at ∙ ap (λ (a : Acted). a.blocks) (sym is))

    exits : acts_of w (blocks_before plan i) ≡ each_acts (exit_acts always_works) w.maps (blocks_before plan i) →
        is_target w.kind ≡ false →
        InWalk plan fill i (acts_of w (blocks_before plan i)).blocks [] (blocks_before plan i)
        (each_left exit_left w.maps (λ u. Finished s))
    exits e t =
        let is : acts_of w (blocks_before plan i) ≡ each_acts (exit_acts (is_resting plan i)) w.maps
        (blocks_before plan i) = e ∙ ap (λ r. each_acts (exit_acts r) w.maps (blocks_before plan i)) (sym (works t)) in
        subst (λ ms. InWalk plan fill i (acts_of w (blocks_before plan i)).blocks ms (blocks_before plan i)
        (each_left exit_left w.maps (λ u. Finished s))) (none_rest plan fill i w at after t w.maps)
        (exits_walk plan fill i w at after w.maps before (λ u. Finished s) are ok (λ q. no_target t q)
        (λ q. no_target t q) (covers _ is) (λ now at. at ∙ ap (λ (a : Acted). a.blocks) (sym is)))

    host : w.kind ≡ kind.Host → (o : Option Region) → w.region ≡ o →
        InWalk plan fill i (acts_of w (blocks_before plan i)).blocks [] (blocks_before plan i)
        (region_left o OnHost w.loops s Finished)
    host e None r = sym (ap (λ (a : Acted). a.blocks) (acts_host w before e) ∙ region_blocks HostRegion w before)
    host e (Some r) has =
        host_allowed plan i w r at has e (InWalk plan fill i after [] before)
        (λ q k h next. cell_walks plan fill i w at after [] before q k h next) s Finished loops f
        (λ t g. sym (ap (λ (a : Acted). a.blocks) (acts_host w before e) ∙ region_blocks HostRegion w before))

    target : w.kind ≡ kind.Target → (o : Option Region) → w.region ≡ o →
        InWalk plan fill i (acts_of w (blocks_before plan i)).blocks [] (blocks_before plan i)
        (each_left entry_left w.maps (λ u. kernel_left order o w.loops s
        (λ t. each_left exit_left w.maps (λ u. Finished t))))
    target e None has = absurd (lawful.has_region (ap is_target e) has)
    target e (Some r) has =
        entries_walk plan fill i w at after [] w.maps before
        (λ u. kernel_left order (Some r) w.loops s (λ t. each_left exit_left w.maps (λ u. Finished t))) tt are ok
        start_above
        (covers_left entered.actions (region_acts Kernel w entered.blocks).actions (access_of plan i)
        (covers_left (then_acts entered (region_acts Kernel w)).actions
        (each_acts (exit_acts (is_resting plan i)) w.maps (region_acts Kernel w entered.blocks).blocks).actions
        (access_of plan i) (covers _ is)))
        (λ now here ok' above.
        kernel_allowed plan i w r at has order e (InWalk plan fill i after (filter (is_resting plan i) w.maps) now)
        (λ q k h next. cell_walks plan fill i w at after (filter (is_resting plan i) w.maps) now q k h next) s
        (λ t. each_left exit_left w.maps (λ u. Finished t)) loops f
        (λ t g. exits_walk plan fill i w at after w.maps now (λ u. Finished t) are ok'
        (λ q. no_delete w.maps (lawful.never_deletes q)) above
        (subst (λ xs. Covers (each_acts (exit_acts (is_resting plan i)) w.maps xs).actions (access_of plan i))
        (region_blocks Kernel w entered.blocks ∙ sym here)
        (covers_right (then_acts entered (region_acts Kernel w)).actions
        (each_acts (exit_acts (is_resting plan i)) w.maps (region_acts Kernel w entered.blocks).blocks).actions
        (access_of plan i) (covers _ is)))
        (λ last there. there ∙ (ap (λ xs. (each_acts (exit_acts (is_resting plan i)) w.maps xs).blocks)
        (here ∙ sym (region_blocks Kernel w entered.blocks)) ∙ ap (λ (a : Acted). a.blocks) (sym is)))))
      where
        entered : Acted
        entered = each_acts (entry_acts (is_resting plan i)) w.maps (blocks_before plan i)

        is : acts_of w (blocks_before plan i) ≡ then_acts
            (then_acts (each_acts (entry_acts (is_resting plan i)) w.maps (blocks_before plan i))
            (region_acts Kernel w)) (each_acts (exit_acts (is_resting plan i)) w.maps)
        is =
            acts_target w (blocks_before plan i) e
            ∙ ap (λ r. then_acts (then_acts (each_acts (entry_acts r) w.maps (blocks_before plan i))
            (region_acts Kernel w)) (each_acts (exit_acts r) w.maps))
            (sym (resting_target plan fill i w at after (ap is_target e)))

    update : w.kind ≡ kind.Update → (o : Option (List MapItem)) → present_of (blocks_before plan i) w.maps ≡ o →
        IfThere (InWalk plan fill i (acts_of w (blocks_before plan i)).blocks [] (blocks_before plan i))
        (option_map (λ present. each_left update_left present (λ u. Finished s)) o)
    update e None h = tt
    update e (Some present) h =
        updates_walk plan fill i w at after w.maps present before (λ u. Finished s) h
        (covers _ (acts_update w before e)) (sym (ap (λ (a : Acted). a.blocks) (acts_update w before e) ∙ unchanged
        w.maps before))
      where
        unchanged : (maps : List MapItem) (bs : List Block) → (each_acts update_acts maps bs).blocks ≡ bs
        unchanged [] bs = refl
        unchanged (m ∷ rest) bs = unchanged rest (update_acts m bs).blocks ∙ acts_blocks m bs

    by : (o : Option Left) → item_left order w (blocks_before plan i) s ≡ o →
        IfThere (InWalk plan fill i (acts_of w (blocks_before plan i)).blocks [] (blocks_before plan i)) o →
        IfThere (InWalk plan fill i (acts_of w (blocks_before plan i)).blocks [] (blocks_before plan i))
        (item_left order w (blocks_before plan i) s)
    by o e h =
        subst (IfThere (InWalk plan fill i (acts_of w (blocks_before plan i)).blocks [] (blocks_before plan i)))
        (sym e) h

    go : (k : ItemKind) → w.kind ≡ k →
        IfThere (InWalk plan fill i (acts_of w (blocks_before plan i)).blocks [] (blocks_before plan i))
        (item_left order w (blocks_before plan i) s)
    go kind.Host e =
        by (Some (region_left w.region OnHost w.loops s Finished)) (left_host order w before s e) (host e w.region refl)
    go kind.Target e = by _ (left_target order w before s e) (target e w.region refl)
    go kind.Begin e = by _ (left_begin order w before s e) (entries (acts_begin w before e) (ap is_target e))
    go kind.Enter e = by _ (left_enter order w before s e) (entries (acts_enter w before e) (ap is_target e))
    go kind.End e = by _ (left_end order w before s e) (exits (acts_end w before e) (ap is_target e))
    go kind.Exit e = by _ (left_exit order w before s e) (exits (acts_exit_item w before e) (ap is_target e))
    go kind.Update e = by _ (left_update order w before s e) (update e (present_of (blocks_before plan i) w.maps) refl)
    go kind.Wait e =
        by (Some (Finished s)) (left_wait order w before s e) (sym (ap (λ (a : Acted). a.blocks) (acts_wait w before e)))
