-- An update that is opened in order finds the sections that it finds in program order.
use Rattle.base.specs.declared.item.Event.TheVariants as event
use Rattle.std.proofs.Common.{◌≡◌, ◌⊎◌, ℕ, ◌<◌, ◌≤◌, Bool, true, false, List, [], ◌∷◌, ◌++◌, Option, Some, None, refl, sym, ◌∙◌, ap, inl, inr, subst}
use Rattle.std.specs.Prelude.{option_map, find, slice_get}
use Rattle.std.proofs.lemmas.Bool.{false≢true, cases_Bool, cond-true, cond-false, false_from_ne_true, or_left}
use Rattle.std.proofs.lemmas.Option.{slice_get_within}
use Rattle.base.specs.declared.item.Section.{Section}
use Rattle.base.specs.declared.item.MapItem.{MapItem}
use Rattle.base.specs.declared.item.ItemKind.TheVariants as kind
use Rattle.base.specs.Actions.{Tab}
use Rattle.base.specs.Memory.{is_inside}
use Rattle.base.specs.Items.{Work, Plan}
use Rattle.base.specs.Map.{Block, Absent, Inside, InPart, presence, copies_to, copies_from}
use Rattle.base.specs.Blocks.{AreApart, holder}
use Rattle.base.specs.Actions.{Acted, Counts, CopiesIn, CopiesOut, only_if, each_acts, update_acts}
use Rattle.base.proofs.Blocks.{meets}
use Rattle.base.proofs.Moves.{is_absent, is_there, is_part}
use Rattle.fine_machine.specs.Left.{Finished, each_left, update_left, present_of}
use Rattle.fine_machine.specs.Machine.{State, Opened, with_condition, begun, open_item}
use Rattle.machine.specs.Board.Move.{Open}
use Rattle.machine.specs.Machine.{InOrder, Does}
use Rattle.two_memories.specs.Two.{blocks_before, number_inside}
use Rattle.two_memories.proofs.PlanItems.{at_item}
use Rattle.two_memories.proofs.Entered.{is_entered}
use Rattle.two_memories.proofs.LikeMemories.{Access, Covers, covers_left, covers_right, more, reads_head}
use Rattle.two_memories.proofs.AdjustedCounts.{access_of, covers_item}
use Rattle.two_memories.proofs.MapLists.{AreSized, sized}
use Rattle.two_memories.proofs.UpdateFrame.{acts_blocks}
use Rattle.two_memories.proofs.ByKind.{acts_update}
use Rattle.two_memories.proofs.RestingLooks.{resting_looks}
use Rattle.two_memories.proofs.WalkBlocks.{walks_blocks}
use Rattle.fine_headline.specs.FineState.{FineState, result_of, parts}
use Rattle.two_memories.proofs.OwnDevice.{device_at}
use Rattle.fine_headline.proofs.FineSpots.{own_memories}
use Rattle.fine_headline.proofs.Quietly.{at_start}
use Rattle.fine_headline.proofs.LeftByKind.{left_update}
use Rattle.fine_headline.proofs.Tables.{TableLike, LiesIn, found_too, absent_too}
use Rattle.fine_headline.proofs.Resting.{others}
use Rattle.fine_headline.proofs.Walking.{Stands}
use Rattle.fine_headline.proofs.Meeting.{Meets, meets as states_meet}
use Rattle.fine_headline.proofs.ItemWalks.{update_there}
use Rattle.fine_headline.proofs.TurnWalks.{waiting_at}

update_absent : (item : MapItem) (bs : List Block) → presence bs item.section ≡ Absent →
    (update_acts item bs).actions ≡ Counts item.section true ∷ []
update_absent item bs e = rw (e, update_acts) refl

pub absent_is : (bs : List Block) (item : MapItem) (rest : List MapItem) → presence bs item.section ≡ Absent →
    item.present ≡ false → present_of bs (item ∷ rest) ≡ present_of bs rest
absent_is bs item rest f unwanted = rw (f, present_of) (cond-false item.present None (present_of bs rest) unwanted)

pub wanted_is : (bs : List Block) (item : MapItem) (rest : List MapItem) → presence bs item.section ≡ Absent →
    item.present ≡ true → present_of bs (item ∷ rest) ≡ None
wanted_is bs item rest f wanted = rw (f, present_of) (cond-true item.present None (present_of bs rest) wanted)

pub inside_is : (bs : List Block) (item : MapItem) (rest : List MapItem) (b : Block) →
    presence bs item.section ≡ Inside b →
    present_of bs (item ∷ rest) ≡ option_map (λ xs. item ∷ xs) (present_of bs rest)
inside_is bs item rest b f = rw (f, present_of) refl

part_is : (bs : List Block) (item : MapItem) (rest : List MapItem) → presence bs item.section ≡ InPart →
    present_of bs (item ∷ rest) ≡ None
part_is bs item rest f = rw (f, present_of) refl

-- two tables that are alike have the same sections of an update, where none overlaps a block in part
present_same : (d : Section → ℕ) (a : Access) (xs ys : List Block) → TableLike d a xs ys → AreApart xs → AreApart ys →
    (maps : List MapItem) → AreSized maps → Covers (each_acts update_acts maps ys).actions a →
    (present_of ys maps ≡ None → ⊥) → present_of xs maps ≡ present_of ys maps
present_same d a xs ys like apart apart' [] sizes covers some = refl
present_same d a xs ys like apart apart' (item ∷ rest) sizes covers some =
    go (find (meets item.section) ys) refl (λ h. present_same d a xs ys like apart apart' rest sizes.rest later h)
  where
    first : Covers (update_acts item ys).actions a
    first =
        covers_left (update_acts item ys).actions
        (each_acts update_acts rest (update_acts item ys).blocks).actions a covers

    later : Covers (each_acts update_acts rest ys).actions a
    later =
        subst (λ bs. Covers (each_acts update_acts rest bs).actions a) (acts_blocks item ys)
        (covers_right (update_acts item ys).actions
        (each_acts update_acts rest (update_acts item ys).blocks).actions a covers)

    absent : find (meets item.section) ys ≡ None →
        ((present_of ys rest ≡ None → ⊥) → present_of xs rest ≡ present_of ys rest) →
        present_of xs (item ∷ rest) ≡ present_of ys (item ∷ rest)
    absent e again =
        let gone : presence ys item.section ≡ Absent = is_absent ys item.section e in
        let gone' : presence xs item.section ≡ Absent =
        is_absent xs item.section (absent_too d a xs ys like apart apart' item.section sizes.size e
        (λ c j. or_left _ _ (reads_head (Counts item.section true) [] a
        (subst (λ acts. Covers acts a) (update_absent item ys gone) first) Tab c j))) in
        let unwanted : item.present ≡ false = false_from_ne_true _ (λ p. some (wanted_is ys item rest gone p)) in
        absent_is xs item rest gone' unwanted
        ∙ (again (λ n. some (absent_is ys item rest gone unwanted ∙ n)) ∙ sym (absent_is ys item rest gone unwanted))

    present : (b : Block) → find (meets item.section) ys ≡ Some b → is_inside item.section b.section ≡ true →
        ((present_of ys rest ≡ None → ⊥) → present_of xs rest ≡ present_of ys rest) →
        present_of xs (item ∷ rest) ≡ present_of ys (item ∷ rest)
    present b e j again =
        inside_is xs item rest (more d b) there'
        ∙ (ap (option_map (λ l. item ∷ l)) (again (λ n. some (inside_is ys item rest b there ∙ ap (option_map (λ l.
        item ∷ l)) n))) ∙ sym (inside_is ys item rest b there))
      where
        there : presence ys item.section ≡ Inside b
        there = is_there ys item.section b e j

        lies : LiesIn a ys item.section b
        lies = record {
          size = sizes.size;
          found = e;
          inside = j;
          touched =
              λ c q. or_left _ _ (reads_head (Counts b.section true)
              (only_if (copies_to item.kind) (CopiesIn item.section) ++ only_if (copies_from item.kind)
              (CopiesOut item.section)) a (subst (λ acts. Covers acts a) (update_there item ys b there) first) Tab c q);
        }

        there' : presence xs item.section ≡ Inside (more d b)
        there' = is_there xs item.section (more d b) (found_too d a xs ys like apart apart' item.section b lies) j

    go : (o : Option Block) → find (meets item.section) ys ≡ o →
        ((present_of ys rest ≡ None → ⊥) → present_of xs rest ≡ present_of ys rest) →
        present_of xs (item ∷ rest) ≡ present_of ys (item ∷ rest)
    go None e again = absent e again
    go (Some b) e again = by (cases_Bool (is_inside item.section b.section))
      where
        by : (is_inside item.section b.section ≡ true) ⊎ (is_inside item.section b.section ≡ false) →
            present_of xs (item ∷ rest) ≡ present_of ys (item ∷ rest)
        by (inl j) = present b e j again
        by (inr j) = absurd (some (part_is ys item rest (is_part ys item.section b e j)))

pub updates_find : (start : FineState) (a a' : State) (b b' : Bool) (m m' : ℕ → List MapItem) (t' : FineState) (i : ℕ) →
    InOrder parts start (Open i) (at_start start a b m) (at_start start a' b' m') →
    Does parts (at_start start a' b' m') (Open i) t' → t'.failed ≡ false →
    (w : Work) → slice_get start.fixed.plan.items i ≡ Some w → w.kind ≡ kind.Update → present_of
    (a.memories.devices w.device).blocks w.maps ≡ present_of (a'.memories.devices w.device).blocks w.maps
updates_find start a a' b b' m m' t' i o d sound w at is =
    subst (λ d. present_of (a.memories.devices d).blocks w.maps ≡ present_of (a'.memories.devices d).blocks w.maps)
    (device_at plan i w at)
    (present_same (others plan m i) (access_of plan i) (own_memories plan i a).device.blocks
    (own_memories plan i a').device.blocks h.tables
    h.apart h.apart' w.maps (sized w.maps (o.starts.lawful i w at).not_empty)
    (subst (λ bs. Covers (each_acts update_acts w.maps bs).actions (access_of plan i)) (sym at_turn.0)
    (subst (λ (x : Acted). Covers x.actions (access_of plan i)) (acts_update w (blocks_before plan i) is)
    (covers_item plan i w at)))
    (λ n. absurd (false≢true (sym sound ∙ failing (sym (ap (λ d. present_of (a'.memories.devices d).blocks w.maps)
    (device_at plan i w at)) ∙ n)))))
  where
    plan : Plan
    plan = start.fixed.plan

    -- how the item stands before its opening
    at_turn : ((own_memories start.fixed.plan i a').device.blocks ≡ blocks_before start.fixed.plan i) × (m' i ≡ [])
    at_turn =
        waiting_at start o.starts i (at_start start a' b' m') o.turn o.turn_valid d
        (slice_get_within plan.items i w at) w at

    stands : Stands start.fixed.plan i (m' i) (own_memories start.fixed.plan i a').device.blocks
    stands c x e =
        let ok = walks_blocks plan o.starts.lawful i in
        let lt : 1 ≤ x.count = is_entered (blocks_before plan i) c x ok.1
        (ap (λ bs. holder bs c) (sym at_turn.0) ∙ e) in
        inl (subst (λ ms. number_inside ms x.section < x.count) (sym at_turn.1) lt)

    h : Meets start.fixed.plan i a a' m m'
    h =
        states_meet start a a' b b' m m' (Open i)
        (resting_looks plan o.starts.lawful (walks_blocks plan o.starts.lawful)) (λ l. refl)
        (slice_get_within plan.items i w at) o stands

    failing : present_of (a'.memories.devices w.device).blocks w.maps ≡ None → t'.failed ≡ true
    failing n =
        ap (λ (x : FineState). x.failed)
        (d.step ∙ ap (result_of (at_start start a' b' m') (event.Open i))
        (at_item plan i w at None (λ w. open_item (start.fixed.order i) i w a')
        ∙ ap (option_map (λ left. with_condition i (Opened left) a'))
        (left_update (start.fixed.order i) w (a'.memories.devices w.device).blocks (begun w (a'.condition i) a') is ∙ ap
        (option_map (λ present. each_left update_left present (λ u. Finished (begun w (a'.condition i) a')))) n)))
