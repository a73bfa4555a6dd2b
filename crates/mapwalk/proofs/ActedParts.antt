-- What the map items of an item do, part by part.
use Rattle.std.proofs.Common.{◌≡◌, Bool, true, false, List, [], ◌∷◌, ◌++◌, Option, Some, None, refl, sym, ap, ◌∙◌, append_assoc}
use Rattle.base.specs.declared.item.Cell.{Cell}
use Rattle.base.specs.declared.item.MapItem.{MapItem}
use Rattle.base.specs.Map.{Block, Move, Presence, Absent, Inside, InPart, blocks_after, copies_from, copies_to, entry, exit, presence}
use Rattle.base.specs.Actions.{Acted, Action, Counts, Creates, CopiesIn, CopiesOut, Removes, Met, each_acts, entry_acts, exit_acts, here, only_if, update_acts}
use Rattle.base.specs.Current.{Current, after_action, after_actions}
use Rattle.base.specs.Accepted.{reads_stale}
use Rattle.base.proofs.Moves.{update_acts_of}
use Rattle.mapwalk.specs.declared.rows.Acts.{Acts}
use Rattle.mapwalk.specs.Acts.{entered, entries_after, entry_of, entry_row, exit_of, exit_row, exits_after, left, moved, update_row, updated}
use Rattle.mapwalk.specs.Seen.{entry_mets, exit_mets, update_mets}
use Rattle.mapwalk.specs.Sides.{act_if, after_act, after_acts}

pub after_append : (xs ys : List Action) (k : Current) → after_actions (xs ++ ys) k ≡ after_actions ys (after_actions xs k)
after_append [] ys k = refl
after_append (a ∷ xs) ys k = after_append xs ys (after_action a k)

-- actions with no region among them
abbrev pub IsQuiet : List Action → Type 0
IsQuiet xs = (rest : List Action) (k : Current) (c : Cell) → reads_stale (xs ++ rest) k c ≡ reads_stale rest (after_actions xs k) c

quiet_append : (xs ys : List Action) → IsQuiet xs → IsQuiet ys → IsQuiet (xs ++ ys)
quiet_append xs ys h e rest k c =
    ap (λ zs. reads_stale zs k c) (append_assoc xs ys rest) ∙ h (ys ++ rest) k c ∙ e rest (after_actions xs k) c
    ∙ ap (λ j. reads_stale rest j c) (sym (after_append xs ys k))

-- what one map item does is as its row says
pub record IsOne (item : MapItem) (blocks : List Block) (a : Acts) (next : List Block) (d : Acted) : Type 0 where
  pub met : d.met ≡ here item blocks
  pub blocks_after : d.blocks ≡ next
  pub current : (k : Current) → after_actions d.actions k ≡ after_act item.section a k
  pub quiet : IsQuiet d.actions

pub record AreAll (maps : List MapItem) (mets : List Met) (row : List Acts) (next : List Block) (d : Acted) : Type 0 where
  pub met : d.met ≡ mets
  pub blocks_after : d.blocks ≡ next
  pub current : (k : Current) → after_actions d.actions k ≡ after_acts maps row k
  pub quiet : IsQuiet d.actions

one_more : (f : MapItem → List Block → Acted) (item : MapItem) (maps : List MapItem) (blocks next last : List Block)
    (a : Acts) (row : List Acts) (mets : List Met) → IsOne item blocks a next (f item blocks) →
    AreAll maps mets row last (each_acts f maps next) →
    AreAll (item ∷ maps) (record { item = item; blocks = blocks } ∷ mets) (a ∷ row) last (each_acts f (item ∷ maps) blocks)
one_more f item maps blocks next last a row mets one all =
    let first = f item blocks in
    let rest = each_acts f maps first.blocks in
    record {
      met =
          ap (λ xs. xs ++ rest.met) one.met
          ∙ ap (λ xs. record { item = item; blocks = blocks } ∷ xs)
          (ap (λ bs. (each_acts f maps bs).met) one.blocks_after ∙ all.met);
      blocks_after = ap (λ bs. (each_acts f maps bs).blocks) one.blocks_after ∙ all.blocks_after;
      current = λ k.
          after_append first.actions rest.actions k
          ∙ ap (λ bs. after_actions (each_acts f maps bs).actions (after_actions first.actions k)) one.blocks_after
          ∙ ap (after_actions (each_acts f maps next).actions) (one.current k)
          ∙ all.current (after_act item.section a k);
      quiet = quiet_append first.actions rest.actions one.quiet
          (λ r k c. ap (λ bs. reads_stale ((each_acts f maps bs).actions ++ r) k c) one.blocks_after
          ∙ all.quiet r k c
          ∙ ap (λ bs. reads_stale r (after_actions (each_acts f maps bs).actions k) c) (sym one.blocks_after));
    }

abbrev entered_acts : Bool → MapItem → List Block → Option Move → Acted
entered_acts resting item blocks None = record { actions = []; met = here item blocks; blocks = blocks }
entered_acts resting item blocks (Some m) =
    record {
      actions = Counts m.block resting ∷ (only_if m.changes (Creates m.block) ++ only_if m.copies (CopiesIn item.section));
      met = here item blocks;
      blocks = m.blocks;
    }

one_entered : (resting : Bool) (item : MapItem) (blocks : List Block) (o : Option Move) →
    IsOne item blocks (moved (entered resting) item.section o) (blocks_after blocks o) (entered_acts resting item blocks o)
one_entered resting item blocks None = record { met = refl; blocks_after = refl; current = λ k. refl; quiet = λ r k c. refl }
one_entered resting item blocks (Some m) =
    record {
      met = refl;
      blocks_after = refl;
      current = λ k. effect m.changes m.copies k;
      quiet = silent m.changes m.copies;
    }
  where
    effect : (a b : Bool) (k : Current) →
        after_actions (Counts m.block resting ∷ (only_if a (Creates m.block) ++ only_if b (CopiesIn item.section))) k
        ≡ act_if b (CopiesIn item.section) (act_if a (Creates m.block) k)
    effect true true k = refl
    effect true false k = refl
    effect false true k = refl
    effect false false k = refl

    silent : (a b : Bool) → IsQuiet (Counts m.block resting ∷ (only_if a (Creates m.block) ++ only_if b (CopiesIn item.section)))
    silent true true r k c = refl
    silent true false r k c = refl
    silent false true r k c = refl
    silent false false r k c = refl

pub all_entered : (f : MapItem → Bool) (maps : List MapItem) (blocks : List Block) →
    AreAll maps (entry_mets maps blocks) (entry_row f maps blocks) (entries_after maps blocks) (each_acts (entry_acts f) maps blocks)
all_entered f [] blocks = record { met = refl; blocks_after = refl; current = λ k. refl; quiet = λ r k c. refl }
all_entered f (item ∷ maps) blocks =
    let next = blocks_after blocks (entry item blocks) in
    one_more (entry_acts f) item maps blocks next (entries_after maps next) (entry_of (f item) item blocks)
    (entry_row f maps next) (entry_mets maps next) (one_entered (f item) item blocks (entry item blocks)) (all_entered f maps next)

abbrev left_acts : Bool → MapItem → List Block → Option Move → Acted
left_acts resting item blocks None = record { actions = []; met = here item blocks; blocks = blocks }
left_acts resting item blocks (Some m) =
    record {
      actions = Counts m.block resting ∷ (only_if m.copies (CopiesOut item.section) ++ only_if m.changes (Removes m.block));
      met = here item blocks;
      blocks = m.blocks;
    }

one_left : (resting : Bool) (item : MapItem) (blocks : List Block) (o : Option Move) →
    IsOne item blocks (moved (left resting) item.section o) (blocks_after blocks o) (left_acts resting item blocks o)
one_left resting item blocks None = record { met = refl; blocks_after = refl; current = λ k. refl; quiet = λ r k c. refl }
one_left resting item blocks (Some m) =
    record {
      met = refl;
      blocks_after = refl;
      current = λ k. effect m.copies m.changes k;
      quiet = silent m.copies m.changes;
    }
  where
    effect : (a b : Bool) (k : Current) →
        after_actions (Counts m.block resting ∷ (only_if a (CopiesOut item.section) ++ only_if b (Removes m.block))) k
        ≡ act_if b (Removes m.block) (act_if a (CopiesOut item.section) k)
    effect true true k = refl
    effect true false k = refl
    effect false true k = refl
    effect false false k = refl

    silent : (a b : Bool) → IsQuiet (Counts m.block resting ∷ (only_if a (CopiesOut item.section) ++ only_if b (Removes m.block)))
    silent true true r k c = refl
    silent true false r k c = refl
    silent false true r k c = refl
    silent false false r k c = refl

pub all_left : (f : MapItem → Bool) (maps : List MapItem) (blocks : List Block) →
    AreAll maps (exit_mets maps blocks) (exit_row f maps blocks) (exits_after maps blocks) (each_acts (exit_acts f) maps blocks)
all_left f [] blocks = record { met = refl; blocks_after = refl; current = λ k. refl; quiet = λ r k c. refl }
all_left f (item ∷ maps) blocks =
    let next = blocks_after blocks (exit item blocks) in
    one_more (exit_acts f) item maps blocks next (exits_after maps next) (exit_of (f item) item blocks)
    (exit_row f maps next) (exit_mets maps next) (one_left (f item) item blocks (exit item blocks)) (all_left f maps next)

one_updated : (item : MapItem) (blocks : List Block) (at : Presence) →
    IsOne item blocks (updated item at) blocks (update_acts_of item blocks at)
one_updated item blocks Absent = record { met = refl; blocks_after = refl; current = λ k. refl; quiet = λ r k c. refl }
one_updated item blocks InPart = record { met = refl; blocks_after = refl; current = λ k. refl; quiet = λ r k c. refl }
one_updated item blocks (Inside b) =
    record {
      met = refl;
      blocks_after = refl;
      current = λ k. effect (copies_to item.kind) (copies_from item.kind) k;
      quiet = silent (copies_to item.kind) (copies_from item.kind);
    }
  where
    effect : (p q : Bool) (k : Current) →
        after_actions (Counts b.section true ∷ (only_if p (CopiesIn item.section) ++ only_if q (CopiesOut item.section))) k
        ≡ act_if q (CopiesOut item.section) (act_if p (CopiesIn item.section) k)
    effect true true k = refl
    effect true false k = refl
    effect false true k = refl
    effect false false k = refl

    silent : (p q : Bool) → IsQuiet (Counts b.section true ∷ (only_if p (CopiesIn item.section) ++ only_if q (CopiesOut item.section)))
    silent true true r k c = refl
    silent true false r k c = refl
    silent false true r k c = refl
    silent false false r k c = refl

pub all_updated : (maps : List MapItem) (blocks : List Block) →
    AreAll maps (update_mets maps blocks) (update_row maps blocks) blocks (each_acts update_acts maps blocks)
all_updated [] blocks = record { met = refl; blocks_after = refl; current = λ k. refl; quiet = λ r k c. refl }
all_updated (item ∷ maps) blocks =
    one_more update_acts item maps blocks blocks blocks (updated item (presence blocks item.section))
    (update_row maps blocks) (update_mets maps blocks) (one_updated item blocks (presence blocks item.section)) (all_updated maps blocks)
