-- What map items do to one cell is what their actions do to all.
use Rattle.std.proofs.Common.{◌≡◌, ℕ, Bool, true, false, List, [], ◌∷◌, ◌++◌, refl, sym, ap, ◌∙◌}
use Rattle.std.specs.Prelude.{if◌then◌else◌, ◌&&◌}
use mathlib.Core.Path.{fun_ext}
use Rattle.base.specs.declared.item.Cell.{Cell}
use Rattle.base.specs.declared.item.MapItem.{MapItem}
use Rattle.base.specs.declared.item.Section.{Section}
use Rattle.base.specs.Memory.{changed, is_in, within}
use Rattle.base.specs.Actions.{Action, Counts, Creates, CopiesIn, CopiesOut, Removes, only_if}
use Rattle.base.specs.Current.{AllCurrent, Current, after_actions, current_at, nowhere}
use Rattle.mapwalk.specs.declared.rows.Acts.{Acts}
use Rattle.mapwalk.specs.Laws.{entry_actions, exit_actions, update_actions}
use Rattle.history.specs.declared.Side.TheVariants.{Host, Device}
use Rattle.history.specs.declared.items.Part.{Part}
use Rattle.history.specs.declared.items.Part.TheVariants.{Entry, Exit, Update}
use Rattle.history.specs.Moves.{acted, all_acted, entered, left, place_if, updated}
use Rattle.history.specs.Places.{Places, at_cell}
use Rattle.history.proofs.Alike.{after_append, at_on, changed_same, on_both, on_device}

-- where the host and a device have these values
abbrev pub with_both : ℕ → Bool → Bool → Places → Places
with_both d host device p = record { host = host; devices = changed d device p.devices }

-- a device's value is lost
lost : (d : ℕ) (b x : Bool) (p : Places) → place_if (b && x) (Device d) false p
    ≡ with_both d p.host (if b then (if x then false else p.devices d) else p.devices d) p
lost d true true p = refl
lost d true false p = λ i. record { host = p.host; devices = sym (changed_same d p.devices) i }
lost d false x p = λ i. record { host = p.host; devices = sym (changed_same d p.devices) i }

-- a device takes the host's value
taken : (d : ℕ) (b x : Bool) (p : Places) → place_if (b && x) (Device d) p.host p
    ≡ with_both d p.host (if b then (if x then p.host else p.devices d) else p.devices d) p
taken d true true p = refl
taken d true false p = λ i. record { host = p.host; devices = sym (changed_same d p.devices) i }
taken d false x p = λ i. record { host = p.host; devices = sym (changed_same d p.devices) i }

-- the host takes a device's value
given : (d : ℕ) (b x : Bool) (p : Places) → place_if (b && x) Host (p.devices d) p
    ≡ with_both d (if b then (if x then p.devices d else p.host) else p.host) (p.devices d) p
given d true true p = λ i. record { host = p.devices d; devices = sym (changed_same d p.devices) i }
given d true false p = λ i. record { host = p.host; devices = sym (changed_same d p.devices) i }
given d false x p = λ i. record { host = p.host; devices = sym (changed_same d p.devices) i }

-- one action, or none
abbrev pub if_acts : Bool → Action → Current → Current
if_acts b a m = after_actions (only_if b a) m

within_if : (c : Cell) (s : Section) (f g : Cell → Bool) → (if is_in c s then f c else g c) ≡ within s f g c
within_if c s f g = go (is_in c s)
  where
    go : (x : Bool) → (if x then f c else g c) ≡ elim x [ true ↦ f c | false ↦ g c ]
    go true = refl
    go false = refl

module _ (c : Cell) (d : ℕ) (k : AllCurrent) where
  creates : (b : Bool) (s : Section) → place_if (b && is_in c s) (Device d) false (at_cell c k) ≡ at_cell c (on_device d (if_acts b (Creates s)) k)
  creates b s = lost d b (is_in c s) (at_cell c k) ∙ go b ∙ sym (at_on c d (if_acts b (Creates s)) k)
    where
      go : (b : Bool) → with_both d (k.host c) (if b then (if is_in c s then false else k.devices d c) else k.devices d c) (at_cell c k)
          ≡ record { host = (if_acts b (Creates s) (current_at d k)).host c; devices = changed d ((if_acts b (Creates s) (current_at d k)).device c) (λ e. k.devices e c) }
      go true = λ i. with_both d (k.host c) (within_if c s nowhere (k.devices d) i) (at_cell c k)
      go false = refl

  removes : (b : Bool) (s : Section) → place_if (b && is_in c s) (Device d) false (at_cell c k) ≡ at_cell c (on_device d (if_acts b (Removes s)) k)
  removes b s = lost d b (is_in c s) (at_cell c k) ∙ go b ∙ sym (at_on c d (if_acts b (Removes s)) k)
    where
      go : (b : Bool) → with_both d (k.host c) (if b then (if is_in c s then false else k.devices d c) else k.devices d c) (at_cell c k)
          ≡ record { host = (if_acts b (Removes s) (current_at d k)).host c; devices = changed d ((if_acts b (Removes s) (current_at d k)).device c) (λ e. k.devices e c) }
      go true = λ i. with_both d (k.host c) (within_if c s nowhere (k.devices d) i) (at_cell c k)
      go false = refl

  copies_in : (b : Bool) (s : Section) → place_if (b && is_in c s) (Device d) (k.host c) (at_cell c k) ≡ at_cell c (on_device d (if_acts b (CopiesIn s)) k)
  copies_in b s = taken d b (is_in c s) (at_cell c k) ∙ go b ∙ sym (at_on c d (if_acts b (CopiesIn s)) k)
    where
      go : (b : Bool) → with_both d (k.host c) (if b then (if is_in c s then k.host c else k.devices d c) else k.devices d c) (at_cell c k)
          ≡ record { host = (if_acts b (CopiesIn s) (current_at d k)).host c; devices = changed d ((if_acts b (CopiesIn s) (current_at d k)).device c) (λ e. k.devices e c) }
      go true = λ i. with_both d (k.host c) (within_if c s k.host (k.devices d) i) (at_cell c k)
      go false = refl

  copies_out : (b : Bool) (s : Section) → place_if (b && is_in c s) Host (k.devices d c) (at_cell c k) ≡ at_cell c (on_device d (if_acts b (CopiesOut s)) k)
  copies_out b s = given d b (is_in c s) (at_cell c k) ∙ go b ∙ sym (at_on c d (if_acts b (CopiesOut s)) k)
    where
      go : (b : Bool) → with_both d (if b then (if is_in c s then k.devices d c else k.host c) else k.host c) (k.devices d c) (at_cell c k)
          ≡ record { host = (if_acts b (CopiesOut s) (current_at d k)).host c; devices = changed d ((if_acts b (CopiesOut s) (current_at d k)).device c) (λ e. k.devices e c) }
      go true = λ i. with_both d (within_if c s (k.devices d) k.host i) (k.devices d c) (at_cell c k)
      go false = refl

-- the actions of a map item, but for the count
abbrev pub acts_of_part : Part → Section → Acts → List Action
acts_of_part Entry s a = only_if a.creates (Creates a.block) ++ only_if a.copies_in (CopiesIn s)
acts_of_part Exit s a = only_if a.copies_out (CopiesOut s) ++ only_if a.removes (Removes a.block)
acts_of_part Update s a = only_if a.copies_in (CopiesIn s) ++ only_if a.copies_out (CopiesOut s)

-- one after another
pub two : (d : ℕ) (xs ys : List Action) (k : AllCurrent) →
    on_device d (after_actions ys) (on_device d (after_actions xs) k) ≡ on_device d (after_actions (xs ++ ys)) k
two d xs ys k = on_both d (after_actions xs) (after_actions ys) k ∙ ap (λ f. on_device d f k) (fun_ext (λ m. sym (after_append xs ys m)))

entry_one : (c : Cell) (d : ℕ) (s : Section) (a : Acts) (k : AllCurrent) →
    entered (Device d) c s a (at_cell c k) ≡ at_cell c (on_device d (after_actions (acts_of_part Entry s a)) k)
entry_one c d s a k =
    ap (λ q. place_if (a.copies_in && is_in c s) (Device d) q.host q) (creates c d k a.creates a.block)
    ∙ copies_in c d (on_device d (if_acts a.creates (Creates a.block)) k) a.copies_in s
    ∙ ap (at_cell c) (two d (only_if a.creates (Creates a.block)) (only_if a.copies_in (CopiesIn s)) k)

exit_one : (c : Cell) (d : ℕ) (s : Section) (a : Acts) (k : AllCurrent) →
    left (Device d) c s a (at_cell c k) ≡ at_cell c (on_device d (after_actions (acts_of_part Exit s a)) k)
exit_one c d s a k =
    ap (λ q. place_if (a.removes && is_in c a.block) (Device d) false q) (copies_out c d k a.copies_out s)
    ∙ removes c d (on_device d (if_acts a.copies_out (CopiesOut s)) k) a.removes a.block
    ∙ ap (at_cell c) (two d (only_if a.copies_out (CopiesOut s)) (only_if a.removes (Removes a.block)) k)

update_one : (c : Cell) (d : ℕ) (s : Section) (a : Acts) (k : AllCurrent) →
    updated (Device d) c s a (at_cell c k) ≡ at_cell c (on_device d (after_actions (acts_of_part Update s a)) k)
update_one c d s a k =
    ap (λ q. place_if (a.copies_out && is_in c s) Host (q.devices d) q) (copies_in c d k a.copies_in s)
    ∙ copies_out c d (on_device d (if_acts a.copies_in (CopiesIn s)) k) a.copies_out s
    ∙ ap (at_cell c) (two d (only_if a.copies_in (CopiesIn s)) (only_if a.copies_out (CopiesOut s)) k)

one : (part : Part) (c : Cell) (d : ℕ) (s : Section) (a : Acts) (k : AllCurrent) →
    acted part (Device d) c s a (at_cell c k) ≡ at_cell c (on_device d (after_actions (acts_of_part part s a)) k)
one Entry c d s a k = entry_one c d s a k
one Exit c d s a k = exit_one c d s a k
one Update c d s a k = update_one c d s a k

-- the actions of map items in turn
abbrev pub actions_by : Part → List MapItem → List Acts → List Action
actions_by Entry maps row = entry_actions maps row
actions_by Exit maps row = exit_actions maps row
actions_by Update maps row = update_actions maps row

next_by : (part : Part) (m : MapItem) (a : Acts) (maps : List MapItem) (row : List Acts) →
    actions_by part (m ∷ maps) (a ∷ row) ≡ Counts a.block a.rests ∷ (acts_of_part part m.section a ++ actions_by part maps row)
next_by Entry m a maps row = refl
next_by Exit m a maps row = refl
next_by Update m a maps row = refl

none_by : (part : Part) (maps : List MapItem) → actions_by part maps [] ≡ []
none_by Entry [] = refl
none_by Entry (m ∷ maps) = refl
none_by Exit [] = refl
none_by Exit (m ∷ maps) = refl
none_by Update [] = refl
none_by Update (m ∷ maps) = refl

done_by : (part : Part) (row : List Acts) → actions_by part [] row ≡ []
done_by Entry row = refl
done_by Exit row = refl
done_by Update row = refl

-- nothing is done
pub nothing : (c : Cell) (d : ℕ) (xs : List Action) (k : AllCurrent) → xs ≡ [] → at_cell c k ≡ at_cell c (on_device d (after_actions xs) k)
nothing c d xs k none =
    (λ i. at_cell c (record { host = k.host; devices = sym (changed_same d k.devices) i }))
    ∙ ap (λ ys. at_cell c (on_device d (after_actions ys) k)) (sym none)

pub all_act : (part : Part) (c : Cell) (d : ℕ) (maps : List MapItem) (row : List Acts) (k : AllCurrent) →
    all_acted part (Device d) c maps row (at_cell c k) ≡ at_cell c (on_device d (after_actions (actions_by part maps row)) k)
all_act part c d [] row k = nothing c d (actions_by part [] row) k (done_by part row)
all_act part c d (m ∷ maps) [] k = nothing c d (actions_by part (m ∷ maps) []) k (none_by part (m ∷ maps))
all_act part c d (m ∷ maps) (a ∷ row) k =
    ap (λ q. all_acted part (Device d) c maps row q) (one part c d m.section a k)
    ∙ all_act part c d maps row (on_device d (after_actions (acts_of_part part m.section a)) k)
    ∙ ap (at_cell c) (two d (acts_of_part part m.section a) (actions_by part maps row) k)
    ∙ ap (λ ys. at_cell c (on_device d (after_actions ys) k)) (sym (next_by part m a maps row))
