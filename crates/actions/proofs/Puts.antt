-- Parts that are put before others as an item is opened.
use Rattle.std.proofs.Common.{◌≡◌, ℕ, zero, suc, ◌+◌, ◌∷◌, [], List, Option, Some, None, Bool, true, false, Bor, refl, ap, sym, ◌∙◌, subst, arith, ◌<◌, length, drop, get_or, drop-cons}
use Rattle.std.specs.Prelude.{option_map}
use Rattle.base.specs.declared.item.Cell.{Cell}
use Rattle.base.specs.declared.item.MapItem.{MapItem}
use Rattle.base.specs.declared.item.Section.{Section}
use Rattle.base.specs.declared.tree.Region.{Region}
use Rattle.base.specs.declared.tree.Stmt.{Stmt}
use Rattle.base.specs.Map.{Block, Device, Presence, Absent, Inside, InPart, presence}
use Rattle.base.specs.Meaning.{Run}
use Rattle.fine_machine.specs.Left.{Left, Side, Request, CopyIn, CopyOut, each_left, cells_left, left_if, section_left, update_left, region_left, list_left, present_of}
use Rattle.present.specs.Table.{IsPresence, Shows, place_of}
use Rattle.present.specs.declared.Table.{Table}
use Rattle.present.specs.declared.presence.Presence.TheVariants as place
use Rattle.actions.specs.declared.frame.Frame.{Frame}
use Rattle.actions.specs.declared.frame.Frame.TheVariants as frame
use Rattle.actions.specs.declared.turns.Cells.{Cells}
use Rattle.actions.specs.Rest.{rest_of}
use Rattle.actions.specs.Opening.{IsRegion, Puts, PutsMaps, Updates, UpdatesOne}

-- a part that goes on as said is put before the others
put_cells : (ask : Cell → Request) (f : Frame) (copies : Bool) (cells : Cells) (s : Section) (old new : List Frame) →
    ((side : Side) (loops : List ℕ) (t : Run) → rest_of side (f ∷ old) loops 0 t
    ≡ cells_left ask cells.array cells.first cells.count (λ u. rest_of side old loops 0 t)) →
    copies ≡ true → cells.array ≡ s.array → cells.first ≡ s.first → cells.count ≡ s.length → new ≡ f ∷ old →
    PutsMaps (left_if copies (section_left ask s)) old new
put_cells ask f copies cells s old new goes said array_is first_is count_is new_is side loops t =
    ap (λ fs. rest_of side fs loops 0 t) new_is ∙ goes side loops t
    ∙ (λ i. cells_left ask (array_is i) (first_is i) (count_is i) (λ u. rest_of side old loops 0 t))
    ∙ ap (λ b. left_if b (section_left ask s) (λ u. rest_of side old loops 0 t)) (sym said)

pub puts_in : (copies : Bool) (cells : Cells) (s : Section) (old new : List Frame) →
    copies ≡ true → cells.array ≡ s.array → cells.first ≡ s.first → cells.count ≡ s.length →
    new ≡ frame.CopyIn cells ∷ old → PutsMaps (left_if copies (section_left CopyIn s)) old new
unfolding rest_of
puts_in copies cells s old new = put_cells CopyIn (frame.CopyIn cells) copies cells s old new (λ side loops t. refl)

pub puts_out : (copies : Bool) (cells : Cells) (s : Section) (old new : List Frame) →
    copies ≡ true → cells.array ≡ s.array → cells.first ≡ s.first → cells.count ≡ s.length →
    new ≡ frame.CopyOut cells ∷ old → PutsMaps (left_if copies (section_left CopyOut s)) old new
unfolding rest_of
puts_out copies cells s old new = put_cells CopyOut (frame.CopyOut cells) copies cells s old new (λ side loops t. refl)

-- one part before another
pub puts_both : (a b : Side → List ℕ → Run → (Run → Left) → Left) (old mid new : List Frame) →
    Puts a old mid → Puts b mid new →
    Puts (λ side loops s k. b side loops s (λ t. a side loops t k)) old new
puts_both a b old mid new p q side loops s = q side loops s ∙ ap (b side loops s) (λ i t. p side loops t i)

-- the statements of a region
pub puts_region : (e : Bor Region) (xs : Bor (List Stmt)) (r : Option Region) (old new : List Frame) →
    IsRegion (Some e) r → xs.now ≡ e.now.body.items → new ≡ frame.Rest xs ∷ old → Puts (region_left r) old new
unfolding rest_of
puts_region e xs r old new is body_is new_is side loops s =
    ap (λ fs. rest_of side fs loops 0 s) new_is
    ∙ ap (λ ys. list_left ys side loops s (λ t. rest_of side old loops 0 t)) body_is
    ∙ ap (λ o. region_left o side loops s (λ t. rest_of side old loops 0 t)) (sym is)

-- a section of an update that has storage
present_inside : (item : MapItem) (rest : List MapItem) (blocks : List Block) →
    place_of (presence blocks item.section) ≡ place.Inside →
    present_of blocks (item ∷ rest) ≡ option_map (λ xs. item ∷ xs) (present_of blocks rest)
present_inside item rest blocks is = go (presence blocks item.section) refl
  where
    go : (p : Presence) → presence blocks item.section ≡ p →
        present_of blocks (item ∷ rest) ≡ option_map (λ xs. item ∷ xs) (present_of blocks rest)
    go Absent e = absurd (grind (arith, sym (ap place_of e) ∙ is))
    go (Inside b) e = rw (e, present_of) refl
    go InPart e = absurd (grind (arith, sym (ap place_of e) ∙ is))

pub updates_inside : (t : Table) (item : MapItem) (mid new : List Frame) → IsPresence item.section t place.Inside →
    PutsMaps (update_left item) mid new → UpdatesOne t item true mid new
updates_inside t item mid new is put d rest old shown u = record {
  there = item ∷ u.there;
  are = present_inside item rest d.blocks (is d shown) ∙ ap (option_map (λ xs. item ∷ xs)) u.are;
  left = puts_both (λ side loops s k. each_left update_left u.there (λ v. k s))
      (λ side loops s k. update_left item (λ v. k s))
      old mid new u.left put;
}

-- where those after some fail, so do all
none_more : (item : MapItem) (rest : List MapItem) (blocks : List Block) → present_of blocks rest ≡ None →
    present_of blocks (item ∷ rest) ≡ None
none_more item rest blocks none = go (presence blocks item.section) refl item.present refl
  where
    go : (p : Presence) → presence blocks item.section ≡ p → (b : Bool) → item.present ≡ b →
        present_of blocks (item ∷ rest) ≡ None
    go Absent e true i = rw (e, i, present_of) refl
    go Absent e false i = rw (e, i, none, present_of) refl
    go (Inside b) e c i = rw (e, none, present_of) refl
    go InPart e c i = rw (e, present_of) refl

none_all : (n : ℕ) (items : List MapItem) (blocks : List Block) → present_of blocks (drop n items) ≡ None →
    present_of blocks items ≡ None
none_all zero items blocks none = none
none_all (suc n) [] blocks none = none
none_all (suc n) (item ∷ rest) blocks none = none_more item rest blocks (none_all n rest blocks none)

at_drop : (items : List MapItem) (n m : ℕ) (e : MapItem) → m + 1 ≡ n → m < length items →
    drop m items ≡ get_or items m e ∷ drop n items
at_drop items n m e next within =
    let after : suc m ≡ n = omega (arith, next) in
    drop-cons items m e within ∙ ap (λ k. get_or items m e ∷ drop k items) after

-- the sections from one on
abbrev pub From : Table → List MapItem → ℕ → List Frame → List Frame → Type 0
From t items n old new = (d : Device) → Shows t d → Updates d.blocks (drop n items) old new

-- where one fails, so do all
pub from_none : (t : Table) (items : List MapItem) (n m : ℕ) (e : MapItem) (done : Bool) (mid new : List Frame) →
    m + 1 ≡ n → m < length items → done ≡ false → UpdatesOne t (get_or items m e) done mid new →
    (d : Device) → Shows t d →
    present_of d.blocks items ≡ None
from_none t items n m e done mid new next within is one d shown =
    none_all m items d.blocks
    (ap (present_of d.blocks) (at_drop items n m e next within)
    ∙ subst (λ b. UpdatesOne t (get_or items m e) b mid new) is one d (drop n items) shown)
