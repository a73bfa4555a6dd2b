-- What is left of an item that is opened, by its kind.
use Rattle.std.proofs.Common.{◌≡◌, ℕ, List, Some, refl}
use Rattle.std.specs.Prelude.{option_map}
use Rattle.base.specs.declared.item.ItemKind.TheVariants as kind
use Rattle.base.specs.Meaning.{Run}
use Rattle.base.specs.Items.{Work}
use Rattle.base.specs.Map.{Block}
use Rattle.fine_machine.specs.Left.{Finished, OnHost, update_left, entry_left, exit_left, each_left, present_of, region_left, kernel_left, item_left}

pub left_host : (order : List ℕ) (w : Work) (bs : List Block) (s : Run) → w.kind ≡ kind.Host →
    item_left order w bs s ≡ Some (region_left w.region OnHost w.loops s Finished)
left_host order w bs s e = rw (e, item_left) refl

pub left_target : (order : List ℕ) (w : Work) (bs : List Block) (s : Run) → w.kind ≡ kind.Target →
    item_left order w bs s ≡ Some (each_left entry_left w.maps
    (λ u. kernel_left order w.region w.loops s (λ t. each_left exit_left w.maps (λ u. Finished t))))
left_target order w bs s e = rw (e, item_left) refl

pub left_begin : (order : List ℕ) (w : Work) (bs : List Block) (s : Run) → w.kind ≡ kind.Begin →
    item_left order w bs s ≡ Some (each_left entry_left w.maps (λ u. Finished s))
left_begin order w bs s e = rw (e, item_left) refl

pub left_enter : (order : List ℕ) (w : Work) (bs : List Block) (s : Run) → w.kind ≡ kind.Enter →
    item_left order w bs s ≡ Some (each_left entry_left w.maps (λ u. Finished s))
left_enter order w bs s e = rw (e, item_left) refl

pub left_end : (order : List ℕ) (w : Work) (bs : List Block) (s : Run) → w.kind ≡ kind.End →
    item_left order w bs s ≡ Some (each_left exit_left w.maps (λ u. Finished s))
left_end order w bs s e = rw (e, item_left) refl

pub left_exit : (order : List ℕ) (w : Work) (bs : List Block) (s : Run) → w.kind ≡ kind.Exit →
    item_left order w bs s ≡ Some (each_left exit_left w.maps (λ u. Finished s))
left_exit order w bs s e = rw (e, item_left) refl

pub left_update : (order : List ℕ) (w : Work) (bs : List Block) (s : Run) → w.kind ≡ kind.Update →
    item_left order w bs s ≡ option_map (λ present. each_left update_left present (λ u. Finished s)) (present_of bs w.maps)
left_update order w bs s e = rw (e, item_left) refl

pub left_wait : (order : List ℕ) (w : Work) (bs : List Block) (s : Run) → w.kind ≡ kind.Wait → item_left order w bs s ≡ Some (Finished s)
left_wait order w bs s e = rw (e, item_left) refl
