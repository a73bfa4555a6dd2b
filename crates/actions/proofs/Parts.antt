-- The parts that stand for an item.
use Rattle.std.proofs.Common.{◌≡◌, ◌∷◌, [], List, Option, Some, None, Bool, true, false, refl, ap, sym, ◌∙◌, ℕ}
use Rattle.std.specs.Prelude.{option_map}
use Rattle.base.specs.declared.item.Item.{Item}
use Rattle.base.specs.declared.item.ItemKind.{ItemKind}
use Rattle.base.specs.declared.item.ItemKind.TheVariants as kind
use Rattle.base.specs.declared.item.MapItem.{MapItem}
use Rattle.base.specs.declared.tree.Region.{Region}
use Rattle.base.specs.Items.{Work}
use Rattle.base.specs.Map.{Block}
use Rattle.base.specs.Meaning.{Run}
use Rattle.fine_machine.specs.Left.{Left, Finished, Side, each_left, entry_left, exit_left, update_left, region_left, kernel_left, present_of, item_left, OnDevice}
use Rattle.present.specs.declared.Table.{Table}
use Rattle.actions.specs.declared.frame.Frame.{Frame}
use Rattle.actions.specs.declared.frame.Frame.TheVariants as frame
use Rattle.actions.specs.declared.maps.Maps.{Maps}
use Rattle.actions.specs.Rest.{rest_of}
use Rattle.actions.specs.declared.unordered.Unordered.{Unordered}
use Rattle.actions.specs.Control.{and_kernel}
use Rattle.actions.specs.Strand.{side_of}
use Rattle.actions.specs.Opening.{IsInOrder, IsPut, IsWork, Puts, PutsMaps, UpdatesAll, is_host}
use Rattle.actions.proofs.Puts.{puts_both}

-- an item of this kind
abbrev pub work_of : Item → Option Region → ItemKind → Work → Work
work_of it r k w = record w { kind = k; maps = it.maps.items; region = r; loops = it.loops.values.items }

pub as_is : (order : List ℕ) (it : Item) (r : Option Region) (k : ItemKind) (w : Work) (blocks : List Block) (s : Run) →
    it.kind ≡ k → IsWork it r w →
    item_left order w blocks s ≡ item_left order (work_of it r k w) blocks s
as_is order it r k w blocks s is work =
    λ i. item_left order
    (record w { kind = (work.kind ∙ is) i; maps = work.maps i; region = work.region i; loops = work.loops i })
    blocks s

-- a part before nothing
whole : (part : Side → List ℕ → Run → (Run → Left) → Left) (old new : List Frame) → old ≡ [] → Puts part old new →
    (side : Side) (loops : List ℕ) (s : Run) → part side loops s Finished ≡ rest_of side new loops 0 s
unfolding rest_of
whole part old new none put side loops s =
    sym (put side loops s ∙ ap (λ fs. part side loops s (λ t. rest_of side fs loops 0 t)) none)

-- a part that is an item
pub put_part : (order : List ℕ) (kernel : Option Unordered) (k : ItemKind) (part : Side → List ℕ → Run → (Run → Left) → Left) (it : Item) (r : Option Region)
    (t : Table) (old new : List Frame) → kernel ≡ None → it.kind ≡ k → old ≡ [] → Puts part old new →
    ((w : Work) (blocks : List Block) (s : Run) → item_left order (work_of it r k w) blocks s
    ≡ Some (part (side_of (is_host k)) it.loops.values.items s Finished)) →
    IsPut it r order kernel t true new
put_part order kernel k part it r t old new in_order is none put same w d s work shown =
    as_is order it r k w d.blocks s is work ∙ same w d.blocks s
    ∙ ap Some (whole part old new none put (side_of (is_host k)) it.loops.values.items s)
    ∙ ap (λ j. Some (rest_of (side_of (is_host j)) new it.loops.values.items 0 s)) (sym is)
    ∙ ap (λ u. Some (and_kernel order u (rest_of (side_of (is_host it.kind)) new it.loops.values.items 0 s))) (sym in_order)

pub puts_entries : (maps : Maps) (xs : List MapItem) (old new : List Frame) → maps.items.now ≡ xs →
    new ≡ frame.Entries maps ∷ old → PutsMaps (each_left entry_left xs) old new
unfolding rest_of
puts_entries maps xs old new maps_is new_is side loops s =
    ap (λ fs. rest_of side fs loops 0 s) new_is
    ∙ ap (λ ys. each_left entry_left ys (λ u. rest_of side old loops 0 s)) maps_is

pub puts_exits : (maps : Maps) (xs : List MapItem) (old new : List Frame) → maps.items.now ≡ xs →
    new ≡ frame.Exits maps ∷ old → PutsMaps (each_left exit_left xs) old new
unfolding rest_of
puts_exits maps xs old new maps_is new_is side loops s =
    ap (λ fs. rest_of side fs loops 0 s) new_is
    ∙ ap (λ ys. each_left exit_left ys (λ u. rest_of side old loops 0 s)) maps_is

-- a kernel of which the turns run in order
kernel_in_order : (order : List ℕ) (r : Option Region) (loops : List ℕ) (s : Run) (k : Run → Left) → IsInOrder r →
    kernel_left order r loops s k ≡ region_left r OnDevice loops s k
kernel_in_order order None loops s k e = refl
kernel_in_order order (Some r) loops s k e = rw (e, kernel_left) refl

-- an item of each kind
module _ (it : Item) (r : Option Region) (order : List ℕ) (kernel : Option Unordered) (t : Table)
    (in_order : kernel ≡ None) where
  abbrev entries : Side → List ℕ → Run → (Run → Left) → Left
  entries side loops s k = each_left entry_left it.maps.items (λ u. k s)

  abbrev exits : Side → List ℕ → Run → (Run → Left) → Left
  exits side loops s k = each_left exit_left it.maps.items (λ u. k s)

  pub put_host : (old new : List Frame) → it.kind ≡ kind.Host → old ≡ [] → Puts (region_left r) old new →
      IsPut it r order kernel t true new
  put_host old new is none put =
      put_part order kernel kind.Host (region_left r) it r t old new in_order is none put (λ w blocks s. refl)

  pub put_target : (old with_exits with_region new : List Frame) → it.kind ≡ kind.Target → old ≡ [] →
      PutsMaps (each_left exit_left it.maps.items) old with_exits → Puts (region_left r) with_exits with_region →
      PutsMaps (each_left entry_left it.maps.items) with_region new → IsInOrder r → IsPut it r order kernel t true new
  put_target old with_exits with_region new is none leave region enter plain =
      put_part order kernel kind.Target
      (λ side loops s k. entries side loops s (λ t. region_left r side loops t (λ t'. exits side loops t' k)))
      it r t old new in_order is none
      (puts_both (λ side loops s k. region_left r side loops s (λ t. exits side loops t k)) entries old with_region new
      (puts_both exits (region_left r) old with_exits with_region leave region) enter)
      (λ w blocks s. ap (λ l. Some (each_left entry_left it.maps.items (λ u. l)))
      (kernel_in_order order r it.loops.values.items s (λ t. each_left exit_left it.maps.items (λ u. Finished t)) plain))

  pub put_begin : (old new : List Frame) → it.kind ≡ kind.Begin → old ≡ [] →
      PutsMaps (each_left entry_left it.maps.items) old new → IsPut it r order kernel t true new
  put_begin old new is none put = put_part order kernel kind.Begin entries it r t old new in_order is none put (λ w blocks s. refl)

  pub put_enter : (old new : List Frame) → it.kind ≡ kind.Enter → old ≡ [] →
      PutsMaps (each_left entry_left it.maps.items) old new → IsPut it r order kernel t true new
  put_enter old new is none put = put_part order kernel kind.Enter entries it r t old new in_order is none put (λ w blocks s. refl)

  pub put_end : (old new : List Frame) → it.kind ≡ kind.End → old ≡ [] →
      PutsMaps (each_left exit_left it.maps.items) old new → IsPut it r order kernel t true new
  put_end old new is none put = put_part order kernel kind.End exits it r t old new in_order is none put (λ w blocks s. refl)

  pub put_exit : (old new : List Frame) → it.kind ≡ kind.Exit → old ≡ [] →
      PutsMaps (each_left exit_left it.maps.items) old new → IsPut it r order kernel t true new
  put_exit old new is none put = put_part order kernel kind.Exit exits it r t old new in_order is none put (λ w blocks s. refl)

  pub put_wait : (frames : List Frame) → it.kind ≡ kind.Wait → frames ≡ [] → IsPut it r order kernel t true frames
  put_wait frames is none =
      put_part order kernel kind.Wait (λ side loops s k. k s) it r t frames frames in_order is none (λ side loops s. refl)
      (λ w blocks s. refl)

  pub put_update : (items : List MapItem) (done : Bool) (old new : List Frame) → it.kind ≡ kind.Update → old ≡ [] →
      items ≡ it.maps.items → UpdatesAll t items done old new → IsPut it r order kernel t done new
  put_update items true old new is none items_is all = λ w d s work shown.
      let u = all d shown in
      let part = λ (side : Side) (loops : List ℕ) (s : Run) (k : Run → Left).
      each_left update_left u.there (λ v. k s) in
      as_is order it r kind.Update w d.blocks s is work
      ∙ ap (option_map (λ there. each_left update_left there (λ v. Finished s)))
      (ap (present_of d.blocks) (sym items_is) ∙ u.are)
      ∙ ap Some (whole part old new none u.left (side_of false) it.loops.values.items s)
      ∙ ap (λ j. Some (rest_of (side_of (is_host j)) new it.loops.values.items 0 s)) (sym is)
      ∙ ap (λ v. Some (and_kernel order v (rest_of (side_of (is_host it.kind)) new it.loops.values.items 0 s))) (sym in_order)
  put_update items false old new is none items_is all = λ w d s work shown.
      as_is order it r kind.Update w d.blocks s is work
      ∙ ap (option_map (λ there. each_left update_left there (λ v. Finished s)))
      (ap (present_of d.blocks) (sym items_is) ∙ all d shown)
