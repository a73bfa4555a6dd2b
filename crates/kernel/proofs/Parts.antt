-- Which turns of a block take part.
use Rattle.std.proofs.Common.{◌≡◌, ℕ, ◌+◌, ◌-◌, Bool, true, false, List, length, replicate, Option, Some, None, sym, ap, ap₂, ◌∙◌, Bor}
use Rattle.std.specs.Prelude.{◌&&◌, slice_index, slice_index_or}
use Rattle.std.proofs.lemmas.List.{get_or-replicate, length-replicate}
use mathlib.Core.Path.{fun_ext}
use Rattle.base.specs.declared.tree.ArrayId.{ArrayId}
use Rattle.base.specs.Memory.{View}
use Rattle.lanes.specs.Apart.{own_value_places, in_block, with_lanes}
use Rattle.kernel.specs.Lanes.{IsStoredIn, some_of, takes_part}
use Rattle.kernel.specs.Masks.{IsMask}
use Rattle.kernel.specs.Offsets.{moved_by}
use Rattle.kernel.specs.declared.turns.Turns.{Turns}

pub takes_all : (at : Turns) (k : ℕ) → at.mask ≡ None → takes_part at k ≡ true
takes_all at k h = ap (λ (o : Option (Bor (List Bool))). elim o as (λ x. Bool) [ None ↦ true | Some m ↦ slice_index_or m.now k false ]) h

pub takes_some : (at : Turns) (mask : Bor (List Bool)) (k : ℕ) → at.mask ≡ Some mask →
    takes_part at k ≡ slice_index_or mask.now k false
takes_some at mask k h = ap (λ (o : Option (Bor (List Bool))). elim o as (λ x. Bool) [ None ↦ true | Some m ↦ slice_index_or m.now k false ]) h

pub full_mask : (at : Turns) (xs : List Bool) → at.mask ≡ None → xs ≡ replicate at.count true → IsMask at.count (takes_part at) xs
full_mask at xs none is =
    record {
      size = ap length is ∙ simp length-replicate;
      each = λ k lt. ap (λ (ys : List Bool). slice_index_or ys k false) is ∙ get_or-replicate at.count k true false lt ∙ sym (takes_all at k none);
    }

pub given_mask : (at : Turns) (mask : Bor (List Bool)) (xs : List Bool) → at.mask ≡ Some mask → xs ≡ mask.now →
    IsMask at.count (takes_part at) xs
given_mask at mask xs some is =
    record {
      size = ap length is ∙ at.each mask some;
      each = λ k lt. ap (λ (ys : List Bool). slice_index_or ys k false) is ∙ sym (takes_some at mask k some);
    }

-- what is stored in a run of cells, or in some of them, is what the turns store that take part
pub stored_all : (at : Turns) (a : ArrayId) (xs : List ℕ) (from : ℕ) (old new : View) → at.mask ≡ None →
    from ≡ moved_by at.offset + at.first → length xs ≡ at.count →
    new ≡ with_lanes own_value_places (in_block from (length xs)) a.0 (λ v. slice_index xs (v - from)) old →
    IsStoredIn (takes_part at) (moved_by at.offset + at.first) at.count a.0 (slice_index xs) old new
stored_all at a xs from old new none begins size is =
    is ∙ ap₂ (λ w n. with_lanes own_value_places (in_block w n) a.0 (λ v. slice_index xs (v - w)) old) begins size
    ∙ ap (λ (inside : ℕ → Bool). with_lanes own_value_places inside a.0 (λ v. slice_index xs (v - (moved_by at.offset + at.first))) old)
    (fun_ext (λ (v : ℕ). sym (ap (λ b. b && in_block (moved_by at.offset + at.first) at.count v)
    (takes_all at (v - (moved_by at.offset + at.first)) none))))

pub stored_some : (at : Turns) (mask : Bor (List Bool)) (a : ArrayId) (xs : List ℕ) (from : ℕ) (old new : View) → at.mask ≡ Some mask →
    from ≡ moved_by at.offset + at.first → length xs ≡ at.count →
    IsStoredIn (λ k. slice_index_or mask.now k false) from (length xs) a.0 (slice_index xs) old new →
    IsStoredIn (takes_part at) (moved_by at.offset + at.first) at.count a.0 (slice_index xs) old new
stored_some at mask a xs from old new some begins size is =
    is ∙ ap₂ (λ w n. with_lanes own_value_places (some_of (λ k. slice_index_or mask.now k false) w n) a.0 (λ v. slice_index xs (v - w)) old) begins size
    ∙ ap (λ (part : ℕ → Bool). with_lanes own_value_places (some_of part (moved_by at.offset + at.first) at.count) a.0
    (λ v. slice_index xs (v - (moved_by at.offset + at.first))) old)
    (fun_ext (λ (k : ℕ). sym (takes_some at mask k some)))
