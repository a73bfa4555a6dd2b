-- What is known of an item of an accepted program.
use Rattle.std.proofs.Common.{◌≡◌, ℕ, zero, suc, Bool, true, false, List, [], ◌∷◌, Option, Some, refl, sym, subst}
use Rattle.std.specs.Prelude.{◌&&◌, not, slice_get}
use Rattle.std.specs.List.{list_any}
use Rattle.base.proofs.Nils.{nil_parts}
use Rattle.base.specs.declared.tree.Region.{Region}
use Rattle.base.specs.declared.fault.RefusalCode.TheVariants.{Unmapped}
use Rattle.base.specs.Memory.{is_in}
use Rattle.base.specs.Meaning.{lengths_of}
use Rattle.base.specs.Items.{Work, plan}
use Rattle.base.specs.Map.{Block}
use Rattle.base.specs.Actions.{touches_in}
use Rattle.base.specs.Current.{AllCurrent, after_stage, at_start}
use Rattle.base.specs.Accepted.{is_target, region_faults, section_faults}
use Rattle.headline.proofs.AcceptedItems.{AllClean, NoFault, stage_in, tables_after, accepted_clean}
use Rattle.headline.proofs.PlainWorks.{list_sensible}
use Rattle.regions.proofs.StatementsDone.{list_small}
use Rattle.ranges.specs.Reach.{is_touched}
use Rattle.frames.specs.Laws.{AcceptedItemsAreFine}
use Rattle.headline.proofs.NeverStuck.{sensible_at}

-- an item of which nothing is refused
record IsClean (lengths : List ℕ) (w : Work) : Type 0 where
  blocks : List Block
  current : AllCurrent
  clean : NoFault lengths w blocks current

clean_at : (lengths : List ℕ) (items : List Work) (tables : ℕ → List Block) (k : AllCurrent) →
    AllClean lengths items tables k → (i : ℕ) (w : Work) → slice_get items i ≡ Some w → IsClean lengths w
clean_at lengths [] tables k h i w e = absurd (cc e)
clean_at lengths (x ∷ rest) tables k h zero w e =
    let is : x ≡ w = cc e in
    record {
      blocks = tables x.device;
      current = k;
      clean = subst (λ y. NoFault lengths y (tables x.device) k) is h.0;
    }
clean_at lengths (x ∷ rest) tables k h (suc i) w e =
    clean_at lengths rest (tables_after x tables) (after_stage (stage_in x (tables x.device)) k) h.1 i w e

-- a touched cell in no section would be refused
all_mapped : (t u v : Bool) → t ≡ true → u ≡ true → (t && (u && not v)) ≡ false → v ≡ true
all_mapped true true true a b c = refl
all_mapped true true false a b c = sym c
all_mapped true false v a b c = absurd (cc b)
all_mapped false u v a b c = absurd (cc a)

pub accepted_items_are_fine : AcceptedItemsAreFine
accepted_items_are_fine p a i w e =
    let c = clean_at (lengths_of p) (plan p).items (λ d. []) at_start (accepted_clean (plan p) a) i w e in
    let s = sensible_at (plan p).items (list_sensible (lengths_of p) p.body.items) i w e in
    let parts = nil_parts (section_faults (lengths_of p) w.maps w.depends)
    (region_faults (lengths_of p) w.loops w.region) c.clean.ranges in
    record {
      loops = list_small w.loops s.loops;
      sections = parts.0;
      region = λ r f. subst (λ (o : Option Region). region_faults (lengths_of p) w.loops o ≡ []) f parts.1;
      has_region = s.targets;
      mapped = λ t x h. all_mapped (is_target w.kind) (is_touched (touches_in w) x)
          (list_any (λ m. is_in x m.section) w.maps) t h (c.clean.causes Unmapped x);
    }
