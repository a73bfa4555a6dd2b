-- The first cause of an item.
use Rattle.std.proofs.lemmas.Bool.{or_left, or_cases}
use Rattle.std.proofs.Common.{◌≡◌, ℕ, ◌≤◌, ◌==◌, Bool, true, false, List, Option, Some, None, refl, sym, ap, ◌∙◌, subst, arith, ⊎_elim}
use Rattle.std.specs.Prelude.{nat_lt, ◌&&◌, ◌||◌}
use Rattle.std.proofs.lemmas.Bool.Decides.{nat_tests}
use Rattle.base.specs.declared.item.Cell.{Cell}
use Rattle.base.specs.declared.item.MapItem.{MapItem}
use Rattle.base.specs.declared.item.ItemKind.{ItemKind}
use Rattle.base.specs.declared.fault.RefusalCode.{RefusalCode}
use Rattle.base.specs.declared.fault.RefusalCode.TheVariants.{OverlapsInPart, ExitOfAbsent, UpdateOfAbsent, NotPresent, Unmapped, HostNotCurrent, DeviceNotCurrent, TurnsMeet, Conflict}
use Rattle.base.specs.Items.{Work}
use Rattle.base.specs.Map.{Block}
use Rattle.base.specs.Actions.{Met}
use Rattle.base.specs.Current.{Current, after_actions}
use Rattle.base.specs.Accepted.{cause, refusal_rank}
use Rattle.mapwalk.specs.declared.causes.Cause.{Cause}
use Rattle.mapwalk.specs.Causes.{IsFirstOf, met_causes, region_causes}
use Rattle.mapwalk.specs.declared.rows.Acts.{Acts}
use Rattle.mapwalk.specs.Kinds.{after_maps, after_region, before_region, joined_by, met_by}
use Rattle.mapwalk.specs.Regions.{region_actions}
use Rattle.mapwalk.specs.Sides.{after_acts}
use Rattle.base.specs.Least.{is_less as is_cell_less}
use Rattle.mapwalk.specs.Steps.{HasDoneHere, everywhere, stage_of}
use Rattle.mapwalk.proofs.WorkParts.{at_region, cause_split, parts}

abbrev pub Test : Type 0
Test = RefusalCode → Cell → Bool

pub first_same : (p q : Test) (o : Option Cause) → ((code : RefusalCode) (c : Cell) → p code c ≡ q code c) → IsFirstOf p o → IsFirstOf q o
first_same p q None e h = λ code c. sym (e code c) ∙ h code c
first_same p q (Some x) e h = (sym (e x.code x.cell) ∙ h.0, λ code c t. h.1 code c (e code c ∙ t))

met_low : (kind : ItemKind) (mets : List Met) (code : RefusalCode) (c : Cell) → met_causes kind mets code c ≡ true →
    refusal_rank code ≤ 4
met_low kind mets OverlapsInPart c h = omega arith
met_low kind mets ExitOfAbsent c h = omega arith
met_low kind mets UpdateOfAbsent c h = omega arith
met_low kind mets NotPresent c h = omega arith
met_low kind mets Unmapped c h = absurd cc
met_low kind mets HostNotCurrent c h = absurd cc
met_low kind mets DeviceNotCurrent c h = absurd cc
met_low kind mets TurnsMeet c h = absurd cc
met_low kind mets Conflict c h = absurd cc

region_high : (w : Work) (k : Current) (code : RefusalCode) (c : Cell) → region_causes w k code c ≡ true → 5 ≤ refusal_rank code
region_high w k OverlapsInPart c h = absurd cc
region_high w k ExitOfAbsent c h = absurd cc
region_high w k UpdateOfAbsent c h = absurd cc
region_high w k NotPresent c h = absurd cc
region_high w k Unmapped c h = omega arith
region_high w k HostNotCurrent c h = omega arith
region_high w k DeviceNotCurrent c h = omega arith
region_high w k TurnsMeet c h = omega arith
region_high w k Conflict c h = absurd cc

not_less : (r x : ℕ) (b : Bool) → 5 ≤ r → x ≤ 4 → (nat_lt r x || ((r == x) && b)) ≡ false
not_less r x b low high = grind (arith, nat_tests)

or_last : (a b : Bool) → a ≡ false → (a || b) ≡ b
or_last false b e = refl
or_last true b e = absurd cc

module _ (w : Work) (blocks : List Block) (k : Current) where
  abbrev met : Test
  met = met_causes w.kind (met_by w.kind w.maps blocks)

  abbrev region : Test
  region = region_causes w (at_region w blocks k)

  abbrev both : Test
  both code c = met code c || region code c

  abbrev all : Test
  all code c = cause code (stage_of w blocks) (everywhere k) c

  whole : (o : Option Cause) → IsFirstOf both o → IsFirstOf all o
  whole o h = first_same both all o (λ code c. sym (cause_split w blocks k code c)) h

  -- a cause that map items make comes first
  pub met_is_first : (x : Cause) → IsFirstOf met (Some x) → IsFirstOf all (Some x)
  met_is_first x h =
      whole (Some x) (
        or_left (met x.code x.cell) (region x.code x.cell) h.0,
        λ code c t. ⊎_elim (h.1 code c)
            (λ u. not_less (refusal_rank code) (refusal_rank x.code) (is_cell_less c x.cell)
            (region_high w (at_region w blocks k) code c u) (met_low w.kind (met_by w.kind w.maps blocks) x.code x.cell h.0))
            (or_cases (met code c) (region code c) t),
      )

  -- where map items make none, the region's is the first
  pub region_is_first : (o : Option Cause) → IsFirstOf met None → IsFirstOf region o → IsFirstOf all o
  region_is_first o none h = whole o (first_same region both o (λ code c. sym (or_last (met code c) (region code c) (none code c))) h)

-- of an item with this kind and these map items
pub met_verdict : (w : Work) (blocks : List Block) (k : Current) (kind : ItemKind) (maps : List MapItem) (o : Option Cause) →
    w.kind ≡ kind → w.maps ≡ maps → IsFirstOf (met_causes kind (met_by kind maps blocks)) o →
    IsFirstOf (met_causes w.kind (met_by w.kind w.maps blocks)) o
met_verdict w blocks k kind maps o e f h =
    subst (λ ms. IsFirstOf (met_causes w.kind (met_by w.kind ms blocks)) o) (sym f)
    (subst (λ x. IsFirstOf (met_causes x (met_by x maps blocks)) o) (sym e) h)

pub region_verdict : (w : Work) (blocks : List Block) (k k1 : Current) (o : Option Cause) → k1 ≡ at_region w blocks k →
    IsFirstOf (region_causes w k1) o → IsFirstOf (region_causes w (at_region w blocks k)) o
region_verdict w blocks k k1 o e h = subst (λ j. IsFirstOf (region_causes w j) o) e h

-- what is current where the region begins, by what the code did
pub reached_region : (w : Work) (blocks : List Block) (k k1 : Current) (kind : ItemKind) (maps ms : List MapItem)
    (before row : List Acts) → w.kind ≡ kind → w.maps ≡ maps → before ≡ before_region kind maps blocks →
    k1 ≡ after_acts ms row k → ms ≡ maps → row ≡ before → k1 ≡ at_region w blocks k
reached_region w blocks k k1 kind maps ms before row e f b is m r =
    is
    ∙ (λ i. after_acts ((m ∙ sym f) i) ((r ∙ b) i) k)
    ∙ (λ i. after_acts w.maps (before_region (sym e i) (sym f i) blocks) k)

-- an item that was done
pub step_done : (w : Work) (blocks now : List Block) (k k1 k2 k3 : Current) (kind : ItemKind) (maps ms : List MapItem)
    (before after r3 row : List Acts) → w.kind ≡ kind → w.maps ≡ maps → before ≡ before_region kind maps blocks →
    after ≡ after_region kind maps blocks → k1 ≡ at_region w blocks k → k2 ≡ after_actions (region_actions w) k1 →
    k3 ≡ after_acts ms r3 k2 → ms ≡ maps → r3 ≡ after → row ≡ joined_by kind before after → now ≡ after_maps kind maps blocks →
    IsFirstOf (all w blocks k) None → HasDoneHere w blocks now k k3 row
step_done w blocks now k k1 k2 k3 kind maps ms before after r3 row e f b a one two three m r j n clean =
    record {
      clean = clean;
      acts =
          j ∙ (λ i. joined_by kind (b i) (a i))
          ∙ (λ i. joined_by (sym e i) (before_region (sym e i) (sym f i) blocks) (after_region (sym e i) (sym f i) blocks))
          ∙ sym (parts w blocks).row;
      blocks_after = n ∙ (λ i. after_maps (sym e i) (sym f i) blocks) ∙ sym (parts w blocks).blocks_after;
      current =
          three
          ∙ (λ i. after_acts ((m ∙ sym f) i) ((r ∙ a) i) ((two ∙ ap (after_actions (region_actions w)) one) i))
          ∙ (λ i. after_acts w.maps (after_region (sym e i) (sym f i) blocks)
          (after_actions (region_actions w) (at_region w blocks k)))
          ∙ sym ((parts w blocks).current k);
    }
