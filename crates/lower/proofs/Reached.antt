-- What the regions of the items of an accepted program may touch.
use Rattle.std.proofs.Common.{◌≡◌, ℕ, false, List, Option, Some, None, Vec, Global, refl, sym, ap, ◌∙◌}
use Rattle.std.proofs.lemmas.Bool.{false≢true}
use Rattle.base.specs.declared.item.Cell.{Cell}
use Rattle.base.specs.declared.item.Section.{Section}
use Rattle.base.specs.declared.tree.Program.{Program}
use Rattle.base.specs.declared.tree.Region.{Region}
use Rattle.base.specs.Footprint.{Touch, touches_of}
use Rattle.base.specs.Accepted.{IsAccepted}
use Rattle.base.specs.Actions.{touches_in}
use Rattle.base.specs.Items.{Work, plan}
use Rattle.base.specs.Meaning.{lengths_of}
use Rattle.ranges.specs.Reach.{cell_of, is_touched}
use Rattle.mapcheck.specs.Reaches as check
use Rattle.frames.specs.Laws.{IsFine}
use Rattle.frames.proofs.AcceptedWorks.{accepted_items_are_fine}
use Rattle.frames.proofs.TouchedCells.{least_runs_reach}
use Rattle.lower.specs.Image.{AreReaches, IsReach}

touches_at : (w : Work) (o : Option Region) → w.region ≡ o → touches_in w ≡ touches_in (record w { region = o })
touches_at w o e = ap (λ (x : Option Region). touches_in (record w { region = x })) e

-- the runs of a sound item's cells are runs of the arrays and have all that it may touch
is_reached : (lengths : List ℕ) (w : Work) (runs : List Section) → IsFine lengths w → check.IsReach lengths w runs →
    IsReach lengths w runs
is_reached lengths w runs fine h = go w.region refl
  where
    go : (o : Option Region) → w.region ≡ o → IsReach lengths w runs
    go (Some r) e =
        let same : touches_in w ≡ touches_of r w.loops = touches_at w (Some r) e in
        let all = least_runs_reach r w.loops lengths (is_touched (touches_in w)) runs (fine.region r e)
        (λ c. ap (λ (ts : List Touch). is_touched ts c) same) h in
        record { runs = all.runs; touched = λ c k. all.touched c (ap (λ (ts : List Touch). is_touched ts c) (sym same) ∙ k) }
    go None e =
        let none : (c : Cell) → is_touched (touches_in w) c ≡ false =
        λ c. ap (λ (ts : List Touch). is_touched ts c) (touches_at w None e) in
        record {
          runs = record {
            count = h.count;
            of_arrays = h.of_arrays;
            within = λ a s f some. absurd (false≢true (sym (none (cell_of a s.first)) ∙ (h.least a s f).first some));
          };
          touched = λ c k. absurd (false≢true (sym (none c) ∙ k));
        }

pub are_reached : (p : Program) (all : List (Vec Section Global)) → IsAccepted (plan p) →
    check.AreReaches (plan p) all → AreReaches (lengths_of p) (plan p).items all
are_reached p all a h i w v f g =
    is_reached (lengths_of p) w v.items (accepted_items_are_fine p a i w f) (h.each i w v f g)
