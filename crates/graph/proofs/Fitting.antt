-- Sections of items that are tested one after the other.
use Rattle.std.proofs.Common.{◌≡◌, ℕ, ◌<◌, List, [], length, get_or, refl, sym, ap, ◌∙◌, Option, Some, None}
use Rattle.std.specs.Prelude.{slice_get, option_map}
use Rattle.std.proofs.lemmas.Option.{get_or_from_slice_get, slice_get-map, slice_get_within}
use Rattle.base.specs.declared.fault.RangeFault.{RangeFault}
use Rattle.base.specs.declared.item.Item.{Item}
use Rattle.base.specs.declared.tree.Program.{Program}
use Rattle.base.specs.Accepted.{SectionsFit, section_faults}
use Rattle.base.specs.Items.{Work, plan}
use Rattle.base.specs.Meaning.{lengths_of}
use Rattle.outline.specs.Regions.{entries_of}
use Rattle.outline.specs.Shown.{all_shown, as_shown}
use Rattle.order.specs.Bare.{bare, plan_of}
use Rattle.order.proofs.Alike.{Alike, items_alike, stripped}

abbrev faults_of : List ℕ → Item → List RangeFault
faults_of lengths item = section_faults lengths item.maps.items item.depends.items

-- the sections of the first items fit
abbrev pub FitBelow : Program → List Item → ℕ → Type 0
FitBelow program items i = (k : ℕ) → k < i → (it : Item) → faults_of (lengths_of program) (get_or items k it) ≡ []

abbrev at_work : List ℕ → Option Work → List RangeFault
at_work lengths o = elim o [ None ↦ [] | Some w ↦ section_faults lengths w.maps w.depends ]

stripped_same : (lengths : List ℕ) (o : Option Work) → at_work lengths o ≡ at_work lengths (option_map stripped o)
stripped_same lengths None = refl
stripped_same lengths (Some w) = refl

pub all_fit : (program : Program) (items : List Item) → all_shown (entries_of program) items ≡ as_shown (plan program).items →
    FitBelow program items (length items) → SectionsFit (plan program)
all_fit program items shown below i =
    stripped_same lengths (slice_get (plan program).items i)
    ∙ ap (at_work lengths) (sym (alike.items i))
    ∙ sym (stripped_same lengths (slice_get (plan_of items).items i))
    ∙ ap (at_work lengths) (slice_get-map bare items i)
    ∙ go (slice_get items i) refl
  where
    lengths : List ℕ
    lengths = lengths_of program

    alike : Alike (plan_of items) (plan program)
    alike = items_alike (entries_of program) items (plan program) shown

    go : (o : Option Item) → slice_get items i ≡ o → at_work lengths (option_map bare o) ≡ []
    go None e = refl
    go (Some it) e = ap (faults_of lengths) (sym (get_or_from_slice_get items i it it e))
        ∙ below i (slice_get_within items i it e) it
