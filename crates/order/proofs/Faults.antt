-- The first clash of a plan.
use Rattle.std.proofs.Common.{◌≡◌, ℕ, ◌<◌, ◌≤◌, Bool, true, false, List, [], ◌∷◌, map, refl, sym, ap, ap₂, ◌∙◌, subst, ⊎_elim, Option, Some, None, arith}
use Rattle.std.specs.Prelude.{slice_get, option_map, filter, ◌&&◌, ◌||◌, ◌==◌, nat_lt}
use Rattle.std.proofs.lemmas.Bool.{cases_lt, cases_eq}
use Rattle.std.proofs.lemmas.Bool.Decides.{nat_tests}
use Rattle.std.proofs.lemmas.Option.{slice_get-map}
use Rattle.base.proofs.Nils.{nil_parts, nil_map, nil_filter}
use Rattle.base.specs.declared.item.Cell.{Cell}
use Rattle.base.specs.declared.item.Depend.{Depend}
use Rattle.base.specs.declared.item.Item.{Item}
use Rattle.base.specs.declared.fault.OrderFault.{OrderFault}
use Rattle.base.specs.declared.fault.RangeFault.{RangeFault}
use Rattle.base.specs.Items.{Work, Plan}
use Rattle.base.specs.Least.{IsLeast, is_less}
use Rattle.base.specs.Accepted.{IsFault, Order, SectionsFit, depend_fault, depends_clash, fault_key, key_less, map_fault, section_fails, section_faults}
use Rattle.order.specs.Bare.{bare, plan_of}
use Rattle.order.specs.Built.{HasNoClash, IsFirstClash}
use Rattle.order.specs.Clashes.{clash_at, IsFirstFound}
use Rattle.order.proofs.Alike.{Alike, both_alike, stripped}
use Rattle.order.proofs.Befores.{ask, at_both}
use Rattle.order.proofs.Found.{clash_in}
use Rattle.order.proofs.Least.{AllSized, all_is}

-- ---- no section is empty

sized : (lengths : List ℕ) (ds : List Depend) → filter (λ d. section_fails lengths d.section) ds ≡ [] → AllSized ds
sized lengths [] e = tt
sized lengths (d ∷ ds) e =
    let parts = nil_filter (λ d. section_fails lengths d.section) d ds e in
    (positive parts.0, sized lengths ds parts.1)
  where
    positive : section_fails lengths d.section ≡ false → 0 < d.section.length
    positive f = grind (arith, nat_tests)

abbrev Fits : Option Work → Type 0
Fits o = elim o [ None ↦ Unit {0} | Some w ↦ AllSized w.depends ]

abbrev pub faults_in : List ℕ → Option Work → List RangeFault
faults_in lengths o = elim o [ None ↦ [] | Some w ↦ section_faults lengths w.maps w.depends ]

fits_in : (lengths : List ℕ) (o : Option Work) → faults_in lengths o ≡ [] → Fits o
fits_in lengths None e = tt
fits_in lengths (Some w) e = sized lengths w.depends
    (nil_map depend_fault (filter (λ d. section_fails lengths d.section) w.depends)
    (nil_parts (map map_fault (filter (λ m. section_fails lengths m.section) w.maps))
    (map depend_fault (filter (λ d. section_fails lengths d.section) w.depends)) e).1)

-- ---- clashes of the plan of items

abbrev clashing : Plan → ℕ → ℕ → Cell → Bool
clashing plan i j c = at_both plan i j (λ earlier later. depends_clash earlier later c)

least_in : (o p : Option Item) → Fits (option_map bare o) → Fits (option_map bare p) →
    IsLeast (λ c. ask (option_map bare o) (option_map bare p) (λ v w. depends_clash v w c)) (clash_in o p)
least_in None p f g = λ c. refl
least_in (Some a) None f g = λ c. refl
least_in (Some a) (Some b) f g = all_is (λ c. false) a.depends.items b.depends.items None f g (λ c. refl)

fits_stripped : (o : Option Work) → Fits (option_map stripped o) → Fits o
fits_stripped None f = tt
fits_stripped (Some w) f = f

stripped_fits : (o : Option Work) → Fits o → Fits (option_map stripped o)
stripped_fits None f = tt
stripped_fits (Some w) f = f

-- what is found at two items is their least clash in the plan
at_plan : (its : List Item) (plan : Plan) → Alike (plan_of its) plan → SectionsFit plan → (i j : ℕ) →
    IsLeast (clashing plan i j) (clash_at its i j)
at_plan its plan alike fit i j =
    subst (λ (P : Cell → Bool). IsLeast P (clash_at its i j)) (λ k c. same c k)
    (least_in (slice_get its i) (slice_get its j) (item_fits i) (item_fits j))
  where
    item_fits : (k : ℕ) → Fits (option_map bare (slice_get its k))
    item_fits k = subst Fits (slice_get-map bare its k)
        (fits_stripped (slice_get (plan_of its).items k)
        (subst Fits (sym (alike.items k))
        (stripped_fits (slice_get plan.items k) (fits_in plan.lengths (slice_get plan.items k) (fit k)))))

    same : (c : Cell) → ask (option_map bare (slice_get its i)) (option_map bare (slice_get its j)) (λ v w. depends_clash v w c) ≡ clashing plan i j c
    same c =
        sym (ap₂ (λ o p. ask o p (λ v w. depends_clash v w c)) (slice_get-map bare its i) (slice_get-map bare its j))
        ∙ both_alike (plan_of its) plan (λ v w. depends_clash v w c) (λ v w. refl) alike i j

none_at : (P : Cell → Bool) (o : Option Cell) → IsLeast P o → o ≡ None → (c : Cell) → P c ≡ true → ⊥
none_at P None h e c p = let bad : true ≡ false = sym p ∙ h c in cc
none_at P (Some d) h e c p = cc

some_at : (P : Cell → Bool) (o : Option Cell) (c : Cell) → IsLeast P o → o ≡ Some c → IsLeast P (Some c)
some_at P o c h e = subst (λ (o : Option Cell). IsLeast P o) e h

pub no_clash : (its : List Item) (plan : Plan) → Alike (plan_of its) plan → SectionsFit plan → IsFirstFound its None →
    HasNoClash plan
no_clash its plan alike fit h f fault =
    none_at (clashing plan f.other f.item) (clash_at its f.other f.item) (at_plan its plan alike fit f.other f.item)
    (h f.item f.other fault.0) f.cell fault.1

-- ---- the first of them

one_later : (a b : ℕ) (x : Bool) → b ≤ a → (a ≡ b → x ≡ false) → (nat_lt a b || ((a == b) && x)) ≡ false
one_later a b x le h = ⊎_elim (λ (same : a ≡ b). let e : x ≡ false = h same in grind (arith, nat_tests))
    (λ differs. grind (arith, nat_tests)) (cases_eq a b)

cells : (c d : Cell) → is_less c d ≡ false → key_less (c.array.0 ∷ c.index ∷ []) (d.array.0 ∷ d.index ∷ []) ≡ false
cells c d h = grind (arith, nat_tests)

later_key : (f g : OrderFault) → f.item ≤ g.item → (g.item ≡ f.item → f.other ≤ g.other) →
    (g.item ≡ f.item → g.other ≡ f.other → is_less g.cell f.cell ≡ false) →
    key_less (fault_key (Order g)) (fault_key (Order f)) ≡ false
later_key f g h k l =
    one_later g.item f.item _ h (λ e. one_later g.other f.other _ (k e) (λ e'. cells g.cell f.cell (l e e')))

pub first_clash : (its : List Item) (plan : Plan) (f : OrderFault) → Alike (plan_of its) plan → SectionsFit plan →
    IsFirstFound its (Some f) → IsFirstClash plan f
first_clash its plan f alike fit h = record {
  holds = (h.0.earlier, (found f.other f.item f.cell h.0.cell).0);
  first = λ g fault. later_key f g (item_later g fault) (other_later g fault) (cell_later g fault);
}
  where
    found : (i j : ℕ) (c : Cell) → clash_at its i j ≡ Some c → IsLeast (clashing plan i j) (Some c)
    found i j c e = some_at (clashing plan i j) (clash_at its i j) c (at_plan its plan alike fit i j) e

    clashes : (g : OrderFault) → IsFault plan (Order g) → clash_at its g.other g.item ≡ None → ⊥
    clashes g fault e = none_at (clashing plan g.other g.item) (clash_at its g.other g.item)
        (at_plan its plan alike fit g.other g.item) e g.cell fault.1

    item_later : (g : OrderFault) → IsFault plan (Order g) → f.item ≤ g.item
    item_later g fault = ⊎_elim
        (λ (lt : g.item < f.item). absurd (clashes g fault (h.1 g.item lt g.other fault.0)))
        (λ (le : f.item ≤ g.item). le) (cases_lt g.item f.item)

    other_later : (g : OrderFault) → IsFault plan (Order g) → g.item ≡ f.item → f.other ≤ g.other
    other_later g fault same = ⊎_elim
        (λ (lt : g.other < f.other). absurd (clashes g fault (ap (λ j. clash_at its g.other j) same ∙ h.0.first g.other lt)))
        (λ (le : f.other ≤ g.other). le) (cases_lt g.other f.other)

    cell_later : (g : OrderFault) → IsFault plan (Order g) → g.item ≡ f.item → g.other ≡ f.other →
        is_less g.cell f.cell ≡ false
    cell_later g fault same same' = (found f.other f.item f.cell h.0.cell).1 g.cell
        (ap (λ i. clashing plan i f.item g.cell) (sym same') ∙ ap (λ j. clashing plan g.other j g.cell) (sym same) ∙ fault.1)
