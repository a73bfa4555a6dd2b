-- What a depend item matches is found among the sections in order.
use Rattle.std.proofs.Common.{◌≡◌, ℕ, ◌<◌, ◌≤◌, Bool, true, false, List, [], ◌∷◌, length, get_or, refl, sym, ap, ◌∙◌, subst, ⊎_elim, Option, Some, None, arith}
use Rattle.std.specs.Prelude.{Contains, IfSome, not, slice_get, option_map, ◌||◌, nat_lt}
use Rattle.std.specs.List.{AllWithin, list_any}
use Rattle.std.proofs.lemmas.Bool.{and_parts, and_from, cases_lt, lt-ltb, or_cases}
use Rattle.std.proofs.lemmas.Bool.Decides.{nat_tests}
use Rattle.std.proofs.lemmas.List.{get_or_default}
use Rattle.std.proofs.lemmas.List.Elements.{All-contains, Contains-append_right, Contains-get_or}
use Rattle.std.proofs.lemmas.Option.{slice_get-get_or, slice_get-map}
use Rattle.base.specs.declared.item.Depend.{Depend}
use Rattle.base.specs.declared.item.Item.{Item}
use Rattle.base.specs.declared.item.Section.{Section}
use Rattle.base.specs.Machine.{match_depends, writes_to}
use Rattle.base.specs.Memory.{overlaps, same_section}
use Rattle.order.specs.Apart.{is_same_or_behind}
use Rattle.order.specs.Bare.{bare, plan_of}
use Rattle.order.specs.declared.touches.Touch.{Touch}
use Rattle.order.specs.declared.touches.Touches.{Touches}
use Rattle.order.specs.Rows.{match_of}
use Rattle.order.specs.Touches.{AreTouches, HasTouches, MeetsSame, is_in_turn, is_later}
use Rattle.order.proofs.Befores.{ask_one}
use Rattle.order.proofs.Turns.{from_same, squeezed}

overlap_same : (s t : Section) → is_same_or_behind s t ≡ true → overlaps s t ≡ true → same_section s t ≡ true
overlap_same s t p q = grind (arith, nat_tests)

overlap_back : (s t : Section) → is_same_or_behind t s ≡ true → overlaps s t ≡ true → same_section s t ≡ true
overlap_back s t p q = grind (arith, nat_tests)

same_behind : (s t : Section) → same_section s t ≡ true → is_same_or_behind s t ≡ true
same_behind s t p = grind (arith, nat_tests)

-- sections that are all in order
pub meets_same : (its : List Item) (ts : List Touch) (i : ℕ) (it : Item) (d : Depend) → AreTouches its false ts →
    slice_get its i ≡ Some it → Contains it.depends.items d → MeetsSame its d.section
meets_same its ts i it d h e has j later f e' has' o = go (there i it d e has) (there j later f e' has')
  where
    there : (k : ℕ) (x : Item) (g : Depend) → slice_get its k ≡ Some x → Contains x.depends.items g →
        Contains ts (record { section = g.section; item = k })
    there k x g e has = All-contains
        (λ (g : Depend). (not false || writes_to g.kind) ≡ true → Contains ts (record { section = g.section; item = k }))
        x.depends.items g (h.has k x e) has refl

    own : Touch
    own = record { section = d.section; item = i }

    other : Touch
    other = record { section = f.section; item = j }

    go : Contains ts own → Contains ts other → same_section d.section f.section ≡ true
    go (a, lt, is) (b, lt', is') = ⊎_elim
        (λ (before : a < b). overlap_same d.section f.section (turn a b is at_b (omega (arith, before)) lt') o)
        (λ (behind : b ≤ a). overlap_back d.section f.section (turn b a at_b is behind lt) o)
        (cases_lt a b)
      where
        at_b : get_or ts b own ≡ other
        at_b = get_or_default ts b own other lt' ∙ is'

        turn : (m n : ℕ) {t u : Touch} → get_or ts m own ≡ t → get_or ts n own ≡ u → m ≤ n → n < length ts →
            is_same_or_behind t.section u.section ≡ true
        turn m n {t} {u} p q le lt = (and_parts (is_same_or_behind t.section u.section) _
            (subst (λ (v : Touch). is_in_turn t v ≡ true) q
            (subst (λ (v : Touch). is_in_turn v (get_or ts n own) ≡ true) p (h.turn m n own le lt)))).0

pub all_meet : (its : List Item) (o : Option Touches) (i k : ℕ) (a : Item) (ds : List Depend) (d : Depend) →
    IfSome o (HasTouches its) → i < length its → ds ≡ (get_or its i a).depends.items → k < length ds →
    IfSome o (λ t. MeetsSame its (get_or ds k d).section)
all_meet its None i k a ds d h lt e inside = tt
all_meet its (Some t) i k a ds d h lt e inside =
    meets_same its t.all.items i (get_or its i a) (get_or ds k d) h.all (slice_get-get_or its i a lt)
    (subst (λ (es : List Depend). Contains es (get_or ds k d)) e (Contains-get_or ds k d inside))

any_found : (P : Depend → Bool) (es : List Depend) → list_any P es ≡ true → (e : Depend) × Contains es e × (P e ≡ true)
any_found P [] h = absurd cc
any_found P (e ∷ es) h = ⊎_elim (λ (here : P e ≡ true). (e, (0, omega arith, refl), here))
    (λ (there : list_any P es ≡ true). let found = any_found P es there in
    (found.0, Contains-append_right (e ∷ []) es found.0 found.1, found.2)) (or_cases (P e) (list_any P es) h)

not_not : (a b : Bool) → (a || b) ≡ true → (not (not a) || b) ≡ true
not_not true b h = refl
not_not false b h = h

-- where the matched item stands
pub record Found (ts : List Touch) (s : Section) (j : ℕ) : Type 0 where
  pub at : ℕ
  pub inside : at < length ts
  pub same : (t : Touch) → same_section s (get_or ts at t).section ≡ true
  pub item : (t : Touch) → (get_or ts at t).item ≡ j

pub found : (its : List Item) (ts : List Touch) (d : Depend) (j : ℕ) → AreTouches its (not (writes_to d.kind)) ts →
    MeetsSame its d.section → match_of (plan_of its) d j ≡ true → Found ts d.section j
found its ts d j h meets m = go (slice_get its j) refl
    (sym (ap (λ o. ask_one o (λ w. list_any (match_depends d) w.depends)) (slice_get-map bare its j)) ∙ m)
  where
    placed : (s : Section) → same_section d.section s ≡ true → Contains ts (record { section = s; item = j }) →
        Found ts d.section j
    placed s same (q, lt, is) = record {
      at = q;
      inside = lt;
      same = λ t. subst (λ (u : Touch). same_section d.section u.section ≡ true)
          (sym (get_or_default ts q t _ lt ∙ is)) same;
      item = λ t. ap (λ (u : Touch). u.item) (get_or_default ts q t _ lt ∙ is);
    }

    go : (o : Option Item) → slice_get its j ≡ o →
        ask_one (option_map bare o) (λ w. list_any (match_depends d) w.depends) ≡ true → Found ts d.section j
    go None e n = absurd cc
    go (Some it) e n =
        let one = any_found (match_depends d) it.depends.items n in
        let both = and_parts (overlaps d.section one.0.section) (writes_to d.kind || writes_to one.0.kind) one.2 in
        placed one.0.section (meets j it one.0 e one.1 both.0)
        (All-contains (λ (g : Depend). (not (not (writes_to d.kind)) || writes_to g.kind) ≡ true →
        Contains ts (record { section = g.section; item = j })) it.depends.items one.0 (h.has j it e) one.1
        (not_not (writes_to d.kind) (writes_to one.0.kind) both.1))

-- it is not before the first one that is later
pub not_before : (ts : List Touch) (s : Section) (i j first : ℕ) (t : Touch) (f : Found ts s j) → i < j →
    AllWithin (λ t. is_later s i t ≡ false) ts 0 first → first ≤ f.at
not_before ts s i j first t f later h = ⊎_elim
    (λ (lt : f.at < first). absurd (let no : is_later s i (get_or ts f.at t) ≡ false = h f.at t (omega arith) lt in
    let yes : is_later s i (get_or ts f.at t) ≡ true = and_from (is_same_or_behind s (get_or ts f.at t).section) _
    (same_behind s (get_or ts f.at t).section (f.same t))
    (from_same (same_section s (get_or ts f.at t).section) (nat_lt i (get_or ts f.at t).item)
    (λ e. lt-ltb i (get_or ts f.at t).item (subst (λ n. i < n) (sym (f.item t)) later))) in
    let bad : true ≡ false = sym yes ∙ no in cc))
    (λ (le : first ≤ f.at). le) (cases_lt f.at first)

-- it is before one of another section
pub before_other : (ts : List Touch) (its : List Item) (w : Bool) (s : Section) (i j at : ℕ) (t : Touch)
    (f : Found ts s j) → AreTouches its w ts → is_later s i (get_or ts at t) ≡ true →
    same_section s (get_or ts at t).section ≡ false → f.at < at
before_other ts its w s i j at t f h later other = ⊎_elim (λ (lt : f.at < at). lt)
    (λ (le : at ≤ f.at). absurd (let one = and_parts (is_same_or_behind s (get_or ts at t).section) _ later in
    let two = and_parts (is_same_or_behind (get_or ts at t).section (get_or ts f.at t).section) _
    (h.turn at f.at t le f.inside) in
    let same : same_section s (get_or ts at t).section ≡ true
    = squeezed s (get_or ts at t).section (get_or ts f.at t).section one.0 two.0 (f.same t) in
    let bad : true ≡ false = sym same ∙ other in cc))
    (cases_lt f.at at)
