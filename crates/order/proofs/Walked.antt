-- What a depend item matches is added on the way through the sections in order.
use Rattle.std.proofs.Common.{◌≡◌, ℕ, ◌+◌, ◌<◌, ◌≤◌, Bool, true, false, List, length, get_or, refl, sym, ap, ◌∙◌, subst, ⊎_elim, arith}
use Rattle.std.specs.Prelude.{not}
use Rattle.std.specs.List.{AllWithin}
use Rattle.std.proofs.lemmas.Bool.{and_parts, cases_eq, cases_lt, leb-true}
use Rattle.std.proofs.lemmas.Bool.Decides.{nat_tests}
use Rattle.std.proofs.lemmas.List.{get_or_default}
use Rattle.base.specs.declared.item.Depend.{Depend}
use Rattle.base.specs.declared.item.Item.{Item}
use Rattle.base.specs.declared.item.Section.{Section}
use Rattle.base.specs.Memory.{same_section}
use Rattle.order.specs.Apart.{is_same_or_behind}
use Rattle.order.specs.Bare.{plan_of}
use Rattle.order.specs.declared.rows.Row.{Row}
use Rattle.order.specs.declared.touches.Touch.{Touch}
use Rattle.order.specs.Rows.{IsPart, is_in, match_of, overwrite}
use Rattle.order.specs.Touches.{AreTouches, is_later}
use Rattle.order.proofs.Overwritten.{behind_over}
use Rattle.order.proofs.Touched.{Found, before_other}
use Rattle.order.proofs.Turns.{other_two, to_same}

same_back : (s t : Section) → same_section t s ≡ same_section s t
same_back s t = grind (arith, nat_tests)

differs : (s t : Section) (r : Bool) → r ≡ not (same_section t s) → r ≡ true → same_section s t ≡ false
differs s t r e h = go (same_section t s) refl
  where
    go : (b : Bool) → same_section t s ≡ b → same_section s t ≡ false
    go false f = sym (same_back s t) ∙ f
    go true f = let bad : true ≡ false = sym h ∙ e ∙ ap not f in cc

pub agrees : (s t : Section) (r : Bool) → r ≡ not (same_section t s) → r ≡ false → same_section s t ≡ true
agrees s t r e h = go (same_section t s) refl
  where
    go : (b : Bool) → same_section t s ≡ b → same_section s t ≡ true
    go true f = sym (same_back s t) ∙ f
    go false f = let bad : false ≡ true = sym h ∙ e ∙ ap not f in cc

-- at one of another section what is matched stands before it
pub met_before : (ts : List Touch) (its : List Item) (w : Bool) (s : Section) (i j at first : ℕ) (t : Touch) (r : Bool)
    (f : Found ts s j) → AreTouches its w ts → AllWithin (λ t. is_later s i t ≡ true) ts first (length ts) → first ≤ at →
    at < length ts → r ≡ not (same_section (get_or ts at t).section s) → r ≡ true → f.at < at
met_before ts its w s i j at first t r f h later from inside e on =
    before_other ts its w s i j at t f h (later at t from inside) (differs s (get_or ts at t).section r e on)

module _ (its : List Item) (d : Depend) (ts : List Touch) where
  abbrev pub Asked : ℕ → ℕ → Row → Type 0
  Asked first at r = (q : ℕ) (t : Touch) → first ≤ q → q < at → match_of (plan_of its) d (get_or ts q t).item ≡ true →
      is_in r (get_or ts q t).item ≡ true

  pub asked_there : (first at j : ℕ) (r : Row) (f : Found ts d.section j) → Asked first at r → first ≤ f.at → f.at < at →
      match_of (plan_of its) d j ≡ true → is_in r j ≡ true
  asked_there first at j r f asked le lt m =
      let t : Touch = record { section = d.section; item = j } in
      subst (λ n. is_in r n ≡ true) (f.item t)
      (asked f.at t le lt (subst (λ n. match_of (plan_of its) d n ≡ true) (sym (f.item t)) m))

  pub asked_next : (first at : ℕ) (old new : Row) (t : Touch) → at < length ts → Asked first at old →
      ((k : ℕ) → is_in old k ≡ true → is_in new k ≡ true) →
      (match_of (plan_of its) d (get_or ts at t).item ≡ true → is_in new (get_or ts at t).item ≡ true) →
      Asked first (at + 1) new
  asked_next first at old new t inside asked more here q u le lt m = ⊎_elim
      (λ (below : q < at). more _ (asked q u le below m))
      (λ (up : at ≤ q). let same : at ≡ q = omega (arith, up, lt) in
      let read : (get_or ts at t).item ≡ (get_or ts q u).item
      = ap (λ (v : Touch). v.item) (get_or_default ts at t u inside ∙ ap (λ n. get_or ts n u) same) in
      subst (λ n. is_in new n ≡ true) read (here (subst (λ n. match_of (plan_of its) d n ≡ true) (sym read) m)))
      (cases_lt q at)

  -- behind one that writes the section
  pub over_found : (i j at : ℕ) (w : Bool) (t : Touch) (b : Item) (es : List Depend) (r : Row) (f : Found ts d.section j) →
      AreTouches its w ts → IsPart (plan_of its) i r → at ≤ f.at → same_section d.section (get_or ts at t).section ≡ true →
      is_in r (get_or ts at t).item ≡ true → (get_or ts at t).item < length its →
      es ≡ (get_or its (get_or ts at t).item b).depends.items → overwrite es d ≡ true → match_of (plan_of its) d j ≡ true →
      is_in r j ≡ true
  over_found i j at w t b es r f h part le same has inside e over m =
      let here = get_or ts at t in
      let there = get_or ts f.at t in
      let turn = and_parts (is_same_or_behind here.section there.section) _ (h.turn at f.at t le f.inside) in
      let up : here.item ≤ there.item = leb-true here.item there.item
      (to_same (same_section here.section there.section) _ turn.1 (other_two d.section here.section there.section same (f.same t))) in
      let is : there.item ≡ j = f.item t in
      ⊎_elim (λ (s : here.item ≡ j). subst (λ n. is_in r n ≡ true) s has)
      (λ (ne : here.item ≡ j → ⊥). behind_over its i here.item j d b es r part has inside e over (omega (arith, up, is, ne)) m)
      (cases_eq here.item j)
