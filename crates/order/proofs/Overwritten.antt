-- Behind an item that writes a section, no item that the section's depend item matches has to be asked.
use Rattle.std.proofs.Common.{◌≡◌, ℕ, zero, suc, ◌+◌, ◌<◌, ◌≤◌, Bool, true, false, List, [], ◌∷◌, length, get_or, refl, sym, ap, ◌∙◌, subst, ⊎_elim, Option, Some, None, arith}
use Rattle.std.specs.Prelude.{slice_get, ◌||◌, ◌&&◌}
use Rattle.std.specs.List.{All, AllByRecursion, list_any}
use Rattle.std.proofs.Math.Bool.{or-false}
use Rattle.std.proofs.lemmas.Bool.{and_from, and_parts, cases_lt, or_cases, or_left, or_right}
use Rattle.std.proofs.lemmas.Bool.Decides.{nat_tests}
use Rattle.std.proofs.lemmas.List.Elements.{recursion_from_All}
use Rattle.base.specs.declared.item.Depend.{Depend}
use Rattle.base.specs.declared.item.Item.{Item}
use Rattle.base.specs.declared.item.Section.{Section}
use Rattle.base.specs.Items.{Work}
use Rattle.base.specs.Machine.{match_depends, writes_to}
use Rattle.base.specs.Memory.{overlaps, same_section}
use Rattle.order.specs.Bare.{bare, plan_of}
use Rattle.order.specs.declared.rows.Row.{Row}
use Rattle.order.specs.Rows.{HasMatches, HasMatchesOf, IsDependOf, IsPart, do_match, is_in, match_at, match_of, overwrite}
use Rattle.order.proofs.Befores.{ask, ask_one, item_at, led, match_leads}

-- ---- depend items

same_overlaps : (s t u : Section) → same_section s t ≡ true → overlaps t u ≡ true → overlaps s u ≡ true
same_overlaps s t u p q = grind (arith, nat_tests)

over_one : (d e f : Depend) → (writes_to e.kind && same_section e.section d.section) ≡ true → match_depends d f ≡ true →
    match_depends e f ≡ true
over_one d e f p q =
    let over = and_parts (writes_to e.kind) (same_section e.section d.section) p in
    let both = and_parts (overlaps d.section f.section) (writes_to d.kind || writes_to f.kind) q in
    and_from (overlaps e.section f.section) (writes_to e.kind || writes_to f.kind)
    (same_overlaps e.section d.section f.section over.1 both.0) (or_left (writes_to e.kind) (writes_to f.kind) over.0)

over_each : (d e : Depend) (fs : List Depend) → (writes_to e.kind && same_section e.section d.section) ≡ true →
    list_any (match_depends d) fs ≡ true → list_any (match_depends e) fs ≡ true
over_each d e [] p q = absurd cc
over_each d e (f ∷ fs) p q = ⊎_elim
    (λ (h : match_depends d f ≡ true). or_left (match_depends e f) (list_any (match_depends e) fs) (over_one d e f p h))
    (λ (h : list_any (match_depends d) fs ≡ true).
    or_right (match_depends e f) (list_any (match_depends e) fs) (over_each d e fs p h))
    (or_cases (match_depends d f) (list_any (match_depends d) fs) q)

over_all : (d : Depend) (es fs : List Depend) → overwrite es d ≡ true → list_any (match_depends d) fs ≡ true →
    list_any (λ e. list_any (match_depends e) fs) es ≡ true
over_all d [] fs p q = absurd cc
over_all d (e ∷ es) fs p q = ⊎_elim
    (λ (h : (writes_to e.kind && same_section e.section d.section) ≡ true).
    or_left (list_any (match_depends e) fs) (list_any (λ e. list_any (match_depends e) fs) es) (over_each d e fs h q))
    (λ (h : overwrite es d ≡ true).
    or_right (list_any (match_depends e) fs) (list_any (λ e. list_any (match_depends e) fs) es) (over_all d es fs h q))
    (or_cases (writes_to e.kind && same_section e.section d.section) (overwrite es d) p)

any_from : (P : Depend → Bool) (ds : List Depend) (k : ℕ) (d : Depend) → k < length ds → P (get_or ds k d) ≡ true →
    list_any P ds ≡ true
any_from P [] k d lt h = absurd (omega arith)
any_from P (e ∷ ds) zero d lt h = or_left (P e) (list_any P ds) h
any_from P (e ∷ ds) (suc k) d lt h = or_right (P e) (list_any P ds) (any_from P ds k d (omega arith) h)

of_any : (P : Depend → Bool) (X : Type 0) (ds : List Depend) → AllByRecursion (λ d. P d ≡ true → X) ds →
    list_any P ds ≡ true → X
of_any P X [] h e = absurd cc
of_any P X (d ∷ ds) h e = ⊎_elim h.0 (of_any P X ds h.1) (or_cases (P d) (list_any P ds) e)

-- ---- items

pub match_of_read : (its : List Item) (d : Depend) (j : ℕ) (b : Item) (es : List Depend) → j < length its →
    es ≡ (get_or its j b).depends.items → match_of (plan_of its) d j ≡ list_any (match_depends d) es
match_of_read its d j b es lt e =
    ap (λ o. ask_one o (λ w. list_any (match_depends d) w.depends)) (item_at its j b lt)
    ∙ sym (ap (λ (fs : List Depend). list_any (match_depends d) fs) e)

pub match_one : (d : Depend) (xs es : List Depend) → xs ≡ d ∷ [] →
    list_any (match_depends d) es ≡ list_any (λ e. list_any (match_depends e) es) xs
match_one d xs es e =
    sym (ap (λ (ys : List Depend). list_any (λ e. list_any (match_depends e) es) ys) e
    ∙ or-false (list_any (match_depends d) es))

none_any : (ds : List Depend) → false ≡ list_any (λ d. false) ds
none_any [] = refl
none_any (d ∷ ds) = none_any ds

of_each : (o : Option Work) (v : Work) →
    ask_one o (do_match v) ≡ list_any (λ d. ask_one o (λ w. list_any (match_depends d) w.depends)) v.depends
of_each None v = none_any v.depends
of_each (Some w) v = refl

pub match_at_read : (its : List Item) (i j : ℕ) (a : Item) (ds : List Depend) → i < length its →
    ds ≡ (get_or its i a).depends.items → match_at (plan_of its) i j ≡ list_any (λ d. match_of (plan_of its) d j) ds
match_at_read its i j a ds lt e =
    ap (λ o. ask o (slice_get (plan_of its).items j) do_match) (item_at its i a lt)
    ∙ of_each (slice_get (plan_of its).items j) (bare (get_or its i a))
    ∙ sym (ap (λ (xs : List Depend). list_any (λ d. match_of (plan_of its) d j) xs) e)

pub one_of : (its : List Item) (i k : ℕ) (a : Item) (d : Depend) (ds : List Depend) → i < length its →
    ds ≡ (get_or its i a).depends.items → k < length ds → IsDependOf (plan_of its) i (get_or ds k d)
one_of its i k a d ds lt e inside j m =
    match_at_read its i j a ds lt e ∙ any_from (λ d. match_of (plan_of its) d j) ds k d inside m

pub all_of : (its : List Item) (i : ℕ) (a : Item) (r : Row) (ds : List Depend) → i < length its →
    ds ≡ (get_or its i a).depends.items → All (HasMatchesOf (plan_of its) i r) ds → HasMatches (plan_of its) i r
all_of its i a r ds lt e h j later m = of_any (λ d. match_of (plan_of its) d j) (is_in r j ≡ true) ds
    (recursion_from_All (λ d. match_of (plan_of its) d j ≡ true → is_in r j ≡ true) ds (λ k d inside. h k d inside j later))
    (sym (match_at_read its i j a ds lt e) ∙ m)

matched_over : (its : List Item) (next k : ℕ) (d : Depend) (b : Item) (es : List Depend) → next < length its →
    es ≡ (get_or its next b).depends.items → overwrite es d ≡ true → match_of (plan_of its) d k ≡ true →
    match_at (plan_of its) next k ≡ true
matched_over its next k d b es lt e over m = ap (λ o. ask o (slice_get (plan_of its).items k) do_match) (item_at its next b lt)
    ∙ go (slice_get (plan_of its).items k) m
  where
    go : (o : Option Work) → ask_one o (λ w. list_any (match_depends d) w.depends) ≡ true →
        ask_one o (do_match (bare (get_or its next b))) ≡ true
    go None m = absurd cc
    go (Some w) m = over_all d (get_or its next b).depends.items w.depends (subst (λ es. overwrite es d ≡ true) e over) m

-- behind an item that writes the section and that the row has, the row has each item that is matched
pub behind_over : (its : List Item) (i next k : ℕ) (d : Depend) (b : Item) (es : List Depend) (r : Row) →
    IsPart (plan_of its) i r → is_in r next ≡ true → next < length its → es ≡ (get_or its next b).depends.items →
    overwrite es d ≡ true → next < k → match_of (plan_of its) d k ≡ true → is_in r k ≡ true
behind_over its i next k d b es r part has lt e over later m =
    part.closed next k has (led (plan_of its) next k (match_leads (plan_of its) next k later
    (matched_over its next k d b es lt e over m)))

-- one item more was asked
pub asked_one : (its : List Item) (i next : ℕ) (d : Depend) (old new : Row) →
    ((k : ℕ) → is_in old k ≡ true → is_in new k ≡ true) →
    ((k : ℕ) → i < k → k < next → match_of (plan_of its) d k ≡ true → is_in old k ≡ true) →
    (match_of (plan_of its) d next ≡ true → is_in new next ≡ true) →
    (k : ℕ) → i < k → k < next + 1 → match_of (plan_of its) d k ≡ true → is_in new k ≡ true
asked_one its i next d old new more asked here k later lt m = ⊎_elim (λ (below : k < next). more k (asked k later below m))
    (λ (le : next ≤ k). let same : next ≡ k = omega (arith, le, lt) in
    subst (λ n. is_in new n ≡ true) same (here (subst (λ n. match_of (plan_of its) d n ≡ true) (sym same) m))) (cases_lt k next)
