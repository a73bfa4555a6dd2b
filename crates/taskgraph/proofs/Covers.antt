-- What matches an item that is covered, matches the one that covers it.
use Rattle.std.proofs.Common.{◌≡◌, inl, inr, ◌<◌, ◌≤◌, Bool, true, false, List, [], ◌∷◌, refl, ◌∙◌, arith}
use Rattle.std.specs.Prelude.{◌||◌, ◌==◌, not, nat_le, nat_lt}
use Rattle.std.specs.List.{list_any}
use Rattle.std.proofs.lemmas.Bool.{and_parts, eq-eqb, eqb-true, leb-true, lt-ltb, ltb-true, or_cases, or_left, or_right, and_from}
use Rattle.base.specs.declared.item.Depend.{Depend}
use Rattle.base.specs.declared.item.Section.{Section}
use Rattle.base.specs.Machine.{match_depends, writes_to}
use Rattle.base.specs.Memory.{end_of, is_inside, overlaps}
use Rattle.taskgraph.specs.Cover.{covers, stands_for}

-- a section that shares a cell with another one shares it with one around that
overlap_outer : (x d e : Section) → is_inside d e ≡ true → overlaps x d ≡ true → overlaps x e ≡ true
overlap_outer x d e i o =
    let p = and_parts (d.array.0 == e.array.0) _ i in
    let q = and_parts (nat_le e.first d.first) (nat_le (end_of d) (end_of e)) p.1 in
    let r = and_parts (x.array.0 == d.array.0) _ o in
    let s = and_parts (nat_lt x.first (end_of d)) (nat_lt d.first (end_of x)) r.1 in
    let from : e.first ≤ d.first = leb-true e.first d.first q.0 in
    let to : end_of d ≤ end_of e = leb-true (end_of d) (end_of e) q.1 in
    let left : x.first < end_of d = ltb-true x.first (end_of d) s.0 in
    let right : d.first < end_of x = ltb-true d.first (end_of x) s.1 in
    and_from (x.array.0 == e.array.0) _
    (eq-eqb x.array.0 e.array.0 (eqb-true x.array.0 d.array.0 r.0 ∙ eqb-true d.array.0 e.array.0 p.0))
    (and_from (nat_lt x.first (end_of e)) (nat_lt e.first (end_of x)) (lt-ltb x.first (end_of e) (omega (arith, left, to)))
    (lt-ltb e.first (end_of x) (omega (arith, from, right))))

written : (x d e : Bool) → (e || not d) ≡ true → (x || d) ≡ true → (x || e) ≡ true
written true d e h k = refl
written false true true h k = refl
written false true false h k = absurd cc
written false false e h k = absurd cc

match_through : (x d e : Depend) → stands_for e d ≡ true → match_depends x d ≡ true → match_depends x e ≡ true
match_through x d e h m =
    let p = and_parts (is_inside d.section e.section) _ h in
    let q = and_parts (overlaps x.section d.section) _ m in
    and_from (overlaps x.section e.section) _ (overlap_outer x.section d.section e.section p.0 q.0)
    (written (writes_to x.kind) (writes_to d.kind) (writes_to e.kind) p.1 q.1)

one_stands : (x d : Depend) (es : List Depend) → list_any (λ e. stands_for e d) es ≡ true → match_depends x d ≡ true →
    list_any (match_depends x) es ≡ true
one_stands x d [] h m = absurd cc
one_stands x d (e ∷ es) h m = elim (or_cases (stands_for e d) _ h) [
  | inl here ↦ or_left (match_depends x e) _ (match_through x d e here m)
  | inr there ↦ or_right (match_depends x e) _ (one_stands x d es there m)
]

one_covered : (x : Depend) (es ds : List Depend) → covers es ds ≡ true → list_any (match_depends x) ds ≡ true →
    list_any (match_depends x) es ≡ true
one_covered x es [] h m = absurd cc
one_covered x es (d ∷ ds) h m = elim (or_cases (match_depends x d) _ m) [
  | inl here ↦ one_stands x d es (and_parts (list_any (λ e. stands_for e d) es) _ h).0 here
  | inr there ↦ one_covered x es ds (and_parts (list_any (λ e. stands_for e d) es) _ h).1 there
]

pub any_covered : (xs es ds : List Depend) → covers es ds ≡ true →
    list_any (λ x. list_any (match_depends x) ds) xs ≡ true → list_any (λ x. list_any (match_depends x) es) xs ≡ true
any_covered [] es ds h m = absurd cc
any_covered (x ∷ xs) es ds h m = elim (or_cases (list_any (match_depends x) ds) _ m) [
  | inl here ↦ or_left (list_any (match_depends x) es) _ (one_covered x es ds h here)
  | inr there ↦ or_right (list_any (match_depends x) es) _ (any_covered xs es ds h there)
]

-- nothing matches an item without depend items
pub none_match : (xs : List Depend) → list_any (λ x. list_any (match_depends x) []) xs ≡ false
none_match [] = refl
none_match (x ∷ xs) = none_match xs
