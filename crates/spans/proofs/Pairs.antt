-- Of turns that meet nowhere the later ones read nothing that the earlier ones write, and each part of them meets nowhere.
use Rattle.std.proofs.Common.{◌≡◌, ℕ, Bool, true, false, List, [], ◌∷◌, ◌++◌, Option, Some, None, refl, sym, ap, ◌∙◌, ⊎_elim}
use Rattle.std.specs.Prelude.{not, ◌&&◌, ◌||◌, flat_map}
use Rattle.std.specs.List.{list_any}
use Rattle.std.proofs.lemmas.Bool.{false≢true, and_from, and_parts, or_parts, or_cases, or_left, or_right}
use Rattle.std.proofs.lemmas.List.Folds.{list_any-append}
use Rattle.base.specs.declared.item.Cell.{Cell}
use Rattle.base.specs.declared.tree.CombineOp.{CombineOp}
use Rattle.base.specs.Footprint.{Touch, has_cell, reads, writes}
use Rattle.base.specs.Turns.{Turn, commute_at, crosses, gives_scalar, operators, touches_else, turn_touches, turns_meet, updates_by, Independent}
use Rattle.regions.proofs.Needs.{Every, every_left, every_right}
use Rattle.spans.proofs.PlainTouches.{IsPlain}

abbrev all_of : List Turn → List Touch
all_of turns = flat_map turn_touches turns

-- a read that is no part of an update is none of any operator
plain_else : (op : CombineOp) (c : Cell) (xs : List Touch) → Every IsPlain xs → reads xs c ≡ true →
    touches_else op xs c ≡ true
plain_else op c [] p h = absurd (false≢true h)
plain_else op c (t ∷ xs) p h =
    ⊎_elim
    (λ e. or_left (not (updates_by op t) && has_cell c t) (touches_else op xs c)
    (and_from (not (updates_by op t)) (has_cell c t) (none t p.0) (and_parts (not t.is_write) (has_cell c t) e).1))
    (λ e. or_right (not (updates_by op t) && has_cell c t) (touches_else op xs c) (plain_else op c xs p.1 e))
    (or_cases (not t.is_write && has_cell c t) (reads xs c) h)
  where
    none : (t : Touch) → t.combines ≡ None → not (updates_by op t) ≡ true
    none t e = rw (e) refl

no_operator : (xs ys : List Touch) (c : Cell) (ops : List CombineOp) → Every IsPlain ys → reads ys c ≡ true →
    list_any (λ op. not (touches_else op xs c || touches_else op ys c)) ops ≡ false
no_operator xs ys c [] p h = refl
no_operator xs ys c (op ∷ ops) p h =
    go (touches_else op xs c) (touches_else op ys c) (plain_else op c ys p h) (no_operator xs ys c ops p h)
  where
    go : (a b : Bool) → b ≡ true →
        list_any (λ op. not (touches_else op xs c || touches_else op ys c)) ops ≡ false →
        (not (a || b) || list_any (λ op. not (touches_else op xs c || touches_else op ys c)) ops) ≡ false
    go true b e k = k
    go false true e k = k
    go false false e k = absurd (false≢true e)

crossed : (s t : Turn) (c : Cell) → Every IsPlain (turn_touches t) → writes (turn_touches s) c ≡ true →
    reads (turn_touches t) c ≡ true → crosses s t c ≡ true
crossed s t c p w r =
    and_from (writes (turn_touches s) c) _ w
    (or_left ((reads (turn_touches t) c || writes (turn_touches t) c) && not (commute_at (turn_touches s) (turn_touches t) c))
    (gives_scalar t s)
    (and_from (reads (turn_touches t) c || writes (turn_touches t) c) (not (commute_at (turn_touches s) (turn_touches t) c))
    (or_left (reads (turn_touches t) c) (writes (turn_touches t) c) r)
    (ap not (no_operator (turn_touches s) (turn_touches t) c operators p r))))

-- one turn and those behind it
one_clear : (s : Turn) (ys : List Turn) (c : Cell) → list_any (λ t. crosses s t c || crosses t s c) ys ≡ false →
    Every IsPlain (all_of ys) → writes (turn_touches s) c ≡ true → reads (all_of ys) c ≡ true → ⊥
one_clear s [] c h p w r = false≢true r
one_clear s (t ∷ ys) c h p w r =
    let q = or_parts (crosses s t c || crosses t s c) (list_any (λ t. crosses s t c || crosses t s c) ys) h in
    ⊎_elim
    (λ e. false≢true (sym (or_parts (crosses s t c) (crosses t s c) q.0).0
    ∙ crossed s t c (every_left IsPlain (turn_touches t) (all_of ys) p) w e))
    (λ e. one_clear s ys c q.1 (every_right IsPlain (turn_touches t) (all_of ys) p) w e)
    (or_cases (reads (turn_touches t) c) (reads (all_of ys) c)
    (sym (list_any-append (λ u. not u.is_write && has_cell c u) (turn_touches t) (all_of ys)) ∙ r))

-- those in front and those behind
pub clear_of : (xs ys : List Turn) (c : Cell) → turns_meet (xs ++ ys) c ≡ false → Every IsPlain (all_of ys) →
    writes (all_of xs) c ≡ true → reads (all_of ys) c ≡ true → ⊥
clear_of [] ys c h p w r = false≢true w
clear_of (s ∷ xs) ys c h p w r =
    let q = or_parts (list_any (λ t. crosses s t c || crosses t s c) (xs ++ ys)) (turns_meet (xs ++ ys) c) h in
    ⊎_elim
    (λ e. one_clear s ys c (or_parts (list_any (λ t. crosses s t c || crosses t s c) xs)
    (list_any (λ t. crosses s t c || crosses t s c) ys)
    (sym (list_any-append (λ t. crosses s t c || crosses t s c) xs ys) ∙ q.0)).1 p e r)
    (λ e. clear_of xs ys c q.1 p e r)
    (or_cases (writes (turn_touches s) c) (writes (all_of xs) c)
    (sym (list_any-append (λ u. u.is_write && has_cell c u) (turn_touches s) (all_of xs)) ∙ w))

-- the front meets nowhere, and so does the rest
front_meets : (xs ys : List Turn) (c : Cell) → turns_meet (xs ++ ys) c ≡ false → turns_meet xs c ≡ false
front_meets [] ys c h = refl
front_meets (s ∷ xs) ys c h =
    let q = or_parts (list_any (λ t. crosses s t c || crosses t s c) (xs ++ ys)) (turns_meet (xs ++ ys) c) h in
    neither (list_any (λ t. crosses s t c || crosses t s c) xs) (turns_meet xs c)
    (or_parts (list_any (λ t. crosses s t c || crosses t s c) xs) (list_any (λ t. crosses s t c || crosses t s c) ys)
    (sym (list_any-append (λ t. crosses s t c || crosses t s c) xs ys) ∙ q.0)).0 (front_meets xs ys c q.1)
  where
    neither : (a b : Bool) → a ≡ false → b ≡ false → (a || b) ≡ false
    neither false b e f = f
    neither true b e f = e

back_meets : (xs ys : List Turn) (c : Cell) → turns_meet (xs ++ ys) c ≡ false → turns_meet ys c ≡ false
back_meets [] ys c h = h
back_meets (s ∷ xs) ys c h =
    back_meets xs ys c
    (or_parts (list_any (λ t. crosses s t c || crosses t s c) (xs ++ ys)) (turns_meet (xs ++ ys) c) h).1

pub front_apart : (xs ys : List Turn) → Independent (xs ++ ys) → Independent xs
front_apart xs ys h c = front_meets xs ys c (h c)

pub back_apart : (xs ys : List Turn) → Independent (xs ++ ys) → Independent ys
back_apart xs ys h c = back_meets xs ys c (h c)
