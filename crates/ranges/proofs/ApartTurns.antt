-- Turns that agree in the names of all loops wherever they touch one cell meet nowhere.
use Rattle.std.proofs.Common.{◌≡◌, ℕ, zero, suc, ◌+◌, ◌-◌, ◌*◌, ◌<◌, ◌≤◌, Bool, true, false, List, [], ◌∷◌, ◌++◌, Option, Some, None, refl, sym, ap, ap₂, ◌∙◌, subst, ⊎_elim, ◌⊎◌, inl, inr, arith, length, length-append, append_assoc}
use Rattle.std.specs.Prelude.{◌&&◌, ◌||◌, not, slice_index}
use Rattle.std.specs.List.{list_any}
use Rattle.std.proofs.lemmas.Bool.{false≢true, and_parts, or_cases}
use Rattle.std.proofs.lemmas.List.{append-nil, get_or_append_left}
use Rattle.base.specs.declared.tree.Bounds.{Bounds}
use Rattle.base.specs.declared.tree.Stmt.{Stmt}
use Rattle.base.specs.declared.item.Cell.{Cell}
use Rattle.base.specs.Footprint.{Touch, has_cell, reads, writes}
use Rattle.base.specs.Meaning.{turns_left, turns_of}
use Rattle.base.specs.ScalarUse.{list_assigned, list_needs}
use Rattle.base.specs.Turns.{Turn, commute_at, crosses, each_turn, gives_scalar, only_loop, turn_touches, turns_at, turns_meet}
use Rattle.ranges.specs.Meetings.{turn_body}
use Rattle.ranges.specs.Spans.{AreBetween}
use Rattle.ranges.specs.Strides.{AllApart, Apart, IsTurn, nest_highs, nest_lows, touch}
use Rattle.ranges.proofs.Meetings.{gives_none}
use Rattle.ranges.proofs.SettledTouches.{next_turns, some_turn}
use Rattle.ranges.proofs.Spans.{between_push}

-- ---- lists of turns

-- so does each of them
abbrev pub Each : (Turn → Type 0) → List Turn → Type 0
Each P [] = Unit {0}
Each P (t ∷ ts) = P t × Each P ts

pub each_append : (P : Turn → Type 0) (xs ys : List Turn) → Each P xs → Each P ys → Each P (xs ++ ys)
each_append P [] ys h k = k
each_append P (x ∷ xs) ys h k = (h.0, each_append P xs ys h.1 k)

any_touch : (p : Touch → Bool) (ts : List Touch) (c : Cell) → list_any (λ t. p t && has_cell c t) ts ≡ true → list_any (has_cell c) ts ≡ true
any_touch p [] c h = h
any_touch p (t ∷ ts) c h =
    ⊎_elim (λ a. left (has_cell c t) (list_any (has_cell c) ts) (and_parts (p t) (has_cell c t) a).1)
    (λ b. right (has_cell c t) (list_any (has_cell c) ts) (any_touch p ts c b))
    (or_cases (p t && has_cell c t) (list_any (λ t. p t && has_cell c t) ts) h)
  where
    left : (a b : Bool) → a ≡ true → (a || b) ≡ true
    left true b e = refl
    left false b e = absurd (false≢true e)

    right : (a b : Bool) → b ≡ true → (a || b) ≡ true
    right true b e = refl
    right false b e = e

abbrev pub touched : Turn → Cell → Bool
touched t c = list_any (has_cell c) (turn_touches t)

pub not_crossed : (s t : Turn) (c : Cell) → gives_scalar t s ≡ false → (touched s c ≡ true → touched t c ≡ true → ⊥) → crosses s t c ≡ false
not_crossed s t c given none = go (writes (turn_touches s) c) (reads (turn_touches t) c) (writes (turn_touches t) c)
    (not (commute_at (turn_touches s) (turn_touches t) c)) (gives_scalar t s) given
    (any_touch (λ u. u.is_write) (turn_touches s) c) (any_touch (λ u. not u.is_write) (turn_touches t) c) (any_touch (λ u. u.is_write) (turn_touches t) c)
  where
    go : (w r v m g : Bool) → g ≡ false → (w ≡ true → touched s c ≡ true) → (r ≡ true → touched t c ≡ true) → (v ≡ true → touched t c ≡ true) →
        (w && (((r || v) && m) || g)) ≡ false
    go false r v m g e a b d = refl
    go true true v m g e a b d = absurd (none (a refl) (b refl))
    go true false true m g e a b d = absurd (none (a refl) (d refl))
    go true false false m g e a b d = e

-- these and those meet nowhere
abbrev pub NoPair : Cell → Turn → Turn → Type 0
NoPair c s t = (crosses s t c || crosses t s c) ≡ false

no_any : (c : Cell) (s : Turn) (ts : List Turn) → Each (NoPair c s) ts → list_any (λ t. crosses s t c || crosses t s c) ts ≡ false
no_any c s [] h = refl
no_any c s (t ∷ ts) h = both (crosses s t c || crosses t s c) _ h.0 (no_any c s ts h.1)
  where
    both : (a b : Bool) → a ≡ false → b ≡ false → (a || b) ≡ false
    both false b e f = f
    both true b e f = e

pub no_pairs : (c : Cell) (P Q : Turn → Type 0) (xs ys : List Turn) → Each P xs → Each Q ys → turns_meet xs c ≡ false → turns_meet ys c ≡ false →
    ((s t : Turn) → P s → Q t → NoPair c s t) → turns_meet (xs ++ ys) c ≡ false
no_pairs c P Q [] ys p q none none_behind each = none_behind
no_pairs c P Q (s ∷ xs) ys p q none none_behind each =
    let a = none_of (list_any (λ t. crosses s t c || crosses t s c) xs) (turns_meet xs c) none in
    both (list_any (λ t. crosses s t c || crosses t s c) (xs ++ ys)) (turns_meet (xs ++ ys) c)
    (all_none s xs ys a.0 (no_any c s ys (each_all ys q)))
    (no_pairs c P Q xs ys p.1 q a.1 none_behind each)
  where
    both : (a b : Bool) → a ≡ false → b ≡ false → (a || b) ≡ false
    both false b e f = f
    both true b e f = e

    none_of : (a b : Bool) → (a || b) ≡ false → (a ≡ false) × (b ≡ false)
    none_of false b e = (refl, e)
    none_of true b e = absurd (false≢true (sym e))

    each_all : (ts : List Turn) → Each Q ts → Each (NoPair c s) ts
    each_all [] h = tt
    each_all (t ∷ ts) h = (each s t p.0 h.0, each_all ts h.1)

    all_none : (s : Turn) (us vs : List Turn) → list_any (λ t. crosses s t c || crosses t s c) us ≡ false →
        list_any (λ t. crosses s t c || crosses t s c) vs ≡ false → list_any (λ t. crosses s t c || crosses t s c) (us ++ vs) ≡ false
    all_none s [] vs e f = f
    all_none s (u ∷ us) vs e f =
        let a = none_of (crosses s u c || crosses u s c) (list_any (λ t. crosses s t c || crosses t s c) us) e in
        both (crosses s u c || crosses u s c) _ a.0 (all_none s us vs a.1 f)
