-- Items in the order of the sections of their depend items.
use Rattle.std.proofs.Common.{◌≡◌, ℕ, ◌+◌, ◌<◌, ◌≤◌, Bool, true, false, List, length, get_or, take, refl, arith}
use Rattle.std.specs.Prelude.{Contains, IsTrue, not, ◌||◌, nat_lt, nat_le}
use Rattle.std.specs.List.{IsAllAdjacentAnswer}
use Rattle.std.specs.List.Sorted.{IsPartitionedBy, IsPermutation}
use Rattle.std.proofs.lemmas.Bool.{and_from, and_parts, le-leb, leb-true, lt-ltb, ltb-true}
use Rattle.std.proofs.lemmas.Bool.Decides.{nat_tests}
use Rattle.std.proofs.lemmas.Option.{slice_get_within}
use Rattle.std.proofs.lemmas.List.Elements.{All-more, All-weaker}
use Rattle.std.proofs.lemmas.List.Sorted.{All-permutation, Contains-permutation}
use Rattle.base.specs.declared.item.Depend.{Depend}
use Rattle.base.specs.declared.item.Item.{Item}
use Rattle.base.specs.declared.item.Section.{Section}
use Rattle.base.specs.Machine.{writes_to}
use Rattle.base.specs.Memory.{same_section}
use Rattle.order.specs.declared.touches.Touch.{Touch}
use Rattle.order.specs.Touches.{AreInTurn, AreSome, AreTouches, HasTouchesOf, is_in_turn, is_later}
use Rattle.order.specs.Apart.{is_same_or_behind}
use Rattle.order.proofs.Behind.{behind_behind}
use Rattle.order.proofs.Chains.{all_pairs}

same_turn : (t : Touch) → is_in_turn t t ≡ true
same_turn t = grind (arith, nat_tests)

-- a section between two that are the same is the same
pub squeezed : (s t u : Section) → is_same_or_behind s t ≡ true → is_same_or_behind t u ≡ true → same_section s u ≡ true →
    same_section s t ≡ true
squeezed s t u p q e = grind (arith, nat_tests)

pub other_two : (s t u : Section) → same_section s t ≡ true → same_section s u ≡ true → same_section t u ≡ true
other_two s t u p q = grind (arith, nat_tests)

pub from_same : (same b : Bool) → (same ≡ true → b ≡ true) → (not same || b) ≡ true
from_same false b h = refl
from_same true b h = h refl

pub to_same : (same b : Bool) → (not same || b) ≡ true → same ≡ true → b ≡ true
to_same false b h e = cc
to_same true b h e = h

turns : (t u v : Touch) → is_in_turn t u ≡ true → is_in_turn u v ≡ true → is_in_turn t v ≡ true
turns t u v p q =
    let tu = and_parts (is_same_or_behind t.section u.section) _ p in
    let uv = and_parts (is_same_or_behind u.section v.section) _ q in
    and_from (is_same_or_behind t.section v.section) _ (behind_behind t.section u.section v.section tu.0 uv.0)
    (from_same (same_section t.section v.section) (nat_le t.item v.item) (λ e.
    let same : same_section t.section u.section ≡ true = squeezed t.section u.section v.section tu.0 uv.0 e in
    let one : t.item ≤ u.item = leb-true t.item u.item (to_same (same_section t.section u.section) _ tu.1 same) in
    let two : u.item ≤ v.item = leb-true u.item v.item (to_same (same_section u.section v.section) _ uv.1
    (other_two t.section u.section v.section same e)) in
    le-leb t.item v.item (omega (arith, one, two))))

later_turn : (s : Section) (i : ℕ) (t u : Touch) → is_in_turn t u ≡ true → is_later s i t ≡ true → is_later s i u ≡ true
later_turn s i t u p q =
    let tu = and_parts (is_same_or_behind t.section u.section) _ p in
    let st = and_parts (is_same_or_behind s t.section) _ q in
    and_from (is_same_or_behind s u.section) _ (behind_behind s t.section u.section st.0 tu.0)
    (from_same (same_section s u.section) (nat_lt i u.item) (λ e.
    let same : same_section s t.section ≡ true = squeezed s t.section u.section st.0 tu.0 e in
    let one : i < t.item = ltb-true i t.item (to_same (same_section s t.section) _ st.1 same) in
    let two : t.item ≤ u.item = leb-true t.item u.item (to_same (same_section t.section u.section) _ tu.1
    (other_two s t.section u.section same e)) in
    lt-ltb i u.item (omega (arith, one, two))))

pub sorted_turns : (ts : List Touch) (r : Bool) → IsAllAdjacentAnswer (λ t u b. b ≡ is_in_turn t u) ts r → IsTrue r →
    AreInTurn ts
sorted_turns ts r h e = all_pairs is_in_turn same_turn turns ts r h e

earlier_turn : (s : Section) (i : ℕ) (t u : Touch) → is_in_turn t u ≡ true → not (is_later s i u) ≡ true →
    not (is_later s i t) ≡ true
earlier_turn s i t u p q = go (is_later s i t) refl
  where
    go : (b : Bool) → is_later s i t ≡ b → not b ≡ true
    go false e = refl
    go true e = let bad : is_later s i u ≡ true = later_turn s i t u p e in cc

pub parted : (s : Section) (i : ℕ) (ts : List Touch) → AreInTurn ts → IsPartitionedBy (λ t. not (is_later s i t)) ts
parted s i ts h a b d le lt e = earlier_turn s i (get_or ts a d) (get_or ts b d) (h a b d le lt) e

pub sorted_has : (its : List Item) (written : Bool) (old new : List Touch) → AreSome its written (length its) old →
    IsPermutation old new → AreInTurn new → AreTouches its written new
sorted_has its written old new h moved turn = record {
  has = λ j it e k d lt asked.
      Contains-permutation old new _ moved (h.has j it (slice_get_within its j it e) e k d lt asked);
  inside = All-permutation (λ t. t.item < length its) old new moved h.inside;
  turn = turn;
}

pub touches_more : (written : Bool) (ds : List Depend) (k : ℕ) (d : Depend) (item : ℕ) (old new : List Touch) →
    k < length ds → ((t : Touch) → Contains old t → Contains new t) → HasTouchesOf written (take k ds) item old →
    ((not written || writes_to (get_or ds k d).kind) ≡ true →
    Contains new (record { section = (get_or ds k d).section; item = item })) →
    HasTouchesOf written (take (k + 1) ds) item new
touches_more written ds k d item old new lt kept h here =
    All-more (λ d. (not written || writes_to d.kind) ≡ true → Contains new (record { section = d.section; item = item }))
    ds k d lt
    (All-weaker (λ d. (not written || writes_to d.kind) ≡ true → Contains old (record { section = d.section; item = item }))
    (λ d. (not written || writes_to d.kind) ≡ true → Contains new (record { section = d.section; item = item }))
    (λ d has asked. kept _ (has asked)) (take k ds) h) here

pub not_true : (b : Bool) → not b ≡ true → b ≡ false
not_true false e = refl
not_true true e = cc

pub not_false : (b : Bool) → not b ≡ false → b ≡ true
not_false false e = cc
not_false true e = refl
