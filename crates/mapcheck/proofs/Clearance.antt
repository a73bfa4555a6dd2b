-- An item that comes after all that show where it reads or writes has no conflict.
use Rattle.std.proofs.Common.{◌≡◌, ◌≢◌, ℕ, ◌+◌, ◌<◌, ◌≤◌, Bool, true, false, List, length, refl, sym, ap, ◌∙◌, subst, inl, inr, ⊎_elim, Option, Some, None, arith}
use Rattle.std.specs.Prelude.{◌||◌, ◌&&◌, slice_get}
use Rattle.std.proofs.lemmas.Option.{slice_get_within}
use Rattle.std.proofs.lemmas.Bool.{and_parts, cases_eq, or_cases}
use Rattle.base.specs.declared.item.Cell.{Cell}
use Rattle.base.specs.declared.item.Loc.{Loc}
use Rattle.base.specs.Actions.{Stage, conflict, conflict_at, item_reads, item_writes, stages}
use Rattle.base.specs.Items.{Plan}
use Rattle.base.specs.Order.{Before, IsBeforeAll}
use Rattle.mapcheck.specs.declared.accesses.Access.{Access}
use Rattle.mapcheck.specs.declared.accesses.Accesses.{Accesses}
use Rattle.mapcheck.specs.declared.noted.Noted.{Noted}
use Rattle.mapcheck.specs.Accesses.{AreAccesses, some_reads, some_writes}
use Rattle.mapcheck.specs.Noted.{AreBeforeAll, AreNoted, IsAccessed, IsSeen, IsShown, place_of, row_of}
use Rattle.mapcheck.specs.Unordered.{AreAccessesOf, AreOfItems, IsConflictOf, IsUnordered}
use Rattle.mapcheck.proofs.Collisions.{some_place}
use Rattle.mapcheck.proofs.Firsts.{all_looked}
use Rattle.mapcheck.proofs.Noting.{place_inside}
use Rattle.mapcheck.proofs.Pairs.{item_there, not_missing}

-- the accesses of the two items meet at one location, where one of them writes
pub data Meet (first second : List Access) (c : Cell) : Type 0 where
  write_read : (loc : Loc) → some_writes first loc c ≡ true → some_reads second loc c ≡ true → Meet first second c
  write_write : (loc : Loc) → some_writes first loc c ≡ true → some_writes second loc c ≡ true → Meet first second c
  read_write : (loc : Loc) → some_reads first loc c ≡ true → some_writes second loc c ≡ true → Meet first second c

meeting : (s t : Stage) (b a : Accesses) (c : Cell) → AreAccesses b s.work.device s.actions →
    AreAccesses a t.work.device t.actions → conflict s t c ≡ true → Meet b.list.items a.list.items c
meeting s t b a c are_b are_a h = go (some_place s t c h)
  where
    go : (l : Loc) × (conflict_at s t c l ≡ true) → Meet b.list.items a.list.items c
    go (l, e) = ⊎_elim
        (λ (w : (item_writes s l c && (item_reads t l c || item_writes t l c)) ≡ true).
        let both = and_parts (item_writes s l c) (item_reads t l c || item_writes t l c) w in
        ⊎_elim
        (λ (x : item_reads t l c ≡ true). write_read l (are_b.writes l c ∙ both.0) (are_a.reads l c ∙ x))
        (λ (x : item_writes t l c ≡ true). write_write l (are_b.writes l c ∙ both.0) (are_a.writes l c ∙ x))
        (or_cases (item_reads t l c) (item_writes t l c) both.1))
        (λ (r : (item_reads s l c && item_writes t l c) ≡ true).
        let both = and_parts (item_reads s l c) (item_writes t l c) r in
        read_write l (are_b.reads l c ∙ both.0) (are_a.writes l c ∙ both.1))
        (or_cases (item_writes s l c && (item_reads t l c || item_writes t l c)) (item_reads s l c && item_writes t l c) e)

meet_of : (o p : Option Stage) (b a : Accesses) (c : Cell) → AreAccessesOf o b → AreAccessesOf p a →
    elim o [ None ↦ false | Some s ↦ elim p [ None ↦ false | Some t ↦ conflict s t c ] ] ≡ true →
    Meet b.list.items a.list.items c
meet_of None p b a c are_b are_a h = absurd are_b
meet_of (Some s) None b a c are_b are_a h = absurd are_a
meet_of (Some s) (Some t) b a c are_b are_a h = meeting s t b a c are_b are_a h

-- an item that shows where it meets a clear one is before it
before_clear : (plan : Plan) (old new : Noted) (k j : ℕ) (first second : List Access) (c : Cell) → k ≢ j →
    IsShown plan old k first → IsSeen plan old new j (IsAccessed second) true → Meet first second c → Before plan k j
before_clear plan old new k j first second c ne shown seen (write_read loc w r) =
    seen.clear refl false loc c r k true refl (shown true loc c w) ne
before_clear plan old new k j first second c ne shown seen (write_write loc w v) =
    seen.clear refl true loc c v k true refl (shown true loc c w) ne
before_clear plan old new k j first second c ne shown seen (read_write loc r w) =
    seen.clear refl true loc c w k false refl (shown false loc c r) ne

-- the item is after all that it conflicts with
pub no_conflict : (plan : Plan) (list : List Accesses) (old new : Noted) (j : ℕ) (a : Accesses) → AreOfItems plan list →
    AreNoted plan list j old → slice_get list j ≡ Some a → IsSeen plan old new j (IsAccessed a.list.items) true →
    IsConflictOf plan j None
no_conflict plan list old new j a are noted there seen =
    all_looked plan j j None refl (λ k d lt u. at_item k d lt u (slice_get list k) refl)
  where
    inside : j < length list
    inside = slice_get_within list j a there

    at_item : (k : ℕ) (d : Cell) → k < j → IsUnordered plan k j d → (o : Option Accesses) → slice_get list k ≡ o → ⊥
    at_item k d lt u None e = not_missing list k (omega (arith, lt, inside)) e
    at_item k d lt u (Some b) e = u.2 (⊎_elim
        (λ (all : IsBeforeAll plan k j). all j (omega arith) (item_there plan list j are inside))
        (λ (shown : IsShown plan old k b.list.items).
        before_clear plan old new k j b.list.items a.list.items d (λ same. omega (arith, lt, same)) shown seen
        (meet_of (slice_get (stages plan) k) (slice_get (stages plan) j) b a d (are k b e) (are j a there) u.1))
        (noted k b lt e))

before_more : (plan : Plan) (k m n : ℕ) → m ≤ n → IsBeforeAll plan k m → IsBeforeAll plan k n
before_more plan k m n le h j low inside = h j (omega (arith, le, low)) inside

some_same : (o : Option Accesses) (a b : Accesses) → o ≡ Some a → o ≡ Some b → a ≡ b
some_same o a b e f = some_is a b (sym e ∙ f)
  where
    value : Accesses → Option Accesses → Accesses
    value x None = x
    value x (Some y) = y

    some_is : (x y : Accesses) → Some x ≡ Some y → x ≡ y
    some_is x y h = ap (value x) h

-- the item was noted
pub one_noted : (plan : Plan) (list : List Accesses) (old new : Noted) (j : ℕ) (a : Accesses) (clear : Bool) →
    AreNoted plan list j old → slice_get list j ≡ Some a → IsSeen plan old new j (IsAccessed a.list.items) clear →
    AreNoted plan list (j + 1) new
one_noted plan list old new j a clear noted there seen k b lt e = ⊎_elim
    (λ (same : k ≡ j).
    let is : a ≡ b = some_same (slice_get list j) a b there (subst (λ n. slice_get list n ≡ Some b) same e) in
    inr (subst (λ n. IsShown plan new n b.list.items) (sym same)
    (subst (λ (x : Accesses). IsShown plan new j x.list.items) is seen.shown)))
    (λ (other : k ≡ j → ⊥). ⊎_elim
    (λ (all : IsBeforeAll plan k j). inl (before_more plan k j (j + 1) (omega arith) all))
    (λ (shown : IsShown plan old k b.list.items).
    inr (λ w loc c x. seen.kept (row_of loc c.array) (place_of c) k w (place_inside c) (shown w loc c x)))
    (noted k b (omega (arith, lt, other)) e))
    (cases_eq k j)

-- nothing need be noted
pub all_before : (plan : Plan) (list : List Accesses) (n place : ℕ) (noted : Noted) → place ≤ n → AreBeforeAll plan n place →
    AreNoted plan list n noted
all_before plan list n place noted le h k a lt e = inl (before_more plan k place n le (h k lt))

pub one_before : (plan : Plan) (n place after next : ℕ) → place ≤ next → after ≤ next → AreBeforeAll plan n place →
    IsBeforeAll plan n after → AreBeforeAll plan (n + 1) next
one_before plan n place after next le more h here k lt = ⊎_elim
    (λ (same : k ≡ n). subst (λ m. IsBeforeAll plan m next) (sym same) (before_more plan n after next more here))
    (λ (other : k ≡ n → ⊥). before_more plan k place next le (h k (omega (arith, lt, other)))) (cases_eq k n)

pub none_before : (plan : Plan) (j place : ℕ) → place ≤ j → j < length plan.items → AreBeforeAll plan j place →
    IsConflictOf plan j None
none_before plan j place le inside h =
    all_looked plan j j None refl (λ k d lt u. u.2 (h k lt j le inside))
