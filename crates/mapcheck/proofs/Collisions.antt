-- Two items conflict where one of the accesses of the one does with one of the other's.
use Rattle.std.proofs.Common.{◌≡◌, ℕ, ◌+◌, ◌<◌, ◌≤◌, Bool, true, false, List, [], ◌∷◌, length, get_or, take, refl, sym, ap, ◌∙◌, subst, Option, inl, inr, ◌⊎◌, ⊎_elim}
use Rattle.std.specs.Prelude.{not, ◌&&◌, ◌||◌}
use Rattle.std.specs.List.{list_any}
use Rattle.std.proofs.Math.Bool.{and_assoc}
use Rattle.std.proofs.lemmas.Bool.{and_from, and_parts, eq-eqb, eqb-true, or_cases, or_left, or_right}
use Rattle.base.specs.declared.item.Cell.{Cell}
use Rattle.base.specs.declared.item.Loc.{Loc}
use Rattle.base.specs.declared.item.Loc.TheVariants.{Host, Dev, Tab}
use Rattle.base.specs.Actions.{Stage, conflict, conflict_at}
use Rattle.base.specs.Least.{IsLeast, lesser}
use Rattle.base.proofs.Devices.{at_some_place}
use Rattle.base.proofs.Leasts.{least_same, lesser_is}
use Rattle.std.proofs.lemmas.List.{take_all}
use Rattle.std.proofs.lemmas.List.Folds.{list_any_more}
use Rattle.mapcheck.specs.declared.accesses.Access.{Access}
use Rattle.mapcheck.specs.declared.accesses.Accesses.{Accesses}
use Rattle.mapcheck.specs.Accesses.{access_reads, access_writes, has_cell, same_loc, some_reads, some_writes}
use Rattle.mapcheck.specs.Collisions.{IsLeastConflict, collide, collides, some_collide}

-- of one location: w and r are what the one writes and reads, and y and x what the other does
abbrev meets : Bool → Bool → Bool → Bool → Bool
meets w r y x = (w && (x || y)) || (r && y)

spread : (a b w r q y : Bool) → (((a || w) && q) || ((b || r) && y)) ≡ (((a && q) || (b && y)) || ((w && q) || (r && y)))
spread true b w r true y = refl
spread true true true r false true = refl
spread true true true true false false = refl
spread true true true false false false = refl
spread true true false r false true = refl
spread true true false true false false = refl
spread true true false false false false = refl
spread true false true r false y = refl
spread true false false r false y = refl
spread false true true r true true = refl
spread false true true r false true = refl
spread false true true r true false = refl
spread false true true true false false = refl
spread false true true false false false = refl
spread false false true r q y = refl
spread false true false r q true = refl
spread false true false true q false = refl
spread false true false false q false = refl
spread false false false r q y = refl

more_left : (a b w r y x : Bool) → meets (a || w) (b || r) y x ≡ (meets a b y x || meets w r y x)
more_left a b w r y x = spread a b w r (x || y) y

more_right : (w r a b y x : Bool) → meets w r (a || y) (b || x) ≡ (meets w r a b || meets w r y x)
more_right true r a true y x = refl
more_right true r true false y true = refl
more_right true r true false y false = refl
more_right true true false false y x = refl
more_right true false false false y x = refl
more_right false true a b y x = refl
more_right false false a b y x = refl

-- of two accesses at one location
pair : (p : Bool) (v i : Bool) (q w j : Bool) →
    meets (p && (v && i)) (p && (not v && i)) (q && (w && j)) (q && (not w && j)) ≡ ((p && q) && ((v || w) && (i && j)))
pair false v i q w j = refl
pair true true true false w j = refl
pair true true true true true true = refl
pair true true true true true false = refl
pair true true true true false true = refl
pair true true true true false false = refl
pair true true false true w j = refl
pair true true false false w j = refl
pair true false true q w j = refl
pair true false false true true j = refl
pair true false false true false j = refl
pair true false false false w j = refl

loc_self : (k : Loc) → same_loc k k ≡ true
loc_self Host = refl
loc_self (Dev d) = eq-eqb d d refl
loc_self (Tab d) = eq-eqb d d refl

pub loc_same : (k m : Loc) → same_loc k m ≡ true → k ≡ m
loc_same Host Host e = refl
loc_same Host (Dev e) h = absurd cc
loc_same Host (Tab e) h = absurd cc
loc_same (Dev d) Host h = absurd cc
loc_same (Dev d) (Dev e) h = ap (λ n. Dev n) (eqb-true d e h)
loc_same (Dev d) (Tab e) h = absurd cc
loc_same (Tab d) Host h = absurd cc
loc_same (Tab d) (Dev e) h = absurd cc
loc_same (Tab d) (Tab e) h = ap (λ n. Tab n) (eqb-true d e h)

abbrev meets_at : List Access → List Access → Cell → Loc → Bool
meets_at xs ys c l = meets (some_writes xs l c) (some_reads xs l c) (some_writes ys l c) (some_reads ys l c)

abbrev meets_one : Access → List Access → Cell → Loc → Bool
meets_one a ys c l = meets (access_writes a l c) (access_reads a l c) (some_writes ys l c) (some_reads ys l c)

abbrev meets_pair : Access → Access → Cell → Loc → Bool
meets_pair a b c l = meets (access_writes a l c) (access_reads a l c) (access_writes b l c) (access_reads b l c)

none_right : (w r : Bool) → meets w r false false ≡ false
none_right true true = refl
none_right true false = refl
none_right false true = refl
none_right false false = refl

abbrev at_both : Access → Access → Cell → Bool
at_both a b c = (a.writes || b.writes) && (has_cell a.cells c && has_cell b.cells c)

pair_is : (a b : Access) (c : Cell) (l : Loc) → meets_pair a b c l ≡ ((same_loc a.loc l && same_loc b.loc l) && at_both a b c)
pair_is a b c l = pair (same_loc a.loc l) a.writes (has_cell a.cells c) (same_loc b.loc l) b.writes (has_cell b.cells c)

collide_is : (a b : Access) (c : Cell) → collide a b c ≡ (same_loc a.loc b.loc && at_both a b c)
collide_is a b c = and_assoc (same_loc a.loc b.loc) (a.writes || b.writes) (has_cell a.cells c && has_cell b.cells c)

-- two accesses collide where they meet at the location of the first one
pair_there : (a b : Access) (c : Cell) → collide a b c ≡ true → meets_pair a b c a.loc ≡ true
pair_there a b c h =
    let both = and_parts (same_loc a.loc b.loc) (at_both a b c) (sym (collide_is a b c) ∙ h) in
    let same : b.loc ≡ a.loc = sym (loc_same a.loc b.loc both.0) in
    pair_is a b c a.loc ∙ and_from (same_loc a.loc a.loc && same_loc b.loc a.loc) (at_both a b c)
    (and_from (same_loc a.loc a.loc) (same_loc b.loc a.loc) (loc_self a.loc) (ap (λ k. same_loc k a.loc) same ∙ loc_self a.loc)) both.1

pair_back : (a b : Access) (c : Cell) (l : Loc) → meets_pair a b c l ≡ true → collide a b c ≡ true
pair_back a b c l h =
    let both = and_parts (same_loc a.loc l && same_loc b.loc l) (at_both a b c) (sym (pair_is a b c l) ∙ h) in
    let locs = and_parts (same_loc a.loc l) (same_loc b.loc l) both.0 in
    collide_is a b c ∙ and_from (same_loc a.loc b.loc) (at_both a b c)
    (ap (λ k. same_loc a.loc k) (loc_same b.loc l locs.1) ∙ locs.0) both.1

one_is : (a b : Access) (ys : List Access) (c : Cell) (l : Loc) → meets_one a (b ∷ ys) c l ≡ (meets_pair a b c l || meets_one a ys c l)
one_is a b ys c l = more_right (access_writes a l c) (access_reads a l c) (access_writes b l c) (access_reads b l c)
    (some_writes ys l c) (some_reads ys l c)

one_there : (a : Access) (ys : List Access) (c : Cell) → collides a ys c ≡ true → meets_one a ys c a.loc ≡ true
one_there a [] c h = absurd cc
one_there a (b ∷ ys) c h = one_is a b ys c a.loc ∙ ⊎_elim
    (λ (e : collide a b c ≡ true). or_left (meets_pair a b c a.loc) (meets_one a ys c a.loc) (pair_there a b c e))
    (λ (e : collides a ys c ≡ true). or_right (meets_pair a b c a.loc) (meets_one a ys c a.loc) (one_there a ys c e))
    (or_cases (collide a b c) (collides a ys c) h)

one_back : (a : Access) (ys : List Access) (c : Cell) (l : Loc) → meets_one a ys c l ≡ true → collides a ys c ≡ true
one_back a [] c l h = absurd (let bad : true ≡ false = sym h ∙ none_right (access_writes a l c) (access_reads a l c) in cc)
one_back a (b ∷ ys) c l h = ⊎_elim
    (λ (e : meets_pair a b c l ≡ true). or_left (collide a b c) (collides a ys c) (pair_back a b c l e))
    (λ (e : meets_one a ys c l ≡ true). or_right (collide a b c) (collides a ys c) (one_back a ys c l e))
    (or_cases (meets_pair a b c l) (meets_one a ys c l) (sym (one_is a b ys c l) ∙ h))

all_is : (a : Access) (xs ys : List Access) (c : Cell) (l : Loc) → meets_at (a ∷ xs) ys c l ≡ (meets_one a ys c l || meets_at xs ys c l)
all_is a xs ys c l = more_left (access_writes a l c) (access_reads a l c) (some_writes xs l c) (some_reads xs l c)
    (some_writes ys l c) (some_reads ys l c)

all_there : (xs ys : List Access) (c : Cell) → some_collide xs ys c ≡ true → (l : Loc) × (meets_at xs ys c l ≡ true)
all_there [] ys c h = absurd cc
all_there (a ∷ xs) ys c h = by_cases (or_cases (collides a ys c) (some_collide xs ys c) h) (all_there xs ys c)
  where
    by_cases : (collides a ys c ≡ true) ⊎ (some_collide xs ys c ≡ true) →
        (some_collide xs ys c ≡ true → (l : Loc) × (meets_at xs ys c l ≡ true)) → (l : Loc) × (meets_at (a ∷ xs) ys c l ≡ true)
    by_cases (inl e) rest = (a.loc, all_is a xs ys c a.loc ∙ or_left (meets_one a ys c a.loc) (meets_at xs ys c a.loc) (one_there a ys c e))
    by_cases (inr e) rest =
        let there = rest e in
        (there.0, all_is a xs ys c there.0 ∙ or_right (meets_one a ys c there.0) (meets_at xs ys c there.0) there.1)

all_back : (xs ys : List Access) (c : Cell) (l : Loc) → meets_at xs ys c l ≡ true → some_collide xs ys c ≡ true
all_back [] ys c l h = absurd cc
all_back (a ∷ xs) ys c l h = ⊎_elim
    (λ (e : meets_one a ys c l ≡ true). or_left (collides a ys c) (some_collide xs ys c) (one_back a ys c l e))
    (λ (e : meets_at xs ys c l ≡ true). or_right (collides a ys c) (some_collide xs ys c) (all_back xs ys c l e))
    (or_cases (meets_one a ys c l) (meets_at xs ys c l) (sym (all_is a xs ys c l) ∙ h))

meets_same : (w r y x w' r' y' x' : Bool) → w ≡ w' → r ≡ r' → y ≡ y' → x ≡ x' → meets w r y x ≡ meets w' r' y' x'
meets_same w r y x w' r' y' x' a b d e = cc

same_by : (x y : Bool) → (x ≡ true → y ≡ true) → (y ≡ true → x ≡ true) → x ≡ y
same_by true y f g = sym (f refl)
same_by false true f g = g refl
same_by false false f g = refl

-- a conflict is at one of the locations
pub some_place : (s t : Stage) (c : Cell) → conflict s t c ≡ true → (l : Loc) × (conflict_at s t c l ≡ true)
some_place s t c h = first (or_cases (conflict_at s t c Host) (conflict_at s t c (Dev d) || (conflict_at s t c (Tab d) || false)) h)
  where
    d : ℕ
    d = s.work.device

    third : (conflict_at s t c (Tab d) ≡ true) ⊎ (false ≡ true) → (l : Loc) × (conflict_at s t c l ≡ true)
    third (inl e) = (Tab d, e)
    third (inr e) = absurd cc

    second : (conflict_at s t c (Dev d) ≡ true) ⊎ ((conflict_at s t c (Tab d) || false) ≡ true) → (l : Loc) × (conflict_at s t c l ≡ true)
    second (inl e) = (Dev d, e)
    second (inr e) = third (or_cases (conflict_at s t c (Tab d)) false e)

    first : (conflict_at s t c Host ≡ true) ⊎ ((conflict_at s t c (Dev d) || (conflict_at s t c (Tab d) || false)) ≡ true) →
        (l : Loc) × (conflict_at s t c l ≡ true)
    first (inl e) = (Host, e)
    first (inr e) = second (or_cases (conflict_at s t c (Dev d)) (conflict_at s t c (Tab d) || false) e)

-- the least cell of the accesses is that of the stages
pub least_conflict : (a b : Accesses) (o : Option Cell) → IsLeast (some_collide a.list.items b.list.items) o →
    IsLeastConflict a b o
least_conflict a b o h s t p q =
    least_same (some_collide a.list.items b.list.items) (conflict s t) o
    (λ c. same_by (some_collide a.list.items b.list.items c) (conflict s t c)
    (λ e. let there = all_there a.list.items b.list.items c e in at_some_place s t c there.0 (sym (same c there.0) ∙ there.1))
    (λ e. let there = some_place s t c e in all_back a.list.items b.list.items c there.0 (same c there.0 ∙ there.1))) h
  where
    same : (c : Cell) (l : Loc) → meets_at a.list.items b.list.items c l ≡ conflict_at s t c l
    same c l = meets_same (some_writes a.list.items l c) (some_reads a.list.items l c) (some_writes b.list.items l c)
        (some_reads b.list.items l c) _ _ _ _ (p.writes l c) (p.reads l c) (q.writes l c) (q.reads l c)

-- one of some accesses more
pub one_further : (p : Access → Cell → Bool) (xs : List Access) (i : ℕ) (x : Access) (old new found : Option Cell) →
    i < length xs → x ≡ get_or xs i x → IsLeast (λ c. list_any (λ y. p y c) (take i xs)) old → IsLeast (p x) found →
    new ≡ lesser old found → IsLeast (λ c. list_any (λ y. p y c) (take (i + 1) xs)) new
one_further p xs i x old new found lt is h k e =
    subst (λ (o : Option Cell). IsLeast (λ c. list_any (λ y. p y c) (take (i + 1) xs)) o) (sym e)
    (least_same (λ c. list_any (λ y. p y c) (take i xs) || p x c) (λ c. list_any (λ y. p y c) (take (i + 1) xs))
    (lesser old found)
    (λ c. ap (λ y. list_any (λ z. p z c) (take i xs) || p y c) is ∙ sym (list_any_more (λ y. p y c) xs i x lt))
    (lesser_is (λ c. list_any (λ y. p y c) (take i xs)) (p x) old found h k))

pub none_further : (p : Access → Cell → Bool) (xs : List Access) (i : ℕ) (o : Option Cell) → length xs ≤ i →
    IsLeast (λ c. list_any (λ y. p y c) (take i xs)) o → IsLeast (λ c. list_any (λ y. p y c) xs) o
none_further p xs i o le h =
    least_same (λ c. list_any (λ y. p y c) (take i xs)) (λ c. list_any (λ y. p y c) xs) o
    (λ c. ap (list_any (λ y. p y c)) (take_all i xs le)) h
