-- The events that are allowed, in three parts, and the one at a place.
use Rattle.std.proofs.Common.{◌≡◌, ℕ, zero, suc, ◌+◌, ◌<◌, ◌≤◌, Bool, true, false, List, [], ◌∷◌, ◌++◌, Option, Some, cond, get_or, length, map, take, refl, sym, ap, ◌∙◌, arith}
use Rattle.std.specs.Prelude.{filter, option_map, slice_get}
use Rattle.std.specs.List.{range_with_len}
use Rattle.std.proofs.lemmas.List.{length-append, length-map}
use Rattle.std.proofs.lemmas.List.Elements.{filter-append}
use Rattle.std.proofs.lemmas.List.FromFn.{length-range_with_len}
use Rattle.std.proofs.lemmas.Option.{slice_get-map}
use Rattle.base.specs.declared.item.Event.{Event}
use Rattle.base.specs.declared.item.Event.TheVariants.{Close, End, Gen, Open, Wait}
use Rattle.taskgraph.specs.Board.{Board, all_closings, all_openings, allows}
use Rattle.taskgraph.proofs.Those.{get_left, get_right}
use Rattle.device.specs.Allowed.{allowed_at}

-- of a list of events, those that are allowed
pub filter_listed : {A B : Type 0} (p : B → Bool) (f : A → B) (xs : List A) →
    filter p (map f xs) ≡ map f (filter (λ x. p (f x)) xs)
filter_listed p f [] = refl
filter_listed {A} {B} p f (x ∷ xs) = go (p (f x)) (filter_listed p f xs)
  where
    go : (v : Bool) → filter p (map f xs) ≡ map f (filter (λ x. p (f x)) xs) →
        cond v (f x ∷ filter p (map f xs)) (filter p (map f xs))
        ≡ map f (cond v (x ∷ filter (λ x. p (f x)) xs) (filter (λ x. p (f x)) xs))
    go true e = ap (λ l. f x ∷ l) e
    go false e = e

-- the one at a place is that of the item at that place
pub listed_at : (p : Event → Bool) (f : ℕ → Event) (n k : ℕ) (o : Option ℕ) →
    o ≡ slice_get (filter (λ i. p (f i)) (range_with_len 0 n)) k →
    option_map f o ≡ slice_get (filter p (map f (range_with_len 0 n))) k
listed_at p f n k o e =
    ap (option_map f) e
    ∙ sym (ap (λ l. slice_get l k) (filter_listed p f (range_with_len 0 n))
    ∙ slice_get-map f (filter (λ i. p (f i)) (range_with_len 0 n)) k)

-- such an item is one of them
pub item_inside : (p : ℕ → Bool) (s n k i : ℕ) → slice_get (filter p (range_with_len s n)) k ≡ Some i → i < s + n
item_inside p s zero k i e = absurd (cc e)
item_inside p s (suc n) k i e = go (p s) k e (λ k e. item_inside p (s + 1) n k i e)
  where
    go : (v : Bool) (k : ℕ) →
        slice_get (cond v (s ∷ filter p (range_with_len (s + 1) n)) (filter p (range_with_len (s + 1) n))) k ≡ Some i →
        ((k : ℕ) → slice_get (filter p (range_with_len (s + 1) n)) k ≡ Some i → i < (s + 1) + n) → i < s + suc n
    go true zero e later = let is : s ≡ i = cc e in omega arith
    go true (suc k) e later = omega (arith, later k e)
    go false k e later = omega (arith, later k e)

-- ---- one by one

pub few_pass : {A : Type 0} (p : A → Bool) (xs : List A) → length (filter p xs) ≤ length xs
few_pass p [] = omega arith
few_pass {A} p (x ∷ xs) = go (p x) (few_pass p xs)
  where
    go : (v : Bool) → length (filter p xs) ≤ length xs → length (cond v (x ∷ filter p xs) (filter p xs)) ≤ suc (length xs)
    go true le = omega (arith, le)
    go false le = omega (arith, le)

-- one that passes, after those before it
pub passes_at : {A : Type 0} (p : A → Bool) (xs : List A) (i : ℕ) (d : A) → i < length xs → p (get_or xs i d) ≡ true →
    slice_get (filter p xs) (length (filter p (take i xs))) ≡ Some (get_or xs i d)
passes_at p [] i d lt e = absurd (omega arith)
passes_at p (x ∷ xs) zero d lt e = ap (λ v. slice_get (cond v (x ∷ filter p xs) (filter p xs)) 0) e
passes_at {A} p (x ∷ xs) (suc i) d lt e = go (p x) (passes_at p xs i d (omega arith) e)
  where
    go : (v : Bool) → slice_get (filter p xs) (length (filter p (take i xs))) ≡ Some (get_or xs i d) →
        slice_get (cond v (x ∷ filter p xs) (filter p xs)) (length (cond v (x ∷ filter p (take i xs)) (filter p (take i xs))))
        ≡ Some (get_or xs i d)
    go true h = h
    go false h = h

-- ---- the three parts

module _ (b : Board) where
  abbrev pub closings : List Event
  closings = filter (allows b) (map Close (range_with_len 0 (length b.tasks)))

  abbrev pub openings : List Event
  openings = filter (allows b) (map Open (range_with_len 0 (length b.tasks)))

  abbrev pub host : List Event
  host = filter (allows b) (Gen b.place ∷ Wait b.place ∷ End ∷ [])

  three : allowed_at b (length b.tasks) ≡ closings ++ (openings ++ host)
  three =
      let all = range_with_len 0 (length b.tasks) in
      let own = Gen b.place ∷ Wait b.place ∷ End ∷ [] in
      filter-append (allows b) (map Close all) (map Open all ++ own)
      ∙ ap (λ l. closings ++ l) (filter-append (allows b) (map Open all) own)

  pub closings_long : length closings ≡ length (all_closings b)
  closings_long =
      ap (λ l. length l) (filter_listed (allows b) Close (range_with_len 0 (length b.tasks))) ∙ length-map (all_closings b) Close

  pub openings_long : length openings ≡ length (all_openings b)
  openings_long =
      ap (λ l. length l) (filter_listed (allows b) Open (range_with_len 0 (length b.tasks))) ∙ length-map (all_openings b) Open

  pub whole_long : length (allowed_at b (length b.tasks)) ≡ (length (all_closings b) + length (all_openings b)) + length host
  whole_long =
      let long = ap (λ l. length l) three ∙ length-append closings (openings ++ host) in
      omega (arith, long, length-append openings host, closings_long, openings_long)

  pub few_closings : length (all_closings b) ≤ length b.tasks
  few_closings =
      let few = few_pass (λ i. allows b (Close i)) (range_with_len 0 (length b.tasks)) in
      omega (arith, few, length-range_with_len 0 (length b.tasks))

  pub few_openings : length (all_openings b) ≤ length b.tasks
  few_openings =
      let few = few_pass (λ i. allows b (Open i)) (range_with_len 0 (length b.tasks)) in
      omega (arith, few, length-range_with_len 0 (length b.tasks))

  pub at_closing : (k : ℕ) → k < length (all_closings b) → slice_get closings k ≡ slice_get (allowed_at b (length b.tasks)) k
  at_closing k lt =
      sym (ap (λ l. slice_get l k) three ∙ get_left closings (openings ++ host) k (omega (arith, lt, closings_long)))

  pub at_opening : (j k : ℕ) → j + length (all_closings b) ≡ k → j < length (all_openings b) →
      slice_get openings j ≡ slice_get (allowed_at b (length b.tasks)) k
  at_opening j k e lt =
      sym (ap (λ l. slice_get l k) three ∙ get_right closings (openings ++ host) j k (omega (arith, e, closings_long))
      ∙ get_left openings host j (omega (arith, lt, openings_long)))

  pub at_host : (i k : ℕ) → (i + length (all_openings b)) + length (all_closings b) ≡ k →
      slice_get host i ≡ slice_get (allowed_at b (length b.tasks)) k
  at_host i k e =
      let j = i + length openings in
      sym (ap (λ l. slice_get l k) three
      ∙ get_right closings (openings ++ host) j k (omega (arith, e, closings_long, openings_long))
      ∙ get_right openings host i j refl)
