-- Each step keeps the rule of a channel into which each number is sent once at most.
use Rattle.std.proofs.Common.{◌≡◌, ◌≤◌, ◌+◌, ℕ, zero, suc, Bool, true, false, List, [], ◌∷◌, ◌++◌, map, set, sym, refl, ap, ◌∙◌, subst, ⊎_elim, arith}
use Rattle.std.specs.Prelude.{◌==◌, if◌then◌else◌}
use Rattle.std.proofs.lemmas.Bool.Decides.{nat_tests}
use Rattle.std.proofs.lemmas.List.{map-append}
use Rattle.std.proofs.lemmas.List.Elements.{Contains-push}
use mathlib.Core.Option.{some, some-ne-none}
use lib.ListN.{get_elem?}
use Rattle.atomic_table.proofs.Lists.{at_snoc}
use Rattle.crossbeam_channel.specs.Fifo.{Pushes, Pops, Forks}
use Rattle.host.specs.declared.channel.Known.{Known}
use Rattle.host.proofs.Among.{IsEnd, ends_set, first_among, more_among, no_sender, none_among, rest_among, still_among}
use Rattle.host.specs.Once.{AreAmong, IsEachOnce, IsReceipt, got_by, got_by_all, receiving, sending, times}

abbrev part : Bool → ℕ
part b = if b then 1 else 0

abbrev share : ℕ → ℕ → ℕ
share x y = part (y == x)

pub times_append : (x : ℕ) (xs ys : List ℕ) → times x (xs ++ ys) ≡ times x xs + times x ys
times_append x [] ys = omega arith
times_append x (y ∷ xs) ys = let e = times_append x xs ys in omega (arith, e)

-- a number that is not there may join
pub one_more : (x y : ℕ) (xs : List ℕ) → times y xs ≡ 0 → times x xs ≤ 1 → times x (xs ++ y ∷ []) ≤ 1
one_more x y xs none h = go (y == x) refl
  where
    go : (b : Bool) → (y == x) ≡ b → times x (xs ++ y ∷ []) ≤ 1
    go true e =
        let same : y ≡ x = grind (arith, nat_tests) in
        let gone : times x xs ≡ 0 = subst (λ n. times n xs ≡ 0) same none in
        let here : share x y ≡ 1 = ap part e in
        omega (arith, times_append x xs (y ∷ []), gone, here)
    go false e =
        let here : share x y ≡ 0 = ap part e in
        omega (arith, times_append x xs (y ∷ []), h, here)

module _ {T : Type 0} (number : T → ℕ) where
  -- ---- what all ends received

  pub all_set : (x : ℕ) (views : List (Known T)) (pass : ℕ) (v w : Known T) → get_elem? views pass ≡ some v →
      got_by_all number x (set views pass w) + got_by number x v ≡ got_by_all number x views + got_by number x w
  all_set x [] pass v w at = absurd (some-ne-none v (sym at))
  all_set x (u ∷ us) zero v w at =
      let same : got_by number x u ≡ got_by number x v = ap (got_by number x) (some_same u v at) in
      omega (arith, same)
    where
      some_same : (a b : Known T) → some a ≡ some b → a ≡ b
      some_same a b e = cc
  all_set x (u ∷ us) (suc pass) v w at = let e = all_set x us pass v w at in omega (arith, e)

  pub all_snoc : (x : ℕ) (views : List (Known T)) (w : Known T) →
      got_by_all number x (views ++ w ∷ []) ≡ got_by_all number x views + got_by number x w
  all_snoc x [] w = omega arith
  all_snoc x (u ∷ us) w = let e = all_snoc x us w in omega (arith, e)

  one_of_all : (x : ℕ) (views : List (Known T)) (pass : ℕ) (v : Known T) → get_elem? views pass ≡ some v →
      got_by number x v ≤ got_by_all number x views
  one_of_all x views pass v at = let e = all_set x views pass v (sending []) at in omega (arith, e)

  -- one item more
  times_more : (y : ℕ) (xs : List T) (x : T) → times y (map number (xs ++ x ∷ [])) ≡ times y (map number xs) + times y (number x ∷ [])
  times_more y xs x = ap (times y) (map-append number xs (x ∷ [])) ∙ times_append y (map number xs) (number x ∷ [])

  pub begins : IsEachOnce number [] (sending [] ∷ [])
  begins = (0, [], (λ x. omega arith), (λ x. refl), only, none_among [])
    where
      only : (p : ℕ) (v : Known T) → get_elem? (sending [] ∷ []) p ≡ some v → IsEnd 0 [] p v
      only zero v at = subst (IsEnd 0 [] 0) (same (sending []) v at) ((λ is. (refl, refl)), none_among [])
        where
          same : (a b : Known T) → some a ≡ some b → a ≡ b
          same a b e = cc
      only (suc p) v at = absurd (some-ne-none v (sym at))

  pub sends : (n pass : ℕ) (v : Known T) (x : T) → v ≡ sending v.sent → times (number x) (map number v.sent) ≡ 0 →
      Pushes (IsEachOnce number) n pass v x (λ w. w ≡ sending (v.sent ++ x ∷ []))
  sends n pass v x may none items views room h at =
      (w, (h.0, sent, once, all, ends, queue), refl)
    where
      mine : (pass ≡ h.0) × (v.sent ≡ h.1)
      mine = (h.4 pass v at).0 (ap (λ (u : Known T). u.sends) may)

      w : Known T
      w = sending (v.sent ++ x ∷ [])

      sent : List T
      sent = h.1 ++ x ∷ []

      once : (y : ℕ) → times y (map number sent) ≤ 1
      once y =
          subst (λ ns. times y ns ≤ 1) (sym (map-append number h.1 (x ∷ [])))
          (one_more y (number x) (map number h.1) (subst (λ ns. times (number x) (map number ns) ≡ 0) mine.1 none) (h.2 y))

      all : (y : ℕ) → times y (map number sent) ≡ got_by_all number y (set views pass w) + times y (map number (items ++ x ∷ []))
      all y =
          let a = all_set y views pass v w at in
          let b : got_by number y v ≡ 0 = ap (got_by number y) may in
          let c = h.3 y in
          let d = times_more y h.1 x in
          let e = times_more y items x in
          omega (arith, a, b, c, d, e)

      ends : (p : ℕ) (u : Known T) → get_elem? (set views pass w) p ≡ some u → IsEnd h.0 sent p u
      ends =
          ends_set h.0 sent views pass w ((λ is. (mine.0, ap (λ ns. ns ++ x ∷ []) mine.1)), none_among sent)
          (λ p u other e. ((λ is. absurd (other (((h.4 p u e).0 is).0 ∙ sym mine.0))), still_among u.got h.1 x (h.4 p u e).1))

      queue : AreAmong (items ++ x ∷ []) sent
      queue = more_among items sent x (still_among items h.1 x h.5) (Contains-push h.1 x)

  pub receives : (pass : ℕ) (v : Known T) → v ≡ receiving v.got → Pops (IsEachOnce number) pass v (IsReceipt number v)
  receives pass v is x items views h at =
      (w, (h.0, h.1, h.2, all, ends, rest_among x items h.1 h.5), (refl, new))
    where
      w : Known T
      w = receiving (v.got ++ x ∷ [])

      all : (y : ℕ) → times y (map number h.1) ≡ got_by_all number y (set views pass w) + times y (map number items)
      all y =
          let a = all_set y views pass v w at in
          let c = h.3 y in
          let d = times_more y v.got x in
          omega (arith, a, c, d)

      new : times (number x) (map number v.got) ≡ 0
      new =
          let a = one_of_all (number x) views pass v at in
          let c = h.3 (number x) in
          let d = h.2 (number x) in
          let e : share (number x) (number x) ≡ 1 = ap part (same (number x)) in
          omega (arith, a, c, d, e)
        where
          same : (n : ℕ) → (n == n) ≡ true
          same n = grind (arith, nat_tests)

      ends : (p : ℕ) (u : Known T) → get_elem? (set views pass w) p ≡ some u → IsEnd h.0 h.1 p u
      ends =
          ends_set h.0 h.1 views pass w
          (no_sender h.0 h.1 pass w refl, more_among v.got h.1 x (h.4 pass v at).1 (first_among x items h.1 h.5))
          (λ p u other e. h.4 p u e)

  -- a new pass is made of one, and together they know to have received as much
  pub forks_as : (pass : ℕ) (v left right : Known T) →
      ((x : ℕ) → got_by number x left + got_by number x right ≡ got_by number x v) →
      ((seat : ℕ) (sent : List T) → IsEnd seat sent pass v → IsEnd seat sent pass left) →
      ((seat : ℕ) (sent : List T) (p : ℕ) → IsEnd seat sent pass v → IsEnd seat sent p right) →
      Forks (IsEachOnce number) pass v left right
  forks_as pass v left right sum here there items views h at = (h.0, h.1, h.2, all, ends, h.5)
    where
      all : (y : ℕ) → times y (map number h.1) ≡ got_by_all number y (set views pass left ++ right ∷ []) + times y (map number items)
      all y =
          let a = all_set y views pass v left at in
          let b = all_snoc y (set views pass left) right in
          let c = h.3 y in
          let d = sum y in
          omega (arith, a, b, c, d)

      ends : (p : ℕ) (u : Known T) → get_elem? (set views pass left ++ right ∷ []) p ≡ some u → IsEnd h.0 h.1 p u
      ends p u e =
          ⊎_elim (ends_set h.0 h.1 views pass left (here h.0 h.1 (h.4 pass v at)) (λ q t other f. h.4 q t f) p u)
          (λ (same : right ≡ u). subst (IsEnd h.0 h.1 p) same (there h.0 h.1 p (h.4 pass v at)))
          (at_snoc (set views pass left) right u p e)

  pub forks : (pass : ℕ) (v : Known T) → Forks (IsEachOnce number) pass v v (receiving [])
  forks pass v =
      forks_as pass v v (receiving []) (λ x. omega arith) (λ seat sent h. h)
      (λ seat sent p h. (no_sender seat sent p (receiving []) refl, none_among sent))
