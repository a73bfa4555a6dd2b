-- A block of turns and the turns one after another.
use Rattle.std.proofs.Common.{◌≡◌, ℕ, zero, suc, ◌+◌, ◌==◌, Bool, true, false, List, [], ◌∷◌, ◌++◌, Option, Some, None, refl, sym, ap, ◌∙◌, arith, subst, if◌then◌else◌, eqb-true}
use Rattle.std.specs.Prelude.{◌&&◌, option_map, unwrap_or}
use Rattle.std.proofs.lemmas.Bool.{false≢true}
use Rattle.std.proofs.lemmas.Bool.Decides.{nat_tests}
use Rattle.std.proofs.lemmas.Option.{same_Some}
use Rattle.base.specs.declared.item.Cell.{Cell}
use Rattle.base.specs.declared.tree.Expr.{Expr}
use Rattle.base.specs.declared.tree.Stmt.{Stmt}
use Rattle.base.specs.Memory.{View, Scalars, Stores, same_cell, last_stored}
use Rattle.base.specs.Meaning.{Run, run_list}
use Rattle.lanes.specs.Apart.{Set, Places, NamesPlaces, OwnPlaces, HavePlaces, body_apart, loose_body, Delta, apply, idle, join, join_all, body_delta, all_deltas, in_block, block_body, block_start, RunAlone}
use Rattle.lanes.specs.There.{BodyThere}
use Rattle.lanes.specs.Turned.{IsRun, BlockIsTurns}
use Rattle.lanes.proofs.Deltas.{body_is, last_over, is_mine, Within, AllWithin, body_within}
use Rattle.lanes.proofs.Settled.{Settles, AllSettle, body_settles}
use Rattle.lanes.proofs.Turns.{turns_apart}
use Rattle.lanes.proofs.Assignments.{by_assignments}
use Rattle.lanes.proofs.There.{block_there}

-- stores in which a cell is not, before others
last_under : (xs ys : Stores) (c : Cell) → last_stored xs c ≡ None → last_stored (xs ++ ys) c ≡ last_stored ys c
last_under [] ys c h = refl
last_under (x ∷ xs) ys c h = go (last_stored xs c) (λ e. last_under xs ys c e) refl h
  where
    look : Option ℕ → Option ℕ
    look o = elim o as (λ q. Option ℕ) [ Some v ↦ Some v | None ↦ if same_cell x.0 c then Some x.1 else None ]

    ends : (o : Option ℕ) → (if same_cell x.0 c then Some x.1 else None) ≡ None → look o ≡ o
    ends (Some v) h = refl
    ends None h = h

    go : (o : Option ℕ) → (last_stored xs c ≡ None → last_stored (xs ++ ys) c ≡ last_stored ys c) →
        last_stored xs c ≡ o → look o ≡ None → look (last_stored (xs ++ ys) c) ≡ last_stored ys c
    go None again e h = ap look (again e) ∙ ends (last_stored ys c) h
    go (Some v) again e h = absurd cc

last_alike : (xs ys zs : Stores) (c : Cell) → last_stored ys c ≡ last_stored zs c →
    last_stored (xs ++ ys) c ≡ last_stored (xs ++ zs) c
last_alike [] ys zs c h = h
last_alike (x ∷ xs) ys zs c h =
    ap (λ o. elim o as (λ q. Option ℕ) [ Some v ↦ Some v | None ↦ if same_cell x.0 c then Some x.1 else None ])
    (last_alike xs ys zs c h)

same_is : (x : ℕ) → (x == x) ≡ true
same_is x = grind (arith, nat_tests)

none_in : (w i : ℕ) → in_block w 0 i ≡ false
none_in w i = grind (arith, nat_tests)

pub first_in : (w n i : ℕ) → i ≡ w → in_block w (suc n) i ≡ true
first_in w n i h = grind (arith, nat_tests)

first_out : (w n i : ℕ) → i ≡ w → in_block (w + 1) n i ≡ false
first_out w n i h = grind (arith, nat_tests)

rest_in : (w n i : ℕ) → (i == w) ≡ false → in_block w (suc n) i ≡ in_block (w + 1) n i
rest_in w n i h = grind (arith, nat_tests)

pub next_in : (w n v : ℕ) → in_block (w + 1) n v ≡ true → in_block w (suc n) v ≡ true
next_in w n v h = grind (arith, nat_tests)

last_in : (w n : ℕ) → in_block w (suc n) (w + n) ≡ true
last_in w n = grind (arith, nat_tests)

-- turns one after another that have places of their own
pub places_of : (pl : Places) (inside : ℕ → Bool) → HavePlaces inside pl → (n w : ℕ) →
    ((v : ℕ) → in_block w n v ≡ true → inside v ≡ true) → OwnPlaces pl n w 1
places_of pl inside places zero w h = tt
places_of pl inside places (suc n) w h = (
  places.back w (h w (first_in w n w refl)),
  places_of pl inside places n (w + 1) (λ v i. h v (next_in w n v i)),
)

module _ (taken own : Set) (view : View) (pl : Places) (adds : ℕ → Option Delta)
    (within : (v : ℕ) → AllWithin taken own view (pl.place v) (adds v)) where
  -- what a turn adds
  abbrev pub added : ℕ → Delta
  added v = unwrap_or (adds v) idle

  -- the deltas of turns, all of which there are
  record Joined (n w : ℕ) (d : Delta) : Type 0 where
    there : (v : ℕ) → in_block w n v ≡ true → adds v ≡ Some (added v)
    last : (c : Cell) → last_stored d.stores c ≡ (if in_block w n (pl.turn_of c.index) then last_stored (added (pl.turn_of c.index)).stores c else None)

  abbrev AllJoined : ℕ → ℕ → Option Delta → Type 0
  AllJoined n w None = Unit {0}
  AllJoined n w (Some d) = Joined n w d

  none_joined : (w : ℕ) → Joined 0 w idle
  none_joined w =
      record {
        there = λ v h. absurd (false≢true (sym (none_in w v) ∙ h));
        last = λ c. sym (ap (λ q. if q then last_stored (added (pl.turn_of c.index)).stores c else None) (none_in w (pl.turn_of c.index)));
      }

  one_joined : (n w : ℕ) (d e : Delta) → pl.turn_of (pl.place w) ≡ w → adds w ≡ Some d → Within taken own view (pl.place w) d → Joined n (w + 1) e → Joined (suc n) w (join d e)
  one_joined n w d e back is h k =
      record { there = λ v i. there v (v == w) refl i; last = λ c. last c (pl.turn_of c.index == w) refl }
    where
      known : (v : ℕ) → v ≡ w → adds v ≡ Some d
      known v j = ap adds j ∙ is

      there : (v : ℕ) (q : Bool) → (v == w) ≡ q → in_block w (suc n) v ≡ true → adds v ≡ Some (added v)
      there v true j i =
          let a = known v (eqb-true v w j) in
          a ∙ ap Some (sym (ap (λ o. unwrap_or o idle) a))
      there v false j i = k.there v (sym (rest_in w n v j) ∙ i)

      last : (c : Cell) (q : Bool) → (pl.turn_of c.index == w) ≡ q → last_stored (d.stores ++ e.stores) c
          ≡ (if in_block w (suc n) (pl.turn_of c.index) then last_stored (added (pl.turn_of c.index)).stores c else None)
      last c true j =
          let i = eqb-true (pl.turn_of c.index) w j in
          let none : last_stored e.stores c ≡ None =
          k.last c ∙ ap (λ q. if q then last_stored (added (pl.turn_of c.index)).stores c else None) (first_out w n (pl.turn_of c.index) i) in
          last_over d.stores e.stores c none
          ∙ sym (ap (λ q. if q then last_stored (added (pl.turn_of c.index)).stores c else None) (first_in w n (pl.turn_of c.index) i)
          ∙ ap (λ o. last_stored (unwrap_or o idle).stores c) (known (pl.turn_of c.index) i))
      last c false j =
          last_under d.stores e.stores c (h.clear c (away c j))
          ∙ k.last c
          ∙ ap (λ q. if q then last_stored (added (pl.turn_of c.index)).stores c else None) (sym (rest_in w n (pl.turn_of c.index) j))
        where
          both : (p q : Bool) → q ≡ false → (p && q) ≡ false
          both true q j = j
          both false q j = refl

          not_it : (c : Cell) → (pl.turn_of c.index == w) ≡ false → (q : Bool) → (c.index == pl.place w) ≡ q → q ≡ false
          not_it c j false e = refl
          not_it c j true e =
              let is : pl.turn_of c.index ≡ w = ap pl.turn_of (eqb-true c.index (pl.place w) e) ∙ back in
              absurd (false≢true (sym j ∙ ap (λ x. x == w) is ∙ same_is w))

          away : (c : Cell) → (pl.turn_of c.index == w) ≡ false → is_mine taken own view (pl.place w) c ≡ false
          away c j = both (taken c.array.0) (c.index == pl.place w) (not_it c j (c.index == pl.place w) refl)

  all_joined : (n w : ℕ) → OwnPlaces pl n w 1 → AllJoined n w (all_deltas n w 1 adds)
  all_joined zero w p = none_joined w
  all_joined (suc n) w p = go (adds w) (all_joined n (w + 1) p.1) refl (within w)
    where
      on : (d : Delta) → adds w ≡ Some d → Within taken own view (pl.place w) d → (o : Option Delta) → AllJoined n (w + 1) o →
          AllJoined (suc n) w (option_map (join d) o)
      on d is h None k = tt
      on d is h (Some e) k = one_joined n w d e p.0 is h k

      go : (o : Option Delta) → AllJoined n (w + 1) (all_deltas n (w + 1) 1 adds) → adds w ≡ o →
          AllWithin taken own view (pl.place w) o → AllJoined (suc n) w (join_all o (λ d. all_deltas n (w + 1) 1 adds))
      go None k is h = tt
      go (Some d) k is h = on d is h (all_deltas n (w + 1) 1 adds) k

  -- the scalars after turns each of which settles its own: those of the last one
  module _ (settles : (v : ℕ) → AllSettle own (λ x. false) (adds v)) where
    added_settles : (v : ℕ) → adds v ≡ Some (added v) → Settles own (λ x. false) (added v)
    added_settles v is = subst (λ o. AllSettle own (λ x. false) o) is (settles v)

    added_within : (v : ℕ) → adds v ≡ Some (added v) → Within taken own view (pl.place v) (added v)
    added_within v is = subst (λ o. AllWithin taken own view (pl.place v) o) is (within v)

    abbrev LastSets : ℕ → ℕ → Type 0
    LastSets n w = OwnPlaces pl (suc n) w 1 → (d : Delta) → all_deltas (suc n) w 1 adds ≡ Some d → (f : Scalars) (x : ℕ) →
        d.set f x ≡ (added (w + n)).set f x

    -- the first of some turns, and the rest
    record Parts (n w : ℕ) (d : Delta) : Type 0 where
      head : Delta
      tail : Delta
      head_is : adds w ≡ Some head
      tail_is : all_deltas n (w + 1) 1 adds ≡ Some tail
      whole : join head tail ≡ d

    parts_of : (n w : ℕ) (d : Delta) → all_deltas (suc n) w 1 adds ≡ Some d → Parts n w d
    parts_of n w d is = one (adds w) refl is
      where
        two : (e : Delta) → adds w ≡ Some e → (o : Option Delta) → all_deltas n (w + 1) 1 adds ≡ o →
            option_map (join e) o ≡ Some d → Parts n w d
        two e e_is None o_is h = absurd cc
        two e e_is (Some g) o_is h =
            record { head = e; tail = g; head_is = e_is; tail_is = o_is; whole = same_Some (join e g) d h }

        one : (o : Option Delta) → adds w ≡ o → join_all o (λ d. all_deltas n (w + 1) 1 adds) ≡ Some d → Parts n w d
        one None o_is h = absurd cc
        one (Some e) o_is h = two e o_is (all_deltas n (w + 1) 1 adds) refl h

    last_sets : (n w : ℕ) → LastSets n w
    last_sets zero w places d is f x =
        let p = parts_of 0 w d is in
        let none : idle ≡ p.tail = same_Some idle p.tail p.tail_is in
        let same : w ≡ w + 0 = omega arith in
        ap (λ (q : Delta). q.set f x) (sym p.whole)
        ∙ ap (λ (q : Delta). q.set (p.head.set f) x) (sym none)
        ∙ ap (λ o. (unwrap_or o idle).set f x) (sym p.head_is)
        ∙ ap (λ v. (added v).set f x) same
    last_sets (suc n) w places d is f x =
        let p = parts_of (suc n) w d is in
        let j : Joined (suc (suc n)) w d = subst (λ o. AllJoined (suc (suc n)) w o) is (all_joined (suc (suc n)) w places) in
        let at : adds (w + suc n) ≡ Some (added (w + suc n)) = j.there (w + suc n) (last_in w (suc n)) in
        let first_within : Within taken own view (pl.place w) p.head = subst (λ o. AllWithin taken own view (pl.place w) o) p.head_is (within w) in
        let same : w + 1 + n ≡ w + suc n = omega arith in
        ap (λ (q : Delta). q.set f x) (sym p.whole)
        ∙ last_sets n (w + 1) places.1 p.tail p.tail_is (p.head.set f) x
        ∙ ap (λ v. (added v).set (p.head.set f) x) same
        ∙ added_settles (w + suc n) at (p.head.set f) f (λ y o. first_within.sets f y o) x refl

module _ (body : List Stmt) (view : View) (here : Expr → Bool) (pl : Places) (loops : List ℕ) (taken own : Set) (s : Run)
    (named : NamesPlaces here pl own s.scalars loops) (ok : body_apart taken own own here body ≡ true) (all : (x : ℕ) → loose_body own body x ≡ false) where
  abbrev adds_at : ℕ → Option Delta
  adds_at v = body_delta body view (loops ++ v ∷ []) s

  pub in_turn : (v : ℕ) → AllWithin taken own view (pl.place v) (adds_at v)
  in_turn v = body_within taken own view here pl loops s.scalars named v own s body (λ x o. refl) ok

  pub settle : (v : ℕ) → AllSettle own (λ x. false) (adds_at v)
  settle v = go (adds_at v) (body_settles view (loops ++ v ∷ []) own s body)
    where
      go : (o : Option Delta) → AllSettle own (loose_body own body) o → AllSettle own (λ x. false) o
      go None h = tt
      go (Some d) h = λ f g k x e. h f g k x (all x)

  module _ (first more : ℕ) (places : HavePlaces (in_block first (suc more)) pl) (d : Delta)
      (is : all_deltas (suc more) first 1 adds_at ≡ Some d) where
    abbrev inside : ℕ → Bool
    inside v = in_block first (suc more) v

    own_places : OwnPlaces pl (suc more) first 1
    own_places = places_of pl (in_block first (suc more)) places (suc more) first (λ v h. h)

    joined : Joined taken own view pl adds_at in_turn (suc more) first d
    joined = subst (λ o. AllJoined taken own view pl adds_at in_turn (suc more) first o) is (all_joined taken own view pl adds_at in_turn (suc more) first own_places)

    abbrev pub end : ℕ → Run
    end v = if in_block first (suc more) v then apply s (added taken own view pl adds_at in_turn v) else s

    pub alone : RunAlone (in_block first (suc more)) (λ v. run_list body view (loops ++ v ∷ [])) (λ v. s) end
    alone =
        record {
          there =
              λ v h. body_is taken own view own here (loops ++ v ∷ []) s body ok
              ∙ ap (option_map (apply s)) (joined.there v h)
              ∙ ap Some (sym (ap (λ q. if q then apply s (added taken own view pl adds_at in_turn v) else s) h));
          elsewhere = λ v h. ap (λ q. if q then apply s (added taken own view pl adds_at in_turn v) else s) h;
        }

    same_last : (c : Cell) → last_stored (end (pl.turn_of c.index)).stores c ≡ last_stored (s.stores ++ d.stores) c
    same_last c = go (in_block first (suc more) (pl.turn_of c.index)) refl
      where
        go : (q : Bool) → in_block first (suc more) (pl.turn_of c.index) ≡ q →
            last_stored (if q then apply s (added taken own view pl adds_at in_turn (pl.turn_of c.index)) else s).stores c
            ≡ last_stored (s.stores ++ d.stores) c
        go true h =
            last_alike s.stores (added taken own view pl adds_at in_turn (pl.turn_of c.index)).stores d.stores c
            (sym (joined.last c ∙ ap (λ q. if q then last_stored (added taken own view pl adds_at in_turn (pl.turn_of c.index)).stores c else None) h))
        go false h =
            sym (last_over s.stores d.stores c
            (joined.last c ∙ ap (λ q. if q then last_stored (added taken own view pl adds_at in_turn (pl.turn_of c.index)).stores c else None) h))

    is_run : IsRun view (block_body pl (in_block first (suc more)) loops body (block_start view s)) (first + more) s (apply s d)
    is_run =
        let b = by_assignments body view here pl loops taken own (in_block first (suc more)) s end named places ok alone in
        record {
          scalars =
              λ x. b.scalars (first + more) x
              ∙ ap (λ q. (if q then apply s (added taken own view pl adds_at in_turn (first + more)) else s).scalars x) (last_in first more)
              ∙ sym (last_sets taken own view pl adds_at in_turn settle more first own_places d is s.scalars x);
          cells = λ c. b.cells c ∙ ap (λ l. option_map (λ old. unwrap_or l old) (view c)) (same_last c);
          stored = λ c. b.stored c ∙ same_last c;
          input = refl;
          printed = refl;
        }

    all_there : BodyThere pl (in_block first (suc more)) loops body (block_start view s)
    all_there = block_there body view here pl loops taken own (in_block first (suc more)) s end named places ok alone

pub block_is_turns : BlockIsTurns
block_is_turns body view here pl loops stored own first more s u named places ok all h =
    go (all_deltas (suc more) first 1 adds) refl
    (sym (turns_apart body view here pl loops stored own (suc more) first 1 s (omega arith) named
    (places_of pl (in_block first (suc more)) places (suc more) first (λ v i. i)) ok) ∙ h)
  where
    adds : ℕ → Option Delta
    adds v = body_delta body view (loops ++ v ∷ []) s

    go : (o : Option Delta) → all_deltas (suc more) first 1 adds ≡ o → option_map (apply s) o ≡ Some u →
        BodyThere pl (in_block first (suc more)) loops body (block_start view s)
        × IsRun view (block_body pl (in_block first (suc more)) loops body (block_start view s)) (first + more) s u
    go None is k = absurd cc
    go (Some d) is k = (
      all_there body view here pl loops stored own s named ok all first more places d is,
      subst (λ r. IsRun view (block_body pl (in_block first (suc more)) loops body (block_start view s)) (first + more) s r)
          (same_Some (apply s d) u k)
          (is_run body view here pl loops stored own s named ok all first more places d is),
    )
