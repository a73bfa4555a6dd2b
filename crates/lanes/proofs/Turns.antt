-- Turns that are apart.
use Rattle.std.proofs.Common.{◌≡◌, ℕ, zero, suc, ◌+◌, ◌≤◌, ◌==◌, Bool, true, false, List, [], ◌∷◌, ◌++◌, Option, Some, None, refl, sym, ap, ◌∙◌, arith, eqb-true}
use Rattle.std.specs.Prelude.{◌&&◌, option_map, unwrap_or}
use Rattle.base.specs.declared.item.Cell.{Cell}
use Rattle.base.specs.declared.tree.Expr.{Expr}
use Rattle.base.specs.declared.tree.Stmt.{Stmt}
use Rattle.base.specs.Memory.{View, Stores, last_stored}
use Rattle.base.specs.Meaning.{Run, seen, turn, run_list}
use Rattle.lanes.specs.Apart.{Set, Places, NamesPlaces, OwnPlaces, body_apart, Delta, apply, join_all, body_delta, all_deltas, TurnsApart}
use Rattle.lanes.proofs.Deltas.{apply_idle, apply_all, body_is, last_over, is_mine, Within, AllWithin, body_within}
use Rattle.lanes.proofs.Alike.{Alike, body_same}

module _ (taken own : Set) (view : View) (pl : Places) where
  -- the state at a turn, beside the one that the first turn begins with: the cells of the turns to come are alike
  abbrev pub Ahead : ℕ → Run → Run → Type 0
  Ahead w u s = Alike taken view own (λ i. w ≤ pl.turn_of i) u s

  seen_over : (xs ys : Stores) (c : Cell) → last_stored ys c ≡ None → seen view (xs ++ ys) c ≡ seen view xs c
  seen_over xs ys c h = ap (λ l. option_map (λ old. unwrap_or l old) (view c)) (last_over xs ys c h)

  not_taken : (w : ℕ) (c : Cell) → taken c.array.0 ≡ false → is_mine taken own view (pl.place w) c ≡ false
  not_taken w c h = ap (λ b. b && (c.index == pl.place w)) h

  not_now : (w : ℕ) (c : Cell) (b : Bool) → pl.turn_of (pl.place w) ≡ w → suc w ≤ pl.turn_of c.index →
      (b && (c.index == pl.place w)) ≡ false
  not_now w c false back h = refl
  not_now w c true back h = go (c.index == pl.place w) refl
    where
      go : (q : Bool) → (c.index == pl.place w) ≡ q → q ≡ false
      go false e = refl
      go true e =
          let at : pl.turn_of c.index ≡ w = ap pl.turn_of (eqb-true c.index (pl.place w) e) ∙ back in
          absurd (omega arith)

  pub goes_ahead : (w step : ℕ) (u s : Run) (d : Delta) → 1 ≤ step → pl.turn_of (pl.place w) ≡ w → Ahead w u s → Within taken own view (pl.place w) d →
      Ahead (w + step) (apply u d) s
  goes_ahead w step u s d one back h k =
      record {
        scalars = λ x o. k.sets u.scalars x o ∙ h.scalars x o;
        others = λ c o. seen_over u.stores d.stores c (k.clear c (not_taken w c o)) ∙ h.others c o;
        mine = λ c o. seen_over u.stores d.stores c (k.clear c (not_now w c (taken c.array.0) back (omega arith))) ∙ h.mine c (omega arith);
      }

  module _ (here : Expr → Bool) (loops : List ℕ) (body : List Stmt) (step : ℕ) (s : Run)
      (named : NamesPlaces here pl own s.scalars loops) (one : 1 ≤ step)
      (is : body_apart taken own own here body ≡ true) where
    abbrev does : ℕ → Run → Option Run
    does v = run_list body view (loops ++ v ∷ [])

    abbrev adds : ℕ → Option Delta
    adds v = body_delta body view (loops ++ v ∷ []) s

    pub at_turn : (w : ℕ) (u : Run) → pl.turn_of (pl.place w) ≡ w → Ahead w u s → does w u ≡ option_map (apply u) (adds w)
    at_turn w u back h =
        body_is taken own view own here (loops ++ w ∷ []) u body is
        ∙ ap (option_map (apply u))
        (body_same taken view here pl loops own s.scalars named w own u s
        (record { scalars = h.scalars; others = h.others; mine = λ c e. h.mine c (now c e) })
        (λ x o. h.scalars x o) (λ x o. refl) body is)
      where
        now : (c : Cell) → c.index ≡ pl.place w → w ≤ pl.turn_of c.index
        now c e = let at : pl.turn_of c.index ≡ w = ap pl.turn_of e ∙ back in omega arith

    turns_are : (n w : ℕ) (u : Run) → OwnPlaces pl n w step → Ahead w u s →
        turn n w step does u ≡ option_map (apply u) (all_deltas n w step adds)
    turns_are zero w u own_ones h = ap Some (sym (apply_idle u))
    turns_are (suc n) w u own_ones h =
        ap (λ o. elim o as (λ q. Option Run) [ None ↦ None | Some t ↦ turn n (w + step) step does t ]) (at_turn w u own_ones.0 h)
        ∙ go (adds w) (body_within taken own view here pl loops s.scalars named w own s body (λ x o. refl) is) (λ t a. turns_are n (w + step) t own_ones.1 a)
      where
        go : (o : Option Delta) → AllWithin taken own view (pl.place w) o →
            ((t : Run) → Ahead (w + step) t s → turn n (w + step) step does t ≡ option_map (apply t) (all_deltas n (w + step) step adds)) →
            elim (option_map (apply u) o) as (λ q. Option Run) [ None ↦ None | Some t ↦ turn n (w + step) step does t ]
            ≡ option_map (apply u) (join_all o (λ d. all_deltas n (w + step) step adds))
        go None k again = refl
        go (Some d) k again =
            again (apply u d) (goes_ahead w step u s d one own_ones.0 h k) ∙ apply_all u d (all_deltas n (w + step) step adds)

pub turns_apart : TurnsApart
turns_apart body view here at loops stored own n first step s one named places is =
    turns_are stored own view at here loops body step s named one is n first s places
    (record { scalars = λ x h. refl; others = λ c h. refl; mine = λ c h. refl })
