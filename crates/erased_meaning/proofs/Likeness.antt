-- Two runs of the same statements, one from a later memory and one with what was stored before.
use Rattle.std.proofs.Common.{◌≡◌, ℕ, zero, suc, ◌+◌, ◌<◌, ◌≤◌, ◌&&◌, Bool, true, false, cond, eqb, List, [], ◌∷◌, ◌++◌, Option, Some, None, refl, sym, ap, subst, ◌∙◌, arith}
use Rattle.std.specs.Prelude.{option_and_then, option_map, unwrap_or}
use Rattle.std.proofs.lemmas.Bool.Decides.{nat_tests}
use Rattle.base.specs.declared.item.Cell.{Cell}
use Rattle.base.specs.declared.tree.ArrayId.{ArrayId}
use Rattle.base.specs.Memory.{Memory, Scalars, Stores, is_cell, same_cell, last_stored, with_stores, view_of}
use Rattle.base.specs.Meaning.{Run, seen, stored, turn, choose}
use Rattle.c_expressions.specs.Means.{Names}
use Rattle.erased_meaning.proofs.Entries.{Each}
use Rattle.erased_meaning.proofs.Boxes.{Layout, IsHeld, Agree, box_cell, agree_outside}

-- how the second run goes: with what was printed before the region; or in a target, of which its input, what it printed
-- and the scalars that are kept are as at its start
pub data Mode : Type 0 where
  OnHost : (before : List ℕ) → Mode
  InTarget : (kept : ℕ → Bool) (input printed : List ℕ) (scalars : Scalars) → Mode

abbrev pub IsPassed : Mode → Run → Run → Type 0
IsPassed (OnHost before) r q = (r.input ≡ q.input) × (q.printed ≡ before ++ r.printed)
IsPassed (InTarget kept input printed scalars) r q =
    (q.input ≡ input) × (q.printed ≡ printed) × ((n : ℕ) → kept n ≡ true → q.scalars n ≡ scalars n)

-- the boxed scalars of the second run are cells of the first
pub record Like (d : Layout) (m w : Memory) (mode : Mode) (names : Names) (r q : Run) : Type 0 where
  pub memory : (c : Cell) → c.array.0 < d.arrays → with_stores r.stores m c ≡ with_stores q.stores w c
  pub scalars : Agree (with_stores r.stores m) r.scalars q.scalars names
  pub passed : IsPassed mode r q

abbrev pub Both : Layout → Memory → Memory → Mode → Names → Option Run → Option Run → Type 0
Both d m w mode names None None = Unit {0}
Both d m w mode names (Some r) (Some q) = Like d m w mode names r q
Both d m w mode names _ _ = ⊥

-- ---- stores

last_more : (stores : Stores) (c d : Cell) (v : ℕ) →
    last_stored (stores ++ (c, v) ∷ []) d ≡ cond (same_cell c d) (Some v) (last_stored stores d)
last_more [] c d v = refl
last_more (s ∷ stores) c d v = step (same_cell c d) (last_more stores c d v)
  where
    step : (t : Bool) → last_stored (stores ++ (c, v) ∷ []) d ≡ cond t (Some v) (last_stored stores d) →
        elim (last_stored (stores ++ (c, v) ∷ []) d) [ Some v ↦ Some v | None ↦ cond (same_cell s.0 d) (Some s.1) None ]
        ≡ cond t (Some v) (elim (last_stored stores d) [
          | Some v ↦ Some v
          | None ↦ cond (same_cell s.0 d)
              (Some s.1) None
        ])
    step true e = ap (λ (o : Option ℕ). elim o [ Some v ↦ Some v | None ↦ cond (same_cell s.0 d) (Some s.1) None ]) e
    step false e = ap (λ (o : Option ℕ). elim o [ Some v ↦ Some v | None ↦ cond (same_cell s.0 d) (Some s.1) None ]) e

pub stores_more : (stores : Stores) (m : Memory) (c d : Cell) (v : ℕ) →
    with_stores (stores ++ (c, v) ∷ []) m d ≡ cond (same_cell c d) v (with_stores stores m d)
stores_more stores m c d v =
    ap (λ (o : Option ℕ). unwrap_or o (m d)) (last_more stores c d v) ∙ step (same_cell c d)
  where
    step : (t : Bool) → unwrap_or (cond t (Some v) (last_stored stores d)) (m d) ≡ cond t v (with_stores stores m d)
    step true = refl
    step false = refl

-- a cell of an array that is no box
other_cell : (d : Layout) (c : Cell) (a : ArrayId) → c.array.0 < d.arrays → d.arrays ≤ a.0 →
    same_cell c (box_cell a) ≡ false
other_cell d c a h k =
    let other : eqb c.array.0 a.0 ≡ false = grind (arith, nat_tests, h, k) in
    ap (λ (t : Bool). t && eqb c.index 0) other

module _ (d : Layout) (m w : Memory) where
  pub seen_same : (mode : Mode) (names : Names) (r q : Run) → Like d m w mode names r q → (c : Cell) →
      c.array.0 < d.arrays →
      seen (view_of d.first m) r.stores c ≡ seen (view_of d.second w) q.stores c
  seen_same mode names r q l c h =
      ap (λ (t : Bool). option_map (λ old. unwrap_or (last_stored r.stores c) old) (cond t (Some (m c)) None))
      (d.same c h)
      ∙ step (is_cell d.second c)
    where
      step : (t : Bool) → option_map (λ old. unwrap_or (last_stored r.stores c) old) (cond t (Some (m c)) None)
          ≡ option_map (λ old. unwrap_or (last_stored q.stores c) old) (cond t (Some (w c)) None)
      step true = ap (λ (v : ℕ). Some v) (l.memory c h)
      step false = refl

  -- the first run sees the cell of each box
  pub seen_box : (r : Run) (a : ArrayId) → is_cell d.first (box_cell a) ≡ true →
      seen (view_of d.first m) r.stores (box_cell a) ≡ Some (with_stores r.stores m (box_cell a))
  seen_box r a e =
      ap (λ (t : Bool). option_map (λ old. unwrap_or (last_stored r.stores (box_cell a)) old)
      (cond t (Some (m (box_cell a))) None)) e

  keep : (mode : Mode) (c : Cell) (v : ℕ) (r q : Run) → IsPassed mode r q →
      IsPassed mode (record r { stores = r.stores ++ (c, v) ∷ [] }) (record q { stores = q.stores ++ (c, v) ∷ [] })
  keep (OnHost before) c v r q p = p
  keep (InTarget kept input printed scalars) c v r q p = p

  -- both store in a cell of an array
  pub stored_same : (mode : Mode) (scalars : ℕ) (names : Names) (c : Cell) (v : ℕ) (r q : Run) → c.array.0 < d.arrays →
      Each (IsHeld d scalars) names → Like d m w mode names r q →
      Both d m w mode names (stored (view_of d.first m) c (Some (v, r))) (stored (view_of d.second w) c (Some (v, q)))
  stored_same mode scalars names c v r q h held l =
      subst (λ (t : Bool). Both d m w mode names
      (option_map (λ old. record r { stores = r.stores ++ (c, v) ∷ [] }) (cond t (Some (m c)) None))
      (stored (view_of d.second w) c (Some (v, q)))) (sym (d.same c h)) (step (is_cell d.second c))
    where
      more : Like d m w mode names (record r { stores = r.stores ++ (c, v) ∷ [] })
          (record q { stores = q.stores ++ (c, v) ∷ [] })
      more = record {
        memory = λ e i. stores_more r.stores m c e v ∙ ap (λ (x : ℕ). cond (same_cell c e) v x) (l.memory e i)
            ∙ sym (stores_more q.stores w c e v);
        scalars =
            agree_outside d (with_stores r.stores m) (with_stores
            (r.stores ++ (c, v) ∷ []) m) r.scalars q.scalars scalars names
            (λ a k. stores_more r.stores m c (box_cell a) v
            ∙ ap (λ (t : Bool). cond t v (with_stores r.stores m (box_cell a))) (other_cell d c a h k)) held l.scalars;
        passed = keep mode c v r q l.passed;
      }

      step : (t : Bool) → Both d m w mode names
          (option_map (λ old. record r { stores = r.stores ++ (c, v) ∷ [] }) (cond t (Some (m c)) None))
          (option_map (λ old. record q { stores = q.stores ++ (c, v) ∷ [] }) (cond t (Some (w c)) None))
      step true = more
      step false = tt

-- ---- going on

pub both_then : (d : Layout) (m w : Memory) (mode : Mode) (names other : Names) (f g : Run → Option Run)
    (o p : Option Run) →
    Both d m w mode names o p → ((r q : Run) → Like d m w mode names r q → Both d m w mode other (f r) (g q)) →
    Both d m w mode other (option_and_then f o) (option_and_then g p)
both_then d m w mode names other f g None None b h = tt
both_then d m w mode names other f g (Some r) (Some q) b h = h r q b
both_then d m w mode names other f g None (Some q) b h = absurd b
both_then d m w mode names other f g (Some r) None b h = absurd b

pub both_less : (d : Layout) (m w : Memory) (mode : Mode) (names other : Names) (o p : Option Run) →
    ((n : Memory) (f g : Scalars) → Agree n f g names → Agree n f g other) → Both d m w mode names o p →
    Both d m w mode other o p
both_less d m w mode names other None None h b = tt
both_less d m w mode names other (Some r) (Some q) h b =
    record { memory = b.memory; scalars = h (with_stores r.stores m) r.scalars q.scalars b.scalars; passed = b.passed }
both_less d m w mode names other None (Some q) h b = absurd b
both_less d m w mode names other (Some r) None h b = absurd b

pub both_turns : (d : Layout) (m w : Memory) (mode : Mode) (names : Names) (f g : ℕ → Run → Option Run) →
    ((v : ℕ) (r q : Run) → Like d m w mode names r q → Both d m w mode names (f v r) (g v q)) →
    (n v step : ℕ) (r q : Run) → Like d m w mode names r q →
    Both d m w mode names (turn n v step f r) (turn n v step g q)
both_turns d m w mode names f g h zero v step r q l = l
both_turns d m w mode names f g h (suc n) v step r q l =
    go (f v r) (g v q) (h v r q l) (λ r q l. both_turns d m w mode names f g h n (v + step) step r q l)
  where
    go : (o p : Option Run) → Both d m w mode names o p →
        ((r q : Run) → Like d m w mode names r q →
        Both d m w mode names (turn n (v + step) step f r) (turn n (v + step) step g q)) →
        Both d m w mode names (elim o [ None ↦ None | Some t ↦ turn n (v + step) step f t ])
        (elim p [ None ↦ None | Some t ↦ turn n (v + step) step g t ])
    go None None b ih = tt
    go (Some r) (Some q) b ih = ih r q b
    go None (Some q) b ih = absurd b
    go (Some r) None b ih = absurd b

pub both_choose : (d : Layout) (m w : Memory) (mode : Mode) (names : Names) (o : Option ℕ)
    (f g f' g' : Run → Option Run) (r q : Run) →
    Both d m w mode names (f r) (f' q) → Both d m w mode names (g r) (g' q) →
    Both d m w mode names (choose o f g r) (choose o f' g' q)
both_choose d m w mode names None f g f' g' r q h k = tt
both_choose d m w mode names (Some zero) f g f' g' r q h k = k
both_choose d m w mode names (Some (suc n)) f g f' g' r q h k = h
