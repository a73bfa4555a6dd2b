-- What both runs assign: a scalar, or where it is boxed its cell in the first run and the scalar in the second.
use Rattle.std.proofs.Common.{◌≡◌, ℕ, ◌<◌, ◌≤◌, ◌&&◌, Bool, true, false, cond, eqb, List, [], ◌∷◌, ◌++◌, Some, None, refl, sym, ap, ◌∙◌, arith}
use Rattle.std.specs.Prelude.{option_map}
use Rattle.std.proofs.lemmas.Bool.Decides.{nat_tests}
use Rattle.base.specs.declared.item.Cell.{Cell}
use Rattle.base.specs.declared.tree.ArrayId.{ArrayId}
use Rattle.base.specs.declared.tree.ScalarId.{ScalarId}
use Rattle.base.specs.Memory.{Memory, Scalars, is_cell, same_cell, with_stores, view_of}
use Rattle.base.specs.Meaning.{Run, set_scalar, stored}
use Rattle.c_expressions.specs.declared.scope.Meaning.TheVariants as meaning
use Rattle.c_expressions.specs.Means.{Names}
use Rattle.erased_meaning.proofs.Entries.{Entry, Each, each_both}
use Rattle.erased_meaning.proofs.Boxes.{Layout, IsSame, Agree, box_cell}
use Rattle.erased_meaning.proofs.Apart.{Fits}
use Rattle.erased_meaning.proofs.Likeness.{Mode, OnHost, InTarget, IsPassed, Like, stores_more}

set_at : (n v : ℕ) (f : Scalars) → set_scalar n v f n ≡ v
set_at n v f = let same : eqb n n ≡ true = grind (arith, nat_tests) in ap (λ (t : Bool). cond t v (f n)) same

set_elsewhere : (n v : ℕ) (f : Scalars) (k : ℕ) → eqb n k ≡ false → set_scalar n v f k ≡ f k
set_elsewhere n v f k e = ap (λ (t : Bool). cond t v (f k)) e

set_both : (n v : ℕ) (f g : Scalars) (k : ℕ) → f k ≡ g k → set_scalar n v f k ≡ set_scalar n v g k
set_both n v f g k e = ap (λ (x : ℕ). cond (eqb n k) v x) e

-- ---- what can be named

-- a scalar is set in both runs
agree_set : (m : Memory) (f g : Scalars) (n : ScalarId) (i : Bool) (v : ℕ) (ns : Names) →
    Each (Fits (meaning.Scalar n i)) ns →
    Agree m f g ns → Agree m (set_scalar n.0 v f) (set_scalar n.0 v g) ns
agree_set m f g n i v ns fit a =
    each_both (Fits (meaning.Scalar n i)) (IsSame m f g) (IsSame m (set_scalar n.0 v f)
    (set_scalar n.0 v g)) ns one fit a
  where
    one : (e : Entry) → Fits (meaning.Scalar n i) e → IsSame m f g e →
        IsSame m (set_scalar n.0 v f) (set_scalar n.0 v g) e
    one (x, meaning.Array b) h s = tt
    one (x, meaning.Scalar k j) h s = set_both n.0 v f g k.0 s
    one (x, meaning.Boxed b k) h s = s ∙ sym (set_elsewhere n.0 v g k.0 h)
    one (x, meaning.Loop k) h s = tt

-- the cell of a boxed scalar, and the scalar in the second run
agree_box : (m l : Memory) (f g : Scalars) (a : ArrayId) (n : ScalarId) (v : ℕ) (ns : Names) →
    Each (Fits (meaning.Boxed a n)) ns →
    ((b : ArrayId) → l (box_cell b) ≡ cond (eqb a.0 b.0) v (m (box_cell b))) → Agree m f g ns →
    Agree l f (set_scalar n.0 v g) ns
agree_box m l f g a n v ns fit more s =
    each_both (Fits (meaning.Boxed a n)) (IsSame m f g) (IsSame l f (set_scalar n.0 v g)) ns one fit s
  where
    one : (e : Entry) → Fits (meaning.Boxed a n) e → IsSame m f g e → IsSame l f (set_scalar n.0 v g) e
    one (x, meaning.Array b) h s = tt
    one (x, meaning.Scalar k j) h s = s ∙ sym (set_elsewhere n.0 v g k.0 h)
    one (x, meaning.Boxed b k) h s =
        more b ∙ ap (λ (t : Bool). cond t v (m (box_cell b))) h ∙ ap (λ (u : ℕ). cond (eqb n.0 k.0) v u) s
    one (x, meaning.Loop k) h s = tt

-- ---- what a target may assign

abbrev pub IsOwn : Mode → ℕ → Type 0
IsOwn (OnHost before) n = Unit {0}
IsOwn (InTarget kept input printed scalars) n = kept n ≡ false

other_number : (kept : ℕ → Bool) (n k : ℕ) → kept n ≡ false → kept k ≡ true → eqb n k ≡ false
other_number kept n k e h = step (eqb n k) refl
  where
    apart : n ≡ k → false ≡ true
    apart s = sym e ∙ ap kept s ∙ h

    step : (t : Bool) → eqb n k ≡ t → t ≡ false
    step true f = let same : n ≡ k = grind (arith, nat_tests, f) in absurd (let bad = apart same in cc)
    step false f = refl

-- ---- both runs

module _ (d : Layout) (m w : Memory) (mode : Mode) (names : Names) (v : ℕ) (r q : Run)
    (l : Like d m w mode names r q) where
  passed_set : (n : ℕ) → IsOwn mode n → IsPassed mode (record r { scalars = set_scalar n v r.scalars })
      (record q { scalars = set_scalar n v q.scalars })
  passed_set n own = keep mode own l.passed
    where
      keep : (mode : Mode) → IsOwn mode n → IsPassed mode r q →
          IsPassed mode (record r { scalars = set_scalar n v r.scalars })
          (record q { scalars = set_scalar n v q.scalars })
      keep (OnHost before) o p = p
      keep (InTarget kept input printed scalars) o p =
          (p.0, p.1, λ k h. set_elsewhere n v q.scalars k (other_number kept n k o h) ∙ p.2 k h)

  pub set_like : (n : ScalarId) (i : Bool) → IsOwn mode n.0 → Each (Fits (meaning.Scalar n i)) names →
      Like d m w mode names (record r { scalars = set_scalar n.0 v r.scalars })
      (record q { scalars = set_scalar n.0 v q.scalars })
  set_like n i own fit =
      record {
        memory = l.memory;
        scalars = agree_set (with_stores r.stores m) r.scalars q.scalars n i v names fit l.scalars;
        passed = passed_set n.0 own;
      }

  -- one that is declared can be named from there on
  pub declare_like : (x : List ℕ) (n : ScalarId) (i : Bool) → IsOwn mode n.0 → Each (Fits (meaning.Scalar n i)) names →
      Like d m w mode ((x, meaning.Scalar n i) ∷ names) (record r { scalars = set_scalar n.0 v r.scalars })
      (record q { scalars = set_scalar n.0 v q.scalars })
  declare_like x n i own fit =
      let set = set_like n i own fit in
      record {
        memory = set.memory;
        scalars = (set_at n.0 v r.scalars ∙ sym (set_at n.0 v q.scalars), set.scalars);
        passed = set.passed;
      }

  module _ (a : ArrayId) (n : ScalarId) (own : IsOwn mode n.0) (fit : Each (Fits (meaning.Boxed a n)) names)
      (far : d.arrays ≤ a.0) where
    abbrev held : Run
    held = record r { stores = r.stores ++ (box_cell a, v) ∷ [] }

    abbrev set : Run
    set = record q { scalars = set_scalar n.0 v q.scalars }

    other_cell : (c : Cell) → c.array.0 < d.arrays → same_cell (box_cell a) c ≡ false
    other_cell c h =
        let other : eqb a.0 c.array.0 ≡ false = grind (arith, nat_tests, far, h) in
        ap (λ (t : Bool). t && eqb 0 c.index) other

    in_box : (b : ArrayId) → with_stores held.stores m (box_cell b)
        ≡ cond (eqb a.0 b.0) v (with_stores r.stores m (box_cell b))
    in_box b =
        stores_more r.stores m (box_cell a) (box_cell b) v
        ∙ ap (λ (t : Bool). cond t v (with_stores r.stores m (box_cell b))) (whole (eqb a.0 b.0))
      where
        whole : (t : Bool) → (t && eqb 0 0) ≡ t
        whole true = refl
        whole false = refl

    passed_box : (mode : Mode) → IsOwn mode n.0 → IsPassed mode r q → IsPassed mode held set
    passed_box (OnHost before) o p = p
    passed_box (InTarget kept input printed scalars) o p =
        (p.0, p.1, λ k h. set_elsewhere n.0 v q.scalars k (other_number kept n.0 k o h) ∙ p.2 k h)

    pub box_like : Like d m w mode names held set
    box_like = record {
      memory = λ c h. stores_more r.stores m (box_cell a) c v
          ∙ ap (λ (t : Bool). cond t v (with_stores r.stores m c)) (other_cell c h) ∙ l.memory c h;
      scalars = agree_box (with_stores r.stores m)
          (with_stores held.stores m) r.scalars q.scalars a n v names fit in_box l.scalars;
      passed = passed_box mode own l.passed;
    }

    pub declare_box : (x : List ℕ) → Like d m w mode ((x, meaning.Boxed a n) ∷ names) held set
    declare_box x =
        let itself : eqb a.0 a.0 ≡ true = grind (arith, nat_tests) in
        record {
          memory = box_like.memory;
          scalars = (
            in_box a ∙ ap (λ (t : Bool). cond t v (with_stores r.stores m (box_cell a))) itself
                ∙ sym (set_at n.0 v q.scalars),
            box_like.scalars,
          );
          passed = box_like.passed;
        }

-- the cell of a box is there
pub box_stored : (d : Layout) (m : Memory) (a : ArrayId) (v : ℕ) (r : Run) → is_cell d.first (box_cell a) ≡ true →
    stored (view_of d.first m) (box_cell a) (Some (v, r))
    ≡ Some (record r { stores = r.stores ++ (box_cell a, v) ∷ [] })
box_stored d m a v r e =
    ap (λ (t : Bool). option_map (λ old. record r { stores = r.stores ++ (box_cell a, v) ∷ [] })
    (cond t (Some (m (box_cell a))) None)) e
