-- What is known of where touches of an array lie.
use Rattle.std.proofs.Common.{◌≡◌, ℕ, ◌+◌, ◌*◌, ◌<◌, ◌≤◌, Bool, true, List, None, [], ◌∷◌, ◌++◌, refl, sym, ap, ◌∙◌, subst, arith}
use Rattle.base.specs.declared.tree.ArrayId.{ArrayId}
use Rattle.base.specs.declared.tree.Place.{Place}
use Rattle.base.specs.Footprint.{Touch}
use Rattle.base.specs.declared.fault.Interval.{Interval}
use Rattle.ranges.specs.declared.stride.Stride.{Stride}
use Rattle.ranges.specs.declared.touched.Asked.{Asked}
use Rattle.ranges.specs.declared.touched.Touched.{Touched}
use Rattle.ranges.specs.declared.touched.Touched.TheVariants.{Nothing, Within, Anywhere}
use Rattle.ranges.specs.Spans.{AreBetween}
use Rattle.ranges.specs.Strides.{AllHeld, Holds, HoldsAsMuch, IsHeld, IsWithin, ahead}

-- the store of a value
abbrev pub store_touch : ArrayId → Interval → Bool → Place → Touch
store_touch a cells certain place = record {
  array = a;
  cells = cells;
  is_write = true;
  certain = certain;
  combines = None;
  place = place;
}

pub both_held : (q : Asked) (h : Touched) (s : ℕ) (ts us : List Touch) → AllHeld q h s ts → AllHeld q h s us → AllHeld q h s (ts ++ us)
both_held q h s [] us a b = b
both_held q h s (t ∷ ts) us a b = (a.0, both_held q h s ts us a.1 b)

pub all_as_much : (q : Asked) (h k : Touched) (s : ℕ) (ts : List Touch) → HoldsAsMuch h k → AllHeld q h s ts → AllHeld q k s ts
all_as_much q h k s [] more a = tt
all_as_much q h k s (t ∷ ts) more a = (more q s t a.0, all_as_much q h k s ts more a.1)

-- the one and then the other
pub joined_held : (q : Asked) (lows highs : List ℕ) (h k r : Touched) (f g : List ℕ → Bool → List Touch) → HoldsAsMuch h r → HoldsAsMuch k r →
    Holds q lows highs h f → Holds q lows highs k g → Holds q lows highs r (λ loops certain. f loops certain ++ g loops certain)
joined_held q lows highs h k r f g left right a b loops certain between =
    let s = ahead lows q.level loops in
    both_held q r s (f loops certain) (g loops certain) (all_as_much q h r s (f loops certain) left (a loops certain between))
    (all_as_much q k r s (g loops certain) right (b loops certain between))

-- ---- wider strides

pub wider : (m s : ℕ) (u w : Stride) (x : Interval) → w.by ≡ u.by → w.lo ≤ u.lo → u.hi ≤ w.hi → IsWithin m u s x → IsWithin m w s x
wider m s u w x by lo hi h =
    let e : w.by * s ≡ u.by * s = ap (λ n. n * s) by in
    record { times = h.times; low = omega (arith, h.low, lo, e); high = omega (arith, h.high, hi, e) }

pub as_wide : (u w : Stride) → w.by ≡ u.by → w.lo ≤ u.lo → u.hi ≤ w.hi → HoldsAsMuch (Within u) (Within w)
as_wide u w by lo hi q s t h same = wider q.modulus s u w t.cells by lo hi (h same)

pub nothing_less : (k : Touched) → HoldsAsMuch Nothing k
nothing_less Nothing q s t h = h
nothing_less (Within w) q s t h = λ same. absurd (h same)
nothing_less Anywhere q s t h = tt

pub anywhere_less : (h : Touched) → HoldsAsMuch h Anywhere
anywhere_less h q s t k = tt

pub same_held : (h k : Touched) → k ≡ h → HoldsAsMuch h k
same_held h k e q s t a = subst (λ (x : Touched). IsHeld q x s t) (sym e) a

module _ (q : Asked) (lows highs : List ℕ) (r : Touched) where
  pub appended : (f g : List ℕ → Bool → List Touch) → Holds q lows highs r f → Holds q lows highs r g →
      Holds q lows highs r (λ loops certain. f loops certain ++ g loops certain)
  appended f g = joined_held q lows highs r r r f g (λ q s t a. a) (λ q s t a. a)

  pub less : (h : Touched) (f : List ℕ → Bool → List Touch) → HoldsAsMuch h r → Holds q lows highs h f → Holds q lows highs r f
  less h f more k loops certain between = all_as_much q h r (ahead lows q.level loops) (f loops certain) more (k loops certain between)

  pub one_held : (touch : List ℕ → Bool → Touch) →
      ((loops : List ℕ) (certain : Bool) → AreBetween lows highs loops → IsHeld q r (ahead lows q.level loops) (touch loops certain)) →
      Holds q lows highs r (λ loops certain. touch loops certain ∷ [])
  one_held touch k loops certain between = (k loops certain between, tt)
