-- All cells of an access that moves on by as much in each turn are added at once.
use Rattle.std.proofs.Common.{◌≡◌, ℕ, zero, suc, ◌+◌, ◌*◌, ◌<◌, Bool, true, false, List, refl, sym, ap, ap₂, ◌∙◌, arith}
use Rattle.std.specs.Prelude.{◌&&◌, ◌||◌, ◌==◌, not, cond}
use Rattle.std.proofs.lemmas.Bool.Decides.{nat_tests}
use Rattle.base.specs.declared.item.Cell.{Cell}
use Rattle.base.specs.Interval.{exactly}
use Rattle.ranges.specs.declared.slide.Slide.{Slide}
use Rattle.ranges.specs.Cells.{is_among}
use Rattle.ranges.specs.Rows.{is_within}
use Rattle.ranges.specs.Seen.{Seen, after, after_touch}
use Rattle.ranges.specs.Slides.{AreBelow, Fits, is_every, slide_touch, with_read_of, with_run, with_written}
use Rattle.ranges.proofs.AllSeen.{with_read, with_write}
use Rattle.ranges.proofs.Pulls.{run, stays}
use Rattle.ranges.proofs.Swaps.{staying}

or_more : (e p q r : Bool) → (p || q) ≡ r → ((e || p) || q) ≡ (e || r)
or_more true p q r h = refl
or_more false p q r h = h

-- a part that holds where it is not hidden
unhidden : (s p q : Bool) → ((p && not s) || (q && not s)) ≡ ((p || q) && not s)
unhidden true true true = refl
unhidden true true false = refl
unhidden true false true = refl
unhidden true false false = refl
unhidden false true q = refl
unhidden false false true = refl
unhidden false false false = refl

less_more : (s p q r : Bool) → (p || q) ≡ r → ((p && not s) || (q && not s)) ≡ (r && not s)
less_more s p q r h = unhidden s p q ∙ ap (λ b. b && not s) h

single : (n : ℕ) → (n == n) ≡ true
single n = grind (arith, nat_tests)

and_true : (b c : Bool) → c ≡ true → (b && c) ≡ b
and_true true c h = h
and_true false c h = refl

same_cell : (y i : ℕ) → is_within (exactly y) i ≡ (y == i)
same_cell y i = grind (arith, nat_tests)

and_either : (b p q r : Bool) → (p || q) ≡ r → ((b && p) || (b && q)) ≡ (b && r)
and_either true p q r h = h
and_either false p q r h = refl

-- the cells that it has in n turns
abbrev pub cells_in : Slide → ℕ → ℕ → ℕ → Cell → Bool
cells_in s step n k c = (s.array.0 == c.array.0) && is_every (s.slope * step) n (s.start + s.slope * k) c.index

-- cells that are added after others
both_runs : (s : Slide) (p q r : Cell → Bool) (x : Seen) → ((c : Cell) → (p c || q c) ≡ r c) →
    with_run s q (with_run s p x) ≡ with_run s r x
both_runs s p q r x both = go s.writes
  where
    go : (w : Bool) → cond w (with_written s.certain q (cond w (with_written s.certain p x) (with_read_of p x)))
        (with_read_of q (cond w (with_written s.certain p x) (with_read_of p x)))
        ≡ cond w (with_written s.certain r x) (with_read_of r x)
    go true = λ i. record x {
      write = λ c. or_more (x.write c) (p c) (q c) (r c) (both c) i;
      sure = λ c. or_more (x.sure c) (s.certain && p c) (s.certain && q c) (s.certain && r c)
          (and_either s.certain (p c) (q c) (r c) (both c)) i;
    }
    go false = λ i. record x {
      exposed = λ c. or_more (x.exposed c) (p c && not (x.sure c)) (q c && not (x.sure c)) (r c && not (x.sure c))
          (less_more (x.sure c) (p c) (q c) (r c) (both c)) i;
      read = λ c. or_more (x.read c) (p c) (q c) (r c) (both c) i;
    }

-- no cell is added
no_run : (s : Slide) (p : Cell → Bool) (x : Seen) → ((c : Cell) → p c ≡ false) → x ≡ with_run s p x
no_run s p x none = go s.writes
  where
    or_none : (e b : Bool) → b ≡ false → e ≡ (e || b)
    or_none true b h = refl
    or_none false b h = sym h

    and_none : (a b : Bool) → b ≡ false → (a && b) ≡ false
    and_none true b h = h
    and_none false b h = refl

    none_and : (a b : Bool) → a ≡ false → (a && b) ≡ false
    none_and true b h = absurd cc
    none_and false b h = refl

    go : (w : Bool) → x ≡ cond w (with_written s.certain p x) (with_read_of p x)
    go true = λ i. record x {
      write = λ c. or_none (x.write c) (p c) (none c) i;
      sure = λ c. or_none (x.sure c) (s.certain && p c) (and_none s.certain (p c) (none c)) i;
    }
    go false = λ i. record x {
      exposed = λ c. or_none (x.exposed c) (p c && not (x.sure c)) (none_and (p c) (not (x.sure c)) (none c)) i;
      read = λ c. or_none (x.read c) (p c) (none c) i;
    }

module _ (lengths : List ℕ) (step count : ℕ) where
  one_is : (s : Slide) (k : ℕ) (x : Seen) → k < count → Fits lengths count s →
      after_touch lengths (slide_touch k s) x ≡ with_run s (is_among s.array (exactly (s.start + s.slope * k))) x
  one_is s k x lt fits =
      staying lengths (slide_touch k s) x (stays lengths step count s k lt fits) ∙ go s.writes
    where
      y : ℕ
      y = s.start + s.slope * k

      among : Cell → Bool
      among = is_among s.array (exactly y)

      go : (w : Bool) → cond w (with_write (slide_touch k s) x) (with_read (slide_touch k s) x)
          ≡ cond w (with_written s.certain among x) (with_read_of among x)
      go true = λ i. record x {
        write = λ c. x.write c || among c;
        sure = λ c. x.sure c || (and_true s.certain (y == y) (single y) i && among c);
      }
      go false = refl

  -- all turns of one of them
  pub run_is : (n k : ℕ) (s : Slide) (x : Seen) → AreBelow step count n k → Fits lengths count s →
      after lengths (run lengths step count n k s) x ≡ with_run s (cells_in s step n k) x
  run_is zero k s x below fits = no_run s (cells_in s step 0 k) x (λ c. nowhere (s.array.0 == c.array.0))
    where
      nowhere : (b : Bool) → (b && false) ≡ false
      nowhere true = refl
      nowhere false = refl
  run_is (suc n) k s x below fits =
      run_is n (k + step) s (after_touch lengths (slide_touch k s) x) below.1 fits
      ∙ ap (with_run s (cells_in s step n (k + step))) (one_is s k x below.0 fits)
      ∙ both_runs s (is_among s.array (exactly (s.start + s.slope * k))) (cells_in s step n (k + step)) (cells_in s step (suc n) k) x
      (λ c. and_either (s.array.0 == c.array.0) (is_within (exactly (s.start + s.slope * k)) c.index)
      (is_every (s.slope * step) n (s.start + s.slope * (k + step)) c.index)
      (is_every (s.slope * step) (suc n) (s.start + s.slope * k) c.index)
      (ap₂ (λ p m. p || is_every (s.slope * step) n m c.index) (same_cell (s.start + s.slope * k) c.index) next))
    where
      next : s.start + s.slope * (k + step) ≡ s.start + s.slope * k + s.slope * step
      next = grind arith
