-- Some turns of a loop, and then the others.
use Rattle.std.proofs.Common.{◌≡◌, ℕ, zero, suc, ◌+◌, ◌-◌, ◌*◌, ◌<◌, ◌≤◌, ◌/◌, min, Bool, List, [], ◌∷◌, ◌++◌, sym, ap, ap₂, ◌∙◌, ⊎_elim, arith}
use Rattle.std.proofs.lemmas.Bool.{cases_lt}
use Rattle.std.proofs.lemmas.List.{append_assoc}
use Rattle.base.specs.declared.tree.Bounds.{Bounds}
use Rattle.base.specs.Footprint.{Touch, turns_touch}
use Rattle.base.specs.Meaning.{turns_left}
use Rattle.base.proofs.LoopTurns.{one_turn_less, no_turn_left}
use Rattle.ranges.specs.declared.access.Access.{Access}
use Rattle.ranges.specs.Seen.{Seen, after}
use Rattle.ranges.specs.Slides.{AreSplit}
use Rattle.ranges.specs.Straight.{touches_at, turns_at}
use Rattle.ranges.proofs.Walked.{after_append}

same_left : (v : ℕ) (b c : Bounds) → b.end ≡ c.end → b.step ≡ c.step → turns_left v b ≡ turns_left v c
same_left v b c e s = ap₂ (λ x y. (x - v + (y - 1)) / y) e s

-- the turns from v on
abbrev pub turns : (ℕ → List Touch) → ℕ → Bounds → List Touch
turns f v b = turns_touch (turns_left v b) v b.step f

next : (f : ℕ → List Touch) (v : ℕ) (b : Bounds) → v < b.end → turns f v b ≡ f v ++ turns f (v + b.step) b
next f v b h = ap (λ n. turns_touch n v b.step f) (one_turn_less v b h)

none : (f : ℕ → List Touch) (v : ℕ) (b : Bounds) → b.end ≤ v → turns f v b ≡ []
none f v b h = ap (λ n. turns_touch n v b.step f) (no_turn_left v b h)

same : (f : ℕ → List Touch) (v : ℕ) (b c : Bounds) → b.end ≡ c.end → b.step ≡ c.step → turns f v b ≡ turns f v c
same f v b c e s = ap₂ (λ n m. turns_touch n v m f) (same_left v b c e s) s

module _ (f : ℕ → List Touch) (b now later : Bounds) (now_step : now.step ≡ b.step) (later_step : later.step ≡ b.step)
    (end : later.end ≡ b.end) where
  over : (v : ℕ) → b.end ≤ v → now.end ≤ b.end → b.end ≤ now.end → turns f v b ≡ turns f v now ++ turns f now.end later
  over v past le ge =
      none f v b past
      ∙ sym (ap₂ (λ xs ys. xs ++ ys) (none f v now (omega (arith, past, le))) (none f now.end later (omega (arith, end, ge))))

  pub split_from : (k v : ℕ) → now.end ≡ min (v + b.step * k) b.end → turns f v b ≡ turns f v now ++ turns f now.end later
  split_from zero v e = ⊎_elim inside (λ (past : b.end ≤ v). over v past (omega (arith, e)) (omega (arith, e, past))) (cases_lt v b.end)
    where
      inside : v < b.end → turns f v b ≡ turns f v now ++ turns f now.end later
      inside lt =
          let is : now.end ≡ v = omega (arith, e, lt) in
          same f v b later (sym end) (sym later_step)
          ∙ ap (λ n. turns f n later) (sym is)
          ∙ ap (λ xs. xs ++ turns f now.end later) (sym (none f v now (omega (arith, is))))
  split_from (suc k) v e = ⊎_elim (λ (lt : v < b.end). inside lt (split_from k (v + b.step) further))
      (λ (past : b.end ≤ v). over v past (omega (arith, e)) (omega (arith, e, past))) (cases_lt v b.end)
    where
      some : 1 ≤ b.step
      some = b.step_not_zero

      unfolded : b.step * suc k ≡ b.step + b.step * k
      unfolded = grind arith

      further : now.end ≡ min ((v + b.step) + b.step * k) b.end
      further = omega (arith, e, unfolded)

      inside : v < b.end → turns f (v + b.step) b ≡ turns f (v + b.step) now ++ turns f now.end later →
          turns f v b ≡ turns f v now ++ turns f now.end later
      inside lt rest =
          next f v b lt
          ∙ ap (λ xs. f v ++ xs) rest
          ∙ sym (append_assoc (f v) (turns f (v + b.step) now) (turns f now.end later))
          ∙ ap (λ xs. xs ++ turns f now.end later)
          (ap (λ n. f v ++ turns f (v + n) now) (sym now_step)
          ∙ sym (next f v now (omega (arith, e, unfolded, some, lt))))

-- the turns of a loop are those that come first, and then the others
pub split_turns : (f : ℕ → List Touch) (b now later : Bounds) (k : ℕ) → AreSplit b now later k →
    turns f b.first b ≡ turns f now.first now ++ turns f later.first later
split_turns f b now later k s =
    split_from f b now later s.now_step s.later_step s.end k b.first s.middle
    ∙ ap₂ (λ m n. turns f m now ++ turns f n later) (sym s.first) (sym s.meet)

-- some turns were noted, and the others are left
pub split_noted : (lengths : List ℕ) (b now later : Bounds) (k : ℕ) (accesses : List Access) (loops held : List ℕ) (certain : Bool) (s new : Seen) →
    AreSplit b now later k → held ≡ loops → new ≡ after lengths (turns_at now.first now accesses held certain) s →
    after lengths (turns_at later.first later accesses loops certain) new
    ≡ after lengths (turns_at b.first b accesses loops certain) s
split_noted lengths b now later k accesses loops held certain s new split held_is new_is =
    ap (after lengths (turns_at later.first later accesses loops certain))
    (new_is ∙ ap (λ ls. after lengths (turns_at now.first now accesses ls certain) s) held_is)
    ∙ sym (after_append lengths (turns_at now.first now accesses loops certain) (turns_at later.first later accesses loops certain) s)
    ∙ ap (λ ts. after lengths ts s)
    (sym (split_turns (λ v. touches_at accesses (loops ++ v ∷ []) certain) b now later k split))
