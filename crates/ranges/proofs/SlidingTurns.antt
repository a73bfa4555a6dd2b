-- The turns of a loop all of whose cells move on by multiples of what its name does.
use Rattle.std.proofs.Common.{◌≡◌, ℕ, zero, suc, ◌+◌, ◌-◌, ◌*◌, ◌/◌, ◌%◌, ◌<◌, ◌≤◌, Bool, List, [], ◌∷◌, ◌++◌, map, refl, sym, ap, ap₂, ◌∙◌, subst, arith}
use Rattle.std.proofs.lemmas.Nat.{div-add-mod', div-mul-add, mod_below}
use Rattle.base.specs.declared.tree.Bounds.{Bounds}
use Rattle.base.specs.Footprint.{Touch, turns_touch}
use Rattle.base.specs.Meaning.{turns_left, turns_of}
use Rattle.ranges.specs.declared.access.Access.{Access}
use Rattle.ranges.specs.declared.slide.Slide.{Slide}
use Rattle.ranges.specs.Seen.{Seen, after}
use Rattle.ranges.specs.Slides.{AllFit, AreBelow, AreSlidesOf, Fits, IsSlideOf, slide_touch, slide_turns}
use Rattle.ranges.specs.Straight.{touches_at, turns_at}
use Rattle.ranges.proofs.SettledTouches.{next_turns, some_turn}

one_turn : (loops : List ℕ) (b : Bounds) (accesses : List Access) (slides : List Slide) (certain : Bool) (v : ℕ) →
    AreSlidesOf loops b certain accesses slides → b.first ≤ v → v < b.end →
    touches_at accesses (loops ++ v ∷ []) certain ≡ map (slide_touch (v - b.first)) slides
one_turn loops b [] [] certain v h le lt = refl
one_turn loops b [] (s ∷ slides) certain v h le lt = absurd h
one_turn loops b (a ∷ accesses) [] certain v h le lt = absurd h
one_turn loops b (a ∷ accesses) (s ∷ slides) certain v h le lt =
    ap₂ (λ (t : Touch) (ts : List Touch). t ∷ ts) (h.0 v le lt) (one_turn loops b accesses slides certain v h.1 le lt)

moved : (b : Bounds) (v : ℕ) → b.first ≤ v → (v + b.step) - b.first ≡ (v - b.first) + b.step
moved b v le = omega (arith, le)

-- the turns of a loop stay below its end
pub turns_below : (b : Bounds) (n v : ℕ) → n ≡ turns_left v b → b.first ≤ v → AreBelow b.step (b.end - b.first) n (v - b.first)
turns_below b zero v is le = tt
turns_below b (suc n) v is le =
    let lt = some_turn n v b is in (
      omega (arith, lt, le),
      subst (AreBelow b.step (b.end - b.first) n) (moved b v le) (turns_below b n (v + b.step) (next_turns n v b is) (omega (arith, le))),
    )

-- the turns from v on of a loop in each turn of which these slides move on
pub turns_slide : (b : Bounds) (f : ℕ → List Touch) (slides : List Slide) →
    ((u : ℕ) → b.first ≤ u → u < b.end → f u ≡ map (slide_touch (u - b.first)) slides) → (n v : ℕ) → n ≡ turns_left v b →
    b.first ≤ v → turns_touch n v b.step f ≡ slide_turns b.step n (v - b.first) slides
turns_slide b f slides each zero v is le = refl
turns_slide b f slides each (suc n) v is le =
    let lt = some_turn n v b is in
    ap₂ (λ (ts us : List Touch). ts ++ us) (each v le lt)
    (turns_slide b f slides each n (v + b.step) (next_turns n v b is) (omega (arith, le))
    ∙ ap (λ k. slide_turns b.step n k slides) (moved b v le))

-- all turns
pub all_turns : (loops : List ℕ) (b : Bounds) (accesses : List Access) (slides : List Slide) (certain : Bool) →
    AreSlidesOf loops b certain accesses slides →
    turns_at b.first b accesses loops certain ≡ slide_turns b.step (turns_left b.first b) 0 slides
all_turns loops b accesses slides certain h =
    turns_slide b (λ v. touches_at accesses (loops ++ v ∷ []) certain) slides
    (λ v le lt. one_turn loops b accesses slides certain v h le lt) (turns_left b.first b) b.first refl (omega arith)
    ∙ ap (λ k. slide_turns b.step (turns_left b.first b) k slides) (omega arith)

-- as many turns up to an end right behind the last one
pub tight_turns : (b : Bounds) → b.first < b.end →
    (b.first + (b.end - 1 - b.first) / b.step * b.step + 1 - b.first + (b.step - 1)) / b.step ≡ turns_of b
tight_turns b lt =
    ap (λ m. m / b.step) left
    ∙ div-mul-add (suc ((b.end - 1 - b.first) / b.step)) b.step 0 (omega (arith, some))
    ∙ sym (ap (λ m. m / b.step) all
    ∙ div-mul-add (suc ((b.end - 1 - b.first) / b.step)) b.step ((b.end - 1 - b.first) % b.step) (mod_below (b.end - 1 - b.first) b.step some))
  where
    some : 1 ≤ b.step
    some = b.step_not_zero

    left : b.first + (b.end - 1 - b.first) / b.step * b.step + 1 - b.first + (b.step - 1)
        ≡ suc ((b.end - 1 - b.first) / b.step) * b.step + 0
    left = omega (arith, some)

    all : b.end - b.first + (b.step - 1) ≡ suc ((b.end - 1 - b.first) / b.step) * b.step + (b.end - 1 - b.first) % b.step
    all = omega (arith, div-add-mod' (b.end - 1 - b.first) b.step, lt, some)

-- the turns of a loop, where its accesses are slides in the same turns
pub slides_noted : (lengths loops : List ℕ) (b c : Bounds) (accesses : List Access) (slides : List Slide) (certain : Bool) (x : Seen) →
    AreSlidesOf loops c certain accesses slides → c.first ≡ b.first → c.step ≡ b.step → turns_of c ≡ turns_of b →
    after lengths (slide_turns c.step (turns_of c) 0 slides) x ≡ after lengths (turns_at b.first b accesses loops certain) x
slides_noted lengths loops b c accesses slides certain x are first step turns =
    ap (λ ts. after lengths ts x)
    (sym (all_turns loops c accesses slides certain are)
    ∙ (λ i. turns_touch (turns i) (first i) (step i) (λ v. touches_at accesses (loops ++ v ∷ []) certain)))

-- one more of them
pub one_slide : (loops : List ℕ) (b : Bounds) (certain : Bool) (accesses : List Access) (slides : List Slide) (a : Access) (s : Slide) →
    AreSlidesOf loops b certain accesses slides → IsSlideOf loops b certain a s →
    AreSlidesOf loops b certain (accesses ++ a ∷ []) (slides ++ s ∷ [])
one_slide loops b certain [] [] a s h is = (is, tt)
one_slide loops b certain [] (t ∷ slides) a s h is = absurd h
one_slide loops b certain (c ∷ accesses) [] a s h is = absurd h
one_slide loops b certain (c ∷ accesses) (t ∷ slides) a s h is = (h.0, one_slide loops b certain accesses slides a s h.1 is)

pub one_fits : (lengths : List ℕ) (count : ℕ) (slides : List Slide) (s : Slide) → AllFit lengths count slides →
    Fits lengths count s → AllFit lengths count (slides ++ s ∷ [])
one_fits lengths count [] s h fits = (fits, tt)
one_fits lengths count (t ∷ slides) s h fits = (h.0, one_fits lengths count slides s h.1 fits)
