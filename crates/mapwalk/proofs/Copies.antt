-- The footprint of an item that repeats an earlier one.
use Rattle.std.proofs.Common.{◌≡◌, ℕ, zero, suc, ◌<◌, ◌≤◌, List, [], ◌∷◌, length, get_or, Option, Some, None, Result, Ok, Err, refl, sym, ap, ◌∙◌, arith}
use Rattle.std.specs.Prelude.{slice_get}
use Rattle.std.proofs.lemmas.Option.{slice_get-get_or}
use Rattle.base.specs.Items.{Plan, Work}
use Rattle.base.specs.Footprint.{exposes, reads, surely_writes, writes}
use Rattle.base.specs.Accepted.{region_faults}
use Rattle.base.specs.Turns.{turns_in_work, turns_meet}
use Rattle.base.proofs.Leasts.{least_same}
use Rattle.ranges.specs.declared.cells.Footprint.{Footprint}
use Rattle.ranges.specs.declared.FootprintFault.{FootprintFault}
use Rattle.mapwalk.specs.declared.found.Next.{Next}
use Rattle.mapwalk.specs.declared.found.Next.TheVariants.{Own, Shared}
use Rattle.mapwalk.specs.Footprints.{AreFirstFootprints}
use Rattle.mapwalk.specs.Regions.{IsFoundFor}
use Rattle.mapwalk.specs.Repeats.{AreRepeats, IsRepeat, TouchAlike}

-- a footprint of an item that touches alike
found_alike : (lengths : List ℕ) (v w : Work) (o : Option Footprint) → TouchAlike lengths v w → IsFoundFor lengths v o →
    IsFoundFor lengths w o
found_alike lengths v w None alike is = record { touches = alike.region ∙ is.touches; within = is.within }
found_alike lengths v w (Some f) alike is = record {
  touches = record {
    exposed = λ c. is.touches.exposed c ∙ (λ i. exposes (sym alike.touches i) c);
    read = λ c. is.touches.read c ∙ (λ i. reads (sym alike.touches i) c);
    write = λ c. is.touches.write c ∙ (λ i. writes (sym alike.touches i) c);
    sure = λ c. is.touches.sure c ∙ (λ i. surely_writes (sym alike.touches i) c);
    meeting = least_same (turns_meet (turns_in_work v)) (turns_meet (turns_in_work w)) f.meeting (λ c. sym (alike.turns c))
        is.touches.meeting;
  };
  within = is.within;
}

-- an item of the first ones
pub record ItemAt (plan : Plan) (n : ℕ) : Type 0 where
  pub work : Work
  pub there : slice_get plan.items n ≡ Some work

past_end : (works : List Work) (n : ℕ) → slice_get works n ≡ None → length works ≤ n
past_end [] n e = omega arith
past_end (w ∷ works) zero e = absurd cc
past_end (w ∷ works) (suc n) e = let l = past_end works n e in omega arith

pub item_at : (plan : Plan) (n : ℕ) → n < length plan.items → ItemAt plan n
item_at plan n inside = go (slice_get plan.items n) refl
  where
    go : (o : Option Work) → slice_get plan.items n ≡ o → ItemAt plan n
    go None e = absurd (let past = past_end plan.items n e in omega arith)
    go (Some w) e = record { work = w; there = e }

-- the footprint of the item that is repeated
pub shared_found : (plan : Plan) (n k : ℕ) (w : Work) (found : List (Option Footprint)) → AreFirstFootprints plan n found →
    IsRepeat plan n k → n < length plan.items → slice_get plan.items n ≡ Some w →
    IsFoundFor plan.lengths w (get_or found k None)
shared_found plan n k w found before is inside there =
    let lower = is.before in
    let many = before.count in
    let v = item_at plan k (omega arith) in
    found_alike plan.lengths v.work w (get_or found k None) (is.alike v.work w v.there there)
    (before.each k v.work (get_or found k None) v.there (slice_get-get_or found k None (omega arith)))

-- a footprint that is shared is that of one item
pub shared_number : (j k : ℕ) → ◌≡◌ {A = Result Next FootprintFault} (Ok (Shared j)) (Ok (Shared k)) → j ≡ k
shared_number j k is = ap (λ (r : Result Next FootprintFault). number r) is
  where
    number : Result Next FootprintFault → ℕ
    number (Ok (Shared n)) = n
    number (Ok (Own f)) = 0
    number (Err e) = 0

-- it lies before
pub shared_below : (plan : Plan) (n k : ℕ) (found : List (Option Footprint)) → AreFirstFootprints plan n found →
    IsRepeat plan n k → k < length found
shared_below plan n k found before is = let lower = is.before in let many = before.count in omega arith

-- a region that is repeated has no fault of range
pub shared_fine : (plan : Plan) (n k : ℕ) (w : Work) (found : List (Option Footprint)) → AreFirstFootprints plan n found →
    IsRepeat plan n k → n < length plan.items → slice_get plan.items n ≡ Some w →
    region_faults plan.lengths w.loops w.region ≡ []
shared_fine plan n k w found before is inside there =
    let lower = is.before in
    let v = item_at plan k (omega arith) in
    (is.alike v.work w v.there there).faults ∙ before.fine k v.work lower v.there

-- where item n repeats an earlier one, that is known
pub repeat_at : (plan : Plan) (repeats : List (Option ℕ)) (n k : ℕ) → AreRepeats plan repeats → n < length plan.items →
    get_or repeats n None ≡ Some k → IsRepeat plan n k
repeat_at plan repeats n k are inside e =
    let many = are.count in
    are.each n k (slice_get-get_or {X = Option ℕ} repeats n None (omega arith) ∙ ap (λ (o : Option ℕ). Some o) e)
