-- What is current after the last item.
use Rattle.std.proofs.Common.{◌≡◌, ℕ, zero, suc, ◌+◌, ◌<◌, ◌≤◌, Bool, true, List, [], ◌∷◌, length, take, drop, refl, sym, ap, ◌∙◌, subst, arith}
use Rattle.std.specs.Prelude.{filter, slice_index, nat_lt, ◌&&◌}
use Rattle.std.specs.List.{list_all, range_with_len}
use Rattle.std.proofs.lemmas.Bool.Decides.{nat_tests}
use mathlib.Core.Path.{fun_ext}
use Rattle.base.specs.Items.{Plan}
use Rattle.base.specs.Map.{Block}
use Rattle.base.specs.Actions.{stages}
use Rattle.base.specs.Current.{after_stages, at_start, current_at_end, is_marked}
use Rattle.base.specs.Accepted.{current_before}
use Rattle.mapwalk.specs.declared.rows.Acts.{Acts}
use Rattle.mapwalk.specs.declared.marks.Marks.{Marks}
use Rattle.mapwalk.specs.declared.steps.DeviceState.{DeviceState}
use Rattle.mapwalk.specs.Current.{is_full_in, marks_in, row_lengths}
use Rattle.mapwalk.specs.Steps.{current_of}
use Rattle.mapwalk.proofs.Agreeing.{AgreeOn}
use Rattle.mapwalk.proofs.Refusals.{stages_end}
use Rattle.mapwalk.proofs.SideRows.{lengths_count}
use Rattle.mapwalk.proofs.Walking.{Reached}

take_whole : {X : Type 0} (xs : List X) (i : ℕ) → drop i xs ≡ [] → take i xs ≡ xs
take_whole [] zero e = refl
take_whole [] (suc i) e = refl
take_whole (x ∷ xs) zero e = absurd cc
take_whole (x ∷ xs) (suc i) e = ap (λ ys. x ∷ ys) (take_whole xs i e)

all_same : (p q : ℕ → Bool) (a n : ℕ) → ((j : ℕ) → j < a + n → p j ≡ q j) → list_all p (range_with_len a n) ≡ list_all q (range_with_len a n)
all_same p q a zero h = refl
all_same p q a (suc n) h =
    (λ i. h a (omega arith) i && all_same p q (a + 1) n (λ j x. h j (omega arith)) i)

cell_there : (lengths : List ℕ) (a j : ℕ) → j < slice_index lengths a → nat_lt j (slice_index lengths a) ≡ true
cell_there lengths a j h = grind (arith, nat_tests)

-- an array is marked where each of its marks is set
full_is : (plan : Plan) (host : List Marks) → row_lengths host ≡ plan.lengths →
    AgreeOn plan.lengths (marks_in host) (current_at_end plan).host → (a : ℕ) → is_full_in host a ≡ is_marked plan a
full_is plan host e h a =
    let long : slice_index (row_lengths host) a ≡ slice_index plan.lengths a = ap (λ ls. slice_index ls a) e in
    ap (λ n. list_all (λ j. marks_in host (record { array = record { 0 = a }; index = j })) (range_with_len 0 n)) long
    ∙ all_same (λ j. marks_in host (record { array = record { 0 = a }; index = j }))
    (λ j. (current_at_end plan).host (record { array = record { 0 = a }; index = j })) 0 (slice_index plan.lengths a)
    (λ j x. h (record { array = record { 0 = a }; index = j }) (cell_there plan.lengths a j (omega arith)))

pub marked_at_end : (plan : Plan) (i : ℕ) (tables : ℕ → List Block) (host : List Marks) (devices : List DeviceState)
    (rows : List (List Acts)) → row_lengths host ≡ plan.lengths →
    length plan.items ≤ i → Reached plan i tables (current_of host devices) rows →
    filter (is_full_in host) (range_with_len 0 (length host)) ≡ filter (is_marked plan) (range_with_len 0 (length plan.lengths))
marked_at_end plan i tables host devices rows e h r =
    let end : current_before plan i ≡ current_at_end plan = ap (λ ss. after_stages ss at_start)
    (take_whole (stages plan) i (stages_end plan i tables (current_of host devices) rows h r)) in
    let agree = subst (λ k. AgreeOn plan.lengths (marks_in host) k.host) end r.agree.host in
    let many : length host ≡ length plan.lengths = sym (lengths_count host) ∙ ap (λ ls. length ls) e in
    (λ t. filter (fun_ext (λ (a : ℕ). full_is plan host e agree a) t) (range_with_len 0 (many t)))
