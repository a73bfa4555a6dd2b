-- What a whole run by choices answers.
use Rattle.std.proofs.Common.{◌≡◌, ℕ, zero, suc, ◌+◌, ◌<◌, Bool, true, false, List, [], ◌∷◌, ◌++◌, length, map, take, add-one, get_or, Some, Vec, Global, refl, sym, ap, ap₂, ◌∙◌, subst, arith}
use Rattle.std.specs.Prelude.{cond, filter, decimal, nat_lt, slice_index}
use Rattle.std.specs.List.{range_with_len}
use Rattle.std.proofs.lemmas.List.{append_assoc, append-nil, map-append, take_more}
use Rattle.std.proofs.lemmas.Bool.Decides.{nat_tests}
use Rattle.base.specs.declared.item.Answer.{Answer}
use Rattle.base.specs.declared.item.Cell.{Cell}
use Rattle.base.specs.declared.item.Event.{Event}
use Rattle.base.specs.declared.fault.RunFault.{RunFault}
use Rattle.base.specs.declared.fault.RunFault.TheVariants as fault
use Rattle.base.specs.declared.tree.ArrayId.{ArrayId}
use Rattle.base.specs.declared.tree.Program.{Program}
use Rattle.base.specs.Memory.{Memory, is_cell}
use Rattle.base.specs.Meaning.{lengths_of, output_of}
use Rattle.base.specs.Items.{plan}
use Rattle.base.specs.Machine.{HasEnded, RunFrom, follow, run_by_choices, start}
use Rattle.base.specs.Current.{is_marked}
use Rattle.base.specs.Headline.{ShowsErased}
use Rattle.base.specs.Answer.{IsAnswer, array_values, marked_values}
use Rattle.headline.proofs.Headline.{headline}
use Rattle.mapcheck.specs.Third.{AreMarked}
use Rattle.mapwalk.specs.Walk.{array_number}
use Rattle.device.specs.Answering.{IsAnswerFault, IsAnswerOf, IsRunAnswer, final_in, final_of, values_in}
use Rattle.device.specs.Choosing.{IsPlayed, IsStopped, gone_on, most_events}
use Rattle.device.specs.Run.{IsStart, Run, fill_in, state_of}
use Rattle.device.specs.Running.{IsReached}
use Rattle.device.proofs.Reaching.{leads_to}

-- the numbers of one array more
pub final_more : (r : Run) (arrays : List ArrayId) (k : ℕ) (d : ArrayId) (finals more : List (ArrayId × Vec ℕ Global)) (values : Vec ℕ Global) →
    k < length arrays → map final_of finals ≡ map (final_in r) (take k arrays) →
    more ≡ finals ++ (get_or arrays k d, values) ∷ [] → values.items ≡ values_in r (get_or arrays k d) →
    map final_of more ≡ map (final_in r) (take (k + 1) arrays)
final_more r arrays k d finals more values lt before pushed shown =
    let a = get_or arrays k d in
    let first = map (final_in r) (take k arrays) in
    ap (λ xs. map final_of xs) pushed ∙ map-append final_of finals ((a, values) ∷ [])
    ∙ ap (λ xs. xs ++ (a.0, values.items) ∷ []) before
    ∙ ap (λ vs. first ++ (a.0, vs) ∷ []) shown
    ∙ sym (map-append (final_in r) (take k arrays) (a ∷ []))
    ∙ ap (λ xs. map (final_in r) xs) (sym (take_more arrays k d lt))

-- the output with one more number
pub output_more : (xs : List ℕ) (k d : ℕ) → k < length xs →
    output_of (take (k + 1) xs) ≡ output_of (take k xs) ++ (decimal (get_or xs k d) ++ 10 ∷ [])
output_more xs k d h = ap (λ n. output_of (take n xs)) (add-one k) ∙ go xs k h
  where
    go : (xs : List ℕ) (k : ℕ) → k < length xs →
        output_of (take (suc k) xs) ≡ output_of (take k xs) ++ (decimal (get_or xs k d) ++ 10 ∷ [])
    go [] k h = absurd (omega arith)
    go (x ∷ xs) zero h = append-nil (decimal x ++ 10 ∷ [])
    go (x ∷ xs) (suc k) h =
        ap (λ ys. (decimal x ++ 10 ∷ []) ++ ys) (go xs k (omega arith))
        ∙ sym (append_assoc (decimal x ++ 10 ∷ []) (output_of (take k xs)) (decimal (get_or xs k d) ++ 10 ∷ []))

-- functions that agree on what passes a test
same_where : {B : Type 0} (p : ℕ → Bool) (f g : ℕ → B) (xs : List ℕ) → ((x : ℕ) → p x ≡ true → f x ≡ g x) →
    map f (filter p xs) ≡ map g (filter p xs)
same_where p f g [] h = refl
same_where {B} p f g (x ∷ xs) h = go (p x) refl (same_where p f g xs h)
  where
    go : (b : Bool) → p x ≡ b → map f (filter p xs) ≡ map g (filter p xs) →
        map f (cond b (x ∷ filter p xs) (filter p xs)) ≡ map g (cond b (x ∷ filter p xs) (filter p xs))
    go true e rest = ap₂ ◌∷◌ (h x e) rest
    go false e rest = rest

same_below : (f g : ℕ → ℕ) (a n : ℕ) → ((k : ℕ) → k < a + n → f k ≡ g k) →
    map f (range_with_len a n) ≡ map g (range_with_len a n)
same_below f g a zero h = refl
same_below f g a (suc n) h =
    ap₂ ◌∷◌ (h a (omega arith)) (same_below f g (a + 1) n (λ k lt. h k (omega arith)))

is_below : (k n : ℕ) → k < n → nat_lt k n ≡ true
is_below k n h = grind (arith, nat_tests)

numbered : (f : ℕ → ℕ × List ℕ) (arrays : List ArrayId) → map (λ (a : ArrayId). f a.0) arrays ≡ map f (map array_number arrays)
numbered f [] = refl
numbered f (a ∷ rest) = ap (λ xs. f a.0 ∷ xs) (numbered f rest)

abbrev row_in : Program → Memory → ℕ → ℕ × List ℕ
row_in p m a = (a, array_values m a (slice_index (lengths_of p) a))

-- the numbers of the arrays marked current are those of the erased program
pub finals_are : (p : Program) (host memory : Memory) (arrays : List ArrayId) → AreMarked (plan p) arrays →
    ((c : Cell) → is_cell (lengths_of p) c ≡ true → is_marked (plan p) c.array.0 ≡ true → host c ≡ memory c) →
    map (λ (a : ArrayId). row_in p host a.0) arrays ≡ marked_values p memory
finals_are p host memory arrays marked same =
    numbered (row_in p host) arrays ∙ ap (λ xs. map (row_in p host) xs) marked
    ∙ same_where (is_marked (plan p)) (row_in p host) (row_in p memory) (range_with_len 0 (length (lengths_of p)))
    (λ a is. ap (λ xs. (a, xs)) (same_below _ _ 0 (slice_index (lengths_of p) a)
    (λ k lt. same (record { array = record { 0 = a }; index = k })
    (is_below k (slice_index (lengths_of p) a) (omega arith)) is)))

-- a run that has done nothing goes on as any run by choices does
from_start : (choices : List ℕ) (r : Run) → r.history ≡ [] →
    run_by_choices (plan r.program) (fill_in r) r.input choices ≡ gone_on r (most_events r) choices
from_start choices r none =
    λ j. follow (plan r.program) (fill_in r) (most_events r) choices (sym none j) (Some (sym here j))
  where
    ran : RunFrom (plan r.program) (fill_in r) r.input r.history (Some (start r.input))
    ran = subst (λ (h : List Event). RunFrom (plan r.program) (fill_in r) r.input h (Some (start r.input))) (sym none) refl

    here : state_of r ≡ start r.input
    here = leads_to r (start r.input) ran

-- a run that has ended shows what the erased program does
pub shows_erased : (r : Run) → IsReached r → HasEnded (plan r.program) (state_of r) → ShowsErased r.program r.input (state_of r)
shows_erased r reached ended =
    (headline r.program reached.accepted).shows r.input (fill_in r) r.history (state_of r) reached.numbers
    (λ i c. reached.fresh) reached.ran ended

-- so does its answer
pub is_run_answer : (arrays : List ArrayId) (r : Run) (a : Answer) → IsReached r → HasEnded (plan r.program) (state_of r) →
    AreMarked (plan r.program) arrays → IsAnswerOf r arrays a → IsRunAnswer r a
is_run_answer arrays r a reached ended marked of = record {
  history = of.history;
  plain = shows.plain;
  is_erased = shows.is_erased;
  output = of.out ∙ ap (λ xs. output_of xs) shows.output;
  finals =
      of.finals
      ∙ finals_are r.program (state_of r).memories.host shows.plain.memory arrays marked shows.marked;
}
  where
    shows : ShowsErased r.program r.input (state_of r)
    shows = shows_erased r reached ended

-- the answer of a run that was played to its end is right
pub is_answer : (p : Program) (input choices : List ℕ) (capacity : ℕ) (old new : Run) (a : Answer) →
    IsStart p input capacity old → IsPlayed choices old new → IsReached new → IsRunAnswer new a → IsAnswer p input choices a
is_answer p input choices capacity old new a begun played reached of =
    subst (λ (q : Program). IsAnswer q input choices a) program
    (subst (λ (i : List ℕ). IsAnswer new.program i choices a) given made)
  where
    program : new.program ≡ p
    program = played.goes.program ∙ begun.program

    given : new.input ≡ input
    given = played.goes.input ∙ begun.input

    made : IsAnswer new.program new.input choices a
    made = record {
      fill = fill_in new;
      is_fill = λ i c. reached.fresh;
      end = state_of new;
      ran =
          (λ j. run_by_choices (plan (played.goes.program j)) (λ i c. played.goes.fresh j) (played.goes.input j) choices)
          ∙ from_start choices old begun.history ∙ played.goes.by_choices
          ∙ (λ j. record { history = sym of.history j; state = Some (state_of new) });
      ended = played.ended;
      plain = of.plain;
      is_erased = of.is_erased;
      output = of.output;
      finals = of.finals;
    }

-- why a run stopped is why there is no answer
pub no_answer : (p : Program) (input choices : List ℕ) (capacity : ℕ) (old new : Run) (f : RunFault) →
    IsStart p input capacity old → IsStopped choices old new f → IsAnswerFault p input choices capacity f
no_answer p input choices capacity old new fault.OutOfMemory begun h = tt
no_answer p input choices capacity old new fault.DeviceFull begun h =
    record { begun = old; is_start = begun; now = new; stopped = h }
no_answer p input choices capacity old new fault.Absent begun h = h.fault
no_answer p input choices capacity old new fault.Stranger begun h = h.fault
no_answer p input choices capacity old new fault.ThreadNotStarted begun h = h.fault
no_answer p input choices capacity old new fault.OtherState begun h = h.fault
no_answer p input choices capacity old new fault.RangeRefused begun h = h.fault
