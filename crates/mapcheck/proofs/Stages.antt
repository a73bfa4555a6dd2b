-- The items that have rows, and their accesses.
use Rattle.std.proofs.Common.{◌≡◌, ℕ, zero, suc, ◌+◌, ◌<◌, ◌≤◌, false, List, [], ◌∷◌, ◌++◌, length, take, map, get_or, Some, None, refl, sym, ap, ◌∙◌, subst, arith, ⊎_elim, length-append, option_map}
use Rattle.std.specs.Prelude.{slice_get, Vec}
use Rattle.std.specs.declared.alloc.Global.{Global}
use Rattle.std.proofs.lemmas.Bool.{cases_eq, false_from_ne_true}
use Rattle.std.proofs.lemmas.List.{length-map}
use Rattle.std.proofs.lemmas.Option.{same_Some, slice_get-get_or, slice_get_within, slice_get-map}
use Rattle.base.specs.declared.item.Cell.{Cell}
use Rattle.base.specs.declared.fault.RefusalCode.TheVariants.{OverlapsInPart, NotPresent}
use Rattle.base.specs.declared.tree.Program.{Program}
use Rattle.base.specs.Items.{Work, Plan, plan}
use Rattle.base.specs.Map.{Block}
use Rattle.base.specs.Memory.{changed}
use Rattle.base.specs.Actions.{Stage, acts_of, stages, stages_from}
use Rattle.base.specs.Accepted.{cause, current_before}
use Rattle.mapwalk.specs.declared.rows.Acts.{Acts}
use Rattle.mapwalk.specs.Acts.{acts_rows}
use Rattle.mapwalk.specs.Laws.{actions_of}
use Rattle.mapwalk.specs.Walk.{HasNoRangeFault, row_items}
use Rattle.mapwalk.proofs.Prints.{get_before, get_last}
use Rattle.mapwalk.proofs.StageActions.{stages_are_spelled}
use Rattle.mapwalk.proofs.Walking.{on_stage_is}
use Rattle.mapcheck.specs.declared.accesses.Accesses.{Accesses}
use Rattle.mapcheck.specs.Accesses.{AreAccesses}
use Rattle.mapcheck.specs.Third.{AreFirstRows, AreOfFirst, NoneAlone}
use Rattle.mapcheck.specs.Unordered.{AreAccessesOf}

pub rows_long : (works : List Work) (blocks : ℕ → List Block) → length (acts_rows works blocks) ≡ length works
rows_long [] blocks = refl
rows_long (w ∷ works) blocks =
    let next : ℕ → List Block = changed w.device (acts_of w (blocks w.device)).blocks blocks in
    let rest : length (acts_rows works next) ≡ length works = rows_long works next in
    omega arith

take_less : {A : Type 0} (n : ℕ) (xs : List A) → length (take n xs) ≤ length xs
take_less zero xs = omega arith
take_less (suc n) [] = omega arith
take_less (suc n) (x ∷ xs) = let rest : length (take n xs) ≤ length xs = take_less n xs in omega arith

get_taken : {A : Type 0} (n : ℕ) (xs : List A) (i : ℕ) (x : A) → slice_get (take n xs) i ≡ Some x → slice_get xs i ≡ Some x
get_taken zero [] i x e = e
get_taken zero (y ∷ xs) zero x e = absurd cc
get_taken zero (y ∷ xs) (suc i) x e = absurd cc
get_taken (suc n) [] i x e = e
get_taken (suc n) (y ∷ xs) zero x e = e
get_taken (suc n) (y ∷ xs) (suc i) x e = get_taken n xs i x e

-- there is an item for each row
pub rows_inside : (plan : Plan) (rows : List (Vec Acts Global)) → AreFirstRows plan rows → length rows ≤ length plan.items
rows_inside plan rows h =
    let one : length (map row_items rows) ≡ length rows = length-map rows row_items in
    let two : length (map row_items rows) ≡ length (take (length rows) (acts_rows plan.items (λ d. []))) = ap (λ xs. length xs) h in
    let three : length (take (length rows) (acts_rows plan.items (λ d. []))) ≤ length (acts_rows plan.items (λ d. [])) =
    take_less (length rows) (acts_rows plan.items (λ d. [])) in
    let four : length (acts_rows plan.items (λ d. [])) ≡ length plan.items = rows_long plan.items (λ d. []) in
    omega arith

pub row_at : (plan : Plan) (rows : List (Vec Acts Global)) (i : ℕ) (row : Vec Acts Global) → AreFirstRows plan rows →
    i < length rows → row ≡ get_or rows i row → slice_get (acts_rows plan.items (λ d. [])) i ≡ Some row.items
row_at plan rows i row h lt is =
    get_taken (length rows) (acts_rows plan.items (λ d. [])) i row.items
    (ap (λ xs. slice_get xs i) (sym h)
    ∙ slice_get-map row_items rows i
    ∙ ap (option_map row_items) (slice_get-get_or rows i row lt ∙ ap (λ (x : Vec Acts Global). Some x) (sym is)))

record StageAt (works : List Work) (blocks : ℕ → List Block) (i : ℕ) (w : Work) : Type 0 where
  stage : Stage
  there : slice_get (stages_from works blocks) i ≡ Some stage
  work : stage.work ≡ w

stage_at : (works : List Work) (blocks : ℕ → List Block) (i : ℕ) (w : Work) → slice_get works i ≡ Some w → StageAt works blocks i w
stage_at [] blocks i w e = absurd cc
stage_at (x ∷ works) blocks zero w e =
    let a = acts_of x (blocks x.device) in
    record { stage = record { work = x; actions = a.actions; met = a.met }; there = refl; work = same_Some x w e }
stage_at (x ∷ works) blocks (suc i) w e =
    let rest = stage_at works (changed x.device (acts_of x (blocks x.device)).blocks blocks) i w e in
    record { stage = rest.stage; there = rest.there; work = rest.work }

-- the accesses of an item that is not refused by itself
pub accesses_at : (p : Program) (n i : ℕ) (w : Work) (row : List Acts) (a : Accesses) → HasNoRangeFault (plan p) →
    NoneAlone (plan p) n → i < n → slice_get (plan p).items i ≡ Some w → slice_get (acts_rows (plan p).items (λ d. [])) i ≡ Some row →
    AreAccesses a w.device (actions_of w row) → AreAccessesOf (slice_get (stages (plan p)) i) a
accesses_at p n i w row a none alone lt there spelled are =
    let at = stage_at (plan p).items (λ d. []) i w there in
    subst (λ o. AreAccessesOf o a) (sym at.there)
    (subst (λ (v : Work). AreAccesses a v.device at.stage.actions) (sym at.work) (subst (AreAccesses a w.device)
    (sym (stages_are_spelled p i at.stage row (current_before (plan p) i) none at.there spelled (part at.stage at.there) (present at.stage at.there)
    ∙ ap (λ v. actions_of v row) at.work)) are))
  where
    part : (s : Stage) → slice_get (stages (plan p)) i ≡ Some s →
        (c : Cell) → cause OverlapsInPart s (current_before (plan p) i) c ≡ false
    part s e c = false_from_ne_true (cause OverlapsInPart s (current_before (plan p) i) c) (λ t.
        alone (record { code = OverlapsInPart; item = i; cell = c; other = None }) lt refl
        (on_stage_is (plan p) i s (λ x. cause OverlapsInPart x (current_before (plan p) i) c) e ∙ t))

    present : (s : Stage) → slice_get (stages (plan p)) i ≡ Some s →
        (c : Cell) → cause NotPresent s (current_before (plan p) i) c ≡ false
    present s e c = false_from_ne_true (cause NotPresent s (current_before (plan p) i) c) (λ t.
        alone (record { code = NotPresent; item = i; cell = c; other = None }) lt refl
        (on_stage_is (plan p) i s (λ x. cause NotPresent x (current_before (plan p) i) c) e ∙ t))

pub one_item : (plan : Plan) (n : ℕ) (list : List Accesses) (a : Accesses) → AreOfFirst plan n list →
    AreAccessesOf (slice_get (stages plan) n) a → AreOfFirst plan (n + 1) (list ++ a ∷ [])
one_item plan n list a h is = record {
  count = let c = h.count in length-append list (a ∷ []) ∙ ap (λ k. k + 1) c;
  are = λ k x e. ⊎_elim (λ (same : k ≡ n). last k x e same)
      (λ (other : k ≡ n → ⊥). h.are k x (get_before list a x k (below k x e other) e)) (cases_eq k n);
}
  where
    last : (k : ℕ) (x : Accesses) → slice_get (list ++ a ∷ []) k ≡ Some x → k ≡ n → AreAccessesOf (slice_get (stages plan) k) x
    last k x e same =
        subst (λ j. AreAccessesOf (slice_get (stages plan) j) x) (sym same)
        (subst (AreAccessesOf (slice_get (stages plan) n)) (get_last list a x k (same ∙ sym h.count) e) is)

    below : (k : ℕ) (x : Accesses) → slice_get (list ++ a ∷ []) k ≡ Some x → (k ≡ n → ⊥) → k < length list
    below k x e other =
        let lt : k < length (list ++ a ∷ []) = slice_get_within (list ++ a ∷ []) k x e in
        let long = length-append list (a ∷ []) in
        let c = h.count in omega (arith, lt, long, c, other)
