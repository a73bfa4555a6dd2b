-- What the walk found of the items before the one that is refused.
use Rattle.std.proofs.Common.{◌≡◌, ℕ, ◌<◌, ◌≤◌, false, true, List, [], length, take, Some, None, refl, sym, ap, ◌∙◌, subst}
use Rattle.std.specs.Prelude.{slice_get}
use Rattle.std.proofs.lemmas.Bool.{false_from_ne_true}
use Rattle.std.proofs.lemmas.Option.{get_or_from_slice_get, slice_get_within}
use Rattle.base.specs.declared.item.Cell.{Cell}
use Rattle.base.specs.declared.fault.RefusalCode.{RefusalCode}
use Rattle.base.specs.declared.fault.RefusalCode.TheVariants.{OverlapsInPart, NotPresent}
use Rattle.base.specs.declared.tree.Program.{Program}
use Rattle.base.specs.Items.{Plan, plan}
use Rattle.base.specs.Actions.{Stage, stages}
use Rattle.base.specs.Accepted.{IsFault, Refused, cause, current_before, on_stage}
use Rattle.mapwalk.specs.declared.Walked.{Walked}
use Rattle.mapwalk.specs.declared.rows.Acts.{Acts}
use Rattle.mapwalk.specs.Acts.{acts_rows}
use Rattle.mapwalk.specs.Laws.{actions_of}
use Rattle.mapwalk.specs.Walk.{AreActs, HasNoRangeFault, IsFirstRefusal, IsSound, items_before}
use Rattle.mapwalk.proofs.StageActions.{stages_are_spelled}
use Rattle.mapwalk.proofs.Walking.{on_stage_is}
use Rattle.mapcheck.specs.Third.{AreFirstRows, NoneAlone}
use Rattle.mapcheck.proofs.Stages.{row_at, rows_inside}
use Rattle.mapcheck.proofs.ThirdFaults.{before_inside, none_alone, rows_count}
use Rattle.history.specs.Items.{AreSpelled}

-- of an item that is not refused by itself
spelled_at : (p : Program) (n i : ℕ) (s : Stage) (row : List Acts) → HasNoRangeFault (plan p) → NoneAlone (plan p) n → i < n →
    slice_get (stages (plan p)) i ≡ Some s → slice_get (acts_rows (plan p).items (λ d. [])) i ≡ Some row → s.actions ≡ actions_of s.work row
spelled_at p n i s row fine alone lt there here =
    stages_are_spelled p i s row (current_before (plan p) i) fine there here (never OverlapsInPart (λ c t. t)) (never NotPresent (λ c t. t))
  where
    never : (code : RefusalCode) →
        ((c : Cell) → on_stage (plan p) i false (λ x. cause code x (current_before (plan p) i) c) ≡ true →
        IsFault (plan p) (Refused (record { code = code; item = i; cell = c; other = None }))) →
        (c : Cell) → cause code s (current_before (plan p) i) c ≡ false
    never code is c = false_from_ne_true (cause code s (current_before (plan p) i) c) (λ t.
        alone (record { code = code; item = i; cell = c; other = None }) lt refl
        (is c (on_stage_is (plan p) i s (λ x. cause code x (current_before (plan p) i) c) there ∙ t)))

long : (q : Plan) (w : Walked) → AreActs q w → IsFirstRefusal q w.fault → length w.acts.items ≡ items_before q w.fault
long q w acts first = rows_count q (items_before q w.fault) w.acts.items acts (before_inside q w.fault first)

first_rows : (q : Plan) (w : Walked) → AreActs q w → IsFirstRefusal q w.fault → AreFirstRows q w.acts.items
first_rows q w acts first = acts ∙ ap (λ n. take n (acts_rows q.items (λ d. []))) (sym (long q w acts first))

pub few_rows : (q : Plan) (w : Walked) → AreActs q w → IsFirstRefusal q w.fault → length w.acts.items ≤ length q.items
few_rows q w acts first = rows_inside q w.acts.items (first_rows q w acts first)

pub spelled : (p : Program) (w : Walked) → HasNoRangeFault (plan p) → AreActs (plan p) w → IsFirstRefusal (plan p) w.fault →
    IsSound (plan p) w.fault → AreSpelled (plan p) w.acts.items
spelled p w fine acts first sound i s row there here =
    let lt = slice_get_within w.acts.items i row here in
    spelled_at p (length w.acts.items) i s row.items fine
    (subst (NoneAlone (plan p)) (sym (long (plan p) w acts first)) (none_alone (plan p) w.fault first sound)) lt there
    (row_at (plan p) w.acts.items i row (first_rows (plan p) w acts first) lt (sym (get_or_from_slice_get w.acts.items i row row here)))
