-- The two parts of a loop that is cut, each done from where the loop begins, are the loop.
use Rattle.std.proofs.Common.{◌≡◌, ℕ, suc, ◌<◌, ◌^◌, Bool, true, false, List, [], ◌∷◌, ◌++◌, Option, Some, None, refl, sym, ◌∙◌, ap, ap₂, subst, append-nil, arith}
use Rattle.std.specs.Prelude.{All, not, ◌&&◌, nat_lt, flat_map, option_and_then}
use Rattle.std.specs.List.{list_any}
use Rattle.std.proofs.lemmas.Bool.Decides.{nat_tests}
use mathlib.Core.Path.{fun_ext}
use Rattle.base.specs.declared.item.Cell.{Cell}
use Rattle.base.specs.declared.tree.Bounds.{Bounds}
use Rattle.base.specs.declared.tree.Stmt.{Stmt}
use Rattle.base.specs.Memory.{View, Scalars}
use Rattle.base.specs.Meaning.{Run, all_turns, run_list, run_stmt}
use Rattle.base.specs.Footprint.{Touch, reads, writes, stmt_touches}
use Rattle.base.specs.ScalarUse.{list_assigned, list_needs, stmt_assigned, stmt_needs}
use Rattle.base.specs.Turns.{Turn, turn_touches, Independent}
use Rattle.base.proofs.TurnTouches.{turns_touch_all}
use Rattle.regions.specs.Footprints.{BoundedScalars, BoundedView}
use Rattle.regions.proofs.Needs.{Every}
use Rattle.regions.proofs.StatementsDone.{small_list}
use Rattle.spans.specs.Spans.{begin, joined, list_sure, span_run, span_turns, sure_by, Halves, IsCut, IsSelfContained, SpansAreTheLoop}
use Rattle.spans.proofs.Known.{then_parts}
use Rattle.spans.proofs.Looped.{Looped, looped}
use Rattle.spans.proofs.PlainTouches.{IsPlain, stmt_plain}
use Rattle.spans.proofs.Pairs.{clear_of, front_apart, back_apart}
use Rattle.spans.proofs.Cuts.{all_split, turns_split}
use Rattle.spans.proofs.Together.{IsApart, done_after, done_alone}

module _ (body : List Stmt) (l : Looped body) (d : ℕ) (loops : List ℕ) (view : View) (scalars : Scalars)
    (b front back : Bounds) (contained : IsSelfContained body) (small : All (λ n. n < 2 ^ 64) loops)
    (bounded_view : BoundedView view) (bounded : BoundedScalars scalars)
    (apart : Independent (span_turns d b body loops)) (cut : IsCut b front back) where
  -- what the turns touch is what the loop touches
  touched : (b : Bounds) → flat_map turn_touches (span_turns d b body loops) ≡ stmt_touches (l.at b) loops true
  touched b =
      ap (flat_map turn_touches) (sym (l.turns d b loops))
      ∙ turns_touch_all (suc d) (l.at b ∷ []) loops
      ∙ append-nil (stmt_touches (l.at b) loops true)

  both_apart : Independent (span_turns d front body loops ++ span_turns d back body loops)
  both_apart = subst Independent (turns_split b front back cut d body loops) apart

  plain : Every IsPlain (flat_map turn_touches (span_turns d back body loops))
  plain =
      subst (Every IsPlain) (sym (touched back))
      (stmt_plain (l.at back) loops true (l.updates back ∙ contained.plain))

  unread : (c : Cell) (w : Bool) → writes (stmt_touches (l.at front) loops true) c ≡ w →
      reads (stmt_touches (l.at back) loops true) c ≡ true → w ≡ false
  unread c false e r = refl
  unread c true e r =
      absurd (clear_of (span_turns d front body loops) (span_turns d back body loops) c (both_apart c) plain
      (ap (λ (xs : List Touch). writes xs c) (touched front) ∙ e)
      (ap (λ (xs : List Touch). reads xs c) (touched back) ∙ r))

  sure_is : (x : ℕ) → not (sure_by x (l.at back)) ≡ not (list_sure x body)
  sure_is x =
      let has : nat_lt back.first back.end ≡ true = grind (arith, nat_tests, cut.more) in
      ap not (l.sure back x ∙ ap (λ q. q && list_sure x body) has)

  are_apart : IsApart loops (l.at front) (l.at back)
  are_apart = record {
    cells = λ c r. unread c (writes (stmt_touches (l.at front) loops true) c) refl r;
    needed = ap₂ (λ (p : ℕ → Bool) (xs : List ℕ). list_any p xs) (fun_ext (λ (x : ℕ). l.needs back x)) (l.assigned front)
        ∙ contained.needed;
    settled = ap₂ (λ (p : ℕ → Bool) (xs : List ℕ). list_any p xs) (fun_ext (λ (x : ℕ). sure_is x)) (l.assigned front)
        ∙ contained.settled;
  }

  together : (r t : Run) → span_run front body loops view scalars ≡ Some r →
      span_run back body loops view scalars ≡ Some t → span_run b body loops view scalars ≡ Some (joined r t)
  together r t e f =
      all_split b front back cut (λ v. run_list body view (loops ++ v ∷ [])) (begin scalars)
      ∙ ap (option_and_then (all_turns back (λ v. run_list body view (loops ++ v ∷ [])))) e
      ∙ sym (l.runs back view loops r)
      ∙ done_after view loops scalars bounded_view (small_list loops small) bounded (l.at front) (l.at back) are_apart r
      (l.runs front view loops (begin scalars) ∙ e) t (l.runs back view loops (begin scalars) ∙ f)

  front_runs : (t : Run) → span_run b body loops view scalars ≡ Some t →
      (r : Run) × (span_run front body loops view scalars ≡ Some r)
  front_runs t e =
      let p = then_parts (all_turns back (λ v. run_list body view (loops ++ v ∷ [])))
      (span_run front body loops view scalars) t
      (sym (all_split b front back cut (λ v. run_list body view (loops ++ v ∷ [])) (begin scalars)) ∙ e) in
      (p.0, p.1)

  back_runs : (t : Run) → span_run b body loops view scalars ≡ Some t →
      (r : Run) × (span_run back body loops view scalars ≡ Some r)
  back_runs t e =
      let p = then_parts (all_turns back (λ v. run_list body view (loops ++ v ∷ [])))
      (span_run front body loops view scalars) t
      (sym (all_split b front back cut (λ v. run_list body view (loops ++ v ∷ [])) (begin scalars)) ∙ e) in
      let q = done_alone view loops scalars bounded_view (small_list loops small) bounded (l.at front) (l.at back)
      are_apart p.0 (l.runs front view loops (begin scalars) ∙ p.1) t (l.runs back view loops p.0 ∙ p.2) in
      (q.0, sym (l.runs back view loops (begin scalars)) ∙ q.1)

  halves : Halves d body loops view scalars b front back
  halves = record {
    front_apart = front_apart (span_turns d front body loops) (span_turns d back body loops) both_apart;
    back_apart = back_apart (span_turns d front body loops) (span_turns d back body loops) both_apart;
    front_runs = front_runs;
    back_runs = back_runs;
    together = together;
  }

pub spans_are_the_loop : SpansAreTheLoop
spans_are_the_loop s whole body d loops view scalars b front back is contained small bounded_view bounded apart cut =
    halves body (looped s whole body is) d loops view scalars b front back contained small bounded_view bounded apart cut
