-- What is done on the host and one device, on all of them.
use Rattle.std.proofs.Common.{◌≡◌, ℕ, ◌<◌, ◌==◌, Bool, true, false, List, [], ◌⊎◌, inl, inr, length, Option, Some, None, refl, sym, ap, ◌∙◌, subst, eqb-true}
use Rattle.std.specs.Prelude.{slice_get, slice_set, not, ◌&&◌}
use Rattle.std.proofs.lemmas.Bool.{cases_Bool, cond-true, cond-false}
use mathlib.Core.Path.{fun_ext}
use Rattle.base.specs.declared.item.Cell.{Cell}
use Rattle.base.specs.declared.tree.Region.{Region}
use Rattle.base.specs.declared.fault.RefusalCode.{RefusalCode}
use Rattle.base.specs.Memory.{changed}
use Rattle.base.specs.Items.{Work}
use Rattle.base.specs.Footprint.{touches_of, writes}
use Rattle.base.specs.Actions.{acts_of, touches_in}
use Rattle.base.specs.Current.{Current, after_actions, after_stage, current_at, other_side}
use Rattle.base.specs.Accepted.{cause}
use Rattle.base.proofs.Places.{get_set_same, get_set_other}
use Rattle.mapwalk.specs.declared.marks.Marks.{Marks}
use Rattle.mapwalk.specs.declared.steps.DeviceState.{DeviceState}
use Rattle.mapwalk.specs.declared.steps.Step.{Step}
use Rattle.mapwalk.specs.declared.steps.Step.TheVariants.{Done, Refused}
use Rattle.mapwalk.specs.Current.{marks_in, with_cut}
use Rattle.mapwalk.specs.Sides.{shown_by}
use Rattle.mapwalk.specs.Acts.{acts_row}
use Rattle.mapwalk.specs.Table.{blocks_of}
use Rattle.mapwalk.specs.Steps.{IsDone, IsDoneHere, current_of, everywhere, marks_of, marks_on, spoiled, stage_of, table_in, tables_of}
use Rattle.mapwalk.proofs.Agreeing.{cause_here}
use Rattle.mapwalk.proofs.SideRows.{other_number}
use Rattle.mapwalk.proofs.Verdicts.{first_same}

-- one device has become another: what each number's device has of it
set_of : {A : Type 0} (f : Option DeviceState → A) (xs : List DeviceState) (d : ℕ) (y : DeviceState) → d < length xs → (e : ℕ) →
    f (slice_get (slice_set xs d y) e) ≡ changed d (f (Some y)) (λ k. f (slice_get xs k)) e
set_of f xs d y h e = go (cases_Bool (e == d))
  where
    go : ((e == d) ≡ true) ⊎ ((e == d) ≡ false) →
        f (slice_get (slice_set xs d y) e) ≡ changed d (f (Some y)) (λ k. f (slice_get xs k)) e
    go (inl t) =
        ap (λ k. f (slice_get (slice_set xs d y) k)) (eqb-true e d t)
        ∙ ap f (get_set_same xs d y h)
        ∙ sym (cond-true (e == d) (f (Some y)) (f (slice_get xs e)) t)
    go (inr n) =
        ap f (get_set_other xs d y e (other_number e d n))
        ∙ sym (cond-false (e == d) (f (Some y)) (f (slice_get xs e)) n)

-- no region writes no cell
no_writes : (w : Work) (side : Cell → Bool) → w.region ≡ None → side ≡ other_side (touches_in w) side
no_writes w side e = go w.region e
  where
    go : (o : Option Region) → o ≡ None → side ≡ other_side (elim o [ None ↦ [] | Some r ↦ touches_of r w.loops ]) side
    go None f = refl
    go (Some r) f = absurd cc

-- how what is current on the other devices has changed
pub data Others (w : Work) (cells : Cell → Bool) (before after : ℕ → Cell → Bool) : Type 0 where
  untouched : w.region ≡ None → after ≡ before → Others w cells before after
  cut : ((c : Cell) → cells c ≡ writes (touches_in w) c) → after ≡ spoiled w.device cells before → Others w cells before after

else_is : (w : Work) (cells : Cell → Bool) (before after : ℕ → Cell → Bool) → Others w cells before after → (e : ℕ) →
    (e == w.device) ≡ false → after e ≡ other_side (touches_in w) (before e)
else_is w cells before after (untouched none same) e n = ap (λ f. f e) same ∙ no_writes w (before e) none
else_is w cells before after (cut are same) e n =
    ap (λ f. f e) same
    ∙ cond-false (e == w.device) (before e) (with_cut cells (before e)) n
    ∙ fun_ext (λ (c : Cell). ap (λ b. not b && before e c) (are c))

own_is : (w : Work) (cells : Cell → Bool) (before after : ℕ → Cell → Bool) → Others w cells before after → (e : ℕ) →
    (e == w.device) ≡ true → after e ≡ before e
own_is w cells before after (untouched none same) e t = ap (λ f. f e) same
own_is w cells before after (cut are same) e t =
    ap (λ f. f e) same ∙ cond-true (e == w.device) (before e) (with_cut cells (before e)) t

module _ (w : Work) (host next : List Marks) (xs ys : List DeviceState) (x y : DeviceState) (cells : Cell → Bool)
    (at : slice_get xs w.device ≡ Some x) (inside : w.device < length xs)
    (tables : tables_of ys ≡ tables_of (slice_set xs w.device y))
    (others : Others w cells (marks_of (slice_set xs w.device y)) (marks_of ys)) where
  own_current : current_at w.device (current_of host xs) ≡ shown_by host x.current.items
  own_current = ap (λ (o : Option DeviceState). record { host = marks_in host; device = marks_on o }) at

  own_table : tables_of xs w.device ≡ blocks_of x.blocks
  own_table = ap table_in at

  clean_all : (code : RefusalCode) (c : Cell) →
      cause code (stage_of w (tables_of xs w.device)) (current_of host xs) c
      ≡ cause code (stage_of w (blocks_of x.blocks)) (everywhere (shown_by host x.current.items)) c
  clean_all code c =
      cause_here (stage_of w (tables_of xs w.device)) (current_of host xs) code c
      ∙ (λ i. cause code (stage_of w (own_table i)) (everywhere (own_current i)) c)

  tables_after : blocks_of y.blocks ≡ (acts_of w (blocks_of x.blocks)).blocks →
      tables_of ys ≡ changed w.device (acts_of w (tables_of xs w.device)).blocks (tables_of xs)
  tables_after e =
      tables
      ∙ fun_ext (λ (n : ℕ). set_of table_in xs w.device y inside n)
      ∙ ap (λ bs. changed w.device bs (tables_of xs))
      (e ∙ ap (λ bs. (acts_of w bs).blocks) (sym own_table))

  current_after : shown_by next y.current.items ≡ after_actions (acts_of w (blocks_of x.blocks)).actions (shown_by host x.current.items) →
      current_of next ys ≡ after_stage (stage_of w (tables_of xs w.device)) (current_of host xs)
  current_after e = λ i. record { host = hosts i; devices = devices i }
    where
      same : shown_by next y.current.items
          ≡ after_actions (acts_of w (tables_of xs w.device)).actions (current_at w.device (current_of host xs))
      same = e ∙ (λ i. after_actions (acts_of w (sym own_table i)).actions (sym own_current i))

      hosts : marks_in next ≡ (after_actions (acts_of w (tables_of xs w.device)).actions
          (current_at w.device (current_of host xs))).host
      hosts = ap (λ (c : Current). c.host) same

      devices : marks_of ys ≡ changed w.device (after_actions (acts_of w (tables_of xs w.device)).actions
          (current_at w.device (current_of host xs))).device (λ n. other_side (touches_in w) (marks_of xs n))
      devices = fun_ext (λ (n : ℕ). go n (cases_Bool (n == w.device)))
        where
          go : (n : ℕ) → ((n == w.device) ≡ true) ⊎ ((n == w.device) ≡ false) →
              marks_of ys n ≡ changed w.device (after_actions (acts_of w (tables_of xs w.device)).actions
              (current_at w.device (current_of host xs))).device (λ n. other_side (touches_in w) (marks_of xs n)) n
          go n (inl t) =
              own_is w cells (marks_of (slice_set xs w.device y)) (marks_of ys) others n t
              ∙ set_of marks_on xs w.device y inside n
              ∙ cond-true (n == w.device) (marks_in y.current.items) (marks_of xs n) t
              ∙ ap (λ (c : Current). c.device) same
              ∙ sym (cond-true (n == w.device) _ (other_side (touches_in w) (marks_of xs n)) t)
          go n (inr f) =
              else_is w cells (marks_of (slice_set xs w.device y)) (marks_of ys) others n f
              ∙ ap (other_side (touches_in w)) (set_of marks_on xs w.device y inside n
              ∙ cond-false (n == w.device) (marks_in y.current.items) (marks_of xs n) f)
              ∙ sym (cond-false (n == w.device) _ (other_side (touches_in w) (marks_of xs n)) f)

  -- what comes of an item on its device comes of it on all
  pub lifted : (step : Step) →
      IsDoneHere w (blocks_of x.blocks) (blocks_of y.blocks) (shown_by host x.current.items) (shown_by next y.current.items) step →
      IsDone w (tables_of xs) (tables_of ys) (current_of host xs) (current_of next ys) step
  lifted (Done row) h =
      record {
        clean = λ code c. clean_all code c ∙ h.clean code c;
        acts = h.acts ∙ ap (acts_row w) (sym own_table);
        tables_after = tables_after h.blocks_after;
        current = current_after h.current;
      }
  lifted (Refused z) h =
      first_same (λ code. cause code (stage_of w (blocks_of x.blocks)) (everywhere (shown_by host x.current.items)))
      (λ code. cause code (stage_of w (tables_of xs w.device)) (current_of host xs)) (Some z)
      (λ code c. sym (clean_all code c)) h

-- where the device is known by its number
pub lifted_at : (w : Work) (host next : List Marks) (xs ys : List DeviceState) (x y : DeviceState) (cells : Cell → Bool) (d : ℕ) →
    w.device ≡ d → slice_get xs d ≡ Some x → d < length xs → tables_of ys ≡ tables_of (slice_set xs d y) →
    Others w cells (marks_of (slice_set xs d y)) (marks_of ys) → (step : Step) →
    IsDoneHere w (blocks_of x.blocks) (blocks_of y.blocks) (shown_by host x.current.items) (shown_by next y.current.items) step →
    IsDone w (tables_of xs) (tables_of ys) (current_of host xs) (current_of next ys) step
lifted_at w host next xs ys x y cells d is =
    subst (λ n. slice_get xs n ≡ Some x → n < length xs → tables_of ys ≡ tables_of (slice_set xs n y) →
    Others w cells (marks_of (slice_set xs n y)) (marks_of ys) → (step : Step) →
    IsDoneHere w (blocks_of x.blocks) (blocks_of y.blocks) (shown_by host x.current.items) (shown_by next y.current.items) step →
    IsDone w (tables_of xs) (tables_of ys) (current_of host xs) (current_of next ys) step) is
    (λ at inside tables others step h. lifted w host next xs ys x y cells at inside tables others step h)
