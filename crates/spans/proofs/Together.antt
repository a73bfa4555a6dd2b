-- A statement behind another one that stores nothing which it reads, and assigns no scalar that it needs, does what it does
-- from where the first one begins.
use Rattle.std.proofs.Common.{◌≡◌, ℕ, Bool, true, false, List, [], ◌∷◌, ◌++◌, Option, Some, None, refl, sym, ◌∙◌, ap, append-nil, ◌<◌, ◌^◌, ◌==◌, eqb-true}
use Rattle.std.specs.Prelude.{not, option_map, unwrap_or, if◌then◌else◌}
use Rattle.std.specs.List.{list_any}
use Rattle.std.proofs.lemmas.Bool.{false≢true, and_parts}
use Rattle.std.proofs.lemmas.Option.{none-some}
use mathlib.Core.Path.{fun_ext}
use Rattle.base.specs.declared.item.Cell.{Cell}
use Rattle.base.specs.declared.tree.Stmt.{Stmt}
use Rattle.base.specs.Memory.{View, Scalars, Stores, last_stored, same_cell}
use Rattle.base.specs.Meaning.{Run, seen, run_stmt}
use Rattle.base.specs.Footprint.{Touch, reads, writes, stmt_touches}
use Rattle.base.specs.ScalarUse.{stmt_assigned, stmt_needs}
use Rattle.regions.specs.Footprints.{BoundedScalars, StoresIn}
use Rattle.regions.proofs.Needs.{Every}
use Rattle.regions.proofs.StatementsDone.{AllSmall, SmallView, Fine}
use Rattle.regions.proofs.StatementOutcomes.{whether, Met, Sound, Outcome}
use Rattle.regions.proofs.FootprintsHold.{all_met, stmt_outcome}
use Rattle.spans.specs.Spans.{begin, joined, sure_by}
use Rattle.spans.proofs.Known.{map_parts}
use Rattle.spans.proofs.Shifts.{behind, stmt_shifted}
use Rattle.spans.proofs.ScalarNeeds.{Beside, Follows}
use Rattle.spans.proofs.ScalarTurns.{stmt_beside}
use Rattle.spans.proofs.Unassigned.{Leaves, stmt_leaves}

same_cell_is : (c d : Cell) → same_cell c d ≡ true → c ≡ d
same_cell_is c d e =
    let p = and_parts (c.array.0 == d.array.0) (c.index == d.index) e in
    let a = eqb-true c.array.0 d.array.0 p.0 in
    let b = eqb-true c.index d.index p.1 in
    λ i. record { array = record { 0 = a i }; index = b i }

-- where nothing is stored nothing is found
not_stored : (p : Cell → Bool) (st : Stores) (c : Cell) → p c ≡ false → StoresIn p st → last_stored st c ≡ None
not_stored p [] c h k = refl
not_stored p (x ∷ st) c h k =
    ap (λ (o : Option ℕ). elim o [ Some v ↦ Some v | None ↦ if same_cell x.0 c then Some x.1 else None ])
    (not_stored p st c h k.rest) ∙ go (same_cell x.0 c) refl
  where
    go : (b : Bool) → same_cell x.0 c ≡ b → (if b then Some x.1 else None) ≡ None
    go false e = refl
    go true e = absurd (false≢true (sym h ∙ (ap p (sym (same_cell_is x.0 c e)) ∙ k.here)))

seen_old : (view : View) (st : Stores) (c : Cell) → last_stored st c ≡ None → seen view st c ≡ view c
seen_old view st c e = ap (λ l. option_map (λ old. unwrap_or l old) (view c)) e ∙ go (view c)
  where
    go : (o : Option ℕ) → option_map (λ old. old) o ≡ o
    go None = refl
    go (Some v) = refl

seen_there : (view : View) (st : Stores) (c : Cell) → whether (seen view st c) ≡ whether (view c)
seen_there view st c = go (view c)
  where
    go : (o : Option ℕ) → whether (option_map (λ old. unwrap_or (last_stored st c) old) o) ≡ whether o
    go None = refl
    go (Some v) = refl

seen_small : (view : View) (st : Stores) → SmallView view → SmallView (last_stored st) → SmallView (seen view st)
seen_small view st h k c n e = go (view c) (last_stored st c) (h c) (k c) e
  where
    go : (o l : Option ℕ) → ((m : ℕ) → o ≡ Some m → m < 2 ^ 64) → ((m : ℕ) → l ≡ Some m → m < 2 ^ 64) →
        option_map (λ old. unwrap_or l old) o ≡ Some n → n < 2 ^ 64
    go None l f g i = absurd (none-some n i)
    go (Some x) None f g i = f n i
    go (Some x) (Some y) f g i = g n i

-- what two statements that are apart leave, done one behind the other
abbrev pub both : Run → Run → Run
both r t = behind r.stores r.printed t

-- the second one may be done from where the first one begins
pub record IsApart (loops : List ℕ) (first second : Stmt) : Type 0 where
  pub cells : (c : Cell) → reads (stmt_touches second loops true) c ≡ true →
      writes (stmt_touches first loops true) c ≡ false
  pub needed : list_any (λ x. stmt_needs x second) (stmt_assigned first) ≡ false
  pub settled : list_any (λ x. not (sure_by x second)) (stmt_assigned first) ≡ false

module _ (view : View) (loops : List ℕ) (scalars : Scalars) (small : SmallView view) (smalls : AllSmall loops)
    (bounded : BoundedScalars scalars) (first second : Stmt) (apart : IsApart loops first second) (r : Run)
    (is : run_stmt first view loops (begin scalars) ≡ Some r) where
  abbrev begins : Run
  begins = begin scalars

  fine_begin : Fine begins
  fine_begin = record { scalars = bounded; input = tt; stores = λ c n e. absurd (none-some n e) }

  left : Sound view view (writes (stmt_touches first loops true)) r
  left =
      (stmt_outcome view view (writes (stmt_touches first loops true)) small first loops true smalls begins
      (record { fine = fine_begin; within = tt })
      (all_met view view (writes (stmt_touches first loops true)) (stmt_touches first loops true) (λ c h. refl)
      (λ c h. refl) (λ c h. h))).sound r is

  -- where the first one ends, with nothing stored as yet
  abbrev bare : Run
  bare = record { scalars = r.scalars; stores = []; input = r.input; printed = [] }

  needs_leave : Leaves view (λ x. stmt_needs x second) begins r
  needs_leave = stmt_leaves view (λ x. stmt_needs x second) first loops begins r apart.needed is

  others_leave : Leaves view (λ x. not (sure_by x second)) begins r
  others_leave = stmt_leaves view (λ x. not (sure_by x second)) first loops begins r apart.settled is

  no_input : r.input ≡ []
  no_input = needs_leave.input refl

  r_is : behind r.stores r.printed bare ≡ r
  r_is = λ i. record r { stores = append-nil r.stores i; printed = append-nil r.printed i }

  untouched : (c : Cell) → reads (stmt_touches second loops true) c ≡ true → seen view r.stores c ≡ view c
  untouched c h =
      seen_old view r.stores c (not_stored (writes (stmt_touches first loops true)) r.stores c (apart.cells c h) left.within)

  seen_is_small : SmallView (seen view r.stores)
  seen_is_small = seen_small view r.stores small left.fine.stores

  same_here : run_stmt second (seen view r.stores) loops bare ≡ run_stmt second view loops bare
  same_here =
      (stmt_outcome (seen view r.stores) view (λ c. true) seen_is_small second loops true smalls bare
      (record {
        fine = record {
          scalars = left.fine.scalars;
          input = left.fine.input;
          stores = λ c n e. absurd (none-some n e);
        };
        within = tt;
      })
      (all_met (seen view r.stores) view (λ c. true) (stmt_touches second loops true) untouched
      (λ c h. seen_there view r.stores c) (λ c h. refl))).same

  -- from where the first one ends, and with nothing stored as yet
  shifted : run_stmt second view loops r ≡ option_map (behind r.stores r.printed) (run_stmt second view loops bare)
  shifted =
      ap (run_stmt second view loops) (sym r_is)
      ∙ stmt_shifted view r.stores r.printed second loops bare
      ∙ ap (option_map (behind r.stores r.printed)) same_here

  -- the second one behind the first
  pub done_after : (t : Run) → run_stmt second view loops begins ≡ Some t →
      run_stmt second view loops r ≡ Some (joined r t)
  done_after t e = shifted ∙ ap (option_map (behind r.stores r.printed)) (f.is ∙ ap Some end_is)
    where
      f : Follows begins bare t (λ x. sure_by x second) (run_stmt second view loops bare)
      f = stmt_beside view second loops begins bare t (record { stores = refl; input = no_input; printed = refl })
          (λ x h. needs_leave.scalars x h) e

      same_scalar : (x : ℕ) (b : Bool) → sure_by x second ≡ b → f.end.scalars x ≡ t.scalars x
      same_scalar x true h = f.alike x h
      same_scalar x false h = f.kept x (others_leave.scalars x (ap not h))

      end_is : f.end ≡ t
      end_is = λ i. record {
        scalars = fun_ext (λ x. same_scalar x (sure_by x second) refl) i;
        stores = f.beside.stores i;
        input = f.beside.input i;
        printed = f.beside.printed i;
      }

  -- where the second one comes to an end behind the first, it does so alone
  pub done_alone : (w : Run) → run_stmt second view loops r ≡ Some w →
      (t : Run) × (run_stmt second view loops begins ≡ Some t)
  done_alone w e =
      let p = map_parts (behind r.stores r.printed) (run_stmt second view loops bare) w (sym shifted ∙ e) in
      let f : Follows bare begins p.0 (λ x. sure_by x second) (run_stmt second view loops begins) =
      stmt_beside view second loops bare begins p.0
      (record { stores = refl; input = sym no_input; printed = refl })
      (λ x h. sym (needs_leave.scalars x h)) p.1 in (f.end, f.is)
