-- Of an open item either an action or the close comes next.
use Rattle.std.proofs.Common.{◌≡◌, true, false, Option, Some, None}
use Rattle.std.specs.Prelude.{slice_get}
use Rattle.std.proofs.lemmas.Bool.{false≢true}
use Rattle.base.specs.Items.{Work}
use Rattle.fine_machine.specs.Left.{Finished, Asks}
use Rattle.fine_machine.specs.Machine.{Condition, Untouched, Generated, Opened, Closed, Passed, has_step, is_finished, OneEventNext}

one_next : (c : Condition) → has_step c ≡ true → is_finished c ≡ true → ⊥
one_next (Opened (Asks r k)) e f = false≢true f
one_next (Opened (Finished t)) e f = false≢true e
one_next Untouched e f = false≢true e
one_next (Generated captured) e f = false≢true e
one_next Closed e f = false≢true e
one_next Passed e f = false≢true e

pub one_event_next : OneEventNext
one_event_next plan s i = go (slice_get plan.items i)
  where
    go : (o : Option Work) → elim o [ None ↦ false | Some w ↦ has_step (s.condition i) ] ≡ true →
        elim o [ None ↦ false | Some w ↦ is_finished (s.condition i) ] ≡ true → ⊥
    go None e f = false≢true e
    go (Some w) e f = one_next (s.condition i) e f
