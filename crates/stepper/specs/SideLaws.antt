-- Runs keep the laws of machines, as the fine-grained machine does.
use Rattle.std.proofs.Common.{ℕ, zero, suc, List, [], ◌∷◌, ◌++◌, Option, Some, refl, sym, ap, ◌∙◌, subst}
use Rattle.base.specs.declared.item.Event.{Event}
use Rattle.base.specs.Items.{Plan, plan}
use Rattle.headline.proofs.LawfulItems.{is_start}
use Rattle.machine.specs.Board.{Move}
use Rattle.machine.specs.Machine.{Does, DoesItem, Finishes, GeneratesAndFinishes, InOrder, InOwnTurn, Laws, OpensAndFinishes, Runs, StepLaws}
use Rattle.fine_headline.specs.FineState.{IsStart, event_of, next, parts}
use Rattle.fine_headline.proofs.AllLaws.{laws as fine_laws}
use Rattle.stepper.specs.Leading.{at_first, leads, same_plan}
use Rattle.stepper.specs.Run.{IsBegun, Run, fill_in, fine_of, with_last}
use Rattle.stepper.specs.Sides.{run_parts}

begins : (r : Run) → IsBegun r → IsStart (fine_of r)
begins r h =
    subst IsStart (sym (at_first r h.history h.going))
    (record {
      lawful = (is_start r.program h.accepted r.input (fill_in r) h.numbers (λ i c. h.fresh)).lawful;
      fill = λ i c. h.fresh;
      input = r.input;
      numbers = h.numbers;
      state = refl;
      entered = refl;
      sound = refl;
    })

-- a step of a run is one of the fine-grained machine

does : (r t : Run) (m : Move) → Does run_parts r m t → Does parts (fine_of r) m (fine_of t)
does r t m d = record {
  enabled = d.enabled.1;
  step = leads r t (event_of (plan r.program) m) d.step
      ∙ ap (λ (p : Plan). next (fine_of r) (event_of p m)) (sym (same_plan r));
}

finishes : (i k : ℕ) (r t : Run) → Finishes run_parts i k r t → Finishes parts i k (fine_of r) (fine_of t)
finishes i zero r t d = does r t _ d
finishes i (suc k) r t d = (fine_of d.0, does r d.0 _ d.1, finishes i k d.0 t d.2)

opens : (i : ℕ) (r t : Run) → OpensAndFinishes run_parts i r t → OpensAndFinishes parts i (fine_of r) (fine_of t)
opens i r t d = (fine_of d.0, d.1, does r d.0 _ d.2, finishes i d.1 d.0 t d.3)

generates : (i : ℕ) (r t : Run) → GeneratesAndFinishes run_parts i r t →
    GeneratesAndFinishes parts i (fine_of r) (fine_of t)
generates i r t d = (fine_of d.0, does r d.0 _ d.1, opens i d.0 t d.2)

item_done : (r t : Run) (p : _) (i : ℕ) → DoesItem run_parts p i r t → DoesItem parts p i (fine_of r) (fine_of t)
item_done r t p i d = record {
  waits = λ e. does r t _ (d.waits e);
  here = λ e f. opens i r t (d.here e f);
  deferred = λ e f. generates i r t (d.deferred e f);
}

runs : (es : List Move) (r t : Run) → Runs run_parts r es t → Runs parts (fine_of r) es (fine_of t)
runs [] r t d = ap fine_of d
runs (e ∷ es) r t d = (fine_of d.0, does r d.0 e d.1, runs es d.0 t d.2)

own_turn : (first : Run) (i : ℕ) (t : Run) → InOwnTurn run_parts first i t →
    InOwnTurn parts (fine_of first) i (fine_of t)
own_turn first i t x = record {
  after = λ k. fine_of (x.after k);
  begins = ap fine_of x.begins;
  each = λ k lt. item_done (x.after k) (x.after _) _ k (x.each k lt);
  so_far = x.so_far;
  own = x.own;
  run = runs x.so_far (x.after i) t x.run;
}

in_order : (first : Run) (e : Move) (s t : Run) → InOrder run_parts first e s t →
    InOrder parts (fine_of first) e (fine_of s) (fine_of t)
in_order first e s t o = record {
  starts = begins first o.starts;
  turn = own_turn first _ t o.turn;
  turn_valid = o.turn_valid;
  turn_only = o.turn_only;
  turn_fixed = o.turn_fixed;
  valid = o.valid;
  fixed = o.fixed;
  alike = record { own = o.alike.own; host = o.alike.host; values = o.alike.values; failed = o.alike.failed };
  alone = o.alone;
}

outcome : (r : Run) (m : Move) → run_parts.enabled r m → (t : Run) × run_parts.step r m t
outcome r m may =
    let e = event_of (plan r.program) m in (
      record r { stopped = Some e },
      record {
        program = refl;
        input = refl;
        capacity = refl;
        order = refl;
        fresh = refl;
        events = ap (λ (o : Option Event). with_last r.history o ++ e ∷ []) (sym may.0);
      },
    )

steps : StepLaws run_parts
steps = record {
  starts_valid = λ r h. fine_laws.starts_valid (fine_of r) (begins r h);
  starts_fresh = λ r h. fine_laws.starts_fresh (fine_of r) (begins r h);
  starts_plan = λ r h. fine_laws.starts_plan (fine_of r) (begins r h);
  starts_sound = λ r h. fine_laws.starts_sound (fine_of r) (begins r h);
  allows = λ r e v may. fine_laws.allows (fine_of r) e v may.1;
  sound = λ r e v may. fine_laws.sound (fine_of r) e v may.1;
  outcome = λ r e v may. outcome r e may;
  stays_valid = λ r e t v d. fine_laws.stays_valid (fine_of r) e (fine_of t) v (does r t e d);
  keeps_fixed = λ r e t v d. fine_laws.keeps_fixed (fine_of r) e (fine_of t) v (does r t e d);
  moves = λ r e t v d. fine_laws.moves (fine_of r) e (fine_of t) v (does r t e d);
  one_next = λ r t i v w fixed own may may'.
      fine_laws.one_next (fine_of r) (fine_of t) i v w fixed own may.1 may'.1;
}

pub laws : Laws run_parts
laws = record {
  steps = steps;
  changes = λ first s t s' t' e o d d' sound.
      let c = fine_laws.changes (fine_of first) (fine_of s) (fine_of t) (fine_of s') (fine_of t') e
      (in_order first e s t o) (does s s' e d) (does t t' e d') sound in
      record { own = c.own; host = c.host; values = c.values };
  follows = λ first s t s' t' e o d d' sound.
      let a = fine_laws.follows (fine_of first) (fine_of s) (fine_of t) (fine_of s') (fine_of t') e
      (in_order first e s t o) (does s s' e d) (does t t' e d') sound in
      record { own = a.own; host = a.host; values = a.values; failed = a.failed };
}
