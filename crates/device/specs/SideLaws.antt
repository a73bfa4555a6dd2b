-- Runs keep the laws of machines, as the two-memory machine does.
use Rattle.std.proofs.Common.{◌≡◌, ℕ, zero, suc, true, false, List, [], ◌∷◌, Option, Some, None, refl, sym, ap, ◌∙◌, subst}
use Rattle.base.specs.declared.item.Event.{Event}
use Rattle.base.specs.Items.{plan}
use Rattle.base.specs.Machine.{State, RunFrom, enabled, start}
use Rattle.headline.proofs.LawfulItems.{is_start}
use Rattle.machine.specs.Board.{Move}
use Rattle.machine.specs.Machine.{Does, DoesItem, Finishes, GeneratesAndFinishes, InOrder, InOwnTurn, Laws, OpensAndFinishes, Runs, StepLaws}
use Rattle.two_memories.specs.Two.{IsStart, IsValid, event_of, on_event, next, parts, result_of}
use Rattle.two_memories.proofs.Lawful.{lawful}
use Rattle.device.specs.Run.{Run, after, fill_in, state_of}
use Rattle.device.specs.Running.{IsReached}
use Rattle.device.specs.Sides.{IsBegun, Steps, run_parts, two_of}
use Rattle.device.specs.Taking.{Takes}
use Rattle.device.specs.Leading.{is_after, leads_to, next as next_event, reached_next, takes}
use Rattle.device.specs.Valid.{valid}

is_valid : (r : Run) → IsReached r → IsValid (two_of r)
is_valid r h = valid r.program h.accepted (fill_in r) (λ i c. h.fresh) r.input h.numbers r.history (state_of r) h.ran

begins : (r : Run) → IsBegun r → IsStart (two_of r)
begins r h =
    subst (λ (s : State). IsStart (record { fixed = record { plan = plan r.program; fill = fill_in r }; state = s; failed = false }))
    (sym (leads_to r (start r.input)
    (subst (λ (es : List Event). RunFrom (plan r.program) (fill_in r) r.input es (Some (start r.input))) (sym h.history) refl)))
    (is_start r.program h.reached.accepted r.input (fill_in r) h.reached.numbers (λ i c. h.reached.fresh))

-- a step of a run is one of the two-memory machine

stepped : (r t : Run) (e : Event) → Takes r e t → two_of t ≡ next (two_of r) e
stepped r t e h =
    (λ i. record { fixed = record { plan = plan (h.program i); fill = λ j c. h.fresh i }; state = state_of t; failed = false })
    ∙ sym (ap (result_of (two_of r) e) h.stepped)

does : (r t : Run) (m : Move) → Does run_parts r m t → Does parts (two_of r) m (two_of t)
does r t m d = record { enabled = d.enabled; step = go (event_of (plan r.program) m) d.step }
  where
    go : (o : Option Event) → Steps r o t → two_of t ≡ on_event o (two_of r) (next (two_of r))
    go None k = absurd k
    go (Some e) k = stepped r t e k

finishes : (i k : ℕ) (r t : Run) → Finishes run_parts i k r t → Finishes parts i k (two_of r) (two_of t)
finishes i zero r t d = does r t _ d
finishes i (suc k) r t d = (two_of d.0, does r d.0 _ d.1, finishes i k d.0 t d.2)

opens : (i : ℕ) (r t : Run) → OpensAndFinishes run_parts i r t → OpensAndFinishes parts i (two_of r) (two_of t)
opens i r t d = (two_of d.0, d.1, does r d.0 _ d.2, finishes i d.1 d.0 t d.3)

generates : (i : ℕ) (r t : Run) → GeneratesAndFinishes run_parts i r t → GeneratesAndFinishes parts i (two_of r) (two_of t)
generates i r t d = (two_of d.0, does r d.0 _ d.1, opens i d.0 t d.2)

item_done : (r t : Run) (p : _) (i : ℕ) → DoesItem run_parts p i r t → DoesItem parts p i (two_of r) (two_of t)
item_done r t p i d = record {
  waits = λ e. does r t _ (d.waits e);
  here = λ e f. opens i r t (d.here e f);
  deferred = λ e f. generates i r t (d.deferred e f);
}

runs : (es : List Move) (r t : Run) → Runs run_parts r es t → Runs parts (two_of r) es (two_of t)
runs [] r t d = ap two_of d
runs (e ∷ es) r t d = (two_of d.0, does r d.0 e d.1, runs es d.0 t d.2)

own_turn : (begun : Run) (i : ℕ) (t : Run) → InOwnTurn run_parts begun i t → InOwnTurn parts (two_of begun) i (two_of t)
own_turn begun i t x = record {
  after = λ k. two_of (x.after k);
  begins = ap two_of x.begins;
  each = λ k lt. item_done (x.after k) (x.after _) _ k (x.each k lt);
  so_far = x.so_far;
  own = x.own;
  run = runs x.so_far (x.after i) t x.run;
}

in_order : (begun : Run) (e : Move) (s t : Run) → InOrder run_parts begun e s t → InOrder parts (two_of begun) e (two_of s) (two_of t)
in_order begun e s t o = record {
  starts = begins begun o.starts;
  turn = own_turn begun _ t o.turn;
  turn_valid = is_valid t o.turn_valid;
  turn_only = o.turn_only;
  turn_fixed = o.turn_fixed;
  valid = is_valid s o.valid;
  fixed = o.fixed;
  alike = record { own = o.alike.own; host = o.alike.host; values = o.alike.values; failed = o.alike.failed };
  alone = o.alone;
}

-- where a step leads

outcome : (r : Run) (m : Move) → IsReached r → run_parts.enabled r m → (t : Run) × run_parts.step r m t
outcome r m h may = go (event_of (plan r.program) m) may.enabled
  where
    go : (o : Option Event) → on_event o false (enabled (plan r.program) (state_of r)) ≡ true → (t : Run) × Steps r o t
    go None k = absurd cc
    go (Some e) k = (after r e, takes r (after r e) e h k (is_after r (after r e) e refl))

stays : (r t : Run) (m : Move) → IsReached r → Does run_parts r m t → IsReached t
stays r t m h d = go (event_of (plan r.program) m) d.enabled.enabled d.step
  where
    go : (o : Option Event) → on_event o false (enabled (plan r.program) (state_of r)) ≡ true → Steps r o t → IsReached t
    go None k s = absurd s
    go (Some e) k s = (reached_next r t e h (next_event r e h k) s.program s.input s.fresh s.history).0

steps : StepLaws run_parts
steps = record {
  starts_valid = λ r h. h.reached;
  starts_fresh = λ r h. lawful.starts_fresh (two_of r) (begins r h);
  starts_plan = λ r h. lawful.starts_plan (two_of r) (begins r h);
  starts_sound = λ r h. refl;
  allows = λ r e v may. lawful.allows (two_of r) e (is_valid r v) may;
  sound = λ r e v may. refl;
  outcome = outcome;
  stays_valid = λ r e t v d. stays r t e v d;
  keeps_fixed = λ r e t v d. lawful.keeps_fixed (two_of r) e (two_of t) (is_valid r v) (does r t e d);
  moves = λ r e t v d. lawful.moves (two_of r) e (two_of t) (is_valid r v) (does r t e d);
  one_next = λ r t i v w fixed own may may'. lawful.one_next (two_of r) (two_of t) i (is_valid r v) (is_valid t w) fixed own may may';
}

pub laws : Laws run_parts
laws = record {
  steps = steps;
  changes = λ begun s t s' t' e o d d' sound.
      let c = lawful.changes (two_of begun) (two_of s) (two_of t) (two_of s') (two_of t') e (in_order begun e s t o) (does s s' e d)
      (does t t' e d') sound in
      record { own = c.own; host = c.host; values = c.values };
  follows = λ begun s t s' t' e o d d' sound.
      let a = lawful.follows (two_of begun) (two_of s) (two_of t) (two_of s') (two_of t') e (in_order begun e s t o) (does s s' e d)
      (does t t' e d') sound in
      record { own = a.own; host = a.host; values = a.values; failed = a.failed };
}
