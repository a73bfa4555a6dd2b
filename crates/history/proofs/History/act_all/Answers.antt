use Rattle.std.proofs.Common.{arith, sym, ap, ◌∙◌, drop, get_or, ◌+◌}
use Rattle.history.specs.Moves.{acted, all_acted}
use Rattle.history.specs.Places.{shown}
use Rattle.history.proofs.Rows.{acted_end, acted_step, no_acts, no_item}
use Rattle.history.proofs.History.act_all.Goals as goal

pub maps-preserved : goal.maps-preserved
maps-preserved c =
    let few = c.maps-test.true in
    let least = c.min-i-end.ensures in
    record {
      shown =
          ap (λ q. all_acted c.args.part c.args.device c.args.self.now.cell (drop (c.maps.i + 1) c.args.maps.now) (drop (c.maps.i + 1) c.args.row.now) q)
          (c.in_ok-act.ensures.shown ∙ ap (λ x. acted c.args.part c.args.device x (get_or c.args.maps.now c.maps.i no_item).section (get_or c.args.row.now c.maps.i no_acts) (shown c.maps.self)) c.maps.invariant.cell)
          ∙ acted_step c.args.part c.args.device c.args.self.now.cell c.args.maps.now c.args.row.now c.maps.i (shown c.maps.self) no_item no_acts
          (omega (arith, few, least)) (omega (arith, few, least))
          ∙ c.maps.invariant.shown;
      since = λ past h. c.in_ok-act.ensures.since past (c.maps.invariant.since past h);
      cell = c.in_ok-act.ensures.cell ∙ c.maps.invariant.cell;
    }

pub returns-clause-shown : goal.returns-clause-shown
returns-clause-shown c =
    sym (acted_end c.args.part c.args.device c.args.self.now.cell c.args.maps.now c.args.row.now c.maps.i (shown c.maps.self) (omega arith)) ∙ c.maps.invariant.shown
