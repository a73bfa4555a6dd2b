use Rattle.std.proofs.Common.{◌≡◌, None, List, Option, OnOk, ◌∙◌, subst}
use Rattle.ranges.specs.declared.cells.Footprint.{Footprint}
use Rattle.mapwalk.specs.Found.{all_found}
use Rattle.mapwalk.proofs.Sharing.{own_told}
use Rattle.mapwalk.proofs.found.Footprints.push_own.Goals as goal

pub returns : goal.returns
returns c = record {
  pushed = subst (λ (xs : List (Option Footprint)). OnOk c.push_number.result (all_found c.push_number.new.self ≡ xs))
      (own_told None c.args.self.now.distinct.items c.push.new.self.items c.args.self.now.numbers.items c.len-number.result
      c.args.found c.in_ok-push.ensures.items (c.len-number.ensures ∙ c.args.self.now.distinct.ok.0)
      c.args.self.now.inside)
      c.push_number.ensures.pushed;
}
