use Rattle.std.proofs.Common.{◌≡◌}
use Rattle.std.specs.Prelude.{◌&&◌, ◌||◌}
use Rattle.ranges.specs.Cells.{has}
use Rattle.ranges.specs.Slides.{is_in_turn}
use Rattle.ranges.specs.Seen.{seen_in}
use Rattle.ranges.proofs.Known.{known_sure, sure_same}
use Rattle.ranges.proofs.Outcomes.{mapped_ok}
use Rattle.ranges.proofs.state.Walk.write_turns.Goals as goal

pub returns : goal.returns
returns c =
    let w = c.args.self.now in
    mapped_ok c.add_turns.result c.add_turns.ensures.ok
    (λ (e : has c.add_turns.new.self ≡ (λ d. has w.found.write d || is_in_turn c.args.array c.args.cells d)).
    λ i. record (seen_in w) { write = e i; sure = c.in_ok-add_turns_if.ensures.ok i })

pub invariant_of-self : goal.invariant_of-self
invariant_of-self c =
    let w = c.args.self.now in
    let f = w.found in
    record {
      known = sure_same (has f.exposed) (has f.read) (has f.sure) (has c.add_turns_if.new.self) w.known
          c.in_err-add_turns_if.ensures.err;
    }

pub invariant_of-self-2 : goal.invariant_of-self-2
invariant_of-self-2 c =
    let w = c.args.self.now in
    let f = w.found in
    record {
      known = known_sure (has f.exposed) (has f.read) (has f.sure) (has c.add_turns_if.new.self)
          (λ d. c.args.certain && is_in_turn c.args.array c.args.cells d) w.known c.in_ok-add_turns_if.ensures.ok;
    }
