use Rattle.std.proofs.Common.{◌≡◌}
use Rattle.std.specs.Prelude.{not, ◌&&◌, ◌||◌}
use Rattle.ranges.specs.Cells.{has}
use Rattle.ranges.specs.Seen.{seen_in}
use Rattle.ranges.specs.Slides.{is_in_turn}
use Rattle.ranges.proofs.Known.{known_same, known_exposed, known_read, read_same}
use Rattle.ranges.proofs.Outcomes.{mapped_ok, either}
use Rattle.ranges.proofs.state.Walk.read_turns.Goals as goal

pub returns : goal.returns
returns c =
    let w = c.args.self.now in
    mapped_ok c.add_turns.result c.add_turns.ensures.ok
    (λ (e : has c.add_turns.new.self ≡ (λ d. has w.found.read d || is_in_turn c.args.array c.args.cells d)).
    λ i. record (seen_in w) { read = e i; exposed = c.in_ok-expose_turns.ensures.ok i })

pub invariant_of-self : goal.invariant_of-self
invariant_of-self c =
    let w = c.args.self.now in
    let f = w.found in
    record {
      known = known_same (has f.exposed) (has f.read) (has f.sure) (has c.expose_turns.new.self) w.known
          c.in_err-expose_turns.ensures.err;
    }

pub invariant_of-self-2 : goal.invariant_of-self-2
invariant_of-self-2 c =
    let w = c.args.self.now in
    let f = w.found in
    let among = is_in_turn c.args.array c.args.cells in
    let new = has c.expose_turns.new.self in
    let now = has c.add_turns.new.self in
    record {
      known = either c.add_turns.result c.add_turns.ensures.ok c.add_turns.ensures.err
          (λ (e : now ≡ (λ d. has f.read d || is_in_turn c.args.array c.args.cells d)).
          known_read (has f.exposed) (has f.read) (has f.sure) new now among w.known c.in_ok-expose_turns.ensures.ok e)
          (λ (e : now ≡ has f.read).
          read_same new (has f.read) (has f.sure) now
          (known_exposed (has f.exposed) (has f.read) (has f.sure) new
          (λ d. is_in_turn c.args.array c.args.cells d && not (has f.sure d)) w.known c.in_ok-expose_turns.ensures.ok) e);
    }
