use Rattle.std.proofs.Common.{◌≡◌, sym, ◌∙◌}
use Rattle.std.specs.Prelude.{not, ◌&&◌, ◌||◌}
use Rattle.ranges.specs.Cells.{has, is_among}
use Rattle.ranges.specs.Seen.{seen_in}
use Rattle.ranges.proofs.Known.{known_same, known_exposed, known_read, read_same}
use Rattle.ranges.proofs.Noted.{read_noted}
use Rattle.ranges.proofs.Outcomes.{mapped_ok, either}
use Rattle.ranges.proofs.state.Walk.note_read.Goals as goal

pub returns : goal.returns
returns c =
    let w = c.args.self.now in
    mapped_ok c.add.result c.add.ensures.ok
    (λ (e : has c.add.new.self ≡ (λ d. has w.found.read d || is_among c.args.array c.args.cells d)).
    read_noted c.args.lengths.now c.args.array c.args.place c.args.cells (seen_in w) (has c.expose.new.self)
    (has c.add.new.self) (sym c.leaves.ensures ∙ c.if-leaves.false) c.in_ok-expose.ensures.ok e)

pub invariant_of-self-in-Break-1 : goal.invariant_of-self-in-Break-1
invariant_of-self-in-Break-1 c =
    let w = c.args.self.now in
    let f = w.found in
    record {
      known = known_same (has f.exposed) (has f.read) (has f.sure) (has c.expose.new.self) w.known
          c.in_err-expose.ensures.err;
    }

pub invariant_of-self-2 : goal.invariant_of-self-2
invariant_of-self-2 c =
    let w = c.args.self.now in
    let f = w.found in
    let among = is_among c.args.array c.args.cells in
    let new = has c.expose.new.self in
    let now = has c.add.new.self in
    record {
      known = either c.add.result c.add.ensures.ok c.add.ensures.err
          (λ (e : now ≡ (λ d. has f.read d || is_among c.args.array c.args.cells d)).
          known_read (has f.exposed) (has f.read) (has f.sure) new now among w.known c.in_ok-expose.ensures.ok e)
          (λ (e : now ≡ has f.read).
          read_same new (has f.read) (has f.sure) now
          (known_exposed (has f.exposed) (has f.read) (has f.sure) new
          (λ d. is_among c.args.array c.args.cells d && not (has f.sure d)) w.known c.in_ok-expose.ensures.ok) e);
    }
