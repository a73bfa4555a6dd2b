use Rattle.std.proofs.Common.{◌≡◌, ◌<◌, length, arith}
use Rattle.std.specs.Prelude.{◌||◌}
use Rattle.ranges.specs.Cells.{has, is_among}
use Rattle.ranges.proofs.OpposedSets.{touched_more}
use Rattle.ranges.proofs.Outcomes.{mapped_ok}
use Rattle.ranges.proofs.met.Meetings.add.Goals as goal

pub returns : goal.returns
returns c =
    let m = c.args.self.now in
    let old = c.index_mut.result.now in
    let new = c.add.new.self in
    record {
      touched = mapped_ok c.add.result c.add.ensures.ok
          (λ (e : has new ≡ (λ d. has old d || is_among c.args.array c.args.cells d)).
          let inside : c.args.way < length m.touched.items = let each = m.each in let way = c.requires.way in omega (arith, each, way) in
          λ i. record {
            touched = λ k d. touched_more m.touched.items c.args.way old new (is_among c.args.array c.args.cells) inside
                c.index_mut.ensures.value e k d i;
            least = m.least;
          });
    }
