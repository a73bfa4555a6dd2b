use Rattle.std.proofs.Common.{refl, arith}
use Rattle.frames.proofs.device.load_row.Goals as goal

pub returns-clause-loaded : goal.returns-clause-loaded
returns-clause-loaded c =
    let count = c.loaded.ensures.count in
    let room = c.requires.room in
    record {
      first = refl;
      begins = c.requires.first;
      count = count;
      fits = omega (arith, count, room);
      numbers = c.loaded.ensures.numbers;
      bounded = c.loaded.ensures.bounded;
    }
