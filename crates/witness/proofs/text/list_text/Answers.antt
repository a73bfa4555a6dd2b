use Rattle.std.proofs.Common.{[], ◌∷◌, refl}
use Rattle.witness.proofs.Told.{comma_ends, comma_more, front_all, front_more, front_none}
use Rattle.witness.proofs.text.list_text.Goals as goal

pub numbers-init : goal.numbers-init
unfolding lib.Utf8.encode
numbers-init g c = record { text = (32 ∷ [], (refl, refl)); front = front_none _ _ }

pub numbers-preserved : goal.numbers-preserved
unfolding lib.Utf8.encode
numbers-preserved g c = record {
  text = (44 ∷ [], (refl, refl));
  front = front_more _ _ _ _ _ _ _ c.numbers.invariant.front
      (comma_more c.numbers.before.now c.args.list.now c.numbers.number-index c.numbers-test.true) c.in_ok-write.ensures.bytes;
}

pub returns : goal.returns
returns g c =
    front_all _ _ _ _ c.numbers.invariant.front
    (comma_ends c.numbers.before.now c.args.list.now c.numbers.number-index c.numbers-test.false)
