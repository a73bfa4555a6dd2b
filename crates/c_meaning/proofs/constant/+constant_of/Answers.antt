use Rattle.c_meaning.specs.Values.{c_value}
use Rattle.c_meaning.proofs.constant.+constant_of.Goals as goal

pub returns-in-Binary-clause-value : goal.returns-in-Binary-clause-value
returns-in-Binary-clause-value t c =
    λ names. rw c.in-Binary.is
    (c.of_binary.ensures.value (c_value c.in-Binary.a.value names) (c_value c.in-Binary.b.value names)
    (rw c.deref-in-Binary.ensures at (c.constant_of-in-Binary.ensures.value names))
    (rw c.deref-in-Binary-2.ensures at (c.constant_of-in-Binary-2.ensures.value names)))
