use Rattle.std.proofs.Common.{arith}
use Rattle.std.specs.Prelude.{◌||◌}
use Rattle.std.specs.List.{list_any}
use Rattle.std.proofs.lemmas.Bool.{false_from_ne_true, or_from}
use Rattle.base.specs.Memory.{is_in}
use Rattle.bits.specs.Sets.{has}
use Rattle.mapwalk.proofs.Unmapped.{first_lacking, none_lacking, none_past, past_had}
use Rattle.mapwalk.proofs.causes.first_unmapped.Goals as goal

pub returns-in_default : goal.returns-in_default
returns-in_default c =
    none_lacking (λ j. has c.args.read.now j || has c.args.write.now j)
    (λ j. list_any (λ m. is_in (record { array = c.args.array; index = j }) m.section) c.args.maps.now) c.cells.from
    c.cells.invariant c.in_default.ensures

pub returns-in_default-mapped_end : goal.returns-in_default-mapped_end
returns-in_default-mapped_end c =
    first_lacking (λ j. has c.args.read.now j || has c.args.write.now j)
    (λ j. list_any (λ m. is_in (record { array = c.args.array; index = j }) m.section) c.args.maps.now) c.cells.from
    c.cells.invariant c.in-Some.i c.in-Some.ensures c.in_default-mapped_end.ensures.none

pub cells-preserved : goal.cells-preserved
cells-preserved c j l =
    past_had (λ k. has c.args.read.now k || has c.args.write.now k)
    (λ k. list_any (λ m. is_in (record { array = c.args.array; index = k }) m.section) c.args.maps.now) c.cells.from
    c.cells.invariant c.in-Some.i c.in-Some-mapped_end.behind c.in-Some.ensures c.in-Some-mapped_end.ensures.some.each j
    (let lower = c.min-from.ensures in omega (arith, lower, l))

pub returns : goal.returns
returns c =
    none_past (λ j. has c.args.read.now j || has c.args.write.now j)
    (λ j. list_any (λ m. is_in (record { array = c.args.array; index = j }) m.section) c.args.maps.now) c.cells.from
    c.cells.invariant
    (λ j l. or_from (has c.args.read.now j) (has c.args.write.now j)
    (false_from_ne_true (has c.args.read.now j) (λ t. omega (arith, c.end.ensures.below j t, l)))
    (false_from_ne_true (has c.args.write.now j) (λ t. omega (arith, c.end-2.ensures.below j t, l))))
