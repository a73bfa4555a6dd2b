use Rattle.std.proofs.Common.{sym}
use Rattle.c_constructs.proofs.Known.{array_known, array_boxed, array_scalar, array_loop, means_array, means_boxed}
use Rattle.c_constructs.proofs.names.array.Goals as goal

pub returns-in-Some-Array-clause-told : goal.returns-in-Some-Array-clause-told
returns-in-Some-Array-clause-told c = λ us.
    array_known c.args.scope.now c.args.name.now.column c.args.name.now.text.now c.in-Some-Array.field-0 _ us
    c.in-Some-Array.ensures.sort c.in-Some-Array.field-0-is

pub returns-in-Some-Array-clause-means : goal.returns-in-Some-Array-clause-means
returns-in-Some-Array-clause-means c =
    means_array _ c.in-Some-Array.field-0 _ (sym c.in-Some-Array.ensures.means) c.in-Some-Array.field-0-is

pub returns-in-Some-Boxed-clause-told : goal.returns-in-Some-Boxed-clause-told
returns-in-Some-Boxed-clause-told c = λ us.
    array_boxed c.args.scope.now c.args.name.now.column c.args.name.now.text.now c.in-Some-Boxed.field-0 _ _ us
    c.in-Some-Boxed.ensures.sort c.in-Some-Boxed.field-0-is

pub returns-in-Some-Boxed-clause-means : goal.returns-in-Some-Boxed-clause-means
returns-in-Some-Boxed-clause-means c =
    means_boxed _ c.in-Some-Boxed.field-0 _ _ (sym c.in-Some-Boxed.ensures.means) c.in-Some-Boxed.field-0-is

pub returns-in-Some-Scalar-clause-told : goal.returns-in-Some-Scalar-clause-told
returns-in-Some-Scalar-clause-told c = λ us.
    array_scalar c.args.scope.now c.args.name.now.column c.args.name.now.text.now c.in-Some-Scalar.field-0 _ _ us
    c.in-Some-Scalar.ensures.sort c.in-Some-Scalar.field-0-is

pub returns-in-Some-Loop-clause-told : goal.returns-in-Some-Loop-clause-told
returns-in-Some-Loop-clause-told c = λ us.
    array_loop c.args.scope.now c.args.name.now.column c.args.name.now.text.now c.in-Some-Loop.field-0 _ us
    c.in-Some-Loop.ensures.sort c.in-Some-Loop.field-0-is
