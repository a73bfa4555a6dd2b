use Rattle.c_constructs.proofs.Known.{loop_known, loop_boxed, loop_scalar, loop_array}
use Rattle.c_constructs.proofs.names.loop_level.Goals as goal

pub returns-in-Some-Loop-clause-told : goal.returns-in-Some-Loop-clause-told
returns-in-Some-Loop-clause-told c = λ us.
    loop_known c.args.scope.now c.args.name.now.column c.args.name.now.text.now c.in-Some-Loop.field-0 _ us
    c.in-Some-Loop.ensures.sort c.in-Some-Loop.field-0-is

pub returns-in-Some-Scalar-clause-told : goal.returns-in-Some-Scalar-clause-told
returns-in-Some-Scalar-clause-told c = λ us.
    loop_scalar c.args.scope.now c.args.name.now.column c.args.name.now.text.now c.in-Some-Scalar.field-0 _ _ us
    c.in-Some-Scalar.ensures.sort c.in-Some-Scalar.field-0-is

pub returns-in-Some-Boxed-clause-told : goal.returns-in-Some-Boxed-clause-told
returns-in-Some-Boxed-clause-told c = λ us.
    loop_boxed c.args.scope.now c.args.name.now.column c.args.name.now.text.now c.in-Some-Boxed.field-0 _ _ us
    c.in-Some-Boxed.ensures.sort c.in-Some-Boxed.field-0-is

pub returns-in-Some-Array-clause-told : goal.returns-in-Some-Array-clause-told
returns-in-Some-Array-clause-told c = λ us.
    loop_array c.args.scope.now c.args.name.now.column c.args.name.now.text.now c.in-Some-Array.field-0 _ us
    c.in-Some-Array.ensures.sort c.in-Some-Array.field-0-is
