use Rattle.std.proofs.Common.{◌≤◌, length, arith, subst}
use Rattle.c_grammar.specs.Program.{start}
use Rattle.c_grammar.specs.Rules.{begin}
use Rattle.c_grammar.specs.Source.{max_source}
use Rattle.c_source.specs.Source.{items_of}
use Rattle.c_expressions.specs.declared.fault.ReadError.{ReadError}
use Rattle.c_expressions.specs.Reading.{run, Failed}
use Rattle.c_read.proofs.Answered.{spells, no_text, is_first, is_none}
use Rattle.c_read.proofs.program.read_program.Goals as goal

pub returns-in-Err-Fault-clause-refused : goal.returns-in-Err-Fault-clause-refused
returns-in-Err-Fault-clause-refused c =
    let short : length c.args.bytes.now ≤ max_source = omega arith in
    is_none c.args.bytes.now c.in-Err-Fault.fault short
    (subst (λ (e : ReadError). Failed e (run begin start (items_of c.args.bytes.now))) c.in-Err-Fault.field-0-is c.in-Err-Fault.ensures.read)

pub returns-in-Ok-clause-found : goal.returns-in-Ok-clause-found
returns-in-Ok-clause-found c = grind (arith, spells)

pub returns-in-Err-Fault-clause-fault : goal.returns-in-Err-Fault-clause-fault
returns-in-Err-Fault-clause-fault c =
    let short : length c.args.bytes.now ≤ max_source = omega arith in
    is_first c.args.bytes.now c.in-Err-Fault.fault short
    (subst (λ (e : ReadError). Failed e (run begin start (items_of c.args.bytes.now))) c.in-Err-Fault.field-0-is c.in-Err-Fault.ensures.read)

pub returns-in-Err-Fault-clause-unspelled : goal.returns-in-Err-Fault-clause-unspelled
returns-in-Err-Fault-clause-unspelled c =
    let short : length c.args.bytes.now ≤ max_source = omega arith in
    no_text c.args.bytes.now c.in-Err-Fault.fault short
    (subst (λ (e : ReadError). Failed e (run begin start (items_of c.args.bytes.now))) c.in-Err-Fault.field-0-is c.in-Err-Fault.ensures.read)
