use Rattle.std.proofs.Common.{subst, sym}
use Rattle.std.specs.Str.Parse.{ExplainsUnsignedError, HasUnsignedDigitsIfOk, ParsesUnsigned}
use Rattle.clap.specs.Words.{found_of, one_of, rows_of}
use Rattle.command.specs.CommandLine.{IsNumber}
use Rattle.command.proofs.Entries.{number_is}
use Rattle.command.proofs.words.number_of.Goals as goal

pub returns : goal.returns
returns c = λ least most.
    subst (λ n. IsNumber least most c.args.default (one_of c.args.id.now (rows_of (found_of c.args.given.now))) n) (sym c.unwrap_or.ensures)
    (number_is (λ bs r. ParsesUnsigned 64 10 bs r × ExplainsUnsignedError 10 bs r × HasUnsignedDigitsIfOk bs r) (found_of c.args.given.now)
    c.args.id.now least most c.args.default c.get_one.result (λ u x h. h.0) c.get_one.ensures.none c.get_one.ensures.value)
