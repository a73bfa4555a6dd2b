use Rattle.std.proofs.Common.{codes}
use Rattle.clap.specs.Words.{found_of}
use Rattle.command.proofs.Entries.{flag_is}
use Rattle.command.proofs.words.run_of.Goals as goal

pub returns : goal.returns
returns c = record {
  file = c.text_of.ensures;
  workers = c.workers_of.ensures;
  capacity = c.number_of.ensures 0 4294967296;
  log = flag_is (found_of c.args.given.now) (codes "log") c.get_flag.result c.get_flag.ensures.value c.get_flag.ensures.other;
  maps = flag_is (found_of c.args.given.now) (codes "maps") c.get_flag-2.result c.get_flag-2.ensures.value c.get_flag-2.ensures.other;
  finals = flag_is (found_of c.args.given.now) (codes "finals") c.get_flag-3.result c.get_flag-3.ensures.value c.get_flag-3.ensures.other;
}
