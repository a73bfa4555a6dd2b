use Rattle.std.proofs.Common.{codes}
use Rattle.clap.specs.Words.{found_of}
use Rattle.command.proofs.Entries.{flag_is}
use Rattle.command.proofs.words.step_of.Goals as goal

pub returns : goal.returns
returns c = record {
  file = c.text_of.ensures;
  choices = c.text_of-2.ensures;
  capacity = c.number_of.ensures 0 4294967296;
  fine = flag_is (found_of c.args.given.now) (codes "fine") c.get_flag.result c.get_flag.ensures.value c.get_flag.ensures.other;
  turns = c.text_of-3.ensures;
  maps = flag_is (found_of c.args.given.now) (codes "maps") c.get_flag-2.result c.get_flag-2.ensures.value c.get_flag-2.ensures.other;
  choice_runs = c.text_of-4.ensures;
}
