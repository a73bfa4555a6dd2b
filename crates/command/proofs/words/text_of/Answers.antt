use Rattle.std.proofs.Common.{◌∙◌, ap, [], sym, option_map}
use Rattle.std.specs.Prelude.{unwrap_or}
use Rattle.clap.specs.Words.{found_of}
use Rattle.command.proofs.Entries.{text_is}
use Rattle.command.proofs.words.text_of.Goals as goal

pub returns-in-Some : goal.returns-in-Some
returns-in-Some c =
    ap (λ r. unwrap_or (option_map (λ s. s.now) r) []) (sym c.in-Some.is) ∙ text_is (found_of c.args.step.now) c.args.id.now c.get_str.result c.get_str.ensures

pub returns-in-None : goal.returns-in-None
returns-in-None c =
    ap (λ r. unwrap_or (option_map (λ s. s.now) r) []) (sym c.in-None.is) ∙ text_is (found_of c.args.step.now) c.args.id.now c.get_str.result c.get_str.ensures
