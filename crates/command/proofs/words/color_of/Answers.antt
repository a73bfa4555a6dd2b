use Rattle.std.proofs.Common.{◌≡◌, ◌∙◌, ap, Option, Some, sym, codes, option_map}
use Rattle.std.specs.Option.{option_map_or}
use Rattle.clap.specs.Words.{found_of, rows_of}
use Rattle.clap.specs.Walk.{Text, first_of}
use Rattle.clap.proofs.WalkLemmas.{first_value-rows}
use Rattle.command.specs.declared.request.Color.TheVariants as color
use Rattle.command.specs.CommandLine.{color_named}
use Rattle.command.proofs.words.color_of.Goals as goal

pub returns-in-Some : goal.returns-in-Some
returns-in-Some c =
    c.color_named.ensures ∙ (ap (λ r. option_map_or color_named (option_map (λ s. s.now) r) (Some color.Auto)) (sym c.in-Some.is)
    ∙ ap (λ o. option_map_or color_named o (Some color.Auto)) (c.get_str.ensures ∙ first_value-rows (found_of c.args.given.now) (codes "color")))

pub returns-in-None : goal.returns-in-None
returns-in-None c =
    ap (λ r. option_map_or color_named (option_map (λ s. s.now) r) (Some color.Auto)) (sym c.in-None.is)
    ∙ ap (λ o. option_map_or color_named o (Some color.Auto)) (c.get_str.ensures ∙ first_value-rows (found_of c.args.given.now) (codes "color"))
