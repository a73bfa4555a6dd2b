use Rattle.std.proofs.Common.{◌≡◌, ◌∙◌, ap, false, true}
use Rattle.std.proofs.lemmas.Result.{IfOk-weaker}
use Rattle.clap.specs.Simple.{App, Shape, app_of, app_of_fields, on_top, with_subcommand}
use Rattle.clap.specs.declared.builder.command.Command.TheViews.{out-Command}
use Rattle.command.specs.CommandLine.{IsReadAs, check, explain, fix, list, run, step, view, witness}
use Rattle.command.proofs.words.program.Goals as goal

-- what the settings change of what a parse reads
abbrev set : App → App
set = on_top (λ (s : Shape). record s { no_binary_name = true; arg_required_else_help = true; subcommand_required = true; has_version = true })

pub returns : goal.returns
returns c =
    let is_set : app_of c.no_binary_name.result ≡ set (app_of c.new.result) =
    ap app_of_fields c.no_binary_name.ensures
    ∙ ap (on_top (λ s. record s { no_binary_name = true })) (ap app_of_fields c.arg_required_else_help.ensures
    ∙ ap (on_top (λ s. record s { arg_required_else_help = true })) (ap app_of_fields c.subcommand_required.ensures
    ∙ ap (on_top (λ s. record s { subcommand_required = true })) (ap app_of_fields c.version.ensures
    ∙ ap (on_top (λ s. record s { has_version = true })) (ap app_of_fields c.about.ensures)))) in
    let is_local : (out-Command c.no_binary_name.result).has_globals ≡ false =
    ap (λ f. f.has_globals) c.no_binary_name.ensures ∙ (ap (λ f. f.has_globals) c.arg_required_else_help.ensures
    ∙ (ap (λ f. f.has_globals) c.subcommand_required.ensures ∙ (ap (λ f. f.has_globals) c.version.ensures
    ∙ (ap (λ f. f.has_globals) c.about.ensures ∙ c.new.ensures.local)))) in
    let bare : App = set (app_of c.new.result) in
    let none = IfOk-weaker c.bin_name-program.result _ (IsReadAs bare) (λ r h. (ap app_of_fields h.0 ∙ is_set, ap (λ f. f.has_globals) h.0 ∙ is_local))
    c.bin_name-program.ensures in
    let one = c.with_command-program.ensures bare check none c.check_command.ensures in
    let two = c.with_command-program-2.ensures (with_subcommand bare check) explain one c.explain_command.ensures in
    let three = c.with_command-program-3.ensures (with_subcommand (with_subcommand bare check) explain) fix two c.fix_command.ensures in
    let four = c.with_command-program-4.ensures (with_subcommand (with_subcommand (with_subcommand bare check) explain) fix) witness three c.witness_command.ensures in
    let five = c.with_command-program-5.ensures (with_subcommand (with_subcommand (with_subcommand (with_subcommand bare check) explain) fix) witness) view four c.view_command.ensures in
    let six = c.with_command-program-6.ensures (with_subcommand (with_subcommand (with_subcommand (with_subcommand (with_subcommand bare check) explain) fix) witness) view) list five c.list_command.ensures in
    let seven = c.with_command-program-7.ensures (with_subcommand (with_subcommand (with_subcommand (with_subcommand (with_subcommand (with_subcommand bare check) explain) fix) witness) view) list) run six c.run_command.ensures in
    let eight = c.with_command.ensures (with_subcommand (with_subcommand (with_subcommand (with_subcommand (with_subcommand (with_subcommand (with_subcommand bare check) explain) fix) witness) view) list) run) step seven c.step_command.ensures in
    IfOk-weaker c.with_command.result _ _ (λ r h. (
      h.0 ∙ ap (λ (a : App). with_subcommand (with_subcommand (with_subcommand (with_subcommand (with_subcommand
          (with_subcommand (with_subcommand (with_subcommand (set a) check) explain) fix) witness) view) list) run) step)
          c.new.ensures.app,
      h.1,
    )) eight
