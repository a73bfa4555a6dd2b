-- Some command lines, and what the definitions make of them, by computation.
use Rattle.std.proofs.Common.{◌≡◌, List, [], ◌∷◌, Option, Some, None, codes, map, refl, option_map}
use Rattle.clap.specs.Faults.{fault_of}
use Rattle.clap.specs.Simple.{subcommand_of}
use Rattle.clap.specs.Walk.{Row, Text, one_of}
use Rattle.clap.specs.declared.error.kind.ErrorKind.TheVariants.{DisplayHelpOnMissingArgumentOrSubcommand, MissingRequiredArgument, UnknownArgument, InvalidSubcommand, ValueValidation}
use Rattle.clap.proofs.OnLiterals.{clap_on_literals}
use Rattle.command.specs.CommandLine.{ompc, text_in}

-- the name, the source, and the texts of options
record Told : Type 0 where
  name : Text
  file : Text
  options : List (Option Text)

abbrev told : Text × List Row → List Text → Told
told p options = record { name = p.0; file = text_in (codes "FILE") p.1; options = map (λ id. one_of id p.1) options }

abbrev options_of_run : List Text
options_of_run = codes "workers" ∷ codes "capacity" ∷ codes "log" ∷ codes "maps" ∷ codes "finals" ∷ []

abbrev by_two : List Text
by_two = codes "run" ∷ codes "--workers=2" ∷ codes "a.c" ∷ codes "--log" ∷ []

by_two_asks : option_map (λ p. told p options_of_run) (subcommand_of ompc by_two) ≡ Some (record {
  name = codes "run";
  file = codes "a.c";
  options = Some (codes "2") ∷ None ∷ Some (codes "true") ∷ Some (codes "false") ∷ Some (codes "false") ∷ [];
})
unfolding clap_on_literals
by_two_asks = refl

by_two_is_well_formed : fault_of ompc by_two ≡ []
unfolding clap_on_literals
by_two_is_well_formed = refl

-- a name that looks like an option stands behind `--`
abbrev dashed : List Text
dashed = codes "check" ∷ codes "--" ∷ codes "--log" ∷ []

dashed_asks : option_map (λ p. told p []) (subcommand_of ompc dashed) ≡ Some (record { name = codes "check"; file = codes "--log"; options = [] })
unfolding clap_on_literals
dashed_asks = refl

dashed_is_well_formed : fault_of ompc dashed ≡ []
unfolding clap_on_literals
dashed_is_well_formed = refl

-- a step of what the check may refuse
abbrev by_actions : List Text
by_actions = codes "step" ∷ codes "a.c" ∷ codes "--choices=0,1" ∷ codes "--fine" ∷ codes "--turns=1" ∷ []

by_actions_asks : option_map (λ p. told p (codes "choices" ∷ codes "capacity" ∷ codes "fine" ∷ codes "turns" ∷ [])) (subcommand_of ompc by_actions) ≡ Some (record {
  name = codes "step";
  file = codes "a.c";
  options = Some (codes "0,1") ∷ None ∷ Some (codes "true") ∷ Some (codes "1") ∷ [];
})
unfolding clap_on_literals
by_actions_asks = refl

by_actions_is_well_formed : fault_of ompc by_actions ≡ []
unfolding clap_on_literals
by_actions_is_well_formed = refl

-- a step that tells what its directives do
abbrev with_maps : List Text
with_maps = codes "step" ∷ codes "a.c" ∷ codes "--maps" ∷ []

with_maps_asks : option_map (λ p. told p (codes "fine" ∷ codes "maps" ∷ [])) (subcommand_of ompc with_maps) ≡ Some (record {
  name = codes "step";
  file = codes "a.c";
  options = Some (codes "false") ∷ Some (codes "true") ∷ [];
})
unfolding clap_on_literals
with_maps_asks = refl

nothing_is_refused : fault_of ompc [] ≡ DisplayHelpOnMissingArgumentOrSubcommand ∷ []
unfolding clap_on_literals
nothing_is_refused = refl

no_file_is_refused : fault_of ompc (codes "list" ∷ []) ≡ MissingRequiredArgument ∷ []
unfolding clap_on_literals
no_file_is_refused = refl

seventeen_are_refused : fault_of ompc (codes "run" ∷ codes "a.c" ∷ codes "--workers" ∷ codes "17" ∷ []) ≡ ValueValidation ∷ []
unfolding clap_on_literals
seventeen_are_refused = refl

others_option_is_refused : fault_of ompc (codes "step" ∷ codes "a.c" ∷ codes "--log" ∷ []) ≡ UnknownArgument ∷ []
unfolding clap_on_literals
others_option_is_refused = refl

fifth_command_is_refused : fault_of ompc (codes "go" ∷ codes "a.c" ∷ []) ≡ UnknownArgument ∷ InvalidSubcommand ∷ []
unfolding clap_on_literals
fifth_command_is_refused = refl
