-- The command line of `ompc` as the library of command lines sees it, and what its words ask for.
use Rattle.std.specs.Prelude.{ℕ, ◌≡◌, ◌⊎◌, Bool, true, false, List, [], ◌∷◌, Option, Some, None, IfSome, unwrap_or, if◌then◌else◌, codes}
use Rattle.std.specs.Option.{option_map_or}
use Rattle.std.specs.Str.{bytes_eq}
use Rattle.std.specs.Str.Parse.{digits_value, without_leading_plus}
use Rattle.clap.specs.Values.{IsUnsignedIn}
use Rattle.clap.specs.Walk.{Row, Rule, Text, first_of, one_of, rule_of}
use Rattle.clap.specs.Simple.{App, Shape, app_of, new_rule, new_shape, shape_of, subcommand_of}
use Rattle.clap.specs.declared.builder.command.Command.TheViews.{out-Command as fields_of}
use Rattle.clap.specs.declared.builder.arg.Arg.{Arg}
use Rattle.clap.specs.declared.builder.command.Command.{Command}
use Rattle.clap.specs.declared.builder.action.ArgAction.TheVariants.{SetTrue}
use Rattle.clap.specs.declared.builder.value_parser.ValueParser.TheVariants.{Unsigned}
use Rattle.command.specs.declared.request.Request.{Request}
use Rattle.command.specs.declared.request.Request.TheVariants as request
use Rattle.command.specs.declared.request.Color.{Color}
use Rattle.command.specs.declared.request.Color.TheVariants as color
use Rattle.command.specs.declared.request.Explain.{Explain}
use Rattle.command.specs.declared.request.Format.{Format}
use Rattle.command.specs.declared.request.Format.TheVariants as format
use Rattle.command.specs.declared.request.Run.{Run}
use Rattle.command.specs.declared.request.Step.{Step}

-- the source, which has to be given
abbrev pub file : Rule
file = record (new_rule (codes "FILE")) { required = true }

-- an option with a text
abbrev pub text_option : Text → Rule
text_option name = record (new_rule name) { long = Some name; value_names = 1 }

-- an option with a number from `least` to `most`
abbrev pub number_option : Text → ℕ → ℕ → Rule
number_option name least most = record (text_option name) { parser = Some (Unsigned least most) }

-- an option with nothing behind it
abbrev pub flag : Text → Rule
flag name = record (new_rule name) { long = Some name; action = Some SetTrue }

abbrev pub capacity : Rule
capacity = number_option (codes "capacity") 0 4294967296

abbrev pub workers : Rule
workers = number_option (codes "workers") 1 16

-- a command with these arguments
abbrev pub command : Text → List Rule → Shape
command name rules = record (new_shape name) { rules = rules }

abbrev pub check : Shape
check = command (codes "check") (file ∷ [])

abbrev pub explain : Shape
explain = command (codes "explain") (file ∷ text_option (codes "format") ∷ text_option (codes "color") ∷ [])

abbrev pub fix : Shape
fix = command (codes "fix") (file ∷ [])

abbrev pub witness : Shape
witness = command (codes "witness") (file ∷ [])

abbrev pub view : Shape
view = command (codes "view") (file ∷ [])

abbrev pub list : Shape
list = command (codes "list") (file ∷ [])

abbrev pub run : Shape
run = command (codes "run") (file ∷ workers ∷ capacity ∷ flag (codes "log") ∷ flag (codes "maps") ∷ flag (codes "finals") ∷ [])

abbrev pub step : Shape
step = command (codes "step") (file ∷ text_option (codes "choices") ∷ capacity ∷ flag (codes "fine") ∷ text_option (codes "turns") ∷ flag (codes "maps") ∷
    text_option (codes "choice-runs") ∷ [])

-- the words are a command's name and its arguments; without any there is help
abbrev pub ompc : App
ompc = record {
  top = record (new_shape (codes "ompc")) {
    is_leaf = false;
    has_version = true;
    no_binary_name = true;
    arg_required_else_help = true;
    subcommand_required = true;
  };
  subs = check ∷ explain ∷ fix ∷ witness ∷ view ∷ list ∷ run ∷ step ∷ [];
}

-- an argument that the library reads so
abbrev pub IsArg : Rule → Arg → Type 0
IsArg rule a = (rule_of a ≡ rule) × (a.global ≡ false)

-- a command that the library reads so
abbrev pub IsCommand : Shape → Command → Type 0
IsCommand shape c = (shape_of c ≡ shape) × ((fields_of c).has_globals ≡ false)

-- a command line with commands that the library reads so
abbrev pub IsReadAs : App → Command → Type 0
IsReadAs app c = (app_of c ≡ app) × ((fields_of c).has_globals ≡ false)

-- the command that it reads as the whole command line
abbrev pub IsProgram : Command → Type 0
IsProgram = IsReadAs ompc

-- the text of an argument, which is empty where it is not given
abbrev pub text_in : Text → List Row → Text
text_in id rows = unwrap_or (first_of id rows) []

-- the number of an option, which is `default` where it is not given
pub record IsNumber (least most default : ℕ) (text : Option Text) (n : ℕ) : Type 0 where
  pub given : IfSome text (λ t. IsUnsignedIn least most t → n ≡ digits_value 10 (without_leading_plus t))
  pub left_out : text ≡ None → n ≡ default

abbrev pub IsCapacity : List Row → ℕ → Type 0
IsCapacity rows n = IsNumber 0 4294967296 4194304 (one_of (codes "capacity") rows) n

abbrev pub AreWorkers : List Row → ℕ → Type 0
AreWorkers rows n = IsNumber 1 16 4 (one_of (codes "workers") rows) n

-- whether a flag is given
pub record IsFlag (text : Option Text) (is_given : Bool) : Type 0 where
  pub given : text ≡ Some (codes "true") → is_given ≡ true
  pub left_out : text ≡ Some (codes "false") → is_given ≡ false

pub record IsRun (rows : List Row) (r : Run) : Type 0 where
  pub file : r.file.now ≡ text_in (codes "FILE") rows
  pub workers : AreWorkers rows r.workers.count
  pub capacity : IsCapacity rows r.capacity
  pub log : IsFlag (one_of (codes "log") rows) r.log
  pub maps : IsFlag (one_of (codes "maps") rows) r.maps
  pub finals : IsFlag (one_of (codes "finals") rows) r.finals

pub record IsStep (rows : List Row) (s : Step) : Type 0 where
  pub file : s.file.now ≡ text_in (codes "FILE") rows
  pub choices : s.choices.now ≡ text_in (codes "choices") rows
  pub capacity : IsCapacity rows s.capacity
  pub fine : IsFlag (one_of (codes "fine") rows) s.fine
  pub turns : s.turns.now ≡ text_in (codes "turns") rows
  pub maps : IsFlag (one_of (codes "maps") rows) s.maps
  pub choice_runs : s.choice_runs.now ≡ text_in (codes "choice-runs") rows

-- the form of a report that has this name
abbrev pub format_named : Text → Option Format
format_named name =
    if bytes_eq name (codes "text") then Some format.Text
    else (if bytes_eq name (codes "json") then Some format.Json
    else (if bytes_eq name (codes "sarif") then Some format.Sarif
    else (if bytes_eq name (codes "dot") then Some format.Dot else None)))

-- the form that is asked for, which is text where none is
abbrev pub format_in : List Row → Option Format
format_in rows = option_map_or format_named (first_of (codes "format") rows) (Some format.Text)

-- the time of colours that has this name
abbrev pub color_named : Text → Option Color
color_named name =
    if bytes_eq name (codes "auto") then Some color.Auto
    else (if bytes_eq name (codes "always") then Some color.Always
    else (if bytes_eq name (codes "never") then Some color.Never else None))

-- the time that is asked for, which is told by the terminal where none is
abbrev pub color_in : List Row → Option Color
color_in rows = option_map_or color_named (first_of (codes "color") rows) (Some color.Auto)

pub record IsExplain (rows : List Row) (e : Explain) : Type 0 where
  pub file : e.file.now ≡ text_in (codes "FILE") rows
  pub format : e.format ≡ format_in rows
  pub color : e.color ≡ color_in rows

-- the request of a command of that name with these entries
abbrev pub Asks : Text → List Row → Request → Type 0
Asks name rows (request.Check source) = (name ≡ codes "check") × (source.now ≡ text_in (codes "FILE") rows)
Asks name rows (request.Explain e) = (name ≡ codes "explain") × IsExplain rows e
Asks name rows (request.Fix source) = (name ≡ codes "fix") × (source.now ≡ text_in (codes "FILE") rows)
Asks name rows (request.Witness source) = (name ≡ codes "witness") × (source.now ≡ text_in (codes "FILE") rows)
Asks name rows (request.View source) = (name ≡ codes "view") × (source.now ≡ text_in (codes "FILE") rows)
Asks name rows (request.List source) = (name ≡ codes "list") × (source.now ≡ text_in (codes "FILE") rows)
Asks name rows (request.Run r) = (name ≡ codes "run") × IsRun rows r
Asks name rows (request.Step s) = (name ≡ codes "step") × IsStep rows s

-- the name of a command and its entries, of one of the eight
abbrev pub IsNamed : Option (Text × List Row) → Type 0
IsNamed None = ⊥
IsNamed (Some p) =
    (p.0 ≡ codes "check") ⊎ ((p.0 ≡ codes "explain") ⊎ ((p.0 ≡ codes "fix") ⊎ ((p.0 ≡ codes "witness")
    ⊎ ((p.0 ≡ codes "view") ⊎ ((p.0 ≡ codes "list") ⊎ ((p.0 ≡ codes "run") ⊎ (p.0 ≡ codes "step")))))))

-- what the words ask for
abbrev pub AskedBy : List Text → Request → Type 0
AskedBy words request = (p : Text × List Row) × (subcommand_of ompc words ≡ Some p) × Asks p.0 p.1 request
