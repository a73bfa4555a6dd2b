-- A witness as text.
use Rattle.std.specs.Prelude.{ℕ, ◌+◌, ◌==◌, Bool, true, not, if◌then◌else◌, List, [], ◌∷◌, ◌++◌, Option, Some, None, take, codes, decimal, string_bytes}
use Rattle.std.specs.List.{prefix_len}
use Rattle.base.specs.declared.item.Answer.{Answer}
use Rattle.base.specs.declared.item.Cell.{Cell}
use Rattle.base.specs.declared.item.Section.{Section}
use Rattle.actions.specs.declared.action.Action.{Action}
use Rattle.actions.specs.declared.action.Action.TheVariants.{Load, Store, Combine, Enter, Leave, Remove, CopyIn, CopyOut}
use Rattle.stepper.specs.declared.stops.Stop.{Stop}
use Rattle.witness.specs.Shell.{is_dashed, shell_word}
use Rattle.witness.specs.declared.stopped.Stopped.{Stopped}
use Rattle.witness.specs.declared.trial.Ended.{Ended}
use Rattle.witness.specs.declared.trial.Ended.TheVariants.{Absent, Done}
use Rattle.witness.specs.declared.trial.Witness.{Witness}

-- numbers with commas between them; `before` stands before the first
abbrev pub comma_list : List ℕ → List ℕ → List ℕ
comma_list before [] = []
comma_list before (n ∷ ns) = before ++ (decimal n ++ comma_list (codes ",") ns)

-- a text with a word before each line; `begins` says whether a line begins
abbrev pub prefixed : List ℕ → Bool → List ℕ → List ℕ
prefixed word begins [] = []
prefixed word begins (b ∷ bs) = (if begins then word else []) ++ b ∷ prefixed word (b == 10) bs

-- a number, and behind a star how often it stands where that is more than once
abbrev pub run_bytes : ℕ → ℕ → List ℕ
run_bytes n k = decimal n ++ (if k == 1 then [] else codes "*" ++ decimal k)

-- numbers behind k times n: equal ones that follow each other are written once
abbrev pub runs_from : ℕ → ℕ → List ℕ → List ℕ
runs_from n k [] = run_bytes n k
runs_from n k (m ∷ ms) =
    if m == n then runs_from n (k + 1) ms else run_bytes n k ++ (codes "," ++ runs_from m 1 ms)

-- behind a blank; nothing where there are none
abbrev pub runs_list : List ℕ → List ℕ
runs_list [] = []
runs_list (n ∷ ns) = codes " " ++ runs_from n 1 ns

-- behind a word that ends with a quotation mark, since shells take a star for a pattern
abbrev pub runs_option : List ℕ → List ℕ → List ℕ
runs_option word [] = []
runs_option word (n ∷ ns) = word ++ (runs_from n 1 ns ++ codes "'")

-- what is said where the run by no choices differs: later items need not go first
abbrev pub order_line : List ℕ → List ℕ → List ℕ
order_line [] [] = codes "in program order\n"
order_line choices turns = []

abbrev pub is_no_feed : ℕ → Bool
is_no_feed b = not (b == 10)

-- the line at the front
abbrev pub front_line : List ℕ → List ℕ
front_line [] = codes "nothing"
front_line (b ∷ bs) = take (prefix_len is_no_feed (b ∷ bs)) (b ∷ bs)

abbrev pub difference_bytes : ℕ → List ℕ → List ℕ → List ℕ
difference_bytes n own other =
    codes "first difference line " ++ (decimal n ++ (codes ": " ++ (front_line own ++ (codes ", erased " ++ (front_line other ++ codes "\n")))))

-- the first lines that differ of two texts that are alike up to the n-th line, which begins with own and other, and up to these
-- bytes of it
abbrev pub difference_from : ℕ → List ℕ → List ℕ → List ℕ → List ℕ → List ℕ
difference_from n own other (x ∷ xs) (y ∷ ys) =
    if x == y then (if x == 10 then difference_from (n + 1) xs ys xs ys else difference_from n own other xs ys)
    else difference_bytes n own other
difference_from n own other xs ys = difference_bytes n own other

abbrev pub difference_line : Ended → List ℕ → List ℕ
difference_line (Done a) plain = difference_from 1 a.out.items plain a.out.items plain
difference_line Absent plain = []

abbrev pub end_bytes : Ended → List ℕ
end_bytes (Done a) = prefixed (codes "output ") true a.out.items
end_bytes Absent = codes "stopped F4\n"

-- `A[3]`, and `A[2:4]`
abbrev pub cell_text : List ℕ → Cell → List ℕ
cell_text array c = array ++ (codes "[" ++ (decimal c.index ++ codes "]"))

abbrev pub section_text : List ℕ → Section → List ℕ
section_text array s = array ++ (codes "[" ++ (decimal s.first ++ (codes ":" ++ (decimal s.length ++ codes "]"))))

-- what an action on an array of this name does
abbrev pub action_text : List ℕ → Action → List ℕ
action_text array (Load c) = codes "load of " ++ cell_text array c
action_text array (Store c n) = codes "store to " ++ cell_text array c
action_text array (Combine op c n) = codes "update of " ++ cell_text array c
action_text array (Enter item) = codes "entry of " ++ section_text array item.section
action_text array (Leave item) = codes "exit of " ++ section_text array item.section
action_text array (Remove section) = codes "removal of " ++ section_text array section
action_text array (CopyIn c) = codes "copy to " ++ cell_text array c
action_text array (CopyOut c) = codes "copy from " ++ cell_text array c

abbrev pub side_text : Bool → ℕ → List ℕ
side_text on_host device = if on_host then codes " on the host\n" else codes " on device " ++ (decimal device ++ codes "\n")

-- `stopped at line 3: store to A[2] on device 0`
abbrev pub told_line : List ℕ → Stop → List ℕ
told_line array stop =
    codes "stopped at line " ++ (decimal stop.place.line ++ (codes ": " ++ (action_text array stop.action
    ++ side_text stop.on_host stop.device.number)))

-- nothing where no action is told
abbrev pub stop_line : Option Stopped → List ℕ
stop_line None = []
stop_line (Some at) = told_line (string_bytes at.array) at.stop

-- a word and numbers behind it; nothing where there are none
abbrev pub list_option : List ℕ → List ℕ → List ℕ
list_option word [] = []
list_option word (n ∷ ns) = word ++ comma_list (codes " ") (n ∷ ns)

abbrev pub turns_line : List ℕ → List ℕ
turns_line [] = []
turns_line (n ∷ ns) = codes "turns" ++ (comma_list (codes " ") (n ∷ ns) ++ codes "\n")

-- the options of the command that makes a run again, and where the name of its source stands: behind them, and behind two
-- dashes, where it could be taken for an option
abbrev pub options : List ℕ → List ℕ → List ℕ
options choices turns = runs_option (codes " --choice-runs '") choices ++ list_option (codes " --turns") turns

abbrev pub named : List ℕ → List ℕ → List ℕ
named name options =
    if is_dashed name then options ++ (codes " -- " ++ shell_word name) else codes " " ++ (shell_word name ++ options)

abbrev pub command_line : List ℕ → List ℕ → List ℕ → List ℕ
command_line name choices turns = codes "ompc step --fine" ++ (named name (options choices turns) ++ codes "\n")

-- the choices and the order of turns, both outputs or where the run stops, their first difference, and the command that makes
-- the run again
abbrev pub witness_bytes : List ℕ → Witness → Answer → List ℕ
witness_bytes name w plain =
    order_line w.choices.items w.turns.items ++ (codes "choices" ++ (runs_list w.choices.items ++ (codes "\n"
    ++ (turns_line w.turns.items ++ (end_bytes w.end ++ (stop_line w.stop
    ++ (prefixed (codes "erased output ") true plain.out.items ++ (difference_line w.end plain.out.items
    ++ command_line name w.choices.items w.turns.items))))))))

-- that no run of an accepted program differs, and that none of the 512 tries does
abbrev pub accepted_line : List ℕ
accepted_line = codes "accepted: no schedule differs\n"

abbrev pub none_line : List ℕ
none_line = codes "no schedule found in " ++ (decimal 512 ++ codes " tries\n")
