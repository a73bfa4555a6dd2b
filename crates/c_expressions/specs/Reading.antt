-- What the machine finds from a token on, and what came of reading.
use Rattle.std.specs.Prelude.{◌≡◌, Bool, true, false, if◌then◌else◌, List, [], ◌∷◌, map, Option, Some, None, Result, Ok, Err}
use Rattle.base.specs.declared.fault.ReadCode.{ReadCode as Code}
use Rattle.base.specs.declared.fault.TextFault.{TextFault}
use Rattle.c_grammar.specs.Terminal.{Terminal, Mark, Num, Line}
use Rattle.c_grammar.specs.Texts.{Item, next_of}
use Rattle.c_grammar.specs.Machine.{run as machine_run, kept, lower, own_rule}
use Rattle.c_grammar.specs.Lines.{is_omp}
use Rattle.c_grammar.specs.Grammar.{Act, Slots, Plain, Length, Limit, Step}
use Rattle.c_grammar.specs.Rules.{Context, Rule, foreign, source_grammar}
use Rattle.c_grammar.specs.Program.{Stack, first_broken, first_wrong, source_machine}
use Rattle.c_grammar.specs.Source.{found_fault, fault_of}
use Rattle.c_expressions.specs.declared.fault.ReadError.{ReadError}
use Rattle.c_expressions.specs.declared.fault.ReadError.TheVariants as errors
use Rattle.c_expressions.specs.Means.{Items}

-- the first fault of the tokens that are left, if there is one
unfoldable pub run : Context → Stack → Items → Option TextFault
run c s is = found_fault (machine_run source_grammar source_machine c s is)

-- the first fault where the next token is taken in a role, and s may come after it
unfoldable pub took : Context → Option Code × Act → Stack → Items → Option TextFault
took c r s [] = None
took c r s (i ∷ is) = found_fault (kept source_grammar source_machine c i r s
    (first_broken c (i.terminal, r) (next_of source_grammar is))
    (λ c s. machine_run source_grammar source_machine c s is))

abbrev pub terminals : Items → List Terminal
terminals is = map (λ i. i.terminal) is

abbrev pub kinds : Slots → List Terminal
kinds xs = map (λ x. x.0) xs

-- a fault at the first byte of a token
abbrev pub fault_at : Item Terminal → Code → TextFault
fault_at i code = record { code = code; line = i.line; column = i.column }

-- the fault at a token that may not come, where the place has this rule for it, if it has one of its own
unfoldable pub misfit_at : Option Rule → Item Terminal → TextFault
misfit_at place i = fault_of i (if foreign i.terminal then own_rule source_grammar source_machine
    (first_wrong i.terminal) else lower source_grammar source_machine (first_wrong i.terminal)
    (own_rule source_grammar source_machine place))

-- a number or a sign, which breaks no rule wherever it stands
abbrev pub IsSound : Terminal → Type 0
IsSound (Mark s) = Unit {0}
IsSound (Num (Some n)) = Unit {0}
IsSound _ = ⊥

abbrev pub Failed : ReadError → Option TextFault → Type 0
Failed errors.Memory before = Unit {0}
Failed (errors.Fault f) before = before ≡ Some f

-- the first fault that there was before, if there is one, is the first that there is after; or it is this one, unless
-- memory ran out
abbrev pub Outcome : {X : Type 0} → Result X ReadError → Option TextFault → Option TextFault → Type 0
Outcome (Ok x) before after = before ≡ after
Outcome (Err e) before after = Failed e before

-- the same, where what is after depends on what was read
abbrev pub OutcomeBy : {X : Type 0} → Result X ReadError → Option TextFault → (X → Option TextFault) → Type 0
OutcomeBy (Ok x) before after = before ≡ after x
OutcomeBy (Err e) before after = Failed e before

-- what a number is there for outside an expression
abbrev pub IsNumberAct : Act → Type 0
IsNumberAct Plain = Unit {0}
IsNumberAct Length = Unit {0}
IsNumberAct Limit = Unit {0}
IsNumberAct Step = Unit {0}
IsNumberAct _ = ⊥

abbrev pub is_line : Terminal → Bool
is_line (Line ts) = true
is_line _ = false

-- a line whose words are pragma omp
abbrev pub is_directive : Terminal → Bool
is_directive (Line ts) = is_omp ts
is_directive _ = false
