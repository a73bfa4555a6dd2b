-- What is known behind the line of a directive.
use Rattle.std.specs.Prelude.{ℕ, ◌+◌, Bool, true, false, ◌∷◌}
use Rattle.c_grammar.specs.Grammar.{Act, Alone, Over}
use Rattle.c_grammar.specs.Program.{Stack, Under}
use Rattle.c_expressions.specs.declared.fault.ReadError.{ReadError}
use Rattle.c_expressions.specs.declared.fault.ReadError.TheVariants as error
use Rattle.c_expressions.specs.declared.scope.Scope.{Scope}
use Rattle.directives.specs.declared.fault.DirectiveFault.{DirectiveFault}
use Rattle.directives.specs.declared.fault.DirectiveFault.TheVariants as fault

-- a statement more has begun
abbrev pub one_more : Scope → Scope
one_more s = record s { statements = s.statements + 1 }

-- a directive alone, or over a block or loop
abbrev pub act_of : Bool → Act
act_of false = Alone
act_of true = Over

-- a block or loop must follow it, or a nest of so many loops; or nothing
abbrev pub followed : Bool → ℕ → Stack → Stack
followed false depth s = s
followed true depth s = Under depth ∷ s

-- a fault of a line of the source
abbrev pub seen_error : ℕ → DirectiveFault → ReadError
seen_error line fault.OutOfMemory = error.Memory
seen_error line (fault.Line f) = error.Fault (record { code = f.code; line = line; column = f.column })
