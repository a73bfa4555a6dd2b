-- The first name of a line that is not declared, or not of the kind that its place needs.
use Rattle.std.specs.Prelude.{ℕ, if◌then◌else◌, [], ◌∷◌, Option, Some, None}
use Rattle.base.specs.declared.fault.ReadCode.TheVariants.{Undeclared, BadBound}
use Rattle.c_grammar.specs.Lines.{Use}
use Rattle.c_grammar.specs.Rules.{Context, misused, name_of, sort_of}
use Rattle.c_expressions.specs.declared.scope.Scope.{Scope}
use Rattle.c_expressions.specs.Scopes.{context_of}
use Rattle.directives.specs.declared.fault.LineFault.{LineFault}
use Rattle.directives.specs.Names.{Uses}

-- the fault of a name that stands at a column
abbrev pub use_fault : Context → ℕ × Use → Option LineFault
use_fault c u =
    let sort = sort_of c (name_of u.1) in if misused Undeclared sort u.1 then Some
    (record { code = Undeclared; column = u.0 })
    else (if misused BadBound sort u.1 then Some (record { code = BadBound; column = u.0 })
    else None)

abbrev pub first_of : Option LineFault → Option LineFault → Option LineFault
first_of None o = o
first_of (Some f) o = Some f

-- that of the first of these names which has one
abbrev pub names_fault : Context → Uses → Option LineFault
names_fault c [] = None
names_fault c (u ∷ us) = first_of (use_fault c u) (names_fault c us)

-- the same where a directive may stand
unfoldable pub fault_in : Scope → Uses → Option LineFault
fault_in s us = names_fault (context_of s 0 0) us
