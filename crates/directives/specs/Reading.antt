-- What the machine finds from a token on, and what came of reading.
use Rattle.std.specs.Prelude.{◌≡◌, ◌≤◌, ℕ, [], ◌∷◌, length, Option, Some, None, Result, Ok, Err}
use Rattle.base.specs.declared.fault.ReadCode.{ReadCode as Code}
use Rattle.c_grammar.specs.Lexeme.{Lexeme}
use Rattle.c_grammar.specs.Texts.{Item, next_of}
use Rattle.c_grammar.specs.Machine.{Found, run as machine_run, kept, lower}
use Rattle.c_grammar.specs.LineGrammar.{LineAct}
use Rattle.c_grammar.specs.LineRules.{LineContext, line_grammar}
use Rattle.c_grammar.specs.LineMachine.{LineStack, line_machine, line_first_broken, line_first_wrong}
use Rattle.directives.specs.declared.fault.LineFault.{LineFault}
use Rattle.directives.specs.declared.fault.DirectiveFault.{DirectiveFault}
use Rattle.directives.specs.declared.fault.DirectiveFault.TheVariants as fault
use Rattle.directives.specs.declared.line.Line.{Line}
use Rattle.directives.specs.Known.{known_of}
use Rattle.directives.specs.Cursor.{Items, first_item, behind, items}
use Rattle.directives.specs.Trees.{Spelling}

abbrev pub found_fault : Option (Found line_grammar line_machine) → Option LineFault
found_fault None = None
found_fault (Some f) = Some (record { code = f.rule; column = f.item.column })

-- the first fault of the tokens that are left, if there is one
unfoldable pub run : LineContext → LineStack → Items → Option LineFault
run c s is = found_fault (machine_run line_grammar line_machine c s is)

-- the first fault of what a reader has left
abbrev pub rest : Line → LineStack → Option LineFault
rest l s = run (known_of l.known) s (items l)

-- the first fault where the next token is taken in a role, and s may come after it
unfoldable pub took_from : LineContext → Option Code × LineAct → LineStack → Item Lexeme → Items → Option LineFault
took_from c r s i is = found_fault (kept line_grammar line_machine c i r s
    (line_first_broken c (i.terminal, r) (next_of line_grammar is))
    (λ d u. machine_run line_grammar line_machine d u is))

abbrev pub took : Line → Option Code × LineAct → LineStack → Option LineFault
took l r s = took_from (known_of l.known) r s (first_item l) (behind l)

-- a fault at a token
abbrev pub fault_at : Item Lexeme → Code → LineFault
fault_at i code = record { code = code; column = i.column }

-- the fault at a token that may not come, where another one has the code
unfoldable pub misfit_at : Code → Item Lexeme → LineFault
misfit_at code i = fault_at i (lower line_grammar line_machine (line_first_wrong i.terminal) code)

abbrev pub Failed : DirectiveFault → Option LineFault → Type 0
Failed fault.OutOfMemory before = Unit {0}
Failed (fault.Line f) before = before ≡ Some f

-- the first fault that there was before, if there is one, is the first that there is after; or it is this one, unless
-- memory ran out
abbrev pub Outcome : {X : Type 0} → Result X DirectiveFault → Option LineFault → Option LineFault → Type 0
Outcome (Ok x) before after = before ≡ after
Outcome (Err e) before after = Failed e before

-- the same, where what is after depends on what was read
abbrev pub OutcomeBy : {X : Type 0} → Result X DirectiveFault → Option LineFault → (X → Option LineFault) → Type 0
OutcomeBy (Ok x) before after = before ≡ after x
OutcomeBy (Err e) before after = Failed e before

-- ---- what was read

abbrev pub IsAt : Option ℕ → ℕ → Type 0
IsAt None column = Unit {0}
IsAt (Some c) column = column ≡ c

-- the first tokens are these, each at its column if it has one, and then come the others
abbrev pub Fits : Spelling → Items → Items → Type 0
Fits [] before after = before ≡ after
Fits (x ∷ xs) [] after = ⊥
Fits (x ∷ xs) (i ∷ is) after = (i.terminal ≡ x.0) × IsAt x.1 i.column × Fits xs is after

pub record IsSpelled (spelling : Spelling) (before after : Items) : Type 0 where
  pub fits : Fits spelling before after
  pub fewer : length after ≤ length before
