-- A directive line whose clauses are being read.
use Rattle.std.specs.Prelude.{ℕ, ◌++◌, List}
use Rattle.c_grammar.specs.Lexeme.{Placed}
use Rattle.c_grammar.specs.Clauses as clauses
use Rattle.c_grammar.specs.Clauses.{Scope, Place, Part, Step, Keep, LeaveOut, PutType, clauses_from}
use Rattle.directives.specs.Seen.{seen_placed}
use Rattle.c_written.specs.declared.clauses.Scope.{Scope as GivenScope}
use Rattle.c_written.specs.declared.clauses.Place.{Place as GivenPlace}
use Rattle.c_written.specs.declared.clauses.Part.{Part as GivenPart}
use Rattle.c_written.specs.declared.clauses.Part.TheVariants as part
use Rattle.c_written.specs.declared.clauses.Step.{Step as GivenStep}
use Rattle.c_written.specs.declared.clauses.Step.TheVariants as step
use Rattle.c_written.specs.declared.clauses.Clauses.{Clauses}
use Rattle.c_written.specs.Forms.{all_placed}
use Rattle.c_terminals.specs.Names.{seen_names}
use Rattle.c_written.specs.Values.{seen_values}

abbrev pub seen_scope : GivenScope → Scope
seen_scope s = record {
  names = seen_names s.names.now;
  arrays = seen_values s.arrays.now;
  map_type = s.map_type.now;
  shares = s.shares;
  captures = s.captures;
  defers = s.defers;
}

abbrev pub seen_place : GivenPlace → Place
seen_place p = record { depth = p.depth; ended = p.ended }

abbrev pub seen_part : GivenPart → Part
seen_part part.BeforeName = clauses.BeforeName
seen_part part.AfterName = clauses.AfterName
seen_part part.InBounds = clauses.InBounds
seen_part part.AfterBounds = clauses.AfterBounds
seen_part part.Closed = clauses.Closed
seen_part part.Broken = clauses.Broken

abbrev pub seen_step : GivenStep → Step
seen_step step.Keep = Keep
seen_step (step.LeaveOut k) = LeaveOut k
seen_step (step.PutType bracket column) = PutType (seen_placed bracket) column

-- what is written in the end where these tokens follow
abbrev pub with_clauses : Clauses → List Placed → List Placed
with_clauses c ps = all_placed c.done.items ++ clauses_from (seen_scope c.scope) (seen_place c.place) c.left ps

-- the rest, where these tokens follow
abbrev pub behind : Scope → List Placed → Place → ℕ → List Placed
behind s ps at k = clauses_from s at k ps
