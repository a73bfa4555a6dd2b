-- The clauses if of a line.
use Rattle.std.specs.Prelude.{◌++◌, List, map}
use Rattle.c_grammar.specs.Conditions.{Clause, Heading, Part, Whole, Target, Unread, Inner, clauses, kept}
use Rattle.c_grammar.specs.Lexeme.{Lexeme, Placed}
use Rattle.directives.specs.Seen.{seen_lexeme}
use Rattle.c_written.specs.declared.conditions.Clause.{Clause as GivenClause}
use Rattle.c_written.specs.declared.conditions.Listing.{Listing}
use Rattle.c_written.specs.declared.conditions.Heading.{Heading as GivenHeading}
use Rattle.c_written.specs.declared.conditions.Rest.{Rest}
use Rattle.c_written.specs.declared.conditions.Part.{Part as GivenPart}
use Rattle.c_written.specs.declared.conditions.Part.TheVariants as given
use Rattle.c_written.specs.Forms.{all_placed}
use Rattle.c_written.specs.Spots.{all_kinds}

abbrev pub seen_part : GivenPart → Part
seen_part given.Whole = Whole
seen_part given.Target = Target
seen_part (given.Inner t) = Inner (seen_lexeme t)
seen_part given.Unread = Unread

abbrev pub seen_clause : GivenClause → Clause
seen_clause c = record { part = seen_part c.part; holds = c.holds; len = c.len }

abbrev pub seen_clauses : List GivenClause → List Clause
seen_clauses cs = map seen_clause cs

abbrev pub seen_heading : GivenHeading → Heading
seen_heading h = record { own = all_kinds h.own.now; parts = all_kinds h.parts.now }

-- all clauses in the end where these tokens follow
abbrev pub with_clauses : Listing → List Lexeme → List Clause
with_clauses c ts = seen_clauses c.done.items ++ clauses (seen_heading c.heading) c.depth c.left ts

-- what is written in the end where these tokens follow
abbrev pub with_kept : Rest → List Placed → List Placed
with_kept c ps = all_placed c.done.items ++ kept (seen_heading c.heading) c.depth c.left ps
