-- Functions so far.
use Rattle.std.specs.Prelude.{ℕ, ◌++◌, ◌&&◌, Bool, true, false, not, List, length, map, nat_lt, Option, Some, None, if◌then◌else◌}
use Rattle.c_grammar.specs.Blocks.{Items, bare}
use Rattle.c_grammar.specs.Constants.{Names}
use Rattle.c_grammar.specs.FunctionHeads as headings
use Rattle.c_grammar.specs.Functions as functions
use Rattle.c_grammar.specs.Functions.{Called, Counts, Puts as SpecPuts, Others, Functions, other_name, stays}
use Rattle.c_written.specs.declared.calls.Expanded.{Expanded}
use Rattle.c_written.specs.declared.calls.Function.{Function}
use Rattle.c_written.specs.declared.calls.Given.{Given}
use Rattle.c_written.specs.declared.calls.Parameter.{Parameter}
use Rattle.c_written.specs.declared.calls.Passed.{Passed}
use Rattle.c_written.specs.declared.calls.Scope.{Scope}
use Rattle.c_written.specs.declared.fronts.Front.{Front}
use Rattle.c_written.specs.declared.heads.Declared.{Declared}
use Rattle.c_written.specs.declared.heads.Gives.{Gives}
use Rattle.c_written.specs.declared.heads.Gives.TheVariants as gives
use Rattle.c_written.specs.declared.heads.Head.{Head}
use Rattle.c_written.specs.declared.heads.Head.TheVariants as heads
use Rattle.c_written.specs.declared.heads.Headed.{Headed}
use Rattle.c_written.specs.declared.heads.Sort.{Sort}
use Rattle.c_written.specs.declared.heads.Sort.TheVariants as sorts
use Rattle.c_written.specs.declared.heads.Step.{Step}
use Rattle.c_written.specs.declared.heads.Step.TheVariants as steps
use Rattle.c_written.specs.declared.puts.Other.{Other}
use Rattle.c_written.specs.declared.puts.Other.TheVariants as others
use Rattle.c_written.specs.declared.puts.Put.{Put}
use Rattle.c_written.specs.declared.puts.Put.TheVariants as puts
use Rattle.c_written.specs.declared.puts.Puts.{Puts}
use Rattle.c_written.specs.declared.functions.Place.{Place}
use Rattle.c_written.specs.declared.functions.Place.TheVariants as places
use Rattle.c_written.specs.declared.functions.Returned.{Returned}
use Rattle.c_written.specs.declared.functions.Source.{Source}
use Rattle.c_terminals.specs.Held.{written_all}
use Rattle.c_terminals.specs.Seen.{seen_all}

-- ---- heads

abbrev pub seen_sort : Sort → headings.Sort
seen_sort sorts.Scalar = headings.Scalar
seen_sort sorts.Array = headings.Array
seen_sort sorts.Small = headings.Small

abbrev pub seen_declared : Declared → headings.Declared
seen_declared d = record { name = d.name.now; sort = seen_sort d.sort }

abbrev pub seen_head : Head → headings.Head
seen_head heads.Begins = headings.Begins
seen_head heads.Typed = headings.Typed
seen_head heads.IntTyped = headings.IntTyped
seen_head heads.Starred = headings.Starred
seen_head (heads.Named d) = headings.Named d.name.now (seen_sort d.sort)
seen_head (heads.Opened x) = headings.Opened x.now
seen_head (heads.Sized x) = headings.Sized x.now
seen_head (heads.Rows x) = headings.Rows x.now
seen_head (heads.Inner x) = headings.Inner x.now

abbrev pub seen_step : Step → headings.Step
seen_step (steps.Goes h) = headings.Goes (seen_head h)
seen_step (steps.Adds d) = headings.Adds d.name.now (seen_sort d.sort)
seen_step (steps.Closes d) = headings.Closes d.name.now (seen_sort d.sort)
seen_step steps.Stops = headings.Stops

abbrev pub seen_gives : Gives → headings.Gives
seen_gives gives.NoValue = headings.NoValue
seen_gives gives.AValue = headings.AValue
seen_gives gives.AStatus = headings.AStatus

abbrev pub all_declared : List Declared → List headings.Declared
all_declared ds = map seen_declared ds

abbrev pub seen_headed : Headed → headings.Headed
seen_headed h = record { name = h.name.now; gives = seen_gives h.gives; declared = all_declared h.declared.items; len = h.len }

-- ---- names

abbrev pub seen_put : Put → functions.Put
seen_put (puts.Name x) = Called x.now
seen_put (puts.Number n) = Counts n

abbrev pub puts_of : Puts → SpecPuts
puts_of p = map (λ x. (x.0.now, seen_put x.1)) p.list.items

abbrev pub others_of : Other → Others
others_of others.Stays = stays
others_of (others.Known known) = other_name (map (λ x. x.now) known.now)

-- ---- calls

abbrev pub seen_parameter : Parameter → functions.Parameter
seen_parameter p = record { name = p.name.now; sort = seen_sort p.sort; assigned = p.assigned }

abbrev pub all_parameters : List Parameter → List functions.Parameter
all_parameters ps = map seen_parameter ps

abbrev pub seen_function : Function → functions.Function
seen_function f = record {
  name = f.name.now;
  parameters = all_parameters f.parameters.items;
  body = written_all f.body.items;
  value = written_all f.value.items;
}

abbrev pub functions_of : Scope → Functions
functions_of s = map seen_function s.functions.items

abbrev pub globals_of : Scope → Names
globals_of s = map (λ x. x.now) s.globals.items

abbrev pub seen_given : Given → functions.Arguments
seen_given g = record { list = map (λ v. seen_all v.items) g.list.items; len = g.len }

abbrev pub seen_front : Front → functions.Front
seen_front f = record { left = seen_all f.left.now; value = seen_all f.value.now }

-- a value is wanted, and there is none
abbrev pub lacks_value : functions.Front → Items → Bool
lacks_value front value = functions.has_value front.left && not (functions.has_value (bare value))

abbrev pub seen_expanded : Expanded → functions.Expanded
seen_expanded e = record { len = e.len; items = written_all e.items.items }

-- the statement that these tokens begin with, if it is a call for which there is room
abbrev pub fitting : ℕ → Option functions.Expanded → Option functions.Expanded
fitting room None = None
fitting room (Some e) = if nat_lt (length (bare e.items)) room then Some e else None

abbrev pub statement_at : Names → Functions → Bool → ℕ → Items → Option functions.Expanded
statement_at globals fs begins room is = if begins then fitting room (functions.expansion globals fs is) else None

abbrev pub seen_passed : Passed → functions.Passed
seen_passed p = record { before = written_all p.before.items; puts = puts_of p.puts }

-- what is passed so far, if all of it could be
abbrev pub passed_so_far : Bool → Passed → Option functions.Passed
passed_so_far b p = if b then Some (seen_passed p) else None

-- ---- the source

abbrev pub seen_returned : Returned → functions.Returned
seen_returned r = record { front = seen_all r.front.items; value = seen_all r.value.items }

abbrev pub known_in : Source → functions.Known
known_in s = record { functions = functions_of s.scope; globals = globals_of s.scope; next = s.next; room = s.room }

abbrev pub place_in : Source → Place → functions.Where
place_in s (places.Outside begins) = functions.Outside begins
place_in s (places.InHead h n) = functions.InHead (seen_headed h) (seen_all s.raw.items) n
place_in s (places.InBody h d l) = functions.InBody (seen_headed h) (seen_all s.raw.items) (seen_all s.body.items) d l

abbrev pub is_outside : Place → Bool
is_outside (places.Outside begins) = true
is_outside _ = false

-- what is written in the end where these tokens follow
abbrev pub with_source : Source → Place → Items → Items
with_source s p is = written_all s.done.items ++ functions.defined (known_in s) (place_in s p) is
