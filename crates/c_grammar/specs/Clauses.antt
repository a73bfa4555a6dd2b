-- A directive line with the map types that its clauses leave out, and without the clauses that say what holds anyway.
use Rattle.std.specs.Prelude.{ℕ, zero, suc, ◌+◌, ◌-◌, ◌==◌, Bool, true, false, not, ◌&&◌, ◌||◌, nat_le, if◌then◌else◌, List, [], ◌∷◌, ◌++◌, drop, Option, Some, None, codes}
use Rattle.c_tokens.specs.declared.kind.Sign.{Sign}
use Rattle.c_tokens.specs.declared.kind.Sign.TheVariants as sign
use Rattle.c_grammar.specs.Lexeme.{Lexeme, Signed, Worded, Ended, Placed, same}
use Rattle.c_grammar.specs.LineRules.{is_among}
use Rattle.c_grammar.specs.Expressions.{Values, value_of}
use Rattle.c_grammar.specs.LineForms.{is_sign, is_worded, begins_word, all_at}

-- what the clauses of a line are read with
pub record Scope : Type 0 where
  -- the names that are declared before, and the arrays with their lengths
  pub names : List (List ℕ)
  pub arrays : Values
  -- the type of a map clause without one
  pub map_type : List ℕ
  -- whether it has threads, which share what is not their own; whether it captures scalars
  pub shares : Bool
  pub captures : Bool
  -- whether it may be done later
  pub defers : Bool

-- ---- the directive

abbrev pub first_word : List ℕ → List Placed → Bool
first_word x [] = false
first_word x (p ∷ ps) = same (Worded x) p.lexeme

abbrev pub first_sign : Sign → List Placed → Bool
first_sign s [] = false
first_sign s (p ∷ ps) = is_sign s p.lexeme

abbrev pub behind_first : List Placed → List Placed
behind_first [] = []
behind_first (p ∷ ps) = ps

-- the type of a map clause without one, by the words behind target (section 5.8.3)
abbrev pub type_for : List Placed → List ℕ
type_for ps =
    if first_word (codes "enter") ps then codes "to" else (if first_word (codes "exit") ps then codes "from" else codes "tofrom")

-- a construct with threads: all combined ones but target simd. There default and shared may stand, and elsewhere C has none
abbrev pub has_threads : List Placed → Bool
has_threads ps = first_word (codes "parallel") ps || first_word (codes "teams") ps

-- a construct with a block or a loop of its own, which captures the scalars that it uses
abbrev pub has_body : List Placed → Bool
has_body ps =
    not (first_word (codes "data") ps || first_word (codes "enter") ps || first_word (codes "exit") ps || first_word (codes "update") ps)

abbrev pub has_nowait : List Placed → Bool
has_nowait [] = false
has_nowait (p ∷ ps) = same (Worded (codes "nowait")) p.lexeme || has_nowait ps

-- by the tokens behind the words pragma omp
abbrev pub scope_of : List (List ℕ) → Values → List Placed → Scope
scope_of names arrays ps = record {
  names = names;
  arrays = arrays;
  map_type = type_for (behind_first ps);
  shares = first_word (codes "target") ps && has_threads (behind_first ps);
  captures = first_word (codes "target") ps && has_body (behind_first ps);
  defers = has_nowait ps;
}

-- ---- the clauses that are left out

abbrev pub is_array : Option ℕ → Bool
is_array None = false
is_array (Some n) = true

-- a declared name, of a scalar where only such may stand
abbrev pub may_stand : Scope → Bool → Lexeme → Bool
may_stand s scalar (Worded x) = is_among s.names x && not (scalar && is_array (value_of s.arrays x))
may_stand s scalar _ = false

-- how many tokens names and the bracket behind them are, and those before
abbrev pub names_len : Scope → Bool → ℕ → List Placed → Option ℕ
names_len s scalar k (x ∷ c ∷ ps) =
    if may_stand s scalar x.lexeme
    then (if is_sign sign.CloseParen c.lexeme then Some (k + 2)
    else (if is_sign sign.Comma c.lexeme then names_len s scalar (k + 2) ps else None))
    else None
names_len s scalar k _ = None

-- what may stand in default: where C takes the source, none says nothing, since it is then in a clause what each name is
abbrev pub is_default : Lexeme → Bool
is_default t = same (Worded (codes "shared")) t || same (Worded (codes "none")) t

-- behind the bracket of default
abbrev pub default_len : List Placed → Option ℕ
default_len (x ∷ c ∷ ps) = if is_default x.lexeme && is_sign sign.CloseParen c.lexeme then Some 3 else None
default_len _ = None

abbrev pub is_word_at : List ℕ → Placed → Bool
is_word_at x p = same (Worded x) p.lexeme

-- what is used without a map item is mapped so where no kind of variables is named: by tofrom pointers would be too
abbrev pub maps_so : Placed → Bool
maps_so w = is_word_at (codes "default") w

-- or this kind: arrays are anyway, and a scalar that the host cannot change meanwhile is seen alike
abbrev pub maps_kind_so : Scope → Placed → Placed → Bool
maps_kind_so s w k =
    (is_word_at (codes "default") w && is_worded k.lexeme) ||
    (is_word_at (codes "tofrom") w && (is_word_at (codes "aggregate") k || (is_word_at (codes "scalar") k && not s.defers))) ||
    (is_word_at (codes "firstprivate") w && is_word_at (codes "scalar") k)

abbrev pub is_any_kind : List Placed → Bool
is_any_kind (w ∷ c ∷ ps) = maps_so w && is_sign sign.CloseParen c.lexeme
is_any_kind ps = false

abbrev pub is_one_kind : Scope → List Placed → Bool
is_one_kind s (w ∷ c ∷ k ∷ e ∷ ps) =
    maps_kind_so s w k && is_sign sign.Colon c.lexeme && is_sign sign.CloseParen e.lexeme
is_one_kind s ps = false

-- behind the bracket of defaultmap: what says what holds anyway
abbrev pub map_len : Scope → List Placed → Option ℕ
map_len s ps = if is_any_kind ps then Some 3 else (if is_one_kind s ps then Some 5 else None)

-- behind the bracket of the clause with this word
abbrev pub list_len : Scope → Lexeme → List Placed → Option ℕ
list_len s t ps =
    if s.shares && same (Worded (codes "default")) t then default_len ps
    else (if s.shares && same (Worded (codes "shared")) t then names_len s false 1 ps
    else (if s.captures && same (Worded (codes "firstprivate")) t then names_len s true 1 ps
    else (if s.captures && same (Worded (codes "defaultmap")) t then map_len s ps else None)))

abbrev pub clause_len : Scope → List Placed → Option ℕ
clause_len s (p ∷ o ∷ ps) = if is_sign sign.OpenParen o.lexeme then list_len s p.lexeme ps else None
clause_len s _ = None

abbrev pub begins_clause : List Placed → Bool
begins_clause [] = false
begins_clause (p ∷ ps) = same (Worded (codes "nowait")) p.lexeme || (begins_word p.lexeme && first_sign sign.OpenParen ps)

-- a clause of k tokens behind its word, and the comma behind it; the line goes on with a clause, or ends
abbrev pub with_comma : ℕ → List Placed → Option ℕ
with_comma k [] = None
with_comma k (p ∷ ps) =
    if same Ended p.lexeme || begins_clause (p ∷ ps) then Some k
    else (if is_sign sign.Comma p.lexeme && begins_clause ps then Some (k + 1) else None)

abbrev pub up_to_next : Option ℕ → List Placed → Option ℕ
up_to_next None ps = None
up_to_next (Some k) ps = with_comma k (drop (k + 1) ps)

-- how many tokens go with the first, if it begins a clause that says what holds anyway: default(shared), the names of what
-- is shared, and scalars that are captured without it
abbrev pub idle_len : Scope → List Placed → Option ℕ
idle_len s ps = up_to_next (clause_len s ps) ps

abbrev pub is_idle : Option ℕ → Bool
is_idle None = false
is_idle (Some k) = true

-- ---- the types of map clauses

-- what has been read of map items
pub data Part : Type 0 where
  BeforeName AfterName InBounds AfterBounds Closed Broken : Part

abbrev pub after_item : Lexeme → Part
after_item t = if is_sign sign.Comma t then BeforeName else (if is_sign sign.CloseParen t then Closed else Broken)

abbrev pub part_after : Part → Lexeme → Part
part_after BeforeName t = if is_worded t then AfterName else Broken
part_after AfterName t = if is_sign sign.OpenBracket t then InBounds else after_item t
part_after InBounds t = if is_sign sign.CloseBracket t then AfterBounds else InBounds
part_after AfterBounds t = after_item t
part_after Closed t = Closed
part_after Broken t = Broken

-- items and the bracket behind them
abbrev pub are_items : Part → List Placed → Bool
are_items Closed ps = true
are_items Broken ps = false
are_items part [] = false
are_items part (p ∷ ps) = are_items (part_after part p.lexeme) ps

-- ---- the line

-- where a token stands: so many brackets are open, and a clause ends before it
pub record Place : Type 0 where
  pub depth : ℕ
  pub ended : Bool

abbrev pub at_begin : Place
at_begin = record { depth = 0; ended = false }

abbrev pub place_after : Lexeme → Place → Place
place_after t at =
    if is_sign sign.OpenParen t then record { depth = at.depth + 1; ended = false }
    else (if is_sign sign.CloseParen t then record { depth = at.depth - 1; ended = nat_le at.depth 1 }
    else record { depth = at.depth; ended = (at.depth == 0) && same (Worded (codes "nowait")) t })

-- what becomes of a token
pub data Step : Type 0 where
  Keep : Step
  -- it is left out, and so many more
  LeaveOut : (more : ℕ) → Step
  -- behind the bracket that follows it a type is put, at the column of what stands there
  PutType : (bracket : Placed) (column : ℕ) → Step

abbrev pub type_step : List Placed → Step
type_step (p ∷ o ∷ n ∷ ps) =
    if same (Worded (codes "map")) p.lexeme && is_sign sign.OpenParen o.lexeme && are_items BeforeName (n ∷ ps)
    then PutType o n.column else Keep
type_step _ = Keep

abbrev pub leave_or : Option ℕ → Step → Step
leave_or None other = other
leave_or (Some k) other = LeaveOut k

-- the comma before a clause that is left out goes too
abbrev pub clause_step : Scope → Bool → List Placed → Step
clause_step s ended [] = Keep
clause_step s ended (p ∷ ps) =
    if ended && is_sign sign.Comma p.lexeme && is_idle (idle_len s ps) then LeaveOut 0
    else leave_or (idle_len s (p ∷ ps)) (type_step (p ∷ ps))

abbrev pub step_at : Scope → Place → List Placed → Step
step_at s at ps = if at.depth == 0 then clause_step s at.ended ps else Keep

abbrev pub put_step : Scope → Place → Placed → Step → (Place → ℕ → List Placed) → List Placed
put_step s at p Keep go = p ∷ go (place_after p.lexeme at) 0
put_step s at p (LeaveOut k) go = go at k
put_step s at p (PutType o column) go =
    p ∷ o ∷ (all_at column (Worded s.map_type ∷ Signed sign.Colon ∷ []) ++ go (record { depth = 1; ended = false }) 1)

-- the rest of a line at a place, of which k more tokens are left out or written already
unfoldable pub clauses_from : Scope → Place → ℕ → List Placed → List Placed
clauses_from s at k [] = []
clauses_from s at (suc k) (p ∷ ps) = clauses_from s at k ps
clauses_from s at zero (p ∷ ps) = put_step s at p (step_at s at (p ∷ ps)) (λ at k. clauses_from s at k ps)

-- a line, where these names and arrays are declared before it
abbrev pub clauses_in_full : List (List ℕ) → Values → List Placed → List Placed
clauses_in_full names arrays [] = []
clauses_in_full names arrays (p ∷ []) = p ∷ []
clauses_in_full names arrays (p ∷ q ∷ ps) = p ∷ q ∷ clauses_from (scope_of names arrays ps) at_begin 0 ps
