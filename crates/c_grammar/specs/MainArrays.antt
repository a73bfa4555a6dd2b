-- Arrays that main declares: uint64_t a[4]; as a statement of main itself, in no block within it, is that declaration before
-- main, so that the array is global. An empty block stands in its place. In C the name stands for the array from there on:
-- where it stands before in main, the declaration is left as it is. An array without numbers has no values in C; here it
-- begins as zero. They are put so before local arrays are looked for.
use Rattle.std.specs.Prelude.{ℕ, zero, suc, Bool, false, not, ◌&&◌, ◌||◌, nat_lt, if◌then◌else◌, List, [], ◌∷◌, ◌++◌, length, Option, Some, None, codes}
use Rattle.c_tokens.specs.declared.kind.Sign.TheVariants as sign
use Rattle.c_grammar.specs.Lexeme.{Uint64}
use Rattle.c_grammar.specs.Terminal.{Terminal, Fixed, Name, same}
use Rattle.c_grammar.specs.Texts.{Item}
use Rattle.c_grammar.specs.Blocks.{Items, bare, is_directive}
use Rattle.c_grammar.specs.Constants.{is_mark, is_number}
use Rattle.c_grammar.specs.Allocations.{Reading, at_statement, begins_main, closed, entered, is_named, joined, kept, max_arrays, nothing_read, opened, passed}
use Rattle.c_grammar.specs.Triangles.{name_of}

-- ---- declarations

-- } ;
abbrev pub closes_list : Items → Bool
closes_list (b ∷ s ∷ is) = is_mark sign.CloseBrace b && is_mark sign.Semicolon s
closes_list is = false

-- numbers, behind the last of which a comma may stand, and the end
abbrev pub are_numbers : Items → Bool
are_numbers (n ∷ c ∷ is) =
    is_number n.terminal && (closes_list (c ∷ is) || (is_mark sign.Comma c && (closes_list is || are_numbers is)))
are_numbers is = false

abbrev pub lists_numbers : Items → Bool
lists_numbers [] = false
lists_numbers (o ∷ is) = is_mark sign.OpenBrace o && are_numbers is

-- the end, or numbers in braces
abbrev pub ends_array : Items → Bool
ends_array [] = false
ends_array (e ∷ is) = is_mark sign.Semicolon e || (is_mark sign.Equal e && lists_numbers is)

-- what follows [ NUM ]
abbrev pub behind_length : Items → Option Items
behind_length (o ∷ n ∷ c ∷ is) =
    if is_mark sign.OpenBracket o && is_number n.terminal && is_mark sign.CloseBracket c then Some is else None
behind_length is = None

abbrev pub ends_behind : Option Items → (Items → Bool) → Bool
ends_behind None go = false
ends_behind (Some is) go = ends_array is || go is

-- one length, or up to so many, and the rest of the declaration
abbrev pub has_lengths : ℕ → Items → Bool
has_lengths zero is = false
has_lengths (suc k) is = ends_behind (behind_length is) (λ js. has_lengths k js)

abbrev pub max_lengths : ℕ
max_lengths = 3

-- behind the type
abbrev pub array_named : Items → Option (List ℕ)
array_named [] = None
array_named (x ∷ is) = if has_lengths max_lengths is then name_of x.terminal else None

-- uint64_t NAME and its lengths
abbrev pub array_typed : Item Terminal → Items → Option (List ℕ)
array_typed t is = if same (Fixed Uint64) t.terminal then array_named is else None

abbrev pub is_static : Item Terminal → Bool
is_static i = same (Name (codes "static")) i.terminal

-- the name of the array that these tokens declare; the word static may stand before the type
abbrev pub array_in : Item Terminal → Items → Option (List ℕ)
array_in i [] = None
array_in i (t ∷ is) = if is_static i then array_typed t is else array_typed i (t ∷ is)

-- ---- all tokens

-- a token of a declaration
abbrev pub lifted_with : Item Terminal → Reading → Reading
lifted_with i r = record r { arrays = r.arrays ++ i ∷ [] }

abbrev pub closes : Items → Bool
closes [] = false
closes (b ∷ is) = is_mark sign.CloseBrace b

-- a further token of a declaration: the comma behind the last number is left out
abbrev pub declared_on : Item Terminal → Items → Reading → Reading
declared_on i is r =
    if is_mark sign.Semicolon i then closed i (lifted_with i r)
    else (if is_mark sign.Comma i && closes is then r else lifted_with i r)

-- its first token: the word static is left out
abbrev pub begun : Item Terminal → Reading → Reading
begun i r = opened i (if is_static i then r else lifted_with i r)

-- a declaration of that name is looked at
abbrev pub looked : List ℕ → Reading → Reading
looked x r = record r { names = x ∷ r.names }

-- not too many have been looked at, and the name stands nowhere before in main
abbrev pub is_lifted : List ℕ → Reading → Bool
is_lifted x r = nat_lt (length r.names) max_arrays && not (is_named x (bare r.done))

abbrev pub by_array : Item Terminal → Option (List ℕ) → Reading → Reading
by_array i None r = kept i r
by_array i (Some x) r = if is_lifted x r then begun i (looked x r) else kept i (looked x r)

-- the next token, before others
abbrev pub taken : Item Terminal → Items → Reading → Reading
taken i is r =
    if r.out then declared_on i is r
    else (if at_statement r then by_array i (array_in i is) r
    else (if not r.inside && begins_main i is then entered i r else kept i r))

abbrev pub next : Item Terminal → Items → Reading → Reading
next i is r = if is_directive i.terminal then passed i r else taken i (bare is) r

abbrev pub all_lifted : Reading → Items → Reading
all_lifted r [] = r
all_lifted r (i ∷ is) = all_lifted (next i is r) is

-- the tokens with the arrays that main declares before it
abbrev pub lifted : Items → Items
lifted is = joined (all_lifted nothing_read is)
