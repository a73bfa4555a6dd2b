-- The head of a function: its name, what it gives and its parameters.
use Rattle.std.specs.Prelude.{ℕ, ◌+◌, ◌-◌, Bool, true, false, ◌&&◌, ◌||◌, if◌then◌else◌, List, [], ◌∷◌, ◌++◌, drop, Option, Some, None, codes}
use Rattle.c_tokens.specs.declared.kind.Sign.TheVariants as sign
use Rattle.c_grammar.specs.Lexeme.{Uint64, Int, Void}
use Rattle.c_grammar.specs.Terminal.{Terminal, Fixed, Mark, Name, same}
use Rattle.c_grammar.specs.Texts.{Item}
use Rattle.c_grammar.specs.Blocks.{Items}
use Rattle.c_grammar.specs.Changes.{is_mark}
use Rattle.c_grammar.specs.Constants.{is_number}

-- what a parameter is: a number of 64 bits, an array, a number of the type int
pub data Sort : Type 0 where
  Scalar Array Small : Sort

abbrev pub is_array : Sort → Bool
is_array Array = true
is_array s = false

abbrev pub is_scalar : Sort → Bool
is_scalar Scalar = true
is_scalar s = false

pub record Declared : Type 0 where
  pub name : List ℕ
  pub sort : Sort

-- what has been read of a parameter
pub data Head : Type 0 where
  Begins Typed IntTyped Starred : Head
  Named : (x : List ℕ) (sort : Sort) → Head
  -- in brackets, before their number and behind it
  Opened Sized : (x : List ℕ) → Head
  -- behind brackets; in others behind those, before their number
  Rows Inner : (x : List ℕ) → Head

-- the parameter goes on, another one follows, it was the last one, or it is none
pub data Step : Type 0 where
  Goes : (h : Head) → Step
  Adds Closes : (x : List ℕ) (sort : Sort) → Step
  Stops : Step

abbrev pub is_qualifier : Terminal → Bool
is_qualifier t =
    same (Name (codes "const")) t || same (Name (codes "restrict")) t || same (Name (codes "__restrict__")) t ||
    same (Name (codes "__restrict")) t

abbrev pub named : Terminal → Sort → Step
named (Name x) sort = Goes (Named x sort)
named t sort = Stops

abbrev pub behind_name : List ℕ → Sort → Terminal → Step
behind_name x sort t =
    if same (Mark sign.Comma) t then Adds x sort
    else (if same (Mark sign.CloseParen) t then Closes x sort
    else (if same (Mark sign.OpenBracket) t && is_scalar sort then Goes (Opened x) else Stops))

abbrev pub closing : List ℕ → Terminal → Step
closing x t = if same (Mark sign.CloseBracket) t then Goes (Rows x) else Stops

abbrev pub behind_rows : List ℕ → Terminal → Step
behind_rows x t = if same (Mark sign.OpenBracket) t then Goes (Inner x) else behind_name x Array t

abbrev pub columns : List ℕ → Terminal → Step
columns x t = if is_number t then Goes (Sized x) else Stops

abbrev pub behind : Head → Terminal → Step
behind Begins t =
    if is_qualifier t then Goes Begins
    else (if same (Fixed Uint64) t then Goes Typed else (if same (Fixed Int) t then Goes IntTyped else Stops))
behind Typed t =
    if is_qualifier t then Goes Typed else (if same (Mark sign.Star) t then Goes Starred else named t Scalar)
behind IntTyped t = if is_qualifier t then Goes IntTyped else named t Small
behind Starred t = if is_qualifier t then Goes Starred else named t Array
behind (Named x sort) t = behind_name x sort t
behind (Opened x) t = if is_number t then Goes (Sized x) else closing x t
behind (Sized x) t = closing x t
behind (Rows x) t = behind_rows x t
behind (Inner x) t = columns x t

abbrev pub Parameters : Type 0
Parameters = Option (List Declared × ℕ)

abbrev pub declares : List ℕ → Sort → Declared
declares x sort = record { name = x; sort = sort }

abbrev pub parameter_on : Step → List Declared → ℕ → (Head → List Declared → Parameters) → Parameters
parameter_on (Goes h) ps k go = go h ps
parameter_on (Adds x sort) ps k go = go Begins (ps ++ declares x sort ∷ [])
parameter_on (Closes x sort) ps k go = Some (ps ++ declares x sort ∷ [], k)
parameter_on Stops ps k go = None

-- the parameters up to the closing bracket, and how many tokens that is
unfoldable pub parameters : Head → List Declared → ℕ → Items → Parameters
parameters h ps k [] = None
parameters h ps k (i ∷ is) =
    parameter_on (behind h i.terminal) ps (k + 1) (λ h ps. parameters h ps (k + 1) is)

-- without parameters: one bracket, or void and one
abbrev pub no_parameters : Items → Option ℕ
no_parameters (i ∷ is) =
    if is_mark sign.CloseParen i then Some 1 else (if same (Fixed Void) i.terminal then voided is else None)
  where
    voided : Items → Option ℕ
    voided (j ∷ js) = if is_mark sign.CloseParen j then Some 2 else None
    voided [] = None
no_parameters [] = None

abbrev pub parameters_in : Option ℕ → Items → Parameters
parameters_in (Some k) is = Some ([], k)
parameters_in None is = parameters Begins [] 0 is

-- what a function gives: nothing, a number of 64 bits, or a number of the type int, which no call uses
pub data Gives : Type 0 where
  NoValue AValue AStatus : Gives

-- the head of a function that is defined: its name, what it gives, its parameters, and how many more tokens the head has, up to
-- the brace
pub record Headed : Type 0 where
  pub name : List ℕ
  pub gives : Gives
  pub declared : List Declared
  pub len : ℕ

abbrev pub opens_body : ℕ → Items → Bool
opens_body k is = begins (drop k is)
  where
    begins : Items → Bool
    begins (i ∷ is) = is_mark sign.OpenBrace i
    begins [] = false

abbrev pub headed_on : List ℕ → Gives → Items → Parameters → Option Headed
headed_on x gives is None = None
headed_on x gives is (Some p) =
    if opens_body p.1 is then Some (record { name = x; gives = gives; declared = p.0; len = 3 + p.1 }) else None

abbrev pub headed_by : Terminal → Gives → Item Terminal → Items → Option Headed
headed_by (Name x) gives o is =
    if is_mark sign.OpenParen o then headed_on x gives is (parameters_in (no_parameters is) is) else None
headed_by t gives o is = None

-- behind the type of what it gives
abbrev pub headed : Gives → Items → Option Headed
headed gives (x ∷ o ∷ is) = headed_by x.terminal gives o is
headed gives is = None

abbrev pub is_type : Terminal → Bool
is_type t = same (Fixed Void) t || same (Fixed Uint64) t || same (Fixed Int) t

abbrev pub head_at : Terminal → Items → Option Headed
head_at t is =
    if same (Fixed Void) t then headed NoValue is
    else (if same (Fixed Uint64) t then headed AValue is else (if same (Fixed Int) t then headed AStatus is else None))
