-- The globals of a program, and what stands before each token of their declarations.
use Rattle.std.specs.Prelude.{◌≡◌, ℕ, ◌+◌, ◌-◌, Bool, true, false, ◌&&◌, ◌||◌, nat_lt, nat_le, if◌then◌else◌, List, [], ◌∷◌, ◌++◌, length, map, drop, Option, Some, None, is_some, string_bytes}
use Rattle.std.specs.declared.string.String.{String}
use Rattle.c_tokens.specs.declared.kind.Sign.TheVariants as sign
use Rattle.base.specs.declared.fault.ReadCode.{ReadCode as Code}
use Rattle.base.specs.declared.fault.ReadCode.TheVariants.{AlreadyDeclared, TooMany}
use Rattle.base.specs.declared.tree.ArrayInfo.{ArrayInfo}
use Rattle.c_grammar.specs.Grammar.{Global, Scalar, Array, Text, globals}
use Rattle.c_grammar.specs.LineRules.{max_name}
use Rattle.c_grammar.specs.Terminal.{Terminal, Fixed, Mark, Name, Num, same}
use Rattle.c_grammar.specs.Lexeme.{Lexeme, Uint64}
use Rattle.c_grammar.specs.Lines.{boxed_names}
use Rattle.c_grammar.specs.Rules.{Context, out, inside, under_if, fresh_names, is_visible, numbered_from, sort_of, max_arrays, max_scalars}
use Rattle.c_expressions.specs.declared.scope.Meaning.TheVariants as meaning
use Rattle.c_expressions.specs.declared.scope.Scope.{Scope}
use Rattle.c_expressions.specs.Means.{Items, Names, meaning_of}
use Rattle.c_expressions.specs.Reading.{terminals, kinds}
use Rattle.c_expressions.specs.Scopes.{Boxes, as_boxes, context_of, names_of}
use Rattle.c_statements.specs.Statements.{Env, with_scalar}
use Rattle.c_statements.specs.Simple.{env_of}
use Rattle.c_statements.specs.Loops.{IsGone}

-- behind the name of a global
abbrev pub naming : List ℕ → Context → Context
naming x c = record (out c) { fresh = Some x }

-- behind the length of an array
abbrev pub with_cells : Scope → ℕ → Scope
with_cells s n = record s { cells = n }

-- a limit is met at the name of a global, before a token
abbrev pub is_over : Scope → List ℕ → Terminal → Bool
is_over sc x next =
    nat_lt max_name (length x) || ((same (Mark sign.OpenBracket) next && nat_le max_arrays sc.arrays) ||
    (same (Mark sign.Semicolon) next && nat_le max_scalars sc.scalars))

-- the fault of the name of a global, before a token
abbrev pub global_code : Scope → List ℕ → Terminal → Option Code
global_code sc x next =
    if is_visible (sort_of (context_of sc 0 0) x) then Some AlreadyDeclared
    else (if is_over sc x next then Some TooMany else None)

-- no block is opened
pub record IsStill (old new : Scope) : Type 0 where
  pub target : new.target ≡ old.target
  pub choice : new.choice ≡ old.choice
  pub always : under_if (context_of new 0 0) ≡ under_if (context_of old 0 0)

-- one array more is declared
pub record IsArrayNamed (x : List ℕ) (old new : Scope) : Type 0 where
  pub names : names_of new ≡ (x, meaning.Array (record { 0 = old.arrays })) ∷ names_of old
  pub arrays : new.arrays ≡ old.arrays + 1
  pub next : new.scalars ≡ old.scalars
  pub boxes : (context_of new 0 0).boxes ≡ (context_of old 0 0).boxes
  pub inside_is : inside (context_of new 0 0) ≡ inside (context_of old 0 0)
  pub still : IsStill old new

-- one scalar more is declared
pub record IsScalarNamed (x : List ℕ) (old new : Scope) : Type 0 where
  pub names :
      names_of new ≡ (x, meaning.Scalar (record { 0 = old.scalars }) (inside (context_of old 0 0))) ∷ names_of old
  pub arrays : new.arrays ≡ old.arrays
  pub next : new.scalars ≡ old.scalars + 1
  pub boxes : (context_of new 0 0).boxes ≡ (context_of old 0 0).boxes
  pub inside_is : inside (context_of new 0 0) ≡ inside (context_of old 0 0)
  pub still : IsStill old new

-- ---- what the globals declare

-- the arrays, with their lengths
abbrev pub arrays_in : List Global → List (List ℕ × Option ℕ)
arrays_in [] = []
arrays_in (Scalar x ∷ gs) = arrays_in gs
arrays_in (Array x n ∷ gs) = (x, n) ∷ arrays_in gs

-- how many arrays are declared, and what stands before the next token
pub record Front : Type 0 where
  pub arrays : ℕ
  pub env : Env

abbrev pub no_front : Front
no_front = record { arrays = 0; env = record { names = []; boxes = []; scalars = 0; loops = 0; inside = false } }

abbrev pub with_array : List ℕ → Front → Front
with_array x f =
    record {
      arrays = f.arrays + 1;
      env = record f.env { names = (x, meaning.Array (record { 0 = f.arrays })) ∷ f.env.names };
    }

abbrev pub with_global : Global → Front → Front
with_global (Scalar x) f = record f { env = with_scalar x f.env }
with_global (Array x n) f = with_array x f

abbrev pub behind_globals : List Global → Front → Front
behind_globals [] f = f
behind_globals (g ∷ gs) f = behind_globals gs (with_global g f)

-- ---- the boxed scalars

-- of these names, numbered from k on
abbrev pub boxes_from : ℕ → List (List ℕ) → Boxes
boxes_from k xs = as_boxes (numbered_from k xs)

-- the names of the boxed scalars behind some globals
abbrev pub boxes_on : Front → Option (List Lexeme) → List (List ℕ)
boxes_on f None = []
boxes_on f (Some l) = fresh_names (λ x. is_some (meaning_of f.env.names x)) (max_arrays - f.arrays) [] (boxed_names l)

abbrev pub with_boxes : Option (List Lexeme) → Front → Front
with_boxes o f =
    record {
      arrays = f.arrays + length (boxes_on f o);
      env = record f.env { boxes = boxes_from f.arrays (boxes_on f o) };
    }

-- their arrays, of one cell each
abbrev pub boxes_in : List (List ℕ) → List (List ℕ × Option ℕ)
boxes_in xs = map (λ x. (x, Some 1)) xs

-- what stands before the statements of main
abbrev pub front_of_text : Text → Front
front_of_text t = with_boxes t.boxes (behind_globals t.globals no_front)

abbrev pub boxes_of_text : Text → List (List ℕ)
boxes_of_text t = boxes_on (behind_globals t.globals no_front) t.boxes

-- ---- what was read of them

abbrev pub front_of : Scope → Front
front_of s = record { arrays = s.arrays; env = env_of s }

abbrev pub entry_of : {Z : Type 0} → String Z × ArrayInfo → List ℕ × Option ℕ
entry_of e = (string_bytes e.0, Some e.1.length)

-- all names of these arrays are visible
abbrev pub AreKnown : {Z : Type 0} → Names → List (String Z × ArrayInfo) → Type 0
AreKnown names [] = Unit {0}
AreKnown names (e ∷ es) = (is_some (meaning_of names (string_bytes e.0)) ≡ true) × AreKnown names es

-- the word and the name of a global
pub record IsNamedAt (x : List ℕ) (before after : Items) : Type 0 where
  pub gone : IsGone (Fixed Uint64 ∷ Name x ∷ []) before after

-- behind the name of an array: these tokens end its declaration
pub record IsArrayRead {Z : Type 0} (x : List ℕ) (old new : Scope) (es fs : List (String Z × ArrayInfo)) (before after : Items) : Type 0 where
  pub cells : ℕ
  pub gone :
      IsGone (Mark sign.OpenBracket ∷ Num (Some cells) ∷ Mark sign.CloseBracket ∷ Mark sign.Semicolon ∷ []) before after
  pub named : IsArrayNamed x old new
  pub entries : map entry_of fs ≡ map entry_of es ++ (x, Some cells) ∷ []
  pub known : AreKnown (names_of new) fs

-- these tokens declare globals, and then these stand
pub record AreGlobalsRead {Z : Type 0} (old new : Scope) (es fs : List (String Z × ArrayInfo)) (before after : Items) : Type 0 where
  pub text : List Global
  pub tokens : terminals before ≡ kinds (globals text) ++ terminals after
  pub rest : after ≡ drop (length (globals text)) before
  pub front : front_of new ≡ behind_globals text (front_of old)
  pub still : IsStill old new
  pub entries : map entry_of fs ≡ map entry_of es ++ arrays_in text
  pub known : AreKnown (names_of new) fs
