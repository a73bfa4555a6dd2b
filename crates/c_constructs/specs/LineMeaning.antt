-- What the line of a directive means that was read.
use Rattle.std.specs.Prelude.{◌≡◌, ℕ, ◌+◌, Bool, true, false, List, [], ◌∷◌, map}
use Rattle.c_grammar.specs.Lexeme.{Lexeme}
use Rattle.c_grammar.specs.LineGrammar.{AtomicUpdate, LineText, line_slots}
use Rattle.c_grammar.specs.LineRules.{IsLine}
use Rattle.c_grammar.specs.Lines.{holds, is_omp, depth_of}
use Rattle.c_grammar.specs.Terminal.{Terminal, Line}
use Rattle.c_grammar.specs.Texts.{Item}
use Rattle.c_expressions.specs.declared.scope.Scope.{Scope}
use Rattle.c_expressions.specs.Means.{Items, Names, place_of}
use Rattle.c_constructs.specs.declared.resolved.Construct.{Construct}
use Rattle.c_constructs.specs.declared.resolved.Construct.TheVariants as construct
use Rattle.c_constructs.specs.declared.resolved.Resolved.{Resolved}
use Rattle.c_constructs.specs.declared.resolved.Resolved.TheVariants as resolved
use Rattle.c_constructs.specs.Steps.{one_more}
use Rattle.c_constructs.specs.Written.{IsAlone, IsTarget, IsData}

-- the tree of the line of a directive
pub record LineOf (l : List Lexeme) : Type 0 where
  pub text : LineText
  pub is_line : IsLine text
  pub tokens : map (λ x. x.0) (line_slots text) ≡ l

-- the tokens of a line
abbrev pub lexemes_on : Terminal → List Lexeme
lexemes_on (Line ts) = ts
lexemes_on _ = []

-- a block or loop must follow the directive
abbrev pub is_over : Resolved → Bool
is_over (resolved.Alone place d) = false
is_over (resolved.Over c) = true
is_over resolved.Atomic = false

-- how many nested loops must follow it, whose turns may run in any order
abbrev pub depth_over : Construct → ℕ
depth_over (construct.Target g depth) = depth
depth_over (construct.Data g) = 0

abbrev pub depth_in : Resolved → ℕ
depth_in (resolved.Alone place d) = 0
depth_in (resolved.Over c) = depth_over c
depth_in resolved.Atomic = 0

-- the line that is the first of these tokens means this; that of an atomic update means no directive of a part
abbrev pub Means : Names → Items → LineText → Resolved → Type 0
Means names is t (resolved.Alone place d) = (place ≡ place_of is) × IsAlone names is t d
Means names is t (resolved.Over (construct.Target g depth)) = IsTarget names is t g
Means names is t (resolved.Over (construct.Data g)) = IsData names is t g
Means names is t resolved.Atomic = t.kind ≡ AtomicUpdate

-- that is what the line of this token means, which the others follow
pub record IsRead (names : Names) (item : Item Terminal) (behind : Items) (d : Resolved) : Type 0 where
  pub line : LineOf (lexemes_on item.terminal)
  pub words : is_omp (lexemes_on item.terminal) ≡ true
  pub over : holds (lexemes_on item.terminal) ≡ is_over d
  pub depth : depth_of (lexemes_on item.terminal) ≡ depth_in d
  pub means : Means names (item ∷ behind) line.text d

-- the next block is that of a target
abbrev pub is_target : Construct → Bool
is_target (construct.Target g depth) = true
is_target (construct.Data g) = false

-- what is known behind the line: a statement more has begun, and a block or loop must follow
abbrev pub scope_behind : Resolved → Scope → Scope
scope_behind (resolved.Alone place d) s = one_more s
scope_behind resolved.Atomic s = one_more s
scope_behind (resolved.Over c) s = record s { statements = s.statements + 1; target = is_target c }
