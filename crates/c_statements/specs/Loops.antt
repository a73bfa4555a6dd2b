-- The heads of loops that were read.
use Rattle.std.specs.Prelude.{◌≡◌, ℕ, length, drop, List, [], ◌∷◌, ◌++◌, Some}
use Rattle.c_tokens.specs.declared.kind.Sign.TheVariants as sign
use Rattle.base.specs.declared.tree.Bounds.{Bounds}
use Rattle.c_grammar.specs.Terminal.{Terminal, Mark, Name, Num}
use Rattle.c_grammar.specs.Rules.{Context, out}
use Rattle.c_expressions.specs.declared.scope.Scope.{Scope}
use Rattle.c_expressions.specs.Means.{Items}
use Rattle.c_expressions.specs.Reading.{terminals}

-- the loop's name waits for its body
abbrev pub waiting : List ℕ → Context → Context
waiting x c = record (out c) { turn = Some x }

-- behind the limit of a loop's head
abbrev pub with_limit : Scope → ℕ → Scope
with_limit s n = record s { limit = n }

-- these tokens stand between
pub record IsGone (ts : List Terminal) (before after : Items) : Type 0 where
  pub tokens : terminals before ≡ ts ++ terminals after
  pub rest : after ≡ drop (length ts) before

-- the tokens of a loop's head behind its name's first place
abbrev pub bounds_tokens : List ℕ → Bounds → List Terminal
bounds_tokens x b =
    Mark sign.Equal ∷ Num (Some b.first) ∷ Mark sign.Semicolon ∷
    Name x ∷ Mark sign.Less ∷ Num (Some b.end) ∷ Mark sign.Semicolon ∷
    Name x ∷ Mark sign.PlusEqual ∷ Num (Some b.step) ∷ Mark sign.CloseParen ∷ []
