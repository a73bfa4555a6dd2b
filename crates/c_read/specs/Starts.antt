-- What is known before the first token of a source.
use Rattle.std.specs.Prelude.{◌≡◌}
use Rattle.c_grammar.specs.Rules.{begin}
use Rattle.c_expressions.specs.declared.scope.Scope.{Scope}
use Rattle.c_expressions.specs.Scopes.{context_of}
use Rattle.c_read.specs.Globals.{front_of, no_front}

pub record IsStart (s : Scope) : Type 0 where
  pub context : context_of s 0 0 ≡ begin
  pub front : front_of s ≡ no_front
