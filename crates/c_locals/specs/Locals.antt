-- A pass, from what has been read.
use Rattle.std.specs.Prelude.{◌≡◌, ◌++◌, ◌∷◌, []}
use Rattle.c_grammar.specs.Texts.{Item}
use Rattle.c_grammar.specs.Terminal.{Terminal}
use Rattle.c_grammar.specs.Blocks.{Items}
use Rattle.c_grammar.specs.Locals.{Pass, Put, Replace, Unroll, scan}
use Rattle.c_terminals.specs.Held.{written_all}
use Rattle.c_locals.specs.Puts.{seen_state}
use Rattle.c_locals.specs.declared.locals.Locals.{Locals}
use Rattle.c_locals.specs.declared.locals.Pass.{Pass as Given}
use Rattle.c_locals.specs.declared.locals.Pass.TheVariants as given

abbrev pub seen_pass : Given → Pass
seen_pass given.Unroll = Unroll
seen_pass given.Replace = Replace

-- what is written in the end, where these tokens follow
abbrev pub with_locals : Locals → Items → Items
with_locals l is = written_all l.done.items ++ scan (seen_pass l.pass) (seen_state l.state) l.left is

-- the token is written, and nothing else is another
pub record HasPut (old : Locals) (i : Item Terminal) (new : Locals) : Type 0 where
  pub done : written_all new.done.items ≡ written_all old.done.items ++ i ∷ []
  pub state : new.state ≡ old.state
  pub pass : new.pass ≡ old.pass
  pub left : new.left ≡ old.left

-- these tokens are written, with the state behind them
pub record IsPut (old : Locals) (q : Put) (new : Locals) : Type 0 where
  pub done : written_all new.done.items ≡ written_all old.done.items ++ q.items
  pub state : seen_state new.state ≡ q.state
  pub pass : new.pass ≡ old.pass
  pub left : new.left ≡ q.skip
