-- The pass, from what has been read.
use Rattle.std.specs.Prelude.{◌≡◌, ◌++◌}
use Rattle.c_grammar.specs.Blocks.{Items}
use Rattle.c_terminals.specs.Seen.{seen_all}
use Rattle.c_ints.specs.Ints as spec
use Rattle.c_ints.specs.Ints.{Kind, Mode, State, widened_from}
use Rattle.c_ints.specs.declared.values.Kind.{Kind as Code}
use Rattle.c_ints.specs.declared.values.Kind.TheVariants as kinds
use Rattle.c_ints.specs.declared.values.Value.{Value}
use Rattle.c_ints.specs.declared.widening.Mode.{Mode as Place}
use Rattle.c_ints.specs.declared.widening.Mode.TheVariants as places
use Rattle.c_ints.specs.declared.widening.Widening.{Widening}

abbrev pub seen_kind : Code → Kind
seen_kind kinds.Count = spec.Count
seen_kind kinds.Flag = spec.Flag

abbrev pub seen_value : Value → spec.Value
seen_value v = record { depth = v.depth; base = v.base; rank = v.rank; alone = v.alone }

abbrev pub seen_mode : Place → Mode
seen_mode places.Begins = spec.Begins
seen_mode places.Inside = spec.Inside
seen_mode places.Gone = spec.Gone
seen_mode (places.Named k) = spec.Named (seen_kind k)
seen_mode (places.Valued k) = spec.Valued (seen_kind k)
seen_mode (places.Further k) = spec.Further (seen_kind k)

abbrev pub seen_state : Widening → State
seen_state w = record { depth = w.depth; mode = seen_mode w.mode }

-- what is written in the end, where these tokens follow
abbrev pub with_rest : Widening → Items → Items
with_rest w is = seen_all w.done.items ++ widened_from (seen_state w) is

-- these tokens are written, and the mode is that
pub record IsPut (old : Widening) (put : Items) (m : Mode) (new : Widening) : Type 0 where
  pub done : seen_all new.done.items ≡ seen_all old.done.items ++ put
  pub mode : seen_mode new.mode ≡ m
  pub depth : new.depth ≡ old.depth
