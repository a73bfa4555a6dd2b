-- Changes that are written in full.
use Rattle.std.specs.Prelude.{◌≡◌, ℕ, ◌-◌, ◌++◌, ◌∷◌, [], reverse, nat_le, if◌then◌else◌}
use Rattle.c_tokens.specs.declared.kind.Sign.TheVariants as sign
use Rattle.c_grammar.specs.Terminal.{Terminal, Mark}
use Rattle.c_grammar.specs.Texts.{Item}
use Rattle.c_grammar.specs.Blocks.{Items, at}
use Rattle.c_grammar.specs.Changes.{Kind, With, ByNumber, ByOne, Where, Outside, InHead, Grouped, Behind, State, Onward, begin, close_at, closes_head, first_of, in_full, in_state, is_name_closed, kept, one_at}
use Rattle.c_written.specs.declared.operators.Change.{Change}
use Rattle.c_written.specs.declared.operators.Change.TheVariants as change
use Rattle.c_written.specs.declared.changes.Where.{Where as GivenWhere}
use Rattle.c_written.specs.declared.changes.Where.TheVariants as given
use Rattle.c_written.specs.declared.changes.Changes.{Changes}
use Rattle.c_terminals.specs.Seen.{seen_all}

abbrev pub seen_change : Change → Kind
seen_change (change.With s) = With s
seen_change (change.ByNumber s) = ByNumber s
seen_change (change.ByOne s) = ByOne s

abbrev pub seen_where : GivenWhere → Where
seen_where given.Outside = Outside
seen_where (given.InHead n) = InHead n
seen_where (given.Grouped n) = Grouped n
seen_where (given.Behind s) = Behind s

abbrev pub state_of : Changes → State
state_of c = record { place = seen_where c.place; since = reverse (seen_all c.since.items) }

-- what is written in the end, where f gives what comes behind what is written so far
abbrev pub IsGone : Changes → Changes → (Onward → Items) → Type 0
IsGone old new f = (go : Onward) →
    seen_all old.done.items ++ f go ≡ seen_all new.done.items ++ go (state_of new) new.left

pub record IsSameState (old new : Changes) : Type 0 where
  pub place : new.place ≡ old.place
  pub since : new.since.items ≡ old.since.items
  pub left : new.left ≡ old.left

-- what is written in the end where these tokens follow
abbrev pub with_changes : Changes → Items → Items
with_changes c is = seen_all c.done.items ++ in_full (state_of c) c.left is

-- the token, behind which a statement begins there
abbrev pub passed : Item Terminal → Where → Onward → Items
passed i p go = i ∷ go (in_state p []) 0

-- where the closing bracket of a head leads
abbrev pub head_behind : ℕ → Where
head_behind n = if nat_le n 1 then Outside else InHead (n - 1)

-- a step by ++
abbrev pub stepped : Item Terminal → Items → State → Onward → Items
stepped i is s go =
    if closes_head is then at i (Mark sign.PlusEqual) ∷ one_at i ∷ go s 0
    else (if is_name_closed is then first_of is i ∷ at i (Mark sign.PlusEqual) ∷ one_at i ∷ go s 1 else kept i s go)

-- the end of a right side in brackets
abbrev pub group_ended : Item Terminal → Onward → Items
group_ended i go = close_at i ∷ i ∷ go begin 0
