-- Tokens that are put in.
use Rattle.std.proofs.Common.{◌≡◌, ◌∙◌, ℕ, zero, suc, ◌-◌, ◌<◌, false, List, ◌∷◌, ◌++◌, length, drop, Option, Some, sym, ap, arith}
use Rattle.std.proofs.lemmas.List.{append_assoc, drop-map, length-map}
use Rattle.c_tokens.specs.declared.kind.Sign.TheVariants as sign
use Rattle.c_grammar.specs.Terminal.{Terminal, Mark}
use Rattle.c_grammar.specs.Texts.{Item}
use Rattle.c_grammar.specs.Blocks.{Items, at, bare, braces_at, is_directive}
use Rattle.c_grammar.specs.Loops.{Limit, Plain, State, back_limit, head_at, last_limit, loop_at, looped_in, turn_name}
use Rattle.c_loops.specs.Heads.{first_at, step_at, test_at}
use Rattle.c_terminals.specs.declared.token.Token.{Token}
use Rattle.c_terminals.specs.Seen.{seen, seen_all}

pub from_the_end : (ts : List Token) (o : Option Limit) (n : ℕ) → n ≡ length ts - 4 → o ≡ last_limit (seen_all (drop n ts)) →
    o ≡ back_limit (seen_all ts)
from_the_end ts o n e h =
    h ∙ ap (λ (k : ℕ). last_limit (seen_all (drop k ts))) e
    ∙ ap last_limit (sym (drop-map seen (length ts - 4) ts))
    ∙ ap (λ (k : ℕ). last_limit (drop (k - 4) (seen_all ts))) (sym (length-map ts seen))

pub one_brace : (n : ℕ) (i : Item Terminal) → 0 < n → braces_at n i ≡ at i (Mark sign.CloseBrace) ∷ braces_at (n - 1) i
one_brace zero i h = absurd (omega arith)
one_brace (suc n) i h =
    let e : n ≡ suc n - 1 = omega arith in
    ap (λ (k : ℕ). at i (Mark sign.CloseBrace) ∷ braces_at k i) e

pub head_done : (i : Item Terminal) (x : List ℕ) (n : ℕ) (old a b new : Items) → a ≡ old ++ first_at i x → b ≡ a ++ test_at i x n →
    new ≡ b ++ step_at i x → new ≡ old ++ head_at i x n
head_done i x n old a b new e f g =
    g ∙ ap (λ (is : Items). is ++ step_at i x) (f ∙ ap (λ (is : Items). is ++ test_at i x n) e)
    ∙ append_assoc (old ++ first_at i x) (test_at i x n) (step_at i x)
    ∙ append_assoc old (first_at i x) (test_at i x n ++ step_at i x)

pub loop_begun : (s : State) (k : ℕ) (i : Item Terminal) (is old new : Items) (l : Limit) → is_directive i.terminal ≡ false →
    k ≡ 0 → loop_at s i (bare is) ≡ Some l → new ≡ old ++ head_at i (turn_name s.blocks) l.most →
    old ++ looped_in s k (i ∷ is)
    ≡ new ++ looped_in (record { blocks = s.blocks; next = Plain 1; starts = false }) k is
loop_begun s k i is old new l d z e f =
    let next : State = record { blocks = s.blocks; next = Plain 1; starts = false } in
    let head : Items = head_at i (turn_name s.blocks) l.most in
    rw (d, z, e) (sym (append_assoc old head (looped_in next 0 is)))
    ∙ ap (λ (js : Items). js ++ looped_in next 0 is) (sym f)
    ∙ ap (λ (m : ℕ). new ++ looped_in next m is) (sym z)
