-- Targets are taken apart without a look at the lines of the tokens.
use Rattle.std.proofs.Common.{◌≡◌, ℕ, ◌+◌, ◌-◌, Bool, true, false, cond, List, [], ◌∷◌, ◌++◌, Option, Some, None, refl, ap, ◌∙◌}
use Rattle.std.specs.Prelude.{◌&&◌, ◌==◌, nat_le, not, codes}
use Rattle.c_tokens.specs.declared.kind.Sign.TheVariants as sign
use Rattle.c_grammar.specs.Lexeme.{For}
use Rattle.c_grammar.specs.Terminal.{Terminal, Fixed, Mark, Name, Num, Line, Unknown, Unworked, End, same}
use Rattle.c_grammar.specs.Texts.{Item}
use Rattle.c_grammar.specs.Blocks.{Items, is_atomic_line, is_directive}
use Rattle.c_grammar.specs.Changes.{is_mark}
use Rattle.c_grammar.specs.Constants.{with_tokens}
use Rattle.c_grammar.specs.Expressions.{placed_of}
use Rattle.c_grammar.specs.Lines.{is_omp}
use Rattle.c_grammar.specs.Nesting.{joins, moves}
use Rattle.c_grammar.specs.Presence.{goes_on, is_else, opens_part}
use Rattle.c_grammar.specs.Sequences.{At, Between, Head, Inside, Next, On, Opening, Over, Passing, Stuck, begins_block, begins_loop, begins_part, begun, between, construct, data_line, data_tokens, ended, fits, fits_on, goes_to, has_clause, has_teams, head_closed, holds, holds_on, in_head, in_parts, in_parts_from, lead, left, open_behind, opened, parts, parts_line, passed, passing, step}
use Rattle.same_text.specs.Laws.{unlined}
use Rattle.same_text.proofs.Unlined.{AreUnlined, all_unlined, either, one, some}
use Rattle.same_text.proofs.UnlinedNesting.{moves_unlined}
use Rattle.same_text.proofs.UnlinedPresence.{goes_unlined}

-- the same where the answers are
same_of : {A : Type 0} → (b : Bool) (x y x' y' : A) → x' ≡ x → y' ≡ y → cond b x' y' ≡ cond b x y
same_of true x y x' y' e f = e
same_of false x y x' y' e f = f

-- the same where the question is too
asked_of : {A : Type 0} → (b b' : Bool) (x y x' y' : A) → b' ≡ b → x' ≡ x → y' ≡ y → cond b' x' y' ≡ cond b x y
asked_of b b' x y x' y' e f g = ap (λ (c : Bool). cond c x' y') e ∙ same_of b x y x' y' f g

else_unlined : (is : Items) → is_else (all_unlined is) ≡ is_else is
else_unlined [] = refl
else_unlined (i ∷ is) = refl

block_unlined : (is : Items) → begins_block (all_unlined is) ≡ begins_block is
block_unlined [] = refl
block_unlined (i ∷ is) = refl

loop_unlined : (is : Items) → begins_loop (all_unlined is) ≡ begins_loop is
loop_unlined [] = refl
loop_unlined (i ∷ is) = refl

open_unlined : (d : ℕ) (i : Item Terminal) (is : Items) → open_behind d (unlined i) (all_unlined is) ≡ open_behind d i is
open_unlined d i is =
    same_of (opens_part i) _ _ _ _ refl
    (same_of (is_mark sign.CloseBrace i) _ _ _ _
    (asked_of (goes_on d is) _ _ _ _ _ (goes_unlined d is) refl refl)
    (same_of (is_mark sign.CloseParen i) _ _ _ _ refl
    (same_of (is_mark sign.Semicolon i && (d == 0)) _ _ _ _
    (asked_of (is_else is) _ _ _ _ _ (else_unlined is) refl refl) refl)))

holds_same : (o : Option ℕ) (go go' : ℕ → Bool) → ((k : ℕ) → go' k ≡ go k) → holds_on o go' ≡ holds_on o go
holds_same None go go' r = refl
holds_same (Some d) go go' r = r d

holds_unlined : (is : Items) (t : Terminal) (d : ℕ) → holds t d (all_unlined is) ≡ holds t d is
holds_unlined [] t d = refl
holds_unlined (i ∷ is) t d =
    same_of (is_directive i.terminal) _ _ _ _
    (same_of (joins t i.terminal) _ _ _ _ refl (same_of (is_atomic_line i.terminal) _ _ _ _ (holds_unlined is t d) refl))
    (ap (λ (o : Option ℕ). holds_on o (λ d. holds t d (all_unlined is))) (open_unlined d i is)
    ∙ holds_same (open_behind d i is) (λ d. holds t d is) (λ d. holds t d (all_unlined is)) (λ k. holds_unlined is t k))

construct_unlined : (t : Terminal) (n : ℕ) (u : Terminal) (is : Items) → construct t n u (all_unlined is) ≡ construct t n u is
construct_unlined t n u is =
    ap (λ (b : Bool). cond (joins t u && not (has_teams u) && b) (On (Passing n 0)) Stuck) (loop_unlined is)

between_unlined : (t : Terminal) (n : ℕ) (i : Item Terminal) (is : Items) →
    between t n (unlined i) (all_unlined is) ≡ between t n i is
between_unlined t n i is =
    same_of (is_directive i.terminal) _ _ _ _ (construct_unlined t n i.terminal is)
    (same_of (is_mark sign.CloseBrace i) _ _ _ _ refl
    (asked_of (holds t 0 (i ∷ is)) _ (opened n i) (begun n i) _ _ (holds_unlined (i ∷ is) t 0) refl refl))

closed_unlined : (n d : ℕ) (is : Items) → head_closed n d (all_unlined is) ≡ head_closed n d is
closed_unlined n d is =
    ap (λ (b : Bool). cond (nat_le d 1) (cond b (On (Opening n)) Stuck) (On (Head n (d - 1)))) (block_unlined is)

head_unlined : (n d : ℕ) (i : Item Terminal) (is : Items) → in_head n d (unlined i) (all_unlined is) ≡ in_head n d i is
head_unlined n d i is =
    same_of (is_directive i.terminal) _ _ _ _ refl
    (same_of (is_mark sign.OpenParen i) _ _ _ _ refl
    (same_of (is_mark sign.CloseParen i) _ _ _ _ (closed_unlined n d is) refl))

passing_unlined : (n d : ℕ) (i : Item Terminal) (is : Items) → passing n d (unlined i) (all_unlined is) ≡ passing n d i is
passing_unlined n d i is =
    same_of (is_directive i.terminal) _ _ _ _ refl
    (ap (λ (o : Option ℕ). passed n o) (open_unlined d i is))

step_unlined : (t : Terminal) (a : At) (i : Item Terminal) (is : Items) → step t a (unlined i) (all_unlined is) ≡ step t a i is
step_unlined t (Between n) i is = between_unlined t n i is
step_unlined t (Opening n) i is = refl
step_unlined t (Head n d) i is = head_unlined n d i is
step_unlined t (Passing n d) i is = passing_unlined n d i is

on_same : (next : Next) (go go' : At → Bool) → ((a : At) → go' a ≡ go a) → fits_on next go' ≡ fits_on next go
on_same (On a) go go' r = r a
on_same Over go go' r = refl
on_same Stuck go go' r = refl

fits_unlined : (is : Items) (t : Terminal) (a : At) → fits t a (all_unlined is) ≡ fits t a is
fits_unlined [] t a = refl
fits_unlined (i ∷ is) t a =
    ap (λ (next : Next). fits_on next (λ a. fits t a (all_unlined is))) (step_unlined t a i is)
    ∙ on_same (step t a i is) (λ a. fits t a is) (λ a. fits t a (all_unlined is)) (λ a. fits_unlined is t a)

parts_unlined : (t : Terminal) (is : Items) → parts t (all_unlined is) ≡ parts t is
parts_unlined t [] = refl
parts_unlined t (j ∷ js) =
    ap (λ (b : Bool). parts_line t && not (is_directive j.terminal) && not b && holds t 0 (all_unlined (j ∷ js)) &&
    fits t (Between 0) (all_unlined (j ∷ js))) (moves_unlined t j js)
    ∙ ap (λ (b : Bool). parts_line t && not (is_directive j.terminal) && not (moves t j js) && b &&
    fits t (Between 0) (all_unlined (j ∷ js))) (holds_unlined (j ∷ js) t 0)
    ∙ ap (λ (b : Bool). parts_line t && not (is_directive j.terminal) && not (moves t j js) && holds t 0 (j ∷ js) && b)
    (fits_unlined (j ∷ js) t (Between 0))

data_unlined : (i : Item Terminal) (t : Terminal) → AreUnlined (data_line (unlined i) t) (data_line i t)
data_unlined i (Line ts) =
    either (is_omp ts && has_clause (codes "map") 0 ts) _ _ _ _ _ refl
    (one (with_tokens i ts (data_tokens (placed_of ts i.columns))) [] [] refl) refl
data_unlined i (Fixed w) = refl
data_unlined i (Mark s) = refl
data_unlined i (Name x) = refl
data_unlined i (Num n) = refl
data_unlined i Unknown = refl
data_unlined i Unworked = refl
data_unlined i End = refl

abbrev unlined_in : Option Inside → Option Inside
unlined_in None = None
unlined_in (Some w) = Some (record { target = unlined w.target; at = w.at })

lead_unlined : (w : Inside) (next : Next) →
    AreUnlined (lead (record { target = unlined w.target; at = w.at }) next) (lead w next)
lead_unlined w next = either (begins_part w.at next) _ _ _ _ _ refl (one w.target [] [] refl) refl

goes_same : (t : Item Terminal) (next : Next) → goes_to (unlined t) next ≡ unlined_in (goes_to t next)
goes_same t (On a) = refl
goes_same t Over = refl
goes_same t Stuck = refl

from_unlined : (is : Items) (w : Option Inside) → AreUnlined (in_parts_from (unlined_in w) (all_unlined is)) (in_parts_from w is)
from_unlined [] None = refl
from_unlined [] (Some w) = refl
from_unlined (i ∷ is) None =
    either (parts i.terminal is) _ _ _ _ _ (parts_unlined i.terminal is)
    (some (data_line i i.terminal) (data_line (unlined i) i.terminal) _ _ (data_unlined i i.terminal)
    (from_unlined is (Some (record { target = i; at = Between 0 }))))
    (one i (in_parts_from None is) _ (from_unlined is None))
from_unlined (i ∷ is) (Some w) =
    let next : Next = step w.target.terminal w.at i is in
    let u : Inside = record { target = unlined w.target; at = w.at } in
    ap (λ (n : Next). lead u n ++ (unlined i ∷ in_parts_from (goes_to u.target n) (all_unlined is)))
    (step_unlined w.target.terminal w.at i is)
    ∙ some (lead w next) (lead u next) _ _ (lead_unlined w next)
    (one i (in_parts_from (goes_to w.target next) is) _
    (ap (λ (v : Option Inside). in_parts_from v (all_unlined is)) (goes_same w.target next)
    ∙ from_unlined is (goes_to w.target next)))

pub parts_all_unlined : (is : Items) → AreUnlined (in_parts (all_unlined is)) (in_parts is)
parts_all_unlined is = from_unlined is None
