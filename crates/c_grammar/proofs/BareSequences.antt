-- Targets are taken apart on directive lines alone.
use Rattle.std.proofs.Common.{◌≡◌, ◌∙◌, Bool, true, false, cond, [], ◌∷◌, ◌++◌, Option, Some, None, refl, sym, ap}
use Rattle.std.specs.Prelude.{◌&&◌, ◌==◌, not, drop, codes}
use Rattle.c_grammar.specs.Terminal.{Terminal, Fixed, Mark, Name, Num, Line, Unknown, Unworked, End}
use Rattle.c_grammar.specs.Texts.{Item}
use Rattle.c_grammar.specs.Blocks.{Items, bare, is_directive}
use Rattle.c_grammar.specs.Constants.{with_tokens}
use Rattle.c_grammar.specs.Expressions.{placed_of}
use Rattle.c_grammar.specs.Lines.{is_omp}
use Rattle.c_grammar.specs.Nesting.{moves, name_len}
use Rattle.c_grammar.specs.Presence.{is_target}
use Rattle.c_grammar.specs.Sequences.{Between, Inside, Next, On, Over, Stuck, begins_part, data_line, data_tokens, fits, goes_to, has_clause, holds, in_parts, in_parts_from, lead, may_part, parts, parts_line, step}
use Rattle.c_grammar.proofs.BareNesting.{bare_line, bare_with}
use Rattle.c_grammar.proofs.BarePresence.{omp_stays}

first_of : (a b c d : Bool) → (a && b && c && d) ≡ true → a ≡ true
first_of true b c d e = refl
first_of false b c d e = absurd cc

first_of_five : (a b c d e : Bool) → (a && b && c && d && e) ≡ true → a ≡ true
first_of_five true b c d e h = refl
first_of_five false b c d e h = absurd cc

line_is : (t : Terminal) → parts_line t ≡ true → is_directive t ≡ true
line_is (Line ts) e = first_of (is_omp ts) (is_target ts) (name_len (drop 3 ts) == 0) _ e
line_is (Fixed w) e = absurd cc
line_is (Mark s) e = absurd cc
line_is (Name x) e = absurd cc
line_is (Num n) e = absurd cc
line_is Unknown e = absurd cc
line_is Unworked e = absurd cc
line_is End e = absurd cc

-- what is taken apart is a directive
parts_is : (t : Terminal) (is : Items) → parts t is ≡ true → is_directive t ≡ true
parts_is t [] e = absurd cc
parts_is t (j ∷ js) e = line_is t
    (first_of_five (parts_line t) (not (is_directive j.terminal)) (not (moves t j js)) (holds t 0 (j ∷ js))
    (fits t (Between 0) (j ∷ js)) e)

parts_not : (t : Terminal) (is : Items) (b : Bool) → parts t is ≡ b → is_directive t ≡ false → b ≡ false
parts_not t is true e f = sym (parts_is t is e) ∙ f
parts_not t is false e f = refl

abbrev IsLine : Option Inside → Type 0
IsLine None = Unit {0}
IsLine (Some w) = is_directive w.target.terminal ≡ true

data_bare : (i : Item Terminal) (t : Terminal) (is : Items) → bare (data_line i t ++ is) ≡ bare is
data_bare i (Line ts) is = go (is_omp ts) (has_clause (codes "map") 0 ts) refl
  where
    go : (a b : Bool) → is_omp ts ≡ a →
        bare (cond (a && b) (with_tokens i ts (data_tokens (placed_of ts i.columns)) ∷ []) [] ++ is) ≡ bare is
    go true true e = bare_line (with_tokens i ts (data_tokens (placed_of ts i.columns))) is (omp_stays i ts (data_tokens (placed_of ts i.columns)) e)
    go true false e = refl
    go false b e = refl
data_bare i (Fixed w) is = refl
data_bare i (Mark s) is = refl
data_bare i (Name x) is = refl
data_bare i (Num n) is = refl
data_bare i Unknown is = refl
data_bare i Unworked is = refl
data_bare i End is = refl

lead_bare : (w : Inside) (next : Next) (is : Items) → is_directive w.target.terminal ≡ true →
    bare (lead w next ++ is) ≡ bare is
lead_bare w next is e = go (begins_part w.at next)
  where
    go : (b : Bool) → bare (cond b (w.target ∷ []) [] ++ is) ≡ bare is
    go true = bare_line w.target is e
    go false = refl

line_stays : (t : Item Terminal) (next : Next) → is_directive t.terminal ≡ true → IsLine (goes_to t next)
line_stays t (On a) e = e
line_stays t Over e = tt
line_stays t Stuck e = tt

bare_from : (is : Items) (w : Option Inside) → IsLine w → bare (in_parts_from w is) ≡ bare is
bare_from [] None h = refl
bare_from [] (Some w) h = refl
bare_from (i ∷ is) None h = go (parts i.terminal is) refl (λ w h. bare_from is w h)
  where
    go : (b : Bool) → parts i.terminal is ≡ b → ((w : Option Inside) → IsLine w → bare (in_parts_from w is) ≡ bare is) →
        bare (cond b (data_line i i.terminal ++ in_parts_from (Some (record { target = i; at = Between 0 })) is)
        (i ∷ in_parts_from None is)) ≡ bare (i ∷ is)
    go true e ih =
        let l = parts_is i.terminal is e in
        data_bare i i.terminal (in_parts_from (Some (record { target = i; at = Between 0 })) is)
        ∙ ih (Some (record { target = i; at = Between 0 })) l ∙ sym (bare_line i is l)
    go false e ih = bare_with i (in_parts_from None is) is (ih None tt)
bare_from (i ∷ is) (Some w) h =
    let next : Next = step w.target.terminal w.at i is in
    lead_bare w next (i ∷ in_parts_from (goes_to w.target next) is) h
    ∙ bare_with i (in_parts_from (goes_to w.target next) is) is
    (bare_from is (goes_to w.target next) (line_stays w.target next h))

-- where no directives are
plain_from : (is : Items) → in_parts_from None (bare is) ≡ bare is
plain_from [] = refl
plain_from (i ∷ is) = go (is_directive i.terminal) refl (plain_from is)
  where
    go : (b : Bool) → is_directive i.terminal ≡ b → in_parts_from None (bare is) ≡ bare is →
        in_parts_from None (cond b (bare is) (i ∷ bare is)) ≡ cond b (bare is) (i ∷ bare is)
    go true e ih = ih
    go false e ih =
        rw (parts_not i.terminal (bare is) (parts i.terminal (bare is)) refl e) (ap (λ (js : Items). i ∷ js) ih)

pub parts_bare : (is : Items) → in_parts (bare is) ≡ bare (in_parts is)
parts_bare is = plain_from is ∙ sym (bare_from is None tt)
