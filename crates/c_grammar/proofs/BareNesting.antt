-- Constructs inside a target are taken together on directive lines alone.
use Rattle.std.proofs.Common.{◌≡◌, ◌∙◌, Bool, true, false, cond, [], ◌∷◌, refl, sym, ap}
use Rattle.std.specs.Prelude.{◌&&◌}
use Rattle.c_tokens.specs.declared.kind.Sign.TheVariants as sign
use Rattle.c_grammar.specs.Terminal.{Terminal, Fixed, Mark, Name, Num, Line, Unknown, Unworked, End, same}
use Rattle.c_grammar.specs.Texts.{Item}
use Rattle.c_grammar.specs.Blocks.{Items, bare, is_directive}
use Rattle.c_grammar.specs.Changes.{is_mark}
use Rattle.c_grammar.specs.Expressions.{placed_of}
use Rattle.c_grammar.specs.Lines.{is_omp}
use Rattle.c_grammar.specs.Presence.{is_target}
use Rattle.c_grammar.specs.Nesting.{has_construct, is_only, joined, joined_line, joined_of, joins, moves, nested, nested_on}
use Rattle.c_grammar.proofs.BarePresence.{omp_stays}

-- what two lines that are joined are
lines_omp : (a b c d : Bool) → (a && b && c && d) ≡ true → (a ≡ true) × (c ≡ true)
lines_omp true true true d e = (refl, refl)
lines_omp true true false d e = absurd cc
lines_omp true false c d e = absurd cc
lines_omp false b c d e = absurd cc

first_is : (t u : Terminal) → joins t u ≡ true → is_directive t ≡ true
first_is (Line ts) (Line us) e = (lines_omp (is_omp ts) (is_target ts) (is_omp us) _ e).0
first_is (Line ts) (Fixed w) e = absurd cc
first_is (Line ts) (Mark s) e = absurd cc
first_is (Line ts) (Name x) e = absurd cc
first_is (Line ts) (Num n) e = absurd cc
first_is (Line ts) Unknown e = absurd cc
first_is (Line ts) Unworked e = absurd cc
first_is (Line ts) End e = absurd cc
first_is (Fixed w) u e = absurd cc
first_is (Mark s) u e = absurd cc
first_is (Name x) u e = absurd cc
first_is (Num n) u e = absurd cc
first_is Unknown u e = absurd cc
first_is Unworked u e = absurd cc
first_is End u e = absurd cc

second_is : (t u : Terminal) → joins t u ≡ true → is_directive u ≡ true
second_is (Line ts) (Line us) e = (lines_omp (is_omp ts) (is_target ts) (is_omp us) _ e).1
second_is (Line ts) (Fixed w) e = absurd cc
second_is (Line ts) (Mark s) e = absurd cc
second_is (Line ts) (Name x) e = absurd cc
second_is (Line ts) (Num n) e = absurd cc
second_is (Line ts) Unknown e = absurd cc
second_is (Line ts) Unworked e = absurd cc
second_is (Line ts) End e = absurd cc
second_is (Fixed w) u e = absurd cc
second_is (Mark s) u e = absurd cc
second_is (Name x) u e = absurd cc
second_is (Num n) u e = absurd cc
second_is Unknown u e = absurd cc
second_is Unworked u e = absurd cc
second_is End u e = absurd cc

joined_of_stays : (i j : Item Terminal) (t u : Terminal) → joins t u ≡ true → is_directive i.terminal ≡ true →
    is_directive (joined_of i j t u).terminal ≡ true
joined_of_stays i j (Line ts) (Line us) e f =
    omp_stays i ts (joined_line ts us (placed_of ts i.columns) (placed_of us j.columns))
    (lines_omp (is_omp ts) (is_target ts) (is_omp us) _ e).0
joined_of_stays i j (Line ts) (Fixed w) e f = f
joined_of_stays i j (Line ts) (Mark s) e f = f
joined_of_stays i j (Line ts) (Name x) e f = f
joined_of_stays i j (Line ts) (Num n) e f = f
joined_of_stays i j (Line ts) Unknown e f = f
joined_of_stays i j (Line ts) Unworked e f = f
joined_of_stays i j (Line ts) End e f = f
joined_of_stays i j (Fixed w) u e f = f
joined_of_stays i j (Mark s) u e f = f
joined_of_stays i j (Name x) u e f = f
joined_of_stays i j (Num n) u e f = f
joined_of_stays i j Unknown u e f = f
joined_of_stays i j Unworked u e f = f
joined_of_stays i j End u e f = f

-- what is joined is a directive
joined_stays : (i j : Item Terminal) → joins i.terminal j.terminal ≡ true → is_directive (joined i j).terminal ≡ true
joined_stays i j e = joined_of_stays i j i.terminal j.terminal e (first_is i.terminal j.terminal e)

block_is : (t : Terminal) (is : Items) → has_construct t is ≡ true → is_directive t ≡ true
block_is t [] e = absurd cc
block_is t (j ∷ js) e = first_is t j.terminal (both (joins t j.terminal) (is_only js) e)
  where
    both : (a b : Bool) → (a && b) ≡ true → a ≡ true
    both true b e = refl
    both false b e = e

-- the token in front of which the line does not stay, and the line
moved_is : (t : Terminal) (o : Item Terminal) (is : Items) → moves t o is ≡ true →
    (is_directive o.terminal ≡ false) × (is_directive t ≡ true)
moved_is t o is e = go (is_mark sign.OpenBrace o) (has_construct t is) refl refl e
  where
    no_line : (u : Terminal) → same (Mark sign.OpenBrace) u ≡ true → is_directive u ≡ false
    no_line (Line ts) e = absurd cc
    no_line (Fixed w) e = refl
    no_line (Mark s) e = refl
    no_line (Name x) e = refl
    no_line (Num n) e = refl
    no_line Unknown e = refl
    no_line Unworked e = refl
    no_line End e = refl

    go : (a b : Bool) → is_mark sign.OpenBrace o ≡ a → has_construct t is ≡ b → (a && b) ≡ true →
        (is_directive o.terminal ≡ false) × (is_directive t ≡ true)
    go true true f g e = (no_line o.terminal f, block_is t is g)
    go true false f g e = absurd cc
    go false b f g e = absurd cc

pub bare_with : (i : Item Terminal) (js ks : Items) → bare js ≡ bare ks → bare (i ∷ js) ≡ bare (i ∷ ks)
bare_with i js ks e = ap (λ (is : Items). cond (is_directive i.terminal) is (i ∷ is)) e

pub bare_line : (i : Item Terminal) (js : Items) → is_directive i.terminal ≡ true → bare (i ∷ js) ≡ bare js
bare_line i js e = rw e refl

bare_on : (js : Items) (i : Item Terminal) → bare (nested_on i js) ≡ bare (i ∷ js)
bare_on [] i = refl
bare_on (j ∷ js) i = go (joins i.terminal j.terminal) (moves i.terminal j js) refl refl (λ i. bare_on js i)
  where
    go : (a b : Bool) → joins i.terminal j.terminal ≡ a → moves i.terminal j js ≡ b →
        ((i : Item Terminal) → bare (nested_on i js) ≡ bare (i ∷ js)) →
        bare (cond a (nested_on (joined i j) js) (cond b (j ∷ nested_on i js) (i ∷ nested_on j js))) ≡ bare (i ∷ j ∷ js)
    go true b e f ih =
        ih (joined i j)
        ∙ bare_line (joined i j) js (joined_stays i j e)
        ∙ sym (bare_line i (j ∷ js) (first_is i.terminal j.terminal e) ∙ bare_line j js (second_is i.terminal j.terminal e))
    go false true e f ih =
        let m = moved_is i.terminal j js f in
        bare_with j (nested_on i js) js (ih i ∙ bare_line i js m.1) ∙ sym (bare_line i (j ∷ js) m.1)
    go false false e f ih = bare_with i (nested_on j js) (j ∷ js) (ih j)

bare_nested : (is : Items) → bare (nested is) ≡ bare is
bare_nested [] = refl
bare_nested (i ∷ is) = bare_on is i

-- where no directives are

joins_not : (t u : Terminal) (a : Bool) → joins t u ≡ a → is_directive t ≡ false → a ≡ false
joins_not t u true e f = sym (first_is t u e) ∙ f
joins_not t u false e f = refl

moves_not : (t : Terminal) (o : Item Terminal) (is : Items) (a : Bool) → moves t o is ≡ a → is_directive t ≡ false → a ≡ false
moves_not t o is true e f = sym (moved_is t o is e).1 ∙ f
moves_not t o is false e f = refl

plain_on : (js : Items) (i : Item Terminal) → is_directive i.terminal ≡ false → nested_on i (bare js) ≡ i ∷ bare js
plain_on [] i e = refl
plain_on (j ∷ js) i e = go (is_directive j.terminal) refl (λ i e. plain_on js i e)
  where
    go : (b : Bool) → is_directive j.terminal ≡ b →
        ((i : Item Terminal) → is_directive i.terminal ≡ false → nested_on i (bare js) ≡ i ∷ bare js) →
        nested_on i (cond b (bare js) (j ∷ bare js)) ≡ i ∷ cond b (bare js) (j ∷ bare js)
    go true f ih = ih i e
    go false f ih =
        rw (joins_not i.terminal j.terminal (joins i.terminal j.terminal) refl e)
        (rw (moves_not i.terminal j (bare js) (moves i.terminal j (bare js)) refl e)
        (ap (λ (is : Items). i ∷ is) (ih j f)))

plain_nested : (is : Items) → nested (bare is) ≡ bare is
plain_nested [] = refl
plain_nested (i ∷ is) = go (is_directive i.terminal) refl (plain_nested is)
  where
    go : (b : Bool) → is_directive i.terminal ≡ b → nested (bare is) ≡ bare is →
        nested (cond b (bare is) (i ∷ bare is)) ≡ cond b (bare is) (i ∷ bare is)
    go true e ih = ih
    go false e ih = plain_on is i e

pub nested_bare : (is : Items) → nested (bare is) ≡ bare (nested is)
nested_bare is = plain_nested is ∙ sym (bare_nested is)
