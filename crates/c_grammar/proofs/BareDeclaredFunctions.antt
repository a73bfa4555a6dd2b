-- Lines that declare functions for devices are directive lines.
use Rattle.std.proofs.Common.{◌≡◌, ◌∙◌, Bool, true, false, cond, [], ◌∷◌, refl, sym, ap}
use Rattle.std.specs.Prelude.{◌&&◌, not}
use Rattle.c_grammar.specs.Terminal.{Terminal, Fixed, Mark, Name, Num, Line, Unknown, Unworked, End}
use Rattle.c_grammar.specs.Blocks.{Items, bare, is_directive}
use Rattle.c_grammar.specs.Lines.{is_omp}
use Rattle.c_grammar.specs.DeclaredFunctions.{begins_lexemes, begins_part, ends_lexemes, ends_part, has_functions, undeclared}
use Rattle.c_grammar.proofs.BareNesting.{bare_line, bare_with}

first_of : (a b : Bool) → (a && b) ≡ true → a ≡ true
first_of true b e = refl
first_of false b e = e

begin_is : (t : Terminal) → begins_part t ≡ true → is_directive t ≡ true
begin_is (Line ts) e = first_of (is_omp ts) (begins_lexemes ts) e
begin_is (Fixed w) e = e
begin_is (Mark s) e = e
begin_is (Name x) e = e
begin_is (Num n) e = e
begin_is Unknown e = e
begin_is Unworked e = e
begin_is End e = e

end_is : (t : Terminal) → ends_part t ≡ true → is_directive t ≡ true
end_is (Line ts) e = first_of (is_omp ts) (ends_lexemes ts) e
end_is (Fixed w) e = e
end_is (Mark s) e = e
end_is (Name x) e = e
end_is (Num n) e = e
end_is Unknown e = e
end_is Unworked e = e
end_is End e = e

-- a line of these ends a part, or begins one
ends_here : (inside : Bool) (t : Terminal) → (inside && ends_part t) ≡ true → is_directive t ≡ true
ends_here true t e = end_is t e
ends_here false t e = absurd cc

begins_here : (inside : Bool) (t : Terminal) (b : Bool) → (not inside && begins_part t && b) ≡ true → is_directive t ≡ true
begins_here true t b e = absurd cc
begins_here false t b e = begin_is t (first_of (begins_part t) b e)

bare_undeclared : (is : Items) (inside : Bool) → bare (undeclared inside is) ≡ bare is
bare_undeclared [] inside = refl
bare_undeclared (i ∷ is) inside =
    go (inside && ends_part i.terminal) (not inside && begins_part i.terminal && has_functions 0 is) refl refl
    (λ inside. bare_undeclared is inside)
  where
    go : (a b : Bool) → (inside && ends_part i.terminal) ≡ a → (not inside && begins_part i.terminal && has_functions 0 is) ≡ b →
        ((inside : Bool) → bare (undeclared inside is) ≡ bare is) →
        bare (cond a (undeclared false is) (cond b (undeclared true is) (i ∷ undeclared inside is))) ≡ bare (i ∷ is)
    go true b e f ih = ih false ∙ sym (bare_line i is (ends_here inside i.terminal e))
    go false true e f ih = ih true ∙ sym (bare_line i is (begins_here inside i.terminal (has_functions 0 is) f))
    go false false e f ih = bare_with i (undeclared inside is) is (ih inside)

-- where no directives are

ends_not : (inside : Bool) (t : Terminal) (a : Bool) → (inside && ends_part t) ≡ a → is_directive t ≡ false → a ≡ false
ends_not inside t true e f = sym (ends_here inside t e) ∙ f
ends_not inside t false e f = refl

begins_not : (inside : Bool) (t : Terminal) (b a : Bool) → (not inside && begins_part t && b) ≡ a → is_directive t ≡ false → a ≡ false
begins_not inside t b true e f = sym (begins_here inside t b e) ∙ f
begins_not inside t b false e f = refl

plain_undeclared : (is : Items) (inside : Bool) → undeclared inside (bare is) ≡ bare is
plain_undeclared [] inside = refl
plain_undeclared (i ∷ is) inside = go (is_directive i.terminal) refl (plain_undeclared is inside)
  where
    go : (b : Bool) → is_directive i.terminal ≡ b → undeclared inside (bare is) ≡ bare is →
        undeclared inside (cond b (bare is) (i ∷ bare is)) ≡ cond b (bare is) (i ∷ bare is)
    go true e ih = ih
    go false e ih =
        rw (ends_not inside i.terminal (inside && ends_part i.terminal) refl e)
        (rw (begins_not inside i.terminal (has_functions 0 (bare is))
        (not inside && begins_part i.terminal && has_functions 0 (bare is)) refl e) (ap (λ (js : Items). i ∷ js) ih))

pub undeclared_bare : (is : Items) (inside : Bool) → undeclared inside (bare is) ≡ bare (undeclared inside is)
undeclared_bare is inside = plain_undeclared is inside ∙ sym (bare_undeclared is inside)
