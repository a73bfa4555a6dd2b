-- What the tests on the tokens of a source say.
use Rattle.std.proofs.Common.{◌≡◌, ℕ, cond, List, true, Option, refl, ap, subst, inl, inr}
use Rattle.std.proofs.lemmas.Slice.Eq.{bytes_eq-Decides}
use Rattle.c_grammar.specs.Terminal.{Terminal, Fixed, Mark, Name, Num, Line, Unknown, Unworked, End, same}
use Rattle.c_grammar.proofs.Lexemes.{same_sign, same_word, chosen, some_is}
use Rattle.c_grammar.proofs.Ways.{some_of}

-- the test finds the same token
pub same-true : (u t : Terminal) → same u t ≡ true → u ≡ t
same-true (Fixed v) (Fixed w) e = ap Fixed (same_word v w e)
same-true (Mark r) (Mark s) e = ap Mark (same_sign r s e)
same-true (Name x) (Name y) e = ap Name ((bytes_eq-Decides x y).0 e)
same-true End End e = refl
same-true (Fixed v) (Mark s) e = absurd cc
same-true (Fixed v) (Name x) e = absurd cc
same-true (Fixed v) (Num n) e = absurd cc
same-true (Fixed v) (Line ts) e = absurd cc
same-true (Fixed v) Unknown e = absurd cc
same-true (Fixed v) Unworked e = absurd cc
same-true (Fixed v) End e = absurd cc
same-true (Mark r) (Fixed w) e = absurd cc
same-true (Mark r) (Name x) e = absurd cc
same-true (Mark r) (Num n) e = absurd cc
same-true (Mark r) (Line ts) e = absurd cc
same-true (Mark r) Unknown e = absurd cc
same-true (Mark r) Unworked e = absurd cc
same-true (Mark r) End e = absurd cc
same-true (Name x) (Fixed w) e = absurd cc
same-true (Name x) (Mark s) e = absurd cc
same-true (Name x) (Num n) e = absurd cc
same-true (Name x) (Line ts) e = absurd cc
same-true (Name x) Unknown e = absurd cc
same-true (Name x) Unworked e = absurd cc
same-true (Name x) End e = absurd cc
same-true (Num n) t e = absurd cc
same-true (Line ts) t e = absurd cc
same-true Unknown t e = absurd cc
same-true Unworked t e = absurd cc
same-true End (Fixed w) e = absurd cc
same-true End (Mark s) e = absurd cc
same-true End (Name x) e = absurd cc
same-true End (Num n) e = absurd cc
same-true End (Line ts) e = absurd cc
same-true End Unknown e = absurd cc
same-true End Unworked e = absurd cc

pub same_name : (x : List ℕ) → same (Name x) (Name x) ≡ true
same_name x = (bytes_eq-Decides x x).1 refl

-- where a test for a token leads to a move with what follows from it, and else another move
pub tested : {Q : Type 0} (u t : Terminal) (to q : Q) (other : Option Q) (B : Terminal → Q → Type 0) → B u to
    → (other ≡ some_of q → B t q) → cond (same u t) (some_of to) other ≡ some_of q → B t q
tested u t to q other B b ih e =
    elim (chosen (same u t) (some_of to) other (some_of q) e) [
      | inl h ↦ some_is to q (λ p. B t p) h.1 (subst (λ (v : Terminal). B v to) (same-true u t h.0) b)
      | inr h ↦ ih h.1
    ]
