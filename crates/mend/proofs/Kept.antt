-- Copying the bytes between directive lines.
use Rattle.std.proofs.Common.{◌≡◌, ℕ, ◌+◌, ◌-◌, ◌<◌, ◌≤◌, Bool, true, false, List, [], ◌∷◌, ◌++◌, length, take, drop, sym, ap, subst, ◌∙◌, arith, append_assoc}
use Rattle.std.specs.Prelude.{if◌then◌else◌}
use Rattle.std.proofs.lemmas.List.{length-drop, take_all}
use Rattle.c_tokens.specs.declared.kind.Token.{Token}
use Rattle.c_tokens.specs.Text.{tokens_of}
use Rattle.erasure.specs.Erased.{is_taken}
use Rattle.erasure.proofs.Covered.{AreFrom, from_less}
use Rattle.erasure.proofs.Copies.{copy_starts}
use Rattle.mend.specs.Bare.{gap, outside, without_directives}

-- what is copied, and what is still to be
pub record IsKept (bytes kept : List ℕ) (k : ℕ) (ts : List Token) : Type 0 where
  pub text : kept ++ outside bytes k ts ≡ without_directives bytes
  pub order : AreFrom 0 (length bytes) ts

pub kept_starts : (bytes : List ℕ) (ts : List Token) → ts ≡ tokens_of bytes → IsKept bytes [] 0 ts
unfolding without_directives
kept_starts bytes ts e =
    record { text = ap (λ (us : List Token). outside bytes 0 us) e; order = (copy_starts bytes ts e).order }

pub kept_line : (bytes kept : List ℕ) (k : ℕ) (all : List Token) (t : Token) (ts : List Token) → all ≡ t ∷ ts →
    is_taken bytes t ≡ true → IsKept bytes kept k all → IsKept bytes (kept ++ take ((gap bytes t).0 - k) (drop k bytes)) (gap bytes t).1 ts
kept_line bytes kept k all t ts same line d =
    let c : IsKept bytes kept k (t ∷ ts) = subst (λ (us : List Token). IsKept bytes kept k us) same d in
    let front : List ℕ = take ((gap bytes t).0 - k) (drop k bytes) in
    let rest : List ℕ = outside bytes (gap bytes t).1 ts in
    record {
      text = append_assoc kept front rest
          ∙ (sym (ap (λ (b : Bool). kept ++ (if b then front ++ rest else outside bytes k ts)) line) ∙ c.text);
      order = from_less 0 (t.last + 1) (length bytes) ts (omega arith) c.order.2;
    }

pub kept_other : (bytes kept : List ℕ) (k : ℕ) (all : List Token) (t : Token) (ts : List Token) → all ≡ t ∷ ts →
    is_taken bytes t ≡ false → IsKept bytes kept k all → IsKept bytes kept k ts
kept_other bytes kept k all t ts same h d =
    let c : IsKept bytes kept k (t ∷ ts) = subst (λ (us : List Token). IsKept bytes kept k us) same d in
    let front : List ℕ = take ((gap bytes t).0 - k) (drop k bytes) in
    record {
      text =
          sym (ap (λ (b : Bool). kept ++ (if b then front ++ outside bytes (gap bytes t).1 ts else outside bytes k ts))
          h) ∙ c.text;
      order = from_less 0 (t.last + 1) (length bytes) ts (omega arith) c.order.2;
    }

pub kept_ends : (bytes kept : List ℕ) (k : ℕ) (ts : List Token) → ts ≡ [] → IsKept bytes kept k ts
    → kept ++ take (length bytes - k) (drop k bytes) ≡ without_directives bytes
kept_ends bytes kept k ts e c =
    let rest : take (length bytes - k) (drop k bytes) ≡ drop k bytes =
    take_all (length bytes - k) (drop k bytes) (omega (arith, length-drop k bytes)) in
    ap (λ (xs : List ℕ). kept ++ xs) (rest ∙ ap (λ (us : List Token). outside bytes k us) (sym e)) ∙ c.text

ends : (end k : ℕ) (ts : List Token) → AreFrom k end ts → k ≤ end
ends end k [] a = a
ends end k (t ∷ ts) a = omega (arith, a.0, a.1, ends end (t.last + 1) ts a.2)

pub token_within : (bytes kept : List ℕ) (k : ℕ) (all : List Token) (t : Token) (ts : List Token) → all ≡ t ∷ ts →
    IsKept bytes kept k all → (t.first ≤ t.last) × (t.last < length bytes)
token_within bytes kept k all t ts same d =
    let a : AreFrom 0 (length bytes) (t ∷ ts) = subst (λ (us : List Token). AreFrom 0 (length bytes) us) same d.order in
    (a.1, omega (arith, ends (length bytes) (t.last + 1) ts a.2))
